use Rattle.channels.proofs.FieldLaws.{zeros}
use Rattle.channels.proofs.fresh.Goals as goal

-- `fresh` meets its contract. Assumes nothing.
pub returns : goal.returns
returns c = λ i. record { rows = λ d. record { kind = zeros 256 d i; high = zeros 256 d i; low = zeros 256 d i; port = zeros 256 d i }; counts = record { reopened = 0; reclosed = 0; stray = 0; refused = 0 } }
