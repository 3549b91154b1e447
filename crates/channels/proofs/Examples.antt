-- Runs of frames from a fresh table, worked out by hand: what the definitions say, and what the calls answer by their own contracts. Assumes nothing.
use Prim.Native.Nat.{ℕ}
use mathlib.Core.Path.{◌≡◌, refl, ap, ◌∙◌}
use mathlib.Core.List.{List, [], ◌∷◌}
use seplogic.Ra.Ura.{Ura}
use base.Logic.{SProp, ent}
use prog.Memory.{Memory}
use prog.Routine.{Routine}
use types.Logic.{Logic}
use contract.Conj.{conj}
use contract.Lifetimes.{Lfts}
use contract.Monad.{Fun, fact}
use denote.Triple.Clauses.{AtExit}
use borrow.Fn.Kinds.{Dens, ended_of}
use Rattle.text.specs.Bytes.{hex, part}
use Rattle.edm.specs.Packet.{identifiers, carried}
use Rattle.edm.specs.Payload.{read_connect, read_disconnect, read_data_event}
use Rattle.edm.specs.Frame.{read_frame}
use Rattle.channels.specs.declared.Channels.{Channels}
use Rattle.channels.specs.declared.cell.Row.{Row}
use Rattle.channels.specs.declared.cell.Counts.{Counts}
use Rattle.channels.specs.Machine.{closed, ipv4, up, fresh, step, run}
use Rattle.channels.specs.View.{counts_of}
use Rattle.channels.proofs.Facts.{entails}
use Rattle.channels.proofs.Programs.{Run, frames_of, Asking, Counting, all_fed, asked, counted, row-after-run, counts-after-run}
use Rattle.channels.proofs.fresh as made

-- channel 3 connects to 192.168.0.7, port 5000; to 10.0.0.9, port 80; and is disconnected. The local end is 10.0.0.5, port 8080
abbrev connect : List ℕ
connect = hex "AA 00 11 00 11 03 02 06 C0 A8 00 07 13 88 0A 00 00 05 1F 90 55"

abbrev again : List ℕ
again = hex "AA 00 11 00 11 03 02 06 0A 00 00 09 00 50 0A 00 00 05 1F 90 55"

abbrev disconnect : List ℕ
disconnect = hex "AA 00 03 00 21 03 55"

-- data on channel 3, by its two identifiers; a start event; a connect event without its last byte; channel 4 connects
abbrev event : List ℕ
event = hex "AA 00 04 00 31 03 41 55"

abbrev command : List ℕ
command = hex "AA 00 04 00 36 03 41 55"

abbrev start : List ℕ
start = hex "AA 00 02 00 71 55"

abbrev short : List ℕ
short = hex "AA 00 10 00 11 03 02 06 0A 00 00 09 00 50 0A 00 00 05 1F 55"

abbrev neighbour : List ℕ
neighbour = hex "AA 00 11 00 11 04 02 06 C0 A8 00 08 13 88 0A 00 00 05 1F 90 55"

abbrev first : Row
first = ipv4 (hex "C0 A8 00 07") 5000

abbrev second : Row
second = ipv4 (hex "0A 00 00 09") 80

-- frames, and then the row of channel 3 and the counts: reopened, closed again, stray, refused
pub data Example : Type 0 where
  ◌leave◌with◌ : List (List ℕ) → Row → Counts → Example

infix 20 ◌leave◌with◌
abbrev pub All : List Example → Type 0
All [] = Unit {0}
All ((frames leave row with counts) ∷ es) = ((run fresh frames).rows 3 ≡ row) × ((run fresh frames).counts ≡ counts) × All es

abbrev pub examples : List Example
examples =
    ([] leave closed with counts_of 0 0 0 0)
    ∷ (connect ∷ [] leave first with counts_of 0 0 0 0)
    ∷ (connect ∷ again ∷ [] leave second with counts_of 1 0 0 0)
    ∷ (connect ∷ disconnect ∷ [] leave closed with counts_of 0 0 0 0)
    ∷ (connect ∷ disconnect ∷ disconnect ∷ [] leave closed with counts_of 0 1 0 0)
    ∷ (connect ∷ disconnect ∷ again ∷ [] leave second with counts_of 0 0 0 0)
    ∷ (event ∷ command ∷ [] leave closed with counts_of 0 0 2 0)
    ∷ (connect ∷ event ∷ command ∷ start ∷ [] leave first with counts_of 0 0 0 0)
    ∷ (connect ∷ short ∷ hex "AA 55" ∷ [] ∷ [] leave first with counts_of 0 0 0 3)
    ∷ (connect ∷ neighbour ∷ [] leave first with counts_of 0 0 0 0)
    ∷ []

pub all : All examples
unfolding run step read_frame identifiers carried read_connect read_disconnect read_data_event part
all = (refl, refl, (refl, refl, (refl, refl, (refl, refl, (refl, refl, (refl, refl, (refl, refl, (refl, refl, (refl, refl, (refl, refl, tt))))))))))

-- a count goes up to 4,294,967,295, and stays there
pub saturates : (up 4294967294 ≡ 4294967295) × (up 4294967295 ≡ 4294967295)
saturates = (refl, refl)

-- By the contracts of `fresh`, `feed`, `row` and `counts`. A `row` that answers the local end, the first address or another channel's row, and a `counts` that
-- answers another count do not meet them
module _ {M : Type 1} {𝓤 : Ura M} (𝓛 : Logic 𝓤) (mem : Memory → SProp 𝓤) (call : Routine → Fun 𝓤)
    (κs : Lfts 0) (a : Dens κs made.Kinds.ps) {t w : Channels} (s : AtExit (ended_of 0 made.Kinds.ps made.Kinds.r) κs) (p : made.Reads.Post κs a t s) (r : Run t w) (e : frames_of r ≡ connect ∷ again ∷ neighbour ∷ []) where
  pub row-answers : (c : Asking) → c.args.0.now ≡ w → c.args.1.0.0 ≡ 3 → ent 𝓤 (conj 𝓤 (all_fed 𝓛 mem call r) (asked 𝓛 mem call c)) (fact 𝓤 (c.answer ≡ second))
  unfolding run step read_frame identifiers carried read_connect part
  row-answers c h k = entails 𝓤 (row-after-run 𝓛 mem call κs a s p r c h) (λ x. x ∙ (λ i. (run fresh (e i)).rows (k i)))

  pub counts-answers : (c : Counting) → c.args.0.now ≡ w → ent 𝓤 (conj 𝓤 (all_fed 𝓛 mem call r) (counted 𝓛 mem call c)) (fact 𝓤 (c.answer ≡ counts_of 1 0 0 0))
  unfolding run step read_frame identifiers carried read_connect part
  counts-answers c h = entails 𝓤 (counts-after-run 𝓛 mem call κs a s p r c h) (λ x. x ∙ ap (λ (frames : List (List ℕ)). (run fresh frames).counts) e)
