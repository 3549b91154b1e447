-- Lines of wrong programs, which the promise of `judge` shuts out: `judge.Reads.Post` is what `judge` ensures. Assumes nothing.
use Prim.Native.Nat.{ℕ}
use mathlib.Core.Path.{◌≡◌, refl, sym, ap, ◌∙◌}
use mathlib.Core.List.{List}
use native.Mathlib.Omega.{arith}
use contract.Lifetimes.{Lfts}
use denote.Triple.Clauses.{AtExit}
use borrow.Fn.Kinds.{Dens, ended_of}
use lib.ListN.{take, get_or}
use Rattle.text.specs.Bytes.{bytes, hex, part}
use Rattle.text.specs.Decimal.{digits_of, decimal}
use Rattle.text.specs.Utf8.{table, seq_len, passed, valid_up_to, utf8}
use Rattle.edm.specs.Packet.{identifiers, carried}
use Rattle.edm.specs.Payload.{read_data_event, read_request}
use Rattle.edm.specs.Frame.{read_frame}
use Rattle.render.specs.Words.{pairs_of, number_word, values_line}
use Rattle.judge.specs.Judgement.{judgement}
use Rattle.judge.proofs.judge as judge

-- for the input s the promise allows no line but `right`, wherever the input is lent
pub only : (s right : List ℕ) → judgement s ≡ right
    → (κs : Lfts 2) (a : Dens κs judge.Kinds.ps) (e : AtExit (ended_of 2 judge.Kinds.ps judge.Kinds.r) κs) (r : ℕ)
    → a.1.0.now ≡ s → judge.Reads.Post κs a r e → take r e.0.now ≡ right
only s right f κs a e r l p = (rw l at p) ∙ f

-- for the input s it shuts out the line `wrong`
abbrev pub Never : List ℕ → List ℕ → Type 0
Never s wrong =
    (κs : Lfts 2) (a : Dens κs judge.Kinds.ps) (e : AtExit (ended_of 2 judge.Kinds.ps judge.Kinds.r) κs) (r : ℕ)
    → a.1.0.now ≡ s → judge.Reads.Post κs a r e → take r e.0.now ≡ wrong → ⊥

-- the two lines differ at the place i
never : (s right wrong : List ℕ) (i : ℕ) → judgement s ≡ right → (get_or right i 0 ≡ get_or wrong i 0 → ⊥) → Never s wrong
never s right wrong i f n κs a e r l p q =
    let same = sym (only s right f κs a e r l p) ∙ q in
    n (ap (λ (line : List ℕ). get_or line i 0) same)

-- document 01's sixth example
pub data-event : judgement (hex "AA 00 04 00 36 03 41 55") ≡ bytes "DataEvent 3 41\n"
unfolding judgement read_frame identifiers carried read_data_event values_line number_word decimal digits_of pairs_of part
data-event = refl

-- an empty text
pub empty_request : judgement (hex "AA 00 02 00 44 55") ≡ bytes "ATRequest -\n"
unfolding judgement read_frame identifiers carried read_request table seq_len passed valid_up_to utf8 values_line part
empty_request = refl

-- a program that leaves a field out
pub all_fields : Never (hex "AA 00 04 00 36 03 41 55") (bytes "DataEvent 3\n")
all_fields = never _ (bytes "DataEvent 3 41\n") _ 11 data-event (λ q. omega arith)

-- one that exchanges two
pub fields_in_order : Never (hex "AA 00 04 00 36 03 41 55") (bytes "DataEvent 41 3\n")
fields_in_order = never _ (bytes "DataEvent 3 41\n") _ 10 data-event (λ q. omega arith)

-- one that prints nothing for an empty text
pub empty_shown : Never (hex "AA 00 02 00 44 55") (bytes "ATRequest\n")
empty_shown = never _ (bytes "ATRequest -\n") _ 9 empty_request (λ q. omega arith)
