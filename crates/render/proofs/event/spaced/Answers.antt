use Prim.Native.Nat.{ℕ}
use mathlib.Core.Bool.{Bool, true, false, cond}
use mathlib.Core.Path.{◌≡◌, refl}
use mathlib.Core.List.{List, ◌++◌}
use lib.Dec.{eqb}
use borrow.Author.Tests.{ne_eqb}
use Rattle.text.specs.Bytes.{bytes}
use Rattle.at.specs.Event.{bits, text, ip_type, protocol, reason, Value}
use Rattle.render.specs.Words.{word_of, spaced_word}
use Rattle.render.specs.Steps.{kind_of}
use Rattle.render.proofs.PrintLaws.{prints-none, prints_then}
use Rattle.render.proofs.event.spaced.Goals as goal

-- `event::spaced` meets its contract: only the letter of the Bluetooth type prints nothing. Assumes nothing.
other : (c : ℕ) (src : List ℕ) (v : Value) → eqb c 116 ≡ false → spaced_word (kind_of c) src v ≡ bytes " " ++ word_of (kind_of c) src v
unfolding kind_of
other c src v t = rw t (go (eqb c 105) (eqb c 112) (eqb c 114) (eqb c 115))
  where
    go : (i p r s : Bool)
        → let k = cond i ip_type (cond p protocol (cond r reason (cond s text (bits 16)))) in spaced_word k src v ≡ bytes " " ++ word_of k src v
    go true p r s = refl
    go false true r s = refl
    go false false true s = refl
    go false false false true = refl
    go false false false false = refl

pub returns-then-kind-eq116 : goal.returns-then-kind-eq116
unfolding kind_of
returns-then-kind-eq116 c = rw c.if-kind-eq116.true (prints-none _ _)

pub returns : goal.returns
returns c =
    rw (other _ _ _ (ne_eqb _ 116 c.if-kind-eq116.false)) (prints_then c.word-at.ensures c.value.ensures)
