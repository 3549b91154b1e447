use Prim.Native.Nat.{ℕ}
use mathlib.Core.Bool.{Bool, true, false, cond}
use mathlib.Core.Path.{◌≡◌, refl}
use lib.Dec.{eqb}
use borrow.Author.Tests.{ne_eqb}
use Rattle.text.specs.Decimal.{decimal}
use Rattle.at.specs.Event.{bits, text, bt_type}
use Rattle.render.specs.Words.{number_word}
use Rattle.render.specs.Steps.{kind_of}
use Rattle.render.proofs.event.number_of.Goals as goal

-- `event::number_of` meets its contract: a letter that has no list is that of a plain number. Assumes nothing.
-- a letter that has no list
plain : (c n : ℕ) → eqb c 105 ≡ false → eqb c 112 ≡ false → eqb c 114 ≡ false → number_word (kind_of c) n ≡ decimal n
unfolding kind_of number_word
plain c n i p r = rw (i, p, r) (go (eqb c 116) (eqb c 115))
  where
    go : (t s : Bool) → number_word (cond t bt_type (cond s text (bits 16))) n ≡ decimal n
    go true s = refl
    go false true = refl
    go false false = refl

pub returns-in-105 : goal.returns-in-105
unfolding kind_of number_word
returns-in-105 c = rw (c.in-105.is, ← c.is_ipv6.ensures) c.word.ensures

pub returns-in-112 : goal.returns-in-112
unfolding kind_of number_word
returns-in-112 c = rw (c.in-112.is, ← c.protocol.ensures) c.word-in-112.ensures

pub returns-in-114 : goal.returns-in-114
unfolding kind_of number_word
returns-in-114 c = rw (c.in-114.is, ← c.reason.ensures) c.word-in-114.ensures

pub returns-in_default : goal.returns-in_default
returns-in_default c =
    let m = c.in_default.in_default-own.rest in
    rw (plain _ _ (ne_eqb _ 105 m.0.0.1) (ne_eqb _ 112 m.0.1) (ne_eqb _ 114 m.1)) c.number.ensures
