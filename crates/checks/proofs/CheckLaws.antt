-- Laws of a list of checks: what the first one that does not hold says of the others.
use Prim.Native.Nat.{ℕ}
use mathlib.Core.Path.{◌≡◌, refl, ap}
use mathlib.Core.List.{List, [], ◌∷◌, ◌++◌}
use mathlib.Core.Bool.{Bool, true, false, not, false≢true}
use lib.Dec.{leb, ltb}
use borrow.Author.Tests.{leb-true, leb-false, lt-ltb, le-ltb}
use Rattle.at.specs.Refusal.{Refusal}
use Rattle.checks.specs.Check.{Check, ◌needs◌else◌at◌, Finding, all_hold, broken, first_broken, every_holds, TrueReason}
use Rattle.checks.specs.declared.CheckName.{CheckName}

-- one check more in front of a true reason, if it holds
later : (d : CheckName) (m : Refusal) (a : ℕ) (checks : List Check) (c : CheckName) (n : Refusal) (b : ℕ) → TrueReason checks c n b
    → TrueReason ((d needs true else m at a) ∷ checks) c n b
unfolding every_holds
later d m a checks c n b r =
    record {
      earlier = (d needs true else m at a) ∷ r.earlier;
      later = r.later;
      order = ap (λ (l : List Check). (d needs true else m at a) ∷ l) r.order;
      held = r.held;
    }

-- what is named is the true reason
pub true_reason : (checks : List Check) (c : CheckName) (n : Refusal) (b : ℕ) → first_broken checks ≡ broken c n b → TrueReason checks c n b
unfolding first_broken every_holds
true_reason [] c n b e = absurd cc
true_reason ((d needs true else m at a) ∷ checks) c n b e = later d m a checks c n b (true_reason checks c n b e)
true_reason ((d needs false else m at a) ∷ checks) c n b e =
    let x : d ≡ c = cc in
    let y : m ≡ n = cc in
    let z : a ≡ b = cc in
    record { earlier = []; later = checks; order = rw (x, y, z); held = refl }

-- where none is named, every check holds
pub all_hold_lem : (checks : List Check) → first_broken checks ≡ all_hold → every_holds checks ≡ true
unfolding first_broken every_holds
all_hold_lem [] e = refl
all_hold_lem ((d needs true else m at a) ∷ checks) e = all_hold_lem checks e
all_hold_lem ((d needs false else m at a) ∷ checks) e = absurd cc

-- and a true reason is what is named, so that there is one only
pub named-first : (checks : List Check) (c : CheckName) (n : Refusal) (b : ℕ) → TrueReason checks c n b → first_broken checks ≡ broken c n b
unfolding first_broken every_holds
named-first checks c n b r = rw r.order (go r.earlier r.held)
  where
    go : (earlier : List Check) → every_holds earlier ≡ true → first_broken (earlier ++ (c needs false else n at b) ∷ r.later) ≡ broken c n b
    go [] h = refl
    go ((d needs true else m at a) ∷ earlier) h = go earlier h
    go ((d needs false else m at a) ∷ earlier) h = absurd (false≢true h)

pub found_none : first_broken [] ≡ all_hold
unfolding first_broken
found_none = refl

-- one list after another
abbrev pub and_also : Finding → Finding → Finding
and_also all_hold f = f
and_also (broken c n b) f = broken c n b

pub joined : (first then : List Check) → first_broken (first ++ then) ≡ and_also (first_broken first) (first_broken then)
unfolding first_broken
joined [] then = refl
joined ((c needs true else n at b) ∷ first) then = joined first then
joined ((c needs false else n at b) ∷ first) then = refl

-- the two ways to say that a list is too short
pub below : (a b : ℕ) → ltb a b ≡ not (leb b a)
below a b = go (leb b a) refl
  where
    go : (k : Bool) → leb b a ≡ k → ltb a b ≡ not k
    go true e = le-ltb a b (leb-true b a e)
    go false e = lt-ltb a b (leb-false b a e)
