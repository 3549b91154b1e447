-- How long the line of a whole walk is: at most 18 fifths of the bytes that its events take up, and 300 fifths for how it ends.
use Prim.Native.Nat.{ℕ, zero, suc, ◌+◌, ◌*◌, ◌-◌, ◌≤◌, ◌<◌}
use mathlib.Core.Path.{◌≡◌, refl, ap, ◌∙◌}
use mathlib.Core.List.{List, ◌++◌}
use mathlib.Core.Bool.{Bool, true, false, cond}
use native.Mathlib.Omega.{arith}
use lib.Dec.{ltb}
use lib.ListN.{length, drop, length-append}
use borrow.Author.Tests.{leb-true}
use Rattle.text.specs.Bytes.{bytes}
use Rattle.at.specs.Refusal.{number_of, OrRefused, good, refused}
use Rattle.at.specs.Event.{Row, name_of, kinds_of, Value, ReadEvent, event_to, event}
use Rattle.at.specs.Line.{read_line}
use Rattle.at.specs.Binary.{Tried, not_binary, tried, try_rows}
use Rattle.at.specs.W36.{binary_table, w36}
use Rattle.at.specs.Walk.{or_text, read_either, Step, one, end, refused_at, step_from, step_at, go_on, walk_from, walk_at, walk}
use Rattle.at.proofs.WalkLaws.{moves, refused_there}
use Rattle.render.specs.Words.{values_line}
use Rattle.render.specs.Refusal.{refused_line}
use Rattle.render.specs.Event.{cases36, case_of, event_line}
use Rattle.render.specs.Walk.{place_line, walk_line}
use Rattle.render.proofs.WordLengths.{refused-room, decimal-within}
use Rattle.render.proofs.RowTests.{cost, paid, passed_36}
use Rattle.render.proofs.EventRoom.{Short, line_short, binary-short}
use Rattle.render.proofs.LineRoom.{spans_36}

-- an event of a walk passes the test of its row, and its values are short
step-short : (s : List ℕ) (p : ℕ) (r : Row) (vs : List Value) (q : ℕ) → step_at s p ≡ one (event r vs) q → (paid cases36 r ≡ true) × Short s p r vs q
unfolding step_at read_either
step-short s p r vs q e = go (ltb p (length s)) (try_rows binary_table p (drop p s)) refl (read_line w36 p (drop p s)) refl e
  where
    go : (k : Bool) (t : Tried) → try_rows binary_table p (drop p s) ≡ t → (a : OrRefused ReadEvent) → read_line w36 p (drop p s) ≡ a → cond k (step_from p (or_text t a)) end ≡ one (event r vs) q
        → (paid cases36 r ≡ true) × Short s p r vs q
    go true (tried (good (event_to x y))) t a b e =
        let f : good (event_to x y) ≡ good (event_to (event r vs) q) = cc in
        let c = binary-short (paid cases36) s r vs binary_table passed_36.1.binaries p (drop p s) q (t ∙ ap tried f) in
        (c.0, c.1)
    go true not_binary t (good (event_to x y)) a e =
        let f : good (event_to x y) ≡ good (event_to (event r vs) q) = cc in
        let c = line_short (paid cases36) s r vs w36 passed_36.1.texts spans_36 p (drop p s) q (a ∙ f) in
        (c.0, c.1)
    go true (tried (refused n)) t a b e = let z : ◌≡◌ {A = ℕ} 0 1 = cc in absurd (omega arith)
    go true not_binary t (refused n) a e = let z : ◌≡◌ {A = ℕ} 0 1 = cc in absurd (omega arith)
    go false t f a b e = let z : ◌≡◌ {A = ℕ} 0 1 = cc in absurd (omega arith)

-- so its bytes pay for its line and 11 bytes more: its place, and the semicolon after it
step_paid : (s : List ℕ) (p : ℕ) (r : Row) (vs : List Value) (q : ℕ) → step_at s p ≡ one (event r vs) q → 5 * (length (event_line cases36 s (event r vs)) + 11) + 18 * p ≤ 18 * q
step_paid s p r vs q e =
    let x = step-short s p r vs q e in
    let c = leb-true (5 * (cost cases36 r + 11)) (18 * (4 + length (name_of r))) x.0 in
    omega (arith, c, x.1.named, x.1.short, length-append (bytes (case_of cases36 r)) (values_line (kinds_of r) s vs))

place-room : (p : ℕ) → p < 1000000 → length (place_line p) ≤ 8
place-room p h = omega (arith, decimal-within 5 p h)

-- the walk from a place on
from-room : (n : ℕ) (s : List ℕ) (p : ℕ) → length s < 1000000 → p ≤ length s → 5 * length (walk_line s (walk_from n s p)) + 18 * p ≤ 18 * length s + 300
unfolding walk_from walk_line
from-room zero s p l h = omega arith
from-room (suc n) s p l h = go (step_at s p) refl (from-room n s)
  where
    go : (x : Step) → step_at s p ≡ x → ((q : ℕ) → length s < 1000000 → q ≤ length s → 5 * length (walk_line s (walk_from n s q)) + 18 * q ≤ 18 * length s + 300)
        → 5 * length (walk_line s (go_on x (λ q. walk_from n s q))) + 18 * p ≤ 18 * length s + 300
    go (one (event r vs) q) x ih =
        let m = moves s p (event r vs) q x in
        let w = walk_line s (walk_from n s q) in
        let t = event_line cases36 s (event r vs) ++ place_line q in
        let a = length-append (t ++ bytes " ; ") w in
        let b = length-append t (bytes " ; ") in
        let c = length-append (event_line cases36 s (event r vs)) (place_line q) in
        omega (arith, a, b, c, step_paid s p r vs q x, place-room q (omega (arith, m.1)), ih q l m.1)
    go end x ih = omega arith
    go (refused_at k q) x ih =
        let z = refused_there s p k q x in
        omega (arith, length-append (refused_line (number_of k)) (place_line q), refused-room (number_of k), place-room q (omega (arith, z)))

pub walk-room : (s : List ℕ) → length s < 1000000 → 5 * length (walk_line s (walk s)) ≤ 18 * length s + 300
unfolding walk_at
walk-room s l = omega (arith, from-room (length s - 0) s 0 l (omega arith))
