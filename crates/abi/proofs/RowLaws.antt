-- Laws of a row that an answer is put into: numbers that are stored one after the other, and the promise of a read. Assumes nothing.
use Prim.Native.Nat.{ℕ, zero, suc, ◌+◌, ◌-◌, ◌≤◌, ◌<◌, min}
use mathlib.Core.Path.{◌≡◌, refl, sym, ap, ◌∙◌}
use mathlib.Core.Bool.{Bool, true, false}
use borrow.Rule.Slice.PartMut.{put_mid}
use mathlib.Core.List.{List, [], ◌∷◌, ◌++◌, map, append-nil, append_assoc}
use native.Mathlib.Omega.{arith}
use lib.ListN.{length, take, drop, set, get_or, length-append, length-take, length-map, length-set, get_or-map, take-append-drop}
use Rattle.std.proofs.lemmas.List.{take-map}
use lib.Dec.{leb}
use lib.Seq.{take_all, get_or-take, sets, sets-eq, drop-drop}
use borrow.Author.Tests.{lt-ltb, le-ltb, leb-true, leb-false}
use Rattle.text.specs.Put.{placed}
use Rattle.text.specs.Put.{after}
use Rattle.text.proofs.PutLaws.{room}
use Rattle.text.proofs.PutAppend.{placed-length, after_append}
use Rattle.at.specs.Event.{Row, Value, num, place, Event, event}
use Rattle.at.specs.Parts.{value_of, values_of, Apart}
use Rattle.at.specs.declared.parts.Value.TheVariants.{Number}
use Rattle.at.specs.Response.{Response, ok, other, error}
use Rattle.at.proofs.PartsLaws.{firsts, taken, row_number}
use Rattle.at.specs.declared.parts.Parts.{Parts}
use Rattle.edm.specs.Packet.{packet_of}
use Rattle.edm.specs.declared.EdmPacket.{EdmPacket}
use Rattle.abi.specs.Row.{value_numbers, values_numbers, event_numbers, response_numbers, packet_numbers, first, over, handed, HandsOut}

-- numbers stored one after the other
pub stored_at : (d vs : List ℕ) (at : ℕ) → at + length vs ≤ length d → sets d at vs ≡ placed d at vs
unfolding placed
stored_at d vs at h = sets-eq vs d at h

pub placed-over : (d vs : List ℕ) → placed d 0 vs ≡ over d vs
unfolding placed
placed-over d vs = let z : 0 + length vs ≡ length vs = omega arith in rw z

pub stored : (d vs : List ℕ) → length vs ≤ length d → sets d 0 vs ≡ over d vs
stored d vs h = stored_at d vs 0 (omega arith) ∙ placed-over d vs

-- no number at all
pub put-none : (d : List ℕ) (at : ℕ) → d ≡ placed d at []
unfolding placed
put-none d at = let z : at + 0 ≡ at = omega arith in rw (z, append-nil) (sym (take-append-drop at d))

-- numbers put one after the other are numbers put at once
pub placed_then : (d : List ℕ) (at : ℕ) (xs ys : List ℕ) → at + length xs + length ys ≤ length d → placed (placed d at xs) (at + length xs) ys ≡ placed d at (xs ++ ys)
placed_then d at xs ys h =
    let l = length-append xs ys in
    let p = placed-length d at xs (omega arith) in
    let one = (room d at xs (omega arith)).1 in
    let two = (room (placed d at xs) (at + length xs) ys (omega arith)).1 in
    let both = (room d at (xs ++ ys) (omega arith)).1 in
    sym two ∙ ap (λ (b : List ℕ). after b (at + length xs) ys) (sym one) ∙ after_append d at xs ys h ∙ both

-- a first number, and others after it
pub put-after : (d : List ℕ) (at a : ℕ) (xs : List ℕ) → at + 1 + length xs ≤ length d → placed (set d at a) (at + 1) xs ≡ placed d at (a ∷ xs)
put-after d at a xs h =
    ap (λ (b : List ℕ). placed b (at + 1) xs) (stored_at d (a ∷ []) at (omega arith)) ∙ placed_then d at (a ∷ []) xs (omega arith)

-- more numbers after an answer's first ones
pub over-length : (d xs : List ℕ) → length xs ≤ length d → length (over d xs) ≡ length d
over-length d xs h = ap length (sym (placed-over d xs)) ∙ placed-length d 0 xs (omega arith)

pub over_then : (d xs ys : List ℕ) → length xs + length ys ≤ length d → placed (over d xs) (length xs) ys ≡ over d (xs ++ ys)
over_then d xs ys h =
    let z : 0 + length xs ≡ length xs = omega arith in
    ap (λ (b : List ℕ). placed b (length xs) ys) (sym (placed-over d xs)) ∙ rw z at (placed_then d 0 xs ys (omega arith)) ∙ placed-over d (xs ++ ys)

-- an event: a 0 before its numbers, and the place past it after them
set_first : (d : List ℕ) (a : ℕ) (xs : List ℕ) → 1 ≤ length d → set (placed d 1 xs) 0 a ≡ placed (set d 0 a) 1 xs
unfolding placed
set_first [] a xs h = absurd (omega arith)
set_first (x ∷ d) a xs h = let s : 1 + length xs ≡ suc (length xs) = omega arith in rw s

pub put_between : (d : List ℕ) (a : ℕ) (xs : List ℕ) (k v : ℕ) → k ≡ 1 + length xs → k < length d → set (set (placed d 1 xs) 0 a) k v ≡ over d (a ∷ (xs ++ v ∷ []))
put_between d a xs k v e h =
    let n : length (set d 0 a) ≡ length d = length-set d 0 a in
    let m = placed-length (set d 0 a) 1 xs (omega arith) in
    rw (e, set_first d a xs (omega arith)) (stored_at (placed (set d 0 a) 1 xs) (v ∷ []) (1 + length xs) (omega arith))
    ∙ placed_then (set d 0 a) 1 xs (v ∷ []) (omega arith)
    ∙ put-after d 0 a (xs ++ v ∷ []) (omega (arith, length-append xs (v ∷ [])))
    ∙ placed-over d (a ∷ (xs ++ v ∷ []))

-- The numbers of values

pub value-width : (v : Value) → length (value_numbers v) ≤ 2
value-width (num n) = omega arith
value-width (place p n) = omega arith

pub values-more : (vs : List Value) (i : ℕ) → i < length vs → values_numbers (take (suc i) vs) ≡ values_numbers (take i vs) ++ value_numbers (get_or vs i (num 0))
unfolding values_numbers
values-more [] i h = absurd (omega arith)
values-more (v ∷ vs) zero h = append-nil (value_numbers v)
values-more (v ∷ vs) (suc i) h =
    ap (λ (ns : List ℕ). value_numbers v ++ ns) (values-more vs i (omega arith))
    ∙ sym (append_assoc (value_numbers v) (values_numbers (take i vs)) (value_numbers (get_or vs i (num 0))))

pub response-width : (r : Response) → length (response_numbers r) ≤ 3
response-width (ok p n) = omega arith
response-width (other p n) = omega arith
response-width error = omega arith

-- an event in parts
pub event_numbers_lem : (rows : List Row) → firsts rows 0 rows ≡ true → (e : Event) (p : Parts) → Apart rows e p → event_numbers rows e ≡ p.row ∷ values_numbers (values_of p)
event_numbers_lem rows t (event r vs) p a =
    let q = taken rows (event r vs) p a in
    let same : event q.0 (values_of p) ≡ event r vs = cc in
    let its : q.0 ≡ r = cc in
    let values : values_of p ≡ vs = cc in
    rw (← its, row_number rows t p.row q.0 q.1, ← values)

-- a packet that is known to be another
pub same-packet : (p q : EdmPacket) (d exit : List ℕ) → p ≡ q → exit ≡ over d (0 ∷ packet_numbers (packet_of q)) → exit ≡ over d (0 ∷ packet_numbers (packet_of p))
same-packet p q d exit e f = f ∙ ap (λ (x : EdmPacket). over d (0 ∷ packet_numbers (packet_of x))) (sym e)

few : (n : ℕ) (vs : List Value) → length vs ≤ 7 → length (take n vs) ≤ 7
few n vs h = omega (arith, length-take n vs)

pub at-most-seven : (p : Parts) → length p.values ≡ 7 → length (values_of p) ≤ 7
at-most-seven p h = few p.count (map value_of p.values) (omega (arith, length-map p.values value_of))

-- the value with a number, as it is held; and past the last one
pub values_there : (p : Parts) (i : ℕ) → length p.values ≡ 7 → i < 7 → i < p.count → (i < length (values_of p)) × (value_of (get_or p.values i (Number 0)) ≡ get_or (values_of p) i (num 0))
values_there p i h few more =
    let xs = map value_of p.values in (
      omega (arith, length-take p.count xs, length-map p.values value_of),
      sym (get_or-take p.count xs i (num 0) more ∙ get_or-map value_of p.values i (Number 0)),
    )

pub values_past : (p : Parts) (i : ℕ) → p.count ≤ i → take (i + 1) (values_of p) ≡ take i (values_of p)
values_past p i h =
    let xs = map value_of p.values in
    let l = length-take p.count xs in
    take_all (i + 1) (values_of p) (omega (arith, l)) ∙ sym (take_all i (values_of p) (omega (arith, l)))

-- a part that is copied over is placed
pub put_part : (d held vs : List ℕ) (at n : ℕ) → held ≡ vs → length vs ≡ n → put_mid at (at + n - at) d held ≡ placed d at vs
unfolding placed
put_part d held vs at n e l = let z : at + n - at ≡ length vs = omega arith in rw (e, z, drop-drop (length vs) at d) (sym (append_assoc (take at d) vs (drop (at + length vs) d)))

-- a row that is long enough, and one that is too short
pub handed_long : (row answer : List ℕ) → 17 ≤ length row → handed row answer ≡ over row answer
handed_long row answer h = rw (le-ltb (length row) 17 h)

pub handed-short : (row answer : List ℕ) → length row < 17 → handed row answer ≡ row
handed-short row answer h = rw (lt-ltb (length row) 17 h)

-- What a read promises: of a row that is too short, and of one that is long enough
pub short : (row answer : List ℕ) → length row < 17 → HandsOut row answer 254 row
short row answer h = record { answers = rw (lt-ltb (length row) 17 h); leaves = rw (lt-ltb (length row) 17 h) }

pub long : (row answer exit : List ℕ) (r : ℕ) → 17 ≤ length row → r ≡ first answer → exit ≡ over row answer → HandsOut row answer r exit
long row answer exit r h e f = record { answers = rw (le-ltb (length row) 17 h) e; leaves = rw (le-ltb (length row) 17 h) f }
