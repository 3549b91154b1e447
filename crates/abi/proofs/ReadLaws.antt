-- What a read that hands out comes to, from the answer of the reader that it calls. Assumes nothing.
use Prim.Native.Nat.{ℕ, ◌/◌, ◌%◌, ◌≤◌, ◌<◌}
use mathlib.Core.Path.{◌≡◌, refl, sym, ap, ◌∙◌}
use mathlib.Core.List.{List, [], ◌∷◌, ◌++◌}
use mathlib.Core.Bool.{Bool, true, false, cond}
use native.Mathlib.Omega.{arith}
use borrow.Author.Tests.{lt-ltb, le-ltb}
use lib.Dec.{ltb}
use lib.ListN.{length, drop, set}
use Rattle.at.specs.Refusal.{Refusal, number_of, OrRefused, good, refused}
use Rattle.at.specs.Event.{Row, Event, ReadEvent, event_to}
use Rattle.at.specs.Line.{read_line}
use Rattle.at.specs.Binary.{Tried, not_binary, tried, try_rows}
use Rattle.at.specs.W36.{w36, binary_table, rows36}
use Rattle.at.specs.Walk.{Step, one, end, refused_at, step_from, or_text, read_either, step_at}
use Rattle.at.specs.Why.{UpToSeven, FieldUpToSeven, TriedUpToSeven}
use Rattle.at.proofs.TableTests.{roomy-w36, roomy-binary}
use Rattle.at.proofs.WhyLaws.{line_seven, binary-seven}
use Rattle.abi.specs.Code.{read_code, binary_code, field_no, reason_no, why_no, why_code, why_binary_code}
use Rattle.abi.specs.Row.{event_numbers, read_numbers, refusal_numbers, encode, encode_tried, encode_step, first, over, handed, HandsOut}
use Rattle.abi.specs.Steps.{Puts}
use Rattle.abi.proofs.Numbers.{Known, Ok, Tried_ok, line_ok, binary_ok}
use Rattle.abi.proofs.CodeLaws.{refusal_unpacks, refusal_lowest, read_lowest, binary_lowest}
use Rattle.abi.proofs.RowLaws.{long, handed_long, put_between}

-- an event, with the place just past it
pub event-handed : (rows : List Row) (e : Event) (to past : ℕ) (row between exit : List ℕ) → 17 ≤ length row → Puts row 1 (event_numbers rows e) to between
    → exit ≡ set (set between 0 0) to past → exit ≡ handed row (0 ∷ read_numbers rows (event_to e past))
event-handed rows e to past row between exit h put q =
    let ns = event_numbers rows e in
    q
    ∙ ap (λ (b : List ℕ). set (set b 0 0) to past) put.leaves
    ∙ put_between row 0 ns to past put.ends (omega (arith, put.most))
    ∙ sym (handed_long row (0 ∷ read_numbers rows (event_to e past)) h)

-- a refusal, by the number that says why
pub refusal_numbers_lem : (n : Refusal) (why : ℕ) → Known (number_of n) → UpToSeven n → why ≡ why_no n → why % 256 ∷ why / 256 % 256 ∷ why / 65536 ∷ [] ≡ refusal_numbers n
refusal_numbers_lem n why k u e = let w = rw (sym e) at (refusal_unpacks n k u) in rw (w.lowest, w.above, w.highest)

pub refusal-handed : (n : Refusal) (why r : ℕ) (row exit : List ℕ) → Known (number_of n) → UpToSeven n → why ≡ why_no n → 17 ≤ length row
    → (r ≡ why % 256) × (exit ≡ over row (why % 256 ∷ why / 256 % 256 ∷ why / 65536 ∷ [])) → HandsOut row (refusal_numbers n) r exit
refusal-handed n why r row exit k u e h q =
    let w = rw (sym e) at (refusal_unpacks n k u) in
    long row (refusal_numbers n) exit r h (q.0 ∙ w.lowest) (q.1 ∙ ap (over row) (refusal_numbers_lem n why k u e))

pub answer-refused : {A : Type 0} (numbers : A → List ℕ) (o : OrRefused A) (n : Refusal) (why r : ℕ) (row exit : List ℕ) → o ≡ refused n → Ok o → FieldUpToSeven o → why ≡ why_no n
    → 17 ≤ length row → (r ≡ why % 256) × (exit ≡ over row (why % 256 ∷ why / 256 % 256 ∷ why / 65536 ∷ [])) → HandsOut row (encode numbers o) r exit
answer-refused numbers (good a) n why r row exit f k u e h q = let z : ◌≡◌ {A = ℕ} 0 1 = cc in absurd (omega arith)
answer-refused numbers (refused m) n why r row exit f k u e h q = let same : m ≡ n = cc in refusal-handed m why r row exit k u (e ∙ rw same) h q

-- the refusal of a step of the walk has a number from 1 to 16, and a field from 1 to 7
abbrev pub StepKnown : Step → Type 0
StepKnown (one e past) = Unit {0}
StepKnown end = Unit {0}
StepKnown (refused_at n p) = Known (number_of n) × UpToSeven n

pub step_known : (s : List ℕ) (p : ℕ) → StepKnown (step_at s p)
unfolding step_at read_either
step_known s p = go (ltb p (length s))
  where
    from : (a : OrRefused ReadEvent) → Ok a → FieldUpToSeven a → StepKnown (step_from p a)
    from (good (event_to e q)) k u = tt
    from (refused n) k u = (k, u)

    either_known : (t : Tried) → Tried_ok t → TriedUpToSeven t → StepKnown (step_from p (or_text t (read_line w36 p (drop p s))))
    either_known (tried a) k u = from a k u
    either_known not_binary k u = from (read_line w36 p (drop p s)) (line_ok w36 p (drop p s)) (line_seven w36 p (drop p s) roomy-w36.0)

    go : (b : Bool) → StepKnown (cond b (step_from p (or_text (try_rows binary_table p (drop p s)) (read_line w36 p (drop p s)))) end)
    go true = either_known (try_rows binary_table p (drop p s)) (binary_ok binary_table p (drop p s)) (binary-seven binary_table p (drop p s) roomy-binary)
    go false = tt

-- A row that may be too short: the answer is what the reader gives
pub answered : {A : Type 0} (numbers : A → List ℕ) (o q : OrRefused A) (r : ℕ) (row exit : List ℕ) → o ≡ q
    → (r ≡ why_code q) × (exit ≡ handed row (encode numbers q)) → (r ≡ why_code o) × (exit ≡ handed row (encode numbers o))
answered numbers o q r row exit e p = (p.0 ∙ ap why_code (sym e), p.1 ∙ ap (λ x. handed row (encode numbers x)) (sym e))

pub handed-by-number : {A : Type 0} (numbers : A → List ℕ) (o : OrRefused A) (why r : ℕ) (row exit : List ℕ) → 17 ≤ length row → Ok o
    → (why ≡ why_code o) × (exit ≡ handed row (encode numbers o)) → r ≡ why % 256 → HandsOut row (encode numbers o) r exit
handed-by-number numbers o why r row exit h k p e =
    long row (encode numbers o) exit r h (e ∙ ap (λ n. n % 256) p.0 ∙ read_lowest o k ∙ first-number o) (p.1 ∙ handed_long row (encode numbers o) h)
  where
    first-number : (x : OrRefused _) → read_code x ≡ first (encode numbers x)
    first-number (good a) = refl
    first-number (refused n) = refl

-- the same of a binary event
pub tried_answered : (t q : Tried) (r : ℕ) (row exit : List ℕ) → t ≡ q → (r ≡ why_binary_code q) × (exit ≡ handed row (encode_tried q)) → (r ≡ why_binary_code t) × (exit ≡ handed row (encode_tried t))
tried_answered t q r row exit e p = (p.0 ∙ ap why_binary_code (sym e), p.1 ∙ ap (λ x. handed row (encode_tried x)) (sym e))

pub tried-by-number : (t : Tried) (why r : ℕ) (row exit : List ℕ) → 17 ≤ length row → Tried_ok t → (why ≡ why_binary_code t) × (exit ≡ handed row (encode_tried t)) → r ≡ why % 256
    → HandsOut row (encode_tried t) r exit
tried-by-number t why r row exit h k p e =
    long row (encode_tried t) exit r h (e ∙ ap (λ n. n % 256) p.0 ∙ binary_lowest t k ∙ first-number t) (p.1 ∙ handed_long row (encode_tried t) h)
  where
    first-number : (x : Tried) → binary_code x ≡ first (encode_tried x)
    first-number not_binary = refl
    first-number (tried (good a)) = refl
    first-number (tried (refused n)) = refl

-- An event that is binary or else text

-- what is handed out second stands over what was handed out first
handed_twice : (row : List ℕ) (a x : ℕ) (xs : List ℕ) → handed (handed row (a ∷ [])) (x ∷ xs) ≡ handed row (x ∷ xs)
handed_twice [] a x xs = refl
handed_twice (y ∷ row) a x xs = go (ltb (length (y ∷ row)) 17) refl
  where
    go : (k : Bool) → ltb (length (y ∷ row)) 17 ≡ k
        → handed (cond k (y ∷ row) (over (y ∷ row) (a ∷ []))) (x ∷ xs) ≡ cond k (y ∷ row) (over (y ∷ row) (x ∷ xs))
    go true e = rw e
    go false e = rw e

no_255 : (a : OrRefused ReadEvent) → Ok a → why_code a ≡ 255 → ⊥
no_255 (good e) k h = absurd (omega (arith, h))
no_255 (refused n) k h = absurd (omega (arith, ap (λ m. m % 256) h, refusal_lowest n k, k.most))

module _ (t : Tried) (o : OrRefused ReadEvent) (k : Tried_ok t) (why : ℕ) (row between : List ℕ) (said : (why ≡ why_binary_code t) × (between ≡ handed row (encode_tried t))) where
  pub either_binary : (why ≡ 255 → ⊥) → (why ≡ why_code (or_text t o)) × (between ≡ handed row (encode (read_numbers rows36) (or_text t o)))
  either_binary h = go t said
    where
      go : (x : Tried) → (why ≡ why_binary_code x) × (between ≡ handed row (encode_tried x)) → (why ≡ why_code (or_text x o)) × (between ≡ handed row (encode (read_numbers rows36) (or_text x o)))
      go (tried a) p = p
      go not_binary p = absurd (h p.0)

  pub either_text : (r : ℕ) (exit : List ℕ) → why ≡ 255 → (r ≡ why_code o) × (exit ≡ handed between (encode (read_numbers rows36) o))
      → (r ≡ why_code (or_text t o)) × (exit ≡ handed row (encode (read_numbers rows36) (or_text t o)))
  either_text r exit h q = go t k said
    where
      over_first : (x : OrRefused ReadEvent) → handed (handed row (255 ∷ [])) (encode (read_numbers rows36) x) ≡ handed row (encode (read_numbers rows36) x)
      over_first (good e) = handed_twice row 255 0 (read_numbers rows36 e)
      over_first (refused n) = handed_twice row 255 (number_of n) (field_no n ∷ reason_no n ∷ [])

      go : (x : Tried) → Tried_ok x → (why ≡ why_binary_code x) × (between ≡ handed row (encode_tried x)) → (r ≡ why_code (or_text x o)) × (exit ≡ handed row (encode (read_numbers rows36) (or_text x o)))
      go (tried a) j p = absurd (no_255 a j (sym p.0 ∙ h))
      go not_binary j p = (q.0, q.1 ∙ ap (λ (b : List ℕ). handed b (encode (read_numbers rows36) o)) p.1 ∙ over_first o)

pub either_ok : (p : ℕ) (t : List ℕ) → Ok (read_either p t)
unfolding read_either
either_ok p t = go (try_rows binary_table p t) (binary_ok binary_table p t)
  where
    go : (x : Tried) → Tried_ok x → Ok (or_text x (read_line w36 p t))
    go (tried a) k = k
    go not_binary k = line_ok w36 p t

-- A step of the walk: the end, an event, a refusal with its place

pub step_end : (s : List ℕ) (p : ℕ) → length s ≤ p → step_at s p ≡ end
unfolding step_at
step_end s p h = rw (le-ltb p (length s) h)

pub step_on : (s : List ℕ) (p : ℕ) → p < length s → step_at s p ≡ step_from p (read_either p (drop p s))
unfolding step_at
step_on s p h = rw (lt-ltb p (length s) h)

module _ (o : OrRefused ReadEvent) (p why : ℕ) (row between : List ℕ) (h : 17 ≤ length row) (k : Ok o) (said : (why ≡ why_code o) × (between ≡ handed row (encode (read_numbers rows36) o))) where
  pub step-event : why ≡ 0 → HandsOut row (encode_step (step_from p o)) 0 between
  step-event z = go o k said
    where
      go : (x : OrRefused ReadEvent) → Ok x → (why ≡ why_code x) × (between ≡ handed row (encode (read_numbers rows36) x)) → HandsOut row (encode_step (step_from p x)) 0 between
      go (good (event_to e q)) j w = long row (0 ∷ read_numbers rows36 (event_to e q)) between 0 h refl (w.1 ∙ handed_long row (0 ∷ read_numbers rows36 (event_to e q)) h)
      go (refused n) j w = absurd (omega (arith, j.least, w.0, z))

  pub step-refusal : (r : ℕ) → (why ≡ 0 → ⊥) → r ≡ why % 256 → HandsOut row (encode_step (step_from p o)) r (set between 3 p)
  step-refusal r z e = go o k said
    where
      after_three : (d : List ℕ) (a b c : ℕ) → 17 ≤ length d → set (over d (a ∷ b ∷ c ∷ [])) 3 p ≡ over d (a ∷ b ∷ c ∷ p ∷ [])
      after_three [] a b c l = absurd (omega arith)
      after_three (x ∷ []) a b c l = absurd (omega arith)
      after_three (x ∷ y ∷ []) a b c l = absurd (omega arith)
      after_three (x ∷ y ∷ u ∷ []) a b c l = absurd (omega arith)
      after_three (x ∷ y ∷ u ∷ v ∷ d) a b c l = refl

      go : (x : OrRefused ReadEvent) → Ok x → (why ≡ why_code x) × (between ≡ handed row (encode (read_numbers rows36) x)) → HandsOut row (encode_step (step_from p x)) r (set between 3 p)
      go (good (event_to d q)) j w = absurd (z w.0)
      go (refused n) j w =
          long row (refusal_numbers n ++ p ∷ []) (set between 3 p) r h (e ∙ ap (λ m. m % 256) w.0 ∙ refusal_lowest n j)
          (ap (λ (b : List ℕ). set b 3 p) (w.1 ∙ handed_long row (refusal_numbers n) h) ∙ after_three row (number_of n) (field_no n) (reason_no n) h)
