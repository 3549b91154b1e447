-- How long the line of an AT response is.
use Prim.Native.Nat.{ℕ, zero, suc, ◌+◌, ◌*◌, ◌-◌, ◌≤◌, ◌<◌}
use mathlib.Core.Path.{◌≡◌, refl}
use mathlib.Core.List.{List, []}
use mathlib.Core.Bool.{Bool, true, false, cond}
use native.Mathlib.Omega.{arith}
use lib.Dec.{ltb}
use lib.ListN.{length, take, drop, length-take, length-drop}
use Rattle.text.specs.Bytes.{bytes, same, starts_with}
use Rattle.text.specs.Find.{crlf, first_of, last_below, last_of}
use Rattle.text.specs.Utf8.{utf8}
use Rattle.std.specs.Prelude.{Option, Some, None}
use Rattle.at.specs.Line.{ends_in}
use Rattle.at.specs.Refusal.{good, refused, no}
use Rattle.at.specs.Response.{ok, other, error, by_last, read_body, read_rest, read_response}
use Rattle.render.specs.Response.{response_line, response_answer_line}
use Rattle.render.proofs.WordLengths.{refused-room, data-none, data-place}

-- the last place that is looked for is one of those looked at
last_below_lem : (t s : List ℕ) (n i : ℕ) → last_below t s n ≡ Some i → i < n
unfolding last_below
last_below_lem t s zero i e = let z : ◌≡◌ {A = ℕ} 0 1 = cc in absurd (omega arith)
last_below_lem t s (suc n) i e = go (starts_with (drop n s) t) e (last_below_lem t s n i)
  where
    go : (k : Bool) → cond k (Some n) (last_below t s n) ≡ Some i → (last_below t s n ≡ Some i → i < n) → i < suc n
    go true e ih = let z : n ≡ i = cc in omega arith
    go false e ih = omega (arith, ih e)

module _ (src : List ℕ) where
  ok_room : (p n m : ℕ) → n ≤ m → length (response_line src (ok p n)) ≤ 2 * m + 50
  ok_room p n m h = omega (arith, data-place src p n [], data-none src)

  other_room : (p n m : ℕ) → n ≤ m → length (response_line src (other p n)) ≤ 2 * m + 50
  other_room p n m h = omega (arith, data-place src p n [], data-none src)

  body-room : (p : ℕ) (t : List ℕ) → length (response_line src (read_body p t)) ≤ 2 * length t + 50
  unfolding read_body last_of
  body-room p t = go (same t (bytes "OK")) (same t (bytes "ERROR")) (last_below crlf t (length t)) refl
    where
      last : (k : Bool) (i : ℕ) → i < length t → length (response_line src (cond k (ok p i) (other p (length t)))) ≤ 2 * length t + 50
      last true i h = ok_room p i (length t) (omega arith)
      last false i h = other_room p (length t) (length t) (omega arith)

      go : (j k : Bool) (f : Option ℕ) → last_below crlf t (length t) ≡ f → length (response_line src (cond j (ok p 0) (cond k error (by_last p t f)))) ≤ 2 * length t + 50
      go true k f e = ok_room p 0 (length t) (omega arith)
      go false true f e = omega arith
      go false false (Some i) e = last (same (drop (i + 2) t) (bytes "OK")) i (last_below_lem crlf t (length t) i e)
      go false false None e = other_room p (length t) (length t) (omega arith)

  rest-room : (p : ℕ) (t : List ℕ) → length (response_answer_line src (read_rest p t)) ≤ 2 * length t + 50
  unfolding read_rest
  rest-room p t = go (ends_in t crlf)
    where
      go : (k : Bool) → length (response_answer_line src (cond k (good (read_body p (take (length t - 2) t))) (refused (no 12)))) ≤ 2 * length t + 50
      go true = omega (arith, body-room p (take (length t - 2) t), length-take (length t - 2) t)
      go false = omega (arith, refused-room 12)

  -- at any place of any source
  pub response-room-at : (p : ℕ) (s : List ℕ) → length (response_answer_line src (read_response p s)) ≤ 2 * length s + 50
  unfolding read_response
  response-room-at p s = go (utf8 s) (ltb (first_of crlf s) (length s)) (first_of crlf s + 2)
    where
      go : (u k : Bool) (i : ℕ) → length (response_answer_line src (cond u (cond k (read_rest (p + first_of crlf s + 2) (drop i s)) (refused (no 12))) (refused (no 11)))) ≤ 2 * length s + 50
      go true true i = omega (arith, rest-room (p + first_of crlf s + 2) (drop i s), length-drop i s)
      go true false i = omega (arith, refused-room 12)
      go false k i = omega (arith, refused-room 11)

pub response-room : (s : List ℕ) → length (response_answer_line s (read_response 0 s)) ≤ 2 * length s + 150
response-room s = omega (arith, response-room-at s 0 s)
