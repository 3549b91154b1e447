-- The fewest digits that hold a number are the number written plainly.
use Prim.Native.Nat.{ℕ, zero, suc, ◌-◌, ◌*◌, ◌/◌, ◌%◌, ◌^◌, ◌≤◌, ◌<◌}
use mathlib.Core.Path.{◌≡◌}
use native.Mathlib.Nat.{pow-suc}
use native.Mathlib.Omega.{arith}
use borrow.Author.Tests.{lt-ltb, le-ltb}
use Rattle.text.specs.Decimal.{digits_of, decimal}
use Rattle.io.specs.Digits.{last_digits, IsDigitCount}

pow_pos : (k : ℕ) → 1 ≤ 10 ^ k
pow_pos zero = omega arith
pow_pos (suc k) = rw (pow-suc 10 k) (let h = pow_pos k in omega arith)

plainly : (k f n : ℕ) → n < f → IsDigitCount 10 1 n k → last_digits 10 k n ≡ digits_of f n
unfolding digits_of
plainly zero f n l w = absurd (omega (arith, w.0))
plainly (suc zero) zero n l w = absurd (omega arith)
plainly (suc (suc k)) zero n l w = absurd (omega arith)
plainly (suc zero) (suc f) n l w =
    let small : n < 10 = w.1 in
    let e : n % 10 ≡ n = omega arith in
    rw (e, lt-ltb n 10 small)
plainly (suc (suc k)) (suc f) n l w =
    let p : 10 ^ suc (suc k) ≡ 10 ^ suc k * 10 = pow-suc 10 (suc k) in
    let q : 10 ^ suc k ≡ 10 ^ k * 10 = pow-suc 10 k in
    let one : 1 ≤ 10 ^ k = pow_pos k in
    let s : suc (suc k) - 1 ≡ suc k = omega arith in
    let s' : suc k - 1 ≡ k = omega arith in
    let low : 10 ^ suc k ≤ n = rw s at (w.2 (omega arith)) in
    let big : 10 ≤ n = omega arith in
    let high : n < 10 ^ suc (suc k) = w.1 in
    let last : n % 10 < 10 = omega arith in
    let less : n / 10 < f = omega arith in
    let above : n / 10 < 10 ^ suc k = omega arith in
    let below : 10 ^ k ≤ n / 10 = omega arith in
    rw (le-ltb n 10 big, lt-ltb (n % 10) 10 last, plainly (suc k) f (n / 10) less (omega arith, above, λ h. rw s' below))

pub count-plain : (k n : ℕ) → IsDigitCount 10 1 n k → last_digits 10 k n ≡ decimal n
unfolding decimal
count-plain k n w = plainly k (suc n) n (omega arith) w
