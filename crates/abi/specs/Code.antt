-- The answers as numbers. A read that is accepted is 0, and one that is refused is its refusal's number.
use Rattle.std.specs.Prelude.{ℕ, ◌+◌, ◌*◌, ◌≡◌, List}
use Rattle.text.specs.declared.number.NumberError.TheVariants.{Empty, Byte, Large}
use Rattle.at.specs.declared.FieldError.{FieldError}
use Rattle.at.specs.declared.FieldError.TheVariants.{NoNumber, NotListed}
use Rattle.at.specs.Refusal.{Refusal, no, missing, invalid, number_of, OrRefused, good, refused}
use Rattle.at.specs.Written.{answer_to, after}
use Rattle.at.specs.Binary.{Tried, not_binary, tried}

abbrev pub read_code : {A : Type 0} → OrRefused A → ℕ
read_code (good a) = 0
read_code (refused n) = number_of n

-- no binary event at all is 255
abbrev pub binary_code : Tried → ℕ
binary_code (tried a) = read_code a
binary_code not_binary = 255

-- what 14 and 15 carry: the field, and the reason, which is 1 for an empty field, 2 for a byte that is not allowed, 3 for a number that is too large,
-- 4 for one that is not in the list. What is not carried is 0
abbrev pub field_no : Refusal → ℕ
field_no (no n) = 0
field_no (missing field) = field
field_no (invalid field why) = field

abbrev pub reason_of : FieldError → ℕ
reason_of (NoNumber Empty) = 1
reason_of (NoNumber Byte) = 2
reason_of (NoNumber Large) = 3
reason_of NotListed = 4

abbrev pub reason_no : Refusal → ℕ
reason_no (no n) = 0
reason_no (missing field) = 0
reason_no (invalid field why) = reason_of why

-- why a read is refused, as one number: the refusal's, 256 times the field, and 65,536 times the reason
abbrev pub why_no : Refusal → ℕ
why_no n = number_of n + (256 * field_no n + 65536 * reason_no n)

abbrev pub why_code : {A : Type 0} → OrRefused A → ℕ
why_code (good a) = 0
why_code (refused n) = why_no n

abbrev pub why_binary_code : Tried → ℕ
why_binary_code (tried a) = why_code a
why_binary_code not_binary = 255

-- a write is the length of what was written, or a base and the refusal's number: 65,536 for a frame, which is at most 4,099 bytes long, and 2^63 for a
-- line, which may be as long as any buffer; none of C or Rust has 2^63 bytes
abbrev pub frame_base : ℕ
frame_base = 65536

abbrev pub line_base : ℕ
line_base = 9223372036854775808

abbrev pub write_code : ℕ → OrRefused ℕ → ℕ
write_code base (good n) = n
write_code base (refused n) = base + number_of n

-- what a write promises: its number, and every byte of the buffer afterwards
pub record Sends (base : ℕ) (buf : List ℕ) (w : OrRefused (List ℕ)) (r : ℕ) (exit : List ℕ) : Type 0 where
  pub answers : r ≡ write_code base (answer_to w)
  pub leaves : exit ≡ after buf w
