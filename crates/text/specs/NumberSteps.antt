-- What the private steps of src/number.rt answer. No promise of a public function cites this file.
use Rattle.std.specs.Prelude.{ℕ, List, cond}
use Rattle.text.specs.Bytes.{every}
use Rattle.text.specs.Number.{is_digit}
use Rattle.text.specs.declared.number.NumberError.{NumberError}
use Rattle.text.specs.declared.number.NumberError.TheVariants.{Byte, Large}

-- a number, before it has its width, is its own value
abbrev pub itself : ℕ → ℕ
itself n = n

-- why digits that have reached the limit spell no number: it is too large where what follows them is digits too
abbrev pub too_large : List ℕ → NumberError
too_large s = cond (every is_digit s) Large Byte
