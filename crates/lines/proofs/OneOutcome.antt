-- The promises allow one outcome only: the answer, and every byte of a lent buffer. They are the functions' own: `decode.Reads.Post` is what `decode`
-- ensures. What `read_after` and `read_full` read, and whether writing works, is the system's to say. Assumes nothing.
use mathlib.Core.Path.{◌≡◌, refl, sym, ap, ◌∙◌}
use denote.Param.Laws.{Laws}
use denote.RattleType.{RattleType}
use mir.Syntax.{Dict}
use Rattle.std.specs.declared.io.Print as Print
use Rattle.text.proofs.OneOutcome.{One}
use Rattle.lines.specs.Number.{Amount, amount, no_amount, amount_of}
use Rattle.std.specs.Prelude.{ℕ, Option, Some, None}
use Rattle.lines.proofs.hex.decode as decode
use Rattle.lines.proofs.number.decimal as decimal
use Rattle.lines.proofs.input.line_end as line_end_lem
use Rattle.lines.proofs.input.without_cr as without_cr_lem
use Rattle.lines.proofs.input.move_to_front as move_to_front
use Rattle.lines.proofs.output.write_out as write_out
use Rattle.lines.proofs.output.with_room as with_room

pub one_decode : One 2 decode.Kinds.ps decode.Kinds.r decode.Reads.Post (λ κs x s. x) × One 2 decode.Kinds.ps decode.Kinds.r decode.Reads.Post (λ κs x s. s.0.now)
one_decode = ((λ κs a x y s t p q. p.0 ∙ sym q.0), λ κs a x y s t p q. p.1 ∙ sym q.1)

abbrev number_of : Amount → Option ℕ
number_of (amount n) = Some n
number_of no_amount = None

number_back : (x : Option ℕ) → number_of (amount_of x) ≡ x
number_back (Some n) = refl
number_back None = refl

pub number_injective : (x y : Option ℕ) → amount_of x ≡ amount_of y → x ≡ y
number_injective x y e = sym (number_back x) ∙ ap number_of e ∙ number_back y

pub one-decimal : One 1 decimal.Kinds.ps decimal.Kinds.r decimal.Reads.Post (λ κs x s. x)
one-decimal κs a x y s t p q = number_injective x y (p ∙ sym q)

pub one-line_end : One 1 line_end_lem.Kinds.ps line_end_lem.Kinds.r line_end_lem.Reads.Post (λ κs x s. x)
one-line_end κs a x y s t p q = p.0 ∙ sym q.0

-- the bytes of the line that is lent
pub one-without_cr : One 1 without_cr_lem.Kinds.ps without_cr_lem.Kinds.r without_cr_lem.Reads.Post (λ κs x s. x.now)
one-without_cr κs a x y s t p q = p ∙ sym q

pub one-move_to_front : One 1 move_to_front.Kinds.ps move_to_front.Kinds.r move_to_front.Reads.Post (λ κs x s. x)
    × One 1 move_to_front.Kinds.ps move_to_front.Kinds.r move_to_front.Reads.Post (λ κs x s. s.0.now)
one-move_to_front = ((λ κs a x y s t p q. p.0 ∙ sym q.0), λ κs a x y s t p q. p.1 ∙ sym q.1)

-- how many bytes are to be written, whatever prints them
module _ (T : RattleType) (L : Laws T) (p : Print.Ghosts T.Denot) (d : Dict) where
  pub one-write_out : One 3 (write_out.Kinds.ps T L) (write_out.Kinds.r T L) (write_out.Reads.Post T L p d) (λ κs x s. x.count)
  one-write_out κs a x y s t p q = p.0 ∙ sym q.0

  pub one_with_room : One 3 (with_room.Kinds.ps T L) (with_room.Kinds.r T L) (with_room.Reads.Post T L p d) (λ κs x s. x.count)
  one_with_room κs a x y s t p q = p.0 ∙ sym q.0
