use mathlib.Core.Path.{◌≡◌, sym, ◌∙◌, ap}
use Prim.Native.Nat.{ℕ, ◌^◌}
use mathlib.Core.List.{List}
use Rattle.std.proofs.lemmas.Result.{err_from_is_err_and}
use Rattle.text.specs.Number.{Num, number, signed, some}
use Rattle.std.proofs.Math.Nat.{mod-eq_of_lt}
use Rattle.text.proofs.NumberLaws.{number_fits}
use Rattle.text.proofs.number.read.Goals as goal

-- the answer below a width's limit is the number of that width
of_width : (limit bits : ℕ) (s : List ℕ) (x : Num) → limit ≡ 2 ^ bits → x ≡ signed limit s → x ≡ number bits s
unfolding number
of_width limit bits s x e r = r ∙ ap (λ (n : ℕ). signed n s) e

pub returns-in_err-n : goal.returns-in_err-n
returns-in_err-n g c = let p = err_from_is_err_and c.from_residual.result c.from_residual.ensures.1 in rw (p.1, p.2) (of_width _ _ _ _ c.limit.ensures.0 c.in_err-n.ensures)

pub returns : goal.returns
returns g c =
    let read = of_width _ _ _ _ c.limit.ensures.0 c.in_ok-n.ensures in
    let few = number_fits g.T.Width.bits c.in_ok-n.n c.args.s.now (sym read) in
    ap some (c.narrow.ensures ∙ mod-eq_of_lt few) ∙ read
