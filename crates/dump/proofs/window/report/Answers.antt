use Rattle.std.proofs.Common.{sym, refl, ◌∙◌, arith}
use mathlib.Core.Bool.{false≢true}
use Rattle.dump.proofs.WindowLaws.{part-few}
use Rattle.dump.proofs.window.report.Goals as goal

-- `window::report` meets its contract. Assumes nothing.
pub keep-requires : goal.keep-requires
keep-requires g c =
    let few = c.requires.1 c.if-range.true in
    (c.requires.0, rw c.part.ensures (omega (arith, few, part-few c.args.src.now c.args.range.start c.args.n)))

pub returns-then-range : goal.returns-then-range
returns-then-range g c =
    let is-kept = c.if-range.true in
    let frame = c.part.ensures in
    let kept = c.keep.ensures in
    record {
      leads = rw is-kept (rw frame at kept.0);
      puts = λ k. rw frame at kept.1;
      waits = λ k. absurd (false≢true (sym k ∙ is-kept));
    }

pub returns : goal.returns
returns g c =
    let is_skipped = c.if-range.false in
    record {
      leads = rw (is_skipped, c.count_skipped-r.ensures);
      puts = λ k. absurd (false≢true (sym is_skipped ∙ k));
      waits = λ k. (refl, refl);
    }
