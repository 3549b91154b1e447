use mathlib.Core.Path.{◌≡◌, refl, ap, ◌∙◌}
use lib.ListN.{take, drop}
use Rattle.text.specs.Bytes.{part}
use Rattle.text.proofs.BytesLaws.{rest_got, cut_got}
use Rattle.text.proofs.bytes.part.Goals as goal

pub returns : goal.returns
unfolding part
returns c =
    let a = c.args in
    let rest : c.unwrap_or-rest.result.now ≡ drop a.start a.s.now = rw c.unwrap_or-rest.ensures (rest_got a.s.now a.start c.get.result _ c.get.ensures.lookup refl) in
    rw c.unwrap_or.ensures (cut_got a.len c.unwrap_or-rest.result c.get-2.result c.get-2.ensures.lookup) ∙ ap (take a.len) rest
