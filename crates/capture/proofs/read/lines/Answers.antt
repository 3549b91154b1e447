use Rattle.std.proofs.Common.{sym, refl, ◌∙◌, arith}
use Rattle.pcap.proofs.ReadLaws.{found-places}
use Rattle.capture.proofs.ReadLaws.{was-found}
use Rattle.capture.proofs.read.lines.Goals as goal

pub loop-r-init : goal.loop-r-init
loop-r-init g c = (omega arith, refl)

pub line-requires : goal.line-requires
line-requires g c =
    let r = c.in-Some.r in
    let p = found-places c.args.order c.args.src.now c.loop-r.used r.seconds r.microseconds r.start r.len r.next (was-found _ _ r c.read_record.ensures (sym c.unwrap_or.ensures ∙ c.in-Some.is)) in
    (c.with_room-out.ensures.1, omega (arith, c.loop-r.invariant.1, c.requires), rw c.part.ensures (omega (arith, p.4, p.5)))

pub loop-r-smaller : goal.loop-r-smaller
loop-r-smaller g c =
    let r = c.in-Some.r in
    let p = found-places c.args.order c.args.src.now c.loop-r.used r.seconds r.microseconds r.start r.len r.next (was-found _ _ r c.read_record.ensures (sym c.unwrap_or.ensures ∙ c.in-Some.is)) in
    omega (arith, p.0, p.1, p.2)

pub loop-r-preserved : goal.loop-r-preserved
loop-r-preserved g c =
    let r = c.in-Some.r in
    let p = found-places c.args.order c.args.src.now c.loop-r.used r.seconds r.microseconds r.start r.len r.next (was-found _ _ r c.read_record.ensures (sym c.unwrap_or.ensures ∙ c.in-Some.is)) in
    (p.2, c.line.auto.output ∙ c.loop-r.invariant.1)

pub returns : goal.returns
returns g c = c.loop-r.invariant.0
