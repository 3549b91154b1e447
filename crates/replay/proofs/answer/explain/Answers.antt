use Rattle.at.specs.Event.{read_as}
use Rattle.at.specs.Refusal as at
use Rattle.at.specs.Response.{response_of}
use Rattle.at.specs.W26 as w26
use Rattle.at.specs.W36 as w36
use Rattle.edm.specs.Packet.{packet_of}
use Rattle.edm.specs.Refusal as edm
use Rattle.render.proofs.ExplainedLaws.{explains_line_lem, explains_binary_line_lem, explained_by_lem}
use Rattle.replay.proofs.answer.explain.Goals as goal

-- `explain` meets its contract.
pub returns-in-Frame : goal.returns-in-Frame
returns-in-Frame c = rw (c.in-Frame.is, ← explains_line_lem c.explain.ensures, ← explained_by_lem packet_of edm.refusal_of c.args.src.now c.explain.result) c.answer.ensures

pub returns-in-W26 : goal.returns-in-W26
returns-in-W26 c = rw (c.in-W26.is, ← explains_line_lem c.explain-in-W26.ensures, ← explained_by_lem (read_as w26.event_of) at.refusal_of c.args.src.now c.explain-in-W26.result) c.answer-in-W26.ensures

pub returns-in-W36 : goal.returns-in-W36
returns-in-W36 c = rw (c.in-W36.is, ← explains_line_lem c.explain-in-W36.ensures, ← explained_by_lem (read_as w36.event_of) at.refusal_of c.args.src.now c.explain-in-W36.result) c.answer-in-W36.ensures

pub returns-in-Binary : goal.returns-in-Binary
returns-in-Binary c = rw (c.in-Binary.is, ← explains_binary_line_lem _ _ _ _ c.explain-in-Binary.ensures) c.binary.ensures

pub returns-in-Response : goal.returns-in-Response
returns-in-Response c = rw (c.in-Response.is, ← explains_line_lem c.explain-in-Response.ensures, ← explained_by_lem response_of at.refusal_of c.args.src.now c.explain-in-Response.result) c.answer-in-Response.ensures
