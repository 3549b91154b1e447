use Rattle.replay.proofs.answer.read.Goals as goal

-- `read` meets its contract.
pub returns-in-Frame : goal.returns-in-Frame
returns-in-Frame c = rw (c.in-Frame.is, ← c.read.ensures) c.answer.ensures

pub returns-in-W26 : goal.returns-in-W26
returns-in-W26 c = rw (c.in-W26.is, ← c.read-in-W26.ensures) c.answer-in-W26.ensures

pub returns-in-W36 : goal.returns-in-W36
returns-in-W36 c = rw (c.in-W36.is, ← c.read-in-W36.ensures) c.answer-in-W36.ensures

pub returns-in-Binary : goal.returns-in-Binary
returns-in-Binary c = rw (c.in-Binary.is, ← c.try_parse_binary.ensures) c.binary_answer.ensures

pub returns-in-Walk36 : goal.returns-in-Walk36
returns-in-Walk36 c = rw c.in-Walk36.is c.every_event.ensures

pub returns-in-Response : goal.returns-in-Response
returns-in-Response c = rw (c.in-Response.is, ← c.read-in-Response.ensures) c.answer-in-Response.ensures

pub returns-in-WhyFrame : goal.returns-in-WhyFrame
returns-in-WhyFrame c = rw (c.in-WhyFrame.is, ← c.read-in-WhyFrame.ensures) c.frame.ensures

pub returns-in-Why26 : goal.returns-in-Why26
returns-in-Why26 c = rw (c.in-Why26.is, ← c.read-in-Why26.ensures) c.event.ensures

pub returns-in-Why36 : goal.returns-in-Why36
returns-in-Why36 c = rw (c.in-Why36.is, ← c.read-in-Why36.ensures) c.event-in-Why36.ensures

pub returns-in-WhyBinary : goal.returns-in-WhyBinary
returns-in-WhyBinary c = rw (c.in-WhyBinary.is, ← c.try_parse_binary-in-WhyBinary.ensures) c.binary.ensures

pub returns-in-Capture : goal.returns-in-Capture
returns-in-Capture c = rw c.in-Capture.is c.every_record.ensures

pub returns-in-Scan : goal.returns-in-Scan
returns-in-Scan c = rw c.in-Scan.is c.every_range.ensures

pub returns-in-Explain : goal.returns-in-Explain
returns-in-Explain c = rw c.in-Explain.is c.explain.ensures
