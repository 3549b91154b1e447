use Rattle.std.proofs.Common.{◌≡◌, ℕ, ◌<◌, Bool, true, false, List, length, arith, length-append, le-leb}
use borrow.Author.Tests.{lt-leb}
use Rattle.text.specs.Bytes.{bytes}
use Rattle.render.proofs.PrintLaws.{prints_then, prints-whole}
use Rattle.lines.specs.Input.{without_cr}
use Rattle.replay.specs.Reply.{too_long, short_reply, reply_line, line_reply}
use Rattle.lines.proofs.InputLaws.{without_shorter}
use Rattle.replay.proofs.ReplyRoom.{reply-room}
use Rattle.replay.proofs.session.reply.Goals as goal
use Rattle.replay.proofs.session.reply.Goals.{then-gone-via-then-gone, then-gone-via-else-gone+then-line-gt-LONGEST}

-- `reply` meets its contract: the output has room for the longest answer.
gone_front : (n : ℕ) (line : List ℕ) {gone : Bool} → gone ≡ true → too_long ≡ line_reply gone n line
unfolding line_reply
gone_front n line e = rw e

long_line : (n : ℕ) (line : List ℕ) {gone : Bool} → gone ≡ false → 262144 < length line → too_long ≡ line_reply gone n line
unfolding line_reply reply_line
long_line n line e h = rw (e, lt-leb (length line) 262144 h)

pub returns-then-gone : goal.returns-then-gone
returns-then-gone c =
    let a = c.args in
    let line = a.line.now in
    let e : too_long ≡ line_reply a.gone a.n line = elim c.then-gone.branch [ then-gone-via-then-gone w ↦ gone_front a.n line w.if-gone.true | then-gone-via-else-gone+then-line-gt-LONGEST w ↦ long_line a.n line w.if-gone.false w.if-line-gt-LONGEST.true ] in
    rw (← e) (prints-whole c.word.ensures (omega (arith, c.requires.0, c.requires.1.0)))

pub answer-next-requires : goal.answer-next-requires
answer-next-requires c = (rw c.without_cr.ensures (omega (arith, without_shorter c.args.line.now, c.if-line-gt-LONGEST.false, c.requires.1.1)), c.requires.1.2)

pub returns : goal.returns
returns c = let a = c.args in
    let line = a.line.now in
    let is-short : line_reply a.gone a.n line ≡ short_reply a.n (without_cr line) =
    unfold line_reply reply_line in rw (c.if-gone.false, le-leb (length line) 262144 c.if-line-gt-LONGEST.false) in
    let printed = rw (c.without_cr.ensures, ← is-short) at c.answer-next.ensures in
    let room = reply-room a.gone a.n line (omega arith) in
    prints-whole (prints_then printed c.word-2.ensures) (omega (arith, c.requires.0, c.requires.1.0, length-append (line_reply a.gone a.n line) (bytes "\n"), room))
