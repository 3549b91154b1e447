-- The promise of `reply` allows one outcome only, and shuts out a program that reports the first of two events and drops the second, and one that leaves
-- out the refused field or the reason, or that explains a refusal by another check or byte.
-- `reply.Reads.Post` is what `reply` ensures.
use Rattle.std.proofs.Common.{◌≡◌, ℕ, ◌+◌, false, List, length, sym, refl, ◌∙◌}
use contract.Lifetimes.{Lfts}
use denote.Triple.Clauses.{AtExit}
use borrow.Fn.Kinds.{Dens, ended_of}
use Rattle.text.specs.Bytes.{bytes, same, starts_with, every}
use Rattle.text.specs.Decimal.{digits_of, decimal}
use Rattle.text.specs.Find.{first_of}
use Rattle.text.specs.Field.{fields_from}
use Rattle.text.specs.Number.{digits_from, under, digits, signed, number}
use Rattle.text.specs.Put.{placed}
use Rattle.text.specs.Utf8.{table as table37, seq_len, passed, valid_up_to, utf8, inside_character}
use Rattle.text.proofs.OneOutcome.{One}
use Rattle.at.specs.Event.{read_field, take_kind, take_kinds, read_row}
use Rattle.at.specs.Line.{before, ends_in, ended, framed, rows_named, fields_after, by_type, read_text, read_line}
use Rattle.at.specs.Binary.{try_rows}
use Rattle.at.specs.W36.{table, binary_table}
use Rattle.at.specs.Walk.{read_either, step_at, walk_from, walk_at}
use Rattle.render.specs.Words.{name_in, number_word, values_line}
use Rattle.render.specs.Refusal.{refusals, refused_line}
use Rattle.render.specs.Event.{cases36, case_of}
use Rattle.render.specs.Walk.{walk_line}
use Rattle.render.specs.Label.{check_names}
use Rattle.checks.specs.Check.{first_broken}
use Rattle.checks.specs.Number.{not_empty, only_allowed, value_from, small_enough}
use Rattle.checks.specs.Line.{field_checks, kinds_for, text_checks, line_checks}
use Rattle.lines.specs.Hex.{pairs, bytes_in}
use Rattle.replay.specs.Question.{words, kind_of, kinds, explainable_by, asked}
use Rattle.lines.specs.Cut.{cut_at}
use Rattle.lines.specs.Input.{without_cr}
use Rattle.replay.specs.Reply.{is_note, short_reply, reply_line, line_reply, answer_line}
use Rattle.replay.proofs.session.reply as reply

-- the place that is answered, and every byte of the output
pub one-reply : One 4 reply.Kinds.ps reply.Kinds.r reply.Reads.Post (λ κs x s. x) × One 4 reply.Kinds.ps reply.Kinds.r reply.Reads.Post (λ κs x s. s.0.now)
one-reply = ((λ κs a x y s t p q. p.0 ∙ sym q.0), λ κs a x y s t p q. p.1 ∙ sym q.1)

-- where the answer to a line is computed to be `out`, that is what `reply` writes, wherever the line is lent and the answer put
abbrev Replies : List ℕ → List ℕ → Type 0
Replies line out =
    (κs : Lfts 4) (a : Dens κs reply.Kinds.ps) (e : AtExit (ended_of 4 reply.Kinds.ps reply.Kinds.r) κs) (r : ℕ)
    → a.1.1.0.now ≡ line → a.1.1.1.1.0 ≡ false → reply.Reads.Post κs a r e
    → (r ≡ a.1.0 + length out) × (e.0.now ≡ placed a.0.now a.1.0 out)

replies : (line out : List ℕ) → ((n : ℕ) → answer_line false n line ≡ out) → Replies line out
replies line out computed κs a e r lent here p = rw (lent, here, computed a.1.1.1.0) at p

-- one read of two `+UESOC` lines, in hex
abbrev pub two_connects : List ℕ
two_connects = bytes "walk36 0d0a2b5545534f433a310d0a 0d0a2b5545534f433a320d0a"

abbrev pub both_sockets : List ℕ
both_sockets = bytes "SocketConnected 1 @12 ; SocketConnected 2 @24 ; end\n"

both_sockets_lem : (n : ℕ) → answer_line false n two_connects ≡ both_sockets
unfolding line_reply reply_line without_cr short_reply is_note every asked cut_at first_of words kind_of bytes_in pairs same starts_with fields_from digits_from under digits signed number table37 seq_len passed valid_up_to utf8 inside_character read_field take_kind take_kinds read_row before ends_in ended framed rows_named fields_after by_type read_text read_line try_rows read_either step_at walk_from walk_at table binary_table walk_line values_line number_word decimal digits_of cases36 case_of
both_sockets_lem n = refl

-- both events are written
pub both_reported : Replies two_connects both_sockets
both_reported = replies two_connects both_sockets both_sockets_lem

-- `+UESOC:x`, in hex
abbrev pub wrong_socket : List ℕ
wrong_socket = bytes "why36 0d0a2b5545534f433a780d0a"

abbrev pub first_has_byte : List ℕ
first_has_byte = bytes "refused TypeDecodeParameterDataTypeInvalid field 1 byte\n"

first-has-byte : (n : ℕ) → answer_line false n wrong_socket ≡ first_has_byte
unfolding line_reply reply_line without_cr short_reply is_note every asked cut_at first_of words kind_of bytes_in pairs same starts_with fields_from digits_from under digits signed number table37 seq_len passed valid_up_to utf8 inside_character read_field take_kind take_kinds read_row before ends_in ended framed rows_named fields_after by_type read_text read_line table refusals name_in refused_line decimal digits_of
first-has-byte n = refl

-- the field and the reason are written
pub field-reported : Replies wrong_socket first_has_byte
field-reported = replies wrong_socket first_has_byte first-has-byte

-- the same line, explained
abbrev pub explained_socket : List ℕ
explained_socket = bytes "explain w36 0d0a2b5545534f433a780d0a"

abbrev pub check_shown : List ℕ
check_shown = bytes "refused 15 TypeDecodeParameterDataTypeInvalid @9 FieldByte1\n"

check-shown : (n : ℕ) → answer_line false n explained_socket ≡ check_shown
unfolding line_reply reply_line without_cr short_reply is_note every asked cut_at first_of words kind_of bytes_in pairs same starts_with fields_from digits_from under digits signed number table37 seq_len passed valid_up_to utf8 inside_character read_field take_kind take_kinds read_row before ends_in ended framed rows_named fields_after by_type read_text read_line table refusals name_in refused_line decimal digits_of kinds explainable_by first_broken not_empty only_allowed value_from small_enough field_checks kinds_for text_checks line_checks check_names
check-shown n = refl

-- the check and its byte are written
pub check-reported : Replies explained_socket check_shown
check-reported = replies explained_socket check_shown check-shown
