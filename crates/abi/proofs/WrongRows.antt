-- Wrong programs that no promise allows, by the calls' own contracts: `step.Reads.Post` is what `mirvoncle_read_w36_step` ensures. Assumes nothing.
use Prim.Native.Nat.{ℕ, ◌+◌}
use mathlib.Core.Path.{◌≡◌, refl}
use mathlib.Core.List.{List, [], ◌∷◌}
use lib.ListN.{replicate}
use contract.Lifetimes.{Lfts}
use denote.Triple.Clauses.{AtExit}
use borrow.Fn.Kinds.{Dens, ended_of}
use Rattle.text.specs.Bytes.{bytes, same, starts_with}
use Rattle.text.specs.Find.{first_of}
use Rattle.text.specs.Field.{fields_from}
use Rattle.text.specs.Number.{digits_from, under, digits, signed, number}
use Rattle.text.specs.Utf8.{table as table37, seq_len, passed, valid_up_to, utf8, inside_character}
use Rattle.at.specs.Refusal.{refused, no}
use Rattle.at.specs.Event.{read_field, take_kind, take_kinds, read_row}
use Rattle.at.specs.Line.{before, ends_in, ended, framed, rows_named, fields_after, by_type, read_text, read_line}
use Rattle.at.specs.Binary.{try_rows}
use Rattle.at.specs.Walk.{read_either, step_at}
use Rattle.at.specs.Parts.{row_no, number_in}
use Rattle.at.specs.W26 as of26
use Rattle.at.specs.W36 as of36
use Rattle.abi.specs.Row.{values_numbers, read_numbers, encode, encode_step}
use Rattle.abi.specs.Code.{line_base}
use Rattle.abi.specs.Given.{values_at, all_hold, event_in, event_in26}
use Rattle.abi.proofs.read.mirvoncle_read_frame as frame
use Rattle.abi.proofs.read.mirvoncle_read_w26 as w26
use Rattle.abi.proofs.read.mirvoncle_read_w36_step as step
use Rattle.abi.proofs.write.mirvoncle_write_w26 as write-w26

abbrev row : List ℕ
row = replicate 17 0

-- one read with two events, from the place after the first: the second is handed out. No step drops it, or hands out the first again
second : encode_step (step_at (bytes "\r\n+UESOC:1\r\n\r\n+UESOC:2\r\n") 12) ≡ 0 ∷ 0 ∷ 2 ∷ 24 ∷ []
unfolding step_at read_either try_rows starts_with same first_of fields_from digits_from under digits signed number table37 seq_len passed valid_up_to utf8 inside_character read_field take_kind take_kinds read_row before ends_in ended framed rows_named fields_after by_type read_text read_line of36.table of36.binary_table of36.rows36 row_no number_in values_numbers
second = refl

pub second_event : (κs : Lfts 2) (a : Dens κs step.Kinds.ps) (r : ℕ) (i : AtExit (ended_of 2 step.Kinds.ps step.Kinds.r) κs)
    → a.0.now ≡ bytes "\r\n+UESOC:1\r\n\r\n+UESOC:2\r\n" → a.1.0 ≡ 12 → a.1.1.0.now ≡ row → step.Reads.Post κs a r i
    → (r ≡ 0) × (i.1.1.0.now ≡ 0 ∷ 0 ∷ 2 ∷ 24 ∷ replicate 13 0)
second_event κs a r i s at z p = let q = rw (s, at, z, second) at p in (q.answers, q.leaves)

-- a peer: every field in its place, the local end first. No read leaves a field out, exchanges the ends, or a place and a length
peer : encode (read_numbers of26.table) (read_line of26.w26 0 (bytes "\r\n+UUDPC:7,2,1,10.0.0.1,80,10.0.0.20,81\r\n"))
    ≡ 0 ∷ 0 ∷ 7 ∷ 2 ∷ 1 ∷ 15 ∷ 8 ∷ 80 ∷ 27 ∷ 9 ∷ 81 ∷ 41 ∷ []
unfolding starts_with same first_of fields_from digits_from under digits signed number table37 seq_len passed valid_up_to utf8 inside_character read_field take_kind take_kinds read_row before ends_in ended framed rows_named fields_after by_type read_text read_line of26.table row_no number_in values_numbers
peer = refl

pub peer_row : (κs : Lfts 2) (a : Dens κs w26.Kinds.ps) (r : ℕ) (i : AtExit (ended_of 2 w26.Kinds.ps w26.Kinds.r) κs)
    → a.0.now ≡ bytes "\r\n+UUDPC:7,2,1,10.0.0.1,80,10.0.0.20,81\r\n" → a.1.0.now ≡ row → w26.Reads.Post κs a r i
    → i.1.0.now ≡ 0 ∷ 0 ∷ 7 ∷ 2 ∷ 1 ∷ 15 ∷ 8 ∷ 80 ∷ 27 ∷ 9 ∷ 81 ∷ 41 ∷ replicate 5 0
peer_row κs a r i s z p = let q = rw (s, z, peer) at p in q.leaves

-- a row of 16 numbers: no read writes one of them
pub short_row_lem : (κs : Lfts 2) (a : Dens κs frame.Kinds.ps) (r : ℕ) (i : AtExit (ended_of 2 frame.Kinds.ps frame.Kinds.r) κs)
    → a.1.0.now ≡ replicate 16 7 → frame.Reads.Post κs a r i → (r ≡ 254) × (i.1.0.now ≡ replicate 16 7)
short_row_lem κs a r i z p = let q = rw z at p in (q.answers, q.leaves)

-- interface 65,536 does not fit into 16 bits: no writer takes it for interface 0, or changes a byte
too_large_lem : event_in26 (0 ∷ 12 ∷ 65536 ∷ 1 ∷ replicate 13 0) ≡ refused (no 253)
unfolding event_in row_no of26.table all_hold values_at
too_large_lem = refl

pub no-event : (κs : Lfts 3) (a : Dens κs write-w26.Kinds.ps) (r : ℕ) (i : AtExit (ended_of 3 write-w26.Kinds.ps write-w26.Kinds.r) κs)
    → a.1.1.0.now ≡ 0 ∷ 12 ∷ 65536 ∷ 1 ∷ replicate 13 0 → write-w26.Reads.Post κs a r i → (r ≡ line_base + 253) × (i.0.now ≡ a.0.now)
no-event κs a r i z p = let q = rw (z, too_large_lem) at p in (q.answers, q.leaves)
