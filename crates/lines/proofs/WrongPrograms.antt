-- What every program that meets a promise does in some calls, so that wrong ones do not meet it. The promises are the functions' own:
-- `decode.Reads.Post` is what `decode` ensures. Assumes nothing.
use Prim.Native.Nat.{ℕ, ◌≤◌}
use mathlib.Core.Path.{◌≡◌}
use mathlib.Core.List.{List}
use contract.Lifetimes.{Lfts}
use denote.Param.Laws.{Laws}
use denote.RattleType.{RattleType}
use denote.Ref.{Bor}
use mir.Syntax.{Dict}
use Rattle.std.specs.declared.io.traits.Read as Read
use Rattle.std.specs.declared.io.Print as Print
use denote.Triple.Clauses.{AtExit}
use borrow.Fn.Kinds.{Dens, ended_of}
use lib.ListN.{take}
use Rattle.text.specs.Bytes.{bytes, hex, same, starts_with, part}
use Rattle.text.specs.Find.{first_of, first_from}
use Rattle.text.specs.Number.{digits_from}
use Rattle.lines.specs.Hex.{pairs, bytes_in}
use Rattle.lines.specs.Number.{number_in}
use Rattle.lines.specs.Input.{without_cr, at_hand}
use Rattle.std.specs.Prelude.{Option, Some, None, Result, Ok, Err, IsSome}
use Rattle.lines.specs.declared.hex.HexError.{HexError}
use Rattle.lines.specs.declared.hex.HexError.TheVariants.{NoHex, NoRoom}
use Rattle.lines.specs.declared.input.Unread.{Unread}
use Rattle.lines.specs.declared.output.Out.{Out}
use Rattle.lines.proofs.OneOutcome.{number_injective}
use Rattle.lines.proofs.hex.decode as decode
use Rattle.lines.proofs.number.decimal as decimal
use Rattle.lines.proofs.input.line_end as line_end_lem
use Rattle.lines.proofs.input.without_cr as without_cr_lem
use Rattle.lines.proofs.input.move_to_front as move_to_front
use Rattle.lines.proofs.input.read_after as read_after
use Rattle.lines.proofs.input.read_full as read_full
use Rattle.lines.proofs.output.write_out as write_out
use Rattle.lines.proofs.output.with_room as with_room

module _ (κs : Lfts 2) (a : Dens κs decode.Kinds.ps) (x : Result ℕ HexError) (e : AtExit (ended_of 2 decode.Kinds.ps decode.Kinds.r) κs) (p : decode.Reads.Post κs a x e)
    (b : a.0.now ≡ hex "FF FF") where
  -- one that leaves what it has read of a text that is no hex, or of one that has no room
  pub half_a_byte : a.1.0.now ≡ bytes "aa5" → (x ≡ Err NoHex) × (e.0.now ≡ hex "FF FF")
  unfolding bytes_in pairs same
  half_a_byte s = rw (s, b) at p

  pub no_room : a.1.0.now ≡ bytes "010203" → (x ≡ Err NoRoom) × (e.0.now ≡ hex "FF FF")
  unfolding bytes_in pairs same
  no_room s = rw (s, b) at p

  -- one that clears the rest, takes the low digit first, or capitals for no digits
  pub one_byte_lem : a.1.0.now ≡ bytes "0A" → (x ≡ Ok 1) × (e.0.now ≡ hex "0A FF")
  unfolding bytes_in pairs same
  one_byte_lem s = rw (s, b) at p

module _ (κs : Lfts 1) (a : Dens κs decimal.Kinds.ps) (x : Option ℕ) (e : AtExit (ended_of 1 decimal.Kinds.ps decimal.Kinds.r) κs) (p : decimal.Reads.Post κs a x e) where
  -- one that takes a sign, and one that forgets what 32 bits do not hold
  pub signed : a.0.now ≡ bytes "+1" → x ≡ None
  unfolding number_in digits_from
  signed s = number_injective x None (rw s at p)

  pub large : a.0.now ≡ bytes "4294967297" → x ≡ Some 4294967296
  unfolding number_in digits_from
  large s = number_injective x (Some 4294967296) (rw s at p)

-- one that finds the first line end again, and one that finds none where the last line has none
module _ (κs : Lfts 1) (a : Dens κs line_end_lem.Kinds.ps) (x : ℕ) (e : AtExit (ended_of 1 line_end_lem.Kinds.ps line_end_lem.Kinds.r) κs) (p : line_end_lem.Reads.Post κs a x e)
    (s : a.0.now ≡ bytes "a\nb\nc") where
  pub second_end : a.1.0 ≡ 2 → x ≡ 3
  unfolding first_from first_of starts_with
  second_end f = (rw (s, f) at p).0

  pub last_line : a.1.0 ≡ 4 → x ≡ 5
  unfolding first_from first_of starts_with
  last_line f = (rw (s, f) at p).0

module _ (κs : Lfts 1) (a : Dens κs without_cr_lem.Kinds.ps) (x : Bor (List ℕ)) (e : AtExit (ended_of 1 without_cr_lem.Kinds.ps without_cr_lem.Kinds.r) κs)
    (p : without_cr_lem.Reads.Post κs a x e) where
  -- one that leaves the CR, and one that drops every CR at the end
  pub one_cr : a.0.now ≡ bytes "a\r\r" → x.now ≡ bytes "a\r"
  unfolding without_cr same
  one_cr s = rw s at p

  -- one that drops the last byte whatever it is, and one that cuts the line at its first CR
  pub cr_inside : a.0.now ≡ bytes "a\rb" → x.now ≡ bytes "a\rb"
  unfolding without_cr same
  cr_inside s = rw s at p

-- one that moves from the end, over bytes that it has yet to move, and one that trusts an end past the buffer's
module _ (κs : Lfts 1) (a : Dens κs move_to_front.Kinds.ps) (x : ℕ) (e : AtExit (ended_of 1 move_to_front.Kinds.ps move_to_front.Kinds.r) κs)
    (p : move_to_front.Reads.Post κs a x e) (s : a.0.now ≡ hex "00 01 02 03 04") where
  pub overlapping : a.1.0 ≡ 1 → a.1.1.0 ≡ 4 → (x ≡ 3) × (e.0.now ≡ hex "01 02 03 03 04")
  unfolding part
  overlapping f g = rw (s, f, g) at p

  pub past_the_buffer : a.1.0 ≡ 3 → a.1.1.0 ≡ 9 → (x ≡ 2) × (e.0.now ≡ hex "03 04 02 03 04")
  unfolding part
  past_the_buffer f g = rw (s, f, g) at p

-- one that reads over the bytes that are kept, and one that counts what had no room
module _ (T : RattleType) (L : Laws T) (g : Read.Ghosts T.Denot) (d : Dict) (κs : Lfts 3) (a : Dens κs (read_after.Kinds.ps T L)) (x : Result ℕ Unread) (e : AtExit (ended_of 3 (read_after.Kinds.ps T L) (read_after.Kinds.r T L)) κs) (p : read_after.Reads.Post T L g d κs a x e)
    (s : a.1.0.now ≡ hex "AA BB") where
  pub kept_byte : a.1.1.0 ≡ 1 → take 1 e.1.0.now ≡ hex "AA"
  kept_byte k = (rw (s, k) at p).stays

  pub no-more_than_room : at_hand x ≤ 2
  no-more_than_room = (rw s at p).fits

module _ (T : RattleType) (L : Laws T) (g : Read.Ghosts T.Denot) (d : Dict) (κs : Lfts 3) (a : Dens κs (read_full.Kinds.ps T L)) (x : Result ℕ Unread) (e : AtExit (ended_of 3 (read_full.Kinds.ps T L) (read_full.Kinds.r T L)) κs) (p : read_full.Reads.Post T L g d κs a x e)
    (s : a.1.0.now ≡ hex "AA BB") where
  pub full_kept-byte : a.1.1.0 ≡ 1 → take 1 e.1.0.now ≡ hex "AA"
  full_kept-byte k = (rw (s, k) at p).stays

  pub full_no-more_than_room : at_hand x ≤ 2
  full_no-more_than_room = (rw s at p).fits

-- one that writes what may still leave room, or does not write what may leave none; one that goes on with what it has written; one that tries again
module _ (T : RattleType) (L : Laws T) (g : Print.Ghosts T.Denot) (d : Dict) (κs : Lfts 3) (a : Dens κs (with_room.Kinds.ps T L)) (x : Out) (e : AtExit (ended_of 3 (with_room.Kinds.ps T L) (with_room.Kinds.r T L)) κs) (p : with_room.Reads.Post T L g d κs a x e) where
  pub room-left : a.1.1.0.count ≡ 114000 → x.count ≡ 114000
  room-left c = (rw c at p).0

  pub no-room-left : a.1.1.0.count ≡ 114001 → x.count ≡ 0
  no-room-left c = (rw c at p).0

module _ (T : RattleType) (L : Laws T) (g : Print.Ghosts T.Denot) (d : Dict) (κs : Lfts 3) (a : Dens κs (write_out.Kinds.ps T L)) (x : Out) (e : AtExit (ended_of 3 (write_out.Kinds.ps T L) (write_out.Kinds.r T L)) κs) (p : write_out.Reads.Post T L g d κs a x e) where
  pub nothing_left : x.count ≡ 0
  nothing_left = p.0

  pub failed_for_good : IsSome a.1.1.0.failed → x.failed ≡ a.1.1.0.failed
  failed_for_good = p.1
