-- Answers that wrong readers of frames miss: a misreading of the layout gives another answer to the frame named here. The promise is the function's own:
-- `read.Reads.Post` is what `read` ensures. Assumes nothing.
use Prim.Native.Nat.{ℕ}
use mathlib.Core.Path.{◌≡◌, refl, ◌∙◌}
use mathlib.Core.List.{List}
use contract.Lifetimes.{Lfts}
use denote.Triple.Clauses.{AtExit}
use borrow.Fn.Kinds.{Dens, ended_of}
use Rattle.text.specs.Bytes.{hex}
use Rattle.text.specs.Utf8.{table, seq_len, passed, valid_up_to, utf8}
use Rattle.edm.specs.Packet.{identifiers, carried, shown}
use Rattle.edm.specs.Payload.{read_connect, read_request}
use Rattle.edm.specs.Frame.{read_frame}
use Rattle.edm.specs.declared.EdmPacket.TheVariants as is
use Rattle.edm.specs.declared.EdmPacketError.TheVariants as error
use Rattle.edm.specs.declared.EdmPacket.{EdmPacket}
use Rattle.edm.specs.declared.EdmPacketError.{EdmPacketError}
use Rattle.std.specs.Prelude.{Result, Ok, Err}
use Rattle.edm.proofs.PacketAnswers.{shown_injective}
use Rattle.edm.proofs.frame.read as read

-- the promise allows no other answer to the frame s than y, wherever it is lent
abbrev pub Only : List ℕ → Result EdmPacket EdmPacketError → Type 0
Only s y =
    (κs : Lfts 1) (a : Dens κs read.Kinds.ps) (e : AtExit (ended_of 1 read.Kinds.ps read.Kinds.r) κs) (x : Result EdmPacket EdmPacketError)
    → a.0.now ≡ s → read.Reads.Post κs a x e → x ≡ y

-- that is the answer which the definition shows
pub only : (s : List ℕ) (y : Result EdmPacket EdmPacketError) → read_frame s ≡ shown y → Only s y
only s y f κs a e x l p = shown_injective x y ((rw l at p) ∙ f)

-- a reader that compares the length before it masks it
pub masked : Only (hex "AA F0 02 00 71 55") (Ok is.StartEvent)
unfolding read_frame identifiers carried
masked = only (hex "AA F0 02 00 71 55") (Ok is.StartEvent) refl

-- a reader that drops the CR of a request
pub keeps_cr : Only (hex "AA 00 05 00 44 41 54 0D 55") (Ok (is.ATRequest (record { start = 5; len = 3 })))
unfolding read_frame identifiers carried read_request table seq_len passed valid_up_to utf8
keeps_cr = only (hex "AA 00 05 00 44 41 54 0D 55") (Ok (is.ATRequest (record { start = 5; len = 3 }))) refl

-- a reader that checks the size of a connect payload before its type: here both are wrong
pub type_before-size : Only (hex "AA 00 04 00 11 03 01 55") (Err error.ConnectEventUnsupported)
unfolding read_frame identifiers carried read_connect
type_before-size = only (hex "AA 00 04 00 11 03 01 55") (Err error.ConnectEventUnsupported) refl
