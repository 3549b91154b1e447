-- What the answers of the code show. A frame is held in a buffer.
use Rattle.std.specs.Prelude.{ℕ, List, Option, Some, None, Result, Ok, Err}
use Rattle.text.specs.Bytes.{part}
use Rattle.lines.specs.declared.hex.HexError.{HexError}
use Rattle.lines.specs.declared.hex.HexError.TheVariants.{NoHex, NoRoom}
use Rattle.capture.specs.declared.line.Fault.{Fault}
use Rattle.capture.specs.declared.line.Fault.TheVariants.{NoFrame, FrameTooLong}
use Rattle.capture.specs.declared.line.Said.{Said}
use Rattle.capture.specs.declared.line.Stamp.{Stamp}
use Rattle.capture.specs.Line.{Time, time, no_time, Says, says, nothing, wrong}

-- what is wrong with a line whose frame was not decoded
abbrev pub fault_of : HexError → Fault
fault_of NoHex = NoFrame
fault_of NoRoom = FrameTooLong

abbrev pub stamp_of : Option Stamp → Time
stamp_of (Some t) = time t.seconds t.microseconds
stamp_of None = no_time

abbrev pub said_of : List ℕ → Result (Option Said) Fault → Says
said_of buf (Ok (Some s)) = says s.time.seconds s.time.microseconds (part buf 0 s.len)
said_of buf (Ok None) = nothing
said_of buf (Err fault) = wrong fault
