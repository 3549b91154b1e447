-- Writing a command packet: the frame's bytes, the answer, and every byte of the buffer afterwards.
use Rattle.std.specs.Prelude.{◌≡◌, ℕ, ◌+◌, ◌-◌, ◌/◌, ◌%◌, min, List, [], ◌∷◌, ◌++◌, cond, ◌&&◌, leb, ltb, length, Result, Ok, Err}
use Rattle.text.specs.Bytes.{part}
use Rattle.text.specs.Utf8.{utf8}
use Rattle.at.specs.Refusal.{OrRefused, good, refused, no}
use Rattle.at.specs.Written.{answer_to, after}
use Rattle.edm.specs.Refusal.{refusal_of}
use Rattle.edm.specs.declared.EdmPacket.{EdmPacket}
use Rattle.edm.specs.declared.EdmPacket.TheVariants as is
use Rattle.edm.specs.declared.EdmPacketError.{EdmPacketError}
use Rattle.edm.specs.declared.EdmPacketError.TheVariants as error

-- a number of 16 bits, high first
abbrev pub two_bytes : ℕ → List ℕ
two_bytes n = n / 256 ∷ n % 256 ∷ []

-- AA, length of payload and identifier, identifier, payload, 55
unfoldable pub frame : ℕ → List ℕ → List ℕ
frame id payload = 0xAA ∷ two_bytes (length payload + 2) ++ two_bytes id ++ payload ++ 0x55 ∷ []

-- what is to be written: the identifier and the payload
pub data Command : Type 0 where
  command : ℕ → List ℕ → Command

-- the command that is made of the bytes of a place in the source; a place that runs past its end is 10
abbrev pub in_source : List ℕ → ℕ → ℕ → (List ℕ → OrRefused Command) → OrRefused Command
in_source src start len make = cond (leb (start + len) (length src)) (make (part src start len)) (refused (no 10))

-- a request is UTF-8 (8), and a CR is written after it
abbrev pub request_of : List ℕ → OrRefused Command
request_of t = cond (utf8 t) (good (command 0x44 (t ++ 13 ∷ []))) (refused (no 8))

-- a packet that is no command is 9
abbrev pub command_of : List ℕ → EdmPacket → OrRefused Command
command_of src (is.DataCommand c d) = in_source src d.start d.len (λ t. good (command 0x36 (c.0 ∷ t)))
command_of src (is.ATRequest t) = in_source src t.start t.len request_of
command_of src is.ResendConnectEvents = good (command 0x56 [])
command_of src (is.ConnectEvent c e) = refused (no 9)
command_of src (is.DisconnectEvent c) = refused (no 9)
command_of src (is.DataEvent c d) = refused (no 9)
command_of src (is.ATResponse r) = refused (no 9)
command_of src (is.ATEvent e) = refused (no 9)
command_of src is.StartEvent = refused (no 9)

-- how many bytes of payload a buffer has room for, and at most 4,093; a buffer under 6 bytes is 2
abbrev pub room_of : ℕ → Result ℕ EdmPacketError
room_of room = cond (ltb room 6) (Err error.PacketDecodeTargetMemorySizeInvalid) (Ok (min (room - 6) 4093))

-- the bytes to write: a payload over 4,093 bytes, or over the buffer's length less 6, is 10
abbrev pub fitted : ℕ → OrRefused Command → OrRefused (List ℕ)
fitted room (good (command id payload)) = cond (leb (length payload) 4093 && leb (length payload + 6) room) (good (frame id payload)) (refused (no 10))
fitted room (refused n) = refused n

-- a buffer under 6 bytes is 2, before all else
unfoldable pub to_send : ℕ → OrRefused Command → OrRefused (List ℕ)
to_send room c = cond (ltb room 6) (refused (no 2)) (fitted room c)

unfoldable pub to_write : ℕ → List ℕ → EdmPacket → OrRefused (List ℕ)
to_write room src p = to_send room (command_of src p)

abbrev pub shown : Result ℕ EdmPacketError → OrRefused ℕ
shown (Ok n) = good n
shown (Err e) = refused (refusal_of e)

-- what a write promises: its answer, and every byte of the buffer afterwards
pub record Writes (buf : List ℕ) (w : OrRefused (List ℕ)) (r : Result ℕ EdmPacketError) (exit : List ℕ) : Type 0 where
  pub answers : shown r ≡ answer_to w
  pub leaves : exit ≡ after buf w
