-- The layout of a capture: the fields of the header and of a record, and their bytes in either byte order.
use Rattle.std.specs.Prelude.{ℕ, ◌+◌, List, [], ◌∷◌, ◌++◌, Bool, true, ◌&&◌, eqb, length}
use Prim.Native.String.{String}
use Rattle.text.specs.Bytes.{part}
use Rattle.pcap.specs.Number.{bytes_of, value_of}
use Rattle.pcap.specs.declared.ByteOrder.{ByteOrder}

-- a field: its width in bytes, its meaning, and the value that is written there. A fixed one has to be read as that value, a free one is not checked
pub data Field : Type 0 where
  fixed : ℕ → String → ℕ → Field
  free : ℕ → String → ℕ → Field

-- 24 bytes at the start of a file
abbrev pub header : List Field
header =
    fixed 4 "magic" 0xA1B2C3D4
    ∷ fixed 2 "major version" 2
    ∷ fixed 2 "minor version" 4
    ∷ free 4 "time zone" 0
    ∷ free 4 "accuracy" 0
    ∷ free 4 "snap length" 4099
    ∷ fixed 4 "link type" 147
    ∷ []

-- 16 bytes before each frame, whose values the caller gives; `sound` says what a reader asks of them (`Read.antt`). All of a frame is kept, so its length
-- stands there twice
abbrev pub record_head : ℕ → ℕ → ℕ → List Field
record_head seconds microseconds len =
    free 4 "seconds" seconds
    ∷ free 4 "microseconds" microseconds
    ∷ free 4 "bytes in the file" len
    ∷ free 4 "bytes on the line" len
    ∷ []

abbrev pub width : Field → ℕ
width (fixed w meaning v) = w
width (free w meaning v) = w

abbrev pub written : Field → ℕ
written (fixed w meaning v) = v
written (free w meaning v) = v

abbrev pub agrees : Field → ℕ → Bool
agrees (fixed w meaning v) n = eqb n v
agrees (free w meaning v) n = true

-- the bytes of fields
unfoldable pub spelled : ByteOrder → List Field → List ℕ
spelled o [] = []
spelled o (f ∷ fs) = bytes_of o (width f) (written f) ++ spelled o fs

-- the bytes from a place on agree with fields
unfoldable pub matches : ByteOrder → List ℕ → ℕ → List Field → Bool
matches o s at [] = true
matches o s at (f ∷ fs) = agrees f (value_of o (part s at (width f))) && matches o s (at + width f) fs

-- the same fields, all of them fixed
abbrev pub exactly : List Field → List Field
exactly [] = []
exactly (f ∷ fs) = fixed (width f) "as written" (written f) ∷ exactly fs

abbrev pub header_bytes : ByteOrder → List ℕ
header_bytes o = spelled o header

abbrev pub record_bytes : ByteOrder → ℕ → ℕ → List ℕ → List ℕ
record_bytes o seconds microseconds frame = spelled o (record_head seconds microseconds (length frame)) ++ frame
