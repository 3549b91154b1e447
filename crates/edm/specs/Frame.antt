-- An EDM frame: AA, length (2 bytes, high first, top 4 bits ignored), identifier (2, high first), payload, 55.
use Rattle.std.specs.Prelude.{ℕ, ◌+◌, ◌-◌, ◌%◌, List, Bool, cond, ◌&&◌, eqb, leb, ltb, length, take, drop}
use Rattle.at.specs.Refusal.{OrRefused, refused, no}
use Rattle.edm.specs.Packet.{identifiers, carried, Packet}
use Rattle.edm.specs.Payload.{byte, word, read_payload}

-- AA first and 55 last
abbrev pub delimited : List ℕ → Bool
delimited s = leb 2 (length s) && eqb (byte s 0) 0xAA && eqb (byte s (length s - 1)) 0x55

-- the length field without its top 4 bits
abbrev pub length_field : List ℕ → ℕ
length_field s = word s 1 % 4096

-- what stands between the identifier and the last byte
abbrev pub payload : List ℕ → List ℕ
payload s = drop 5 (take (length s - 1) s)

-- 1, 2, 3, then the identifier (4) and its payload
unfoldable pub read_frame : List ℕ → OrRefused Packet
read_frame s =
    cond (delimited s)
    (cond (ltb (length s) 6) (refused (no 2))
    (cond (eqb (length_field s) (length (payload s) + 2)) (read_payload (carried identifiers (word s 3)) 5 (payload s)) (refused (no 3))))
    (refused (no 1))
