-- How an accepted input is cut: each field has a slot, and what no slot takes is passed over.
use Rattle.std.specs.Prelude.{ℕ, zero, suc, ◌-◌, List, [], ◌∷◌, ◌++◌, Bool, cond, length, take}
use Prim.Native.Char.{code}
use Rattle.text.specs.Find.{first_of}
use Rattle.checks.specs.declared.part.PartName.{PartName}
use Rattle.checks.specs.declared.part.PartName.TheVariants.{StartByte, Length, Identifier, Channel, ConnectType, Protocol, RemoteAddress, RemotePort, LocalAddress, LocalPort, Data, Text, Name, Field, Marker, DataLength, EndByte}
use Rattle.checks.specs.declared.part.Shape.{Shape}
use Rattle.checks.specs.declared.part.Shape.TheVariants as shape
use Rattle.checks.specs.declared.slot.Span.{Span}
use Rattle.checks.specs.declared.slot.Span.TheVariants.{Exactly, AllBut, UpTo}
use Rattle.checks.specs.declared.slot.Slot.{Slot}

-- how many of these bytes a span takes: so many; all but the last ones; or those before the first b, of all but the last ones
unfoldable pub span_of : Span → List ℕ → ℕ
span_of (Exactly n) t = length (take n t)
span_of (AllBut n) t = length t - n
span_of (UpTo b n) t = first_of (b ∷ []) (take (length t - n) t)

-- a slot: what it passes over, its name, and what it takes
abbrev pub slot : Span → PartName → Span → Slot
slot p n l = record { pass = p; name = n; len = l }

-- a slot of so many bytes that passes over none
abbrev pub fixed : PartName → ℕ → Slot
fixed n k = slot (Exactly 0) n (Exactly k)

-- k fields of an event from the field i on, each after its colon or comma and up to the next comma. The text ends m bytes before the input does
unfoldable pub field_slots : ℕ → ℕ → ℕ → List Slot
field_slots i zero m = []
field_slots i (suc k) m = slot (Exactly 1) (Field i) (UpTo (code ",") m) ∷ field_slots (suc i) k m

-- those of a binary event: the last one goes up to the marker, whatever commas it has
unfoldable pub marked_slots : ℕ → ℕ → ℕ → List Slot
marked_slots i zero m = []
marked_slots i (suc zero) m = slot (Exactly 1) (Field i) (UpTo 1 m) ∷ []
marked_slots i (suc (suc k)) m = slot (Exactly 1) (Field i) (UpTo (code ",") m) ∷ marked_slots (suc i) (suc k) m

-- what follows them: the marker, two length bytes and the data
abbrev pub marked_tail : ℕ → List Slot
marked_tail m = fixed Marker 1 ∷ fixed DataLength 2 ∷ slot (Exactly 0) Data (AllBut m) ∷ []

-- the name of an event, after the first two bytes of its line and up to the colon
abbrev pub name_slot : ℕ → Slot
name_slot m = slot (Exactly 2) Name (UpTo (code ":") m)

-- the slots of a payload, a line or a response. A connect event has the remote end first
abbrev pub shape_slots : Shape → List Slot
shape_slots shape.Connect =
    fixed Channel 1
    ∷ fixed ConnectType 1
    ∷ fixed Protocol 1
    ∷ fixed RemoteAddress 4
    ∷ fixed RemotePort 2
    ∷ fixed LocalAddress 4
    ∷ fixed LocalPort 2
    ∷ []
shape_slots shape.Disconnect = fixed Channel 1 ∷ []
shape_slots shape.Data = fixed Channel 1 ∷ slot (Exactly 0) Data (AllBut 1) ∷ []
shape_slots shape.Request = slot (Exactly 0) Text (AllBut 1) ∷ []
shape_slots (shape.Response skip len) = slot (Exactly skip) Text (Exactly len) ∷ []
shape_slots shape.Bare = []
shape_slots (shape.Event k m) = name_slot m ∷ field_slots 1 k m
shape_slots (shape.Binary k m) = name_slot m ∷ marked_slots 1 k m ++ marked_tail m

-- the last byte, wherever the payload's slots ended
abbrev pub end_slot : Slot
end_slot = slot (AllBut 1) EndByte (Exactly 1)

-- a frame has three more before its payload and one after it
unfoldable pub slots_of : Bool → Shape → List Slot
slots_of framed s = cond framed (fixed StartByte 1 ∷ fixed Length 2 ∷ fixed Identifier 2 ∷ shape_slots s ++ end_slot ∷ []) (shape_slots s)
