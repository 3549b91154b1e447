-- The words of checks and of fields: the name of the case, and the number of the field right after it, where it is about one.
use Rattle.std.specs.Prelude.{ℕ, List, [], ◌∷◌, ◌++◌}
use Rattle.text.specs.Decimal.{decimal}
use Rattle.checks.specs.declared.CheckName.{CheckName}
use Rattle.checks.specs.declared.CheckName.TheVariants as check
use Rattle.checks.specs.declared.part.PartName.{PartName}
use Rattle.checks.specs.declared.part.PartName.TheVariants as part
use Rattle.render.specs.Words.{Name, ◌is◌, name_in}

-- the checks of document 01, in the order of `CheckName`
unfoldable pub check_names : List Name
check_names =
    (1 is "FrameOfTwo")
    ∷ (2 is "StartByte")
    ∷ (3 is "EndByte")
    ∷ (4 is "FrameOfSix")
    ∷ (5 is "FrameLength")
    ∷ (6 is "Identifier")
    ∷ (7 is "ConnectOfTwo")
    ∷ (8 is "ConnectType")
    ∷ (9 is "ConnectSize")
    ∷ (10 is "DisconnectSize")
    ∷ (11 is "DataChannel")
    ∷ (12 is "RequestUtf8")
    ∷ (13 is "Utf8")
    ∷ (14 is "LineOfTwo")
    ∷ (15 is "PlaceTwo")
    ∷ (16 is "LineEnd")
    ∷ (17 is "EventName")
    ∷ (18 is "FieldThere")
    ∷ (19 is "FieldEmpty")
    ∷ (20 is "FieldByte")
    ∷ (21 is "FieldLarge")
    ∷ (22 is "FieldListed")
    ∷ (23 is "FieldType")
    ∷ (24 is "FirstLineEnd")
    ∷ (25 is "LastLineEnd")
    ∷ (26 is "Marker")
    ∷ (27 is "LengthBytes")
    ∷ (28 is "DataBytes")
    ∷ []

-- the fields of an accepted input, in the order of `PartName`
unfoldable pub part_names : List Name
part_names =
    (1 is "StartByte")
    ∷ (2 is "Length")
    ∷ (3 is "Identifier")
    ∷ (4 is "Channel")
    ∷ (5 is "ConnectType")
    ∷ (6 is "Protocol")
    ∷ (7 is "RemoteAddress")
    ∷ (8 is "RemotePort")
    ∷ (9 is "LocalAddress")
    ∷ (10 is "LocalPort")
    ∷ (11 is "Data")
    ∷ (12 is "Text")
    ∷ (13 is "Name")
    ∷ (14 is "Field")
    ∷ (15 is "Marker")
    ∷ (16 is "DataLength")
    ∷ (17 is "EndByte")
    ∷ []

-- the number of a name in its list, and of the field that it is about
pub data Label : Type 0 where
  Plain : ℕ → Label
  Field : ℕ → ℕ → Label

-- a name of a list
abbrev pub label_word : List Name → Label → List ℕ
label_word names (Plain n) = name_in names n
label_word names (Field n i) = name_in names n ++ decimal i

abbrev pub check_label : CheckName → Label
check_label check.FrameOfTwo = Plain 1
check_label check.StartByte = Plain 2
check_label check.EndByte = Plain 3
check_label check.FrameOfSix = Plain 4
check_label check.FrameLength = Plain 5
check_label check.Identifier = Plain 6
check_label check.ConnectOfTwo = Plain 7
check_label check.ConnectType = Plain 8
check_label check.ConnectSize = Plain 9
check_label check.DisconnectSize = Plain 10
check_label check.DataChannel = Plain 11
check_label check.RequestUtf8 = Plain 12
check_label check.Utf8 = Plain 13
check_label check.LineOfTwo = Plain 14
check_label check.PlaceTwo = Plain 15
check_label check.LineEnd = Plain 16
check_label check.EventName = Plain 17
check_label (check.FieldThere i) = Field 18 i
check_label (check.FieldEmpty i) = Field 19 i
check_label (check.FieldByte i) = Field 20 i
check_label (check.FieldLarge i) = Field 21 i
check_label (check.FieldListed i) = Field 22 i
check_label (check.FieldType i) = Field 23 i
check_label check.FirstLineEnd = Plain 24
check_label check.LastLineEnd = Plain 25
check_label check.Marker = Plain 26
check_label check.LengthBytes = Plain 27
check_label check.DataBytes = Plain 28

abbrev pub part_label : PartName → Label
part_label part.StartByte = Plain 1
part_label part.Length = Plain 2
part_label part.Identifier = Plain 3
part_label part.Channel = Plain 4
part_label part.ConnectType = Plain 5
part_label part.Protocol = Plain 6
part_label part.RemoteAddress = Plain 7
part_label part.RemotePort = Plain 8
part_label part.LocalAddress = Plain 9
part_label part.LocalPort = Plain 10
part_label part.Data = Plain 11
part_label part.Text = Plain 12
part_label part.Name = Plain 13
part_label (part.Field i) = Field 14 i
part_label part.Marker = Plain 15
part_label part.DataLength = Plain 16
part_label part.EndByte = Plain 17

abbrev pub check_word : CheckName → List ℕ
check_word c = label_word check_names (check_label c)

abbrev pub part_word : PartName → List ℕ
part_word n = label_word part_names (part_label n)
