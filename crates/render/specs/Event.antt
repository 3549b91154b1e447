-- The line of an event: the name of its case, then its fields in order.
use Rattle.std.specs.Prelude.{ℕ, List, [], ◌∷◌, ◌++◌, cond}
use Prim.Native.String.{String}
use Rattle.text.specs.Bytes.{bytes, same}
use Rattle.at.specs.Refusal.{number_of, OrRefused, good, refused}
use Rattle.at.specs.Event.{Row, kinds_of, Event, event, ReadEvent, event_to}
use Rattle.at.specs.Table.{spelled_row}
use Rattle.at.specs.W26 as w26
use Rattle.at.specs.W36 as w36
use Rattle.render.specs.Words.{values_line}
use Rattle.render.specs.Refusal.{refused_line}

-- the case of the Rust's enum that a row is read into
pub data Case : Type 0 where
  ◌gives◌ : Row → String → Case

infix 30 ◌gives◌
unfoldable pub cases26 : List Case
cases26 =
    (w26.UUDPC gives "PeerConnectedIP")
    ∷ (w26.UUDPD gives "PeerDisconnected")
    ∷ (w26.UUWLE gives "WifiLinkConnected")
    ∷ (w26.UUWLD gives "WifiLinkDisconnected")
    ∷ (w26.UUWAPU gives "WifiAccessPointUp")
    ∷ (w26.UUWAPD gives "WifiAccessPointDown")
    ∷ (w26.UUWAPSTAC gives "WifiAccessPointStationConnected")
    ∷ (w26.UUWAPSTAD gives "WifiAccessPointStationDisconnected")
    ∷ (w26.UUETHLU gives "EthernetLinkUp")
    ∷ (w26.UUETHLD gives "EthernetLinkDown")
    ∷ (w26.UUNU gives "NetworkUp")
    ∷ (w26.UUND gives "NetworkDown")
    ∷ (w26.UUNERR gives "NetworkError")
    ∷ (w26.UUDATA gives "DataAvailable")
    ∷ (w26.UUBTB gives "BondEvent")
    ∷ (w26.UUBTUC gives "UserConfirmation")
    ∷ (w26.UUBTUPD gives "UserPasskeyDisplay")
    ∷ (w26.UUBTUPE gives "UserPasskeyEntry")
    ∷ (w26.UUBTACLC gives "ACLConnected")
    ∷ (w26.UUBTACLD gives "ACLDisconnected")
    ∷ (w26.UUBTGRR gives "GATTRequestToRead")
    ∷ (w26.UUBTGRW gives "GATTRequestToWrite")
    ∷ (w26.UUBTGIC gives "GATTIndicationConfirmation")
    ∷ (w26.UUBTGN gives "GATTNotification")
    ∷ (w26.UUBTGI gives "GATTIndication")
    ∷ (w26.UUDPC-BT gives "PeerConnectedBluetooth")
    ∷ []

unfoldable pub cases36 : List Case
cases36 =
    (w36.UESOC gives "SocketConnected")
    ∷ (w36.UESOCL gives "SocketClosed")
    ∷ (w36.UESODA gives "SocketDataAvailable")
    ∷ (w36.UEWLU gives "WifiLinkUp")
    ∷ (w36.UEWLD gives "WifiLinkDown")
    ∷ (w36.UEWAPSA gives "WifiAccessPointStationAssociated")
    ∷ (w36.UEWAPSDA gives "WifiAccessPointStationDisassociated")
    ∷ (w36.UEWAPU gives "WifiAccessPointUp")
    ∷ (w36.UEWAPD gives "WifiAccessPointDown")
    ∷ (w36.UEWSNU gives "StationNetworkUp")
    ∷ (w36.UEWSND gives "StationNetworkDown")
    ∷ (w36.UEWAPNU gives "AccessPointNetworkUp")
    ∷ (w36.UEWAPND gives "AccessPointNetworkDown")
    ∷ (w36.UESODB gives "SocketDataBinary")
    ∷ (w36.UESODBF gives "SocketDataBinaryFrom")
    ∷ []

-- the case of a row, which is found by its name and its letters
unfoldable pub case_of : List Case → Row → String
case_of [] r = ""
case_of ((q gives name) ∷ cases) r = cond (same (spelled_row q) (spelled_row r)) name (case_of cases r)

abbrev pub event_line : List Case → List ℕ → Event → List ℕ
event_line cases src (event r vs) = bytes (case_of cases r) ++ values_line (kinds_of r) src vs

-- the place just past an event is not printed
abbrev pub answer_line : List Case → List ℕ → OrRefused ReadEvent → List ℕ
answer_line cases src (good (event_to e past)) = event_line cases src e
answer_line cases src (refused n) = refused_line (number_of n)
