use mathlib.Core.Path.{refl}
use Rattle.at.specs.Parts.{row_no}
use Rattle.at.specs.W36.{table, binary_table, rows36}
use borrow.Author.Rules.{rules}
use Rattle.at.proofs.w36.PartsFromATEvent.from.Goals as goal

pub returns-in-SocketConnected : goal.returns-in-SocketConnected
unfolding row_no table binary_table rows36
returns-in-SocketConnected c = rw (c.in-SocketConnected.is, c.new.ensures, c.from.ensures) (record { listed = search rules; whole = refl; tidy = refl })

pub returns-in-SocketClosed : goal.returns-in-SocketClosed
unfolding row_no table binary_table rows36
returns-in-SocketClosed c = rw (c.in-SocketClosed.is, c.new-in-SocketClosed.ensures, c.from-in-SocketClosed.ensures) (record { listed = search rules; whole = refl; tidy = refl })

pub returns-in-SocketDataAvailable : goal.returns-in-SocketDataAvailable
unfolding row_no table binary_table rows36
returns-in-SocketDataAvailable c = rw (c.in-SocketDataAvailable.is, c.new-in-SocketDataAvailable.ensures, c.from-in-SocketDataAvailable.ensures, c.from-in-SocketDataAvailable-2.ensures) (record { listed = search rules; whole = refl; tidy = refl })

pub returns-in-WifiLinkUp : goal.returns-in-WifiLinkUp
unfolding row_no table binary_table rows36
returns-in-WifiLinkUp c = rw (c.in-WifiLinkUp.is, c.new-in-WifiLinkUp.ensures, c.from-in-WifiLinkUp.ensures, c.from-in-WifiLinkUp-2.ensures) (record { listed = search rules; whole = refl; tidy = refl })

pub returns-in-WifiLinkDown : goal.returns-in-WifiLinkDown
unfolding row_no table binary_table rows36
returns-in-WifiLinkDown c = rw (c.in-WifiLinkDown.is, c.new-in-WifiLinkDown.ensures, c.from-in-WifiLinkDown.ensures, c.from-in-WifiLinkDown-2.ensures) (record { listed = search rules; whole = refl; tidy = refl })

pub returns-in-WifiAccessPointStationAssociated : goal.returns-in-WifiAccessPointStationAssociated
unfolding row_no table binary_table rows36
returns-in-WifiAccessPointStationAssociated c = rw (c.in-WifiAccessPointStationAssociated.is, c.new-in-WifiAccessPointStationAssociated.ensures) (record { listed = search rules; whole = refl; tidy = refl })

pub returns-in-WifiAccessPointStationDisassociated : goal.returns-in-WifiAccessPointStationDisassociated
unfolding row_no table binary_table rows36
returns-in-WifiAccessPointStationDisassociated c = rw (c.in-WifiAccessPointStationDisassociated.is, c.new-in-WifiAccessPointStationDisassociated.ensures) (record { listed = search rules; whole = refl; tidy = refl })

pub returns-in-WifiAccessPointUp : goal.returns-in-WifiAccessPointUp
unfolding row_no table binary_table rows36
returns-in-WifiAccessPointUp c = rw (c.in-WifiAccessPointUp.is, c.new-in-WifiAccessPointUp.ensures) (record { listed = search rules; whole = refl; tidy = refl })

pub returns-in-WifiAccessPointDown : goal.returns-in-WifiAccessPointDown
unfolding row_no table binary_table rows36
returns-in-WifiAccessPointDown c = rw (c.in-WifiAccessPointDown.is, c.new-in-WifiAccessPointDown.ensures) (record { listed = search rules; whole = refl; tidy = refl })

pub returns-in-StationNetworkUp : goal.returns-in-StationNetworkUp
unfolding row_no table binary_table rows36
returns-in-StationNetworkUp c = rw (c.in-StationNetworkUp.is, c.new-in-StationNetworkUp.ensures) (record { listed = search rules; whole = refl; tidy = refl })

pub returns-in-StationNetworkDown : goal.returns-in-StationNetworkDown
unfolding row_no table binary_table rows36
returns-in-StationNetworkDown c = rw (c.in-StationNetworkDown.is, c.new-in-StationNetworkDown.ensures) (record { listed = search rules; whole = refl; tidy = refl })

pub returns-in-AccessPointNetworkUp : goal.returns-in-AccessPointNetworkUp
unfolding row_no table binary_table rows36
returns-in-AccessPointNetworkUp c = rw (c.in-AccessPointNetworkUp.is, c.new-in-AccessPointNetworkUp.ensures) (record { listed = search rules; whole = refl; tidy = refl })

pub returns-in-AccessPointNetworkDown : goal.returns-in-AccessPointNetworkDown
unfolding row_no table binary_table rows36
returns-in-AccessPointNetworkDown c = rw (c.in-AccessPointNetworkDown.is, c.new-in-AccessPointNetworkDown.ensures) (record { listed = search rules; whole = refl; tidy = refl })

pub returns-in-SocketDataBinary : goal.returns-in-SocketDataBinary
unfolding row_no table binary_table rows36
returns-in-SocketDataBinary c = rw (c.in-SocketDataBinary.is, c.new-in-SocketDataBinary.ensures, c.from-in-SocketDataBinary.ensures) (record { listed = search rules; whole = refl; tidy = refl })

pub returns-in-SocketDataBinaryFrom : goal.returns-in-SocketDataBinaryFrom
unfolding row_no table binary_table rows36
returns-in-SocketDataBinaryFrom c = rw (c.in-SocketDataBinaryFrom.is, c.new-in-SocketDataBinaryFrom.ensures, c.from-in-SocketDataBinaryFrom.ensures, c.from-in-SocketDataBinaryFrom-2.ensures) (record { listed = search rules; whole = refl; tidy = refl })
