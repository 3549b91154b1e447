use mathlib.Core.Path.{refl}
use Rattle.at.specs.Parts.{row_no}
use Rattle.at.specs.W26.{table}
use borrow.Author.Rules.{rules}
use Rattle.at.proofs.w26_parts.PartsFromATEvent.from.Goals as goal

pub returns-in-PeerConnectedIP : goal.returns-in-PeerConnectedIP
unfolding row_no table
returns-in-PeerConnectedIP c = rw (c.in-PeerConnectedIP.is, c.new.ensures, c.from.ensures, c.type_number.ensures, c.from-in-PeerConnectedIP.ensures, c.from-in-PeerConnectedIP-2.ensures, c.from-in-PeerConnectedIP-3.ensures) (record { listed = search rules; whole = refl; tidy = refl })

pub returns-in-PeerDisconnected : goal.returns-in-PeerDisconnected
unfolding row_no table
returns-in-PeerDisconnected c = rw (c.in-PeerDisconnected.is, c.new-in-PeerDisconnected.ensures, c.from-in-PeerDisconnected.ensures) (record { listed = search rules; whole = refl; tidy = refl })

pub returns-in-WifiLinkConnected : goal.returns-in-WifiLinkConnected
unfolding row_no table
returns-in-WifiLinkConnected c = rw (c.in-WifiLinkConnected.is, c.new-in-WifiLinkConnected.ensures, c.from-in-WifiLinkConnected.ensures, c.from-in-WifiLinkConnected-2.ensures) (record { listed = search rules; whole = refl; tidy = refl })

pub returns-in-WifiLinkDisconnected : goal.returns-in-WifiLinkDisconnected
unfolding row_no table
returns-in-WifiLinkDisconnected c = rw (c.in-WifiLinkDisconnected.is, c.new-in-WifiLinkDisconnected.ensures, c.from-in-WifiLinkDisconnected.ensures, c.from-in-WifiLinkDisconnected-2.ensures) (record { listed = search rules; whole = refl; tidy = refl })

pub returns-in-WifiAccessPointUp : goal.returns-in-WifiAccessPointUp
unfolding row_no table
returns-in-WifiAccessPointUp c = rw (c.in-WifiAccessPointUp.is, c.new-in-WifiAccessPointUp.ensures, c.from-in-WifiAccessPointUp.ensures) (record { listed = search rules; whole = refl; tidy = refl })

pub returns-in-WifiAccessPointDown : goal.returns-in-WifiAccessPointDown
unfolding row_no table
returns-in-WifiAccessPointDown c = rw (c.in-WifiAccessPointDown.is, c.new-in-WifiAccessPointDown.ensures, c.from-in-WifiAccessPointDown.ensures) (record { listed = search rules; whole = refl; tidy = refl })

pub returns-in-WifiAccessPointStationConnected : goal.returns-in-WifiAccessPointStationConnected
unfolding row_no table
returns-in-WifiAccessPointStationConnected c = rw (c.in-WifiAccessPointStationConnected.is, c.new-in-WifiAccessPointStationConnected.ensures, c.from-in-WifiAccessPointStationConnected.ensures) (record { listed = search rules; whole = refl; tidy = refl })

pub returns-in-WifiAccessPointStationDisconnected : goal.returns-in-WifiAccessPointStationDisconnected
unfolding row_no table
returns-in-WifiAccessPointStationDisconnected c = rw (c.in-WifiAccessPointStationDisconnected.is, c.new-in-WifiAccessPointStationDisconnected.ensures, c.from-in-WifiAccessPointStationDisconnected.ensures) (record { listed = search rules; whole = refl; tidy = refl })

pub returns-in-EthernetLinkUp : goal.returns-in-EthernetLinkUp
unfolding row_no table
returns-in-EthernetLinkUp c = rw (c.in-EthernetLinkUp.is, c.new-in-EthernetLinkUp.ensures) (record { listed = search rules; whole = refl; tidy = refl })

pub returns-in-EthernetLinkDown : goal.returns-in-EthernetLinkDown
unfolding row_no table
returns-in-EthernetLinkDown c = rw (c.in-EthernetLinkDown.is, c.new-in-EthernetLinkDown.ensures) (record { listed = search rules; whole = refl; tidy = refl })

pub returns-in-NetworkUp : goal.returns-in-NetworkUp
unfolding row_no table
returns-in-NetworkUp c = rw (c.in-NetworkUp.is, c.new-in-NetworkUp.ensures, c.from-in-NetworkUp.ensures) (record { listed = search rules; whole = refl; tidy = refl })

pub returns-in-NetworkDown : goal.returns-in-NetworkDown
unfolding row_no table
returns-in-NetworkDown c = rw (c.in-NetworkDown.is, c.new-in-NetworkDown.ensures, c.from-in-NetworkDown.ensures) (record { listed = search rules; whole = refl; tidy = refl })

pub returns-in-NetworkError : goal.returns-in-NetworkError
unfolding row_no table
returns-in-NetworkError c = rw (c.in-NetworkError.is, c.new-in-NetworkError.ensures, c.from-in-NetworkError.ensures, c.from-in-NetworkError-2.ensures) (record { listed = search rules; whole = refl; tidy = refl })

pub returns-in-DataAvailable : goal.returns-in-DataAvailable
unfolding row_no table
returns-in-DataAvailable c = rw (c.in-DataAvailable.is, c.new-in-DataAvailable.ensures, c.from-in-DataAvailable.ensures, c.from-in-DataAvailable-2.ensures) (record { listed = search rules; whole = refl; tidy = refl })

pub returns-in-PeerConnectedBluetooth : goal.returns-in-PeerConnectedBluetooth
unfolding row_no table
returns-in-PeerConnectedBluetooth c = rw (c.in-PeerConnectedBluetooth.is, c.new-in-PeerConnectedBluetooth.ensures, c.from-in-PeerConnectedBluetooth.ensures, c.from-in-PeerConnectedBluetooth-2.ensures, c.from-in-PeerConnectedBluetooth-3.ensures) (record { listed = search rules; whole = refl; tidy = refl })

pub returns-in-BondEvent : goal.returns-in-BondEvent
unfolding row_no table
returns-in-BondEvent c = rw (c.in-BondEvent.is, c.new-in-BondEvent.ensures, c.from-in-BondEvent.ensures) (record { listed = search rules; whole = refl; tidy = refl })

pub returns-in-UserConfirmation : goal.returns-in-UserConfirmation
unfolding row_no table
returns-in-UserConfirmation c = rw (c.in-UserConfirmation.is, c.new-in-UserConfirmation.ensures) (record { listed = search rules; whole = refl; tidy = refl })

pub returns-in-UserPasskeyDisplay : goal.returns-in-UserPasskeyDisplay
unfolding row_no table
returns-in-UserPasskeyDisplay c = rw (c.in-UserPasskeyDisplay.is, c.new-in-UserPasskeyDisplay.ensures) (record { listed = search rules; whole = refl; tidy = refl })

pub returns-in-UserPasskeyEntry : goal.returns-in-UserPasskeyEntry
unfolding row_no table
returns-in-UserPasskeyEntry c = rw (c.in-UserPasskeyEntry.is, c.new-in-UserPasskeyEntry.ensures) (record { listed = search rules; whole = refl; tidy = refl })

pub returns-in-ACLConnected : goal.returns-in-ACLConnected
unfolding row_no table
returns-in-ACLConnected c = rw (c.in-ACLConnected.is, c.new-in-ACLConnected.ensures, c.from-in-ACLConnected.ensures, c.from-in-ACLConnected-2.ensures) (record { listed = search rules; whole = refl; tidy = refl })

pub returns-in-ACLDisconnected : goal.returns-in-ACLDisconnected
unfolding row_no table
returns-in-ACLDisconnected c = rw (c.in-ACLDisconnected.is, c.new-in-ACLDisconnected.ensures, c.from-in-ACLDisconnected.ensures) (record { listed = search rules; whole = refl; tidy = refl })

pub returns-in-GATTRequestToRead : goal.returns-in-GATTRequestToRead
unfolding row_no table
returns-in-GATTRequestToRead c = rw (c.in-GATTRequestToRead.is, c.new-in-GATTRequestToRead.ensures, c.from-in-GATTRequestToRead.ensures, c.from-in-GATTRequestToRead-2.ensures) (record { listed = search rules; whole = refl; tidy = refl })

pub returns-in-GATTRequestToWrite : goal.returns-in-GATTRequestToWrite
unfolding row_no table
returns-in-GATTRequestToWrite c = rw (c.in-GATTRequestToWrite.is, c.new-in-GATTRequestToWrite.ensures, c.from-in-GATTRequestToWrite.ensures, c.from-in-GATTRequestToWrite-2.ensures, c.from-in-GATTRequestToWrite-3.ensures) (record { listed = search rules; whole = refl; tidy = refl })

pub returns-in-GATTIndicationConfirmation : goal.returns-in-GATTIndicationConfirmation
unfolding row_no table
returns-in-GATTIndicationConfirmation c = rw (c.in-GATTIndicationConfirmation.is, c.new-in-GATTIndicationConfirmation.ensures, c.from-in-GATTIndicationConfirmation.ensures, c.from-in-GATTIndicationConfirmation-2.ensures) (record { listed = search rules; whole = refl; tidy = refl })

pub returns-in-GATTNotification : goal.returns-in-GATTNotification
unfolding row_no table
returns-in-GATTNotification c = rw (c.in-GATTNotification.is, c.new-in-GATTNotification.ensures, c.from-in-GATTNotification.ensures, c.from-in-GATTNotification-2.ensures) (record { listed = search rules; whole = refl; tidy = refl })

pub returns-in-GATTIndication : goal.returns-in-GATTIndication
unfolding row_no table
returns-in-GATTIndication c = rw (c.in-GATTIndication.is, c.new-in-GATTIndication.ensures, c.from-in-GATTIndication.ensures, c.from-in-GATTIndication-2.ensures) (record { listed = search rules; whole = refl; tidy = refl })
