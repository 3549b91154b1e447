-- Which probe holds which channel: a machine with a row for each channel and four counts, stepped once for each frame (request 9 of document 02).
use Rattle.std.specs.Prelude.{ℕ, ◌+◌, ◌*◌, List, [], ◌∷◌, Bool, cond, eqb, ltb, get_or}
use Rattle.text.specs.Bytes.{part}
use Rattle.at.specs.Refusal.{OrRefused, good, refused}
use Rattle.at.specs.Event.{Value, num, place}
use Rattle.edm.specs.Packet.{Packet, connect_event, disconnect_event, data_packet, data_command, at_request, at_response, at_packet, resend_packet, start_packet}
use Rattle.edm.specs.Frame.{read_frame}
use Rattle.channels.specs.declared.cell.Row.{Row}
use Rattle.channels.specs.declared.cell.Counts.{Counts}

-- a channel's row: closed, or open to a remote end. The kind of an open one is the type of its connect event
abbrev pub closed : Row
closed = record { kind = 0; high = 0; low = 0; port = 0 }

-- four bytes as a number, high first
abbrev pub four_bytes : List ℕ → ℕ
four_bytes t = ((get_or t 0 0 * 256 + get_or t 1 0) * 256 + get_or t 2 0) * 256 + get_or t 3 0

abbrev pub ipv4 : List ℕ → ℕ → Row
ipv4 address port = record { kind = 2; high = 0; low = four_bytes address; port = port }

abbrev pub is_closed : Row → Bool
is_closed row = eqb row.kind 0

-- one more, and no more than 4,294,967,295
abbrev pub up : ℕ → ℕ
up n = cond (ltb n 4294967295) (n + 1) n

abbrev pub reopened_more : Counts → Counts
reopened_more n = record { reopened = up n.reopened; reclosed = n.reclosed; stray = n.stray; refused = n.refused }

abbrev pub reclosed_more : Counts → Counts
reclosed_more n = record { reopened = n.reopened; reclosed = up n.reclosed; stray = n.stray; refused = n.refused }

abbrev pub stray_more : Counts → Counts
stray_more n = record { reopened = n.reopened; reclosed = n.reclosed; stray = up n.stray; refused = n.refused }

abbrev pub refused_more : Counts → Counts
refused_more n = record { reopened = n.reopened; reclosed = n.reclosed; stray = n.stray; refused = up n.refused }

pub record Machine : Type 0 where
  pub rows : ℕ → Row
  pub counts : Counts

-- all closed, all counts 0
abbrev pub fresh : Machine
fresh = record { rows = λ c. closed; counts = record { reopened = 0; reclosed = 0; stray = 0; refused = 0 } }

-- what a frame says about a channel
pub data Arrival : Type 0 where
  connects : ℕ → Row → Arrival
  disconnects has_data : ℕ → Arrival
  other is_refused : Arrival

-- the rows, but at the channel c this one
abbrev pub put : (ℕ → Row) → ℕ → Row → ℕ → Row
put rows c row d = cond (eqb d c) row (rows d)

-- A connect opens, and an open channel is replaced and counted as reopened. A disconnect closes; where the channel is already closed it is counted. Data
-- on a closed channel is counted as stray. Other packets change nothing, and a refused frame is only counted
abbrev pub stepped : Machine → Arrival → Machine
stepped m (connects c row) = record { rows = put m.rows c row; counts = cond (is_closed (m.rows c)) m.counts (reopened_more m.counts) }
stepped m (disconnects c) = record { rows = put m.rows c closed; counts = cond (is_closed (m.rows c)) (reclosed_more m.counts) m.counts }
stepped m (has_data c) = record { rows = m.rows; counts = cond (is_closed (m.rows c)) (stray_more m.counts) m.counts }
stepped m other = m
stepped m is_refused = record { rows = m.rows; counts = refused_more m.counts }

-- the values of a packet: numbers, and the bytes at a place of the frame s
abbrev pub num_of : Value → ℕ
num_of (num n) = n
num_of (place start len) = 0

abbrev pub bytes_of : List ℕ → Value → List ℕ
bytes_of s (num n) = []
bytes_of s (place start len) = part s start len

abbrev pub value_at : List Value → ℕ → Value
value_at vs i = get_or vs i (num 0)

abbrev pub channel_in : List Value → ℕ
channel_in vs = num_of (value_at vs 0)

-- the values of a connect event are channel, protocol, remote address, remote port, and the local end
abbrev pub remote_in : List ℕ → List Value → Row
remote_in s vs = ipv4 (bytes_of s (value_at vs 2)) (num_of (value_at vs 3))

-- what the frame s says, which reads so. Data of 0031 and of 0036 read alike
abbrev pub brings : List ℕ → OrRefused Packet → Arrival
brings s (good (connect_event vs)) = connects (channel_in vs) (remote_in s vs)
brings s (good (disconnect_event vs)) = disconnects (channel_in vs)
brings s (good (data_packet vs)) = has_data (channel_in vs)
brings s (good (data_command vs)) = other
brings s (good (at_request text)) = other
brings s (good (at_response r)) = other
brings s (good (at_packet e)) = other
brings s (good resend_packet) = other
brings s (good start_packet) = other
brings s (refused n) = is_refused

-- one step for each frame
unfoldable pub step : Machine → List ℕ → Machine
step m frame = stepped m (brings frame (read_frame frame))

unfoldable pub run : Machine → List (List ℕ) → Machine
run m [] = m
run m (frame ∷ frames) = run (step m frame) frames
