-- A record that was found, and its line, which fits the room that the output has left. Assumes nothing.
use Rattle.std.proofs.Common.{ℕ, ◌<◌, ◌≤◌, ◌≡◌, List, length, get_or, sym, ap, ◌∙◌, arith, length-append}
use Rattle.std.specs.Prelude.{Option, Some, None, Result, Ok, Err}
use Rattle.std.specs.Result.{result_unwrap_or}
use Rattle.text.specs.Bytes.{bytes}
use Rattle.pcap.specs.Read.{Outcome, found, record_shown}
use Rattle.pcap.specs.declared.CaptureError.{CaptureError}
use Rattle.pcap.specs.declared.Record.{Record}
use Rattle.render.specs.Capture.{meaning_line}
use Rattle.render.proofs.CaptureRoom.{meaning_room}
use Rattle.capture.specs.Record.{record_line}

pub was-found : (x : Result (Option Record) CaptureError) (o : Outcome) (r : Record) → record_shown x ≡ o → result_unwrap_or x None ≡ Some r → o ≡ found r.seconds r.microseconds r.start r.len r.next
was-found (Ok y) o r e q = sym e ∙ ap (λ (z : Option Record). record_shown (Ok z)) q
was-found (Err y) o r e q = let z : ◌≡◌ {A = ℕ} 0 1 = cc in absurd (omega arith)

pub line_room : (a b : ℕ) (f : List ℕ) → a < 4294967296 → ((i : ℕ) → get_or f i 0 < 256) → length f ≤ 4099 → length (record_line a b f) ≤ 16569
unfolding record_line
line_room a b f h k l = omega (arith, length-append (meaning_line a b f) (bytes "\n"), meaning_room a b f h k)
