-- Laws of the line of a capture: a record and then the records from there on, or how it ends.
use Rattle.std.proofs.Common.{◌≡◌, ℕ, ◌<◌, ◌≤◌, Bool, List, ◌++◌, length, sym, ap, arith}
use Rattle.text.specs.Bytes.{bytes}
use Rattle.std.specs.Prelude.{Option, Some, None, Result, Ok, Err}
use Rattle.std.specs.Result.{result_unwrap_or}
use Rattle.pcap.specs.Refusal.{refusal_no}
use Rattle.pcap.specs.Read.{head, no_head, read_header, found, end, refusal, read_record, record_shown}
use Rattle.pcap.specs.declared.CaptureError.{CaptureError}
use Rattle.pcap.specs.declared.Record.{Record}
use Rattle.pcap.specs.File.{run_at, read_file}
use Rattle.pcap.specs.declared.ByteOrder.{ByteOrder}
use Rattle.pcap.proofs.ReadLaws.{found-places}
use Rattle.pcap.proofs.RunLaws.{run_on}
use Rattle.render.specs.Refusal.{refused_line}
use Rattle.render.specs.Walk.{place_line}
use Rattle.render.specs.Capture.{outcome_line, run_line}

module _ (o : ByteOrder) (s : List ℕ) (at : ℕ) where
  pub run-found : (a b start len past : ℕ) → found a b start len past ≡ read_record o s at
      → (run_line (run_at o s at) ≡ outcome_line at (found a b start len past) ++ bytes " ; " ++ run_line (run_at o s past)) × (at < past) × (past ≤ length s)
  unfolding run_line
  run-found a b start len past e =
      let p = found-places o s at a b start len past (sym e) in
      (rw (run_on o s at, ← e, p.5), omega (arith, p.0, p.1), p.2)

  pub run-ended : end ≡ read_record o s at → run_line (run_at o s at) ≡ outcome_line at end
  unfolding run_line
  run-ended e = rw (run_on o s at, ← e)

  pub run-refused : (n : ℕ) → refusal n ≡ read_record o s at → run_line (run_at o s at) ≡ outcome_line at (refusal n)
  unfolding run_line
  run-refused n e = rw (run_on o s at, ← e)

  -- the last answer, the end or a refusal
  pub run_last : (x : Result (Option Record) CaptureError) → record_shown x ≡ read_record o s at → result_unwrap_or x None ≡ None → run_line (run_at o s at) ≡ outcome_line at (record_shown x)
  run_last (Ok (Some r)) e n = let z : ◌≡◌ {A = ℕ} 0 1 = cc in absurd (omega arith)
  run_last (Ok None) e n = run-ended e
  run_last (Err x) e n = run-refused (refusal_no x) e

pub was-found : (x : Result (Option Record) CaptureError) (r : Record) → result_unwrap_or x None ≡ Some r → (x ≡ Ok (Some r)) × (record_shown x ≡ found r.seconds r.microseconds r.start r.len r.next)
was-found (Ok y) r e = (ap Ok e, ap (λ (z : Option Record). record_shown (Ok z)) e)
was-found (Err y) r e = let z : ◌≡◌ {A = ℕ} 0 1 = cc in absurd (omega arith)

-- and of a whole file
pub file_headed : (s : List ℕ) (o : ByteOrder) (ours : Bool) → head o ours ≡ read_header s → read_file s ≡ run_at o s 24
unfolding read_file
file_headed s o ours e = rw (← e)

pub file_unheaded : (s : List ℕ) (n : ℕ) → no_head n ≡ read_header s → run_line (read_file s) ≡ refused_line n ++ place_line 0
unfolding read_file run_line
file_unheaded s n e = rw (← e)
