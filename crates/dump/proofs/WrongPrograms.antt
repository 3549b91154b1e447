-- What every program that meets a promise puts into the output, so that wrong ones do not meet it. The promises are the functions' own: `report.Reads.Post`
-- is what `report` ensures. Assumes nothing.
use Rattle.std.proofs.Common.{◌≡◌, ℕ, true, false, List, refl, ap, Bor}
use contract.Lifetimes.{Lfts}
use denote.MutBor.{MutBor}
use denote.Param.Laws.{Laws}
use denote.RattleType.{RattleType}
use mir.Syntax.{Dict}
use Rattle.std.specs.declared.io.Print as Print
use denote.Triple.Clauses.{AtExit}
use borrow.Fn.Kinds.{ended_of}
use Rattle.text.specs.Bytes.{bytes, hex, part}
use Rattle.text.specs.Decimal.{decimal, digits_of}
use Rattle.text.specs.Put.{placed}
use Rattle.lines.specs.declared.output.Out.{Out}
use Rattle.pcap.specs.Number.{low_first}
use Rattle.pcap.specs.Layout.{spelled}
use Rattle.edm.specs.Packet.{identifiers, carried}
use Rattle.edm.specs.Frame.{read_frame}
use Rattle.dump.specs.Total.{hundredths, total_line}
use Rattle.dump.specs.Put.{record_at, kept_bytes, skipped_bytes, total_bytes}
use Rattle.dump.specs.declared.put.Form.{Form}
use Rattle.dump.specs.declared.put.Form.TheVariants as form
use Rattle.dump.specs.declared.window.Dumping.{Dumping}
use Rattle.dump.proofs.window.report as report
use Rattle.dump.proofs.put.put_end as put-end

module _ (T : RattleType) (L : Laws T) (g : Print.Ghosts T.Denot) (b : Dict) (κs : Lfts 4) (rt : Bor T.Denot) (output : MutBor (List ℕ)) (src : Bor (List ℕ)) (d x : Dumping)
    (e : AtExit (ended_of 4 (report.Kinds.ps T L) (report.Kinds.r T L)) κs) where
  -- one that forgets skipped bytes of the window before; one that reports them at the seam, so that one range becomes two
  pub skipped_join : (f : Form) → report.Reads.Post T L g b κs (rt, (output, (f, (src, (record { start = 0; len = 100; kept = false }, (3, (d, tt))))))) x e → d.pending ≡ 5
      → (x.pending ≡ 8) × (e.1.0.now ≡ output.now)
  skipped_join f p w = (rw w at (ap (λ (y : Dumping). y.pending) p.leads), (p.waits refl).1)

  module _ (s : src.now ≡ hex "00 00 00 AA 00 02 00 71 55") (c : d.out.count ≡ 0) where
    -- one that counts places from the window's start; one that puts a frame before the skipped bytes, or over them
    pub frame-after_skipped : report.Reads.Post T L g b κs (rt, (output, (form.Lines, (src, (record { start = 3; len = 6; kept = true }, (6, (d, tt))))))) x e → d.place ≡ 61438 → d.pending ≡ 2
        → e.1.0.now ≡ placed output.now 0 (bytes "skipped 61439+2\nkept 61441+6 StartEvent\n")
    unfolding skipped_bytes kept_bytes decimal digits_of part read_frame identifiers carried
    frame-after_skipped p q w = rw (s, w, c, q) at (p.puts refl).leaves

    -- one whose seconds have another number of bytes, or whose time is that of the skipped bytes; one that puts these into the capture
    pub time_of_place : report.Reads.Post T L g b κs (rt, (output, (form.Capture, (src, (record { start = 3; len = 6; kept = true }, (6, (d, tt))))))) x e → d.place ≡ 2499997
        → e.1.0.now ≡ placed output.now 0 (hex "02000000 20A10700 06000000 06000000 AA0002007155")
    unfolding skipped_bytes kept_bytes record_at part spelled low_first
    time_of_place p q = rw (s, c, q) at (p.puts refl).leaves

-- one that forgets the bytes that are skipped at the end, rounds the share, or counts the refused frames beside the kept ones
pub last_line : (T : RattleType) (L : Laws T) (g : Print.Ghosts T.Denot) (b : Dict) (κs : Lfts 3) (rt : Bor T.Denot) (output : MutBor (List ℕ)) (o x : Out)
    (e : AtExit (ended_of 3 (put-end.Kinds.ps T L) (put-end.Kinds.r T L)) κs)
    → put-end.Reads.Post T L g b κs (rt, (output, (o, (form.Lines, (18, (6, (record { kept = 1; refused = 1; skipped = 12 }, tt))))))) x e → o.count ≡ 0
    → e.1.0.now ≡ placed output.now 0 (bytes "skipped 12+6\ntotal: kept 1, 1 of them refused; skipped 12 of 18 bytes (66.66%)\n")
unfolding skipped_bytes total_bytes total_line hundredths decimal digits_of
last_line T L g b κs rt output o x e p c = rw c at p.leaves
