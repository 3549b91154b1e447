-- The table after any lines is the machine's after the frames among them, by the contract of `answered`: `answered.Reads.Post` is what it ensures. Assumes nothing.
use Prim.Native.Nat.{ℕ}
use mathlib.Core.Path.{◌≡◌, refl, ap, ◌∙◌}
use mathlib.Core.List.{List, [], ◌∷◌, ◌++◌}
use contract.Lifetimes.{Lfts}
use denote.Param.Laws.{Laws}
use denote.RattleType.{RattleType}
use mir.Syntax.{Dict}
use Rattle.std.specs.declared.io.Print as Print
use denote.Triple.Clauses.{AtExit}
use borrow.Fn.Kinds.{Dens, ended_of}
use Rattle.channels.specs.declared.Channels.{Channels}
use Rattle.channels.specs.Machine.{Machine, run}
use Rattle.channels.specs.View.{view}
use Rattle.commission.specs.Question.{Asked, feeds, asks_row, asks_rows, asks_counts, nothing, asked_in}
use Rattle.commission.specs.Reply.{after}
use Rattle.lines.specs.declared.output.Out.{Out}
use Rattle.commission.proofs.session.answered as answered

-- a call that answered a line
pub record Answering (T : RattleType) (L : Laws T) (g : Print.Ghosts T.Denot) (d : Dict) : Type 0 where
  pub lifetimes : Lfts 6
  pub args : Dens lifetimes (answered.Kinds.ps T L)
  pub out : Out
  pub exit : AtExit (ended_of 6 (answered.Kinds.ps T L) (answered.Kinds.r T L)) lifetimes
  pub allowed : answered.Reads.Post T L g d lifetimes args out exit

abbrev pub table_before : (T : RattleType) (L : Laws T) (g : Print.Ghosts T.Denot) (d : Dict) → Answering T L g d → Channels
table_before T L g d c = c.args.1.1.1.0.now

abbrev pub table_after : (T : RattleType) (L : Laws T) (g : Print.Ghosts T.Denot) (d : Dict) → Answering T L g d → Channels
table_after T L g d c = c.exit.1.1.1.0.now

abbrev pub asked_by : (T : RattleType) (L : Laws T) (g : Print.Ghosts T.Denot) (d : Dict) → Answering T L g d → Asked
asked_by T L g d c = asked_in c.args.1.1.1.1.1.0 c.args.1.1.1.1.0.now

-- calls one after the other, each with the table that the one before it left
pub data Lines (T : RattleType) (L : Laws T) (g : Print.Ghosts T.Denot) (d : Dict) : Channels → Channels → Type 0 where
  none : {t : Channels} → Lines T L g d t t
  then : {t w : Channels} (c : Answering T L g d) → table_before T L g d c ≡ t → Lines T L g d (table_after T L g d c) w → Lines T L g d t w

abbrev pub frame_in : Asked → List (List ℕ)
frame_in (feeds frame) = frame ∷ []
frame_in (asks_row c) = []
frame_in asks_rows = []
frame_in asks_counts = []
frame_in nothing = []

abbrev pub frames_in : (T : RattleType) (L : Laws T) (g : Print.Ghosts T.Denot) (d : Dict) {t w : Channels} → Lines T L g d t w → List (List ℕ)
frames_in T L g d none = []
frames_in T L g d (then c e r) = frame_in (asked_by T L g d c) ++ frames_in T L g d r

run_on : (m : Machine) (a : Asked) (frames : List (List ℕ)) → run (after m a) frames ≡ run m (frame_in a ++ frames)
unfolding run
run_on m (feeds frame) frames = refl
run_on m (asks_row c) frames = refl
run_on m asks_rows frames = refl
run_on m asks_counts frames = refl
run_on m nothing frames = refl

pub lines_are_run : (T : RattleType) (L : Laws T) (g : Print.Ghosts T.Denot) (d : Dict) {t w : Channels} (r : Lines T L g d t w) → view w ≡ run (view t) (frames_in T L g d r)
unfolding run
lines_are_run T L g d none = refl
lines_are_run T L g d {t} (then c e r) =
    lines_are_run T L g d r
    ∙ ap (λ (m : Machine). run m (frames_in T L g d r)) (c.allowed.1 ∙ ap (λ (u : Channels). after (view u) (asked_by T L g d c)) e)
    ∙ run_on (view t) (asked_by T L g d c) (frames_in T L g d r)
