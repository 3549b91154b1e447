-- What the two writers ensure, for the events of any radio and of the two that there are. `Reads.Post` is the promise that a contract makes.
-- Assumes nothing.
use mathlib.Core.List.{List}
use mir.Syntax.{Dict}
use lib.ListN.{length}
use contract.Lifetimes.{Lfts}
use denote.Param.Laws.{Laws}
use denote.RattleType.{RattleType}
use denote.Triple.Clauses.{AtExit}
use borrow.Fn.Kinds.{ParamKind, ResultKind, Out, Dens, ended_of}
use Rattle.at.specs.contracts.w26.ATEvent as type26
use Rattle.at.specs.contracts.w36.ATEvent as type36
use Rattle.at.proofs.w26.ATEvent.TheLaws as laws26
use Rattle.at.proofs.w36.ATEvent.TheLaws as laws36
use Rattle.at.specs.Parts.{together}
use Rattle.writer.specs.declared.Lines as Lines
use Rattle.writer.specs.contracts.W26ATEventLines.TheImpl as impl26
use Rattle.writer.specs.contracts.W36ATEventLines.TheImpl as impl36
use Rattle.writer.specs.Write.{parts_for, to_write, Writes}
use Rattle.writer.proofs.WriterAnswers.{Answer}
use Rattle.writer.proofs.write as write
use Rattle.writer.proofs.write_parts as write_parts

-- the events of a radio
pub record Radio : Type 2 where
  pub event : RattleType
  pub laws : Laws event
  pub lines : Lines.Ghosts event.Denot
  pub dict : Dict

abbrev pub w26 : Radio
w26 = record { event = type26.the_row; laws = laws26.the_row_laws; lines = impl26.ghosts; dict = impl26.dict }

abbrev pub w36 : Radio
w36 = record { event = type36.the_row; laws = laws36.the_row_laws; lines = impl36.ghosts; dict = impl36.dict }

-- of each writer: what it is lent and given, what it answers, and what it ensures
module _ (r : Radio) where
  abbrev pub given : List (ParamKind 3)
  given = write.Kinds.ps r.event r.laws

  abbrev pub answers : ResultKind 3
  answers = write.Kinds.r r.event r.laws

  abbrev pub Ensured : Out 3 given answers
  Ensured = write.Reads.Post r.event r.laws r.lines r.dict

  abbrev pub given_parts : List (ParamKind 3)
  given_parts = write_parts.Kinds.ps r.event r.laws

  abbrev pub answers_parts : ResultKind 3
  answers_parts = write_parts.Kinds.r r.event r.laws

  abbrev pub EnsuredParts : Out 3 given_parts answers_parts
  EnsuredParts = write_parts.Reads.Post r.event r.laws r.lines r.dict

  -- what they ensure is the promise of which WriterAnswers speaks: its laws on lengths, buffers and refusals hold of both
  pub promise : (κs : Lfts 3) (a : Dens κs given) (q : Answer) (s : AtExit (ended_of 3 given answers) κs) → Ensured κs a q s
      → Writes a.0.now (to_write (length a.0.now) a.1.0.now (r.lines.event_of a.1.1.0)) q s.0.now
  promise κs a q s p = p

  pub promise_parts : (κs : Lfts 3) (a : Dens κs given_parts) (q : Answer) (s : AtExit (ended_of 3 given_parts answers_parts) κs) → EnsuredParts κs a q s
      → Writes a.0.now (parts_for (length a.0.now) a.1.0.now (together r.lines.rows a.1.1.0)) q s.0.now
  promise_parts κs a q s p = p
