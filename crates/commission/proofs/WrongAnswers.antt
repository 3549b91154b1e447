-- What every `answered` that meets its contract writes and does to the table, so that wrong ones do not meet it; and that a printed address is the one that was sent.
-- `answered.Reads.Post` is what `answered` ensures. Assumes nothing.
use Prim.Native.Nat.{ℕ, ◌+◌, ◌*◌, ◌/◌, ◌%◌, ◌<◌}
use mathlib.Core.Path.{◌≡◌}
use mathlib.Core.List.{List, [], ◌∷◌, ◌++◌}
use mathlib.Core.Bool.{Bool, true, false}
use native.Mathlib.Omega.{arith}
use contract.Lifetimes.{Lfts}
use denote.Param.Laws.{Laws}
use denote.RattleType.{RattleType}
use mir.Syntax.{Dict}
use Rattle.std.specs.declared.io.Print as Print
use denote.Triple.Clauses.{AtExit}
use borrow.Fn.Kinds.{Dens, ended_of}
use Rattle.text.specs.Bytes.{bytes, same, starts_with}
use Rattle.text.specs.Find.{first_of}
use Rattle.text.specs.Decimal.{decimal}
use Rattle.text.specs.Number.{digits_from}
use Rattle.lines.specs.Cut.{cut_at}
use Rattle.lines.specs.Input.{without_cr}
use Rattle.lines.specs.Number.{number_in}
use Rattle.lines.specs.Output.{Holds}
use Rattle.channels.specs.Machine.{Machine, ipv4}
use Rattle.channels.specs.View.{view}
use Rattle.commission.specs.Question.{Asked, asks_rows, nothing, asked, asked_in}
use Rattle.commission.specs.Reply.{row_line, open_rows, after, answer_line}
use Rattle.lines.specs.declared.output.Out.{Out}
use Rattle.commission.proofs.session.answered as answered

-- the address that a connect event carries is the one that is printed, byte for byte
pub address_as_sent : (channel a b c d port : ℕ) → a < 256 → b < 256 → c < 256 → d < 256
    → row_line channel (ipv4 (a ∷ b ∷ c ∷ d ∷ []) port) ≡ decimal channel ++ bytes " " ++ (bytes "open ipv4 " ++ (decimal a ++ bytes "." ++ decimal b ++ bytes "." ++ decimal c ++ bytes "." ++ decimal d) ++ bytes " " ++ decimal port)
unfolding row_line
address_as_sent channel a b c d port ha hb hc hd =
    let n = ((a * 256 + b) * 256 + c) * 256 + d in
    let first : n / 16777216 % 256 ≡ a = omega arith in
    let second : n / 65536 % 256 ≡ b = omega arith in
    let third : n / 256 % 256 ≡ c = omega arith in
    let fourth : n % 256 ≡ d = omega arith in
    rw (first, second, third, fourth)

module _ (T : RattleType) (L : Laws T) (g : Print.Ghosts T.Denot) (d : Dict) (κs : Lfts 6) (a : Dens κs (answered.Kinds.ps T L)) (x : Out)
    (e : AtExit (ended_of 6 (answered.Kinds.ps T L) (answered.Kinds.r T L)) κs) (p : answered.Reads.Post T L g d κs a x e) where
  abbrev gone : Bool
  gone = a.1.1.1.1.1.0

  abbrev line : List ℕ
  line = a.1.1.1.1.0.now

  abbrev m : Machine
  m = view a.1.1.1.0.now

  -- this is written, after what was to be written before, and the table is then this
  abbrev Leaves : List ℕ → Machine → Type 0
  Leaves r n = Holds a.1.0.now a.1.1.1.1.1.1.0 r x e.1.0.now × (view e.1.1.1.0.now ≡ n)

  leaves : (q : Asked) → asked_in gone line ≡ q → Leaves (answer_line m q) (after m q)
  leaves q h = rw h at p

  -- one that feeds in what no line asks for, or counts it as refused
  pub bad_line : asked_in gone line ≡ nothing → Leaves (bytes "what?\n") m
  bad_line h = leaves nothing h

  -- one whose questions change the table
  pub rows_answered : asked_in gone line ≡ asks_rows → Leaves (open_rows m 256 ++ bytes "end" ++ bytes "\n") m
  rows_answered h = leaves asks_rows h

  -- one that takes 256 for channel 0; one that takes a sign; one that takes a word with a space too many
  pub no_channel : gone ≡ false → line ≡ bytes "row 256" → Leaves (bytes "what?\n") m
  unfolding asked_in asked without_cr cut_at first_of starts_with same number_in digits_from
  no_channel h l = bad_line (rw (h, l))

  pub no_sign : gone ≡ false → line ≡ bytes "row +3" → Leaves (bytes "what?\n") m
  unfolding asked_in asked without_cr cut_at first_of starts_with same number_in digits_from
  no_sign h l = bad_line (rw (h, l))

  -- one that answers the rest of a line whose front is gone
  pub front_gone : gone ≡ true → Leaves (bytes "what?\n") m
  unfolding asked_in
  front_gone h = bad_line (rw h)
