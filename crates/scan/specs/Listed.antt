-- A range in the list, and the next one that is kept.
use Rattle.std.specs.Prelude.{ℕ, zero, suc, ◌+◌, ◌-◌, ◌*◌, List, cond, eqb, get_or, Option, Some, None}
use Rattle.scan.specs.declared.listed.Listed.{Listed}
use Rattle.scan.specs.declared.listed.Kept.{Kept}

-- range i, counted from 0; past the list's end an empty one that is skipped
abbrev pub listed_at : List ℕ → ℕ → Listed
listed_at list i = record { start = get_or list (i * 3) 0; len = get_or list (i * 3 + 1) 0; kept = eqb (get_or list (i * 3 + 2) 0) 1 }

-- the first kept range of the next n, from range i on
unfoldable pub kept_of : List ℕ → ℕ → ℕ → Option Kept
kept_of list zero i = None
kept_of list (suc n) i = cond (listed_at list i).kept (Some (record { start = (listed_at list i).start; len = (listed_at list i).len; next = i + 1 })) (kept_of list n (i + 1))

-- and of a list of this many ranges
abbrev pub next_kept : List ℕ → ℕ → ℕ → Option Kept
next_kept list count i = kept_of list (count - i) i
