-- The lines of a dump: a range with its place and its length, and all of them.
use Rattle.std.specs.Prelude.{ℕ, ◌+◌, List, [], ◌∷◌, ◌++◌, Bool, cond, eqb, length}
use Rattle.text.specs.Bytes.{bytes}
use Rattle.text.specs.Decimal.{decimal}
use Rattle.scan.specs.Cut.{Piece, text, mark}
use Rattle.scan.specs.Scan.{Scanned, listed, refuse}
use Rattle.scan.specs.declared.listed.Listed.{Listed}
use Rattle.render.specs.Refusal.{refused_line}

abbrev pub mark_word : Bool → List ℕ
mark_word kept = cond kept (bytes "kept ") (bytes "skipped ")

abbrev pub range_line : Listed → List ℕ
range_line r = mark_word r.kept ++ decimal r.start ++ bytes "+" ++ decimal r.len

-- a range that starts at a place
abbrev pub piece_line : ℕ → Piece → List ℕ
piece_line at p = range_line (record { start = at; len = length (text p); kept = eqb (mark p) 1 })

-- the ranges after the first, each after a semicolon
unfoldable pub more_line : ℕ → List Piece → List ℕ
more_line at [] = []
more_line at (p ∷ ps) = bytes " ; " ++ piece_line at p ++ more_line (at + length (text p)) ps

abbrev pub ranges_line : List Piece → List ℕ
ranges_line [] = bytes "-"
ranges_line (p ∷ ps) = piece_line 0 p ++ more_line (length (text p)) ps

abbrev pub scan_line : Scanned → List ℕ
scan_line (listed ps) = ranges_line ps
scan_line (refuse n) = refused_line n
