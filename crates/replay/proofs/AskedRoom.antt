-- What a line asks about is no longer than the line.
use Rattle.std.proofs.Common.{ℕ, ◌+◌, ◌≤◌, Bool, true, false, cond, ltb, leb, List, [], length, take, drop, arith, length-drop}
use Rattle.text.specs.Bytes.{bytes}
use Rattle.text.specs.Find.{first_of}
use Rattle.replay.specs.declared.question.Writer.TheVariants as writer
use Rattle.replay.specs.declared.question.Kind.{Kind}
use Rattle.replay.specs.declared.question.Kind.TheVariants as kind
use Rattle.replay.specs.declared.question.Explained.{Explained}
use Rattle.std.specs.Prelude.{Option, Some, None}
use Rattle.lines.specs.Number.{Amount, amount, no_amount, number_in}
use Rattle.lines.specs.Cut.{Cut, cut, whole, cut_at}
use Rattle.replay.specs.Question.{at_space, Sized, sized, unsized, followed_by, of_cut, number_then, Asked, reads, writes, resends, nothing, with_size, with_channel, with_size_and_channel, with_size_alone, kinds, explainable_by, of_kind, with_kind, by_kind, by_word, kind_of, words, asked}

-- What is left of a line after a space of it, which holds what is asked about

abbrev after_cut : Cut → List ℕ
after_cut (cut front rest) = rest
after_cut whole = []

abbrev after_number : Sized → List ℕ
after_number (sized n rest) = rest
after_number unsized = []

abbrev pub hex_asked : Asked → List ℕ
hex_asked (reads r hex) = hex
hex_asked (writes w size hex) = hex
hex_asked (resends size) = []
hex_asked nothing = []

space_shorter : (s : List ℕ) → length (after_cut (at_space s)) ≤ length s
unfolding cut_at
space_shorter s = go (ltb (first_of (bytes " ") s) (length s)) (first_of (bytes " ") s)
  where
    go : (k : Bool) (i : ℕ) → length (after_cut (cond k (cut (take i s) (drop (i + 1) s)) whole)) ≤ length s
    go true i = omega (arith, length-drop (i + 1) s)
    go false i = omega arith

number_shorter : (s : List ℕ) → length (after_number (number_then s)) ≤ length s
unfolding number_then
number_shorter s = go (at_space s) (space_shorter s)
  where
    some_or_none : (n : Amount) (rest : List ℕ) → length (after_number (followed_by n rest)) ≤ length rest
    some_or_none (amount n) rest = omega arith
    some_or_none no_amount rest = omega arith

    go : (c : Cut) → length (after_cut c) ≤ length s → length (after_number (of_cut c)) ≤ length s
    go (cut front rest) h = omega (arith, some_or_none (number_in front) rest)
    go whole h = h

kind_shorter : (k : Option Kind) (rest : List ℕ) → length (hex_asked (by_kind k rest)) ≤ length rest
kind_shorter (Some (kind.Read r)) rest = omega arith
kind_shorter (Some (kind.Write w)) rest = go (number_then rest) (number_shorter rest)
  where
    go : (x : Sized) → length (after_number x) ≤ length rest → length (hex_asked (with_size w x)) ≤ length rest
    go (sized n t) h = h
    go unsized h = h
kind_shorter (Some kind.Data) rest = go (number_then rest) (number_shorter rest)
  where
    bounded : (k : Bool) (c n : ℕ) (t : List ℕ) → length (hex_asked (cond k (writes (writer.Data c) n t) nothing)) ≤ length t
    bounded true c n t = omega arith
    bounded false c n t = omega arith

    channel : (n : ℕ) (x : Sized) → length (hex_asked (with_channel n x)) ≤ length (after_number x)
    channel n (sized c t) = bounded (leb c 255) c n t
    channel n unsized = omega arith

    go : (x : Sized) → length (after_number x) ≤ length rest → length (hex_asked (with_size_and_channel x)) ≤ length rest
    go (sized n t) h = omega (arith, channel n (number_then t), number_shorter t)
    go unsized h = h
kind_shorter (Some kind.Resend) rest = go (number_in rest)
  where
    go : (n : Amount) → length (hex_asked (with_size_alone n)) ≤ length rest
    go (amount size) = omega arith
    go no_amount = omega arith
kind_shorter (Some kind.Explain) rest = go (at_space rest) (space_shorter rest)
  where
    known : (x : Option Explained) (t : List ℕ) → length (hex_asked (of_kind x t)) ≤ length t
    known (Some x) t = omega arith
    known None t = omega arith

    go : (c : Cut) → length (after_cut c) ≤ length rest → length (hex_asked (with_kind c)) ≤ length rest
    go (cut kind t) h = omega (arith, known (explainable_by kinds kind) t)
    go whole h = h
kind_shorter None rest = omega arith

pub asked_shorter : (line : List ℕ) → length (hex_asked (asked line)) ≤ length line
unfolding asked
asked_shorter line = go (at_space line) (space_shorter line)
  where
    go : (c : Cut) → length (after_cut c) ≤ length line → length (hex_asked (by_word c)) ≤ length line
    go (cut word rest) h = omega (arith, kind_shorter (kind_of words word) rest)
    go whole h = h
