-- The letters of a row: values print by them as by the kinds that they stand for.
use Prim.Native.Nat.{ℕ}
use mathlib.Core.Bool.{Bool, true, false, cond}
use mathlib.Core.Path.{◌≡◌, refl}
use mathlib.Core.List.{List, [], ◌∷◌, ◌++◌, map}
use lib.Dec.{eqb}
use Rattle.text.specs.Bytes.{bytes}
use Rattle.at.specs.Event.{Kind, bits, text, ip_type, bt_type, protocol, reason, Row, kinds_of, Value, num, place}
use Rattle.at.specs.Table.{letter_of, letters_of}
use Rattle.render.specs.Words.{number_word, word_of, spaced_word, values_line}
use Rattle.render.specs.Steps.{kind_of, kinds_in}

letter_number : (k : Kind) (n : ℕ) → number_word (kind_of (letter_of k)) n ≡ number_word k n
unfolding kind_of number_word
letter_number (bits w) n = go (eqb w 8) (eqb w 16)
  where
    go : (eight sixteen : Bool) → number_word (kind_of (cond eight 98 (cond sixteen 119 108))) n ≡ number_word (bits w) n
    go true k = refl
    go false true = refl
    go false false = refl
letter_number text n = refl
letter_number ip_type n = refl
letter_number bt_type n = refl
letter_number protocol n = refl
letter_number reason n = refl

letter_word : (k : Kind) (src : List ℕ) (v : Value) → word_of (kind_of (letter_of k)) src v ≡ word_of k src v
letter_word k src (num n) = letter_number k n
letter_word k src (place start len) = refl

-- a letter is that of the Bluetooth type exactly where its kind is
letter_spaced : (k : Kind) (src : List ℕ) (v : Value) → spaced_word (kind_of (letter_of k)) src v ≡ spaced_word k src v
unfolding kind_of
letter_spaced (bits w) src v = go (eqb w 8) (eqb w 16) (letter_word (bits w) src v)
  where
    go : (eight sixteen : Bool) → word_of (kind_of (cond eight 98 (cond sixteen 119 108))) src v ≡ word_of (bits w) src v
        → spaced_word (kind_of (cond eight 98 (cond sixteen 119 108))) src v ≡ bytes " " ++ word_of (bits w) src v
    go true k e = rw e
    go false true e = rw e
    go false false e = rw e
letter_spaced text src v = refl
letter_spaced ip_type src v = refl
letter_spaced bt_type src v = refl
letter_spaced protocol src v = refl
letter_spaced reason src v = refl

letters_line : (ks : List Kind) (src : List ℕ) (vs : List Value) → values_line (kinds_in (map letter_of ks)) src vs ≡ values_line ks src vs
unfolding values_line
letters_line ks src [] = refl
letters_line [] src (v ∷ vs) = refl
letters_line (k ∷ ks) src (v ∷ vs) = rw (letter_spaced k src v, letters_line ks src vs)

pub row_line : (r : Row) (src : List ℕ) (vs : List Value) → values_line (kinds_in (letters_of r)) src vs ≡ values_line (kinds_of r) src vs
row_line r src vs = letters_line (kinds_of r) src vs
