-- Laws of what a line asks: the word that a name is.
use Rattle.std.proofs.Common.{◌≡◌, ℕ, Bool, true, false, cond, List, [], ◌∷◌, map, refl, ap, ◌∙◌}
use Rattle.std.specs.Prelude.{Option, Some, None, find, option_map}
use Rattle.text.specs.Bytes.{bytes, same}
use Rattle.replay.specs.declared.question.Explained.{Explained}
use Rattle.replay.specs.declared.question.Kind.{Kind}
use Rattle.replay.specs.declared.question.Word as code
use Rattle.replay.specs.Question.{Word, ◌asks◌, kind_of, KindName, ◌names◌, explainable_by}
use Rattle.replay.specs.Steps.{held, of_word, of_name, Says, SaysKinds}

-- what the first of these pairs with a name means
abbrev first_named : {T : Type 0} → List ℕ → List (List ℕ × T) → Option T
first_named name [] = None
first_named name (p ∷ ps) = cond (same name p.0) (Some p.1) (first_named name ps)

held_first : {T : Type 0} (name : List ℕ) (rows : List (code.Word T)) → option_map (λ w. w.1) (find (λ w. same name w.0.now) rows) ≡ first_named name (map held rows)
held_first name [] = refl
held_first name (w ∷ rows) = go (same name w.0.now) (held_first name rows)
  where
    go : (k : Bool) → option_map (λ w. w.1) (find (λ w. same name w.0.now) rows) ≡ first_named name (map held rows)
        → option_map (λ w. w.1) (cond k (Some w) (find (λ w. same name w.0.now) rows)) ≡ cond k (Some w.1) (first_named name (map held rows))
    go true h = refl
    go false h = h

word-first : (name : List ℕ) (table : List Word) → first_named name (map of_word table) ≡ kind_of table name
unfolding kind_of
word-first name [] = refl
word-first name ((word asks k) ∷ rest) = ap (cond (same name (bytes word)) (Some k)) (word-first name rest)

kind-first : (name : List ℕ) (table : List KindName) → first_named name (map of_name table) ≡ explainable_by table name
unfolding explainable_by
kind-first name [] = refl
kind-first name ((kind names x) ∷ rest) = ap (cond (same name (bytes kind)) (Some x)) (kind-first name rest)

pub means_word : (name : List ℕ) (rows : List (code.Word Kind)) (table : List Word) → Says rows table → option_map (λ w. w.1) (find (λ w. same name w.0.now) rows) ≡ kind_of table name
means_word name rows table e = held_first name rows ∙ ap (first_named name) e ∙ word-first name table

pub means-kind : (name : List ℕ) (rows : List (code.Word Explained)) (table : List KindName) → SaysKinds rows table
    → option_map (λ w. w.1) (find (λ w. same name w.0.now) rows) ≡ explainable_by table name
means-kind name rows table e = held_first name rows ∙ ap (first_named name) e ∙ kind-first name table
