-- Places inside a slice of n bytes: what a caller needs before it slices.
use Rattle.std.specs.Prelude.{ℕ, ◌+◌, ◌≤◌, ◌<◌, List, [], ◌∷◌}
use Rattle.at.specs.Refusal.{OrRefused, good, refused}
use Rattle.at.specs.Event.{Value, num, place, Event, event, ReadEvent, event_to}
use Rattle.at.specs.Binary.{Tried, not_binary, tried}
use Rattle.at.specs.Response.{Response, ok, other, error}
use Rattle.at.specs.Walk.{Step, one, end, refused_at}

-- a text or data: place plus length is at most n; a number has no place
abbrev pub Inside : ℕ → Value → Type 0
Inside n (num x) = Unit {0}
Inside n (place p len) = p + len ≤ n

abbrev pub EachInside : ℕ → List Value → Type 0
EachInside n [] = Unit {0}
EachInside n (v ∷ vs) = Inside n v × EachInside n vs

abbrev pub EventInside : ℕ → Event → Type 0
EventInside n (event r vs) = EachInside n vs

-- an event that was read, and the place just past it
abbrev pub ReadInside : ℕ → ReadEvent → Type 0
ReadInside n (event_to e past) = EventInside n e × (past ≤ n)

-- what holds of an answer that is good; of a refusal nothing is asked
abbrev pub IfGood : {A : Type 0} → (A → Type 0) → OrRefused A → Type 0
IfGood P (good a) = P a
IfGood P (refused n) = Unit {0}

abbrev pub AnswerInside : ℕ → OrRefused ReadEvent → Type 0
AnswerInside n a = IfGood (ReadInside n) a

abbrev pub TriedInside : ℕ → Tried → Type 0
TriedInside n not_binary = Unit {0}
TriedInside n (tried a) = AnswerInside n a

abbrev pub ResponseInside : ℕ → Response → Type 0
ResponseInside n (ok p len) = p + len ≤ n
ResponseInside n (other p len) = p + len ≤ n
ResponseInside n error = Unit {0}

-- a step that is refused reports the place of a byte
abbrev pub StepInside : ℕ → Step → Type 0
StepInside n (one e past) = EventInside n e × (past ≤ n)
StepInside n end = Unit {0}
StepInside n (refused_at m p) = p < n
