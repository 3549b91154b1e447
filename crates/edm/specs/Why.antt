-- Which field, and why, inside a frame: a refusal that carries a field is that of a W26 line, and what it names stands in the payload.
use Rattle.std.specs.Prelude.{ℕ, ◌≡◌, List}
use Rattle.at.specs.Refusal.{OrRefused, good, refused}
use Rattle.at.specs.W26.{w26}
use Rattle.at.specs.Why as at
use Rattle.edm.specs.Packet.{Carries, identifiers, carried, at_event, Packet}
use Rattle.edm.specs.Payload.{word}
use Rattle.edm.specs.Frame.{payload}

-- the payload t, at the place p, of an identifier that carries this
abbrev pub PayloadNames : Carries → ℕ → List ℕ → OrRefused Packet → Type 0
PayloadNames contents p t (good k) = Unit {0}
PayloadNames contents p t (refused n) = at.CarriesField n → (contents ≡ at_event) × at.NamesInLine w26 p t n

abbrev pub FrameNames : List ℕ → OrRefused Packet → Type 0
FrameNames s o = PayloadNames (carried identifiers (word s 3)) 5 (payload s) o
