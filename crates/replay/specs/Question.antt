-- What a line asks: a word, a space, and what the word takes.
--   frame, w26, w36, binary, walk36, response   HEX
--   whyframe, why26, why36, whybinary           HEX
--   pcap, scan                                  HEX
--   request, again26, again36                   SIZE HEX
--   data                                        SIZE CHANNEL HEX
--   resend                                      SIZE
--   explain                                     KIND HEX, with frame, w26, w36, binary or response for KIND
use Rattle.std.specs.Prelude.{ℕ, cond, List, [], ◌∷◌, nat_le, Option, Some, None}
use Prim.Native.String.{String}
use Rattle.text.specs.Bytes.{bytes, same}
use Rattle.lines.specs.Cut.{Cut, cut, whole, cut_at}
use Rattle.lines.specs.Number.{Amount, amount, no_amount, number_in}
use Rattle.replay.specs.declared.question.Reader.{Reader}
use Rattle.replay.specs.declared.question.Reader.TheVariants as reader
use Rattle.replay.specs.declared.question.Writer.{Writer}
use Rattle.replay.specs.declared.question.Writer.TheVariants as writer
use Rattle.replay.specs.declared.question.Kind.{Kind}
use Rattle.replay.specs.declared.question.Kind.TheVariants as kind
use Rattle.replay.specs.declared.question.Explained.{Explained}
use Rattle.replay.specs.declared.question.Explained.TheVariants as explained

pub data Word : Type 0 where
  ◌asks◌ : String → Kind → Word

infix 30 ◌asks◌
unfoldable pub words : List Word
words =
    ("frame" asks kind.Read reader.Frame)
    ∷ ("w26" asks kind.Read reader.W26)
    ∷ ("w36" asks kind.Read reader.W36)
    ∷ ("binary" asks kind.Read reader.Binary)
    ∷ ("walk36" asks kind.Read reader.Walk36)
    ∷ ("response" asks kind.Read reader.Response)
    ∷ ("whyframe" asks kind.Read reader.WhyFrame)
    ∷ ("why26" asks kind.Read reader.Why26)
    ∷ ("why36" asks kind.Read reader.Why36)
    ∷ ("whybinary" asks kind.Read reader.WhyBinary)
    ∷ ("pcap" asks kind.Read reader.Capture)
    ∷ ("scan" asks kind.Read reader.Scan)
    ∷ ("data" asks kind.Data)
    ∷ ("request" asks kind.Write writer.Request)
    ∷ ("resend" asks kind.Resend)
    ∷ ("again26" asks kind.Write writer.Again26)
    ∷ ("again36" asks kind.Write writer.Again36)
    ∷ ("explain" asks kind.Explain)
    ∷ []

unfoldable pub kind_of : List Word → List ℕ → Option Kind
kind_of [] name = None
kind_of ((word asks k) ∷ rest) name = cond (same name (bytes word)) (Some k) (kind_of rest name)

-- the kinds of bytes that are explained
pub data KindName : Type 0 where
  ◌names◌ : String → Explained → KindName

infix 30 ◌names◌
unfoldable pub kinds : List KindName
kinds =
    ("frame" names explained.Frame)
    ∷ ("w26" names explained.W26)
    ∷ ("w36" names explained.W36)
    ∷ ("binary" names explained.Binary)
    ∷ ("response" names explained.Response)
    ∷ []

unfoldable pub explainable_by : List KindName → List ℕ → Option Explained
explainable_by [] name = None
explainable_by ((kind names x) ∷ rest) name = cond (same name (bytes kind)) (Some x) (explainable_by rest name)

-- a text cut at its first space, or without one
abbrev pub at_space : List ℕ → Cut
at_space s = cut_at (bytes " ") s

-- a number up to the first space, and what follows that
pub data Sized : Type 0 where
  sized : ℕ → List ℕ → Sized
  unsized : Sized

abbrev pub followed_by : Amount → List ℕ → Sized
followed_by (amount n) rest = sized n rest
followed_by no_amount rest = unsized

abbrev pub of_cut : Cut → Sized
of_cut (cut n rest) = followed_by (number_in n) rest
of_cut whole = unsized

unfoldable pub number_then : List ℕ → Sized
number_then s = of_cut (at_space s)

-- what is asked; the bytes are still in hex
pub data Asked : Type 0 where
  reads : Reader → List ℕ → Asked
  writes : Writer → ℕ → List ℕ → Asked
  resends : ℕ → Asked
  nothing : Asked

abbrev pub with_size : Writer → Sized → Asked
with_size w (sized size rest) = writes w size rest
with_size w unsized = nothing

abbrev pub with_channel : ℕ → Sized → Asked
with_channel size (sized channel rest) = cond (nat_le channel 255) (writes (writer.Data channel) size rest) nothing
with_channel size unsized = nothing

abbrev pub with_size_and_channel : Sized → Asked
with_size_and_channel (sized size rest) = with_channel size (number_then rest)
with_size_and_channel unsized = nothing

abbrev pub with_size_alone : Amount → Asked
with_size_alone (amount size) = resends size
with_size_alone no_amount = nothing

abbrev pub of_kind : Option Explained → List ℕ → Asked
of_kind (Some x) rest = reads (reader.Explain x) rest
of_kind None rest = nothing

abbrev pub with_kind : Cut → Asked
with_kind (cut kind rest) = of_kind (explainable_by kinds kind) rest
with_kind whole = nothing

abbrev pub by_kind : Option Kind → List ℕ → Asked
by_kind (Some (kind.Read r)) rest = reads r rest
by_kind (Some (kind.Write w)) rest = with_size w (number_then rest)
by_kind (Some kind.Data) rest = with_size_and_channel (number_then rest)
by_kind (Some kind.Resend) rest = with_size_alone (number_in rest)
by_kind (Some kind.Explain) rest = with_kind (at_space rest)
by_kind None rest = nothing

abbrev pub by_word : Cut → Asked
by_word (cut word rest) = by_kind (kind_of words word) rest
by_word whole = nothing

unfoldable pub asked : List ℕ → Asked
asked line = by_word (at_space line)
