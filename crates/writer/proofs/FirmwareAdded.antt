-- What it means for the bytes of a text line that fields are added: they stand before its CR LF, after a comma, or after a colon where the event has no
-- field, and nothing else of the line changes. Assumes nothing.
use Prim.Native.Nat.{ℕ, ◌-◌}
use mathlib.Core.Path.{◌≡◌, refl, ap, sym, ◌∙◌}
use mathlib.Core.List.{List, [], ◌∷◌, ◌++◌, map, append-nil, append_assoc}
use native.Mathlib.Omega.{arith}
use lib.ListN.{length, take, length-append}
use lib.Seq.{take_at}
use Rattle.text.specs.Bytes.{bytes}
use Rattle.text.specs.Find.{crlf}
use Rattle.text.specs.Field.{join}
use Rattle.at.specs.Event.{Row, name_of, Value, Event, event}
use Rattle.writer.specs.Line.{contents_of, written, after_name, line_adding}
use Rattle.writer.specs.Firmware.{TextEvent}
use Rattle.writer.proofs.FirmwareAccepted.{text_line}

join_more : (g : List ℕ) (fs : List (List ℕ)) (f : List ℕ) (added : List (List ℕ)) → join (g ∷ (fs ++ f ∷ added)) ≡ join (g ∷ fs) ++ 44 ∷ join (f ∷ added)
unfolding join
join_more g [] f added = refl
join_more g (h ∷ fs) f added = ap (λ (t : List ℕ). g ++ 44 ∷ t) (join_more h fs f added) ∙ sym (append_assoc g (44 ∷ join (h ∷ fs)) (44 ∷ join (f ∷ added)))

-- what stands between the line so far and the first added field
abbrev pub separator : List Value → List ℕ
separator [] = bytes ":"
separator (v ∷ vs) = bytes ","

abbrev pub separator_of : Event → List ℕ
separator_of (event r vs) = separator vs

name_more : (src : List ℕ) (vs : List Value) (f : List ℕ) (added : List (List ℕ))
    → after_name (map written (contents_of src vs) ++ f ∷ added) ≡ after_name (map written (contents_of src vs)) ++ (separator vs ++ join (f ∷ added))
unfolding after_name
name_more src [] f added = refl
name_more src (v ∷ vs) f added = ap (λ (t : List ℕ). 58 ∷ t) (join_more _ (map written (contents_of src vs)) f added)

without_end : (b : List ℕ) → take (length (b ++ crlf) - 2) (b ++ crlf) ≡ b
without_end b = take_at b crlf (length (b ++ crlf) - 2) (omega (arith, length-append b crlf))

pub added-before-end : (src : List ℕ) (rows : List Row) (e : Event) → TextEvent rows e → (f : List ℕ) (added : List (List ℕ))
    → let l = line_adding [] src e in line_adding (f ∷ added) src e ≡ take (length l - 2) l ++ (separator_of e ++ join (f ∷ added)) ++ crlf
added-before-end src rows (event r vs) t f added =
    let fields = map written (contents_of src vs) in
    let b = crlf ++ name_of r ++ after_name fields in
    let bare : line_adding [] src (event r vs) ≡ b ++ crlf = rw (append-nil fields) at (text_line src r vs t.1 []) in
    rw (text_line src r vs t.1 (f ∷ added), name_more src vs f added, bare, without_end b)
    (ap (λ (x : List ℕ). x ++ crlf) (sym (append_assoc (crlf ++ name_of r) (after_name fields) (separator vs ++ join (f ∷ added)))))
