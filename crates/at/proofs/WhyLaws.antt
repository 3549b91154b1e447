-- The field that a refusal names is the first that is missing or of wrong form: followed through the definitions, from one field to a line.
use Prim.Native.Nat.{ℕ, suc, ◌+◌, ◌-◌, ◌≤◌}
use mathlib.Core.Path.{◌≡◌, refl, ap, ◌∙◌}
use mathlib.Core.List.{List, [], ◌∷◌}
use mathlib.Core.Logic.{inl, inr}
use mathlib.Core.Bool.{Bool, true, false, ◌||◌}
use native.Mathlib.Omega.{arith}
use lib.Dec.{eqb, leb, ltb}
use lib.ListN.{length, take, drop, length-append, length-map}
use Rattle.text.specs.Bytes.{bytes, same, starts_with}
use Rattle.text.specs.Find.{crlf, first_of}
use Rattle.text.specs.Utf8.{utf8, inside_character}
use Rattle.text.specs.Number.{Num, some, none, number}
use Rattle.text.specs.Field.{Field, field}
use Rattle.text.proofs.BytesLaws.{same_equal}
use Rattle.text.proofs.Bools.{either, by_test}
use Rattle.at.specs.Refusal.{Refusal, no, missing, invalid, number_of, OrRefused, good, refused}
use Rattle.at.specs.Event.{Kind, bits, text, ip_type, bt_type, protocol, reason, is_protocol, is_reason, Row, name_of, kinds_of, Value, Event, ReadEvent, event_to, up_to, listed, read_field, and_rest, take_kind, Read, values, prepend, and_then, take_kinds, with_values, read_row}
use Rattle.at.specs.Line.{Radio, before, ends_in, Body, body, ended, framed, rows_named, fields_after, or_next, by_type, by_name, read_text, read_framed, read_line}
use Rattle.at.specs.Parts.{row_no}
use Rattle.at.specs.Binary.{fields_up_to, read_fields, marker, find_marker, announced, Data, data_at, read_data, with_data, read_marked, read_body, Tried, not_binary, tried, prefix, try_rows}
use Rattle.at.specs.W36.{w36, binary_table}
use Rattle.at.specs.Walk.{or_text, read_either, step_from, step_at}
use Rattle.at.specs.Response.{read_rest, read_response}
use Rattle.at.specs.Table.{letter_of}
use Rattle.at.specs.TableSteps.{roomy}
use Rattle.at.specs.Typed.{Listed}
use Rattle.at.specs.Why.{InList, NotInList, OfForm, WrongForm, Reached, Names, CarriesField, NamesInLine, NamesInBinary, LineNames, TriedNames, StepNames, UpToSeven, FieldUpToSeven, TriedUpToSeven}
use Rattle.at.specs.declared.FieldError.TheVariants.{NoNumber, NotListed}
use Rattle.at.proofs.RowsLaws.{Each, each_named}
use Rattle.at.proofs.TableLaws.{rooms}

-- One field

-- what is read of the field i: a value where it is of its form, and else what is wrong with it
abbrev FieldSays : ℕ → Kind → List ℕ → OrRefused Value → Type 0
FieldSays i k b (good v) = OfForm k b
FieldSays i k b (refused (no n)) = Unit {0}
FieldSays i k b (refused (missing j)) = ⊥
FieldSays i k b (refused (invalid j why)) = (j ≡ i) × WrongForm k b why

bits-says : (i w : ℕ) (b : List ℕ) → FieldSays i (bits w) b (listed i (λ n. true) (number w b))
bits-says i w b = go (number w b) refl
  where
    go : (x : Num) → number w b ≡ x → FieldSays i (bits w) b (listed i (λ n. true) x)
    go (some n) e = (n, e)
    go (none why) e = (refl, e)

-- a kind with a list
module _ (i : ℕ) (k : Kind) (b : List ℕ) (in_list : ℕ → Bool) (form : InList in_list b → OfForm k b)
    (wrong : (why : _) → NotInList in_list b why → WrongForm k b why)
  where
    listed-says : FieldSays i k b (listed i in_list (number 8 b))
    listed-says = go (number 8 b) refl
      where
        in_list_lem : (n : ℕ) → number 8 b ≡ some n → (t : Bool) → in_list n ≡ t → FieldSays i k b (listed i in_list (some n))
        in_list_lem n e true q = rw q (form (n, e, q))
        in_list_lem n e false q = rw q (refl, wrong NotListed (n, e, q))

        go : (x : Num) → number 8 b ≡ x → FieldSays i k b (listed i in_list x)
        go (some n) e = in_list_lem n e (in_list n) refl
        go (none why) e = (refl, wrong (NoNumber why) e)

field-says : (i : ℕ) (k : Kind) (p : ℕ) (b : List ℕ) → FieldSays i k b (read_field i k p b)
unfolding read_field
field-says i (bits w) p b = bits-says i w b
field-says i text p b = tt
field-says i ip_type p b =
    by_test (FieldSays i ip_type b) (same b (bytes "2")) (λ q. inl (same_equal b (bytes "2") q))
    (λ q. by_test (FieldSays i ip_type b) (same b (bytes "3")) (λ r. inr (same_equal b (bytes "3") r)) (λ r. tt))
field-says i bt_type p b = by_test (FieldSays i bt_type b) (same b (bytes "1")) (λ q. same_equal b (bytes "1") q) (λ q. tt)
field-says i protocol p b = listed-says i protocol b is_protocol (λ h. h) (λ why h. h)
field-says i reason p b = listed-says i reason b is_reason (λ h. h) (λ why h. h)

-- Several fields

reached_here : (i j : ℕ) → j ≡ i → (k : Kind) (ks : List Kind) (left : List Field) → Reached i j (k ∷ ks) left left
reached_here i j e k ks left =
    record { passed = []; kind = k; later = ks; kinds = refl; counted = omega arith; taken = []; fields = refl; formed = tt }

-- a field in front that is of its form
reached-after : {i j : ℕ} (k : Kind) {ks : List Kind} (p : ℕ) (b : List ℕ) {fs left : List Field} → OfForm k b → Reached (suc i) j ks fs left
    → Reached i j (k ∷ ks) (field p b ∷ fs) left
reached-after k p b h r =
    record {
      passed = k ∷ r.passed;
      kind = r.kind;
      later = r.later;
      kinds = ap (λ (l : List Kind). k ∷ l) r.kinds;
      counted = omega (arith, r.counted);
      taken = field p b ∷ r.taken;
      fields = ap (λ (l : List Field). field p b ∷ l) r.fields;
      formed = (h, r.formed);
    }

-- what is read of fields from the field i on
abbrev FieldsSay : ℕ → List Kind → List Field → OrRefused Read → Type 0
FieldsSay i ks fs (good r) = Unit {0}
FieldsSay i ks fs (refused n) = Names i n ks fs

module _ (i : ℕ) (k : Kind) (ks : List Kind) (p : ℕ) (b : List ℕ) (fs : List Field) where
  in_front : (n : Refusal) → OfForm k b → Names (suc i) n ks fs → Names i n (k ∷ ks) (field p b ∷ fs)
  unfolding reached-after
  in_front (no n) h r = tt
  in_front (missing j) h r = reached-after k p b h r
  in_front (invalid j why) h w =
      record { place = w.place; spelling = w.spelling; rest = w.rest; reached = reached-after k p b h w.reached; wrong = w.wrong }

  rest-says : (v : Value) (r : OrRefused Read) → OfForm k b → FieldsSay (suc i) ks fs r → FieldsSay i (k ∷ ks) (field p b ∷ fs) (prepend v r)
  rest-says v (good (values vs l)) h s = tt
  rest-says v (refused n) h s = in_front n h s

  first_says : (o : OrRefused Value) → FieldSays i k b o → (more : List Field → OrRefused Read) → FieldsSay (suc i) ks fs (more fs)
      → FieldsSay i (k ∷ ks) (field p b ∷ fs) (and_then (and_rest o fs) more)
  unfolding reached_here
  first_says (good v) h more s = rest-says v (more fs) h s
  first_says (refused (no n)) h more s = tt
  first_says (refused (missing j)) h more s = absurd h
  first_says (refused (invalid j why)) h more s =
      record { place = p; spelling = b; rest = fs; reached = reached_here i j h.0 k ks (field p b ∷ fs); wrong = h.1 }

-- THE FIELD NAMED is the first that is missing or of wrong form
pub fields_say : (i : ℕ) (ks : List Kind) (fs : List Field) → FieldsSay i ks fs (take_kinds i ks fs)
unfolding take_kinds take_kind
fields_say i [] fs = tt
fields_say i (k ∷ ks) [] = reached_here i i refl k ks []
fields_say i (k ∷ ks) (field p b ∷ fs) =
    first_says i k ks p b fs (read_field i k p b) (field-says i k p b) (λ l. take_kinds (suc i) ks l) (fields_say (suc i) ks fs)

-- A line

-- an answer to fields that were read by the rows of a name: where it carries a field, by one of them
abbrev RowsSay : (Row → Type 0) → List Field → OrRefused Event → Type 0
RowsSay P fs (good e) = Unit {0}
RowsSay P fs (refused n) = CarriesField n → (r : Row) × P r × Names 1 n (kinds_of r) fs

module _ (P : Row → Type 0) (fs : List Field) where
  row-says : (r : Row) → P r → RowsSay P fs (read_row r fs)
  unfolding read_row
  row-says r h = go (take_kinds 1 (kinds_of r) fs) (fields_say 1 (kinds_of r) fs)
    where
      go : (o : OrRefused Read) → FieldsSay 1 (kinds_of r) fs o → RowsSay P fs (with_values r o)
      go (good (values vs l)) s = tt
      go (refused n) s = λ c. (r, h, s)

  by_type_says : (rows : List Row) → Each P rows → RowsSay P fs (by_type rows fs)
  unfolding by_type
  by_type_says [] h = λ c. absurd c
  by_type_says (r ∷ rs) h = go (read_row r fs) (row-says r h.0) (by_type rs fs) (by_type_says rs h.1)
    where
      go : (o : OrRefused Event) → RowsSay P fs o → (next : OrRefused Event) → RowsSay P fs next → RowsSay P fs (or_next o next)
      go (good e) s next t = tt
      go (refused n) s next t = either (RowsSay P fs) (eqb (number_of n) 13) t s

  by_name-says : (rows : List Row) → Each P rows → RowsSay P fs (by_name rows fs)
  by_name-says [] h = λ c. absurd c
  by_name-says (r ∷ rs) h = by_type_says (r ∷ rs) h

each_weaken : (P Q : Row → Type 0) → ((r : Row) → P r → Q r) → (rows : List Row) → Each P rows → Each Q rows
each_weaken P Q f [] h = tt
each_weaken P Q f (r ∷ rs) h = (f r h.0, each_weaken P Q f rs h.1)

-- each row of a table has a number in it
pub each_numbered : (rows : List Row) → Each (Listed rows) rows
unfolding row_no
each_numbered [] = tt
each_numbered (r ∷ rs) = ((0, refl), each_weaken (Listed rs) (Listed (r ∷ rs)) (λ q h. (suc h.0, h.1)) rs (each_numbered rs))

-- an answer that carries no field
abbrev pub CarriesNoField : {A : Type 0} → OrRefused A → Type 0
CarriesNoField (good a) = Unit {0}
CarriesNoField (refused n) = CarriesField n → ⊥

framed-plain : (p : ℕ) (s : List ℕ) → CarriesNoField (framed p s)
unfolding framed ended
framed-plain p s =
    either CarriesNoField (utf8 s) (either CarriesNoField (ltb (length s) 2 || inside_character s 2) (λ c. c) (either CarriesNoField (ends_in (drop 2 s) crlf) tt (λ c. c))) (λ c. c)

module _ (radio : Radio) (p : ℕ) (line : List ℕ) where
  abbrev name : List ℕ → List ℕ
  name t = before (bytes ":") (radio.kept t)

  event-says : (q : ℕ) (t : List ℕ) → framed p line ≡ good (body q t) → (o : OrRefused Event)
      → RowsSay (λ r. Listed radio.rows r × (name t ≡ name_of r)) (fields_after q (radio.kept t)) o → LineNames radio p line (up_to (p + radio.spans line) o)
  event-says q t f (good e) s = tt
  event-says q t f (refused n) s = λ c.
      let r = s c in
      record {
        place = q;
        text = t;
        well_framed = f;
        row = r.0;
        number = r.1.0.0;
        listed = r.1.0.1;
        named = r.1.1;
        names = r.2;
      }

  framed-says : (b : OrRefused Body) → framed p line ≡ b → CarriesNoField b → LineNames radio p line (up_to (p + radio.spans line) (read_framed radio b))
  unfolding read_text
  framed-says (good (body q t)) f h =
      let fs = fields_after q (radio.kept t) in
      event-says q t f (by_name (rows_named radio.rows (name t)) fs)
      (by_name-says (λ r. Listed radio.rows r × (name t ≡ name_of r)) fs (rows_named radio.rows (name t))
      (each_named (Listed radio.rows) radio.rows (name t) (each_numbered radio.rows)))
  framed-says (refused n) f h = λ c. absurd (h c)

  -- THE SAME OF A LINE
  pub line_names : LineNames radio p line (read_line radio p line)
  unfolding read_line
  line_names = framed-says (framed p line) refl (framed-plain p line)

-- A binary event

marker-plain : (t : List ℕ) → CarriesNoField (find_marker t)
unfolding find_marker
marker-plain t = either CarriesNoField (ltb (first_of marker t) (length t)) (either CarriesNoField (utf8 (take (first_of marker t) t)) tt (λ c. c)) (λ c. c)

data-plain : (p : ℕ) (t : List ℕ) → CarriesNoField (read_data p t)
unfolding read_data
data-plain p t = either CarriesNoField (leb 2 (length t)) (either CarriesNoField (leb (announced t) (length t - 2)) tt (λ c. c)) (λ c. c)

-- by one row, whose prefix the bytes start with
module _ (rows : List Row) (p : ℕ) (s : List ℕ) (r : Row) (numbered : Listed rows r) (starts : starts_with s (prefix r) ≡ true) where
  abbrev after : List ℕ
  after = drop (length (prefix r)) s

  with_data-says : (k : ℕ) → find_marker after ≡ good k → (v : OrRefused Read) (d : OrRefused Data)
      → FieldsSay 1 (kinds_of r) (fields_up_to (length (kinds_of r) - 1) (p + length (prefix r)) (take k after)) v → CarriesNoField d → TriedNames rows p s (tried (with_data r v d))
  with_data-says k m (good (values vs fs)) (good (data_at q n)) h g = tt
  with_data-says k m (good (values vs fs)) (refused n) h g = λ c. absurd (g c)
  with_data-says k m (refused n) d h g = λ c.
      record { row = r; number = numbered.0; listed = numbered.1; prefixed = starts; marked = k; has-marker = m; names = h }

  marked-says : (m : OrRefused ℕ) → find_marker after ≡ m → CarriesNoField m → TriedNames rows p s (tried (read_marked r (p + length (prefix r)) after m))
  unfolding read_fields
  marked-says (good k) e h =
      let q = p + length (prefix r) in
      let fs = fields_up_to (length (kinds_of r) - 1) q (take k after) in
      with_data-says k e (take_kinds 1 (kinds_of r) fs) (read_data (q + k + 1) (drop (k + 1) after)) (fields_say 1 (kinds_of r) fs) (data-plain (q + k + 1) (drop (k + 1) after))
  marked-says (refused n) e h = λ c. absurd (h c)

rows_say : (rows : List Row) (p : ℕ) (s : List ℕ) (rs : List Row) → Each (Listed rows) rs → TriedNames rows p s (try_rows rs p s)
unfolding try_rows read_body
rows_say rows p s [] h = tt
rows_say rows p s (r ∷ rs) h =
    let t = drop (length (prefix r)) s in
    by_test (TriedNames rows p s) (starts_with s (prefix r)) (λ q. marked-says rows p s r h.0 q (find_marker t) refl (marker-plain t)) (λ q. rows_say rows p s rs h.1)

-- THE SAME OF A BINARY EVENT
pub binary-names : (rows : List Row) (p : ℕ) (s : List ℕ) → TriedNames rows p s (try_rows rows p s)
binary-names rows p s = rows_say rows p s rows (each_numbered rows)

-- A step of the walk

pub step-names : (s : List ℕ) (p : ℕ) → StepNames s p (step_at s p)
unfolding step_at read_either
step-names s p =
    either (StepNames s p) (ltb p (length s))
    (go (try_rows binary_table p (drop p s)) (binary-names binary_table p (drop p s)) (read_line w36 p (drop p s)) (line_names w36 p (drop p s))) tt
  where
    go : (b : Tried) → TriedNames binary_table p (drop p s) b → (l : OrRefused ReadEvent) → LineNames w36 p (drop p s) l → StepNames s p (step_from p (or_text b l))
    go (tried (good (event_to e q))) h l k = tt
    go (tried (refused n)) h l k = λ c. inl (h c)
    go not_binary h (good (event_to e q)) k = tt
    go not_binary h (refused n) k = λ c. inr (k c)

-- A response carries no field

pub response-plain : (p : ℕ) (s : List ℕ) → CarriesNoField (read_response p s)
unfolding read_response read_rest
response-plain p s =
    either CarriesNoField (utf8 s)
    (either CarriesNoField (ltb (first_of crlf s) (length s)) (either CarriesNoField (ends_in (drop (first_of crlf s + 2) s) crlf) tt (λ c. c)) (λ c. c))
    (λ c. c)

-- The field's number

pub nothing-seven : {A : Type 0} (o : OrRefused A) → CarriesNoField o → FieldUpToSeven o
nothing-seven (good a) h = tt
nothing-seven (refused (no n)) h = tt
nothing-seven (refused (missing i)) h = absurd (h tt)
nothing-seven (refused (invalid i why)) h = absurd (h tt)

reached-within : {i : ℕ} {ks : List Kind} {fs left : List Field} → Reached 1 i ks fs left → (1 ≤ i) × (i ≤ length ks)
reached-within r =
    let l = ap length r.kinds ∙ length-append r.passed (r.kind ∷ r.later) in
    (omega (arith, r.counted), omega (arith, r.counted, l))

named-within : (n : Refusal) (r : Row) (fs : List Field) → length (kinds_of r) ≤ 7 → Names 1 n (kinds_of r) fs → UpToSeven n
named-within (no n) r fs h k = tt
named-within (missing i) r fs h k = let w = reached-within k in (w.0, omega (arith, w.1))
named-within (invalid i why) r fs h k = let w = reached-within k.reached in (w.0, omega (arith, w.1))

narrow : (rows : List Row) (i : ℕ) (r : Row) → roomy rows ≡ true → row_no rows i ≡ good r → length (kinds_of r) ≤ 7
narrow rows i r t e = omega (arith, (rooms rows i r t e).1, length-map (kinds_of r) letter_of)

pub line_seven : (radio : Radio) (p : ℕ) (line : List ℕ) → roomy radio.rows ≡ true → FieldUpToSeven (read_line radio p line)
line_seven radio p line t = go (read_line radio p line) (line_names radio p line)
  where
    within : (n : Refusal) → NamesInLine radio p line n → UpToSeven n
    within n k = named-within n k.row _ (narrow radio.rows k.number k.row t k.listed) k.names

    go : (o : OrRefused ReadEvent) → LineNames radio p line o → FieldUpToSeven o
    go (good e) h = tt
    go (refused (no n)) h = tt
    go (refused (missing i)) h = within (missing i) (h tt)
    go (refused (invalid i why)) h = within (invalid i why) (h tt)

pub binary-seven : (rows : List Row) (p : ℕ) (s : List ℕ) → roomy rows ≡ true → TriedUpToSeven (try_rows rows p s)
binary-seven rows p s t = go (try_rows rows p s) (binary-names rows p s)
  where
    within : (n : Refusal) → NamesInBinary rows p s n → UpToSeven n
    within n k = named-within n k.row _ (narrow rows k.number k.row t k.listed) k.names

    go : (b : Tried) → TriedNames rows p s b → TriedUpToSeven b
    go not_binary h = tt
    go (tried (good e)) h = tt
    go (tried (refused (no n))) h = tt
    go (tried (refused (missing i))) h = within (missing i) (h tt)
    go (tried (refused (invalid i why))) h = within (invalid i why) (h tt)
