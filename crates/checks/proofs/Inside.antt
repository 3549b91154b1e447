-- The byte that is shown lies in the input, or just past its end: over the definitions, and over the contracts of the explaining functions.
use Prim.Native.Nat.{ℕ, suc, ◌+◌, ◌-◌, ◌≤◌}
use mathlib.Core.Path.{◌≡◌, refl}
use mathlib.Core.List.{List, [], ◌∷◌, ◌++◌}
use mathlib.Core.Bool.{Bool, true, false, cond, false≢true}
use native.Mathlib.Omega.{arith}
use lib.ListN.{length, take, drop, length-drop}
use lib.Seq.{length-take-le}
use Rattle.std.specs.Prelude.{Err}
use borrow.Author.Tests.{leb-true}
use contract.Lifetimes.{Lfts}
use denote.Triple.Clauses.{AtExit}
use borrow.Fn.Kinds.{Dens, ended_of}
use Rattle.text.specs.Bytes.{bytes, starts_with}
use Rattle.text.specs.Find.{first_of}
use Rattle.text.specs.Field.{Field, field}
use Rattle.text.proofs.FindLaws.{first_le}
use Rattle.text.proofs.BytesLaws.{starts_length}
use Rattle.at.specs.Refusal.{Refusal, refusal_of}
use Rattle.at.specs.declared.AtPacketError.{AtPacketError}
use Rattle.at.specs.Event.{Kind, bits, text, ip_type, bt_type, protocol, reason, Row, kinds_of}
use Rattle.at.specs.Line.{Radio, before, rows_named, fields_after}
use Rattle.at.specs.Binary as reader
use Rattle.at.specs.Binary.{fields_up_to, marker, prefix, Tried, try_rows}
use Rattle.at.specs.W26.{w26}
use Rattle.at.specs.W36.{w36, binary_table}
use Rattle.at.proofs.InsideLaws.{FieldsInside, after-inside, up_to_inside, Stays, stays_26, stays_36}
use Rattle.edm.specs.Packet.{Carries, connect, disconnect, data_event, request, response, at_event, resend, start, unknown}
use Rattle.edm.specs.Frame.{payload}
use Rattle.edm.proofs.FrameLaws.{payload-length}
use Rattle.checks.specs.Check.{Check, ◌needs◌else◌at◌, broken, first_broken}
use Rattle.checks.specs.Line.{form_checks, field_checks, kinds_for, text_checks, inner, line_checks}
use Rattle.checks.specs.Response.{response_checks}
use Rattle.checks.specs.Binary.{field_text, after_marker, data_checks, body_checks, Binary, not_binary, binary, binary_checks}
use Rattle.checks.specs.Frame.{payload_checks, carried_by, frame_checks}
use Rattle.checks.specs.declared.CheckName.{CheckName}
use Rattle.checks.specs.Part.{parts_by, binary_shape}
use Rattle.checks.specs.Explained.{refused_by, some, ExplainsBinary}
use Rattle.checks.proofs.Utf8Bound.{valid_le}
use Rattle.checks.proofs.frame.explain as explain_frame
use Rattle.checks.proofs.response.explain as explain_response
use Rattle.checks.proofs.w26.explain as explain_w26
use Rattle.checks.proofs.w36.explain as explain_w36
use Rattle.checks.proofs.binary.explain as explain_binary

-- the byte of each check is at most n, once every check before it holds
abbrev Within : ℕ → List Check → Type 0
Within n [] = Unit {0}
Within n ((c needs t else k at b) ∷ checks) = (b ≤ n) × (t ≡ true → Within n checks)

within : (n : ℕ) (checks : List Check) → Within n checks → (c : CheckName) (k : Refusal) (b : ℕ) → broken c k b ≡ first_broken checks → b ≤ n
unfolding first_broken
within n [] w c k b e = absurd cc
within n ((d needs true else m at a) ∷ checks) w c k b e = within n checks (w.1 refl) c k b e
within n ((d needs false else m at a) ∷ checks) w c k b e = let z : b ≡ a = cc in rw z w.0

within_both : (n : ℕ) (first then : List Check) → Within n first → Within n then → Within n (first ++ then)
within_both n [] then f t = t
within_both n ((c needs h else k at b) ∷ first) then f t = (f.0, λ e. within_both n first then (f.1 e) t)

form-within : (n i : ℕ) (k : Kind) (p : ℕ) (b : List ℕ) → p ≤ n → Within n (form_checks i k p b)
form-within n i (bits w) p b h = (h, λ _. (h, λ _. (h, λ _. tt)))
form-within n i text p b h = tt
form-within n i ip_type p b h = (h, λ _. tt)
form-within n i bt_type p b h = (h, λ _. tt)
form-within n i protocol p b h = (h, λ _. (h, λ _. (h, λ _. (h, λ _. tt))))
form-within n i reason p b h = (h, λ _. (h, λ _. (h, λ _. (h, λ _. tt))))

fields_within : (n i end : ℕ) (ks : List Kind) (fs : List Field) → end ≤ n → FieldsInside n fs → Within n (field_checks i end ks fs)
unfolding field_checks
fields_within n i end [] fs h s = tt
fields_within n i end (k ∷ ks) [] h s = (h, λ e. absurd (false≢true e))
fields_within n i end (k ∷ ks) (field p b ∷ fs) h s =
    (h, λ _. within_both n (form_checks i k p b) (field_checks (suc i) end ks fs) (form-within n i k p b (omega (arith, s.0))) (fields_within n (suc i) end ks fs h s.1))

text-within : (n : ℕ) (rows : List Row) (p : ℕ) (t : List ℕ) → p + length t ≤ n → Within n (text_checks rows p t)
unfolding text_checks
text-within n rows p t h =
    (omega arith, λ _. fields_within n 1 (p + length t) (kinds_for (rows_named rows (before (bytes ":") t)) (fields_after p t)) (fields_after p t) h (after-inside n p t h))

-- a line at the place p
line_within : (radio : Radio) → Stays radio → (n p : ℕ) (line : List ℕ) → p + length line ≤ n → Within n (line_checks radio p line)
unfolding line_checks
line_within radio stays n p line h =
    (omega (arith, valid_le line), λ _. (h, λ two. (omega (arith, leb-true 2 (length line) two), λ _. (h, λ _. text-within n radio.rows (p + 2) (radio.kept (inner line)) (short (leb-true 2 (length line) two))))))
  where
    short : 2 ≤ length line → p + 2 + length (radio.kept (inner line)) ≤ n
    short two = omega (arith, stays.keeps (inner line), length-drop 2 (take (length line - 2) line), length-take-le (length line - 2) line (omega arith))

response-within : (n p : ℕ) (s : List ℕ) → p + length s ≤ n → Within n (response_checks p s)
unfolding response_checks
response-within n p s h = (omega (arith, valid_le s), λ _. (h, λ _. (h, λ _. tt)))

-- a binary event: what follows its colon, at the place p
body-within : (r : Row) (n p : ℕ) (t : List ℕ) → p + length t ≤ n → Within n (body_checks r p t)
unfolding body_checks
body-within r n p t h =
    let l = length-take-le (first_of marker t) t (first_le marker t) in
    let end : p + length (field_text t) ≤ n = omega (arith, l, first_le marker t) in
    let commas = length (kinds_of r) - 1 in (
      h,
      λ _. (
        omega (arith, valid_le (field_text t)),
        λ _. within_both n (field_checks 1 (p + length (field_text t)) (kinds_of r) (fields_up_to commas p (field_text t))) (data_checks (p + length t) (after_marker t))
            (fields_within n 1 (p + length (field_text t)) (kinds_of r) (fields_up_to commas p (field_text t)) end (up_to_inside n commas p (field_text t) end)) (h, λ _. (h, λ _. tt)),
      ),
    )

abbrev WithinBinary : ℕ → Binary → Type 0
WithinBinary n not_binary = Unit {0}
WithinBinary n (binary checks) = Within n checks

rows-within : (rows : List Row) (n p : ℕ) (s : List ℕ) → p + length s ≤ n → WithinBinary n (binary_checks rows p s)
unfolding binary_checks
rows-within [] n p s h = tt
rows-within (r ∷ rs) n p s h = go (starts_with s (prefix r)) refl (rows-within rs n p s h)
  where
    go : (k : Bool) → starts_with s (prefix r) ≡ k → WithinBinary n (binary_checks rs p s)
        → WithinBinary n (cond k (binary (body_checks r (p + length (prefix r)) (drop (length (prefix r)) s))) (binary_checks rs p s))
    go false e more = more
    go true e more = body-within r n (p + length (prefix r)) (drop (length (prefix r)) s) (omega (arith, starts_length s (prefix r) e, length-drop (length (prefix r)) s))

payload-within : (c : Carries) (n : ℕ) (t : List ℕ) → 5 + length t ≤ n → Within n (payload_checks c 5 t)
payload-within connect n t h = (h, λ two. (omega (arith, leb-true 2 (length t) two), λ _. (h, λ _. tt)))
payload-within disconnect n t h = (h, λ _. tt)
payload-within data_event n t h = (h, λ _. tt)
payload-within request n t h = (omega (arith, valid_le t), λ _. tt)
payload-within response n t h = response-within n 5 t h
payload-within at_event n t h = line_within w26 stays_26 n 5 t h
payload-within resend n t h = tt
payload-within start n t h = tt
payload-within unknown n t h = tt

frame-within : (s : List ℕ) → Within (length s) (frame_checks s)
unfolding frame_checks
frame-within s =
    (omega arith, λ _. (omega arith, λ _. (omega arith, λ _. (omega arith, λ six. let h = leb-true 6 (length s) six in (omega arith, λ _. (omega arith, λ _. payload-within (carried_by s) (length s) (payload s) (omega (arith, payload-length s))))))))

-- the explaining functions: a refusal's byte, where the input starts inside the slice
pub frame_byte : (κs : Lfts 1) (a : Dens κs explain_frame.Kinds.ps) (t : AtExit (ended_of 1 explain_frame.Kinds.ps explain_frame.Kinds.r) κs) (e : _) (c : CheckName) (b : ℕ)
    → explain_frame.Reads.Post κs a (Err (record { error = e; check = c; byte = b })) t → b ≤ length a.0.now
frame_byte κs a t e c b x = within _ _ (frame-within a.0.now) c _ b x.names

-- the place where an input that starts at p ends
ends_there : (s : List ℕ) (p : ℕ) → p ≤ length s → p + length (drop p s) ≤ length s
ends_there s p h = omega (arith, length-drop p s)

pub w26-byte : (κs : Lfts 1) (a : Dens κs explain_w26.Kinds.ps) (t : AtExit (ended_of 1 explain_w26.Kinds.ps explain_w26.Kinds.r) κs) (e : _) (c : CheckName) (b : ℕ)
    → a.1.0 ≤ length a.0.now → explain_w26.Reads.Post κs a (Err (record { error = e; check = c; byte = b })) t → b ≤ length a.0.now
w26-byte κs a t e c b h x = within _ _ (line_within w26 stays_26 _ _ _ (ends_there a.0.now a.1.0 h)) c _ b x.names

pub w36-byte : (κs : Lfts 1) (a : Dens κs explain_w36.Kinds.ps) (t : AtExit (ended_of 1 explain_w36.Kinds.ps explain_w36.Kinds.r) κs) (e : _) (c : CheckName) (b : ℕ)
    → a.1.0 ≤ length a.0.now → explain_w36.Reads.Post κs a (Err (record { error = e; check = c; byte = b })) t → b ≤ length a.0.now
w36-byte κs a t e c b h x = within _ _ (line_within w36 stays_36 _ _ _ (ends_there a.0.now a.1.0 h)) c _ b x.names

pub response-byte : (κs : Lfts 1) (a : Dens κs explain_response.Kinds.ps) (t : AtExit (ended_of 1 explain_response.Kinds.ps explain_response.Kinds.r) κs) (e : _) (c : CheckName) (b : ℕ)
    → a.1.0 ≤ length a.0.now → explain_response.Reads.Post κs a (Err (record { error = e; check = c; byte = b })) t → b ≤ length a.0.now
response-byte κs a t e c b h x = within _ _ (response-within _ _ _ (ends_there a.0.now a.1.0 h)) c _ b x.names

pub binary-byte : (κs : Lfts 1) (a : Dens κs explain_binary.Kinds.ps) (t : AtExit (ended_of 1 explain_binary.Kinds.ps explain_binary.Kinds.r) κs) (e : AtPacketError) (c : CheckName) (b : ℕ)
    → a.1.0 ≤ length a.0.now → explain_binary.Reads.Post κs a (Err (record { error = e; check = c; byte = b })) t → b ≤ length a.0.now
binary-byte κs a t e c b h x =
    go (binary_checks binary_table a.1.0 (drop a.1.0 a.0.now)) (try_rows binary_table a.1.0 (drop a.1.0 a.0.now)) (rows-within binary_table _ a.1.0 (drop a.1.0 a.0.now) (ends_there a.0.now a.1.0 h)) x
  where
    go : (k : Binary) (q : Tried) → WithinBinary (length a.0.now) k
        → ExplainsBinary k q (λ d. parts_by (binary_shape (length a.0.now) d) a.0.now a.1.0) (some (refused_by c (refusal_of e) b)) → b ≤ length a.0.now
    go not_binary q w x = let n = x.0 in absurd cc
    go (binary checks) reader.not_binary w x = absurd x
    go (binary checks) (reader.tried d) w x = within _ checks w c _ b x.names
