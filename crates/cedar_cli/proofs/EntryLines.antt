-- The lines of entries in parts.
use Rattle.std.proofs.Common.{◌≡◌, ℕ, List, [], ◌∷◌, ◌++◌, Option, refl, sym, ap, subst, ◌∙◌, append_assoc, append-nil, take, drop, length, ◌-◌, arith, take-append-drop, length-append}
use Rattle.std.specs.Prelude.{codes, Result, Ok, Err, OnOk, OnErr}
use Rattle.std.specs.Io.KnownBytes.{Appends}
use Rattle.hex.specs.Hex.{encode_with, encode_lower, lower_digits}
use Rattle.cedarwood.specs.Queries.{Entry}
use Rattle.cedar_cli.specs.Script.{hex_entry_line, hex_entry_lines}
use Rattle.device_lines.specs.Written.{WritesFront}
use Rattle.device_lines.proofs.Bytes.{Appends-append, Appends-none, front_after, front_more, whole_rest}

hex_entry_lines-append : (a b : List Entry) → hex_entry_lines (a ++ b) ≡ hex_entry_lines a ++ hex_entry_lines b
hex_entry_lines-append [] b = refl
hex_entry_lines-append (e ∷ a) b = ap (λ l. hex_entry_line e ++ l) (hex_entry_lines-append a b) ∙ sym (append_assoc (hex_entry_line e) (hex_entry_lines a) (hex_entry_lines b))

pub lines_push : (a : List Entry) (e : Entry) → hex_entry_lines (a ++ e ∷ []) ≡ hex_entry_lines a ++ hex_entry_line e
lines_push a e = hex_entry_lines-append a (e ∷ []) ∙ ap (λ l. hex_entry_lines a ++ l) (append-nil (hex_entry_line e))

-- the answer of some entries, the first of them apart
answer_parts : (entries came later : List Entry) → entries ≡ came ++ later
    → (hex_entry_lines entries ++ codes "end") ++ 10 ∷ [] ≡ hex_entry_lines came ++ ((hex_entry_lines later ++ codes "end") ++ 10 ∷ [])
answer_parts entries came later e =
    ap (λ es. (hex_entry_lines es ++ codes "end") ++ 10 ∷ []) e
    ∙ ap (λ l. (l ++ codes "end") ++ 10 ∷ []) (hex_entry_lines-append came later)
    ∙ ap (λ l. l ++ 10 ∷ []) (append_assoc (hex_entry_lines came) (hex_entry_lines later) (codes "end"))
    ∙ append_assoc (hex_entry_lines came) (hex_entry_lines later ++ codes "end") (10 ∷ [])

-- some lines were written, and a front of the next one
pub lines_stopped : (a b d : Option (List ℕ)) (entries came later : List Entry) (e : Entry) → entries ≡ came ++ e ∷ later
    → Appends a b (hex_entry_lines came) → WritesFront b d (hex_entry_line e) → WritesFront a d ((hex_entry_lines entries ++ codes "end") ++ 10 ∷ [])
lines_stopped a b d entries came later e whole written front =
    subst (WritesFront a d) (sym (answer_parts entries came (e ∷ later) whole ∙ ap (λ l. hex_entry_lines came ++ l) split))
    (front_after a b d (hex_entry_lines came) (hex_entry_line e ++ ((hex_entry_lines later ++ codes "end") ++ 10 ∷ [])) written
    (front_more b d (hex_entry_line e) ((hex_entry_lines later ++ codes "end") ++ 10 ∷ []) front)) where
      split : (hex_entry_lines (e ∷ later) ++ codes "end") ++ 10 ∷ [] ≡ hex_entry_line e ++ ((hex_entry_lines later ++ codes "end") ++ 10 ∷ [])
      split = ap (λ l. l ++ 10 ∷ []) (append_assoc (hex_entry_line e) (hex_entry_lines later) (codes "end")) ∙ append_assoc (hex_entry_line e) (hex_entry_lines later ++ codes "end") (10 ∷ [])

-- digits of bytes in two parts
pub encode-append : (t a b : List ℕ) → encode_with t (a ++ b) ≡ encode_with t a ++ encode_with t b
unfolding encode_with
encode-append t [] b = refl
encode-append t (x ∷ a) b = rw (encode-append t a b) refl

-- no bytes have no digits
pub digits_none : (a : Option (List ℕ)) → Appends a a (encode_lower [])
unfolding encode_with
digits_none a = Appends-none a

digits_split : (bytes done rest : List ℕ) (n : ℕ) → bytes ≡ done ++ rest → encode_lower bytes ≡ encode_lower done ++ (encode_lower (take n rest) ++ encode_lower (drop n rest))
digits_split bytes done rest n e =
    ap encode_lower e ∙ encode-append lower_digits done rest
    ∙ ap (λ l. encode_lower done ++ l) (ap encode_lower (sym (take-append-drop n rest)) ∙ encode-append lower_digits (take n rest) (drop n rest))

-- the digits of some bytes were written, and a front of those of the next n
pub digits_stopped : (a b d : Option (List ℕ)) (bytes done rest : List ℕ) (n : ℕ) → bytes ≡ done ++ rest → Appends a b (encode_lower done)
    → WritesFront b d (encode_lower (take n rest)) → WritesFront a d (encode_lower bytes)
digits_stopped a b d bytes done rest n e written front =
    subst (WritesFront a d) (sym (digits_split bytes done rest n e))
    (front_after a b d (encode_lower done) (encode_lower (take n rest) ++ encode_lower (drop n rest)) written
    (front_more b d (encode_lower (take n rest)) (encode_lower (drop n rest)) front))

-- and all of them
pub digits_more : (a b d : Option (List ℕ)) (bytes done rest : List ℕ) (n : ℕ) → bytes ≡ done ++ rest → Appends a b (encode_lower done)
    → Appends b d (encode_lower (take n rest)) → (y : List ℕ) × (bytes ≡ y ++ take (length rest - n) (drop n rest)) × Appends a d (encode_lower y)
digits_more a b d bytes done rest n e written more = (
  done ++ take n rest,
  e ∙ ap (λ l. done ++ l) (sym (take-append-drop n rest)) ∙ sym (append_assoc done (take n rest) (drop n rest)) ∙ ap (λ l. (done ++ take n rest) ++ l) (sym (whole_rest n rest)),
  subst (Appends a d) (sym (encode-append lower_digits done (take n rest))) (Appends-append a b d (encode_lower done) (encode_lower (take n rest)) written more),
)

-- some lines were written, and nothing of the others
pub lines_begun : (a b : Option (List ℕ)) (entries came later : List Entry) → entries ≡ came ++ later → Appends a b (hex_entry_lines came)
    → WritesFront a b ((hex_entry_lines entries ++ codes "end") ++ 10 ∷ [])
lines_begun a b entries came later whole written = (
  hex_entry_lines came,
  (hex_entry_lines later ++ codes "end") ++ 10 ∷ [],
  omega (arith, length-append (hex_entry_lines later ++ codes "end") (10 ∷ [])),
  answer_parts entries came later whole,
  written,
)

-- all that came is written, and the end
pub lines_ended : {T E : Type 0} (r : Result T E) (a b d : Option (List ℕ)) (entries came : List Entry) → entries ≡ came ++ [] → Appends a b (hex_entry_lines came)
    → OnOk r (Appends b d (codes "end" ++ 10 ∷ [])) → OnOk r (Appends a d ((hex_entry_lines entries ++ codes "end") ++ 10 ∷ []))
lines_ended (Ok x) a b d entries came whole written end = subst (Appends a d) (sym (answer_parts entries came [] whole)) (Appends-append a b d (hex_entry_lines came) (codes "end" ++ 10 ∷ []) written end)
lines_ended (Err e) a b d entries came whole written end = tt

pub lines_unended : {T E : Type 0} (r : Result T E) (a b d : Option (List ℕ)) (entries came : List Entry) → entries ≡ came ++ [] → Appends a b (hex_entry_lines came)
    → OnErr r (WritesFront b d (codes "end" ++ 10 ∷ [])) → OnErr r (WritesFront a d ((hex_entry_lines entries ++ codes "end") ++ 10 ∷ []))
lines_unended (Ok x) a b d entries came whole written end = tt
lines_unended (Err e) a b d entries came whole written end = subst (WritesFront a d) (sym (answer_parts entries came [] whole)) (front_after a b d (hex_entry_lines came) (codes "end" ++ 10 ∷ []) written end)
