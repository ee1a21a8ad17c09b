-- The bytes of a word and the lines of entries in parts.
use Rattle.std.proofs.Common.{◌≡◌, ◌<◌, suc, ℕ, List, [], ◌∷◌, ◌++◌, Bool, true, cond, Option, refl, sym, ap, subst, ◌∙◌, append_assoc, append-nil, length, take, drop, get_or, ◌-◌, arith, length-append}
use Rattle.std.specs.Io.KnownBytes.{Appends}
use Rattle.cedarwood.specs.Queries.{Entry}
use Rattle.device_lines.specs.Written.{WritesFront}
use Rattle.hex.specs.Hex.{encode_lower}
use Rattle.word_lists.specs.Lines.{byte_text, entry_line, entry_lines, escape, is_plain, word_text}
use Rattle.std.specs.Fmt.{signed_decimal}
use Rattle.device_lines.proofs.Bytes.{Appends-append, front_after, front_more, whole_rest}

pub escaped-append : (t : Bool) (a b : List ℕ) → escape t (a ++ b) ≡ escape t a ++ escape t b
escaped-append t [] b = refl
escaped-append t (x ∷ a) b = ap (λ l. byte_text t x ++ l) (escaped-append t a b) ∙ sym (append_assoc (byte_text t x) (escape t a) (escape t b))

-- some bytes were written, and a front of the next one
pub bytes_stopped : (a b d : Option (List ℕ)) (t : Bool) (bytes done rest : List ℕ) (x : ℕ) → bytes ≡ done ++ rest → rest ≡ x ∷ drop 1 rest
    → Appends a b (escape t done) → WritesFront b d (byte_text t x) → WritesFront a d (escape t bytes)
bytes_stopped a b d t bytes done rest x e first written front =
    subst (WritesFront a d) (sym (ap (escape t) (e ∙ ap (λ l. done ++ l) first) ∙ escaped-append t done (x ∷ drop 1 rest)))
    (front_after a b d (escape t done) (byte_text t x ++ escape t (drop 1 rest)) written (front_more b d (byte_text t x) (escape t (drop 1 rest)) front))

-- and all of it
pub bytes_more : (a b d : Option (List ℕ)) (t : Bool) (bytes done rest : List ℕ) (x : ℕ) → bytes ≡ done ++ rest → rest ≡ x ∷ drop 1 rest
    → Appends a b (escape t done) → Appends b d (byte_text t x) → (y : List ℕ) × (bytes ≡ y ++ take (length rest - 1) (drop 1 rest)) × Appends a d (escape t y)
bytes_more a b d t bytes done rest x e first written more = (
  done ++ x ∷ [],
  e ∙ ap (λ l. done ++ l) first ∙ sym (append_assoc done (x ∷ []) (drop 1 rest)) ∙ ap (λ l. (done ++ x ∷ []) ++ l) (sym (whole_rest 1 rest)),
  subst (Appends a d) (sym (escaped-append t done (x ∷ []) ∙ ap (λ l. escape t done ++ l) (append-nil (byte_text t x))))
      (Appends-append a b d (escape t done) (byte_text t x) written more),
)

-- the first of some bytes
pub first_byte : (rest : List ℕ) → (rest ≡ [] → ⊥) → rest ≡ get_or rest 0 0 ∷ drop 1 rest
first_byte [] some = absurd (some refl)
first_byte (x ∷ rest) some = refl

entry_lines-append : (a b : List Entry) → entry_lines (a ++ b) ≡ entry_lines a ++ entry_lines b
entry_lines-append [] b = refl
entry_lines-append (e ∷ a) b = ap (λ l. entry_line e ++ l) (entry_lines-append a b) ∙ sym (append_assoc (entry_line e) (entry_lines a) (entry_lines b))

pub lines_push : (a : List Entry) (e : Entry) → entry_lines (a ++ e ∷ []) ≡ entry_lines a ++ entry_line e
lines_push a e = entry_lines-append a (e ∷ []) ∙ ap (λ l. entry_lines a ++ l) (append-nil (entry_line e))

-- some lines were written, and a front of the next one
pub lines_stopped : (a b d : Option (List ℕ)) (entries came later : List Entry) (e : Entry) → entries ≡ came ++ e ∷ later
    → Appends a b (entry_lines came) → WritesFront b d (entry_line e) → WritesFront a d (entry_lines entries)
lines_stopped a b d entries came later e whole written front =
    subst (WritesFront a d) (sym (ap entry_lines whole ∙ entry_lines-append came (e ∷ later)))
    (front_after a b d (entry_lines came) (entry_line e ++ entry_lines later) written (front_more b d (entry_line e) (entry_lines later) front))

-- a line is never empty
line_some : (e : Entry) → (n : ℕ) × (length (entry_line e) ≡ suc n)
line_some e = (length (word_text e.0 ++ (9 ∷ signed_decimal e.1)), omega (arith, length-append (word_text e.0) (9 ∷ (signed_decimal e.1 ++ 10 ∷ [])), length-append (word_text e.0) (9 ∷ signed_decimal e.1), length-append (signed_decimal e.1) (10 ∷ [])))

-- some lines were written, and nothing of the others, of which there is one
pub lines_begun : (a b : Option (List ℕ)) (entries came later : List Entry) → entries ≡ came ++ later → 0 < length later → Appends a b (entry_lines came)
    → WritesFront a b (entry_lines entries)
lines_begun a b entries came [] whole some written = absurd (omega (arith, some))
lines_begun a b entries came (e ∷ later) whole some written = (
  entry_lines came,
  entry_line e ++ entry_lines later,
  (let n = line_some e in omega (arith, n.1, length-append (entry_line e) (entry_lines later))),
  ap entry_lines whole ∙ entry_lines-append came (e ∷ later),
  written,
)

-- some bytes are written as they are, and so is the next one
pub plain_more : (t : Bool) (bytes done rest : List ℕ) (x : ℕ) → bytes ≡ done ++ rest → rest ≡ x ∷ drop 1 rest → escape t done ≡ done → is_plain t x ≡ true
    → (y : List ℕ) × (bytes ≡ y ++ take (length rest - 1) (drop 1 rest)) × (escape t y ≡ y)
plain_more t bytes done rest x e first same plain = (
  done ++ x ∷ [],
  e ∙ ap (λ l. done ++ l) first ∙ sym (append_assoc done (x ∷ []) (drop 1 rest)) ∙ ap (λ l. (done ++ x ∷ []) ++ l) (sym (whole_rest 1 rest)),
  escaped-append t done (x ∷ []) ∙ ap (λ l. l ++ escape t (x ∷ [])) same ∙ ap (λ l. done ++ l) (append-nil (byte_text t x) ∙ ap (λ p. cond p (x ∷ []) (92 ∷ (120 ∷ encode_lower (x ∷ [])))) plain),
)

-- all of them do
pub plain_all : (t : Bool) (bytes done rest : List ℕ) → bytes ≡ done ++ rest → rest ≡ [] → escape t done ≡ done → escape t bytes ≡ bytes
plain_all t bytes done rest e none same =
    let whole : bytes ≡ done = e ∙ ap (λ l. done ++ l) none ∙ append-nil done in
    ap (escape t) whole ∙ same ∙ sym whole
