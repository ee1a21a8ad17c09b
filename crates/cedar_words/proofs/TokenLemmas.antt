-- That tokens follow one another through a text.
use Rattle.std.proofs.Common.{◌≡◌, ℕ, zero, suc, ◌+◌, ◌-◌, ◌<◌, ◌≤◌, ℤ, List, [], ◌∷◌, length, drop, Option, Some, None, refl, sym, ap, subst, ◌∙◌, arith, All, min, inl, inr}
use Rattle.std.proofs.lemmas.Bool.Decides.{leb_tells}
use Rattle.std.proofs.lemmas.List.{length-drop}
use Rattle.std.proofs.lemmas.List.Elements.{All-cons, All-nil}
use Rattle.std.proofs.lemmas.List.Sums.{sum-map, sum_by-cons}
use Rattle.cedarwood.specs.Tree.{Tree}
use Rattle.cedar_words.specs.Words.{bytes_in, AreAdjacent, IsLongest, len_of, longest, found_number, segments, Token, tokens_behind}
use Rattle.cedar_words.proofs.LongestLemmas.{len_within, token_longest}

-- bytes that belong to the token before are passed
taken : (t : Tree) (k place : ℕ) (text : List ℕ) → tokens_behind t k place text ≡ tokens_behind t 0 (place + k) (drop k text)
taken t zero place text = let same : place ≡ place + 0 = omega arith in ap (λ p. tokens_behind t 0 p text) same
taken t (suc k) place [] = refl
taken t (suc k) place (b ∷ rest) =
    let same : place + 1 + k ≡ place + suc k = omega arith in
    taken t k (place + 1) rest ∙ ap (λ p. tokens_behind t 0 p (drop k rest)) same

-- the token that was found at a position
abbrev token : ℕ → Option (ℤ × ℕ) → Token
token place found = (place, len_of found, found_number found)

some_len : (o : Option (ℤ × ℕ)) → 0 < len_of o
some_len None = omega arith
some_len (Some found) = omega arith

-- it comes first, and then those from its end on
pub tokens_next : (t : Tree) (place : ℕ) (text : List ℕ) → 0 < length text → (found : Option (ℤ × ℕ)) → longest t text ≡ found
    → tokens_behind t 0 place text ≡ (place, len_of found, found_number found) ∷ tokens_behind t 0 (place + len_of found) (drop (len_of found) text)
tokens_next t place [] h found is = absurd (omega (arith, h))
tokens_next t place (b ∷ rest) h found is =
    let some = some_len found in
    let same : place + 1 + (len_of found - 1) ≡ place + len_of found = omega (arith, some) in
    let one : suc (len_of found - 1) ≡ len_of found = omega (arith, some) in
    ap (λ o. token place o ∷ tokens_behind t (len_of o - 1) (place + 1) rest) is
    ∙ ap (λ ts. token place found ∷ ts)
    (taken t (len_of found - 1) (place + 1) rest
    ∙ ap (λ p. tokens_behind t 0 p (drop (len_of found - 1) rest)) same
    ∙ ap (λ n. tokens_behind t 0 (place + len_of found) (drop n (b ∷ rest))) one)

-- the same for what was found, by its parts
pub tokens_step : (t : Tree) (place : ℕ) (text : List ℕ) (len : ℕ) (number : Option ℤ) → 0 < length text → len ≡ len_of (longest t text) → number ≡ found_number (longest t text)
    → tokens_behind t 0 place text ≡ (place, len, number) ∷ tokens_behind t 0 (place + len) (drop len text)
tokens_step t place text len number h len_is number_is =
    tokens_next t place text h (longest t text) refl
    ∙ ap (λ n. (place, n, found_number (longest t text)) ∷ tokens_behind t 0 (place + n) (drop n text)) (sym len_is)
    ∙ ap (λ (v : Option ℤ). (place, len, v) ∷ tokens_behind t 0 (place + len) (drop len text)) (sym number_is)

-- there are no more tokens than bytes, and one where there are any
tokens_few : (t : Tree) (k place : ℕ) (text : List ℕ) → length (tokens_behind t k place text) ≤ length text - k
tokens_few t k place [] = omega arith
tokens_few t (suc k) place (b ∷ rest) = let later = tokens_few t k (place + 1) rest in omega (arith, later)
tokens_few t zero place (b ∷ rest) = let later = tokens_few t (len_of (longest t (b ∷ rest)) - 1) (place + 1) rest in omega (arith, later)

pub segments_few : (t : Tree) (place : ℕ) (text : List ℕ) → length (tokens_behind t 0 place text) ≤ length text
segments_few t place text = let few = tokens_few t 0 place text in omega (arith, few)

pub segments_some : (t : Tree) (place : ℕ) (text : List ℕ) → min (length text) 1 ≤ length (tokens_behind t 0 place text)
segments_some t place [] = omega arith
segments_some t place (b ∷ rest) = omega arith

bytes_more : (x : Token) (tokens : List Token) → bytes_in (x ∷ tokens) ≡ x.1 + bytes_in tokens
bytes_more x tokens = sum-map (λ (y : Token). y.1) (x ∷ tokens) ∙ sum_by-cons (λ (y : Token). y.1) x tokens ∙ ap (λ n. x.1 + n) (sym (sum-map (λ (y : Token). y.1) tokens))

-- tokens have all bytes that the one before doesn't have
tokens_bytes : (t : Tree) (k place : ℕ) (text : List ℕ) → bytes_in (tokens_behind t k place text) ≡ length text - k
tokens_bytes t k place [] = omega arith
tokens_bytes t (suc k) place (b ∷ rest) = let later = tokens_bytes t k (place + 1) rest in omega (arith, later)
tokens_bytes t zero place (b ∷ rest) =
    let o : Option (ℤ × ℕ) = longest t (b ∷ rest) in
    let some = some_len o in
    let within = len_within t (b ∷ rest) (omega arith) in
    let later = tokens_bytes t (len_of o - 1) (place + 1) rest in
    bytes_more (token place o) (tokens_behind t (len_of o - 1) (place + 1) rest) ∙ omega (arith, some, within, later)

pub segments_bytes : (t : Tree) (place : ℕ) (text : List ℕ) → bytes_in (tokens_behind t 0 place text) ≡ length text
segments_bytes t place text = let all = tokens_bytes t 0 place text in omega (arith, all)

-- and they cover them
pub tokens_cover : (t : Tree) (k place : ℕ) (text : List ℕ) → k ≤ length text → AreAdjacent (tokens_behind t k place text) (place + k) (place + length text)
tokens_cover t k place [] h = omega (arith, h)
tokens_cover t (suc k) place (b ∷ rest) h =
    let begin : place + 1 + k ≡ place + suc k = omega arith in
    let end : place + 1 + length rest ≡ place + suc (length rest) = omega arith in
    subst (λ p. AreAdjacent (tokens_behind t k (place + 1) rest) p (place + suc (length rest))) begin
    (subst (λ e. AreAdjacent (tokens_behind t k (place + 1) rest) (place + 1 + k) e) end (tokens_cover t k (place + 1) rest (omega (arith, h))))
tokens_cover t zero place (b ∷ rest) h =
    let o : Option (ℤ × ℕ) = longest t (b ∷ rest) in
    let within = len_within t (b ∷ rest) (omega arith) in
    let some = some_len o in
    let begin : place + 1 + (len_of o - 1) ≡ place + 0 + len_of o = omega (arith, some) in
    let end : place + 1 + length rest ≡ place + suc (length rest) = omega arith in
    let more = tokens_cover t (len_of o - 1) (place + 1) rest (omega (arith, some, within)) in (
      omega arith,
      some,
      subst (λ p. AreAdjacent (tokens_behind t (len_of o - 1) (place + 1) rest) p (place + suc (length rest))) begin
          (subst (λ e. AreAdjacent (tokens_behind t (len_of o - 1) (place + 1) rest) (place + 1 + (len_of o - 1)) e) end more),
    )

pub segments_cover : (t : Tree) (text : List ℕ) → AreAdjacent (segments t text) 0 (length text)
segments_cover t text =
    let end : 0 + length text ≡ length text = omega arith in
    subst (λ e. AreAdjacent (segments t text) 0 e) end (tokens_cover t 0 0 text (omega arith))

-- so none of them ends behind the text
adjacent_within : (tokens : List Token) (place end : ℕ) → AreAdjacent tokens place end → (place ≤ end) × All (λ token. token.0 + token.1 ≤ end) tokens
adjacent_within [] place end h = (omega (arith, h), All-nil (λ (token : Token). token.0 + token.1 ≤ end))
adjacent_within (x ∷ tokens) place end h =
    let later = adjacent_within tokens (place + x.1) end h.2 in
    (omega (arith, later.0), All-cons (λ (token : Token). token.0 + token.1 ≤ end) x tokens (omega (arith, later.0, h.0)) later.1)

pub segments_within : (t : Tree) (text : List ℕ) → All (λ token. token.0 + token.1 ≤ length text) (segments t text)
segments_within t text = (adjacent_within (segments t text) 0 (length text) (segments_cover t text)).1

pub drop_one : (place : ℕ) (text rest : List ℕ) (b : ℕ) → drop place text ≡ b ∷ rest → drop (place + 1) text ≡ rest
drop_one zero text rest b e = ap (drop 1) e
drop_one (suc place) [] rest b e = absurd (cc)
drop_one (suc place) (c ∷ text) rest b e = let same : suc place + 1 ≡ suc (place + 1) = omega arith in ap (λ n. drop n (c ∷ text)) same ∙ drop_one place text rest b e

-- each of them is the longest at its position
pub tokens_longest : (t : Tree) (text : List ℕ) (k place : ℕ) (rest : List ℕ) → drop place text ≡ rest → All (IsLongest t text) (tokens_behind t k place rest)
tokens_longest t text k place [] e = All-nil (IsLongest t text)
tokens_longest t text (suc k) place (b ∷ rest) e = tokens_longest t text k (place + 1) rest (drop_one place text rest b e)
tokens_longest t text zero place (b ∷ rest) e =
    let o : Option (ℤ × ℕ) = longest t (b ∷ rest) in
    let some : 0 < length (drop place text) = rw e (omega arith) in
    let first : IsLongest t text (token place o) = subst (λ q. IsLongest t text (token place (longest t q))) e (token_longest t text place some) in
    All-cons (IsLongest t text) (token place o) (tokens_behind t (len_of o - 1) (place + 1) rest) first (tokens_longest t text (len_of o - 1) (place + 1) rest (drop_one place text rest b e))

pub segments_longest : (t : Tree) (text : List ℕ) → All (IsLongest t text) (segments t text)
segments_longest t text = tokens_longest t text 0 0 text refl

-- no bytes have no tokens
pub none_left : (t : Tree) (place : ℕ) (rest : List ℕ) → length rest ≡ 0 → tokens_behind t 0 place rest ≡ []
none_left t place [] h = refl
none_left t place (b ∷ rest) h = absurd (omega (arith, h))

-- those from a position on, or from the end where the position is behind it
pub tokens_within : (t : Tree) (text : List ℕ) (place start : ℕ) → start ≡ min place (length text) → tokens_behind t 0 start (drop start text) ≡ tokens_behind t 0 place (drop place text)
tokens_within t text place start is = elim (leb_tells place (length text)) [
  | inl low ↦
      let within = low.1 in
      let same : start ≡ place = omega (arith, is, within) in
      ap (λ p. tokens_behind t 0 p (drop p text)) same
  | inr high ↦
      let behind = high.1 in
      let none : length (drop start text) ≡ 0 = omega (arith, is, behind, length-drop start text) in
      let short : length (drop place text) ≡ 0 = omega (arith, behind, length-drop place text) in
      none_left t start (drop start text) none ∙ sym (none_left t place (drop place text) short)
]
