-- Keys in a text, by the fronts of what is left of it and by its tokens.
use Rattle.std.proofs.Common.{◌≡◌, ℕ, zero, suc, ◌+◌, ◌-◌, ◌<◌, ◌≤◌, ◌↔◌, ℤ, min, List, [], ◌∷◌, ◌++◌, length, map, drop, take, Option, Some, None, refl, sym, ap, subst, ◌∙◌, arith, inl, inr}
use Rattle.std.specs.List.{Contains}
use Rattle.std.proofs.lemmas.Bool.Decides.{eqb_tells, leb_tells}
use Rattle.std.proofs.lemmas.List.Elements.{Contains-append_cases, Contains-append_left, Contains-append_right}
use Rattle.std.proofs.lemmas.List.{length-drop, take_all}
use Rattle.cedarwood.specs.Tree.{Tree, number_at}
use Rattle.cedarwood.specs.Queries.{front}
use Rattle.cedarwood.proofs.FrontLemmas.{front_from_held, held_from_front}
use Rattle.cedarwood.proofs.MemberLemmas.{contains_none, either_part, from_map, into_map}
use Rattle.cedar_words.specs.Spots.{IsKeyIn, IsLeftmost, keywords_in, keywords_of, Spot, spot, spots_from, spots_left}
use Rattle.cedar_words.specs.Steps.{AreWithin}
use Rattle.cedar_words.specs.Tokens.{len_of, longest, found_number, tokens_behind}
use Rattle.cedar_words.proofs.LongestLemmas.{len_within}
use Rattle.cedar_words.proofs.TokenLemmas.{drop_one}

-- nothing begins behind the end
none_behind : (t : Tree) (place : ℕ) (text : List ℕ) → drop place text ≡ [] → (k : ℕ) → place ≤ k → longest t (drop k text) ≡ None
none_behind t place text e k low =
    let len = ap length e in
    let short : length (drop k text) ≡ 0 = omega (arith, len, low, length-drop k text, length-drop place text) in
    ap (longest t) (no_bytes (drop k text) short)
  where
    no_bytes : (q : List ℕ) → length q ≡ 0 → q ≡ []
    no_bytes [] h = refl
    no_bytes (b ∷ q) h = absurd (omega (arith, h))

-- a position at which no key begins may come before them
leftmost_from : (t : Tree) (text : List ℕ) (place : ℕ) (spots : List Spot) → longest t (drop place text) ≡ None → IsLeftmost t text (place + 1) spots → IsLeftmost t text place spots
leftmost_from t text place [] none is = λ k low. elim (eqb_tells place k) [
  | inl same ↦ ap (λ p. longest t (drop p text)) (sym same.1) ∙ none
  | inr other ↦ let differ = other.1 in is k (omega (arith, low, differ))
]
leftmost_from t text place (s ∷ spots) none is =
    let low = is.1 in (
      λ k first high. elim (eqb_tells place k) [
        | inl same ↦ ap (λ p. longest t (drop p text)) (sym same.1) ∙ none
        | inr other ↦ let differ = other.1 in is.0 k (omega (arith, first, differ)) high
      ],
      omega (arith, low),
      is.2,
      is.3,
      is.4,
    )

leftmost_first : (t : Tree) (text : List ℕ) (place : ℕ) (rest : List ℕ) (most : ℕ) → most ≡ suc (length rest) → (o : Option (ℤ × ℕ)) → longest t (drop place text) ≡ o → len_of o ≤ most
    → ((k : ℕ) → k ≤ length rest → IsLeftmost t text (place + 1 + k) (keywords_of (tokens_behind t k (place + 1) rest)))
    → IsLeftmost t text place (keywords_of ((place, len_of o, found_number o) ∷ tokens_behind t (len_of o - 1) (place + 1) rest))
leftmost_first t text place rest most one None is all later =
    let begin : place + 1 + 0 ≡ place + 1 = omega arith in
    leftmost_from t text place (keywords_of (tokens_behind t 0 (place + 1) rest)) is (subst (λ p. IsLeftmost t text p (keywords_of (tokens_behind t 0 (place + 1) rest))) begin (later 0 (omega arith)))
leftmost_first t text place rest most one (Some f) is all later =
    let less : f.1 + 1 - 1 ≡ f.1 = omega arith in
    let begin : place + 1 + (f.1 + 1 - 1) ≡ place + (f.1 + 1) = omega arith in (
      λ k low high. absurd (omega (arith, low, high)),
      omega arith,
      omega arith,
      is ∙ ap (λ n. Some (f.0, n)) (sym less),
      subst (λ p. IsLeftmost t text p (keywords_of (tokens_behind t (f.1 + 1 - 1) (place + 1) rest))) begin (later (f.1 + 1 - 1) (omega (arith, all, one))),
    )

leftmost_behind : (t : Tree) (text : List ℕ) (k place : ℕ) (rest : List ℕ) → drop place text ≡ rest → k ≤ length rest → IsLeftmost t text (place + k) (keywords_of (tokens_behind t k place rest))
leftmost_behind t text k place [] e h = λ p low. none_behind t place text e p (omega (arith, low))
leftmost_behind t text (suc k) place (b ∷ rest) e h =
    let here : place + 1 + k ≡ place + suc k = omega arith in
    subst (λ p. IsLeftmost t text p (keywords_of (tokens_behind t k (place + 1) rest))) here (leftmost_behind t text k (place + 1) rest (drop_one place text rest b e) (omega (arith, h)))
leftmost_behind t text zero place (b ∷ rest) e h =
    let here : place ≡ place + 0 = omega arith in
    let all = len_within t (b ∷ rest) (omega arith) in
    let found = ap (longest t) e in
    subst (λ p. IsLeftmost t text p (keywords_of (tokens_behind t zero place (b ∷ rest)))) here
    (leftmost_first t text place rest (length (b ∷ rest)) refl (longest t (b ∷ rest)) found all (λ k within. leftmost_behind t text k (place + 1) rest (drop_one place text rest b e) within))

pub keywords_leftmost : (t : Tree) (text : List ℕ) → IsLeftmost t text 0 (keywords_in t text)
keywords_leftmost t text = leftmost_behind t text 0 0 text refl (omega arith)

-- nothing is found where no byte is left
no_spots : (t : Tree) (place : ℕ) (q : List ℕ) → length q ≡ 0 → spots_from t place q ≡ []
no_spots t place [] h = refl
no_spots t place (b ∷ q) h = absurd (omega (arith, h))

-- all keys from a position on are those that its walk has and those from the next position on
pub from_left : (t : Tree) (text : List ℕ) (place : ℕ) → spots_from t place (drop place text) ≡ spots_left t text place (front t (drop place text))
from_left t text place = at (drop place text) refl
  where
    at : (q : List ℕ) → drop place text ≡ q → spots_from t place q ≡ spots_left t text place (front t q)
    at [] is =
        let len = ap length is in
        let short : length (drop (place + 1) text) ≡ 0 = omega (arith, len, length-drop place text, length-drop (place + 1) text) in
        sym (no_spots t (place + 1) (drop (place + 1) text) short)
    at (b ∷ rest) is = ap (λ q. map (spot place) (front t (b ∷ rest)) ++ spots_from t (place + 1) q) (sym (drop_one place text rest b is))

-- where a walk has found all at a position, what is left is what the walk at the next position has, and what is behind it
pub left_next : (t : Tree) (text : List ℕ) (place : ℕ) → spots_left t text place [] ≡ spots_left t text (place + 1) (front t (drop (place + 1) text))
left_next t text place = from_left t text (place + 1)

no_fronts : (fronts : List (ℤ × ℕ)) → AreWithin 0 fronts → fronts ≡ []
no_fronts [] h = refl
no_fronts (f ∷ fronts) h = let first = h.0 in absurd (omega (arith, first))

-- nothing is left at the end
pub left_end : (t : Tree) (text : List ℕ) (place : ℕ) (fronts : List (ℤ × ℕ)) → length text ≤ place → AreWithin (length text - place) fronts → spots_left t text place fronts ≡ []
left_end t text place fronts end within =
    let none : length text - place ≡ 0 = omega (arith, end) in
    let gone = no_fronts fronts (subst (λ n. AreWithin n fronts) none within) in
    let short : length (drop (place + 1) text) ≡ 0 = omega (arith, end, length-drop (place + 1) text) in
    ap (λ f. spots_left t text place f) gone ∙ no_spots t (place + 1) (drop (place + 1) text) short

-- the rest of a text as a slice of it
pub rest_of : (text : List ℕ) (place : ℕ) → take (length text - place) (drop place text) ≡ drop place text
rest_of text place = let all : length (drop place text) ≤ length text - place = omega (arith, length-drop place text) in take_all (length text - place) (drop place text) all

-- those from a position on, or from the end where the position is behind it
pub spots_within : (t : Tree) (text : List ℕ) (place start : ℕ) → start ≡ min place (length text) → spots_from t start (drop start text) ≡ spots_from t place (drop place text)
spots_within t text place start is = elim (leb_tells place (length text)) [
  | inl low ↦
      let within = low.1 in
      let same : start ≡ place = omega (arith, is, within) in
      ap (λ p. spots_from t p (drop p text)) same
  | inr high ↦
      let behind = high.1 in
      let none : length (drop start text) ≡ 0 = omega (arith, is, behind, length-drop start text) in
      let short : length (drop place text) ≡ 0 = omega (arith, behind, length-drop place text) in
      no_spots t start (drop start text) none ∙ sym (no_spots t place (drop place text) short)
]

-- a match from a position on is a key so many bytes behind it
match_held : (t : Tree) (rest : List ℕ) (place : ℕ) (s : Spot) → Contains (spots_from t place rest) s
    → (k : ℕ) × (s.0 ≡ place + k) × (0 < s.1) × (k + s.1 ≤ length rest) × (number_at t (take s.1 (drop k rest)) ≡ Some s.2)
match_held t [] place s c = absurd (contains_none s c)
match_held t (b ∷ rest) place s c =
    either_part (Contains-append_cases (map (spot place) (front t (b ∷ rest))) (spots_from t (place + 1) rest) s c)
    (λ here.
    let found = from_map (spot place) (front t (b ∷ rest)) s here in
    let held = held_from_front t (b ∷ rest) found.0.0 found.0.1 found.1 in
    let within = held.0 in
    let begin : place ≡ place + 0 = omega arith in
    subst (λ (x : Spot). (k : ℕ) × (x.0 ≡ place + k) × (0 < x.1) × (k + x.1 ≤ length (b ∷ rest)) × (number_at t (take x.1 (drop k (b ∷ rest))) ≡ Some x.2)) found.2
    (0, begin, omega arith, omega (arith, within), held.1))
    (λ later.
    let more = match_held t rest (place + 1) s later in
    let at = more.1 in
    let within = more.3 in
    (suc more.0, omega (arith, at), more.2, omega (arith, within), more.4))

-- and each such key is one
match_from_held : (t : Tree) (rest : List ℕ) (place k n : ℕ) (v : ℤ) → 0 < n → k + n ≤ length rest → number_at t (take n (drop k rest)) ≡ Some v → Contains (spots_from t place rest) (place + k, n, v)
match_from_held t [] place k n v some within held = absurd (omega (arith, some, within))
match_from_held t (b ∷ rest) place zero n v some within held =
    let one : n - 1 + 1 ≡ n = omega (arith, some) in
    let begin : place ≡ place + 0 = omega arith in
    let found = front_from_held t (b ∷ rest) v (n - 1) (omega (arith, some, within)) (ap (λ m. number_at t (take m (b ∷ rest))) one ∙ held) in
    let first = Contains-append_left (map (spot place) (front t (b ∷ rest))) (spots_from t (place + 1) rest) (place, n - 1 + 1, v) (into_map (spot place) (front t (b ∷ rest)) (v, n - 1) found) in
    subst (λ p. Contains (spots_from t place (b ∷ rest)) (p, n, v)) begin (subst (λ m. Contains (spots_from t place (b ∷ rest)) (place, m, v)) one first)
match_from_held t (b ∷ rest) place (suc k) n v some within held =
    let begin : place + 1 + k ≡ place + suc k = omega arith in
    let later = match_from_held t rest (place + 1) k n v some (omega (arith, within)) held in
    subst (λ p. Contains (spots_from t place (b ∷ rest)) (p, n, v)) begin
    (Contains-append_right (map (spot place) (front t (b ∷ rest))) (spots_from t (place + 1) rest) (place + 1 + k, n, v) later)

-- the matches of a text are the keys in it
pub matches_exact : (t : Tree) (text : List ℕ) (s : Spot) → Contains (spots_from t 0 text) s ↔ IsKeyIn t text s
matches_exact t text s = (
  λ c.
      let held = match_held t text 0 s c in
      let at : held.0 ≡ s.0 = (let is = held.1 in omega (arith, is)) in
      let within = held.3 in
      (held.2, omega (arith, within, at), subst (λ p. number_at t (take s.1 (drop p text)) ≡ Some s.2) at held.4),
  λ is.
      let begin : 0 + s.0 ≡ s.0 = omega arith in
      subst (λ p. Contains (spots_from t 0 text) (p, s.1, s.2)) begin (match_from_held t text 0 s.0 s.1 s.2 is.0 is.1 is.2),
)
