-- That keys of UTF-8 part no character of a text of UTF-8, and that trees keep such keys.
use Rattle.std.proofs.Common.{◌≡◌, ℕ, ◌+◌, ◌-◌, ◌<◌, ◌≤◌, ◌↔◌, Bool, true, false, cond, nat_lt, ℤ, List, [], ◌∷◌, length, length-append, take, drop, get_or, Option, Some, None, MatchOption, All, IsUtf8, IsCharBoundary, refl, sym, ap, subst, ◌∙◌, arith, inl, inr}
use Rattle.std.specs.Char.{encode_utf8, len_utf8}
use Rattle.std.specs.Str.{bytes_eq, encode_utf8_all}
use Rattle.std.proofs.lemmas.Bool.{true≢false}
use Rattle.std.proofs.lemmas.Bool.Decides.{Decides-ltb, leb_tells}
use Rattle.std.proofs.lemmas.List.{get_or-drop, get_or-take, length-drop, length-take-le}
use Rattle.std.proofs.lemmas.List.Elements.{All-cons, All-head, All-nil, All-tail}
use Rattle.std.proofs.lemmas.Slice.Eq.{bytes_eq-Decides}
use Rattle.std.proofs.lemmas.Str.{byte_from_char, length-encode, IsCharBoundary-after_ascii, IsCharBoundary-before_ascii, IsCharBoundary-from_rest, IsCharBoundary-from_take, IsCharBoundary-start, IsUtf8-between, IsUtf8-drop}
use Rattle.cedarwood.specs.Tree.{cut, empty_tree, IsSoundBelow, number_at, put, Tree}
use Rattle.cedarwood.specs.State.{after_put, State}
use Rattle.cedarwood.specs.Queries.{Entry}
use Rattle.cedarwood.specs.Builds.{all_stored}
use Rattle.cedarwood.proofs.TreeLemmas.{number_at-cut_other, number_at-cut_same, number_at-empty, number_at-put_other}
use Rattle.cedar_words.specs.Characters.{AreWholeCharacters, HasUtf8Keys, PartsNoCharacter}
use Rattle.cedar_words.specs.Cuts.{IsCut, IsCutFrom, IsPiece}
use Rattle.cedar_words.specs.Spots.{IsKeyIn, keywords_from, keywords_in, keywords_of, Spot}
use Rattle.cedar_words.specs.Tokens.{AreAdjacent, IsLongest, segments, Token, tokens_behind}
use Rattle.cedar_words.proofs.CutLemmas.{cut_within}
use Rattle.cedar_words.proofs.TokenLemmas.{none_left, segments_cover, segments_longest, tokens_cover, tokens_longest}

-- the first of some bytes of a text
first_of : (text : List ℕ) (place n : ℕ) → 0 < n → get_or (take n (drop place text)) 0 0 ≡ get_or text place 0
first_of text place n some =
    let here : place + 0 ≡ place = omega arith in
    get_or-take n (drop place text) 0 0 some ∙ get_or-drop place text 0 0 ∙ ap (λ i. get_or text i 0) here

-- where a key begins that is UTF-8, a character does
begins : (text : List ℕ) (place n : ℕ) → 0 < n → place + n ≤ length text → IsUtf8 (take n (drop place text)) → IsCharBoundary text place
begins text place n some within key =
    let left = length-drop place text in
    let len : length (take n (drop place text)) ≡ n = length-take-le n (drop place text) (omega (arith, within, left)) in
    let first = first_of text place n some in
    let lead = (IsCharBoundary-start (take n (drop place text)) key).1 (omega (arith, len, some)) in
    (omega (arith, within, some), λ here high. let low = lead (omega (arith, first, high)) in omega (arith, first, low))

-- and where it ends, one does, or the text ends
pub ends : (text : List ℕ) (place n : ℕ) → IsUtf8 text → IsCharBoundary text place → place + n ≤ length text → IsUtf8 (take n (drop place text)) → IsCharBoundary text (place + n)
ends text place n utf8 begin within key =
    let left = length-drop place text in
    IsCharBoundary-from_rest text place n begin.0 (IsCharBoundary-from_take (drop place text) n (IsUtf8-drop text place utf8 begin) (omega (arith, within, left)) key)

pub key_whole : (t : Tree) (text : List ℕ) → IsUtf8 text → HasUtf8Keys t → (place n : ℕ) (v : ℤ) → 0 < n → place + n ≤ length text → number_at t (take n (drop place text)) ≡ Some v
    → AreWholeCharacters text place n
key_whole t text utf8 keys place n v some within held =
    let key : IsUtf8 (take n (drop place text)) = keys (take n (drop place text)) v held in
    let begin : IsCharBoundary text place = begins text place n some within key in
    (begin, ends text place n utf8 begin within key)

pub keys_whole : (t : Tree) (text : List ℕ) (s : Spot) → IsUtf8 text → HasUtf8Keys t → IsKeyIn t text s → AreWholeCharacters text s.0 s.1
keys_whole t text s utf8 keys is = key_whole t text utf8 keys s.0 s.1 s.2 is.0 is.1 is.2

-- a character from 128 on has more than one byte
more_than_one : (y z : Bool) → 1 < cond y 2 (cond z 3 4)
more_than_one true z = omega arith
more_than_one false true = omega arith
more_than_one false false = omega arith

wide : (c : ℕ) → 128 ≤ c → 1 < len_utf8 c
wide c high =
    (elim (nat_lt c 0x80) as (λ x. nat_lt c 0x80 ≡ x → 1 < cond x 1 (cond (nat_lt c 0x800) 2 (cond (nat_lt c 0x1_0000) 3 4))) [
      | true ↦ λ e. let low = (Decides-ltb c 0x80).0 e in absurd (omega (arith, low, high))
      | false ↦ λ _. more_than_one (nat_lt c 0x800) (nat_lt c 0x1_0000)
    ]) refl

narrow : (bs : List ℕ) → length bs ≡ 1 → (cs : List ℕ) → encode_utf8_all cs ≡ bs → get_or bs 0 0 < 128
narrow bs one [] e = let none = ap length e in absurd (omega (arith, one, none))
narrow bs one (c ∷ cs) e =
    let all = ap length e in
    let both = length-append (encode_utf8 c) (encode_utf8_all cs) in
    let len = length-encode c in
    elim (leb_tells 128 c) [
      | inl is ↦ let more = wide c is.1 in absurd (omega (arith, one, all, both, len, more))
      | inr isnt ↦ let low = isnt.1 in let same = byte_from_char bs (encode_utf8_all cs) c (sym e) low in omega (arith, same, low)
    ]

-- so one byte is a character exactly if it is below 128
alone : (text : List ℕ) → IsUtf8 text → (place : ℕ) → place < length text → AreWholeCharacters text place 1 ↔ (get_or text place 0 < 128)
alone text utf8 place here = (
  λ whole.
      let left = length-drop place text in
      let one : place + 1 - place ≡ 1 = omega arith in
      let byte : List ℕ = take (place + 1 - place) (drop place text) in
      let is : IsUtf8 byte = IsUtf8-between text place (place + 1) utf8 (omega arith) whole.0 whole.1 in
      let len : length byte ≡ 1 = length-take-le (place + 1 - place) (drop place text) (omega (arith, here, left)) ∙ one in
      let same : get_or byte 0 0 ≡ get_or text place 0 = first_of text place (place + 1 - place) (omega arith) in
      let low = narrow byte len is.0 is.1.1 in
      omega (arith, same, low),
  λ low. (IsCharBoundary-before_ascii text place here low, IsCharBoundary-after_ascii text place utf8 here low),
)

piece_parts : (t : Tree) (text : List ℕ) → IsUtf8 text → HasUtf8Keys t → (place len : ℕ) (value : Option ℤ) → 0 < len → place + len ≤ length text
    → MatchOption value (len ≡ 1) (λ v. number_at t (take len (drop place text)) ≡ Some v) → PartsNoCharacter text (place, len, value)
piece_parts t text utf8 keys place len None some within one =
    subst (λ n. AreWholeCharacters text place n ↔ (get_or text place 0 < 128)) (sym one) (alone text utf8 place (omega (arith, some, within)))
piece_parts t text utf8 keys place len (Some v) some within held = key_whole t text utf8 keys place len v some within held

-- no token of a cut parts a character
cut_parts_from : (t : Tree) (text : List ℕ) → IsUtf8 text → HasUtf8Keys t → (tokens : List Token) (place : ℕ) → IsCutFrom t text place tokens → All (PartsNoCharacter text) tokens
cut_parts_from t text utf8 keys [] place is = All-nil (PartsNoCharacter text)
cut_parts_from t text utf8 keys (x ∷ tokens) place is =
    let begin : x.0 ≡ place = is.0 in
    let within = cut_within t text tokens (place + x.1) is.3 in
    let piece = subst (λ p. IsPiece t (drop p text) x) (sym begin) is.2 in
    All-cons (PartsNoCharacter text) x tokens
    (piece_parts t text utf8 keys x.0 x.1 x.2 is.1 (omega (arith, within, begin)) piece)
    (cut_parts_from t text utf8 keys tokens (place + x.1) is.3)

pub cut_parts : (t : Tree) (text : List ℕ) (tokens : List Token) → IsUtf8 text → HasUtf8Keys t → IsCut t text tokens → All (PartsNoCharacter text) tokens
cut_parts t text tokens utf8 keys is = cut_parts_from t text utf8 keys tokens 0 is

-- tokens side by side of which each is the longest at its position are a cut
longest_piece : (t : Tree) (text : List ℕ) (place len : ℕ) (value : Option ℤ) → number_at t (take len (drop place text)) ≡ value → (value ≡ None → len ≡ 1)
    → MatchOption value (len ≡ 1) (λ v. number_at t (take len (drop place text)) ≡ Some v)
longest_piece t text place len None held one = one refl
longest_piece t text place len (Some v) held one = held

longest_cut : (t : Tree) (text : List ℕ) (tokens : List Token) (place : ℕ) → AreAdjacent tokens place (length text) → All (IsLongest t text) tokens → IsCutFrom t text place tokens
longest_cut t text [] place beside longest = beside
longest_cut t text (x ∷ tokens) place beside longest =
    let first : IsLongest t text x = All-head (IsLongest t text) x tokens longest in
    let piece : IsPiece t (drop x.0 text) x = longest_piece t text x.0 x.1 x.2 first.0 first.2 in (
      beside.0,
      beside.1,
      subst (λ p. IsPiece t (drop p text) x) beside.0 piece,
      longest_cut t text tokens (place + x.1) beside.2 (All-tail (IsLongest t text) x tokens longest),
    )

pub segments_parts : (t : Tree) (text : List ℕ) → IsUtf8 text → HasUtf8Keys t → All (PartsNoCharacter text) (segments t text)
segments_parts t text utf8 keys = cut_parts t text (segments t text) utf8 keys (longest_cut t text (segments t text) 0 (segments_cover t text) (segments_longest t text))

-- so it is with those from any position on
pub later_parts : (t : Tree) (text : List ℕ) (place : ℕ) → IsUtf8 text → HasUtf8Keys t → All (PartsNoCharacter text) (tokens_behind t 0 place (drop place text))
later_parts t text place utf8 keys =
    let left = length-drop place text in
    let tokens : List Token = tokens_behind t 0 place (drop place text) in
    elim (leb_tells place (length text)) [
      | inl low ↦
          let within = low.1 in
          let begin : place + 0 ≡ place = omega arith in
          let end : place + length (drop place text) ≡ length text = omega (arith, within, left) in
          let covers : AreAdjacent tokens (place + 0) (place + length (drop place text)) = tokens_cover t 0 place (drop place text) (omega arith) in
          let beside : AreAdjacent tokens place (length text) = subst (λ p. AreAdjacent tokens p (length text)) begin (subst (λ e. AreAdjacent tokens (place + 0) e) end covers) in
          cut_parts_from t text utf8 keys tokens place (longest_cut t text tokens place beside (tokens_longest t text 0 place (drop place text) refl))
      | inr high ↦
          let behind = high.1 in
          let short : length (drop place text) ≡ 0 = omega (arith, behind, left) in
          subst (All (PartsNoCharacter text)) (sym (none_left t place (drop place text) short)) (All-nil (PartsNoCharacter text))
    ]

-- keywords are the tokens that are keys
keyword_whole : (text : List ℕ) (place len : ℕ) (value : Option ℤ) (tokens : List Token) → PartsNoCharacter text (place, len, value) → All (λ (s : Spot). AreWholeCharacters text s.0 s.1) (keywords_of tokens)
    → All (λ (s : Spot). AreWholeCharacters text s.0 s.1) (keywords_of ((place, len, value) ∷ tokens))
keyword_whole text place len None tokens first later = later
keyword_whole text place len (Some v) tokens first later = All-cons (λ (s : Spot). AreWholeCharacters text s.0 s.1) (place, len, v) (keywords_of tokens) first later

keywords_of_whole : (text : List ℕ) (tokens : List Token) → All (PartsNoCharacter text) tokens → All (λ (s : Spot). AreWholeCharacters text s.0 s.1) (keywords_of tokens)
keywords_of_whole text [] all = All-nil (λ (s : Spot). AreWholeCharacters text s.0 s.1)
keywords_of_whole text (x ∷ tokens) all =
    keyword_whole text x.0 x.1 x.2 tokens (All-head (PartsNoCharacter text) x tokens all) (keywords_of_whole text tokens (All-tail (PartsNoCharacter text) x tokens all))

pub keywords_whole : (t : Tree) (text : List ℕ) → IsUtf8 text → HasUtf8Keys t → All (λ (s : Spot). AreWholeCharacters text s.0 s.1) (keywords_in t text)
keywords_whole t text utf8 keys = keywords_of_whole text (segments t text) (segments_parts t text utf8 keys)

pub later_whole : (t : Tree) (text : List ℕ) (place : ℕ) → IsUtf8 text → HasUtf8Keys t → All (λ (s : Spot). AreWholeCharacters text s.0 s.1) (keywords_from t place (drop place text))
later_whole t text place utf8 keys = keywords_of_whole text (tokens_behind t 0 place (drop place text)) (later_parts t text place utf8 keys)

-- keys stay UTF-8

some_number : (v : ℤ) → Some v ≡ None → ⊥
some_number v e = absurd (cc)

pub empty_utf8 : HasUtf8Keys empty_tree
empty_utf8 key v held = absurd (some_number v (sym held ∙ number_at-empty key))

pub put_utf8 : (t : Tree) (ordered : Bool) (k : List ℕ) (v : ℤ) → HasUtf8Keys t → IsUtf8 k → HasUtf8Keys (put t ordered k v)
put_utf8 t ordered k v keys utf8 q n held =
    (elim (bytes_eq q k) as (λ b. bytes_eq q k ≡ b → IsUtf8 q) [
      | true ↦ λ is. subst IsUtf8 (sym ((bytes_eq-Decides q k).0 is)) utf8
      | false ↦ λ is.
          let other : (q ≡ k → ⊥) = λ same. true≢false (sym ((bytes_eq-Decides q k).1 same) ∙ is) in
          keys q n (sym (number_at-put_other t ordered k v q other) ∙ held)
    ]) refl

pub cut_utf8 : (t : Tree) (k : List ℕ) → IsSoundBelow t.children → HasUtf8Keys t → HasUtf8Keys (cut t k)
cut_utf8 t k sound keys q n held =
    (elim (bytes_eq q k) as (λ b. bytes_eq q k ≡ b → IsUtf8 q) [
      | true ↦ λ is. absurd (some_number n (sym held ∙ ap (number_at (cut t k)) ((bytes_eq-Decides q k).0 is) ∙ number_at-cut_same t k sound))
      | false ↦ λ is.
          let other : (q ≡ k → ⊥) = λ same. true≢false (sym ((bytes_eq-Decides q k).1 same) ∙ is) in
          keys q n (sym (number_at-cut_other t k q sound other) ∙ held)
    ]) refl

pub stored_utf8 : (s : State) (entries : List Entry) → HasUtf8Keys s.tree → All (λ (e : Entry). IsUtf8 e.0) entries → HasUtf8Keys (all_stored s entries).tree
stored_utf8 s [] keys all = keys
stored_utf8 s (e ∷ entries) keys all =
    let first : IsUtf8 e.0 = All-head (λ (x : Entry). IsUtf8 x.0) e entries all in
    stored_utf8 (after_put s e.0 e.1) entries (put_utf8 s.tree s.ordered e.0 e.1 keys first) (All-tail (λ (x : Entry). IsUtf8 x.0) e entries all)
