-- That unknown runs of whole characters, and cuts of them and of keys in UTF-8, part no character.
use Rattle.std.proofs.Common.{◌≡◌, ℕ, zero, suc, ◌+◌, ◌-◌, ◌<◌, ◌≤◌, inl, inr, max, min, Bool, true, false, cond, ℤ, List, [], ◌∷◌, length, take, drop, get_or, Option, Some, None, MatchOption, All, IsUtf8, IsCharBoundary, refl, sym, ap, subst, ◌∙◌, arith}
use Rattle.std.proofs.lemmas.Bool.{le-leb, le-ltb, lt-ltb, true≢false}
use Rattle.std.proofs.lemmas.Bool.Decides.{leb_tells}
use Rattle.std.proofs.lemmas.List.{get_or-drop, length-drop}
use Rattle.std.proofs.lemmas.List.Elements.{All-cons, All-nil}
use Rattle.std.proofs.lemmas.Str.{IsCharBoundary-start}
use Rattle.cedarwood.specs.Tree.{Tree, number_at}
use Rattle.cedar_words.specs.Characters.{AreWholeCharacters, HasUtf8Keys}
use Rattle.cedar_words.specs.Models.{IsCutBy, IsCutFromBy, MayRun, run_len, RunsKeepCharacters}
use Rattle.cedar_words.specs.Runs.{character_len, character_rest, character_run, class_len, class_rest, class_run, character_code, is_continuation, only_without_key}
use Rattle.cedar_words.specs.Tokens.{Token}
use Rattle.cedar_words.specs.declared.models.UnknownRun.{UnknownRun}
use Rattle.cedar_words.proofs.CharacterLemmas.{ends}
use Rattle.cedar_words.proofs.ModelCutLemmas.{cut_within}

-- so many bytes end where a byte is that continues no character, or with all of them
abbrev pub EndsCharacter : List ℕ → ℕ → Type 0
EndsCharacter bytes n = (n ≤ length bytes) × (n < length bytes → is_continuation (get_or bytes n 0) ≡ false)

one_more : (b : ℕ) (bytes : List ℕ) (n : ℕ) → EndsCharacter bytes n → EndsCharacter (b ∷ bytes) (suc n)
one_more b bytes n ends = (let low = ends.0 in omega (arith, low), λ less. ends.1 (omega (arith, less)))

character_ends : (bytes : List ℕ) → EndsCharacter bytes (character_rest bytes)
character_ends [] = (omega arith, λ less. absurd (omega (arith, less)))
character_ends (b ∷ bytes) =
    (elim (is_continuation b) as (λ c. is_continuation b ≡ c → EndsCharacter (b ∷ bytes) (cond c (suc (character_rest bytes)) 0)) [
      | true ↦ λ _. one_more b bytes (character_rest bytes) (character_ends bytes)
      | false ↦ λ isnt. (omega arith, λ _. isnt)
    ]) refl

class_ends : (alike : ℕ → ℕ → Bool) (first most : ℕ) (bytes : List ℕ) → EndsCharacter bytes (class_rest alike first most bytes)
class_ends alike first most [] = (omega arith, λ less. absurd (omega (arith, less)))
class_ends alike first zero (b ∷ bytes) =
    (elim (is_continuation b) as (λ c. is_continuation b ≡ c → EndsCharacter (b ∷ bytes) (cond c (suc (class_rest alike first zero bytes)) 0)) [
      | true ↦ λ _. one_more b bytes (class_rest alike first zero bytes) (class_ends alike first zero bytes)
      | false ↦ λ isnt. (omega arith, λ _. isnt)
    ]) refl
class_ends alike first (suc most) (b ∷ bytes) =
    (elim (is_continuation b) as (λ c. is_continuation b ≡ c → EndsCharacter (b ∷ bytes) (cond c (suc (class_rest alike first (suc most) bytes)) (cond (alike first (character_code (b ∷ bytes))) (suc (class_rest alike first most bytes)) 0))) [
      | true ↦ λ _. one_more b bytes (class_rest alike first (suc most) bytes) (class_ends alike first (suc most) bytes)
      | false ↦ λ isnt.
          (elim (alike first (character_code (b ∷ bytes))) as (λ d. EndsCharacter (b ∷ bytes) (cond d (suc (class_rest alike first most bytes)) 0)) [
            | true ↦ one_more b bytes (class_rest alike first most bytes) (class_ends alike first most bytes)
            | false ↦ (omega arith, λ _. isnt)
          ])
    ]) refl

-- where a character begins, no byte continues one
no_tail : (text : List ℕ) (place : ℕ) → place < length text → IsCharBoundary text place → is_continuation (get_or text place 0) ≡ false
no_tail text place here begin = begins (get_or text place 0) (begin.1 here)
  where
    begins : (b : ℕ) → (128 ≤ b → 192 ≤ b) → is_continuation b ≡ false
    begins b lead = elim (leb_tells 128 b) [
      | inl is ↦ let high = lead is.1 in elim (leb_tells 192 b) [
        | inl more ↦ rw is.0 (le-ltb b 192 more.1)
        | inr less ↦ let low = less.1 in absurd (omega (arith, high, low))
      ]
      | inr isnt ↦ rw isnt.0 refl
    ]

-- and where none does, one begins, or the text ends
bounds : (text : List ℕ) (place : ℕ) → place ≤ length text → (place < length text → is_continuation (get_or text place 0) ≡ false) → IsCharBoundary text place
bounds text place within ends = (within, λ here high. lead (get_or text place 0) (ends here) high)
  where
    continues : (b : ℕ) → 128 ≤ b → b < 192 → is_continuation b ≡ true
    continues b high low = rw (le-leb 128 b high) (lt-ltb b 192 low)

    lead : (b : ℕ) → is_continuation b ≡ false → 128 ≤ b → 192 ≤ b
    lead b isnt high = elim (leb_tells 192 b) [
      | inl is ↦ is.1
      | inr less ↦ absurd (true≢false (sym (continues b high less.1) ∙ isnt))
    ]

-- a run of a first byte, which continues no character, and of so many bytes more
run_keeps : (text : List ℕ) (place n : ℕ) → place < length text → EndsCharacter (drop (place + 1) text) n → IsCharBoundary text (place + max 1 (min (1 + n) (length text - place)))
run_keeps text place n here ends =
    let left = length-drop (place + 1) text in
    let low = ends.0 in
    let len : place + 1 + n ≡ place + max 1 (min (1 + n) (length text - place)) = omega (arith, left, low, here) in
    subst (IsCharBoundary text) len
    (bounds text (place + 1 + n) (omega (arith, left, low, here))
    (λ less. ap is_continuation (sym (get_or-drop (place + 1) text n 0)) ∙ ends.1 (omega (arith, left, less))))

pub character_keeps : (text : List ℕ) (cost : ℕ) → RunsKeepCharacters (character_run cost text) text
character_keeps text cost place here begin =
    let n = character_rest (drop (place + 1) text) in
    let len : character_len text place ≡ 1 + n = rw (no_tail text place here begin) refl in
    subst (λ m. IsCharBoundary text (place + max 1 (min m (length text - place)))) (sym len) (run_keeps text place n here (character_ends (drop (place + 1) text)))

pub class_keeps : (text : List ℕ) (alike : ℕ → ℕ → Bool) (most cost : ℕ) → RunsKeepCharacters (class_run alike most cost text) text
class_keeps text alike most cost place here begin =
    let n = class_rest alike (character_code (drop place text)) (most - 1) (drop (place + 1) text) in
    let len : class_len alike most text place ≡ 1 + n = rw (no_tail text place here begin) refl in
    subst (λ m. IsCharBoundary text (place + max 1 (min m (length text - place)))) (sym len) (run_keeps text place n here (class_ends alike (character_code (drop place text)) (most - 1) (drop (place + 1) text)))

pub only_keeps : (text : List ℕ) (run : ℕ → UnknownRun) → RunsKeepCharacters run text → RunsKeepCharacters (λ place. only_without_key (run place)) text
only_keeps text run keeps place here begin = keeps place here begin

-- a token of a cut that begins where a character does ends where one does
piece_ends : (t : Tree) (run : ℕ → UnknownRun) (text : List ℕ) → IsUtf8 text → HasUtf8Keys t → RunsKeepCharacters run text → (place n : ℕ) (value : Option ℤ) → 0 < n → place + n ≤ length text → IsCharBoundary text place
    → MatchOption value ((n ≡ run_len (length (drop place text)) (run place)) × MayRun t (drop place text) (run place)) (λ v. number_at t (take n (drop place text)) ≡ Some v) → IsCharBoundary text (place + n)
piece_ends t run text utf8 keys keep place n None some within begin piece =
    let len : n ≡ run_len (length text - place) (run place) = piece.0 ∙ ap (λ m. run_len m (run place)) (length-drop place text) in
    subst (λ m. IsCharBoundary text (place + m)) (sym len) (keep place (omega (arith, some, within)) begin)
piece_ends t run text utf8 keys keep place n (Some v) some within begin held = ends text place n utf8 begin within (keys (take n (drop place text)) v held)

cut_whole_from : (t : Tree) (run : ℕ → UnknownRun) (text : List ℕ) → IsUtf8 text → HasUtf8Keys t → RunsKeepCharacters run text → (tokens : List Token) (place : ℕ) → IsCharBoundary text place → IsCutFromBy t run text place tokens
    → All (λ (x : Token). AreWholeCharacters text x.0 x.1) tokens
cut_whole_from t run text utf8 keys keep [] place begin is = All-nil (λ (x : Token). AreWholeCharacters text x.0 x.1)
cut_whole_from t run text utf8 keys keep (x ∷ tokens) place begin is =
    let within = cut_within t run text tokens (place + x.1) is.3 in
    let end : IsCharBoundary text (place + x.1) = piece_ends t run text utf8 keys keep place x.1 x.2 is.1 (omega (arith, within)) begin is.2 in
    All-cons (λ (y : Token). AreWholeCharacters text y.0 y.1) x tokens
    (subst (λ p. AreWholeCharacters text p x.1) (sym is.0) (begin, end))
    (cut_whole_from t run text utf8 keys keep tokens (place + x.1) end is.3)

pub cut_whole : (t : Tree) (run : ℕ → UnknownRun) (text : List ℕ) (tokens : List Token) → IsUtf8 text → HasUtf8Keys t → RunsKeepCharacters run text → IsCutBy t run text tokens → All (λ (x : Token). AreWholeCharacters text x.0 x.1) tokens
cut_whole t run text tokens utf8 keys keep is = cut_whole_from t run text utf8 keys keep tokens 0 (IsCharBoundary-start text utf8) is
