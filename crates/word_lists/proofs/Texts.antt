-- The lines of words in a text, and its tokens, in parts; characters counted in parts.
use Rattle.std.proofs.Math.Seq.{take-suc}
use Rattle.std.proofs.lemmas.Bool.{lt-ltb}
use Rattle.std.proofs.lemmas.List.{drop-take, length-take, take-take}
use Rattle.std.proofs.Common.{◌≡◌, ◌<◌, ◌≤◌, ◌+◌, ◌-◌, suc, ℕ, List, [], ◌∷◌, ◌++◌, Bool, true, false, ap₂, get_or, take-append-drop, Option, refl, sym, ap, subst, ◌∙◌, append_assoc, append-nil, length, length-append, take, drop, arith, if◌then◌else◌, cond, ◌^◌}
use Rattle.std.specs.Prelude.{ltb}
use Rattle.std.specs.Io.KnownBytes.{Appends}
use Rattle.cedarwood.specs.Tree.{Tree}
use Rattle.cedar_words.specs.Words.{IsAheadCapped, IsCheapestBy, IsCut, IsLeastCapped, Spot, Token, character_price, keywords_in, segments}
use Rattle.device_lines.specs.Written.{WritesFront}
use Rattle.word_lists.specs.Texts.{IsCheapestCut, body_of, ending_of, marked_line, marked_token, characters, characters_begun, continues_character, spot_line, spot_lines, texts_of}
use Rattle.device_lines.proofs.Bytes.{front_after, front_more}

texts-append : (text_of : Token → List ℕ) (a b : List Token) → texts_of text_of (a ++ b) ≡ texts_of text_of a ++ texts_of text_of b
texts-append text_of [] b = refl
texts-append text_of (t ∷ a) b = ap (λ l. text_of t ++ l) (texts-append text_of a b) ∙ sym (append_assoc (text_of t) (texts_of text_of a) (texts_of text_of b))

pub texts_push : (text_of : Token → List ℕ) (a : List Token) (t : Token) → texts_of text_of (a ++ t ∷ []) ≡ texts_of text_of a ++ text_of t
texts_push text_of a t = texts-append text_of a (t ∷ []) ∙ ap (λ l. texts_of text_of a ++ l) (append-nil (text_of t))

-- some tokens were written, and a front of the next one
pub texts_stopped : (text_of : Token → List ℕ) (a b d : Option (List ℕ)) (tokens came later : List Token) (t : Token) → tokens ≡ came ++ t ∷ later
    → Appends a b (texts_of text_of came) → WritesFront b d (text_of t) → WritesFront a d (texts_of text_of tokens)
texts_stopped text_of a b d tokens came later t whole written front =
    subst (WritesFront a d) (sym (ap (texts_of text_of) whole ∙ texts-append text_of came (t ∷ later)))
    (front_after a b d (texts_of text_of came) (text_of t ++ texts_of text_of later) written (front_more b d (text_of t) (texts_of text_of later) front))

spots-append : (number : ℕ) (text : List ℕ) (a b : List Spot) → spot_lines number text (a ++ b) ≡ spot_lines number text a ++ spot_lines number text b
spots-append number text [] b = refl
spots-append number text (s ∷ a) b = ap (λ l. spot_line number text s ++ l) (spots-append number text a b) ∙ sym (append_assoc (spot_line number text s) (spot_lines number text a) (spot_lines number text b))

pub spots_push : (number : ℕ) (text : List ℕ) (a : List Spot) (s : Spot) → spot_lines number text (a ++ s ∷ []) ≡ spot_lines number text a ++ spot_line number text s
spots_push number text a s = spots-append number text a (s ∷ []) ∙ ap (λ l. spot_lines number text a ++ l) (append-nil (spot_line number text s))

-- some lines were written, and a front of the next one
pub spots_stopped : (number : ℕ) (text : List ℕ) (a b d : Option (List ℕ)) (spots came later : List Spot) (s : Spot) → spots ≡ came ++ s ∷ later
    → Appends a b (spot_lines number text came) → WritesFront b d (spot_line number text s) → WritesFront a d (spot_lines number text spots)
spots_stopped number text a b d spots came later s whole written front =
    subst (WritesFront a d) (sym (ap (spot_lines number text) whole ∙ spots-append number text came (s ∷ later)))
    (front_after a b d (spot_lines number text came) (spot_line number text s ++ spot_lines number text later) written (front_more b d (spot_line number text s) (spot_lines number text later) front))

-- characters in two parts
pub characters-append : (a b : List ℕ) → characters (a ++ b) ≡ characters a + characters b
characters-append [] b = omega arith
characters-append (x ∷ a) b = let below = characters-append a b in omega (arith, below)

-- there are no more of them than bytes
pub characters_within : (a : List ℕ) → characters a ≤ length a
characters_within [] = omega arith
characters_within (x ∷ a) = let below = characters_within a in let one = at_most_one (continues_character x) in omega (arith, below, one) where
  at_most_one : (b : Bool) → (if b then 0 else 1) ≤ 1
  at_most_one true = omega arith
  at_most_one false = omega arith

pub characters_front_within : (n : ℕ) (a : List ℕ) → characters (take n a) ≤ length a
characters_front_within n a = let some = characters_within (take n a) in let front = length-take n a in omega (arith, some, front)

-- those of the bytes so far, and of one more
pub characters_next : (xs : List ℕ) (i n : ℕ) → i < length xs → n ≡ characters (take i xs) → n + characters_begun (get_or xs i 0) ≡ characters (take (i + 1) xs)
characters_next xs i n lt so_far =
    let step : characters (take (suc i) xs) ≡ characters (take i xs) + characters (get_or xs i 0 ∷ []) = ap characters (take-suc xs i 0 lt) ∙ characters-append (take i xs) (get_or xs i 0 ∷ []) in
    let one : take (i + 1) xs ≡ take (suc i) xs = ap (λ k. take k xs) (suc_is i) in
    let same : characters (take (i + 1) xs) ≡ characters (take (suc i) xs) = ap characters one in
    omega (arith, so_far, step, same) where
      suc_is : (k : ℕ) → k + 1 ≡ suc k
      suc_is k = omega arith

-- a front in two parts
take_in_parts : (n m : ℕ) (xs : List ℕ) → n ≤ m → take m xs ≡ take n xs ++ take (m - n) (drop n xs)
take_in_parts n m xs le = sym (take-append-drop n (take m xs)) ∙ ap₂ (λ a b. a ++ b) front back where
  whole : n + (m - n) ≡ m
  whole = omega (arith, le)

  front : take n (take m xs) ≡ take n xs
  front = take-take n m xs le

  back : drop n (take m xs) ≡ take (m - n) (drop n xs)
  back = ap (λ k. drop n (take k xs)) (sym whole) ∙ drop-take n (m - n) xs

-- those before a position, and those from there to another one
pub characters_between : (text : List ℕ) (n m : ℕ) → n ≤ m → characters (take n text) + characters (take (m - n) (drop n text)) ≡ characters (take m text)
characters_between text n m le = sym (ap characters (take_in_parts n m text le) ∙ characters-append (take n text) (take (m - n) (drop n text)))

-- one more is some
pub some_more : {T : Type 0} (came : List T) (t : T) → true ≡ ltb 0 (length (came ++ t ∷ []))
some_more came t = sym (lt-ltb 0 (length (came ++ t ∷ [])) (let len = length-append came (t ∷ []) in omega (arith, len)))

-- a line with marks: nothing where it has no keyword
pub marked_none : (tree : Tree) (line : List ℕ) → ltb 0 (length (keywords_in tree (body_of line))) ≡ false → [] ≡ marked_line tree line
marked_none tree line h = ap (λ t. cond t (texts_of (marked_token (body_of line)) (segments tree (body_of line)) ++ ending_of line) []) (sym h)

-- and all of its tokens where it has one
pub marked_some : (tree : Tree) (line : List ℕ) → ltb 0 (length (keywords_in tree (body_of line))) ≡ true
    → texts_of (marked_token (body_of line)) (segments tree (body_of line)) ++ ending_of line ≡ marked_line tree line
marked_some tree line h = ap (λ t. cond t (texts_of (marked_token (body_of line)) (segments tree (body_of line)) ++ ending_of line) []) (sym h)

-- a cheapest cut of a line's body, however this was found
pub is_cheapest : (tree : Tree) (unknown : ℕ) (text body : List ℕ) (tokens : List Token) → body ≡ text → IsCut tree body tokens
    → (length body < 2 ^ 32 → IsCheapestBy tree (character_price unknown body) body tokens) → IsLeastCapped tree (character_price unknown body) body tokens
    → IsAheadCapped tree (character_price unknown body) body tokens → IsCheapestCut tree unknown text tokens
is_cheapest tree unknown text body tokens is cut least capped ahead =
    subst (λ t. IsCheapestCut tree unknown t tokens) is (record { cut = cut; least = least; capped = capped; ahead = ahead })
