-- What is left behind a match, and between which positions matches end.
use Rattle.std.proofs.Common.{◌≡◌, ℕ, zero, suc, ◌+◌, ◌-◌, ◌<◌, ◌≤◌, ℤ, List, [], ◌∷◌, ◌++◌, drop, get_or, length, length-append, map, take, Option, Some, None, IfSome, option_map, is_some, cond, refl, sym, ap, subst, ◌∙◌, arith}
use Rattle.std.specs.List.{cons_option}
use Rattle.std.proofs.lemmas.List.{drop-drop, drop_all, length-drop, length-take-le, take-append-drop, take_all}
use Rattle.cedar_tree.specs.Tree.{number_at, Tree}
use Rattle.cedar_words.specs.Spots.{spot}
use Rattle.cedar_words.specs.Tokens.{len_of}
use Rattle.cedar_words.proofs.LongestLemmas.{longest_within}
use Rattle.cedar_scan.specs.Earliest.{earliest_from, first_key}
use Rattle.cedar_scan.specs.Preferred.{key_for, keys_for, leftmost_behind}
use Rattle.cedar_scan.specs.Resumed.{earliest_behind, ending_behind, leftmost_from}
use Rattle.cedar_scan.specs.Suffixes.{all_ending, held_suffix, keys_ending, Occurrence, occurrence_ending}
use Rattle.cedar_scan.specs.declared.kind.MatchKind.{MatchKind}
use Rattle.cedar_scan.proofs.PreferredLemmas.{key_is_longest}
use Rattle.cedar_scan.proofs.StreamLemmas.{join_pieces}
use Rattle.cedar_scan.proofs.SuffixLemmas.{spots_of_held}

-- where a match ends
abbrev pub end_of : Occurrence → ℕ
end_of s = s.0 + s.1

first_of : (s r : Occurrence) (ss rr : List Occurrence) → s ∷ ss ≡ r ∷ rr → s ≡ r
first_of s r ss rr e = ap (λ (xs : List Occurrence). get_or xs 0 r) e

rest_of : (s r : Occurrence) (ss rr : List Occurrence) → s ∷ ss ≡ r ∷ rr → ss ≡ rr
rest_of s r ss rr e = ap (drop 1) e

none_some : (s : Occurrence) (ss : List Occurrence) → [] ≡ s ∷ ss → ⊥
none_some s ss e = let none = ap length e in absurd (omega (arith, none))

-- ---- the keys that end at one position

-- each ends behind a position, and not behind another
abbrev pub EndWithin : ℕ → ℕ → List Occurrence → Type 0
EndWithin low high [] = Unit {0}
EndWithin low high (s ∷ ss) = (low < end_of s) × (end_of s ≤ high) × EndWithin low high ss

pub within_both : (low high : ℕ) (xs ys : List Occurrence) → EndWithin low high xs → EndWithin low high ys → EndWithin low high (xs ++ ys)
within_both low high [] ys one other = other
within_both low high (x ∷ xs) ys one other = (one.0, one.1, within_both low high xs ys one.2 other)

within_wider : (low high less more : ℕ) (xs : List Occurrence) → less ≤ low → high ≤ more → EndWithin low high xs → EndWithin less more xs
within_wider low high less more [] l m all = tt
within_wider low high less more (x ∷ xs) l m all =
    let behind = all.0 in
    let up = all.1 in
    (omega (arith, behind, l), omega (arith, up, m), within_wider low high less more xs l m all.2)

pub within_last : (low high : ℕ) (xs ys : List Occurrence) → EndWithin low high (xs ++ ys) → EndWithin low high ys
within_last low high [] ys all = all
within_last low high (x ∷ xs) ys all = within_last low high xs ys all.2

keys_end : (t : Tree) (w : List ℕ) (place : ℕ) → length w ≤ place + 1 → EndWithin place (place + 1) (map (occurrence_ending (place + 1)) (keys_ending t w))
keys_end t [] place low = tt
keys_end t (b ∷ w) place low =
    let rest = keys_end t w place (omega (arith, low)) in
    (elim (number_at t (b ∷ w)) as (λ n. EndWithin place (place + 1) (map (occurrence_ending (place + 1)) (cons_option (option_map (λ (v : ℤ). (v, length (b ∷ w))) n) (keys_ending t w)))) [
      | None ↦ rest
      | Some v ↦ (omega (arith, low), omega (arith, low), rest)
    ])

pub all_end : (t : Tree) (read : List ℕ) (place : ℕ) (w : List ℕ) → length read ≤ place → EndWithin place (place + length w) (all_ending t read place w)
all_end t read place [] low = tt
all_end t read place (b ∷ w) low =
    let one = length-append read (b ∷ []) in
    let fits : length (read ++ b ∷ []) ≤ place + 1 = omega (arith, low, one) in
    let here = keys_end t (read ++ b ∷ []) place fits in
    let later = all_end t (read ++ b ∷ []) (place + 1) w fits in
    within_both place (place + length (b ∷ w)) (map (occurrence_ending (place + 1)) (keys_ending t (read ++ b ∷ []))) (all_ending t (read ++ b ∷ []) (place + 1) w)
    (within_wider place (place + 1) place (place + length (b ∷ w)) (map (occurrence_ending (place + 1)) (keys_ending t (read ++ b ∷ []))) (omega arith) (omega arith) here)
    (within_wider (place + 1) (place + 1 + length w) place (place + length (b ∷ w)) (all_ending t (read ++ b ∷ []) (place + 1) w) (omega arith) (omega arith) later)

-- those behind a position end behind it, and in the text
pub behind_end : (t : Tree) (place : ℕ) (text : List ℕ) → place ≤ length text → EndWithin place (length text) (ending_behind t place text)
behind_end t place text inside =
    let read = length-take-le place text inside in
    let left = length-drop place text in
    within_wider place (place + length (drop place text)) place (length text) (ending_behind t place text) (omega arith) (omega (arith, left, inside))
    (all_end t (take place text) place (drop place text) (omega (arith, read)))

pub none_behind : (t : Tree) (place : ℕ) (text : List ℕ) → length text ≤ place → ending_behind t place text ≡ []
none_behind t place text past = ap (all_ending t (take place text) place) (drop_all place text past)

take_parts : (n k : ℕ) (w : List ℕ) → take n w ++ take k (drop n w) ≡ take (n + k) w
take_parts zero k w = let same : k ≡ zero + k = omega arith in ap (λ m. take m w) same
take_parts (suc n) k [] = take_all k [] (omega arith) ∙ sym (take_all (suc n + k) [] (omega arith))
take_parts (suc n) k (b ∷ w) =
    let same : suc (n + k) ≡ suc n + k = omega arith in
    ap (λ x. b ∷ x) (take_parts n k w) ∙ ap (λ m. take m (b ∷ w)) same

-- those that end up to a position come first
pub behind_parts : (t : Tree) (place end : ℕ) (text : List ℕ) → place ≤ end → end ≤ length text
    → ending_behind t place text ≡ all_ending t (take place text) place (take (end - place) (drop place text)) ++ ending_behind t end text
behind_parts t place end text low inside =
    let k = end - place in
    let w = drop place text in
    let p = take k w in
    let read = take place text in
    let left = length-drop place text in
    let long : length p ≡ k = length-take-le k w (omega (arith, left, low, inside)) in
    let on : place + k ≡ end = omega (arith, low) in
    let slot_of_path : place + length p ≡ end = omega (arith, long, low) in
    let later : all_ending t (held_suffix t (read ++ p)) (place + length p) (drop k w) ≡ ending_behind t end text =
    sym (spots_of_held t (read ++ p) (place + length p) (drop k w))
    ∙ ap (λ n. all_ending t (read ++ p) n (drop k w)) slot_of_path
    ∙ ap (λ x. all_ending t x end (drop k w)) (take_parts place k text ∙ ap (λ n. take n text) on)
    ∙ ap (all_ending t (take end text) end) (drop-drop k place text ∙ ap (λ n. drop n text) on) in
    ap (all_ending t read place) (sym (take-append-drop k w))
    ∙ join_pieces t p (drop k w) read place
    ∙ ap (λ (x : List Occurrence). all_ending t read place p ++ x) later

-- where one list is two parts, of which the first ends up to a position and the other behind it, these are the parts
pub one_parting : (end low high : ℕ) (c a : List Occurrence) (x : Occurrence) (xs b : List Occurrence) → c ++ x ∷ xs ≡ a ++ b
    → EndWithin low end c → EndWithin low end a → end < end_of x → EndWithin end high b → (c ≡ a) × (x ∷ xs ≡ b)
one_parting end low high [] [] x xs b e up to behind after = (refl, e)
one_parting end low high [] (s ∷ a) x xs b e up to behind after =
    let same : end_of x ≡ end_of s = ap end_of (first_of x s xs (a ++ b) e) in
    let most = to.1 in
    absurd (omega (arith, same, most, behind))
one_parting end low high (s ∷ c) [] x xs [] e up to behind after = absurd (none_some s (c ++ x ∷ xs) (sym e))
one_parting end low high (s ∷ c) [] x xs (r ∷ b) e up to behind after =
    let same : end_of s ≡ end_of r = ap end_of (first_of s r (c ++ x ∷ xs) b e) in
    let most = up.1 in
    let late = after.0 in
    absurd (omega (arith, same, most, late))
one_parting end low high (s ∷ c) (r ∷ a) x xs b e up to behind after =
    let head = first_of s r (c ++ x ∷ xs) (a ++ b) e in
    let tail = one_parting end low high c a x xs b (rest_of s r (c ++ x ∷ xs) (a ++ b) e) up.2 to.2 behind after in
    (ap (λ (y : Occurrence). y ∷ c) head ∙ ap (λ (ys : List Occurrence). r ∷ ys) tail.0, tail.1)

-- and a front that ends up to the position is no longer than the first part
pub front_fits : (end low high : ℕ) (c a xs b : List Occurrence) → c ++ xs ≡ a ++ b → EndWithin low end c → EndWithin end high b → length c ≤ length a
front_fits end low high [] a xs b e up after = omega arith
front_fits end low high (s ∷ c) [] xs [] e up after = absurd (none_some s (c ++ xs) (sym e))
front_fits end low high (s ∷ c) [] xs (r ∷ b) e up after =
    let same : end_of s ≡ end_of r = ap end_of (first_of s r (c ++ xs) b e) in
    let most = up.1 in
    let late = after.0 in
    absurd (omega (arith, same, most, late))
front_fits end low high (s ∷ c) (r ∷ a) xs b e up after =
    let rest = front_fits end low high c a xs b (rest_of s r (c ++ xs) (a ++ b) e) up.2 after in
    omega (arith, rest)

-- ---- keys that don't overlap

-- a match ends behind a position and in a text, and these are left behind it
pub record GoesOn (finds : ℕ → List ℕ → List Occurrence) (place : ℕ) (text : List ℕ) (s : Occurrence) (later : List Occurrence) : Type 0 where
  pub behind : place < end_of s
  pub inside : end_of s ≤ length text
  pub left : later ≡ finds (end_of s) text

-- the same of what is left of a text from a position on
record GoesOnIn (finds : ℕ → List ℕ → List Occurrence) (place : ℕ) (w : List ℕ) (s : Occurrence) (later : List Occurrence) : Type 0 where
  pub behind : place < end_of s
  pub inside : end_of s ≤ place + length w
  pub left : later ≡ finds (end_of s) (drop (end_of s - place) w)

one_later : (finds : ℕ → List ℕ → List Occurrence) (place b : ℕ) (w : List ℕ) (s : Occurrence) (later : List Occurrence) → GoesOnIn finds (place + 1) w s later → GoesOnIn finds place (b ∷ w) s later
one_later finds place b w s later on =
    let behind = on.behind in
    let inside = on.inside in
    let same : suc (end_of s - (place + 1)) ≡ end_of s - place = omega (arith, behind) in
    record {
      behind = omega (arith, behind);
      inside = omega (arith, inside);
      left = on.left ∙ ap (λ n. finds (end_of s) (drop n (b ∷ w))) same;
    }

in_text : (finds : ℕ → List ℕ → List Occurrence) (place : ℕ) (text : List ℕ) (s : Occurrence) (later : List Occurrence) → place ≤ length text → GoesOnIn finds place (drop place text) s later
    → GoesOn (λ n w. finds n (drop n w)) place text s later
in_text finds place text s later inside on =
    let behind = on.behind in
    let within = on.inside in
    let left = length-drop place text in
    let same : place + (end_of s - place) ≡ end_of s = omega (arith, behind) in
    record {
      behind = behind;
      inside = omega (arith, within, left, inside);
      left = on.left ∙ ap (finds (end_of s)) (drop-drop (end_of s - place) place text ∙ ap (λ n. drop n text) same);
    }

key_short : (t : Tree) (w : List ℕ) (found : ℤ × ℕ) (keys : List (ℤ × ℕ)) → keys_ending t w ≡ found ∷ keys → found.1 ≤ length w
key_short t [] found keys e = let none = ap length e in absurd (omega (arith, none))
key_short t (b ∷ w) found keys e =
    (elim (number_at t (b ∷ w)) as (λ n. cons_option (option_map (λ (v : ℤ). (v, length (b ∷ w))) n) (keys_ending t w) ≡ found ∷ keys → found.1 ≤ length (b ∷ w)) [
      | None ↦ λ e. let low = key_short t w found keys e in omega (arith, low)
      | Some v ↦ λ e. let same : length (b ∷ w) ≡ found.1 = ap (λ (ks : List (ℤ × ℕ)). (get_or ks 0 found).1) e in omega (arith, same)
    ]) e

earliest_on : (t : Tree) (read : List ℕ) (place : ℕ) (w : List ℕ) (s : Occurrence) (later : List Occurrence) → length read ≤ place → earliest_from t read place w ≡ s ∷ later → GoesOnIn (earliest_from t []) place w s later
earliest_on t read place [] s later low e = absurd (none_some s later e)
earliest_on t read place (b ∷ w) s later low e =
    let one = length-append read (b ∷ []) in
    let fits : length (read ++ b ∷ []) ≤ place + 1 = omega (arith, low, one) in
    (elim (keys_ending t (read ++ b ∷ [])) as (λ ks. keys_ending t (read ++ b ∷ []) ≡ ks
    → cons_option (option_map (occurrence_ending (place + 1)) (first_key ks)) (earliest_from t (cond (is_some (first_key ks)) [] (read ++ b ∷ [])) (place + 1) w) ≡ s ∷ later → GoesOnIn (earliest_from t []) place (b ∷ w) s later) [
      | [] ↦ λ is f. one_later (earliest_from t []) place b w s later (earliest_on t (read ++ b ∷ []) (place + 1) w s later fits f)
      | found ∷ keys ↦ λ is e.
          let short = key_short t (read ++ b ∷ []) found keys is in
          let here = occurrence_ending (place + 1) found in
          let whole : end_of here ≡ place + 1 = omega (arith, short, fits) in
          let at : end_of s ≡ place + 1 = ap end_of (sym (first_of here s (earliest_from t [] (place + 1) w) later e)) ∙ whole in
          let next : end_of s - place ≡ 1 = omega (arith, at) in
          record {
            behind = omega (arith, at);
            inside = omega (arith, at);
            left = sym (rest_of here s (earliest_from t [] (place + 1) w) later e) ∙ ap (λ n. earliest_from t [] n w) (sym at) ∙ ap (λ n. earliest_from t [] (end_of s) (drop n (b ∷ w))) (sym next);
          }
    ]) refl e

-- behind the key that ends first they are those from its end on
pub earliest_goes_on : (t : Tree) (place : ℕ) (text : List ℕ) (s : Occurrence) (later : List Occurrence) → place ≤ length text → earliest_behind t place text ≡ s ∷ later → GoesOn (earliest_behind t) place text s later
earliest_goes_on t place text s later inside e = in_text (earliest_from t []) place text s later inside (earliest_on t [] place (drop place text) s later (omega arith) e)

passed : (kind : MatchKind) (t : Tree) (taken place : ℕ) (w : List ℕ) → leftmost_behind kind t taken place w ≡ leftmost_behind kind t 0 (place + taken) (drop taken w)
passed kind t zero place w = let same : place ≡ place + zero = omega arith in ap (λ n. leftmost_behind kind t 0 n w) same
passed kind t (suc taken) place [] = refl
passed kind t (suc taken) place (b ∷ w) =
    let same : place + 1 + taken ≡ place + suc taken = omega arith in
    passed kind t taken (place + 1) w ∙ ap (λ n. leftmost_behind kind t 0 n (drop taken w)) same

key_within : (kind : MatchKind) (t : Tree) (text : List ℕ) → IfSome (key_for kind t text) (λ found. found.1 < length text)
key_within kind t text = subst (λ (o : Option (ℤ × ℕ)). IfSome o (λ found. found.1 < length text)) (key_is_longest kind t text) (longest_within (keys_for kind t) text)

leftmost_on : (kind : MatchKind) (t : Tree) (place : ℕ) (w : List ℕ) (s : Occurrence) (later : List Occurrence) → leftmost_behind kind t 0 place w ≡ s ∷ later → GoesOnIn (leftmost_behind kind t 0) place w s later
leftmost_on kind t place [] s later e = absurd (none_some s later e)
leftmost_on kind t place (b ∷ w) s later e =
    (elim (key_for kind t (b ∷ w)) as (λ o. IfSome o (λ found. found.1 < length (b ∷ w))
    → cons_option (option_map (spot place) o) (leftmost_behind kind t (len_of o - 1) (place + 1) w) ≡ s ∷ later → GoesOnIn (leftmost_behind kind t 0) place (b ∷ w) s later) [
      | None ↦ λ within e.
          let none : len_of None - 1 ≡ 0 = omega arith in
          one_later (leftmost_behind kind t 0) place b w s later (leftmost_on kind t (place + 1) w s later (ap (λ n. leftmost_behind kind t n (place + 1) w) (sym none) ∙ e))
      | Some found ↦ λ within e.
          let here = spot place found in
          let taken = len_of (Some found) - 1 in
          let few : taken ≡ found.1 = omega arith in
          let at : end_of s ≡ place + (found.1 + 1) = ap end_of (sym (first_of here s (leftmost_behind kind t taken (place + 1) w) later e)) in
          let slot_of_path : place + 1 + taken ≡ end_of s = omega (arith, at, few) in
          let next : suc taken ≡ end_of s - place = omega (arith, at, few) in
          record {
            behind = omega (arith, at);
            inside = omega (arith, at, within);
            left =
                sym (rest_of here s (leftmost_behind kind t taken (place + 1) w) later e)
                ∙ passed kind t taken (place + 1) w
                ∙ ap (λ n. leftmost_behind kind t 0 n (drop taken w)) slot_of_path
                ∙ ap (λ n. leftmost_behind kind t 0 (end_of s) (drop n (b ∷ w))) next;
          }
    ]) (key_within kind t (b ∷ w)) e

-- behind the first key that counts they are those from its end on
pub leftmost_goes_on : (kind : MatchKind) (t : Tree) (place : ℕ) (text : List ℕ) (s : Occurrence) (later : List Occurrence) → place ≤ length text → leftmost_from kind t place text ≡ s ∷ later
    → GoesOn (leftmost_from kind t) place text s later
leftmost_goes_on kind t place text s later inside e = in_text (leftmost_behind kind t 0) place text s later inside (leftmost_on kind t place (drop place text) s later e)

-- from the end of a text on there are none
pub no_earliest : (t : Tree) (text : List ℕ) (place : ℕ) → length text ≤ place → earliest_behind t place text ≡ []
no_earliest t text place past = ap (earliest_from t [] place) (drop_all place text past)

pub no_leftmost : (kind : MatchKind) (t : Tree) (text : List ℕ) (place : ℕ) → length text ≤ place → leftmost_from kind t place text ≡ []
no_leftmost kind t text place past = ap (leftmost_behind kind t 0 place) (drop_all place text past)
