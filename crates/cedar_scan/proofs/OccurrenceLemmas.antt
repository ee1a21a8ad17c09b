-- That a scan finds exactly the keys that occur in a text.
use Rattle.std.proofs.Common.{◌≡◌, ◌↔◌, inl, inr, ℕ, ◌+◌, ◌-◌, ◌<◌, ◌≤◌, ℤ, List, [], ◌∷◌, ◌++◌, append_assoc, drop, length, length-append, map, take, Option, Some, None, option_map, refl, sym, ap, subst, ◌∙◌, arith}
use Rattle.std.specs.List.{cons_option, Contains}
use Rattle.std.proofs.lemmas.Bool.Decides.{leb_tells}
use Rattle.std.proofs.lemmas.List.{drop-append-le, length-drop, take-append-le, take_all}
use Rattle.std.proofs.lemmas.List.Elements.{Contains-append_cases, Contains-append_left, Contains-append_right}
use Rattle.cedar_tree.specs.Tree.{number_at, Tree}
use Rattle.cedar_tree.proofs.MemberLemmas.{contains_first_or_later, contains_here, contains_later, contains_none, either_part, from_map, into_map}
use Rattle.cedar_scan.specs.Plain.{OccursIn}
use Rattle.cedar_scan.specs.Scans.{last_of}
use Rattle.cedar_scan.specs.Suffixes.{keys_ending, Occurrence, occurrence_ending, all_ending}
use Rattle.cedar_scan.proofs.ScanLemmas.{last_behind, last_whole}
use Rattle.cedar_scan.proofs.SuffixLemmas.{keys_of_key}

front_of : (n : ℕ) (w rest : List ℕ) → n ≤ length w → take n (drop (length w - n) (w ++ rest)) ≡ last_of n w
front_of n w rest low =
    let len = length-drop (length w - n) w in
    let all : length (drop (length w - n) w) ≡ n = omega (arith, len, low) in
    ap (take n) (drop-append-le (length w - n) w rest (omega arith)) ∙ take-append-le n (drop (length w - n) w) rest (omega (arith, all)) ∙ take_all n (drop (length w - n) w) (omega (arith, all))

-- a key among the last bytes, with one byte more before them
abbrev IsKeyAtEnd : Tree → List ℕ → ℤ → ℕ → Type 0
IsKeyAtEnd t w v n = (0 < n) × (n ≤ length w) × (number_at t (last_of n w) ≡ Some v)

one_before : (t : Tree) (b : ℕ) (w : List ℕ) (v : ℤ) (n : ℕ) → IsKeyAtEnd t w v n → IsKeyAtEnd t (b ∷ w) v n
one_before t b w v n k = let low = k.1 in (k.0, omega (arith, low), ap (number_at t) (last_behind n b w k.1) ∙ k.2)

whole_key : (t : Tree) (w : List ℕ) (x v : ℤ) (n : ℕ) → 0 < length w → number_at t w ≡ Some x → x ≡ v → length w ≡ n → IsKeyAtEnd t w v n
whole_key t w x v n some held same long = (omega (arith, some, long), omega (arith, long), ap (number_at t) (ap (λ m. last_of m w) (sym long) ∙ last_whole w) ∙ held ∙ ap Some same)

-- the keys that end where some bytes do
key_at_end : (t : Tree) (w : List ℕ) (v : ℤ) (n : ℕ) → Contains (keys_ending t w) (v, n) → IsKeyAtEnd t w v n
key_at_end t [] v n c = absurd (contains_none (v, n) c)
key_at_end t (b ∷ w) v n c =
    (elim (number_at t (b ∷ w)) as (λ o. number_at t (b ∷ w) ≡ o → Contains (cons_option (option_map (λ (x : ℤ). (x, length (b ∷ w))) o) (keys_ending t w)) (v, n) → IsKeyAtEnd t (b ∷ w) v n) [
      | None ↦ λ _ d. one_before t b w v n (key_at_end t w v n d)
      | Some x ↦ λ e d. either_part (contains_first_or_later (x, length (b ∷ w)) (keys_ending t w) (v, n) d)
          (λ same. whole_key t (b ∷ w) x v n (omega arith) e (ap (λ (p : ℤ × ℕ). p.0) same) (ap (λ (p : ℤ × ℕ). p.1) same))
          (λ later. one_before t b w v n (key_at_end t w v n later))
    ]) refl c

key_there : (t : Tree) (w : List ℕ) (v : ℤ) (n : ℕ) → IsKeyAtEnd t w v n → Contains (keys_ending t w) (v, n)
key_there t [] v n k = let some = k.0 in let most = k.1 in absurd (omega (arith, some, most))
key_there t (b ∷ w) v n k = elim (leb_tells n (length w)) [
  | inl short ↦
      later (number_at t (b ∷ w)) (key_there t w v n (k.0, short.1, ap (number_at t) (sym (last_behind n b w short.1)) ∙ k.2))
  | inr long ↦
      let most = k.1 in
      let above = long.1 in
      let all : n ≡ length (b ∷ w) = omega (arith, most, above) in
      let held : number_at t (b ∷ w) ≡ Some v = ap (number_at t) (sym (ap (λ m. last_of m (b ∷ w)) all ∙ last_whole (b ∷ w))) ∙ k.2 in
      subst (λ (ks : List (ℤ × ℕ)). Contains ks (v, n)) (sym (keys_of_key t b w v held))
      (subst (λ m. Contains ((v, length (b ∷ w)) ∷ keys_ending t w) (v, m)) (sym all) (contains_here (v, length (b ∷ w)) (keys_ending t w)))
]
  where
    later : (o : Option ℤ) → Contains (keys_ending t w) (v, n) → Contains (cons_option (option_map (λ (x : ℤ). (x, length (b ∷ w))) o) (keys_ending t w)) (v, n)
    later None c = c
    later (Some x) c = contains_later (x, length (b ∷ w)) (keys_ending t w) (v, n) c

-- a key that ends in the bytes that are left, of the whole text
abbrev EndsBehind : Tree → List ℕ → List ℕ → Occurrence → Type 0
EndsBehind t w rest s = OccursIn t (w ++ rest) s × (length w < s.0 + s.1)

found_in : (t : Tree) (rest w : List ℕ) (place : ℕ) → place ≡ length w → (s : Occurrence) → Contains (all_ending t w place rest) s → EndsBehind t w rest s
found_in t [] w place e s c = absurd (contains_none s c)
found_in t (b ∷ rest) w place e s c =
    let u = w ++ b ∷ [] in
    let long = length-append w (b ∷ []) in
    let next : place + 1 ≡ length u = omega (arith, e, long) in
    let whole : u ++ rest ≡ w ++ b ∷ rest = append_assoc w (b ∷ []) rest in
    either_part (Contains-append_cases (map (occurrence_ending (place + 1)) (keys_ending t u)) (all_ending t u (place + 1) rest) s c)
    (λ first.
    let found = from_map (occurrence_ending (place + 1)) (keys_ending t u) s first in
    subst (EndsBehind t w (b ∷ rest)) found.2 (here u next whole found.0.0 found.0.1 (key_at_end t u found.0.0 found.0.1 found.1)))
    (λ later.
    let k = found_in t rest u (place + 1) next s later in
    let behind = k.1 in
    (subst (λ text. OccursIn t text s) whole k.0, omega (arith, behind, long)))
  where
    here : (u : List ℕ) → place + 1 ≡ length u → u ++ rest ≡ w ++ b ∷ rest → (v : ℤ) (n : ℕ) → IsKeyAtEnd t u v n → EndsBehind t w (b ∷ rest) (place + 1 - n, n, v)
    here u next whole v n k =
        let some = k.0 in
        let most = k.1 in
        let start : place + 1 - n ≡ length u - n = ap (λ m. m - n) next in
        let all = ap length whole in
        let both = length-append u rest in (
          (some, omega (arith, most, next, all, both), ap (λ m. number_at t (take n (drop m (w ++ b ∷ rest)))) start ∙ ap (λ text. number_at t (take n (drop (length u - n) text))) (sym whole) ∙ ap (number_at t) (front_of n u rest k.1) ∙ k.2),
          omega (arith, most, next, e),
        )

found_there : (t : Tree) (rest w : List ℕ) (place : ℕ) → place ≡ length w → (s : Occurrence) → EndsBehind t w rest s → Contains (all_ending t w place rest) s
found_there t [] w place e s k =
    let most = k.0.1 in
    let behind = k.1 in
    let both = length-append w [] in
    absurd (omega (arith, most, behind, both))
found_there t (b ∷ rest) w place e s k =
    let u = w ++ b ∷ [] in
    let long = length-append w (b ∷ []) in
    let next : place + 1 ≡ length u = omega (arith, e, long) in
    let whole : u ++ rest ≡ w ++ b ∷ rest = append_assoc w (b ∷ []) rest in
    elim (leb_tells (s.0 + s.1) (place + 1)) [
      | inl low ↦
          let most = low.1 in
          let behind = k.1 in
          let some = k.0.0 in
          let end : s.0 + s.1 ≡ length u = omega (arith, most, behind, next, long, e) in
          let start : length u - s.1 ≡ s.0 = omega (arith, end) in
          let fits : s.1 ≤ length u = omega (arith, end) in
          let held : number_at t (last_of s.1 u) ≡ Some s.2 =
          ap (number_at t) (sym (front_of s.1 u rest fits)) ∙ ap (λ text. number_at t (take s.1 (drop (length u - s.1) text))) whole ∙ ap (λ m. number_at t (take s.1 (drop m (w ++ b ∷ rest)))) start ∙ k.0.2 in
          let begin : place + 1 - s.1 ≡ s.0 = omega (arith, end, next) in
          Contains-append_left (map (occurrence_ending (place + 1)) (keys_ending t u)) (all_ending t u (place + 1) rest) s
          (subst (λ (m : ℕ). Contains (map (occurrence_ending (place + 1)) (keys_ending t u)) (m, s.1, s.2)) begin
          (into_map (occurrence_ending (place + 1)) (keys_ending t u) (s.2, s.1) (key_there t u s.2 s.1 (some, fits, held))))
      | inr high ↦
          let above = high.1 in
          Contains-append_right (map (occurrence_ending (place + 1)) (keys_ending t u)) (all_ending t u (place + 1) rest) s
          (found_there t rest u (place + 1) next s (subst (λ text. OccursIn t text s) (sym whole) k.0, omega (arith, above, next)))
    ]

pub exactly_keys : (t : Tree) (text : List ℕ) (s : Occurrence) → Contains (all_ending t [] 0 text) s ↔ OccursIn t text s
exactly_keys t text s = (
  λ c. (found_in t text [] 0 refl s c).0,
  λ k. let some = k.0 in found_there t text [] 0 refl s (k, omega (arith, some)),
)
