-- A buffer that is filled an element at a time.
use Rattle.std.proofs.Common.{◌≡◌, ℕ, ◌+◌, ◌-◌, ◌<◌, ◌≤◌, ◌^◌, List, [], ◌∷◌, ◌++◌, length, take, drop, set, add-one, refl, sym, ap, subst, ◌∙◌, arith}
use Rattle.std.specs.Prelude.{ℤ, Option, None, option_map}
use Rattle.std.specs.List.{Contains, last_or}
use Rattle.std.proofs.lemmas.List.{append_assoc, drop-set-lt, drop-drop, drop_all, drop_more, take-append-drop, take_all}
use Rattle.std.proofs.lemmas.Option.{none-some}
use Rattle.std.proofs.Math.Seq.{take-suc-set}
use Rattle.cedarwood.specs.Tree.{empty_tree, Tree}
use Rattle.cedarwood.specs.Queries.{front}
use Rattle.cedarwood.proofs.FrontLemmas.{held_from_front}
use Rattle.cedarwood.proofs.TreeLemmas.{number_at-empty}
use Rattle.cedarwood.proofs.FrontFromLemmas.{front_begins, front_short}
use Rattle.cedarwood.specs.Ranges.{longest_front}
use Rattle.cedar_c.specs.Content.{content_tree}
use Rattle.either_layout.specs.declared.any.AnyCedar.{AnyCedar}
use Rattle.cedar_c.specs.declared.walks.Match.{Match}
use Rattle.cedar_c.specs.Matches.{filled_matches, match_of}
use Rattle.cedar_c.proofs.ClosedLemmas.{closed_is_empty}

-- the next element is written
pub written : (ms : List Match) (p : ℕ) (d : Match) (x : ℤ × ℕ) (rest : List (ℤ × ℕ)) → p < length ms
    → take (p + 1) (set ms p (match_of x)) ++ filled_matches (drop (p + 1) (set ms p (match_of x))) rest ≡ take p ms ++ filled_matches (drop p ms) (x ∷ rest)
written ms p d x rest h =
    let now = set ms p (match_of x) in
    let front_of : take (p + 1) now ≡ take p ms ++ match_of x ∷ [] = rw add-one (take-suc-set ms p (match_of x) h) in
    let below : p < p + 1 = omega arith in
    ap (λ t. t ++ filled_matches (drop (p + 1) now) rest) front_of
    ∙ ap (λ u. (take p ms ++ match_of x ∷ []) ++ filled_matches u rest) (drop-set-lt (p + 1) ms p (match_of x) below)
    ∙ append_assoc (take p ms) (match_of x ∷ []) (filled_matches (drop (p + 1) ms) rest)
    ∙ ap (λ u. take p ms ++ filled_matches u (x ∷ rest)) (sym (drop_more ms p d h))

pub nothing_filled : (ms : List Match) → filled_matches ms [] ≡ ms
nothing_filled [] = refl
nothing_filled (m ∷ ms) = refl

-- nothing is left
pub all_written : (ms : List Match) (p : ℕ) (left : List (ℤ × ℕ)) → left ≡ [] → take p ms ++ filled_matches (drop p ms) left ≡ ms
all_written ms p left none =
    ap (λ l. take p ms ++ filled_matches (drop p ms) l) none ∙ ap (λ u. take p ms ++ u) (nothing_filled (drop p ms)) ∙ take-append-drop p ms

-- a text has no more fronts than bytes
pub fronts_fit : (t : Tree) (q : List ℕ) → length q < 2 ^ 64 → length (front t q) < 2 ^ 64
fronts_fit t q h =
    let few : length (front t q) ≤ length q = omega (arith, front_short t q 0, ap length (front_begins t q)) in omega arith

-- where nothing is held, no text has a front
pub no_fronts : (q : List ℕ) → front empty_tree q ≡ []
no_fronts q =
    (elim (front empty_tree q) as (λ l. front empty_tree q ≡ l → l ≡ []) [
      | [] ↦ λ is. refl
      | x ∷ xs ↦ λ is.
          let first : Contains (front empty_tree q) x = subst (λ l. Contains l x) (sym is) (0, omega arith, refl) in
          let held = held_from_front empty_tree q x.0 x.1 first in
          absurd (none-some x.0 (sym (number_at-empty (take (x.1 + 1) q)) ∙ held.1))
    ]) refl

-- one more is passed
pub one_passed : (count passed : ℕ) (left : List (ℤ × ℕ)) (x : ℤ × ℕ) (later : List (ℤ × ℕ)) → passed < count → left ≡ x ∷ later
    → drop (count - (passed + 1)) later ≡ drop (count - passed) left
one_passed count passed left x later h is =
    let less = count - (passed + 1) in
    let more : 1 + less ≡ count - passed = omega (arith, h) in
    drop-drop less 1 (x ∷ later) ∙ ap (λ n. drop n (x ∷ later)) more ∙ ap (drop (count - passed)) (sym is)

-- of nothing, nothing is left
pub nothing_left : (n : ℕ) (all : List (ℤ × ℕ)) → all ≡ [] → drop n all ≡ []
nothing_left n all none = let short : length all ≤ n = omega (arith, ap length none) in drop_all n all short

-- and nothing is reported
pub nothing_told : (ms : List Match) (n : ℕ) (all : List (ℤ × ℕ)) → all ≡ []
    → (◌≡◌ {A = ℕ} 0 (length (take (length ms) (drop n all)))) × (ms ≡ filled_matches ms (drop n all))
nothing_told ms n all none =
    let left = nothing_left n all none in
    let within : length {A = ℤ × ℕ} [] ≤ length ms = omega arith in
    (sym (ap (λ l. length (take (length ms) l)) left ∙ ap length (take_all (length ms) [] within)), sym (ap (filled_matches ms) left ∙ nothing_filled ms))

-- nor has it a longest one, as where a dictionary is closed
pub closed_has_no_front : (d : Option AnyCedar) (text : List ℕ) → d ≡ None → ◌≡◌ {A = Option (ℤ × ℕ)} (longest_front (content_tree d) text) None
closed_has_no_front d text closed =
    let last : List (ℤ × ℕ) → Option (ℤ × ℕ) = λ l. option_map (λ found. (found.0, found.1 + 1)) (last_or None l) in
    ap (λ t. longest_front t text) (closed_is_empty d closed) ∙ ap last (no_fronts text)
