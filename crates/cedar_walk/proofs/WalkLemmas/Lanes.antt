-- Look-ups in step.
use Rattle.std.proofs.Common.{◌≡◌, ℕ, ◌<◌, ◌≤◌, List, [], length, get_or, drop, ◌+◌, sym, ◌∙◌, ap, refl, arith, Option, Some, None, false, map, ℤ, inl, inr, set, subst}
use Rattle.std.specs.Prelude.{MatchOption}
use Rattle.std.proofs.Math.ListN.{get_or-map as map_at, length-set, replicate}
use Rattle.std.proofs.lemmas.List.{drop_all, ext_get_or, get_or-map, get_or-replicate, length-map, get_or-set_other, get_or-set_same}
use Rattle.std.proofs.lemmas.Bool.{cases_lt}
use Rattle.std.specs.Borrow.{Bor}
use Rattle.cedar_model.specs.Tree.{Tree, has_label, subtree, number_at}
use Rattle.cedar_model.specs.Queries.{exact}
use Rattle.cedar_model.specs.Meaning.StandsFor.{Stands}
use Rattle.cedar_model.specs.Meaning.WellFormed.{cells_in, IsWellFormed, tree_of}
use Rattle.cedar_model.specs.Table.TableFields.{Fields, size_of}
use Rattle.cedar_walk.specs.Batch.{AreLanes, IsLane, keys_of}
use Rattle.cedar_model.proofs.MeaningLemmas.TreeOf.{root_place}
use Rattle.cedar_model.proofs.MeaningLemmas.SearchStep.{step_down, step_off}

-- one byte more
pub lane_goes_on : (T : Fields) (key : List ℕ) (k : ℕ) (u : Tree) (o : Option ℕ) → k < length key → number_at (tree_of T) key ≡ number_at u (drop k key)
    → MatchOption o (has_label u.children (get_or key k 0) ≡ false) (λ s. (s < size_of T) × Stands (size_of T) (cells_in T) s (subtree u.children (get_or key k 0)))
    → IsLane T key (k + 1) o
lane_goes_on T key k u None h e m = e ∙ step_off u key k (get_or key k 0) h refl m
lane_goes_on T key k u (Some s) h e m = (m.0, (subtree u.children (get_or key k 0), m.1, e ∙ step_down u key k (get_or key k 0) h refl))

-- a key that is at its end stays there
pub lane_stays : (T : Fields) (key : List ℕ) (k s : ℕ) → length key ≤ k → IsLane T key k (Some s) → IsLane T key (k + 1) (Some s)
lane_stays T key k s h i =
    let past : length key ≤ k + 1 = omega arith in
    (i.0, (i.1.0, i.1.1, i.1.2 ∙ ap (number_at i.1.0) (drop_all k key h ∙ sym (drop_all (k + 1) key past))))

-- no key has passed a byte at first
pub lane_begins : (slots : ℕ) (T : Fields) (key : List ℕ) → 256 ≤ size_of T → IsWellFormed slots T → IsLane T key 0 (Some 0)
lane_begins slots T key some w = (omega arith, (tree_of T, root_place slots T w, refl))

pub key_count : (keys : List (Bor (List ℕ))) → length (keys_of keys) ≡ length keys
key_count keys = length-map keys (λ (k : Bor (List ℕ)). k.now)

-- the key at an index, as code reads it
pub key_at : (keys : List (Bor (List ℕ))) (i : ℕ) → get_or (keys_of keys) i [] ≡ (get_or keys i (record { ref_ptr = (0, 0); now = [] })).now
key_at keys i = map_at (λ (k : Bor (List ℕ)). k.now) keys i (record { ref_ptr = (0, 0); now = [] })

-- of a round the keys before `lane` have passed one byte more
pub record Round (T : Fields) (keys : List (List ℕ)) (passed lane : ℕ) (lanes : List (Option ℕ)) : Type 0 where
  pub long : length lanes ≡ 16
  pub done : (i : ℕ) → i < lane → i < length keys → IsLane T (get_or keys i []) (passed + 1) (get_or lanes i None)
  pub rest : (i : ℕ) → lane ≤ i → i < length keys → IsLane T (get_or keys i []) passed (get_or lanes i None)

pub round_begins : (T : Fields) (keys : List (List ℕ)) (passed : ℕ) (lanes : List (Option ℕ)) → length lanes ≡ 16 → AreLanes T keys passed lanes → Round T keys passed 0 lanes
round_begins T keys passed lanes l a = record { long = l; done = λ i h. absurd (omega arith); rest = λ i h k. a i k }

pub round_ends : (T : Fields) (keys : List (List ℕ)) (passed lane : ℕ) (lanes : List (Option ℕ)) → length keys ≤ lane → Round T keys passed lane lanes → AreLanes T keys (passed + 1) lanes
round_ends T keys passed lane lanes h r = λ i k. r.done i (omega arith) k

pub round_goes_on : (T : Fields) (keys : List (List ℕ)) (passed lane : ℕ) (lanes : List (Option ℕ)) (next : Option ℕ)
    → lane < 16 → Round T keys passed lane lanes → IsLane T (get_or keys lane []) (passed + 1) next → Round T keys passed (lane + 1) (set lanes lane next)
round_goes_on T keys passed lane lanes next h r n = record {
  long = length-set lanes lane next ∙ r.long;
  done = λ i j k. elim (cases_lt i lane) [
    | inl before ↦ subst (IsLane T (get_or keys i []) (passed + 1)) (sym (get_or-set_other lanes lane i next None (omega arith))) (r.done i before k)
    | inr at ↦
        let same : lane ≡ i = omega arith in
        subst (λ x. IsLane T (get_or keys x []) (passed + 1) (get_or (set lanes lane next) x None)) same
        (subst (IsLane T (get_or keys lane []) (passed + 1)) (sym (get_or-set_same lanes lane next None (omega (arith, r.long)))) n)
  ];
  rest = λ i j k. subst (IsLane T (get_or keys i []) passed) (sym (get_or-set_other lanes lane i next None (omega arith))) (r.rest i (omega arith) k);
}

-- a key that isn't held is passed over
pub round_misses : (T : Fields) (keys : List (List ℕ)) (passed lane : ℕ) (lanes : List (Option ℕ)) → lane < length keys → get_or lanes lane None ≡ None
    → Round T keys passed lane lanes → Round T keys passed (lane + 1) lanes
round_misses T keys passed lane lanes h e r = record {
  long = r.long;
  done = λ i j k. elim (cases_lt i lane) [
    | inl before ↦ r.done i before k
    | inr at ↦
        let same : lane ≡ i = omega arith in
        let missed : IsLane T (get_or keys lane []) passed None = subst (IsLane T (get_or keys lane []) passed) e (r.rest lane (omega arith) h) in
        subst (λ x. IsLane T (get_or keys x []) (passed + 1) (get_or lanes x None)) same (subst (IsLane T (get_or keys lane []) (passed + 1)) (sym e) missed)
  ];
  rest = λ i j k. r.rest i (omega arith) k;
}

-- results one by one are the results of all
pub answers_are : (t : Tree) (keys : List (List ℕ)) (answers : List (Option (ℤ × ℕ))) → length answers ≡ length keys
    → ((i : ℕ) → i < length keys → get_or answers i None ≡ exact t (get_or keys i [])) → answers ≡ map (exact t) keys
answers_are t keys answers same each =
    ext_get_or None answers (map (exact t) keys) (same ∙ sym (length-map keys (exact t)))
    (λ i h. let inside : i < length keys = omega arith in each i inside ∙ sym (get_or-map (exact t) keys i [] None inside))

-- one result more
pub answered_at : (t : Tree) (keys : List (List ℕ)) (answers : List (Option (ℤ × ℕ))) (n : ℕ) (answer : Option (ℤ × ℕ)) → n < length answers
    → ((i : ℕ) → i < n → get_or answers i None ≡ exact t (get_or keys i [])) → answer ≡ exact t (get_or keys n [])
    → (i : ℕ) → i < n + 1 → get_or (set answers n answer) i None ≡ exact t (get_or keys i [])
answered_at t keys answers n answer inside each here i h = elim (cases_lt i n) [
  | inl before ↦ get_or-set_other answers n i answer None (omega arith) ∙ each i before
  | inr at ↦
      let same : n ≡ i = omega arith in
      subst (λ x. get_or (set answers n answer) x None ≡ exact t (get_or keys x [])) same (get_or-set_same answers n answer None inside ∙ here)
]

-- at first each of sixteen look-ups is at the root
pub lanes_begin : (slots : ℕ) (T : Fields) (keys : List (List ℕ)) → length keys ≤ 16 → 256 ≤ size_of T → IsWellFormed slots T
    → AreLanes T keys 0 (replicate 16 (Some 0))
lanes_begin slots T keys few some w = λ i h.
    let at : get_or (replicate 16 (Some 0)) i None ≡ Some 0 = get_or-replicate 16 i (Some 0) None (omega arith) in
    subst (IsLane T (get_or keys i []) 0) (sym at) (lane_begins slots T (get_or keys i []) some w)
