-- Many keys erased in turn.
use Rattle.std.proofs.Common.{◌≡◌, ◌∙◌, ◌↔◌, ℕ, ◌+◌, ◌<◌, ◌≤◌, suc, Bool, IsTrue, List, [], ◌∷◌, ◌++◌, cond, drop, get_or, length, set, take, IsSome, is_some, refl, sym, ap, subst, arith}
use Rattle.std.proofs.lemmas.List.{get_or-map, length-map, length-take-le, take_more}
use Rattle.std.proofs.lemmas.List.Sums.{fold-append}
use Rattle.cedarwood.specs.Queries.{walk}
use Rattle.cedarwood.specs.State.{State, after_erase}
use Rattle.cedarwood.specs.Tree.{cut, number_at}
use Rattle.cedarwood.proofs.EntryLemmas.Counts.{length-walk-cut}
use Rattle.cedarwood.specs.Batches.{held_in_turn, keys_erased}
use Rattle.cedar_c.specs.Pairs.{named_keys}
use Rattle.cedar_c.specs.declared.erasures.Key.{Key}
use Rattle.cedarwood.proofs.BatchLemmas.{held_as, length-held_in_turn}

-- no erasure adds a key
pub erased_fewer : (s : State) (ks : List (List ℕ)) → length (walk (keys_erased s ks).tree) ≤ length (walk s.tree)
erased_fewer s [] = omega arith
erased_fewer s (k ∷ ks) =
    let one : length (walk (cut s.tree k)) + cond (is_some (number_at s.tree k)) 1 0 ≡ length (walk s.tree) = length-walk-cut s.tree k in
    let later : length (walk (keys_erased (after_erase s k) ks).tree) ≤ length (walk (cut s.tree k)) = erased_fewer (after_erase s k) ks in
    omega (arith, one, later)

-- the result of one key more is written
held_more : (s : State) (ks : List (List ℕ)) (k : List ℕ) → held_in_turn s (ks ++ k ∷ []) ≡ held_in_turn s ks ++ is_some (number_at (keys_erased s ks).tree k) ∷ []
held_more s [] k = refl
held_more s (x ∷ xs) k = ap (λ (bs : List Bool). is_some (number_at s.tree x) ∷ bs) (held_more (after_erase s x) xs k)

-- one result more is written, if there is room for it
written : (answers old : List Bool) (b : Bool)
    → set (take (length old) answers ++ drop (length answers) old) (length answers) b ≡ take (length old) (answers ++ b ∷ []) ++ drop (suc (length answers)) old
written [] [] b = refl
written [] (o ∷ []) b = refl
written [] (o ∷ p ∷ old) b = refl
written (a ∷ answers) [] b = refl
written (a ∷ answers) (o ∷ old) b = ap (λ (bs : List Bool). a ∷ bs) (written answers old b)

module _ (s t : State) (keys : List Key) (i : ℕ) (inside : i < length keys) where
  key_count : length (named_keys keys) ≡ length keys
  key_count = length-map keys (λ (k : Key). k.key.now)

  -- the keys before one, and that one
  more : (d : Key) → take (i + 1) (named_keys keys) ≡ take i (named_keys keys) ++ (get_or keys i d).key.now ∷ []
  more d =
      let ks : List (List ℕ) = named_keys keys in
      let within : i < length ks = subst (λ n. i < n) (sym key_count) inside in
      take_more ks i [] within ∙ ap (λ (k : List ℕ). take i ks ++ k ∷ []) (get_or-map (λ (k : Key). k.key.now) keys i d [] inside)

  -- it is erased too
  pub erased_more : (u : State) (d : Key) → t ≡ keys_erased s (take i (named_keys keys)) → u ≡ after_erase t (get_or keys i d).key.now → u ≡ keys_erased s (take (i + 1) (named_keys keys))
  erased_more u d so_far last =
      let ks : List (List ℕ) = take i (named_keys keys) in
      let k : List ℕ = (get_or keys i d).key.now in
      last ∙ ap (λ (x : State). after_erase x k) so_far ∙ sym (fold-append after_erase s ks (k ∷ [])) ∙ ap (keys_erased s) (sym (more d))

  -- and their results are written
  pub told_more : (d : Key) (old held after : List Bool) (b : Bool) → t ≡ keys_erased s (take i (named_keys keys)) → IsTrue b ↔ IsSome (number_at t.tree (get_or keys i d).key.now)
      → held ≡ take (length old) (held_in_turn s (take i (named_keys keys))) ++ drop i old → after ≡ set held i b
      → after ≡ take (length old) (held_in_turn s (take (i + 1) (named_keys keys))) ++ drop (i + 1) old
  told_more d old held after b so_far is told set_at =
      let ks : List (List ℕ) = take i (named_keys keys) in
      let k : List ℕ = (get_or keys i d).key.now in
      let answers : List Bool = held_in_turn s ks in
      let count : length answers ≡ i = length-held_in_turn s ks ∙ length-take-le i (named_keys keys) (omega (arith, key_count, inside)) in
      let answer : b ≡ is_some (number_at (keys_erased s ks).tree k) = held_as b (number_at t.tree k) is ∙ ap (λ (x : State). is_some (number_at x.tree k)) so_far in
      let next : suc i ≡ i + 1 = omega arith in
      set_at
      ∙ ap (λ (bs : List Bool). set bs i b) told
      ∙ subst (λ (n : ℕ). set (take (length old) answers ++ drop n old) n b ≡ take (length old) (answers ++ b ∷ []) ++ drop (suc n) old) count (written answers old b)
      ∙ ap (λ (n : ℕ). take (length old) (answers ++ b ∷ []) ++ drop n old) next
      ∙ ap (λ (bs : List Bool). take (length old) bs ++ drop (i + 1) old) (ap (λ (x : Bool). answers ++ x ∷ []) answer ∙ sym (held_more s ks k) ∙ ap (held_in_turn s) (sym (more d)))
