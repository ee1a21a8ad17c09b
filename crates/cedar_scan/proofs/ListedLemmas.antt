-- What a list of keys links.
use Rattle.std.proofs.Common.{◌≡◌, inl, inr, ℕ, zero, suc, ◌<◌, ◌≤◌, ℤ, List, [], ◌∷◌, ◌++◌, length, length-append, MatchOption, Option, None, Some, refl, sym, ap, subst, ◌∙◌, arith}
use Rattle.std.proofs.Math.Seq.{get_or-append_seam}
use Rattle.std.proofs.lemmas.Bool.Decides.{eqb_tells}
use Rattle.std.proofs.lemmas.List.{get_or_append_left}
use Rattle.cedar_scan.specs.declared.state.ListedKey.{ListedKey}
use Rattle.cedar_scan.specs.declared.state.PlacedNode.{PlacedNode}
use Rattle.cedar_scan.specs.Listed.{AreListedKeys, listed_at, keys_along, keys_from, ListsKey, no_key}

-- how many keys are looked at makes no difference, if they are enough
along_enough : (keys : List ListedKey) → AreListedKeys keys → (n m k : ℕ) → k ≤ n → k ≤ m → k < length keys → keys_along n keys k ≡ keys_along m keys k
along_enough keys h zero zero k low up inside = refl
along_enough keys h zero (suc m) zero low up inside = refl
along_enough keys h zero (suc m) (suc k) low up inside = absurd (omega (arith, low))
along_enough keys h (suc n) zero zero low up inside = refl
along_enough keys h (suc n) zero (suc k) low up inside = absurd (omega (arith, up))
along_enough keys h (suc n) (suc m) zero low up inside = refl
along_enough keys h (suc n) (suc m) (suc k) low up inside =
    let next = (listed_at keys (suc k)).next in
    let down : next < suc k = h.down (suc k) (omega arith) inside in
    ap (λ (ks : List (ℤ × ℕ)). ((listed_at keys (suc k)).value, (listed_at keys (suc k)).len) ∷ ks)
    (along_enough keys h n m next (omega (arith, down, low)) (omega (arith, down, up)) (omega (arith, down, inside)))

-- a key goes on with those that it is linked to
pub from_key : (keys : List ListedKey) → AreListedKeys keys → (k : ℕ) → 0 < k → k < length keys
    → keys_from keys k ≡ ((listed_at keys k).value, (listed_at keys k).len) ∷ keys_from keys (listed_at keys k).next
from_key keys h zero some inside = absurd (omega (arith, some))
from_key keys h (suc k) some inside =
    let next = (listed_at keys (suc k)).next in
    let down : next < suc k = h.down (suc k) some inside in
    ap (λ (ks : List (ℤ × ℕ)). ((listed_at keys (suc k)).value, (listed_at keys (suc k)).len) ∷ ks)
    (along_enough keys h k next next (omega (arith, down)) (omega arith) (omega (arith, down, inside)))

-- no key is linked where none is
pub from_none : (keys : List ListedKey) (k : ℕ) → k ≡ 0 → keys_from keys k ≡ []
from_none keys k none = ap (keys_from keys) none

-- ---- one key more

module _ (keys : List ListedKey) (h : AreListedKeys keys) (key : ListedKey) where
  same_key : (k : ℕ) → k < length keys → listed_at (keys ++ key ∷ []) k ≡ listed_at keys k
  same_key k inside = get_or_append_left keys (key ∷ []) no_key k inside

  new_key : listed_at (keys ++ key ∷ []) (length keys) ≡ key
  new_key = get_or-append_seam keys key [] no_key

  along_kept : (n k : ℕ) → k < length keys → keys_along n (keys ++ key ∷ []) k ≡ keys_along n keys k
  along_kept zero k inside = refl
  along_kept (suc n) zero inside = refl
  along_kept (suc n) (suc k) inside =
      let next = (listed_at keys (suc k)).next in
      let down : next < suc k = h.down (suc k) (omega arith) inside in
      ap (λ (x : ListedKey). (x.value, x.len) ∷ keys_along n (keys ++ key ∷ []) x.next) (same_key (suc k) inside)
      ∙ ap (λ (ks : List (ℤ × ℕ)). ((listed_at keys (suc k)).value, (listed_at keys (suc k)).len) ∷ ks) (along_kept n next (omega (arith, down, inside)))

  -- those that are there go on as they did
  pub from_kept : (k : ℕ) → k < length keys → keys_from (keys ++ key ∷ []) k ≡ keys_from keys k
  from_kept k inside = along_kept k k inside

  module _ (below : key.next < length keys) where
    pub listed_more : AreListedKeys (keys ++ key ∷ [])
    listed_more = record {
      some = let more = length-append keys (key ∷ []) in omega (arith, more);
      down = λ k some inside. elim (eqb_tells k (length keys)) [
        | inl last ↦
            let at : listed_at (keys ++ key ∷ []) k ≡ key = ap (listed_at (keys ++ key ∷ [])) last.1 ∙ new_key in
            let same = ap (λ (x : ListedKey). x.next) at in
            let is = last.1 in
            omega (arith, below, same, is)
        | inr other ↦
            let more = length-append keys (key ∷ []) in
            let apart = other.1 in
            let low : k < length keys = omega (arith, inside, more, apart) in
            let down = h.down k some low in
            let same = ap (λ (x : ListedKey). x.next) (same_key k low) in
            omega (arith, down, same)
      ];
    }

    -- and the new one goes on with those that it is linked to
    pub from_new : keys_from (keys ++ key ∷ []) (length keys) ≡ (key.value, key.len) ∷ keys_from keys key.next
    from_new =
        let some = h.some in
        let more = length-append keys (key ∷ []) in
        from_key (keys ++ key ∷ []) listed_more (length keys) some (omega (arith, more))
        ∙ ap (λ (x : ListedKey). (x.value, x.len) ∷ keys_from (keys ++ key ∷ []) x.next) new_key
        ∙ ap (λ (ks : List (ℤ × ℕ)). (key.value, key.len) ∷ ks) (from_kept key.next below)

-- ---- what a node adds

pub lists_none : (n : PlacedNode) (shorter : ℕ) (old : List ListedKey) → n.number ≡ None → ListsKey n shorter old shorter old
lists_none n shorter old none =
    subst (λ (o : Option ℤ). MatchOption o ((shorter ≡ shorter) × (old ≡ old)) (λ (v : ℤ). (shorter ≡ length old) × (old ≡ old ++ record { len = n.depth; value = v; next = shorter } ∷ []))) (sym none) (refl, refl)

pub lists_one : (n : PlacedNode) (shorter : ℕ) (old : List ListedKey) (v : ℤ) → n.number ≡ Some v → (index : ℕ) → index ≡ length old → (new : List ListedKey) → new ≡ old ++ record { len = n.depth; value = v; next = shorter } ∷ [] → ListsKey n shorter old index new
lists_one n shorter old v some index last new more =
    subst (λ (o : Option ℤ). MatchOption o ((index ≡ shorter) × (new ≡ old)) (λ (w : ℤ). (index ≡ length old) × (new ≡ old ++ record { len = n.depth; value = w; next = shorter } ∷ []))) (sym some) (last, more)
