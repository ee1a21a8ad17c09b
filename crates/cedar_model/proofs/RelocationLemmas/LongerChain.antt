-- Two chains walked in step, each from the second slot that its node owns.
use Rattle.std.proofs.Common.{◌≡◌, ℕ, ◌+◌, ◌<◌, List, [], ◌∷◌, length, not, sym, ◌∙◌, ap, refl, subst, inl, inr, arith}
use Rattle.std.specs.Prelude.{◌%◌, ◌==◌, ◌↔◌, bit_xor, IsTrue, pos}
use Rattle.std.proofs.lemmas.Bool.{cases_eq, eq-eqb, false≢true, ne_eqb}
use Rattle.cedar_model.specs.Table.Cells.{Cells}
use Rattle.cedar_model.specs.Meaning.Family.{base_of, below, Family, Head, plain, valued, own, top, Links, owned_slots}
use Rattle.cedar_model.specs.Meaning.Reading.{chain}
use Rattle.cedar_model.specs.Relocation.Wanted.{rest_of}
use Rattle.cedar_model.proofs.MeaningLemmas.LabelList.{after_number, listed_next, listed_none, number_there}
use Rattle.cedar_model.proofs.RelocationLemmas.Repointed.{base_within}
use Rattle.cedar_model.proofs.MeaningLemmas.ExclusiveOr.{xor_within}
use Rattle.cedar_model.proofs.MeaningLemmas.OneTree.{links_unique}

-- the slot for a label, as the code computes it, is in use
pub label_inside : (size : ℕ) (T : Cells) (s b x : ℕ) (h : Head) (ls : List ℕ) → size % 256 ≡ 0 → 0 < size → Family size T s h ls → b ≡ base_of T s → x < 256 → bit_xor b x < size
label_inside size T s b x h ls whole some f is small = xor_within size b x whole (subst (λ y. y < size) (sym is) (base_within size T s h ls some f)) small

-- ---- the second label

rest_valued : (h : Head) (ls : List ℕ) → 0 ∷ [] ≡ owned_slots h [] → rest_of (owned_slots h ls) ≡ ls
rest_valued plain ls e = cc
rest_valued (valued v) ls e = refl
rest_valued (own v) ls e = cc
rest_valued top ls e = cc

pub second_valued : (size : ℕ) (T : Cells) (s x c : ℕ) (h : Head) (ls : List ℕ) → (s ≡ 0 → ⊥) → x ≡ below T s 0 → T.check x ≡ pos s → c ≡ T.sibling x → Family size T s h ls → Links T s c (rest_of (owned_slots h ls))
second_valued size T s x c h ls z at mine is f =
    subst (Links T s c) (sym (rest_valued h ls (number_there size T s x h ls z at mine f))) (after_number size T s x c h ls z at mine is f)

-- without a number's slot the chain holds all that the node owns
chain_owned : (size : ℕ) (T : Cells) (s x : ℕ) (h : Head) (ls : List ℕ) → (s ≡ 0 → ⊥) → x ≡ below T s 0 → (T.check x ≡ pos s → ⊥) → Family size T s h ls → Links T s (T.child s) (owned_slots h ls)
chain_owned size T s x plain ls z at n f = f.begins
chain_owned size T s x (valued v) ls z at n f = absurd (n (ap T.check at ∙ f.begins.1))
chain_owned size T s x (own v) ls z at n f = subst (Links T s (T.child s)) (sym f.begins.1) f.begins.0
chain_owned size T s x top ls z at n f = absurd (z f.begins.0)

links_rest : (T : Cells) (s c : ℕ) (ls : List ℕ) → (c ≡ 0 → ⊥) → Links T s c ls → Links T s (T.sibling (below T s c)) (rest_of ls)
links_rest T s c [] n h = absurd (n h)
links_rest T s c (l ∷ ls) n h = subst (λ x. Links T s (T.sibling (below T s x)) ls) (sym h.0) h.4

links_none : (T : Cells) (s c : ℕ) (ls : List ℕ) → c ≡ 0 → Links T s c ls → Links T s 0 (rest_of ls)
links_none T s c [] z h = refl
links_none T s c (l ∷ ls) z h = absurd (omega (arith, z, h.0, h.1))

pub second_after : (size : ℕ) (T : Cells) (s x c y d : ℕ) (h : Head) (ls : List ℕ) → (s ≡ 0 → ⊥) → x ≡ below T s 0 → (T.check x ≡ pos s → ⊥) → c ≡ T.child s → (c ≡ 0 → ⊥) → y ≡ below T s c → d ≡ T.sibling y → Family size T s h ls → Links T s d (rest_of (owned_slots h ls))
second_after size T s x c y d h ls z at n first some there is f =
    let links : Links T s c (owned_slots h ls) = subst (λ l. Links T s l (owned_slots h ls)) (sym first) (chain_owned size T s x h ls z at n f) in
    subst (λ l. Links T s l (rest_of (owned_slots h ls))) (sym (is ∙ ap T.sibling there)) (links_rest T s c (owned_slots h ls) some links)

pub second_none : (size : ℕ) (T : Cells) (s x c : ℕ) (h : Head) (ls : List ℕ) → (s ≡ 0 → ⊥) → x ≡ below T s 0 → (T.check x ≡ pos s → ⊥) → c ≡ T.child s → c ≡ 0 → Family size T s h ls → Links T s 0 (rest_of (owned_slots h ls))
second_none size T s x c h ls z at n first none f =
    links_none T s (T.child s) (owned_slots h ls) (sym first ∙ none) (chain_owned size T s x h ls z at n f)

-- ---- a walk of one chain

-- a walk of the chain that begins with the label `first` has come to the label c behind `gone` others
pub record Walked (T : Cells) (s first c gone : ℕ) : Type 0 where
  pub rest : List ℕ
  pub links : Links T s c rest
  pub all : (ls : List ℕ) → Links T s first ls → length ls ≡ gone + length rest

walked_none : (T : Cells) (s first : ℕ) (ls : List ℕ) → Links T s first ls → Walked T s first first 0
walked_none T s first ls h = record { rest = ls; links = h; all = λ ms k. let same : ms ≡ ls = links_unique T s first ms ls k h in omega (arith, ap length same) }

-- one more label
pub record WalkedOn (T : Cells) (s first c gone : ℕ) : Type 0 where
  pub small : c < 256
  pub on : (d : ℕ) → d ≡ T.sibling (below T s c) → Walked T s first d (gone + 1)
  pub less : (d : ℕ) → d ≡ T.sibling (below T s c) → length (chain 256 T s d) < length (chain 256 T s c)

pub walked_on : (T : Cells) (s first c gone : ℕ) → (c ≡ 0 → ⊥) → Walked T s first c gone → WalkedOn T s first c gone
walked_on T s first c gone n w = by_rest w.rest refl
  where
    by_rest : (rest : List ℕ) → w.rest ≡ rest → WalkedOn T s first c gone
    by_rest [] e = absurd (n (subst (Links T s c) e w.links))
    by_rest (l ∷ ls) e =
        let h : Links T s c (l ∷ ls) = subst (Links T s c) e w.links in
        let next : Links T s (T.sibling (below T s c)) ls = links_rest T s c (l ∷ ls) n h in
        record {
          small = subst (λ x. x < 256) (sym h.0) h.2;
          on = λ d at. record {
            rest = ls;
            links = subst (λ x. Links T s x ls) (sym at) next;
            all = λ ms k. let whole = w.all ms k in omega (arith, whole, ap length e);
          };
          less = (listed_next T s c c [] [] n (listed_none T s c [] (l ∷ ls) h)).less;
        }

-- ---- two walks in step

-- walks of two chains have come to the labels l and r, as far in the one as in the other
pub record InStep (T : Cells) (one other first second l r : ℕ) : Type 0 where
  pub gone : ℕ
  pub left : Walked T one first l gone
  pub right : Walked T other second r gone

pub step_none : (T : Cells) (one other first second : ℕ) (ls ms : List ℕ) → Links T one first ls → Links T other second ms → InStep T one other first second first second
step_none T one other first second ls ms h k = record { gone = 0; left = walked_none T one first ls h; right = walked_none T other second ms k }

pub step_on : (T : Cells) (one other first second l r d e : ℕ) → (l ≡ 0 → ⊥) → (r ≡ 0 → ⊥) → d ≡ T.sibling (below T one l) → e ≡ T.sibling (below T other r) → InStep T one other first second l r → InStep T one other first second d e
step_on T one other first second l r d e n m at there w = record {
  gone = w.gone + 1;
  left = (walked_on T one first l w.gone n w.left).on d at;
  right = (walked_on T other second r w.gone m w.right).on e there;
}

links_some : (T : Cells) (s c : ℕ) (ls : List ℕ) → (c ≡ 0 → ⊥) → Links T s c ls → 0 < length ls
links_some T s c [] n h = absurd (n h)
links_some T s c (l ∷ ls) n h = omega arith

links_empty : (T : Cells) (s c : ℕ) (ls : List ℕ) → c ≡ 0 → Links T s c ls → length ls ≡ 0
links_empty T s c [] z h = refl
links_empty T s c (l ∷ ls) z h = absurd (omega (arith, z, h.0, h.1))

module _ (T : Cells) (one other first second l r : ℕ) (w : InStep T one other first second l r) (ls ms : List ℕ) (h : Links T one first ls) (k : Links T other second ms) where
  longer : (l ≡ 0 → ⊥) → r ≡ 0 → length ms < length ls
  longer n z = omega (arith, w.left.all ls h, w.right.all ms k, links_some T one l w.left.rest n w.left.links, links_empty T other r w.right.rest z w.right.links)

  not_longer : l ≡ 0 → length ms < length ls → ⊥
  not_longer z more = omega (arith, more, w.left.all ls h, w.right.all ms k, links_empty T one l w.left.rest z w.left.links)

  -- the first walk has labels left where the second has none
  pub is_longer_if : ((l ≡ 0 → ⊥) → r ≡ 0) → IsTrue (not (l == 0)) ↔ (length ms < length ls)
  is_longer_if ended = elim (cases_eq l 0) [
    | inl z ↦ (λ yes. absurd (false≢true (sym (ap not (eq-eqb l 0 z)) ∙ yes)), λ more. absurd (not_longer z more))
    | inr n ↦ (λ _. longer n (ended n), λ _. ap not (ne_eqb l 0 n))
  ]
