-- A chain read into a list.
use Rattle.std.proofs.Common.{◌≡◌, ℕ, ◌+◌, ◌<◌, ◌≤◌, List, [], ◌∷◌, ◌++◌, length, sym, ◌∙◌, ap, refl, subst, inl, inr, arith}
use Rattle.std.specs.Prelude.{pos}
use Rattle.std.proofs.lemmas.List.{append_assoc, append-nil, length-append}
use Rattle.cedar_model.specs.Table.Cells.{Cells}
use Rattle.cedar_model.specs.Meaning.Family.{base_of, below, Head, plain, valued, own, top, Among, owned_slots, Links, Family}
use Rattle.cedar_model.specs.Meaning.Reading.{chain}
use Rattle.cedar_model.proofs.MeaningLemmas.ExclusiveOr.{xor_back}
use Rattle.cedar_model.proofs.MeaningLemmas.OneNode.{links_small}
use Rattle.cedar_model.proofs.MeaningLemmas.OneTree.{links_distinct, links_unique, no_zero}
use Rattle.cedar_model.proofs.MeaningLemmas.ReadBack.{chain_is, short_list}
use Rattle.cedar_model.proofs.RelocationLemmas.Repointed.{with_number}

-- a chain and its number's label are labels, of which there are 256
pub chain_shorter : (T : Cells) (s c : ℕ) (ls : List ℕ) → Links T s c ls → length ls + 1 ≤ 256
chain_shorter T s c ls h = omega (arith, short_list (0 ∷ ls) 256 (no_zero T s c ls h, links_distinct T s c ls h) small)
  where
    small : (q : ℕ) → Among (0 ∷ ls) q → q < 256
    small q (inl e) = omega (arith, e)
    small q (inr a) = links_small T s c ls h q a

-- a walk of the chain that begins with the label `first` has put the labels before the label c behind those in `before`
pub record Listed (T : Cells) (s first c : ℕ) (before items : List ℕ) : Type 0 where
  pub gone : List ℕ
  pub rest : List ℕ
  pub begun : Links T s first (gone ++ rest)
  pub links : Links T s c rest
  pub so_far : items ≡ before ++ gone

pub listed_none : (T : Cells) (s first : ℕ) (before ls : List ℕ) → Links T s first ls → Listed T s first first before before
listed_none T s first before ls h = record { gone = []; rest = ls; begun = h; links = h; so_far = sym (append-nil before) }

-- one more label
pub record NextLabel (T : Cells) (s first c : ℕ) (before items : List ℕ) : Type 0 where
  pub small : c < 256
  pub room : length before ≤ 1 → length items + 1 ≤ 256
  pub on : (d : ℕ) (more : List ℕ) → d ≡ T.sibling (below T s c) → more ≡ items ++ c ∷ [] → Listed T s first d before more
  pub less : (d : ℕ) → d ≡ T.sibling (below T s c) → length (chain 256 T s d) < length (chain 256 T s c)

pub listed_next : (T : Cells) (s first c : ℕ) (before items : List ℕ) → (c ≡ 0 → ⊥) → Listed T s first c before items → NextLabel T s first c before items
listed_next T s first c before items n w = by_rest w.rest refl
  where
    by_rest : (rest : List ℕ) → w.rest ≡ rest → NextLabel T s first c before items
    by_rest [] e = absurd (n (subst (Links T s c) e w.links))
    by_rest (l ∷ ls) e =
        let h : Links T s c (l ∷ ls) = subst (Links T s c) e w.links in
        let same : c ≡ l = h.0 in
        let links : Links T s (T.sibling (below T s c)) ls = subst (λ x. Links T s (T.sibling (below T s x)) ls) (sym same) h.4 in
        let whole : length (w.gone ++ w.rest) + 1 ≤ 256 = chain_shorter T s first (w.gone ++ w.rest) w.begun in
        let split : length (w.gone ++ w.rest) ≡ length w.gone + length w.rest = length-append w.gone w.rest in
        let some : length w.rest ≡ length (l ∷ ls) = ap length e in
        let all : length items ≡ length before + length w.gone = ap length w.so_far ∙ length-append before w.gone in
        record {
          small = subst (λ x. x < 256) (sym same) h.2;
          room = λ few. omega (arith, whole, split, some, all, few);
          on = λ d more at is. record {
            gone = w.gone ++ c ∷ [];
            rest = ls;
            begun = subst (Links T s first) (ap (λ r. w.gone ++ r) e ∙ ap (λ x. w.gone ++ x ∷ ls) (sym same) ∙ sym (append_assoc w.gone (c ∷ []) ls)) w.begun;
            links = subst (λ x. Links T s x ls) (sym at) links;
            so_far = is ∙ ap (λ v. v ++ c ∷ []) w.so_far ∙ append_assoc before w.gone (c ∷ []);
          };
          less = λ d at.
              let short : length (l ∷ ls) + 1 ≤ 256 = chain_shorter T s c (l ∷ ls) h in
              let next : Links T s d ls = subst (λ x. Links T s x ls) (sym at) links in
              let now : chain 256 T s c ≡ l ∷ ls = chain_is 256 T s c (l ∷ ls) h (omega (arith, short)) in
              let then : chain 256 T s d ≡ ls = chain_is 256 T s d ls next (omega (arith, short)) in
              omega (arith, ap length now, ap length then);
        }

pub listed_all : (T : Cells) (s first c : ℕ) (before items : List ℕ) → c ≡ 0 → Listed T s first c before items → (ls : List ℕ) → Links T s first ls → items ≡ before ++ ls
listed_all T s first c before items z w ls h = by_rest w.rest refl
  where
    by_rest : (rest : List ℕ) → w.rest ≡ rest → items ≡ before ++ ls
    by_rest [] e =
        let all : w.gone ++ w.rest ≡ w.gone = ap (λ r. w.gone ++ r) e ∙ append-nil w.gone in
        w.so_far ∙ ap (λ v. before ++ v) (links_unique T s first w.gone ls (subst (Links T s first) all w.begun) h)
    by_rest (l ∷ rest) e =
        let links : Links T s c (l ∷ rest) = subst (Links T s c) e w.links in
        absurd (omega (arith, z, links.0, links.1))

pub owned_split : (h : Head) (ls : List ℕ) → owned_slots h [] ++ ls ≡ owned_slots h ls
owned_split plain ls = refl
owned_split (valued v) ls = refl
owned_split (own v) ls = refl
owned_split top ls = refl

-- whether a node has a number's slot, by its head
pub number_there : (size : ℕ) (T : Cells) (s x : ℕ) (h : Head) (ls : List ℕ) → (s ≡ 0 → ⊥) → x ≡ below T s 0 → T.check x ≡ pos s → Family size T s h ls → 0 ∷ [] ≡ owned_slots h []
number_there size T s x plain ls z at o f =
    let zero_label : Among ls 0 = has_zero ls f in
    absurd (no_zero T s (T.child s) ls f.begins zero_label)
  where
    has_zero : (ls : List ℕ) → Family size T s plain ls → Among ls 0
    has_zero ls f = subst (Among ls) (ap (below T s) at ∙ xor_back (base_of T s) 0) (f.only x o)
number_there size T s x (valued v) ls z at o f = refl
number_there size T s x (own v) ls z at o f = absurd (subst (λ xs. Among xs (below T s x)) f.begins.1 (f.only x o))
number_there size T s x top ls z at o f = absurd (z f.begins.0)

pub number_not_there : (size : ℕ) (T : Cells) (s x : ℕ) (h : Head) (ls : List ℕ) → x ≡ below T s 0 → (T.check x ≡ pos s → ⊥) → Family size T s h ls → [] ≡ owned_slots h []
number_not_there size T s x plain ls at n f = refl
number_not_there size T s x (valued v) ls at n f = absurd (n (ap T.check at ∙ f.begins.1))
number_not_there size T s x (own v) ls at n f = refl
number_not_there size T s x top ls at n f = refl

-- the chain after the number's slot
pub after_number : (size : ℕ) (T : Cells) (s x c : ℕ) (h : Head) (ls : List ℕ) → (s ≡ 0 → ⊥) → x ≡ below T s 0 → T.check x ≡ pos s → c ≡ T.sibling x → Family size T s h ls → Links T s c ls
after_number size T s x c h ls z at o is f = subst (λ y. Links T s y ls) (sym (is ∙ ap T.sibling at)) (with_number size T s x h ls z at o f)
