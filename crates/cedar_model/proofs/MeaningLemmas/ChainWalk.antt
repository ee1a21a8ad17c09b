-- A walk along a chain to one of its labels.
use Rattle.std.proofs.Common.{◌≡◌, ℕ, ◌+◌, ◌<◌, List, [], ◌∷◌, length, sym, ◌∙◌, ap, subst, inl, inr, arith, Bool}
use Rattle.cedar_model.specs.Table.Cells.{Cells}
use Rattle.cedar_model.specs.Meaning.Family.{Among, below, Family, Head, Links, own, plain, top, valued}
use Rattle.cedar_model.specs.Edit.NodeEdits.{HasChain, IsLabelOf, IsLink}
use Rattle.cedar_model.proofs.MeaningLemmas.Chain.{links_few, links_next}
use Rattle.cedar_model.proofs.EditLemmas.SlotForLabel.{root_lead}

-- what is left of a chain after a label that isn't the one sought
pub record Past (T : Cells) (a next l : ℕ) (ls : List ℕ) : Type 0 where
  pub rest : List ℕ
  pub links : Links T a (T.sibling (below T a next)) rest
  pub has : Among rest l
  pub shorter : length rest + 1 ≡ length ls
  pub label : IsLabelOf T a next (below T a next)

pub links_past : (T : Cells) (a next l : ℕ) (ls : List ℕ) → Links T a next ls → Among ls l → (next ≡ l → ⊥) → Past T a next l ls
links_past T a next l [] h i n = absurd i
links_past T a next l (m ∷ ls) h (inl e) n = absurd (n (h.0 ∙ e))
links_past T a next l (m ∷ ls) h (inr i) n =
    let z : next ≡ 0 → ⊥ = λ z. omega (arith, h.0, h.1, z) in
    record {
      rest = ls;
      links = subst (λ x. Links T a (T.sibling (below T a x)) ls) (sym h.0) h.4;
      has = i;
      shorter = omega arith;
      label = (links_next T a next (m ∷ ls) h z).label;
    }

-- slot b is in a's chain before label l
pub record Along (T : Cells) (a l b : ℕ) : Type 0 where
  pub link : IsLink T a b
  pub rest : List ℕ
  pub links : Links T a (T.sibling b) rest
  pub has : Among rest l
  pub short : length rest < 256

pub first_along : (size : ℕ) (T : Cells) (ordered : Bool) (a l b : ℕ) (k : HasChain size T ordered a) → Among k.listed l → (T.child a ≡ l → ⊥) → b ≡ below T a (T.child a) → Along T a l b
first_along size T ordered a l b k i n e = by_head k.head k.listed k.family i
  where
    by_head : (h : Head) (ls : List ℕ) → Family size T a h ls → Among ls l → Along T a l b
    by_head plain ls f i =
        let p = links_past T a (T.child a) l ls f.begins i n in
        record {
          link = inr (T.child a, subst (IsLabelOf T a (T.child a)) (sym e) p.label);
          rest = p.rest;
          links = subst (λ x. Links T a (T.sibling x) p.rest) (sym e) p.links;
          has = p.has;
          short = omega (arith, p.shorter, links_few T a (T.child a) ls f.begins);
        }
    by_head (valued v) ls f i =
        let at : b ≡ below T a 0 = e ∙ ap (below T a) f.begins.0 in
        let links : Links T a (T.sibling b) ls = subst (λ x. Links T a (T.sibling x) ls) (sym at) f.begins.4 in
        record { link = inl (inr (f.begins.1, at)); rest = ls; links = links; has = i; short = links_few T a (T.sibling b) ls links }
    by_head (own v) ls f i = absurd (subst (λ x. Among x l) f.begins.1 i)
    by_head top ls f i =
        let at : b ≡ 0 = e ∙ ap (below T a) f.begins.1 ∙ root_lead T a f.begins.0 f.based in
        let links : Links T a (T.sibling b) ls = subst (λ x. Links T a (T.sibling x) ls) (f.begins.0 ∙ sym at) f.begins.2 in
        record { link = inl (inl (f.begins.0, at)); rest = ls; links = links; has = i; short = links_few T a (T.sibling b) ls links }
