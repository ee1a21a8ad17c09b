-- The slots of one node given to another owner: the number's slot, then label by label along the chain.
use Rattle.std.proofs.Common.{◌≡◌, ℕ, ◌<◌, ◌≤◌, List, [], ◌∷◌, ◌++◌, length, sym, ◌∙◌, ap, refl, subst, inl, inr, arith}
use Rattle.std.specs.Prelude.{ℤ, pos, negsuc, ◌⊎◌, bit_xor}
use Rattle.std.proofs.lemmas.Bool.{cases_eq}
use Rattle.std.proofs.lemmas.List.{append_assoc, append-nil}
use Rattle.cedar_model.specs.declared.layout.Stored.{Stored}
use Rattle.cedar_model.specs.Table.Cells.{Cells, Held, NodeWritten}
use Rattle.cedar_model.specs.Meaning.Family.{base_in, base_of, below, Head, plain, valued, own, top, Among, Links, Begins, Family, owned_slots}
use Rattle.cedar_model.specs.Meaning.Reading.{chain}
use Rattle.cedar_model.specs.Relocation.Renaming.{Always, ChecksAt, IsNode, IsNumber, OwnsNothing, Repointed}
use Rattle.cedar_model.proofs.MeaningLemmas.ExclusiveOr.{xor_back, pos_injective}
use Rattle.cedar_model.proofs.MeaningLemmas.OneTree.{links_unique, no_zero}
use Rattle.cedar_model.proofs.MeaningLemmas.ReadBack.{chain_is, chain_short}
use Rattle.cedar_model.proofs.MeaningLemmas.AmongLabels.{among_front, among_last, among_push}

-- whether a check names slot a
pub owner_cases : (z : ℤ) (a : ℕ) → (z ≡ pos a) ⊎ (z ≡ pos a → ⊥)
owner_cases (pos n) a = elim (cases_eq n a) [ inl e ↦ inl (ap pos e) | inr m ↦ inr (λ e. m (pos_injective n a e)) ]
owner_cases (negsuc n) a = inr (λ e. cc)

-- a record written with the base that the slot had
pub checks_at : (reads : ℤ → Stored) (T T' : Cells) (q c : ℕ) (b z : ℤ) → NodeWritten reads T T' q b z → b ≡ T.base q → reads (T.base q) ≡ T.stored q → z ≡ pos c → ChecksAt T T' q c
checks_at reads T T' q c b z w base stored check = record {
  at = w.check_at ∙ check;
  other = w.check;
  base = λ x. elim (cases_eq x q) [ inl e ↦ ap T'.base e ∙ w.base_at ∙ base ∙ ap T.base (sym e) | inr n ↦ w.base x n ];
  stored = λ x. elim (cases_eq x q) [ inl e ↦ ap T'.stored e ∙ w.stored_at ∙ ap reads base ∙ stored ∙ ap T.stored (sym e) | inr n ↦ w.stored x n ];
  sibling = w.sibling;
  child = w.child;
}

repointed_none : (T : Cells) (s t : ℕ) (P : ℕ → Type 0) → ((q : ℕ) → T.check q ≡ pos s → P (below T s q) → ⊥) → Repointed T T s t P
repointed_none T s t P n = record {
  pointed = λ q o g. absurd (n q o g);
  kept = λ q m. refl;
  base = λ q. refl;
  stored = λ q. refl;
  sibling = λ q. refl;
  child = λ q. refl;
}

-- a slot that owns nothing needs no step
pub repointed_nothing : (T : Cells) (s t : ℕ) (P : ℕ → Type 0) → OwnsNothing T s → Repointed T T s t P
repointed_nothing T s t P n = repointed_none T s t P (λ q o g. n q o)

-- what was held is held
pub held_still : (T T₁ : Cells) (s t : ℕ) (P : ℕ → Type 0) → ((l : ℕ) → P l ⊎ (P l → ⊥)) → Repointed T T₁ s t P → (q : ℕ) → Held T q → Held T₁ q
held_still T T₁ s t P dec r q (inl e) = inl e
held_still T T₁ s t P dec r q (inr h) = elim (owner_cases (T.check q) s) [
  | inl e ↦ elim (dec (below T s q)) [
    | inl g ↦ inr (t, r.pointed q e g)
    | inr n ↦ inr (h.0, r.kept q (λ o g. n g) ∙ h.1)
  ]
  | inr n ↦ inr (h.0, r.kept q (λ o g. n o) ∙ h.1)
]

-- and what is held was held
pub repointed_held : (T T₁ : Cells) (s t : ℕ) → Repointed T T₁ s t Always → (q : ℕ) → Held T₁ q → Held T q
repointed_held T T₁ s t r q (inl e) = inl e
repointed_held T T₁ s t r q (inr h) = elim (owner_cases (T.check q) s) [
  | inl e ↦ inr (s, e)
  | inr n ↦ inr (h.0, sym (r.kept q (λ o _. n o)) ∙ h.1)
]

pub among_cases : (ls : List ℕ) (x : ℕ) → Among ls x ⊎ (Among ls x → ⊥)
among_cases [] x = inr (λ a. absurd a)
among_cases (y ∷ ls) x = elim (cases_eq y x) [
  | inl e ↦ inl (inl e)
  | inr n ↦ elim (among_cases ls x) [ inl a ↦ inl (inr a) | inr m ↦ inr (λ a. elim a [ inl e ↦ n e | inr b ↦ m b ]) ]
]

-- ---- along the chain

-- a walk of the chain that begins with the label `first` has given away the slots before the label c
pub record Walked (T T₁ : Cells) (from to first c : ℕ) : Type 0 where
  pub gone : List ℕ
  pub rest : List ℕ
  pub begun : Links T from first (gone ++ rest)
  pub links : Links T from c rest
  pub repointed : Repointed T T₁ from to (Among gone)

pub walked_none : (T : Cells) (from to first : ℕ) (ls : List ℕ) → Links T from first ls → Walked T T from to first first
walked_none T from to first ls h = record {
  gone = [];
  rest = ls;
  begun = h;
  links = h;
  repointed = repointed_none T from to (Among []) (λ q o g. g);
}

-- the slot of one more label was given away
repointed_more : (T T₁ T₂ : Cells) (s t l : ℕ) (gone : List ℕ) → T.check (below T s l) ≡ pos s → Repointed T T₁ s t (Among gone) → ChecksAt T₁ T₂ (below T s l) t → Repointed T T₂ s t (Among (gone ++ l ∷ []))
repointed_more T T₁ T₂ s t l gone mine r k = record {
  pointed = λ q o g. elim (cases_eq q (below T s l)) [
    | inl e ↦ ap T₂.check e ∙ k.at
    | inr n ↦ k.other q n ∙ r.pointed q o (elim (among_push gone l (below T s q) g) [
      | inl before ↦ before
      | inr last ↦ absurd (n (sym (xor_back (base_of T s) q) ∙ ap (below T s) (sym last)))
    ])
  ];
  kept = λ q n.
      let m : q ≡ below T s l → ⊥ = λ e. n (ap T.check e ∙ mine) (subst (Among (gone ++ l ∷ [])) (sym (xor_back (base_of T s) l) ∙ ap (below T s) (sym e)) (among_last gone l)) in
      k.other q m ∙ r.kept q (λ o g. n o (among_front gone (l ∷ []) _ g));
  base = λ q. k.base q ∙ r.base q;
  stored = λ q. k.stored q ∙ r.stored q;
  sibling = λ q. k.sibling q ∙ r.sibling q;
  child = λ q. k.child q ∙ r.child q;
}

-- what a chain that has not ended has next
pub record Next (T T₁ : Cells) (from to first c : ℕ) : Type 0 where
  pub small : c < 256
  pub held : Held T₁ (below T from c)
  pub on : (T₂ : Cells) (d : ℕ) → ChecksAt T₁ T₂ (below T from c) to → d ≡ T₂.sibling (below T from c) → Walked T T₂ from to first d
  pub less : (d : ℕ) → d ≡ T₁.sibling (below T from c) → length (chain 256 T from d) < length (chain 256 T from c)

pub walked_next : (T T₁ : Cells) (from to first c : ℕ) → (c ≡ 0 → ⊥) → Walked T T₁ from to first c → Next T T₁ from to first c
walked_next T T₁ from to first c n w = by_rest w.rest refl
  where
    by_rest : (rest : List ℕ) → w.rest ≡ rest → Next T T₁ from to first c
    by_rest [] e = absurd (n (subst (Links T from c) e w.links))
    by_rest (l ∷ ls) e =
        let h : Links T from c (l ∷ ls) = subst (Links T from c) e w.links in
        let same : c ≡ l = h.0 in
        let mine : T.check (below T from c) ≡ pos from = subst (λ x. T.check (below T from x) ≡ pos from) (sym same) h.3 in
        let links : Links T from (T.sibling (below T from c)) ls = subst (λ x. Links T from (T.sibling (below T from x)) ls) (sym same) h.4 in
        record {
          small = subst (λ x. x < 256) (sym same) h.2;
          held = held_still T T₁ from to (Among w.gone) (among_cases w.gone) w.repointed (below T from c) (inr (from, mine));
          on = λ T₂ d k at. record {
            gone = w.gone ++ c ∷ [];
            rest = ls;
            begun = subst (Links T from first) (ap (λ r. w.gone ++ r) e ∙ ap (λ x. w.gone ++ x ∷ ls) (sym same) ∙ sym (append_assoc w.gone (c ∷ []) ls)) w.begun;
            links = subst (λ x. Links T from x ls) (sym (at ∙ k.sibling _ ∙ w.repointed.sibling _)) links;
            repointed = repointed_more T T₁ T₂ from to c w.gone mine w.repointed k;
          };
          less = λ d at.
              let short : length (l ∷ ls) ≤ 256 = chain_short T from c (l ∷ ls) h in
              let next : Links T from d ls = subst (λ x. Links T from x ls) (sym (at ∙ w.repointed.sibling _)) links in
              let now : chain 256 T from c ≡ l ∷ ls = chain_is 256 T from c (l ∷ ls) h short in
              let then : chain 256 T from d ≡ ls = chain_is 256 T from d ls next (omega (arith, short)) in
              omega (arith, ap length now, ap length then);
        }

-- at the end of the chain all of it was given away
pub walked_all : (T T₁ : Cells) (from to first c : ℕ) → c ≡ 0 → Walked T T₁ from to first c → (ls : List ℕ) → Links T from first ls → Repointed T T₁ from to (Among ls)
walked_all T T₁ from to first c z w ls h = by_rest w.rest refl
  where
    by_rest : (rest : List ℕ) → w.rest ≡ rest → Repointed T T₁ from to (Among ls)
    by_rest [] e =
        let all : w.gone ++ w.rest ≡ w.gone = ap (λ r. w.gone ++ r) e ∙ append-nil w.gone in
        subst (λ gone. Repointed T T₁ from to (Among gone)) (links_unique T from first w.gone ls (subst (Links T from first) all w.begun) h) w.repointed
    by_rest (l ∷ rest) e =
        let links : Links T from c (l ∷ rest) = subst (Links T from c) e w.links in
        absurd (omega (arith, z, links.0, links.1))

-- ---- the number's slot, and all of it

pub base_within : (size : ℕ) (T : Cells) (s : ℕ) (h : Head) (ls : List ℕ) → 0 < size → Family size T s h ls → base_of T s < size
base_within size T s plain [] some f = elim f.based [ inl e ↦ subst (λ st. base_in st < size) (sym e) some | inr r ↦ r.1 ]
base_within size T s plain (l ∷ ls) some f = f.based.1
base_within size T s (valued v) ls some f = f.based.1
base_within size T s (own v) ls some f = subst (λ st. base_in st < size) (sym f.based) some
base_within size T s top ls some f = subst (λ st. base_in st < size) (sym f.based) some

-- the chain of a node, once its number's slot was given away
links_after : (T T₁ : Cells) (s t c : ℕ) (ls : List ℕ) → Repointed T T₁ s t IsNumber → Links T s c ls → Links T₁ s c ls
links_after T T₁ s t c [] r h = h
links_after T T₁ s t c (l ∷ ls) r h =
    let at : below T s l ≡ below T₁ s l = ap (λ st. bit_xor (base_in st) l) (sym (r.stored s)) in
    let not_number : T.check (below T s l) ≡ pos s → IsNumber (below T s (below T s l)) → ⊥ = λ o e. let z : l ≡ 0 = sym (xor_back (base_of T s) l) ∙ e in omega (arith, h.1) in
    let owner : T₁.check (below T s l) ≡ pos s = r.kept _ not_number ∙ h.3 in
    let next : T.sibling (below T s l) ≡ T₁.sibling (below T₁ s l) = sym (r.sibling _) ∙ ap T₁.sibling at in (
      h.0,
      h.1,
      h.2,
      subst (λ x. T₁.check x ≡ pos s) at owner,
      subst (λ x. Links T₁ s x ls) next (links_after T T₁ s t (T.sibling (below T s l)) ls r h.4),
    )

not_zero_label : (T : Cells) (s x : ℕ) (h : Head) (ls : List ℕ) → (s ≡ 0 → ⊥) → x ≡ below T s 0 → (T.check x ≡ pos s → ⊥) → Begins T s h ls → Links T s (T.child s) ls
not_zero_label T s x plain ls z at n b = b
not_zero_label T s x (valued v) ls z at n b = absurd (n (ap T.check at ∙ b.1))
not_zero_label T s x (own v) ls z at n b = subst (Links T s (T.child s)) (sym b.1) b.0
not_zero_label T s x top ls z at n b = absurd (z b.0)

-- a node that has a number's slot names no first label
pub names_none : (size : ℕ) (T : Cells) (s : ℕ) (h : Head) (ls : List ℕ) → (s ≡ 0 → ⊥) → T.check (below T s 0) ≡ pos s → Family size T s h ls → T.child s ≡ 0
names_none size T s plain ls z o f = absurd (no_zero T s (T.child s) ls f.begins (subst (Among ls) (xor_back (base_of T s) 0) (f.only (below T s 0) o)))
names_none size T s (valued v) ls z o f = f.begins.0
names_none size T s (own v) ls z o f = f.begins.0
names_none size T s top ls z o f = absurd (z f.begins.0)

-- a node that has a number's slot
pub with_number : (size : ℕ) (T : Cells) (s x : ℕ) (h : Head) (ls : List ℕ) → (s ≡ 0 → ⊥) → x ≡ below T s 0 → T.check x ≡ pos s → Family size T s h ls → Links T s (T.sibling (below T s 0)) ls
with_number size T s x plain ls z at o f = absurd (no_zero T s (T.child s) ls f.begins (subst (Among ls) (xor_back (base_of T s) 0) (f.only (below T s 0) (ap T.check (sym at) ∙ o))))
with_number size T s x (valued v) ls z at o f = f.begins.4
with_number size T s x (own v) ls z at o f = absurd (subst (λ xs. Among xs (below T s x)) f.begins.1 (f.only x o))
with_number size T s x top ls z at o f = absurd (z f.begins.0)

module _ (T : Cells) (s t x : ℕ) (z : s ≡ 0 → ⊥) (at : x ≡ below T s 0) where
  pub number_given : (T₁ : Cells) → T.check x ≡ pos s → ChecksAt T T₁ x t → Repointed T T₁ s t IsNumber
  number_given T₁ o k = record {
    pointed = λ q mine e. ap T₁.check (is_there q e) ∙ k.at;
    kept = λ q n. k.other q (λ e. n (ap T.check e ∙ o) (ap (below T s) (e ∙ at) ∙ xor_back (base_of T s) 0));
    base = k.base;
    stored = k.stored;
    sibling = k.sibling;
    child = k.child;
  }
    where
      is_there : (q : ℕ) → below T s q ≡ 0 → q ≡ x
      is_there q e = sym (xor_back (base_of T s) q) ∙ ap (below T s) e ∙ sym at

  pub no_number : (T.check x ≡ pos s → ⊥) → Repointed T T s t IsNumber
  no_number n = repointed_none T s t IsNumber (λ q o e. n (ap T.check (at ∙ ap (below T s) (sym e) ∙ xor_back (base_of T s) q) ∙ o))

  pub chain_given : (T₁ : Cells) (c size : ℕ) → T.check x ≡ pos s → ChecksAt T T₁ x t → c ≡ T₁.sibling x → (h : Head) (ls : List ℕ) → Family size T s h ls → Links T₁ s c ls
  chain_given T₁ c size o k is h ls f =
      let next : T.sibling (below T s 0) ≡ c = ap T.sibling (sym at) ∙ sym (k.sibling x) ∙ sym is in
      subst (λ y. Links T₁ s y ls) next (links_after T T₁ s t (T.sibling (below T s 0)) ls (number_given T₁ o k) (with_number size T s x h ls z at o f))

  pub chain_kept : (c size : ℕ) → (T.check x ≡ pos s → ⊥) → c ≡ T.child s → (h : Head) (ls : List ℕ) → Family size T s h ls → Links T s c ls
  chain_kept c size n is h ls f = subst (λ y. Links T s y ls) (sym is) (not_zero_label T s x h ls z at n f.begins)

-- number and chain together
pub repointed_both : (size : ℕ) (T T₁ T₂ : Cells) (s t : ℕ) (k : IsNode size T s) → (s ≡ 0 → ⊥) → Repointed T T₁ s t IsNumber → Repointed T₁ T₂ s t (Among k.labels) → Repointed T T₂ s t Always
repointed_both size T T₁ T₂ s t k z n r = record {
  pointed = λ q o _. elim (cases_eq (below T s q) 0) [
    | inl e ↦ again q (n.pointed q o e)
    | inr m ↦ r.pointed q (n.kept q (λ _ e. m e) ∙ o) (subst (Among k.labels) (same q) (label k.head (below T s q) m (k.family.only q o)))
  ];
  kept = λ q m. r.kept q (λ o g. m (before q o) tt) ∙ n.kept q (λ o g. m o tt);
  base = λ q. r.base q ∙ n.base q;
  stored = λ q. r.stored q ∙ n.stored q;
  sibling = λ q. r.sibling q ∙ n.sibling q;
  child = λ q. r.child q ∙ n.child q;
}
  where
    same : (q : ℕ) → below T s q ≡ below T₁ s q
    same q = ap (λ st. bit_xor (base_in st) q) (sym (n.stored s))

    label : (h : Head) (l : ℕ) → (l ≡ 0 → ⊥) → Among (owned_slots h k.labels) l → Among k.labels l
    label plain l m a = a
    label (valued v) l m (inl e) = absurd (m (sym e))
    label (valued v) l m (inr a) = a
    label (own v) l m a = a
    label top l m a = a

    before : (q : ℕ) → T₁.check q ≡ pos s → T.check q ≡ pos s
    before q o = elim (owner_cases (T.check q) s) [
      | inl e ↦ e
      | inr m ↦ sym (n.kept q (λ e _. m e)) ∙ o
    ]

    again : (q : ℕ) → T₁.check q ≡ pos t → T₂.check q ≡ pos t
    again q e = elim (cases_eq t s) [
      | inl same ↦ elim (among_cases k.labels (below T₁ s q)) [
        | inl a ↦ r.pointed q (e ∙ ap pos same) a
        | inr a ↦ r.kept q (λ _ g. a g) ∙ e
      ]
      | inr other ↦ r.kept q (λ o _. other (pos_injective t s (sym e ∙ o))) ∙ e
    ]
