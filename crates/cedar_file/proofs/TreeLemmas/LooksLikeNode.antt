-- A slot that looks like a node's, and whose chain and other slots are known, is a node's; and each node's slot of a sound
-- tree looks like one.
use Rattle.std.proofs.Common.{◌≡◌, ℕ, ◌⊎◌, List, [], ◌∷◌, sym, ◌∙◌, ap, refl, subst, inl, inr, arith, true, false, cond, Option, Some, None, ℤ}
use Rattle.std.specs.Prelude.{bit_xor, IfSome, pos}
use Rattle.std.proofs.lemmas.Bool.{cases_Bool, false≢true}
use Rattle.cedar_model.specs.Tree.{Forest, none, child, is_bare}
use Rattle.cedar_model.specs.declared.layout.Stored.{Stored}
use Rattle.cedar_model.specs.declared.layout.Stored.TheVariants.{AtBase, OwnNumber, Nothing}
use Rattle.cedar_model.specs.Table.Cells.{Cells}
use Rattle.cedar_file.specs.TreeWalk.{IsOfNode, LooksLikeNode}
use Rattle.cedar_model.specs.Meaning.Family.{Among, base_in, base_of, Based, below, Family, Head, InRange, Links, Node, number_of, own, plain, top, valued}
use Rattle.cedar_model.specs.Meaning.StandsFor.{labels}
use Rattle.cedar_model.specs.Meaning.Reading.{first_in, has_number_slot, number_in, own_number}
use Rattle.cedar_model.specs.Meaning.WellFormed.{is_value}
use Rattle.cedar_model.proofs.MeaningLemmas.ExclusiveOr.{xor_back}
use Rattle.cedar_model.proofs.MeaningLemmas.OneTree.{no_zero, node_reads}
use Rattle.std.proofs.lemmas.Bool.Decides.{Decides-int_eq}
use Rattle.cedar_model.proofs.EditLemmas.NumberMovesIn.{no_links}

-- ---- from what is looked at to a node

-- what a slot owns: its number's slot, and those under its labels
abbrev pub Owns : Cells → ℕ → List ℕ → Type 0
Owns T s ls = (q : ℕ) → T.check q ≡ pos s → ((has_number_slot T s ≡ true) × (q ≡ below T s 0)) ⊎ Among ls (below T s q)

based_plain : (size : ℕ) (st : Stored) (ls : List ℕ) → InRange size st → Based size st plain ls
based_plain size st [] h = inr h
based_plain size st (l ∷ ls) h = h

module _ (size : ℕ) (T : Cells) (s : ℕ) (ls : List ℕ) (root : (c : ℕ) → T.check 0 ≡ pos c → ⊥) (looks : LooksLikeNode size T s) (links : Links T s (first_in T s) ls) (owns : Owns T s ls) where
  in_number_slot : has_number_slot T s ≡ true → T.check (below T s 0) ≡ pos s
  in_number_slot has = (Decides-int_eq (T.check (below T s 0)) (pos s)).0 has

  no_slot_of_own : (st : Stored) → T.stored s ≡ st → base_in st ≡ 0 → has_number_slot T s ≡ true → ⊥
  no_slot_of_own st is z has =
      let at : below T s 0 ≡ 0 = ap (λ b. bit_xor b 0) (ap base_in is ∙ z) in
      root s (ap T.check (sym at) ∙ in_number_slot has)

  valued_node : has_number_slot T s ≡ true → InRange size (T.stored s) → Node size T s (number_in T s) ls
  valued_node has range = record {
    head = valued (T.base (below T s 0));
    number = sym (ap (λ b. cond b (Some (T.base (below T s 0))) (own_number (T.stored s))) has);
    family = record {
      based = range;
      begins = (
        (looks.in_slot has).0,
        in_number_slot has,
        refl,
        (looks.in_slot has).1,
        subst (λ c. Links T s c ls) (ap (λ b. cond b (T.sibling (below T s 0)) (T.child s)) has) links,
      );
      only = λ q o. elim (owns q o) [
        | inl number ↦ inl (sym (ap (below T s) number.1 ∙ xor_back (base_of T s) 0))
        | inr label ↦ inr label
      ];
    };
  }

  plain_node : has_number_slot T s ≡ false → own_number (T.stored s) ≡ None → InRange size (T.stored s) → Node size T s (number_in T s) ls
  plain_node lacks unnumbered range = record {
    head = plain;
    number = sym (ap (λ b. cond b (Some (T.base (below T s 0))) (own_number (T.stored s))) lacks ∙ unnumbered);
    family = record {
      based = based_plain size (T.stored s) ls range;
      begins = subst (λ c. Links T s c ls) (ap (λ b. cond b (T.sibling (below T s 0)) (T.child s)) lacks) links;
      only = λ q o. elim (owns q o) [ inl number ↦ absurd (false≢true (sym lacks ∙ number.0)) | inr label ↦ label ];
    };
  }

  own_node : (v : ℤ) → has_number_slot T s ≡ false → T.stored s ≡ OwnNumber v → Node size T s (number_in T s) ls
  own_node v lacks is =
      let at_child : first_in T s ≡ T.child s = ap (λ b. cond b (T.sibling (below T s 0)) (T.child s)) lacks in
      record {
        head = own v;
        number = sym (ap (λ b. cond b (Some (T.base (below T s 0))) (own_number (T.stored s))) lacks ∙ ap own_number is);
        family = record {
          based = is;
          begins = (looks.own v is, no_links T s (first_in T s) ls (at_child ∙ looks.own v is) links);
          only = λ q o. elim (owns q o) [ inl number ↦ absurd (false≢true (sym lacks ∙ number.0)) | inr label ↦ label ];
        };
      }

  pub looks_node : Node size T s (number_in T s) ls
  looks_node = by_stored (T.stored s) refl
    where
      by_stored : (st : Stored) → T.stored s ≡ st → Node size T s (number_in T s) ls
      by_stored (AtBase b) is =
          let range : InRange size (T.stored s) = subst (InRange size) (sym is) (subst (IsOfNode size) is looks.stored) in
          elim (cases_Bool (has_number_slot T s)) [
            | inl has ↦ valued_node has range
            | inr lacks ↦ plain_node lacks (ap own_number is) range
          ]
      by_stored (OwnNumber v) is = elim (cases_Bool (has_number_slot T s)) [
        | inl has ↦ absurd (no_slot_of_own (OwnNumber v) is refl has)
        | inr lacks ↦ own_node v lacks is
      ]
      by_stored Nothing is = absurd (subst (IsOfNode size) is looks.stored)

-- ---- from a node to what is looked at

of_range : (size : ℕ) (st : Stored) → InRange size st → IsOfNode size st
of_range size (AtBase b) h = h
of_range size (OwnNumber v) h = tt
of_range size Nothing h = absurd (omega (arith, h.0))

own_range : (size : ℕ) (st : Stored) (v : ℤ) → st ≡ OwnNumber v → InRange size st → ⊥
own_range size st v is h = let r : InRange size (OwnNumber v) = subst (InRange size) is h in omega (arith, r.0)

no_children : (f : Forest) → labels f ≡ [] → f ≡ none
no_children none e = refl
no_children (child l n u rest) e = cc

module _ (size : ℕ) (T : Cells) (s : ℕ) where
  stored_of : (h : Head) (ls : List ℕ) → (s ≡ 0 → ⊥) → Family size T s h ls → (number_of h ≡ None → ls ≡ [] → ⊥) → IsOfNode size (T.stored s)
  stored_of plain [] z f some = absurd (some refl refl)
  stored_of plain (l ∷ ls) z f some = of_range size (T.stored s) f.based
  stored_of (valued v) ls z f some = of_range size (T.stored s) f.based
  stored_of (own v) ls z f some = subst (IsOfNode size) (sym f.based) tt
  stored_of top ls z f some = absurd (z f.begins.0)

  own_of : (h : Head) (ls : List ℕ) → (s ≡ 0 → ⊥) → Family size T s h ls → (number_of h ≡ None → ls ≡ [] → ⊥) → (v : ℤ) → T.stored s ≡ OwnNumber v → T.child s ≡ 0
  own_of plain [] z f some v is = absurd (some refl refl)
  own_of plain (l ∷ ls) z f some v is = absurd (own_range size (T.stored s) v is f.based)
  own_of (valued w) ls z f some v is = f.begins.0
  own_of (own w) ls z f some v is = f.begins.0
  own_of top ls z f some v is = absurd (z f.begins.0)

  slot_of : (h : Head) (ls : List ℕ) → (s ≡ 0 → ⊥) → Family size T s h ls → has_number_slot T s ≡ true → (T.child s ≡ 0) × (T.child (below T s 0) ≡ 0)
  slot_of plain ls z f has =
      let o : T.check (below T s 0) ≡ pos s = (Decides-int_eq (T.check (below T s 0)) (pos s)).0 has in
      absurd (no_zero T s _ ls f.begins (subst (Among ls) (xor_back (base_of T s) 0) (f.only _ o)))
  slot_of (valued v) ls z f has = (f.begins.0, f.begins.3)
  slot_of (own v) ls z f has =
      let o : T.check (below T s 0) ≡ pos s = (Decides-int_eq (T.check (below T s 0)) (pos s)).0 has in
      absurd (subst (λ xs. Among xs (below T s (below T s 0))) f.begins.1 (f.only _ o))
  slot_of top ls z f has = absurd (z f.begins.0)

  -- a node with a number or a child, and a number in range, looks like one
  pub node_looks : (n : Option ℤ) (u : Forest) → (s ≡ 0 → ⊥) → Node size T s n (labels u) → is_bare (record { number = n; children = u }) ≡ false → IfSome n (λ v. is_value v ≡ true) → LooksLikeNode size T s
  node_looks n u z k sound value =
      let reads = node_reads size T s n (labels u) z k in
      record {
        stored = stored_of k.head (labels u) z k.family (λ e. bare (sym k.number ∙ e));
        own = own_of k.head (labels u) z k.family (λ e. bare (sym k.number ∙ e));
        in_slot = slot_of k.head (labels u) z k.family;
        value = subst (λ m. IfSome m (λ v. is_value v ≡ true)) (sym reads.number) value;
        some = λ e zero. bare (sym reads.number ∙ e) (no_links T s (first_in T s) (labels u) zero reads.links);
      }
    where
      bare : n ≡ None → labels u ≡ [] → ⊥
      bare e f =
          let both : is_bare (record { number = n; children = u }) ≡ true = ap (λ m. is_bare (record { number = m; children = u })) e ∙ ap (λ g. is_bare (record { number = None; children = g })) (no_children u f) in
          false≢true (sym sound ∙ both)
