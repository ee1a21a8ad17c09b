-- A slot lies on one path only, and each path leads to a node.
use Rattle.std.proofs.Common.{◌≡◌, ℕ, List, [], ◌∷◌, sym, ◌∙◌, ap, refl, inl, inr}
use Rattle.std.specs.Prelude.{pos}
use Rattle.cedar_tree.specs.Tree.{Forest}
use Rattle.cedar_model.specs.Table.Cells.{Cells, Held}
use Rattle.cedar_model.specs.Meaning.Family.{below, base_of, top}
use Rattle.cedar_model.specs.Meaning.StandsFor.{labels, slot_at, OnPath, Leads, HoldsTree}
use Rattle.cedar_model.proofs.MeaningLemmas.ExclusiveOr.{xor_injective, pos_injective}
use Rattle.cedar_model.proofs.MeaningLemmas.OneNode.{Subtree, child_in, owned_label}

-- two paths to one slot are the same path
pub one_lead : (T : Cells) → ((c : ℕ) → T.check 0 ≡ pos c → ⊥) → (p q : List ℕ) → Leads T p → Leads T q → slot_at T p ≡ slot_at T q → p ≡ q
one_lead T root [] [] hp hq e = refl
one_lead T root [] (m ∷ q) hp hq e = absurd (root _ (ap T.check e ∙ hq.0))
one_lead T root (l ∷ p) [] hp hq e = absurd (root _ (ap T.check (sym e) ∙ hp.0))
one_lead T root (l ∷ p) (m ∷ q) hp hq e =
    let parents : slot_at T p ≡ slot_at T q = pos_injective _ _ (sym hp.0 ∙ ap T.check e ∙ hq.0) in
    let rest : p ≡ q = one_lead T root p q hp.1 hq.1 parents in
    let last : l ≡ m = xor_injective (base_of T (slot_at T p)) l m (e ∙ ap (λ s. below T s m) (sym parents)) in
    ap (λ x. x ∷ p) last ∙ ap (λ r. m ∷ r) rest

pub leads : (T : Cells) (p : List ℕ) → OnPath T p → Leads T p
leads T [] h = tt
leads T (l ∷ p) h = (h.1, leads T p h.2)

pub one_path : (T : Cells) → ((c : ℕ) → T.check 0 ≡ pos c → ⊥) → (p q : List ℕ) → OnPath T p → OnPath T q → slot_at T p ≡ slot_at T q → p ≡ q
one_path T root p q hp hq e = one_lead T root p q (leads T p hp) (leads T q hq) e

pub owner_held : (size : ℕ) (T : Cells) (f : Forest) → HoldsTree size T f → (q c : ℕ) → T.check q ≡ pos c → Held T c
owner_held size T f w q c e =
    let way = w.reached q c e in held_on way.0 way.1 way.2
  where
    held_on : (p : List ℕ) → OnPath T p → slot_at T p ≡ c → Held T c
    held_on [] h s = inl (sym s)
    held_on (l ∷ p) h s = inr (slot_at T p, ap T.check (sym s) ∙ h.1)

-- each path leads to a node
pub node_on : (size : ℕ) (T : Cells) (f : Forest) → HoldsTree size T f → (l : ℕ) (p : List ℕ) → OnPath T (l ∷ p) → Subtree size T (slot_at T (l ∷ p))
node_on size T f w l [] h =
    child_in size T 0 l f (owned_label size T 0 l top (labels f) w.stands.0 h.0 h.1) w.stands.1
node_on size T f w l (m ∷ p) h =
    let up = node_on size T f w m p h.2 in
    child_in size T (slot_at T (m ∷ p)) l up.children (owned_label size T (slot_at T (m ∷ p)) l up.node.head (labels up.children) up.node.family h.0 h.1) up.lower
