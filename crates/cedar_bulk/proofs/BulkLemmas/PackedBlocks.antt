-- How few slots stay free while a table is made of sorted pairs.
use Rattle.std.proofs.Common.{◌≡◌, ℕ, ◌+◌, ◌-◌, ◌*◌, ◌<◌, ◌≤◌, ◌⊎◌, ◌∙◌, sym, ap, subst, refl, inl, inr, arith, true, cond, Option, Some, None, List, [], ◌∷◌, ◌++◌, length}
use Rattle.std.specs.Prelude.{ℤ, nat_lt, IfSome}
use Rattle.std.proofs.lemmas.Bool.{cases_lt, cond-true}
use Rattle.std.proofs.lemmas.Bool.Decides.{nat_tests}
use Rattle.cedar_model.specs.Tree.{AllNumbers, child, Forest, IsAscending, IsSoundBelow, none, Tree}
use Rattle.cedar_model.specs.Edits.{edit_at}
use Rattle.cedar_model.specs.Queries.{Entry}
use Rattle.cedar_model.specs.Edit.NodeEdits.{IsAt}
use Rattle.cedar_model.specs.Edit.Steps.{MakesBlocks}
use Rattle.cedar_model.specs.Meaning.Family.{Among, base_of, below}
use Rattle.cedar_model.specs.Meaning.StandsFor.{labels}
use Rattle.cedar_model.specs.Meaning.WellFormed.{cells_in, is_value}
use Rattle.cedar_model.specs.Table.Cells.{Cells, Held, NoPlace}
use Rattle.cedar_model.specs.Table.TableFields.{Fields, size_of}
use Rattle.cedar_model.specs.Edit.Packing.{count_held, Packs, TakesAnother, TakesOne}
use Rattle.cedar_bulk.specs.Packed.{count_crowded, count_crowded_forest, crowd, Crowds, Packed, PacksTail}
use Rattle.cedar_bulk.specs.Sorted.{Fills, GetsBase, slot_labels}
use Rattle.cedar_bulk.specs.Spans.{Covers, Filling, IsTreeOfSpan, Part, Pending}
use Rattle.cedar_model.proofs.EditLemmas.AtPath.{held_node}
use Rattle.cedar_model.proofs.UpdateLemmas.BlocksMade.{made_larger}
use Rattle.cedar_model.proofs.UpdateLemmas.Packing.{full_held, held_another, held_inside, held_kept, labels_below}

-- ---- a node that takes one slot, or several

pub one_or_several : (number : Option ℤ) (ls : List ℕ) → 0 < length (slot_labels number ls) → (length (slot_labels number ls) ≡ 1) ⊎ (crowd number ls ≡ 1)
one_or_several number ls some = by_order (length (slot_labels number ls)) some (cases_lt 1 (length (slot_labels number ls)))
  where
    by_order : (n : ℕ) → 0 < n → (1 < n) ⊎ (n ≤ 1) → (n ≡ 1) ⊎ (cond {A = ℕ} (nat_lt 1 n) 1 0 ≡ 1)
    by_order n some (inl several) = inr (let test : nat_lt 1 n ≡ true = grind (arith, nat_tests) in cond-true {A = ℕ} (nat_lt 1 n) 1 0 test)
    by_order n some (inr one) = inl (omega (arith, some, one))

-- a label's slot is a new one
pub label_another : (size size' : ℕ) (T T' : Cells) (a : ℕ) (number : Option ℤ) (ls w : List ℕ) (l : ℕ) → Fills size size' T T' a number ls → IsAt T w a → Among ls l → TakesAnother T T'
label_another size size' T T' a number ls w l fills at among = (below T' a l, fills.fresh l among, held_node T' (w ++ l ∷ []) (below T' a l) (fills.at w l at among))

-- so is that of a number, and a node gets one of them at least
pub node_another : (size size' m : ℕ) (T T₁ T₂ T₃ : Cells) (a : ℕ) (number : Option ℤ) (ls w : List ℕ) → IsAt T w a → 0 < length (slot_labels number ls) → GetsBase size m T T₁ a (slot_labels number ls)
    → IfSome number (λ v. Held T₂ (below T₁ a 0)) → ((x : ℕ) → Held T₂ x → Held T₃ x) → Fills size size' T T₃ a number ls → TakesAnother T T₃
node_another size size' m T T₁ T₂ T₃ a (Some v) ls w at some based taken keeps fills = (below T₁ a 0, λ h. based.free 0 (inl refl) (based.keeps (below T₁ a 0) h), keeps (below T₁ a 0) taken)
node_another size size' m T T₁ T₂ T₃ a None (l ∷ ls) w at some based taken keeps fills = label_another size size' T T₃ a None (l ∷ ls) w l fills at (inl refl)
node_another size size' m T T₁ T₂ T₃ a None [] w at some based taken keeps fills = absurd (omega (arith, some))

-- ---- the root's children stay

pending_labels : (T : Cells) (ps : List Part) (f g : Forest) (n : ℕ) → Pending T ps f g n → labels f ≡ labels g
pending_labels T [] f g n p = ap labels p.0
pending_labels T (s ∷ ps) f g n (w, t, h, k, awaits, edits, count, rest) = pending_labels T ps f h k rest ∙ by_path w awaits.at edits
  where
    by_path : (v : List ℕ) → IsAt T v s.node → edit_at v (λ _. t.number) (λ _. t.children) h ≡ g → labels h ≡ labels g
    by_path [] at e = absurd (awaits.not_root (sym at.1))
    by_path (l ∷ v) at e = sym (labels_below l v (λ _. t.number) (λ _. t.children) h) ∙ ap labels e

-- ---- one node more

module _ (slots : ℕ) (T : Fields) (ps : List Part) (g : Forest) (most : ℕ) (k : Filling slots T ps g most) where
  -- where no slot outside block 0 is free, so many are held
  filling_full : NoPlace (size_of T) (cells_in T) → count_held T + 255 ≡ size_of T + length (labels g)
  filling_full full =
      full_held slots T k.forest k.table k.holds full
      ∙ ap (λ ls. size_of T + length ls) (pending_labels (cells_in T) ps k.forest g k.left k.pending)

  module _ (T' : Fields) (n : ℕ) (keeps : (x : ℕ) → Held (cells_in T) x → Held (cells_in T') x) (few : n ≤ 1) (made : MakesBlocks n T T') where
    -- one that takes one slot
    pub packs_one : (spare : ℕ) → TakesOne T T' → Packs (length (labels g)) spare T → Packs (length (labels g)) spare T'
    packs_one spare (inl nothing) packs =
        let held = held_kept (size_of T) (size_of T') (cells_in T) (cells_in T') (made_larger n T T' made) keeps in
        omega (arith, nothing.active, held, packs)
    packs_one spare (inr (full, another)) packs =
        let larger = made_larger n T T' made in
        let some : 0 < size_of T' = omega (arith, k.table.sound.shaped.blocks.some, larger) in
        let held = held_another (size_of T) (size_of T') (cells_in T) (cells_in T') larger keeps another.0 (held_inside T' another.0 some another.2) another.1 another.2 in
        omega (arith, few, made.active, held, filling_full full)

    -- one that takes several
    packs_several : (filled : ℕ) → Packs (length (labels g)) (256 * filled) T → Packs (length (labels g)) (256 * (filled + 1)) T'
    packs_several filled packs =
        let held = held_kept (size_of T) (size_of T') (cells_in T) (cells_in T') (made_larger n T T' made) keeps in
        omega (arith, few, made.active, held, packs)

-- ---- nodes that wait

crowds_join : (ps cs : List Part) (m n : ℕ) → Crowds ps m → Crowds cs n → Crowds (ps ++ cs) (m + n)
crowds_join [] cs m n p c = subst (Crowds cs) (omega (arith, p)) c
crowds_join (s ∷ ps) cs m n (t, k, tree, count, rest) c = (t, k + n, tree, omega (arith, count), crowds_join ps cs k n rest c)

crowds_split : (ps : List Part) (s : Part) (n : ℕ) → Crowds (ps ++ s ∷ []) n
    → (t : Tree) × (m : ℕ) × IsTreeOfSpan s.depth s.entries t × (n ≡ crowd t.number (labels t.children) + count_crowded t + m) × Crowds ps m
crowds_split [] s n c = c
crowds_split (x ∷ ps) s n (u, m, tree, count, rest) =
    let k = crowds_split ps s m rest in
    (k.0, crowd u.number (labels u.children) + count_crowded u + k.1, k.2, omega (arith, count, k.3), (u, k.1, tree, refl, k.4))

covers_crowds : (base : ℕ) (cs : List Part) (c : Forest) → Covers base cs c none → IsSoundBelow c → IsAscending c → AllNumbers (λ v. is_value v ≡ true) c → Crowds cs (count_crowded_forest c)
covers_crowds base [] c covers sound ascending values = ap count_crowded_forest covers
covers_crowds base (s ∷ cs) none covers sound ascending values = absurd covers
covers_crowds base (s ∷ cs) (child l n u rest) covers sound ascending values = (
  record { number = n; children = u },
  count_crowded_forest rest,
  record { walks = covers.1; some = sound.3; sound = sound.4; ascending = ascending.1; values = (values.0, values.1) },
  refl,
  covers_crowds base cs rest covers.2 sound.5 ascending.2 values.2,
)

-- ---- a turn

-- the root's children wait
pub packed_started : (slots : ℕ) (T : Fields) (t : Tree) (d : ℕ) (es : List Entry) (old new : List Part) (most base : ℕ) → Filling slots T new t.children most → T.places.blocks.active ≡ 1 → IsTreeOfSpan d es t
    → (cs : List Part) × (new ≡ old ++ cs) × Covers base cs t.children none → old ≡ [] → Packed T new t.children
packed_started slots T t d es old new most base k one tree (cs, is, covers) nothing =
    let full : NoPlace (size_of T) (cells_in T) = λ s low high. absurd (omega (arith, one, low, high)) in
    let waits : Crowds cs (count_crowded t) = covers_crowds base cs t.children covers tree.sound tree.ascending tree.values.1 in
    record {
      filled = 0;
      left = count_crowded t;
      waits = subst (λ xs. Crowds xs (count_crowded t)) (sym (is ∙ ap (λ xs. xs ++ cs) nothing)) waits;
      whole = omega arith;
      packs = omega (arith, filling_full slots T new t.children most k full);
    }

-- so few nodes are left
left_one : (filled left own below others most : ℕ) → left ≡ own + below + others → filled + left ≤ most → filled + (others + below) ≤ most
left_one filled left own below others most is few = omega (arith, is, few)

left_several : (filled left own below others most : ℕ) → own ≡ 1 → left ≡ own + below + others → filled + left ≤ most → filled + 1 + (others + below) ≤ most
left_several filled left own below others most one is few = omega (arith, one, is, few)

module _ (slots : ℕ) (T T' : Fields) (ps : List Part) (s : Part) (g : Forest) (most : ℕ) (k : Filling slots T (ps ++ s ∷ []) g most) (p : Packed T (ps ++ s ∷ []) g) where
  -- the span's node was filled
  pub packed_on : (new : List Part) (n : ℕ) → ((t : Tree) → IsTreeOfSpan s.depth s.entries t → Fills (size_of T) (size_of T') (cells_in T) (cells_in T') s.node t.number (labels t.children))
      → ((t : Tree) → IsTreeOfSpan s.depth s.entries t → (cs : List Part) × (new ≡ ps ++ cs) × Covers (base_of (cells_in T') s.node) cs t.children none)
      → n ≤ 1 → MakesBlocks n T T' → ((t : Tree) → IsTreeOfSpan s.depth s.entries t → TakesOne T T' ⊎ (crowd t.number (labels t.children) ≡ 1)) → Packed T' new g
  packed_on new n fills spans few made takes = by_slots (takes t c.2)
    where
      c : (t : Tree) × (m : ℕ) × IsTreeOfSpan s.depth s.entries t × (p.left ≡ crowd t.number (labels t.children) + count_crowded t + m) × Crowds ps m
      c = crowds_split ps s p.left p.waits

      t : Tree
      t = c.0

      waits : Crowds new (c.1 + count_crowded t)
      waits =
          let children = spans t c.2 in
          let later = covers_crowds (base_of (cells_in T') s.node) children.0 t.children children.2 c.2.sound c.2.ascending c.2.values.1 in
          subst (λ xs. Crowds xs (c.1 + count_crowded t)) (sym children.1) (crowds_join ps children.0 c.1 (count_crowded t) c.4 later)

      by_slots : TakesOne T T' ⊎ (crowd t.number (labels t.children) ≡ 1) → Packed T' new g
      by_slots (inl one) = record {
        filled = p.filled;
        left = c.1 + count_crowded t;
        waits = waits;
        whole = left_one p.filled p.left (crowd t.number (labels t.children)) (count_crowded t) c.1 (count_crowded_forest g) c.3 p.whole;
        packs = packs_one slots T (ps ++ s ∷ []) g most k T' n (fills t c.2).keeps few made (256 * p.filled) one p.packs;
      }
      by_slots (inr several) = record {
        filled = p.filled + 1;
        left = c.1 + count_crowded t;
        waits = waits;
        whole = left_several p.filled p.left (crowd t.number (labels t.children)) (count_crowded t) c.1 (count_crowded_forest g) several c.3 p.whole;
        packs = packs_several slots T (ps ++ s ∷ []) g most k T' n (fills t c.2).keeps few made p.filled p.packs;
      }

  -- the span's only key was put
  pub packed_without : PacksTail slots T T' s → Packed T' ps g
  packed_without tail =
      let c = crowds_split ps s p.left p.waits in
      record {
        filled = p.filled;
        left = c.1;
        waits = c.4;
        whole = omega (arith, left_one p.filled p.left (crowd c.0.number (labels c.0.children)) (count_crowded c.0) c.1 (count_crowded_forest g) c.3 p.whole);
        packs = tail ps g most (256 * p.filled) k p.packs;
      }

-- no node waits
pub packed_ends : (T : Fields) (g : Forest) → Packed T [] g → Packs (length (labels g)) (256 * count_crowded_forest g) T
packed_ends T g p = omega (arith, p.packs, p.whole)
