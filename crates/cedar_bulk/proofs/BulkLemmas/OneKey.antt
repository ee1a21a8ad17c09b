-- The nodes of one key's tail, one below the other: what waits for the first of them waits for each in turn.
use Rattle.std.proofs.Common.{◌≡◌, ℕ, ◌+◌, ◌*◌, ◌<◌, ◌≤◌, ◌∙◌, sym, ap, subst, refl, inl, inr, arith, suc, Some, None, List, [], ◌∷◌, ◌++◌, length, get_or}
use Rattle.std.proofs.lemmas.List.{append-nil}
use Rattle.std.specs.Prelude.{bit_xor}
use Rattle.cedar_model.specs.Tree.{Forest}
use Rattle.cedar_model.specs.Queries.{Entry}
use Rattle.cedar_slots.specs.Places.{IsTable, MayRefuse}
use Rattle.cedar_slots.specs.declared.shortage.Shortage.{Shortage}
use Rattle.cedar_slots.specs.declared.shortage.Shortage.TheVariants.{Memory, SlotLimit}
use Rattle.cedar_model.specs.Edit.Steps.{MakesBlocks}
use Rattle.cedar_model.specs.Meaning.Family.{base_of, below}
use Rattle.cedar_model.specs.Meaning.StandsFor.{labels}
use Rattle.cedar_model.specs.Meaning.WellFormed.{cells_in}
use Rattle.cedar_model.specs.Table.Cells.{Held}
use Rattle.cedar_model.specs.Table.TableFields.{Fields, SameSettings, size_of}
use Rattle.cedar_bulk.specs.Packed.{PacksTail}
use Rattle.cedar_model.specs.Edit.Packing.{TakesOne}
use Rattle.cedar_bulk.specs.Sorted.{Fills, label_of}
use Rattle.cedar_bulk.specs.SortedMarks.{KeepsOwn}
use Rattle.cedar_bulk.specs.Spans.{entries_behind, entry_bytes, Filling, IsTreeOfSpan, Part, work}
use Rattle.cedar_bulk.specs.Steps.{FillsTail, LacksMemoryOr, WantsMore}
use Rattle.cedar_model.proofs.UpdateLemmas.BlocksMade.{made_nothing, made_then}
use Rattle.cedar_model.proofs.UpdateLemmas.Frame.{settings_then}
use Rattle.cedar_bulk.proofs.BulkLemmas.NodeByNode.{filling_on, filling_refused, Next, next_span}
use Rattle.cedar_bulk.proofs.BulkLemmas.OnePair.{covers_same, ends_here, goes_on}
use Rattle.cedar_bulk.proofs.BulkLemmas.PackedBlocks.{packs_one}
use Rattle.cedar_bulk.proofs.BulkLemmas.Pending.{work_join}

pub single : {X : Type 0} (xs : List X) (p : X) → length xs ≡ 1 → xs ≡ get_or xs 0 p ∷ []
single [] p e = absurd (omega (arith, e))
single (x ∷ []) p e = refl
single (x ∷ y ∷ xs) p e = absurd (omega (arith, e))

-- the span of a node below that of the span s, d bytes deep
abbrev pub deep : Part → ℕ → ℕ → Part
deep s a d = record { node = a; depth = d; entries = s.entries }

-- what waited for the span s waits for the node a, d bytes deep
pub record OnTail (slots : ℕ) (T T' : Fields) (s : Part) (a d : ℕ) : Type 0 where
  pub filling : (ps : List Part) (g : Forest) (most : ℕ) → Filling slots T (ps ++ s ∷ []) g most → Filling slots T' (ps ++ deep s a d ∷ []) g most
  pub packs : PacksTail slots T T' s
  pub blocks : (n : ℕ) × MakesBlocks n T T'
  pub root_check : (cells_in T').check 0 ≡ (cells_in T).check 0
  pub settings : SameSettings T T'

pub tail_begins : (slots : ℕ) (T : Fields) (s : Part) → OnTail slots T T s s.node s.depth
tail_begins slots T s = record {
  filling = λ ps g most h. h;
  packs = λ ps g most spare h p. p;
  blocks = (0, made_nothing T T refl);
  root_check = refl;
  settings = record { ordered = refl; entries = refl; max_trial = refl };
}

module _ (slots : ℕ) (T T' : Fields) (s : Part) (a d : ℕ) (e : Entry) (one : s.entries ≡ e ∷ []) (k : OnTail slots T T' s a d) where
  abbrev tree_of_one : {t : _} → IsTreeOfSpan d s.entries t → IsTreeOfSpan d (e ∷ []) t
  tree_of_one {t} h = subst (λ es. IsTreeOfSpan d es t) one h

  -- what is known of the node whose turn is next
  pub tail_node : (ps : List Part) (g : Forest) (most : ℕ) → Filling slots T (ps ++ s ∷ []) g most → Next T' (deep s a d)
  tail_node ps g most h = next_span slots T' ps (deep s a d) g most (k.filling ps g most h)

  pub tail_label : Next T' (deep s a d) → d < length e.0 → 0 < label_of d e
  tail_label next long = (goes_on d e [] next.tree.0 (tree_of_one next.tree.1) long (inl refl)).positive

  -- where it is refused, memory is lacking or there are too many nodes
  pub tail_refused : (T'' : Fields) (error : Shortage) (n : ℕ) → n ≡ 0 → MakesBlocks n T' T'' → MayRefuse T''.places slots error → LacksMemoryOr (WantsMore slots T s) error
  tail_refused T'' Memory n nothing made may = inl refl
  tail_refused T'' SlotLimit n nothing made may =
      let all : 256 * T'.places.blocks.active ≡ slots = omega (arith, nothing, made.active, may) in
      inr (refl, λ ps g most h. filling_refused slots T' ps (deep s a d) g most (k.filling ps g most h) all)

  -- no more slots are free than before, besides those of a block that was made where none was
  pub tail_packs : (T'' : Fields) (n : ℕ) → ((x : ℕ) → Held (cells_in T') x → Held (cells_in T'') x) → n ≤ 1 → MakesBlocks n T' T'' → TakesOne T' T'' → PacksTail slots T T'' s
  tail_packs T'' n keeps few made takes = λ ps g most spare h p. packs_one slots T' (ps ++ deep s a d ∷ []) g most (k.filling ps g most h) T'' n keeps few made spare takes (k.packs ps g most spare h p)

  -- one node more
  pub tail_goes_on : (T'' : Fields) (slot n : ℕ) → d < length e.0 → IsTable slots T''.places → Fills (size_of T') (size_of T'') (cells_in T') (cells_in T'') a None (label_of d e ∷ []) → slot ≡ below (cells_in T'') a (label_of d e)
      → n ≤ 1 → MakesBlocks n T' T'' → TakesOne T' T'' → T''.layout ≡ T'.layout → (cells_in T'').check 0 ≡ (cells_in T').check 0 → SameSettings T' T'' → OnTail slots T T'' s slot (d + 1)
  tail_goes_on T'' slot n long table fills is few made takes layout check settings = record {
    filling = λ ps g most h.
        (filling_on slots T' T'' ps (deep s a d) (ps ++ deep s slot (d + 1) ∷ []) g most n table (k.filling ps g most h)
        (λ t tree.
        let o = goes_on d e [] t (tree_of_one tree) long (inl refl) in
        subst (λ v. Fills (size_of T') (size_of T'') (cells_in T') (cells_in T'') a v (labels t.children)) (sym o.number)
        (subst (Fills (size_of T') (size_of T'') (cells_in T') (cells_in T'') a None) (sym o.label) fills))
        (λ t tree.
        let o = goes_on d e [] t (tree_of_one tree) long (inl refl) in
        let base = base_of (cells_in T'') a in
        (deep s slot (d + 1) ∷ [], refl, covers_same base (deep s slot (d + 1)) (record { node = bit_xor base (label_of d e); depth = suc d; entries = e ∷ [] }) t.children is (omega arith) one (o.covers base)))
        few made layout
        (λ t tree.
        let o = goes_on d e [] t (tree_of_one tree) long (inl refl) in
        λ reduced v some short. let both : None ≡ Some v = sym o.number ∙ some in absurd cc)).0;
    packs = tail_packs T'' n fills.keeps few made takes;
    blocks = (k.blocks.0 + n, made_then k.blocks.0 n T T' T'' k.blocks.1 made);
    root_check = check ∙ k.root_check;
    settings = settings_then T T' T'' k.settings settings;
  }

  -- the last one
  pub tail_ends : (T'' : Fields) (n : ℕ) → length e.0 ≤ d → IsTable slots T''.places → Fills (size_of T') (size_of T'') (cells_in T') (cells_in T'') a (Some e.1) [] → KeepsOwn T'.layout (cells_in T'') a (Some e.1) []
      → n ≤ 1 → MakesBlocks n T' T'' → T''.layout ≡ T'.layout → FillsTail slots T T'' s
  tail_ends T'' n short table fills own few made layout = λ ps g most h.
      (filling_on slots T' T'' ps (deep s a d) ps g most n table (k.filling ps g most h)
      (λ t tree.
      let o = ends_here d e t (tree_of_one tree) short in
      subst (λ v. Fills (size_of T') (size_of T'') (cells_in T') (cells_in T'') a v (labels t.children)) (sym o.number)
      (subst (Fills (size_of T') (size_of T'') (cells_in T') (cells_in T'') a (Some e.1)) (sym (ap labels o.alone)) fills))
      (λ t tree. ([], sym (append-nil ps), (ends_here d e t (tree_of_one tree) short).alone))
      few made layout
      (λ t tree.
      let o = ends_here d e t (tree_of_one tree) short in
      subst (λ v. KeepsOwn T'.layout (cells_in T'') a v (labels t.children)) (sym o.number)
      (subst (KeepsOwn T'.layout (cells_in T'') a (Some e.1)) (sym (ap labels o.alone)) own))).0

-- ---- less is left to do without a span

bytes_some : (d : ℕ) (es : List Entry) → 0 < length es → 0 < entry_bytes (entries_behind d es)
bytes_some d [] some = absurd (omega (arith, some))
bytes_some d (e ∷ es) some = omega arith

pub less_without : (ps : List Part) (s : Part) → 0 < length s.entries → work ps < work (ps ++ s ∷ [])
less_without ps s some = omega (arith, work_join ps (s ∷ []), bytes_some s.depth s.entries some)
