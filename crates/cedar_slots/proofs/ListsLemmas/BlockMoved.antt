-- A block whose counts change, and that moves to the list that they name.
use Rattle.std.proofs.Common.{◌≡◌, ℕ, ◌<◌, ◌≤◌, ◌⊎◌, List, [], ◌∷◌, length, refl, sym, ap, subst, inl, inr, ◌∙◌, arith, unsigned_abs, ◌+◌, ◌≤ℤ◌, ℤ, pos, not, true, false}
use Rattle.std.proofs.lemmas.Int.{ints}
use Rattle.std.proofs.lemmas.Bool.{cases_eq, cases_lt, false≢true}
use denote.Enum.Bare.{sameb}
use Rattle.cedar_slots.specs.contracts.blocks.BlockType.{the_type}
use Rattle.cedar_slots.specs.Blocks.{BlockFields, BlockLink, BlockLists, counts_at, fresh_counts, head_of, KeepsLinks, kind_of, ListRings, next_at, Popped, prev_at, lists_with, ring_of, total}
use Rattle.cedar_slots.specs.declared.blocks.Counts.{Counts}
use Rattle.cedar_slots.specs.declared.blocks.BlockType.{BlockType}
use Rattle.cedar_slots.specs.declared.blocks.BlockType.TheVariants.{Open, Closed, Full}
use Rattle.cedar_slots.specs.Ring.{first_of, occurs}
use Rattle.cedar_slots.proofs.RingsLemmas.Ring.{place_of, Around, around_first, Ring-frame, occurs_same, occurs_other}
use Rattle.cedar_slots.proofs.ListsLemmas.LinkedBlocks.{kind_of_open}
use Rattle.cedar_slots.proofs.ListsLemmas.ThreeLists.{cases_kind, replaced_same, replaced_other, total-replaced, gap_of, block_next, block_last, near, next_in_ring, last_in_ring}

-- ---- the derived `==` on kinds of lists

pub kinds_differ : (j k : BlockType) → not (sameb the_type j k) ≡ true → j ≡ k → ⊥
kinds_differ Open Open h e = false≢true h
kinds_differ Open Closed h e = cc
kinds_differ Open Full h e = cc
kinds_differ Closed Open h e = cc
kinds_differ Closed Closed h e = false≢true h
kinds_differ Closed Full h e = cc
kinds_differ Full Open h e = cc
kinds_differ Full Closed h e = cc
kinds_differ Full Full h e = false≢true h

pub kinds_same : (j k : BlockType) → not (sameb the_type j k) ≡ false → j ≡ k
kinds_same Open Open h = refl
kinds_same Open Closed h = absurd (false≢true (sym h))
kinds_same Open Full h = absurd (false≢true (sym h))
kinds_same Closed Open h = absurd (false≢true (sym h))
kinds_same Closed Closed h = refl
kinds_same Closed Full h = absurd (false≢true (sym h))
kinds_same Full Open h = absurd (false≢true (sym h))
kinds_same Full Closed h = absurd (false≢true (sym h))
kinds_same Full Full h = refl

-- ---- rings whose links have not changed

pub ListRings-kept : (old new : BlockFields) (lists : BlockType → List ℕ) → KeepsLinks old.records new.records → ((k : BlockType) → head_of new k ≡ head_of old k) → ListRings old lists → ListRings new lists
ListRings-kept old new lists links heads rings = record {
  apart = rings.apart;
  is_linked = λ k. Ring-frame (BlockLink old.records) (BlockLink new.records) (ring_of k (lists k)) (λ x y _ _ h. ((links x).0 ∙ h.0, (links y).1 ∙ h.1)) (rings.is_linked k);
  headed = λ k. heads k ∙ rings.headed k;
}

-- ---- the links of the lists lead to active blocks

-- each member is below n
abbrev pub MembersBelow : (BlockType → List ℕ) → ℕ → Type 0
MembersBelow lists n = (x : ℕ) → 0 < total lists x → x < n

pub ring_of-total : (lists : BlockType → List ℕ) (k : BlockType) (x : ℕ) → occurs x (ring_of k (lists k)) ≤ total lists x
ring_of-total lists Open x = omega arith
ring_of-total lists Closed x = omega arith
ring_of-total lists Full x = omega arith

pub list-total : (lists : BlockType → List ℕ) (k : BlockType) (x : ℕ) → occurs x (lists k) ≤ total lists x
list-total lists Open x = omega arith
list-total lists Closed x = omega arith
list-total lists Full x = omega arith

pub total_cases : (lists : BlockType → List ℕ) (x : ℕ) → 0 < total lists x → (x ≡ 0) ⊎ ((k : BlockType) × (0 < occurs x (lists k)))
total_cases lists x h = elim (cases_eq x 0) [
  | inl none ↦ inl none
  | inr other ↦ inr (elim (cases_lt 0 (occurs x (lists Full))) [
    | inl full ↦ (Full, full)
    | inr not_full ↦ elim (cases_lt 0 (occurs x (lists Closed))) [
      | inl closed ↦ (Closed, closed)
      | inr not_closed ↦ (Open, omega (arith, occurs_other x 0 (lists Full) other))
    ]
  ])
]

pub members_below : (blocks : BlockFields) (lists : BlockType → List ℕ) → 0 < blocks.active → BlockLists blocks lists → MembersBelow lists blocks.active
members_below blocks lists some held x h = elim (total_cases lists x h) [
  | inl none ↦ omega arith
  | inr (k, p) ↦ (held.only k x p).1
]

pub pop_in : (blocks : BlockFields) (lists : BlockType → List ℕ) (n : ℕ) → ListRings blocks lists → MembersBelow lists n → (k : BlockType) (e : ℕ) → 0 < occurs e (lists k) → (unsigned_abs (prev_at blocks.records e) < n) × (unsigned_abs (next_at blocks.records e) < n)
pop_in blocks lists n rings below k e inside =
    let place = place_of e (lists k) inside in
    let around_e = near blocks blocks k e lists rings (λ j _. refl) place.before place.after place.is in (
      rw (block_last blocks blocks k e lists rings (λ j _. refl) place.before place.after place.is) (below around_e.last (omega (arith, last_in_ring blocks blocks k e lists rings (λ j _. refl) place.before place.after place.is, ring_of-total lists k around_e.last))),
      rw (block_next blocks blocks k e lists rings (λ j _. refl) place.before place.after place.is) (below around_e.next (omega (arith, next_in_ring blocks blocks k e lists rings (λ j _. refl) place.before place.after place.is, ring_of-total lists k around_e.next))),
    )

-- the first member of a list, or block 0, and the block before it
pub push_in : (blocks : BlockFields) (lists : BlockType → List ℕ) (n : ℕ) → ListRings blocks lists → MembersBelow lists n → (k : BlockType) → (unsigned_abs (head_of blocks k) < n) × (unsigned_abs (prev_at blocks.records (unsigned_abs (head_of blocks k))) < n)
push_in blocks lists n rings below k = let head_is : unsigned_abs (head_of blocks k) ≡ first_of (lists k) = ap unsigned_abs (rings.headed k) in
    elim (cases_eq (length (lists k)) 0) [
      | inl none ↦ let gap = gap_of (BlockLink blocks.records) Full (lists Full) (inl refl) (rings.is_linked Full) in
          let root = around_first (BlockLink blocks.records) 0 (lists Full) (rings.is_linked Full) in
          let block_last : unsigned_abs (prev_at blocks.records 0) ≡ root.last = ap unsigned_abs root.into.1 in
          let zero_first : unsigned_abs (head_of blocks k) ≡ 0 = head_is ∙ first_none (lists k) none in (
            subst (λ m. m < n) (sym zero_first) (below 0 (omega arith)),
            subst (λ m. unsigned_abs (prev_at blocks.records m) < n) (sym zero_first) (subst (λ m. m < n) (sym block_last) (below root.last (root_in root))),
          )
      | inr some ↦ let gap = gap_of (BlockLink blocks.records) k (lists k) (inr (omega arith)) (rings.is_linked k) in
          let block_last : unsigned_abs (prev_at blocks.records (unsigned_abs (head_of blocks k))) ≡ gap.0 = ap (λ m. unsigned_abs (prev_at blocks.records m)) head_is ∙ ap unsigned_abs gap.1.into.1 in (
            subst (λ m. m < n) (sym head_is) (below (first_of (lists k)) (omega (arith, gap.1.first_in, ring_of-total lists k (first_of (lists k))))),
            subst (λ m. m < n) (sym block_last) (below gap.0 (omega (arith, gap.1.last_in, ring_of-total lists k gap.0))),
          )
    ]
  where
    first_none : (xs : List ℕ) → length xs ≡ 0 → first_of xs ≡ 0
    first_none [] h = refl
    first_none (x ∷ xs) h = absurd (omega arith)

    root_in : (root : Around (BlockLink blocks.records) 0 (lists Full)) → 0 < total lists root.last
    root_in root = elim (cases_eq (length (lists Full)) 0) [
      | inl none ↦ subst (λ m. 0 < total lists m) (sym (root.alone none).0) (omega arith)
      | inr some ↦ omega (arith, (root.others (omega arith)).0)
    ]

-- ---- the lists once the counts of the block e have changed

module _ (old new : BlockFields) (e : ℕ) (lists : BlockType → List ℕ) (held : BlockLists old lists)
    (active : new.active ≡ old.active) (max_trial : new.max_trial ≡ old.max_trial)
    (others : (b : ℕ) → (b ≡ e → ⊥) → counts_at new.records b ≡ counts_at old.records b) where
  kind_kept : (b : ℕ) → (b ≡ e → ⊥) → kind_of new.max_trial (counts_at new.records b) ≡ kind_of old.max_trial (counts_at old.records b)
  kind_kept b h = ap (λ z. kind_of z (counts_at new.records b)) max_trial ∙ ap (kind_of old.max_trial) (others b h)

  -- the block is in the right list as it is
  pub BlockLists-stay : ListRings new lists → ((e ≡ 0) ⊎ (kind_of new.max_trial (counts_at new.records e) ≡ kind_of old.max_trial (counts_at old.records e))) → BlockLists new lists
  BlockLists-stay rings same = record {
    rings = rings;
    listed = λ b p q. subst (λ k. occurs b (lists k) ≡ 1) (sym (kinds b p)) (held.listed b p (omega arith));
    only = λ k b p. let r = held.only k b p in (r.0, omega (arith, r.1), kinds b r.0 ∙ r.2);
  }
    where
      kinds : (b : ℕ) → 0 < b → kind_of new.max_trial (counts_at new.records b) ≡ kind_of old.max_trial (counts_at old.records b)
      kinds b p = elim (cases_eq b e) [
        | inl this ↦ elim same [ inl none ↦ absurd (omega arith) | inr kept ↦ subst (λ n. kind_of new.max_trial (counts_at new.records n) ≡ kind_of old.max_trial (counts_at old.records n)) (sym this) kept ]
        | inr other ↦ kind_kept b other
      ]

  module _ (from to : BlockType) (rest : List ℕ) (all : (x : ℕ) → occurs x (lists from) ≡ occurs x (e ∷ rest)) (other_list : from ≡ to → ⊥) where
    abbrev moved : BlockType → List ℕ
    moved = lists_with (lists_with lists from rest) to (e ∷ lists_with lists from rest to)

    moved_other : (k : BlockType) (b : ℕ) → (b ≡ e → ⊥) → occurs b (moved k) ≡ occurs b (lists k)
    moved_other k b h = elim (cases_kind k to) [
      | inl is_to ↦ rw is_to (rw (replaced_same (lists_with lists from rest) to (e ∷ lists_with lists from rest to)) (occurs_other b e _ h ∙ ap (occurs b) (replaced_other lists from rest to (λ same. other_list (sym same)))))
      | inr not_to ↦ rw (replaced_other (lists_with lists from rest) to (e ∷ lists_with lists from rest to) k not_to) (elim (cases_kind k from) [
        | inl is_from ↦ rw is_from (rw (replaced_same lists from rest) (sym (all b ∙ occurs_other b e rest h)))
        | inr not_from ↦ ap (occurs b) (replaced_other lists from rest k not_from)
      ])
    ]

    -- the block has moved from one list to the other
    pub BlockLists-moved : 0 < e → e < old.active → kind_of old.max_trial (counts_at old.records e) ≡ from → kind_of new.max_trial (counts_at new.records e) ≡ to → ListRings new moved → BlockLists new moved
    BlockLists-moved positive e_in was now rings = record {
      rings = rings;
      listed = λ b p q. elim (cases_eq b e) [
        | inl this ↦ subst (λ n. occurs n (moved (kind_of new.max_trial (counts_at new.records n))) ≡ 1) (sym this) (subst (λ k. occurs e (moved k) ≡ 1) (sym now) once_to)
        | inr other ↦ moved_other _ b other ∙ subst (λ k. occurs b (lists k) ≡ 1) (sym (kind_kept b other)) (held.listed b p (omega arith))
      ];
      only = λ k b p. elim (cases_eq b e) [
        | inl this ↦ subst (λ n. (0 < n) × (n < new.active) × (kind_of new.max_trial (counts_at new.records n) ≡ k)) (sym this) (positive, omega arith, now ∙ sym (in_to k (subst (λ n. 0 < occurs n (moved k)) this p)))
        | inr other ↦ let r = held.only k b (omega (arith, p, moved_other k b other)) in (r.0, omega (arith, r.1), kind_kept b other ∙ r.2)
      ];
    }
      where
        once_to : occurs e (moved to) ≡ 1
        once_to = omega (arith, ap (occurs e) (replaced_same (lists_with lists from rest) to (e ∷ lists_with lists from rest to)), occurs_same e (lists_with lists from rest to), rings.apart e, list-total moved to e)

        in_to : (k : BlockType) → 0 < occurs e (moved k) → k ≡ to
        in_to k p = elim (cases_kind k to) [
          | inl is_to ↦ is_to
          | inr not_to ↦ elim (cases_kind k from) [
            | inl is_from ↦ absurd (omega (arith, p, ap (occurs e) (replaced_other (lists_with lists from rest) to (e ∷ lists_with lists from rest to) k not_to), ap (occurs e) (subst (λ j. lists_with lists from rest j ≡ rest) (sym is_from) (replaced_same lists from rest)), all e, occurs_same e rest, held.rings.apart e, list-total lists from e))
            | inr not_from ↦ absurd (not_from (sym (held.only k e (omega (arith, p, ap (occurs e) (replaced_other (lists_with lists from rest) to (e ∷ lists_with lists from rest to) k not_to), ap (occurs e) (replaced_other lists from rest k not_from)))).2 ∙ was))
          ]
        ]

-- ---- what the two moves of a block need and leave, by what the code has read

-- the state before a block leaves its list: its counts are new, and its links are as they were
pub record Leaving (old mid : BlockFields) (e : ℕ) (lists : BlockType → List ℕ) (from : BlockType) : Type 0 where
  pub rings : ListRings mid lists
  pub inside : 0 < occurs e (lists from)
  pub was : kind_of old.max_trial (counts_at old.records e) ≡ from
  pub below : MembersBelow lists old.active

pub leaving : (old mid : BlockFields) (e : ℕ) (lists : BlockType → List ℕ) (from : BlockType) (counts : Counts) → BlockLists old lists → 0 < e → e < old.active → KeepsLinks old.records mid.records → ((k : BlockType) → head_of mid k ≡ head_of old k) → counts ≡ counts_at old.records e → from ≡ kind_of old.max_trial counts → Leaving old mid e lists from
leaving old mid e lists from counts held positive e_in links heads read named =
    let was : kind_of old.max_trial (counts_at old.records e) ≡ from = ap (kind_of old.max_trial) (sym read) ∙ sym named in
    record {
      rings = ListRings-kept old mid lists links heads held.rings;
      inside = subst (λ k. 0 < occurs e (lists k)) was (omega (arith, held.listed e positive e_in));
      was = was;
      below = members_below old lists (omega arith) held;
    }

pub leaving_in : (old mid : BlockFields) (e : ℕ) (lists : BlockType → List ℕ) (from : BlockType) → Leaving old mid e lists from → (unsigned_abs (prev_at mid.records e) < old.active) × (unsigned_abs (next_at mid.records e) < old.active)
leaving_in old mid e lists from l = pop_in mid lists old.active l.rings l.below from e l.inside

pub coming_in : (old mid popped : BlockFields) (e : ℕ) (lists : BlockType → List ℕ) (from to : BlockType) → Leaving old mid e lists from → Popped popped lists from e → (unsigned_abs (head_of popped to) < old.active) × (unsigned_abs (prev_at popped.records (unsigned_abs (head_of popped to))) < old.active)
coming_in old mid popped e lists from to l p = push_in popped (lists_with lists from p.rest) old.active p.rings (λ x h. l.below x (omega (arith, h, total-replaced lists from p.rest x, p.others x))) to

pub popped_absent : (old mid popped : BlockFields) (e : ℕ) (lists : BlockType → List ℕ) (from : BlockType) → Leaving old mid e lists from → (p : Popped popped lists from e) → total (lists_with lists from p.rest) e ≡ 0
popped_absent old mid popped e lists from l p = omega (arith, total-replaced lists from p.rest e, p.others e, occurs_same e p.rest, l.rings.apart e)

-- ---- a block comes into use

module _ (old mid new : BlockFields) (lists : BlockType → List ℕ) (some : 0 < old.active) (held : BlockLists old lists) where
  pub absent_active : total lists old.active ≡ 0
  absent_active = elim (cases_eq (total lists old.active) 0) [
    | inl none ↦ none
    | inr more ↦ absurd (omega (arith, members_below old lists some held old.active (omega arith)))
  ]

  pub activated_in : ListRings mid lists → (k : BlockType) → (unsigned_abs (head_of mid k) < old.active) × (unsigned_abs (prev_at mid.records (unsigned_abs (head_of mid k))) < old.active)
  activated_in rings k = push_in mid lists old.active rings (members_below old lists some held) k

  opened_other : (k : BlockType) (b : ℕ) → (b ≡ old.active → ⊥) → occurs b (lists_with lists Open (old.active ∷ lists Open) k) ≡ occurs b (lists k)
  opened_other Open b h = occurs_other b old.active (lists Open) h
  opened_other Closed b h = refl
  opened_other Full b h = refl

  opened_only : (k : BlockType) → 0 < occurs old.active (lists_with lists Open (old.active ∷ lists Open) k) → Open ≡ k
  opened_only Open p = refl
  opened_only Closed p = absurd (omega (arith, p, absent_active, list-total lists Closed old.active))
  opened_only Full p = absurd (omega (arith, p, absent_active, list-total lists Full old.active))

  pub BlockLists-activated : new.active ≡ old.active + 1 → new.max_trial ≡ old.max_trial → ((b : ℕ) → (b ≡ old.active → ⊥) → counts_at new.records b ≡ counts_at old.records b) → kind_of new.max_trial (counts_at new.records old.active) ≡ Open → ListRings new (lists_with lists Open (old.active ∷ lists Open)) → BlockLists new (lists_with lists Open (old.active ∷ lists Open))
  BlockLists-activated active max_trial others is_open rings = record {
    rings = rings;
    listed = λ b p q. elim (cases_eq b old.active) [
      | inl this ↦ subst (λ n. occurs n (lists_with lists Open (old.active ∷ lists Open) (kind_of new.max_trial (counts_at new.records n))) ≡ 1) (sym this) (subst (λ k. occurs old.active (lists_with lists Open (old.active ∷ lists Open) k) ≡ 1) (sym is_open) (omega (arith, occurs_same old.active (lists Open), absent_active, list-total lists Open old.active)))
      | inr other ↦ opened_other _ b other ∙ subst (λ k. occurs b (lists k) ≡ 1) (sym (kind_same b other)) (held.listed b p (omega arith))
    ];
    only = λ k b p. elim (cases_eq b old.active) [
      | inl this ↦ subst (λ n. (0 < n) × (n < new.active) × (kind_of new.max_trial (counts_at new.records n) ≡ k)) (sym this) (some, omega arith, is_open ∙ opened_only k (subst (λ n. 0 < occurs n (lists_with lists Open (old.active ∷ lists Open) k)) this p))
      | inr other ↦ let r = held.only k b (omega (arith, p, opened_other k b other)) in (r.0, omega (arith, r.1), kind_same b other ∙ r.2)
    ];
  }
    where
      kind_same : (b : ℕ) → (b ≡ old.active → ⊥) → kind_of new.max_trial (counts_at new.records b) ≡ kind_of old.max_trial (counts_at old.records b)
      kind_same b h = ap (λ z. kind_of z (counts_at new.records b)) max_trial ∙ ap (kind_of old.max_trial) (others b h)

pub fresh_open : (z : ℤ) (b : ℕ) → pos 1 ≤ℤ z → kind_of z (fresh_counts b) ≡ Open
fresh_open z b tried = kind_of_open z (fresh_counts b) (λ e. cc) (λ e. cc) (λ e. zero_not z tried e)
  where
    zero_not : (z : ℤ) → pos 1 ≤ℤ z → pos 0 ≡ z → ⊥
    zero_not z h e = omega (arith, ints)
