-- The three lists of blocks after a block has left one, and after one has come to one.
use Rattle.std.proofs.Common.{◌≡◌, ℕ, ◌+◌, ◌<◌, ◌≤◌, ◌⊎◌, List, [], ◌∷◌, ◌++◌, length, length-append, refl, sym, ap, subst, inl, inr, ◌∙◌, arith, pos, unsigned_abs}
use Rattle.std.proofs.lemmas.Bool.{cases_eq}
use Rattle.cedar_slots.specs.declared.records.BlockRecord.{BlockRecord}
use Rattle.cedar_slots.specs.Blocks.{BlockFields, BlockLink, head_of, linked_blocks, ListRings, next_at, Popped, prev_at, lists_with, ring_of, total}
use Rattle.cedar_slots.specs.declared.blocks.BlockType.{BlockType}
use Rattle.cedar_slots.specs.declared.blocks.BlockType.TheVariants.{Open, Closed, Full}
use Rattle.cedar_slots.specs.Ring.{first_of, occurs, Ring, Relinked}
use Rattle.cedar_slots.proofs.RingsLemmas.Ring.{place_of, Around, around, around_first, Ring-frame, Ring-remove, Ring-insert, Ring-push, Apart, occurs-append, occurs_same, occurs_other}
use Rattle.cedar_slots.proofs.ListsLemmas.LinkedBlocks.{BlockLink-fixed, Relinked-linked_blocks, length-linked_blocks}

-- ---- lists by their kinds

pub cases_kind : (j k : BlockType) → (j ≡ k) ⊎ (j ≡ k → ⊥)
cases_kind Open Open = inl refl
cases_kind Open Closed = inr (λ e. cc)
cases_kind Open Full = inr (λ e. cc)
cases_kind Closed Open = inr (λ e. cc)
cases_kind Closed Closed = inl refl
cases_kind Closed Full = inr (λ e. cc)
cases_kind Full Open = inr (λ e. cc)
cases_kind Full Closed = inr (λ e. cc)
cases_kind Full Full = inl refl

-- a fact for each list
pub cases_list : (P : BlockType → Type 0) → P Open → P Closed → P Full → (list : BlockType) → P list
cases_list P x y z Open = x
cases_list P x y z Closed = y
cases_list P x y z Full = z

pub replaced_same : (lists : BlockType → List ℕ) (k : BlockType) (xs : List ℕ) → lists_with lists k xs k ≡ xs
replaced_same lists Open xs = refl
replaced_same lists Closed xs = refl
replaced_same lists Full xs = refl

pub replaced_other : (lists : BlockType → List ℕ) (k : BlockType) (xs : List ℕ) (j : BlockType) → (j ≡ k → ⊥) → lists_with lists k xs j ≡ lists j
replaced_other lists Open xs Open h = absurd (h refl)
replaced_other lists Open xs Closed h = refl
replaced_other lists Open xs Full h = refl
replaced_other lists Closed xs Open h = refl
replaced_other lists Closed xs Closed h = absurd (h refl)
replaced_other lists Closed xs Full h = refl
replaced_other lists Full xs Open h = refl
replaced_other lists Full xs Closed h = refl
replaced_other lists Full xs Full h = absurd (h refl)

pub total-replaced : (lists : BlockType → List ℕ) (k : BlockType) (xs : List ℕ) (x : ℕ) → total (lists_with lists k xs) x + occurs x (lists k) ≡ total lists x + occurs x xs
total-replaced lists Open xs x = omega arith
total-replaced lists Closed xs x = omega arith
total-replaced lists Full xs x = omega arith

pub two_apart : (lists : BlockType → List ℕ) (x : ℕ) → total lists x ≤ 1 → (j k : BlockType) → (j ≡ k → ⊥) → occurs x (ring_of j (lists j)) + occurs x (ring_of k (lists k)) ≤ 1
two_apart lists x h Open Open p = absurd (p refl)
two_apart lists x h Open Closed p = omega arith
two_apart lists x h Open Full p = omega arith
two_apart lists x h Closed Open p = omega arith
two_apart lists x h Closed Closed p = absurd (p refl)
two_apart lists x h Closed Full p = omega arith
two_apart lists x h Full Open p = omega arith
two_apart lists x h Full Closed p = omega arith
two_apart lists x h Full Full p = absurd (p refl)

pub ring_apart : (lists : BlockType → List ℕ) → ((x : ℕ) → total lists x ≤ 1) → (k : BlockType) → Apart (ring_of k (lists k))
ring_apart lists h Open x = omega (arith, h x)
ring_apart lists h Closed x = omega (arith, h x)
ring_apart lists h Full x = omega (arith, h x)

pub occurs-ring_of : (k : BlockType) (xs : List ℕ) (x : ℕ) → occurs x xs ≤ occurs x (ring_of k xs)
occurs-ring_of Open xs x = omega arith
occurs-ring_of Closed xs x = omega arith
occurs-ring_of Full xs x = omega arith

pub ring_of-append : (k : BlockType) (xs ys : List ℕ) → ring_of k (xs ++ ys) ≡ ring_of k xs ++ ys
ring_of-append Open xs ys = refl
ring_of-append Closed xs ys = refl
ring_of-append Full xs ys = refl

-- ---- lists put together again once one was replaced

rings_of : (new : BlockFields) (lists : BlockType → List ℕ) (k : BlockType) (xs : List ℕ) → ((x : ℕ) → total (lists_with lists k xs) x ≤ 1) → Ring (BlockLink new.records) (ring_of k xs) → ((j : BlockType) → (j ≡ k → ⊥) → Ring (BlockLink new.records) (ring_of j (lists j))) → head_of new k ≡ pos (first_of xs) → ((j : BlockType) → (j ≡ k → ⊥) → head_of new j ≡ pos (first_of (lists j))) → ListRings new (lists_with lists k xs)
rings_of new lists k xs apart ring others head heads = record {
  apart = apart;
  is_linked = λ j. elim (cases_kind j k) [
    | inl same ↦ rw same (rw (replaced_same lists k xs) ring)
    | inr other ↦ rw (replaced_other lists k xs j other) (others j other)
  ];
  headed = λ j. elim (cases_kind j k) [
    | inl same ↦ rw same (rw (replaced_same lists k xs) head)
    | inr other ↦ rw (replaced_other lists k xs j other) (heads j other)
  ];
}

-- ---- a block has left a list

head_left : (k : BlockType) (before after : List ℕ) (next : ℕ) → ((y : ℕ) (ys : List ℕ) → after ++ ring_of k before ≡ y ∷ ys → next ≡ y) → 0 < length (after ++ ring_of k before) → before ≡ [] → first_of after ≡ next
head_left k before (y ∷ ys) next first some none = sym (first y (ys ++ ring_of k before) refl)
head_left Open before [] next first some none = absurd (omega (arith, some, ap length none))
head_left Closed before [] next first some none = absurd (omega (arith, some, ap length none))
head_left Full before [] next first some none = sym (first 0 before refl)

nothing_left : (k : BlockType) (before after : List ℕ) (Link : ℕ → ℕ → Type 0) → length (after ++ ring_of k before) ≡ 0 → (before ++ after ≡ []) × Ring Link (ring_of k (before ++ after))
nothing_left Open [] [] Link h = (refl, tt)
nothing_left Open [] (x ∷ xs) Link h = absurd (omega arith)
nothing_left Open (x ∷ xs) after Link h = absurd (omega (arith, h, length-append after (x ∷ xs)))
nothing_left Closed [] [] Link h = (refl, tt)
nothing_left Closed [] (x ∷ xs) Link h = absurd (omega arith)
nothing_left Closed (x ∷ xs) after Link h = absurd (omega (arith, h, length-append after (x ∷ xs)))
nothing_left Full before after Link h = absurd (omega (arith, h, length-append after (0 ∷ before)))

module _ (old new : BlockFields) (k : BlockType) (e : ℕ) (lists : BlockType → List ℕ) (rings : ListRings old lists) (heads : (j : BlockType) → (j ≡ k → ⊥) → head_of new j ≡ head_of old j) where
  popped_of : (before after : List ℕ) → lists k ≡ before ++ e ∷ after → Ring (BlockLink new.records) (ring_of k (before ++ after)) → ((j : BlockType) → (j ≡ k → ⊥) → Ring (BlockLink new.records) (ring_of j (lists j))) → head_of new k ≡ pos (first_of (before ++ after)) → Popped new lists k e
  popped_of before after is ring others head =
      let all : (x : ℕ) → occurs x (lists k) ≡ occurs x (e ∷ before ++ after) = λ x. rw is (omega (arith, occurs-append x before (e ∷ after), occurs-append x before after)) in
      record {
        rest = before ++ after;
        rings = rings_of new lists k (before ++ after) (λ x. omega (arith, total-replaced lists k (before ++ after) x, all x, rings.apart x)) ring others head (λ j other. heads j other ∙ rings.headed j);
        others = all;
      }

  module _ (before after : List ℕ) (is : lists k ≡ before ++ e ∷ after) where
    ring_is : ring_of k (lists k) ≡ ring_of k before ++ e ∷ after
    ring_is = ap (ring_of k) is ∙ ring_of-append k before (e ∷ after)

    old_ring : Ring (BlockLink old.records) (ring_of k before ++ e ∷ after)
    old_ring = subst (Ring (BlockLink old.records)) ring_is (rings.is_linked k)

    pub near : Around (BlockLink old.records) e (after ++ ring_of k before)
    near = around (BlockLink old.records) e (ring_of k before) after old_ring

    apart : Apart (ring_of k before ++ e ∷ after)
    apart = subst Apart ring_is (ring_apart lists rings.apart k)

    -- the neighbours of e are in its ring
    pub next_in_ring : 0 < occurs near.next (ring_of k (lists k))
    next_in_ring = rw ring_is (elim (cases_eq (length (after ++ ring_of k before)) 0) [
      | inl none ↦ rw (near.alone none).1 (omega (arith, occurs-append e (ring_of k before) (e ∷ after), occurs_same e after))
      | inr some ↦ omega (arith, (near.others (omega arith)).1, occurs-append near.next (ring_of k before) (e ∷ after), occurs-append near.next after (ring_of k before))
    ])

    pub last_in_ring : 0 < occurs near.last (ring_of k (lists k))
    last_in_ring = rw ring_is (elim (cases_eq (length (after ++ ring_of k before)) 0) [
      | inl none ↦ rw (near.alone none).0 (omega (arith, occurs-append e (ring_of k before) (e ∷ after), occurs_same e after))
      | inr some ↦ omega (arith, (near.others (omega arith)).0, occurs-append near.last (ring_of k before) (e ∷ after), occurs-append near.last after (ring_of k before))
    ])

    pub block_next : unsigned_abs (next_at old.records e) ≡ near.next
    block_next = ap unsigned_abs near.from.0

    pub block_last : unsigned_abs (prev_at old.records e) ≡ near.last
    block_last = ap unsigned_abs near.into.1

    -- the block was alone in its ring
    popped_alone : near.next ≡ e → new.records ≡ old.records → head_of new k ≡ pos 0 → Popped new lists k e
    popped_alone next_same records head =
        let e_not : occurs e (after ++ ring_of k before) ≡ 0 = omega (arith, apart e, occurs-append e (ring_of k before) (e ∷ after), occurs-append e after (ring_of k before), occurs_same e after) in
        let none : length (after ++ ring_of k before) ≡ 0 = elim (cases_eq (length (after ++ ring_of k before)) 0) [
          | inl none ↦ none
          | inr some ↦ absurd (omega (arith, e_not, subst (λ n. 0 < occurs n (after ++ ring_of k before)) next_same (near.others (omega arith)).1))
        ] in
        let left = nothing_left k before after (BlockLink new.records) none in
        popped_of before after is left.1 (λ j other. subst (λ rs. Ring (BlockLink rs) (ring_of j (lists j))) (sym records) (rings.is_linked j)) (head ∙ ap (λ (xs : List ℕ). pos (first_of xs)) (sym left.0))

    -- the blocks around it are linked to one another
    popped_linked : (near.next ≡ e → ⊥) → near.last < length old.records → near.next < length old.records → new.records ≡ linked_blocks old.records near.last near.next → (head_of old k ≡ pos e → head_of new k ≡ pos near.next) → ((head_of old k ≡ pos e → ⊥) → head_of new k ≡ head_of old k) → Popped new lists k e
    popped_linked next_other last_in next_in records head_taken head_kept =
        let rs = old.records in
        let step : Relinked (BlockLink rs) (BlockLink (linked_blocks rs near.last near.next)) near.last near.next = Relinked-linked_blocks rs near.last near.next last_in next_in in
        let some : 0 < length (after ++ ring_of k before) = elim (cases_eq (length (after ++ ring_of k before)) 0) [
          | inl none ↦ absurd (next_other (near.alone none).1)
          | inr some ↦ omega arith
        ] in
        let ring = Ring-remove (BlockLink rs) (BlockLink-fixed rs) (BlockLink (linked_blocks rs near.last near.next)) e near.last near.next (ring_of k before) after (omega (arith, some, length-append after (ring_of k before), length-append (ring_of k before) after)) apart near.into near.from step old_ring in
        let others : (j : BlockType) → (j ≡ k → ⊥) → Ring (BlockLink (linked_blocks rs near.last near.next)) (ring_of j (lists j)) = λ j other. Ring-frame (BlockLink rs) (BlockLink (linked_blocks rs near.last near.next)) (ring_of j (lists j)) (λ x y p q h. step.kept x y
        (λ same. absurd (omega (arith, last_in_ring, subst (λ n. 0 < occurs n (ring_of j (lists j))) same p, two_apart lists near.last (rings.apart near.last) j k other)))
        (λ same. absurd (omega (arith, next_in_ring, subst (λ n. 0 < occurs n (ring_of j (lists j))) same q, two_apart lists near.next (rings.apart near.next) j k other))) h) (rings.is_linked j) in
        popped_of before after is
        (subst (λ rs'. Ring (BlockLink rs') (ring_of k (before ++ after))) (sym records) (rw (ring_of-append k before after) ring))
        (λ j other. subst (λ rs'. Ring (BlockLink rs') (ring_of j (lists j))) (sym records) (others j other))
        (head_popped before is near.first some)
      where
        head_popped : (front : List ℕ) → lists k ≡ front ++ e ∷ after → ((y : ℕ) (ys : List ℕ) → after ++ ring_of k front ≡ y ∷ ys → near.next ≡ y) → 0 < length (after ++ ring_of k front) → head_of new k ≡ pos (first_of (front ++ after))
        head_popped [] whole first some = head_taken (rings.headed k ∙ ap (λ (xs : List ℕ). pos (first_of xs)) whole) ∙ ap pos (sym (head_left k [] after near.next first some refl))
        head_popped (x ∷ front) whole first some = let head : head_of old k ≡ pos x = rings.headed k ∙ ap (λ (xs : List ℕ). pos (first_of xs)) whole in
            head_kept (λ same. let is_e : x ≡ e = cc in absurd (omega (arith, ring_apart lists rings.apart k e, occurs-ring_of k (lists k) e, ap (occurs e) whole, occurs-append e front (e ∷ after), occurs_same e after, subst (λ n. occurs e (n ∷ front ++ e ∷ after) ≡ 1 + occurs e (front ++ e ∷ after)) (sym is_e) (occurs_same e (front ++ e ∷ after))))) ∙ head

-- ---- a block has come to a list, as its first member

pub empty_list : (lists : BlockType → List ℕ) → ((x : ℕ) → total lists x ≤ 1) → (k : BlockType) → first_of (lists k) ≡ 0 → lists k ≡ []
empty_list lists h k first = go k (lists k) (ring_apart lists h Full 0) (zero_nowhere k) first
  where
    zero_nowhere : (k : BlockType) → occurs 0 (lists k) ≡ 0
    zero_nowhere Open = omega (arith, h 0)
    zero_nowhere Closed = omega (arith, h 0)
    zero_nowhere Full = omega (arith, h 0)

    go : (k : BlockType) (xs : List ℕ) → occurs 0 (ring_of Full (lists Full)) ≤ 1 → occurs 0 xs ≡ 0 → first_of xs ≡ 0 → xs ≡ []
    go k [] a p q = refl
    go k (x ∷ xs) a p q = absurd (omega (arith, p, subst (λ n. occurs n (x ∷ xs) ≡ 1 + occurs n xs) q (occurs_same x xs)))

-- what comes before the place at which a block comes to a list, and what comes after it
pub record Gap (Link : ℕ → ℕ → Type 0) (k : BlockType) (xs : List ℕ) (last : ℕ) : Type 0 where
  pub into : Link last (first_of xs)
  pub last_in : 0 < occurs last (ring_of k xs)
  pub first_in : 0 < occurs (first_of xs) (ring_of k xs)

pub gap_of : (Link : ℕ → ℕ → Type 0) (k : BlockType) (xs : List ℕ) → (k ≡ Full) ⊎ (0 < length xs) → Ring Link (ring_of k xs) → (last : ℕ) × Gap Link k xs last
gap_of Link Open [] h ring = absurd (elim h [ inl e ↦ cc | inr p ↦ omega arith ])
gap_of Link Open (x ∷ xs) h ring = let near = around_first Link x xs ring in (near.last, record { into = near.into; last_in = elim (cases_eq (length xs) 0) [ inl none ↦ rw (near.alone none).0 (omega (arith, occurs_same x xs)) | inr some ↦ omega (arith, (near.others (omega arith)).0) ]; first_in = omega (arith, occurs_same x xs) })
gap_of Link Closed [] h ring = absurd (elim h [ inl e ↦ cc | inr p ↦ omega arith ])
gap_of Link Closed (x ∷ xs) h ring = let near = around_first Link x xs ring in (near.last, record { into = near.into; last_in = elim (cases_eq (length xs) 0) [ inl none ↦ rw (near.alone none).0 (omega (arith, occurs_same x xs)) | inr some ↦ omega (arith, (near.others (omega arith)).0) ]; first_in = omega (arith, occurs_same x xs) })
gap_of Link Full [] h ring = (0, record { into = ring; last_in = omega arith; first_in = omega arith })
gap_of Link Full (x ∷ xs) h ring = (0, record { into = ring.0; last_in = omega arith; first_in = omega (arith, occurs_same x xs) })

module _ (old new : BlockFields) (k : BlockType) (e : ℕ) (lists : BlockType → List ℕ) (rings : ListRings old lists) (absent : total lists e ≡ 0) (heads : (j : BlockType) → (j ≡ k → ⊥) → head_of new j ≡ head_of old j) (head : head_of new k ≡ pos e) where
  absent_at : (j : BlockType) → occurs e (ring_of j (lists j)) ≡ 0
  absent_at Open = omega arith
  absent_at Closed = omega arith
  absent_at Full = omega arith

  pushed_of : Ring (BlockLink new.records) (ring_of k (e ∷ lists k)) → ((j : BlockType) → (j ≡ k → ⊥) → Ring (BlockLink new.records) (ring_of j (lists j))) → ListRings new (lists_with lists k (e ∷ lists k))
  pushed_of ring others = rings_of new lists k (e ∷ lists k)
      (λ x. elim (cases_eq x e) [
        | inl same ↦ subst (λ n. total (lists_with lists k (e ∷ lists k)) n ≤ 1) (sym same) (omega (arith, total-replaced lists k (e ∷ lists k) e, occurs_same e (lists k), absent))
        | inr other ↦ omega (arith, total-replaced lists k (e ∷ lists k) x, occurs_other x e (lists k) other, rings.apart x)
      ])
      ring others head (λ j other. heads j other ∙ rings.headed j)

  -- the list was empty, and is not the full one
  pub pushed_alone : (k ≡ Full → ⊥) → lists k ≡ [] → e < length old.records → new.records ≡ linked_blocks old.records e e → ListRings new (lists_with lists k (e ∷ lists k))
  pushed_alone not_full none e_in records =
      let rs = old.records in
      let step = Relinked-linked_blocks rs e e e_in e_in in
      pushed_of
      (subst (λ rs'. Ring (BlockLink rs') (ring_of k (e ∷ lists k))) (sym records) (rw none (alone k not_full step)))
      (λ j other. subst (λ rs'. Ring (BlockLink rs') (ring_of j (lists j))) (sym records) (Ring-frame (BlockLink rs) (BlockLink (linked_blocks rs e e)) (ring_of j (lists j)) (λ x y p q h. step.kept x y
      (λ same. absurd (omega (arith, absent_at j, subst (λ n. 0 < occurs n (ring_of j (lists j))) same p)))
      (λ same. absurd (omega (arith, absent_at j, subst (λ n. 0 < occurs n (ring_of j (lists j))) same q))) h) (rings.is_linked j)))
    where
      alone : (k : BlockType) → (k ≡ Full → ⊥) → Relinked (BlockLink old.records) (BlockLink (linked_blocks old.records e e)) e e → Ring (BlockLink (linked_blocks old.records e e)) (ring_of k (e ∷ []))
      alone Open p step = step.made
      alone Closed p step = step.made
      alone Full p step = absurd (p refl)

  -- the block now comes before the head h of the list, and after last
  pub pushed_linked : (last : ℕ) → Gap (BlockLink old.records) k (lists k) last → ((k ≡ Full) ⊎ (0 < length (lists k))) → e < length old.records → last < length old.records → first_of (lists k) < length old.records → new.records ≡ linked_blocks (linked_blocks old.records last e) e (first_of (lists k)) → ListRings new (lists_with lists k (e ∷ lists k))
  pushed_linked last gap some e_in last_in head_in records =
      let rs = old.records in
      let h = first_of (lists k) in
      let middle = linked_blocks rs last e in
      let first_step = Relinked-linked_blocks rs last e last_in e_in in
      let second_step = Relinked-linked_blocks middle e h (omega (arith, e_in, length-linked_blocks rs last e)) (omega (arith, head_in, length-linked_blocks rs last e)) in
      pushed_of
      (subst (λ rs'. Ring (BlockLink rs') (ring_of k (e ∷ lists k))) (sym records) (ring k (lists k) last some gap.into (absent_at k) (ring_apart lists rings.apart k) (rings.is_linked k) middle (linked_blocks middle e h) first_step second_step))
      (λ j other. subst (λ rs'. Ring (BlockLink rs') (ring_of j (lists j))) (sym records) (Ring-frame (BlockLink rs) (BlockLink (linked_blocks middle e h)) (ring_of j (lists j)) (λ x y p q link. second_step.kept x y
      (λ same. absurd (omega (arith, absent_at j, subst (λ n. 0 < occurs n (ring_of j (lists j))) same p)))
      (λ same. absurd (omega (arith, gap.first_in, subst (λ n. 0 < occurs n (ring_of j (lists j))) same q, two_apart lists h (rings.apart h) j k other)))
      (first_step.kept x y
      (λ same. absurd (omega (arith, gap.last_in, subst (λ n. 0 < occurs n (ring_of j (lists j))) same p, two_apart lists last (rings.apart last) j k other)))
      (λ same. absurd (omega (arith, absent_at j, subst (λ n. 0 < occurs n (ring_of j (lists j))) same q))) link)) (rings.is_linked j)))
    where
      ring : (k : BlockType) (xs : List ℕ) (last : ℕ) → (k ≡ Full) ⊎ (0 < length xs) → BlockLink old.records last (first_of xs) → occurs e (ring_of k xs) ≡ 0 → Apart (ring_of k xs) → Ring (BlockLink old.records) (ring_of k xs) → (middle after : List BlockRecord) → Relinked (BlockLink old.records) (BlockLink middle) last e → Relinked (BlockLink middle) (BlockLink after) e (first_of xs) → Ring (BlockLink after) (ring_of k (e ∷ xs))
      ring Open [] last some into none apart whole middle after one two = absurd (elim some [ inl p ↦ cc | inr p ↦ omega arith ])
      ring Open (x ∷ xs) last some into none apart whole middle after one two = Ring-push (BlockLink old.records) (BlockLink-fixed old.records) (BlockLink after) (BlockLink middle) e x last xs apart none into one two whole
      ring Closed [] last some into none apart whole middle after one two = absurd (elim some [ inl p ↦ cc | inr p ↦ omega arith ])
      ring Closed (x ∷ xs) last some into none apart whole middle after one two = Ring-push (BlockLink old.records) (BlockLink-fixed old.records) (BlockLink after) (BlockLink middle) e x last xs apart none into one two whole
      ring Full [] last some into none apart whole middle after one two = Ring-insert (BlockLink old.records) (BlockLink-fixed old.records) (BlockLink after) (BlockLink middle) e 0 0 [] apart none whole (subst (λ n. Relinked (BlockLink old.records) (BlockLink middle) n e) ((BlockLink-fixed old.records).prev last 0 0 into whole) one) two whole
      ring Full (x ∷ xs) last some into none apart whole middle after one two = Ring-insert (BlockLink old.records) (BlockLink-fixed old.records) (BlockLink after) (BlockLink middle) e 0 x (x ∷ xs) apart none whole.0 (subst (λ n. Relinked (BlockLink old.records) (BlockLink middle) n e) ((BlockLink-fixed old.records).prev last 0 x into whole.0) one) two whole

-- ---- what `pop_block` and `push_block` leave, by what they read

module _ (old new : BlockFields) (k : BlockType) (e : ℕ) (lists : BlockType → List ℕ) (rings : ListRings old lists) where
  pub Popped-alone : 0 < occurs e (lists k) → unsigned_abs (next_at old.records e) ≡ e → new.records ≡ old.records → head_of new k ≡ pos 0 → ((j : BlockType) → (j ≡ k → ⊥) → head_of new j ≡ head_of old j) → Popped new lists k e
  Popped-alone inside next records head heads =
      let place = place_of e (lists k) inside in
      popped_alone old new k e lists rings heads place.before place.after place.is (sym (block_next old new k e lists rings heads place.before place.after place.is) ∙ next) records head

  pub Popped-linked : 0 < occurs e (lists k) → (last next : ℕ) → last ≡ unsigned_abs (prev_at old.records e) → next ≡ unsigned_abs (next_at old.records e) → (next ≡ e → ⊥) → last < length old.records → next < length old.records → new.records ≡ linked_blocks old.records last next → (head_of old k ≡ pos e → head_of new k ≡ pos next) → ((head_of old k ≡ pos e → ⊥) → head_of new k ≡ head_of old k) → ((j : BlockType) → (j ≡ k → ⊥) → head_of new j ≡ head_of old j) → Popped new lists k e
  Popped-linked inside last next last_eq next_eq other last_in next_in records head_taken head_kept heads =
      let place = place_of e (lists k) inside in
      let next_same : next ≡ (near old new k e lists rings heads place.before place.after place.is).next = next_eq ∙ block_next old new k e lists rings heads place.before place.after place.is in
      let last_same : last ≡ (near old new k e lists rings heads place.before place.after place.is).last = last_eq ∙ block_last old new k e lists rings heads place.before place.after place.is in
      popped_linked old new k e lists rings heads place.before place.after place.is (λ same. other (next_same ∙ same))
      (subst (λ n. n < length old.records) last_same last_in)
      (subst (λ n. n < length old.records) next_same next_in)
      (records ∙ ap (λ n. linked_blocks old.records n next) last_same ∙ ap (λ n. linked_blocks old.records (near old new k e lists rings heads place.before place.after place.is).last n) next_same)
      (λ h. head_taken h ∙ ap pos next_same) head_kept

  module _ (absent : total lists e ≡ 0) (e_in : e < length old.records) (head_new : head_of new k ≡ pos e) (heads : (j : BlockType) → (j ≡ k → ⊥) → head_of new j ≡ head_of old j) where
    head_is : unsigned_abs (head_of old k) ≡ first_of (lists k)
    head_is = ap unsigned_abs (rings.headed k)

    pub Pushed-alone : unsigned_abs (head_of old k) ≡ 0 → (k ≡ Full → ⊥) → new.records ≡ linked_blocks old.records e e → ListRings new (lists_with lists k (e ∷ lists k))
    Pushed-alone none not_full records = pushed_alone old new k e lists rings absent heads head_new not_full (empty_list lists rings.apart k (sym head_is ∙ none)) e_in records

    pub Pushed-linked : (head last : ℕ) → head ≡ unsigned_abs (head_of old k) → last ≡ unsigned_abs (prev_at old.records head) → ((k ≡ Full) ⊎ (head ≡ 0 → ⊥)) → head < length old.records → last < length old.records → new.records ≡ linked_blocks (linked_blocks old.records last e) e head → ListRings new (lists_with lists k (e ∷ lists k))
    Pushed-linked head last head_eq last_eq some head_in last_in records =
        let head_same : head ≡ first_of (lists k) = head_eq ∙ head_is in
        let some' : (k ≡ Full) ⊎ (0 < length (lists k)) = elim some [ inl full ↦ inl full | inr h ↦ inr (nonempty (lists k) (λ none. h (head_same ∙ none))) ] in
        let gap = gap_of (BlockLink old.records) k (lists k) some' (rings.is_linked k) in
        let last_same : last ≡ gap.0 = last_eq ∙ ap (λ n. unsigned_abs (prev_at old.records n)) head_same ∙ ap unsigned_abs gap.1.into.1 in
        pushed_linked old new k e lists rings absent heads head_new gap.0 gap.1 some' e_in
        (subst (λ n. n < length old.records) last_same last_in)
        (subst (λ n. n < length old.records) head_same head_in)
        (records ∙ ap (λ n. linked_blocks (linked_blocks old.records n e) e head) last_same ∙ ap (λ n. linked_blocks (linked_blocks old.records gap.0 e) e n) head_same)
      where
        nonempty : (xs : List ℕ) → (first_of xs ≡ 0 → ⊥) → 0 < length xs
        nonempty [] h = absurd (h refl)
        nonempty (x ∷ xs) h = omega arith
