-- The lines of a list without faults, and the pairs that they store.
use Rattle.std.proofs.Common.{◌≡◌, ◌<◌, ◌+◌, ◌-◌, zero, suc, take, drop, ℕ, List, [], ◌∷◌, ◌++◌, true, false, ◌&&◌, ◌==◌, None, cond, refl, sym, ap, ◌∙◌, arith, length, get_or}
use Rattle.std.specs.Prelude.{Ok}
use Rattle.std.specs.Io.BufRead.{drop_through, take_through}
use Rattle.hex.specs.Hex.{decode_sized}
use Rattle.cedarwood.specs.Queries.{Entry, asc}
use Rattle.cedarwood.specs.State.{State, new_state, after_put}
use Rattle.std.proofs.lemmas.List.{map-append}
use Rattle.cedarwood.specs.Words.{entries_of, LayoutKind, Pair}
use Rattle.cedarwood.specs.Builds.{all_stored}
use Rattle.cedarwood.specs.Dictionary.{Dictionary}
use Rattle.cedarwood.specs.Fault.{fault}
use Rattle.cedarwood.specs.Making.{IsSorted, IsSortedBuild}
use Rattle.cedarwood.specs.SortedInput.{fault_behind, fault_from, fault_of_order}
use Rattle.cedarwood.specs.declared.builder.CedarBuilder.{CedarBuilder}
use Rattle.std.specs.Cmp.Lexicographic.{slice_cmp}
use Rattle.std.specs.Ordering.{nat_cmp}
use Rattle.word_lists.specs.Reading.{bytes_behind, first_read, named_of, read_as}
use Rattle.word_lists.specs.Stored.{line_stored, lines_stored, pairs_stored, stored_by}
use Rattle.word_lists.specs.Texts.{body_of}
use Rattle.word_lists.proofs.ListedLines.{stored_push}
use Rattle.cedarwood.proofs.FaultLemmas.{fault_free, key_part}

-- ---- a word without a backslash

first_plain : (b : ℕ) (text : List ℕ) → (b == 92) ≡ false → first_read (b ∷ text) ≡ (b, 1)
first_plain b [] h = refl
first_plain b (x ∷ []) h = refl
first_plain b (x ∷ (high ∷ [])) h = refl
first_plain b (x ∷ (high ∷ (low ∷ rest))) h = ap (λ t. cond (t && (x == 120)) (named_of (decode_sized (high ∷ low ∷ []) 1)) (b, 1)) h

-- represents itself
pub read_plain : (text : List ℕ) → ((i : ℕ) → i < length text → (get_or text i 0 == 92) ≡ false) → read_as text ≡ text
read_plain [] h = refl
read_plain (b ∷ text) h =
    ap (λ (p : ℕ × ℕ). p.0 ∷ bytes_behind (p.1 - 1) text) (first_plain b text (h 0 (omega arith)))
    ∙ ap (λ l. b ∷ l) (read_plain text (λ i low. h (suc i) (omega (arith, low))))

-- ---- a line

-- ---- pairs

pub pairs-append : (s : State) (a b : List Entry) → pairs_stored s (a ++ b) ≡ pairs_stored (pairs_stored s a) b
pairs-append s [] b = refl
pairs-append s (e ∷ a) b = pairs-append (stored_by (fault e.0 e.1) s e.0 e.1) a b

-- the pairs of some lines, and of one more
pub pairs_step : (s : State) (number : ℕ) (came : List (List ℕ)) (line body : List ℕ) (before after : List Entry) → number ≡ 1 + length came → body ≡ body_of line
    → lines_stored s 1 came ≡ pairs_stored s before → line_stored (pairs_stored s before) number body ≡ pairs_stored s after
    → lines_stored s 1 (came ++ line ∷ []) ≡ pairs_stored s after
pairs_step s number came line body before after at text so_far step =
    stored_push s 1 came line ∙ ap (λ x. line_stored x (1 + length came) (body_of line)) so_far ∙ ap (λ b. line_stored (pairs_stored s before) (1 + length came) b) (sym text)
    ∙ ap (λ k. line_stored (pairs_stored s before) k body) (sym at) ∙ step

-- a line whose pair is known, behind those of other lines
pub pair_pushed : (s : State) (number : ℕ) (line : List ℕ) (items after : List Pair) (pair : Pair) → after ≡ items ++ pair ∷ []
    → ((t : State) → line_stored t number line ≡ stored_by (fault pair.0.now pair.1) t pair.0.now pair.1)
    → line_stored (pairs_stored s (entries_of items)) number line ≡ pairs_stored s (entries_of after)
pair_pushed s number line items after pair pushed stores =
    stores (pairs_stored s (entries_of items))
    ∙ sym (ap (λ l. pairs_stored s (entries_of l)) pushed ∙ ap (pairs_stored s) (map-append (λ (p : Pair). (p.0.now, p.1)) items (pair ∷ []))
    ∙ pairs-append s (entries_of items) ((pair.0.now, pair.1) ∷ []))

-- ---- a sorted build

-- pairs of which none has a fault are all stored
stored_all : (s : State) (index : ℕ) (before : List ℕ) (es : List Entry) → fault_from index before es ≡ None → pairs_stored s es ≡ all_stored s es
stored_all s index before [] h = refl
stored_all s index before (e ∷ es) h =
    let p = key_part (fault_behind index before e.0 e.1) (fault_from (index + 1) e.0 es) h in
    let q = key_part (fault e.0 e.1) (fault_of_order index (slice_cmp nat_cmp before e.0)) p.0 in
    ap (λ f. pairs_stored (stored_by f s e.0 e.1) es) q.0 ∙ stored_all (after_put s e.0 e.1) (index + 1) e.0 es p.1

-- a sorted build of the pairs of some lines leaves what these store
pub built_so : (layout : LayoutKind) (slots : ℕ) (settings : CedarBuilder) (pairs : List Entry) (d : Dictionary) (lines : List (List ℕ))
    → IsSortedBuild layout slots settings pairs (Ok d) → settings.ordered ≡ true → ((s : State) → lines_stored s 1 lines ≡ pairs_stored s pairs)
    → all_stored new_state pairs ≡ record { tree = asc pairs; ordered = true } → d.state ≡ lines_stored new_state 1 lines
built_so layout slots settings pairs d lines built is same law =
    let sorted : IsSorted layout settings pairs d = built.sorted in
    let fine = fault_free (fault_from 0 [] pairs) d built.faulty in
    let state : d.state ≡ record { tree = asc pairs; ordered = true } = λ k. record { tree = sorted.tree k; ordered = (sorted.ordered ∙ is) k } in
    state ∙ sym law ∙ sym (stored_all new_state 0 [] pairs fine) ∙ sym (same new_state)

-- ---- up to a byte 10

-- a text without one
pub through_none : (text : List ℕ) → ((k : ℕ) → k < length text → (get_or text k 0 == 10) ≡ false) → (take_through 10 text ≡ text) × (drop_through 10 text ≡ [])
through_none [] h = (refl, refl)
through_none (b ∷ text) h =
    let ih = through_none text (λ k low. h (suc k) (omega (arith, low))) in
    let first : (b == 10) ≡ false = h 0 (omega arith) in
    (ap (λ t. cond t (b ∷ []) (b ∷ take_through 10 text)) first ∙ ap (λ l. b ∷ l) ih.0, ap (λ t. cond t text (drop_through 10 text)) first ∙ ih.1)

-- and one in which the first is known
pub through_at : (text : List ℕ) (at : ℕ) → at < length text → ((k : ℕ) → k < at → (get_or text k 0 == 10) ≡ false) → (get_or text at 0 == 10) ≡ true
    → (take (suc at) text ≡ take_through 10 text) × (drop (suc at) text ≡ drop_through 10 text)
through_at [] at within before is = absurd (omega (arith, within))
through_at (b ∷ text) zero within before is =
    (sym (ap (λ t. cond t (b ∷ []) (b ∷ take_through 10 text)) is), sym (ap (λ t. cond t text (drop_through 10 text)) is))
through_at (b ∷ text) (suc at) within before is =
    let ih = through_at text at (omega (arith, within)) (λ k low. before (suc k) (omega (arith, low))) is in
    let first : (b == 10) ≡ false = before 0 (omega arith) in
    (ap (λ l. b ∷ l) ih.0 ∙ sym (ap (λ t. cond t (b ∷ []) (b ∷ take_through 10 text)) first), ih.1 ∙ sym (ap (λ t. cond t text (drop_through 10 text)) first))

pub one_suc : (n : ℕ) → n + 1 ≡ suc n
one_suc n = omega arith
