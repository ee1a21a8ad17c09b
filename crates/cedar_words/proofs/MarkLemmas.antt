-- Marks: what a byte says of a step, and what follows of its bytes and its number.
use Rattle.std.proofs.Common.{◌≡◌, ℕ, ◌+◌, ◌-◌, ◌^◌, ◌<◌, ◌≤◌, ◌⊎◌, inl, inr, min, ℤ, pos, unsigned_abs, List, [], ◌∷◌, ◌++◌, length, take, drop, Option, Some, None, MatchOption, refl, sym, ap, subst, ◌∙◌, arith, to_z, w32}
use Rattle.std.proofs.lemmas.List.{get_or_append_left, get_or_push, length_push, take-append-le, take_all}
use Rattle.std.proofs.lemmas.Bool.Decides.{eqb_tells}
use Rattle.std.proofs.lemmas.Int.{to_z_pos}
use Rattle.cedarwood.specs.Tree.{Tree, number_at}
use Rattle.cedarwood.specs.Queries.{front}
use Rattle.cedar_words.specs.Cuts.{price}
use Rattle.cedar_words.specs.Steps.{AreCosts, AreMarks, AreMarksOver, best_of, cost_at, IsMark, mark_at, step_at}
use Rattle.cedar_words.proofs.CutLemmas.{step_is}

-- one byte more
pub marks_more : (t : Tree) (u : ℕ → ℕ) (text costs marks : List ℕ) (cost mark left : ℕ) → 0 < left → length costs ≡ left → length marks ≡ left
    → IsMark (best_of (u (length text - left)) costs (front t (drop (length text - left) text))) mark → AreMarksOver t u text costs marks → AreMarksOver t u text (costs ++ cost ∷ []) (marks ++ mark ∷ [])
marks_more t u text costs marks cost mark left some len same is was k low high = elim (eqb_tells (length marks) k) [
  | inl end ↦
      let here = end.1 in
      let at : left ≡ k = omega (arith, here, same) in
      let all : costs ≡ take k (costs ++ cost ∷ []) = sym (take-append-le k costs (cost ∷ []) (omega (arith, at, len)) ∙ take_all k costs (omega (arith, at, len))) in
      subst (λ m. IsMark (step_at t u text (costs ++ cost ∷ []) k) m) (sym (get_or_push marks mark 0 k here))
      (subst (λ l. IsMark (best_of (u (length text - k)) l (front t (drop (length text - k) text))) mark) all
      (subst (λ n. IsMark (best_of (u (length text - n)) costs (front t (drop (length text - n) text))) mark) at is))
  | inr other ↦
      let differ = other.1 in
      let more = length_push marks mark in
      let below : k < length marks = omega (arith, differ, high, more) in
      let first : take k costs ≡ take k (costs ++ cost ∷ []) = sym (take-append-le k costs (cost ∷ []) (omega (arith, below, same, len))) in
      subst (λ m. IsMark (step_at t u text (costs ++ cost ∷ []) k) m) (sym (get_or_append_left marks (mark ∷ []) 0 k below))
      (subst (λ l. IsMark (best_of (u (length text - k)) l (front t (drop (length text - k) text))) (mark_at marks k)) first (was k low below))
]

-- the same of the lists as they are after it
pub marks_pushed : (t : Tree) (u : ℕ → ℕ) (text costs marks all_costs all_marks : List ℕ) → all_costs ≡ costs → all_marks ≡ marks → AreMarksOver t u text costs marks → AreMarksOver t u text all_costs all_marks
marks_pushed t u text costs marks all_costs all_marks is are was = subst (λ l. AreMarksOver t u text l all_marks) (sym is) (subst (λ l. AreMarksOver t u text costs l) (sym are) was)

-- 0 says that a step goes over one byte without a number
byte_is : (t : Tree) (rest : List ℕ) (value : Option ℤ) (len mark : ℕ) → 0 < len → mark ≡ 0 → (mark ≡ 255) ⊎ MatchOption value (mark ≡ 0) (λ v. (mark ≡ len) × (v ≡ pos (unsigned_abs v)) × (unsigned_abs v < 2 ^ 31))
    → MatchOption value (len ≡ 1) (λ v. number_at t (take len rest) ≡ Some v) → (1 ≡ len) × (◌≡◌ {A = Option ℤ} None value)
byte_is t rest value len mark some zero (inl never) piece = absurd (omega (arith, zero, never))
byte_is t rest None len mark some zero (inr told) piece = (sym piece, refl)
byte_is t rest (Some v) len mark some zero (inr told) piece = let bytes = told.0 in absurd (omega (arith, some, zero, bytes))

pub told_byte : (t : Tree) (u : ℕ → ℕ) (text costs : List ℕ) → AreCosts t u text costs → (left mark : ℕ) → 0 < left → left ≤ length text → IsMark (step_at t u text costs left) mark → mark ≡ 0
    → (1 ≡ (step_at t u text costs left).len) × (◌≡◌ {A = Option ℤ} None (step_at t u text costs left).value)
told_byte t u text costs are left mark some within is zero =
    let at = step_is t u text costs are left some within in
    byte_is t (drop (length text - left) text) (step_at t u text costs left).value (step_at t u text costs left).len mark at.some zero is at.piece

-- what a mark of a key says of a step over so many bytes, where they cost less than what all great sums count as
pub record IsToldKey (costs : List ℕ) (left len : ℕ) (value : Option ℤ) (mark : ℕ) : Type 0 where
  pub within : mark ≤ left
  pub bytes : mark ≡ len
  pub less : cost_at costs left < 2 ^ 64 - 1 → cost_at costs (left - mark) ≤ cost_at costs left
  pub small : cost_at costs left < 2 ^ 64 - 1 → cost_at costs left - cost_at costs (left - mark) < 2 ^ 31
  pub number : cost_at costs left < 2 ^ 64 - 1 → Some (pos (cost_at costs left - cost_at costs (left - mark))) ≡ value

key_is : (costs : List ℕ) (left len mark u : ℕ) (value : Option ℤ) → 0 < mark → mark < 255 → len ≤ left → (mark ≡ 255) ⊎ MatchOption value (mark ≡ 0) (λ v. (mark ≡ len) × (v ≡ pos (unsigned_abs v)) × (unsigned_abs v < 2 ^ 31))
    → cost_at costs left ≡ min (price u value + cost_at costs (left - len)) (2 ^ 64 - 1) → IsToldKey costs left len value mark
key_is costs left len mark u value some low inside (inl never) cost = absurd (omega (arith, low, never))
key_is costs left len mark u None some low inside (inr told) cost = absurd (omega (arith, some, told))
key_is costs left len mark u (Some v) some low inside (inr told) cost =
    let same : mark ≡ len = told.0 in
    let own : cost_at costs left ≡ min (unsigned_abs v + cost_at costs (left - mark)) (2 ^ 64 - 1) = subst (λ n. cost_at costs left ≡ min (unsigned_abs v + cost_at costs (left - n)) (2 ^ 64 - 1)) (sym same) cost in
    let bound : unsigned_abs v < 2 ^ 31 = told.2 in
    record {
      within = omega (arith, inside, same);
      bytes = same;
      less = λ short. omega (arith, own, short);
      small = λ short. omega (arith, own, short, bound);
      number = λ short. let more : cost_at costs left - cost_at costs (left - mark) ≡ unsigned_abs v = omega (arith, own, short) in ap (λ (x : ℤ). Some x) (ap pos more ∙ sym told.1);
    }

pub told_key : (t : Tree) (u : ℕ → ℕ) (text costs : List ℕ) → AreCosts t u text costs → (left mark : ℕ) → 0 < left → left ≤ length text → IsMark (step_at t u text costs left) mark → 0 < mark → mark < 255
    → IsToldKey costs left (step_at t u text costs left).len (step_at t u text costs left).value mark
told_key t u text costs are left mark some within is key low =
    let at = step_is t u text costs are left some within in
    key_is costs left (step_at t u text costs left).len mark (u (length text - left)) (step_at t u text costs left).value key low at.within is at.cost

-- the same of the mark at a position of a text
pub key_at : (t : Tree) (u : ℕ → ℕ) (text costs marks : List ℕ) (place mark : ℕ) → place < length text → AreCosts t u text costs → AreMarks t u text costs marks → mark ≡ mark_at marks (length text - place)
    → (mark_at marks (length text - place) ≡ 0 → ⊥) → mark_at marks (length text - place) < 255
    → IsToldKey costs (length text - place) (step_at t u text costs (length text - place)).len (step_at t u text costs (length text - place)).value mark
key_at t u text costs marks place mark within are told same some low =
    let left = length text - place in
    let as_many = told.0 in
    let is : IsMark (step_at t u text costs left) mark = subst (λ m. IsMark (step_at t u text costs left) m) (sym same) (told.1 left (omega (arith, within)) (omega (arith, within, as_many))) in
    told_key t u text costs are left mark (omega (arith, within)) (omega arith) is (omega (arith, some, same)) (omega (arith, low, same))

pub byte_at : (t : Tree) (u : ℕ → ℕ) (text costs marks : List ℕ) (place : ℕ) → place < length text → AreCosts t u text costs → AreMarks t u text costs marks → mark_at marks (length text - place) ≡ 0
    → (1 ≡ (step_at t u text costs (length text - place)).len) × (◌≡◌ {A = Option ℤ} None (step_at t u text costs (length text - place)).value)
byte_at t u text costs marks place within are told zero =
    let left = length text - place in
    let as_many = told.0 in
    told_byte t u text costs are left (mark_at marks left) (omega (arith, within)) (omega arith) (told.1 left (omega (arith, within)) (omega (arith, within, as_many))) zero

-- a number that a signed one of 32 bits can be is what it is cast to
pub cast_is : (n : ℕ) (value : Option ℤ) → n < 2 ^ 31 → Some (pos n) ≡ value → Some (to_z w32 n) ≡ value
cast_is n value small is = ap (λ (x : ℤ). Some x) (to_z_pos w32 n small) ∙ is
