-- A span of one pair, or of pairs that go on with one label: its node has one label, or a number alone.
use Rattle.std.proofs.Common.{◌≡◌, ℕ, suc, ◌<◌, ◌≤◌, ◌∙◌, sym, ap, subst, refl, inl, inr, arith, true, false, cond, Some, None, List, [], ◌∷◌, length, get_or, take, drop}
use Rattle.std.proofs.lemmas.List.{take_all}
use Rattle.std.specs.Prelude.{nat_lt, is_some, bit_xor, ℤ}
use Rattle.std.proofs.lemmas.Bool.Decides.{nat_tests}
use Rattle.cedar_model.specs.Tree.{Forest, none, child, Tree, IsSoundBelow}
use Rattle.cedar_model.specs.Queries.{Entry, walk, walk_forest}
use Rattle.cedar_model.specs.Meaning.StandsFor.{labels}
use Rattle.cedar_bulk.specs.Sorted.{entries_by, label_of, run}
use Rattle.cedar_bulk.specs.Spans.{Covers, first_label, GoesOnAlike, IsAlike, IsTreeOfSpan, Lists, Part, entries_behind}
use Rattle.cedar_bulk.proofs.BulkLemmas.Spans.{first_of, lists_none, number_first, walk_some}

-- a tree has an entry
pub tree_some : (d : ℕ) (es : List Entry) (t : Tree) → IsTreeOfSpan d es t → 0 < length es
tree_some d [] t k =
    let w = walk_some t.number t.children k.some k.sound in
    let many : suc (length w.1) ≡ 0 = sym (ap length w.2) ∙ ap length k.walks in
    absurd (omega (arith, many))
tree_some d (e ∷ es) t k = omega arith

-- what is known where the key of a lone entry ends
pub record EndsHere (d : ℕ) (e : Entry) (t : Tree) : Type 0 where
  pub number : t.number ≡ Some e.1
  pub alone : t.children ≡ none

pub ends_here : (d : ℕ) (e : Entry) (t : Tree) → IsTreeOfSpan d (e ∷ []) t → length e.0 ≤ d → EndsHere d e t
ends_here d e t k short =
    let first = number_first d t.number t.children e [] k.walks k.sound in
    let test : nat_lt d (length e.0) ≡ false = grind (arith, nat_tests) in
    let number : t.number ≡ Some e.1 = sym first.0 ∙ ap (λ b. cond b None (Some e.1)) test in
    let nothing : walk_forest t.children ≡ [] = first.1 ∙ ap (λ o. entries_behind d (drop (cond (is_some o) 1 0) (e ∷ []))) number in
    record { number = number; alone = lists_none d t.children (record { walks = nothing; sound = k.sound; ascending = k.ascending }) }

module _ (d : ℕ) (e : Entry) (es : List Entry) (t : Tree) (k : IsTreeOfSpan d (e ∷ es) t) (long : d < length e.0) where
  no_number : t.number ≡ None
  no_number =
      let first = number_first d t.number t.children e es k.walks k.sound in
      let test : nat_lt d (length e.0) ≡ true = grind (arith, nat_tests) in
      sym first.0 ∙ ap (λ b. cond b None (Some e.1)) test

  -- where the first key goes on, all entries are below the labels
  pub lists_on : Lists d (e ∷ es) t.children
  lists_on =
      let first = number_first d t.number t.children e es k.walks k.sound in
      record { walks = first.1 ∙ ap (λ o. entries_behind d (drop (cond (is_some o) 1 0) (e ∷ es))) no_number; sound = k.sound; ascending = k.ascending }

  -- what is known where all go on with one label
  pub record GoesOn : Type 0 where
    pub number : t.number ≡ None
    pub label : labels t.children ≡ label_of d e ∷ []
    pub positive : 0 < label_of d e
    pub covers : (base : ℕ) → Covers base (record { node = bit_xor base (label_of d e); depth = suc d; entries = e ∷ es } ∷ []) t.children none

  pub goes_on : IsAlike d (e ∷ es) → GoesOn
  goes_on alike =
      let all : List Entry = e ∷ es in
      let c = first_of d e es t.children lists_on in
      let whole : run d c.label all ≡ length all = by_case c.label c.same_label c.some c.few alike in
      let nothing : drop (run d c.label all) all ≡ [] = ap (λ n. drop n all) whole ∙ drop_whole all in
      let rest : c.rest ≡ none = lists_none d c.rest (subst (λ xs. Lists d xs c.rest) nothing c.others) in
      let is : t.children ≡ child c.label c.number c.below none = c.is ∙ ap (child c.label c.number c.below) rest in
      let below : walk (record { number = c.number; children = c.below }) ≡ entries_behind (suc d) all = c.walks ∙ ap (λ n. entries_behind (suc d) (take n all)) whole ∙ ap (entries_behind (suc d)) (take_all (length all) all (omega arith)) in
      record {
        number = no_number;
        label = ap labels is ∙ ap (λ l. l ∷ []) (sym c.same_label);
        positive = subst (λ l. 0 < l) (sym c.same_label) (subst IsSoundBelow c.is k.sound).0;
        covers = λ base. subst (λ f. Covers base (record { node = bit_xor base (label_of d e); depth = suc d; entries = all } ∷ []) f none) (sym is) (ap (bit_xor base) c.same_label, below, refl);
      }
    where
      drop_whole : (xs : List Entry) → drop (length xs) xs ≡ []
      drop_whole [] = refl
      drop_whole (x ∷ xs) = drop_whole xs

      by_case : (l : ℕ) → label_of d e ≡ l → 0 < run d l (e ∷ es) → run d l (e ∷ es) ≤ length (e ∷ es) → IsAlike d (e ∷ es) → run d l (e ∷ es) ≡ length (e ∷ es)
      by_case l same some few (inl one) = omega (arith, some, few, one)
      by_case l same some few (inr go) = ap (λ m. run d m (e ∷ es)) (sym same) ∙ go.1

-- what is known where entries go on alike
pub record Alike (d : ℕ) (es : List Entry) (t : Tree) : Type 0 where
  pub number : t.number ≡ None
  pub label : labels t.children ≡ first_label d es ∷ []
  pub positive : 0 < first_label d es
  pub covers : (base : ℕ) → Covers base (record { node = bit_xor base (first_label d es); depth = suc d; entries = es } ∷ []) t.children none

pub alike_below : (d : ℕ) (es : List Entry) (t : Tree) → IsTreeOfSpan d es t → GoesOnAlike d es → Alike d es t
alike_below d [] t k go = absurd go.0
alike_below d (e ∷ es) t k go =
    let o = goes_on d e es t k go.0 (inr go) in
    record { number = o.number; label = o.label; positive = o.positive; covers = o.covers }

-- pairs as an entry and those behind it
module _ {K : Type 0} (bytes : K → List ℕ) where
  pub first_then : (pairs : List (K × ℤ)) (p : K × ℤ) → 0 < length pairs → entries_by bytes pairs ≡ (bytes (get_or pairs 0 p).0, (get_or pairs 0 p).1) ∷ entries_by bytes (drop 1 pairs)
  first_then [] p some = absurd (omega (arith, some))
  first_then (q ∷ pairs) p some = refl

-- a span is what it says
pub covers_same : (base : ℕ) (a b : Part) (f : Forest) → a.node ≡ b.node → a.depth ≡ b.depth → a.entries ≡ b.entries → Covers base (b ∷ []) f none → Covers base (a ∷ []) f none
covers_same base a b f node depth entries covers =
    let same : ◌≡◌ {A = Part} a b =
    ap (λ (n : ℕ). record { node = n; depth = a.depth; entries = a.entries }) node
    ∙ ap (λ (n : ℕ). record { node = b.node; depth = n; entries = a.entries }) depth
    ∙ ap (λ (es : List Entry). record { node = b.node; depth = b.depth; entries = es }) entries in
    subst (λ s. Covers base (s ∷ []) f none) (sym same) covers
