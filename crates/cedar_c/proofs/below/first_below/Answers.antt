use Rattle.std.proofs.Common.{◌≡◌, ◌<◌, ◌∙◌, [], ap, arith, false, inl, inr, length, subst, sym, true, IfOk, List}
use Rattle.std.specs.Cmp.Lexicographic.{slice_cmp}
use Rattle.std.specs.Ordering.{is_lt, nat_cmp}
use Rattle.cedarwood.specs.WellFormed.{tree_of}
use Rattle.cedarwood.specs.Queries.{Entry, node_at, walk}
use Rattle.cedar_walk.proofs.WalkLemmas.Prefixed.{entries_with_node}
use Rattle.cedar_walk.proofs.WalkLemmas.Ranges.{empty_key, some_key}
use Rattle.cedarwood.proofs.RangeLemmas.{range_place, ranged_is}
use Rattle.cedar_c.specs.Below.{FindsNoRoom, following_below, IsPlaceOf}
use Rattle.cedar_c.proofs.BelowLemmas.{all_behind, below_some}
use Rattle.cedar_c.proofs.below.first_below.Goals as goal

pub returns-then-is_empty-clause-place : goal.returns-then-is_empty-clause-place
returns-then-is_empty-clause-place g c =
    let T = g.T.Walked.shown c.args.trie.now in
    let prefix = c.args.prefix.now in
    let left = walk (node_at (tree_of T) prefix) in
    let empty : c.args.behind.now ≡ [] = empty_key c.args.behind.now (sym c.is_empty.ensures ∙ c.if-is_empty.true) in (
      range_place T prefix left c.first_numbered.result c.first_numbered.ensures,
      ranged_is T prefix left c.first_numbered.result c.first_numbered.ensures
          ∙ sym (entries_with_node (tree_of T) prefix c.requires.well_formed.sound)
          ∙ ap (following_below (tree_of T) prefix) (sym empty),
    )

pub returns-then-is_lt-clause-place : goal.returns-then-is_lt-clause-place
returns-then-is_lt-clause-place g c =
    let T = g.T.Walked.shown c.args.trie.now in
    let prefix = c.args.prefix.now in
    let key = c.args.behind.now in
    let left = walk (node_at (tree_of T) prefix) in
    let some : 0 < length key = some_key key (sym c.is_empty.ensures ∙ c.if-is_empty.false) in
    let low : is_lt (slice_cmp nat_cmp key prefix) ≡ true = sym (c.is_lt.ensures ∙ ap is_lt c.cmp.ensures) ∙ c.if-is_lt.true in (
      range_place T prefix left c.first_numbered-then-is_lt.result c.first_numbered-then-is_lt.ensures,
      ranged_is T prefix left c.first_numbered-then-is_lt.result c.first_numbered-then-is_lt.ensures
          ∙ sym (entries_with_node (tree_of T) prefix c.requires.well_formed.sound)
          ∙ all_behind (tree_of T) prefix key low
          ∙ below_some (tree_of T) prefix key some,
    )

pub first_after-requires-clause-ordered : goal.first_after-requires-clause-ordered
first_after-requires-clause-ordered g c =
    let some : 0 < length c.args.behind.now = some_key c.args.behind.now (sym c.is_empty.ensures ∙ c.if-is_empty.false) in
    elim c.requires.ordered [
      | inl empty ↦ absurd (let none = ap length empty in omega (arith, none, some))
      | inr ordered ↦ ordered
    ]

pub first_after-requires-clause-after : goal.first_after-requires-clause-after
first_after-requires-clause-after g c = sym (c.is_lt.ensures ∙ ap is_lt c.cmp.ensures) ∙ c.if-is_lt.false

pub returns-clause-place : goal.returns-clause-place
returns-clause-place g c =
    let T = g.T.Walked.shown c.args.trie.now in
    let some : 0 < length c.args.behind.now = some_key c.args.behind.now (sym c.is_empty.ensures ∙ c.if-is_empty.false) in
    subst (λ (es : List Entry). IfOk c.first_after.result (IsPlaceOf T c.args.prefix.now es)) (below_some (tree_of T) c.args.prefix.now c.args.behind.now some) c.first_after.ensures.place

pub returns-clause-unchanged : goal.returns-clause-unchanged
returns-clause-unchanged g c = λ short.
    let T = g.T.Walked.shown c.args.trie.now in
    let some : 0 < length c.args.behind.now = some_key c.args.behind.now (sym c.is_empty.ensures ∙ c.if-is_empty.false) in
    c.first_after.ensures.unchanged (subst (FindsNoRoom (length c.args.bytes.now)) (sym (below_some (tree_of T) c.args.prefix.now c.args.behind.now some)) short)
