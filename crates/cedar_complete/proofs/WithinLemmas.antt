-- The entries of a dictionary that are in a range, as its own walks give them.
use Rattle.std.proofs.Common.{◌≡◌, ℕ, ℤ, true, List, ◌∷◌, [], None, Option, Some, MatchOption, ◌&&◌, sym}
use Rattle.std.specs.Prelude.{filter}
use Rattle.std.specs.Cmp.Lexicographic.{slice_cmp}
use Rattle.std.specs.Ordering.{is_ge, is_lt, nat_cmp}
use Rattle.cedar_tree.specs.Queries.{Entry, walk}
use Rattle.cedar_tree.specs.Tree.{IsAscending, IsSound, Tree}
use Rattle.cedar_tree.proofs.EntryLemmas.Keys.{walk_keys}
use Rattle.cedar_tree.proofs.WalkLemmas.{walk_ascends}
use Rattle.key_ranges.specs.Spans.{entries_within}
use Rattle.key_ranges.proofs.EntryRangeLemmas.{filter_twice, same_tests}
use Rattle.key_ranges.proofs.SpanLemmas.{and_true}
use Rattle.last_entries.specs.Nearness.{AscendByKeys, IsFirstOf}

-- the entries of a sound tree whose labels ascend
pub walk_listed : (t : Tree) → IsSound t → IsAscending t.children → AscendByKeys (walk t)
walk_listed t sound ascends = (walk_ascends t ascends, walk_keys t sound)

-- the entries between two ends are those in a range, and so are those from one on
pub between_is : (t : Tree) (from to : List ℕ) → filter (λ e. is_lt (slice_cmp nat_cmp e.0 to)) (filter (λ e. is_ge (slice_cmp nat_cmp e.0 from)) (walk t)) ≡ entries_within t (record { from = from; to = Some to })
between_is t from to = sym (filter_twice (λ w. is_ge (slice_cmp nat_cmp w from)) (λ w. is_lt (slice_cmp nat_cmp w to)) (walk t))

pub since_is : (t : Tree) (from : List ℕ) → filter (λ e. is_ge (slice_cmp nat_cmp e.0 from)) (walk t) ≡ entries_within t (record { from = from; to = None })
since_is t from = same_tests (λ w. is_ge (slice_cmp nat_cmp w from)) (λ w. is_ge (slice_cmp nat_cmp w from) && true) (walk t) (λ w. sym (and_true (is_ge (slice_cmp nat_cmp w from))))

-- what a walk gives next is its first entry
pub first_of : (es : List Entry) (key : List ℕ) (found : Option ℤ) (later : List Entry) → MatchOption found ((es ≡ []) × (later ≡ [])) (λ value. es ≡ (key, value) ∷ later) → IsFirstOf es key found
first_of es key None later is = is.0
first_of es key (Some value) later is = (later, is)
