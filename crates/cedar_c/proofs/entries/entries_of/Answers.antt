use Rattle.std.proofs.Common.{◌≡◌, ◌<◌, true, [], ◌∙◌, ap, inl, inr, length, subst, sym}
use Rattle.cedarwood.specs.WellFormed.{tree_of}
use Rattle.cedarwood.specs.Queries.{node_at, walk}
use Rattle.cedar_walk.specs.Ranges.{entries_with}
use Rattle.cedar_walk.proofs.WalkLemmas.Prefixed.{entries_with_node}
use Rattle.cedar_walk.proofs.WalkLemmas.Ranges.{empty_key, some_key}
use Rattle.cedar_walk.proofs.WalkLemmas.Since.{behind_none}
use Rattle.cedarwood.specs.RangeWalks.{entries_left}
use Rattle.cedarwood.proofs.RangeLemmas.{ranged_is}
use Rattle.cedar_c.specs.Entries.{entries_behind_key, following, TellsPage}
use Rattle.cedar_c.proofs.EntryLemmas.{following_behind}
use Rattle.cedar_c.proofs.entries.entries_of.Goals as goal

pub returns-then-is_empty : goal.returns-then-is_empty
returns-then-is_empty g c =
    let s = c.args.trie.now.state in
    let T = c.args.trie.now.table in
    let prefix = c.args.prefix.now in
    let on = c.stands_on_its_table.ensures in
    let first = c.first_numbered-first.result in
    let empty : c.args.behind.now ≡ [] = empty_key c.args.behind.now (sym c.is_empty.ensures ∙ c.if-is_empty.true) in
    let left : entries_left T prefix first ≡ following s.tree prefix c.args.behind.now =
    ranged_is T prefix (walk (node_at (tree_of T) prefix)) first c.first_numbered-first.ensures
    ∙ sym (entries_with_node (tree_of T) prefix on.formed.sound)
    ∙ ap (λ x. entries_with x.tree prefix) (sym on.state)
    ∙ ap (following s.tree prefix) (sym empty) in
    let told = c.tell_page.new in
    record {
      page = λ goes. subst (λ es. TellsPage prefix es c.args.found.now told.found c.args.keys.now told.keys c.args.count.now told.count c.args.need.now told.need c.tell_page.result) left c.tell_page.ensures;
      unordered = λ stops. absurd (stops (inl empty));
    }

pub returns : goal.returns
returns g c =
    let s = c.args.trie.now.state in
    let T = c.args.trie.now.table in
    let prefix = c.args.prefix.now in
    let key = c.args.behind.now in
    let on = c.stands_on_its_table.ensures in
    let first = c.first_behind-first.result in
    let ordered : s.ordered ≡ true = sym c.is_ordered.ensures ∙ c.if-not-is_ordered.false in
    let some : 0 < length key = some_key key (sym c.is_empty.ensures ∙ c.if-is_empty.false) in
    let left : entries_left T [] first ≡ following s.tree prefix key =
    ranged_is T [] (entries_behind_key (tree_of T) key) first c.first_behind-first.ensures
    ∙ sym (behind_none (entries_behind_key (tree_of T) key))
    ∙ ap (λ x. entries_behind_key x.tree key) (sym on.state)
    ∙ following_behind s.tree prefix key some in
    let told = c.tell_page-2.new in
    record {
      page = λ goes. subst (λ es. TellsPage prefix es c.args.found.now told.found c.args.keys.now told.keys c.args.count.now told.count c.args.need.now told.need c.tell_page-2.result) left c.tell_page-2.ensures;
      unordered = λ stops. absurd (stops (inr ordered));
    }
