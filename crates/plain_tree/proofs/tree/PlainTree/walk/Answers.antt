use Rattle.std.proofs.Common.{ap, ◌∙◌}
use Rattle.plain_tree.specs.Listing.{vector_entries}
use Rattle.plain_tree.proofs.ListingLemmas.{walk_whole}
use Rattle.plain_tree.proofs.tree.PlainTree.walk.Goals as goal

pub returns : goal.returns
returns g c =
    c.in_ok-walk_into.ensures ∙ walk_whole (vector_entries c.new-entries.result.items) c.self.inside.root.1 c.args.self.now (ap vector_entries c.new-entries.ensures.items) c.self.view_is
