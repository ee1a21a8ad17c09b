use Rattle.std.proofs.Common.{ap, ◌∙◌}
use Rattle.plain_tree.specs.Listing.{paths_of}
use Rattle.plain_tree.proofs.ListingLemmas.{prefixes_whole}
use Rattle.plain_tree.proofs.tree.PlainTree.prefixes.Goals as goal

pub returns : goal.returns
returns g c =
    c.in_ok-prefixes_into.ensures ∙ prefixes_whole (paths_of c.new-paths.result.items) c.self.inside.root.1 c.args.self.now (ap paths_of c.new-paths.ensures.items) c.self.view_is
