use Rattle.std.proofs.Common.{◌≡◌, ◌∙◌, ap, length}
use Rattle.cedar_tree.specs.Queries.{walk}
use Rattle.cedarwood.specs.Dictionary.{Dictionary}
use Rattle.cedarwood.proofs.MemoryLemmas.{table_fits}
use Rattle.cedarwood.proofs.figures.TrieDebug.fmt.Goals as goal

pub returns : goal.returns
returns g c =
    let keys : c.entries-entries.result ≡ length (walk c.args.self.now.state.tree) =
    c.entries-entries.ensures ∙ (c.self.invariant.entries ∙ ap (λ (d : Dictionary). length (walk d.state.tree)) c.self.view_is) in
    let slots : c.size-node_slots.result ≡ c.args.self.now.size = c.size-node_slots.ensures ∙ ap (λ (d : Dictionary). d.size) c.self.view_is in
    let order : c.ordered-ordered.result ≡ c.args.self.now.state.ordered = c.ordered-ordered.ensures ∙ ap (λ (d : Dictionary). d.state.ordered) c.self.view_is in
    let written = c.write.ensures.writes in
    rw (← keys) (rw (← slots) (rw (← order) (record { writes = written })))

pub entries-entries-requires : goal.entries-entries-requires
entries-entries-requires g c = search table_fits

pub size-node_slots-requires : goal.size-node_slots-requires
size-node_slots-requires g c = search table_fits

pub ordered-ordered-requires : goal.ordered-ordered-requires
ordered-ordered-requires g c = search table_fits
