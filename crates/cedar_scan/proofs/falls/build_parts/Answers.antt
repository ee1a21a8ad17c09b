use Rattle.std.proofs.Common.{◌≡◌, ◌∙◌, ◌++◌, List, ap, drop, length, take, subst, sym}
use Rattle.cedar_scan.specs.Automata.{AreByDepth, AreLaid, AreNodes, AreSlotsWithin, IsGoto, IsPlacing}
use Rattle.cedar_scan.specs.Falls.{AreFalls}
use Rattle.cedar_scan.specs.Places.{placed_by}
use Rattle.cedar_scan.specs.declared.falls.Fall.{Fall}
use Rattle.cedar_scan.proofs.LinkLemmas.{first_links}
use Rattle.cedar_scan.proofs.ListLemmas.{whole_front}
use Rattle.cedar_scan.proofs.PlacingLemmas.{reached_keywords}
use Rattle.cedar_scan.proofs.falls.build_parts.Goals as goal

pub place_nodes-requires-clause-placed : goal.place_nodes-requires-clause-placed
place_nodes-requires-clause-placed g c =
    let t = g.T.Placed.tree c.args.trie.now in
    let own = g.T.Placed.slot_of c.args.trie.now in
    subst (λ ps. IsPlacing t (placed_by ps own)) (sym c.deref-2.ensures.value) c.in_ok-placed.ensures.placing

pub place_nodes-requires-clause-nodes : goal.place_nodes-requires-clause-nodes
place_nodes-requires-clause-nodes g c =
    let t = g.T.Placed.tree c.args.trie.now in
    let own = g.T.Placed.slot_of c.args.trie.now in
    subst (λ ps. AreNodes t (placed_by ps own) c.deref-3.result.now) (sym c.deref-2.ensures.value)
    (subst (AreNodes t (placed_by c.in_ok-placed.placed.places.items own)) (sym c.deref-3.ensures.value) c.in_ok-placed.ensures.listed)

pub add_falls-requires-clause-placed : goal.add_falls-requires-clause-placed
add_falls-requires-clause-placed g c =
    let t = g.T.Placed.tree c.args.trie.now in
    let own = g.T.Placed.slot_of c.args.trie.now in
    subst (λ ps. IsPlacing t (placed_by ps own)) (sym c.deref-4.ensures.value) c.in_ok-placed.ensures.placing

pub add_falls-requires-clause-nodes : goal.add_falls-requires-clause-nodes
add_falls-requires-clause-nodes g c =
    let t = g.T.Placed.tree c.args.trie.now in
    let own = g.T.Placed.slot_of c.args.trie.now in
    subst (λ ps. AreNodes t (placed_by ps own) c.deref-5.result.now) (sym c.deref-4.ensures.value)
    (subst (AreNodes t (placed_by c.in_ok-placed.placed.places.items own)) (sym c.deref-5.ensures.value) c.in_ok-placed.ensures.listed)

pub add_falls-requires-clause-sorted : goal.add_falls-requires-clause-sorted
add_falls-requires-clause-sorted g c = subst AreByDepth (sym c.deref-5.ensures.value) c.in_ok-placed.ensures.sorted

pub add_falls-requires-clause-goto : goal.add_falls-requires-clause-goto
add_falls-requires-clause-goto g c =
    let t = g.T.Placed.tree c.args.trie.now in
    let own = g.T.Placed.slot_of c.args.trie.now in
    let slots = placed_by c.in_ok-placed.placed.places.items own in
    let nodes = c.in_ok-placed.placed.nodes.items in
    let size : length c.place_nodes.new.states ≡ c.slots_of-slots.result = c.place_nodes.auto.states ∙ c.deref_mut.ensures.len ∙ c.in_ok-states.ensures.len in
    let same : c.deref-6.result.now ≡ c.place_nodes.new.states = c.deref-6.ensures.value ∙ whole_front _ c.place_nodes.new.states _ (sym (c.place_nodes.auto.states ∙ c.deref_mut.ensures.len)) in
    let laid : AreLaid t slots nodes (length nodes) c.place_nodes.new.states =
    subst (λ ps. AreLaid t (placed_by ps own) nodes (length nodes) c.place_nodes.new.states) c.deref-2.ensures.value
    (subst (λ ns. AreLaid t (placed_by c.deref-2.result.now own) ns (length ns) c.place_nodes.new.states) c.deref-3.ensures.value c.place_nodes.ensures) in
    subst (λ ps. IsGoto t (placed_by ps own) c.deref-6.result.now) (sym c.deref-4.ensures.value)
    (subst (IsGoto t slots) (sym same)
    (first_links t slots c.in_ok-placed.ensures.placing nodes c.in_ok-placed.ensures.listed c.slots_of-slots.result c.slots_of-slots.ensures.some
    (subst (AreSlotsWithin c.slots_of-slots.result) c.deref.ensures.value c.slots_of-slots.ensures.within) c.place_nodes.new.states size laid).goto)

pub returns : goal.returns
returns g c =
    let t = g.T.Placed.tree c.args.trie.now in
    let own = g.T.Placed.slot_of c.args.trie.now in
    let slots = placed_by c.in_ok-placed.placed.places.items own in
    let nodes = c.in_ok-placed.placed.nodes.items in
    let size : length c.place_nodes.new.states ≡ c.slots_of-slots.result = c.place_nodes.auto.states ∙ c.deref_mut.ensures.len ∙ c.in_ok-states.ensures.len in
    let same_states : take c.in_ok-states.states.len (c.place_nodes.new.states ++ drop (length c.place_nodes.new.states) c.in_ok-states.states.items) ≡ c.place_nodes.new.states =
    whole_front c.in_ok-states.states.len c.place_nodes.new.states (drop (length c.place_nodes.new.states) c.in_ok-states.states.items) (sym (c.place_nodes.auto.states ∙ c.deref_mut.ensures.len)) in
    let same_falls : take c.in_ok-falls.falls.len (c.add_falls.new.falls ++ drop (length c.add_falls.new.falls) c.in_ok-falls.falls.items) ≡ c.add_falls.new.falls =
    whole_front c.in_ok-falls.falls.len c.add_falls.new.falls (drop (length c.add_falls.new.falls) c.in_ok-falls.falls.items) (sym (c.add_falls.auto.falls ∙ c.deref_mut-2.ensures.len)) in
    let many : length c.add_falls.new.falls ≡ c.slots_of-slots.result = c.add_falls.auto.falls ∙ c.deref_mut-2.ensures.len ∙ c.in_ok-falls.ensures.len in
    let laid : AreLaid t slots nodes (length nodes) c.place_nodes.new.states =
    subst (λ ps. AreLaid t (placed_by ps own) nodes (length nodes) c.place_nodes.new.states) c.deref-2.ensures.value
    (subst (λ ns. AreLaid t (placed_by c.deref-2.result.now own) ns (length ns) c.place_nodes.new.states) c.deref-3.ensures.value c.place_nodes.ensures) in
    let goto : IsGoto t slots c.place_nodes.new.states =
    (first_links t slots c.in_ok-placed.ensures.placing nodes c.in_ok-placed.ensures.listed c.slots_of-slots.result c.slots_of-slots.ensures.some
    (subst (AreSlotsWithin c.slots_of-slots.result) c.deref.ensures.value c.slots_of-slots.ensures.within) c.place_nodes.new.states size laid).goto in
    let falls : AreFalls t slots c.add_falls.new.falls c.add_falls.new.popped.items = subst (λ ps. AreFalls t (placed_by ps own) c.add_falls.new.falls c.add_falls.new.popped.items) c.deref-4.ensures.value c.in_ok-add_falls.ensures in
    reached_keywords t slots _ _ c.add_falls.new.popped.items (record {
      placing = c.in_ok-placed.ensures.placing;
      goto = subst (IsGoto t slots) (sym same_states) goto;
      size = ap length same_falls ∙ many ∙ sym size ∙ sym (ap length same_states);
      each = subst (λ (f : List Fall). AreFalls t slots f c.add_falls.new.popped.items) (sym same_falls) falls;
    })
