use Rattle.std.proofs.Common.{◌≡◌, ◌∙◌, ◌++◌, ◌∷◌, [], List, drop, length, subst, sym, take}
use Rattle.cedar_scan.specs.Automata.{AreByDepth, AreLaid, AreLinkedFirst, AreNodes, AreSlotsWithin, IsAutomaton, IsPlacing, slot_of_path}
use Rattle.cedar_scan.specs.Listed.{no_key}
use Rattle.cedar_scan.specs.Places.{placed_by}
use Rattle.cedar_scan.specs.declared.state.ListedKey.{ListedKey}
use Rattle.cedar_scan.proofs.LinkLemmas.{first_links}
use Rattle.cedar_scan.proofs.ListLemmas.{whole_front}
use Rattle.cedar_scan.proofs.PlacingLemmas.{reached_automaton}
use Rattle.cedar_scan.proofs.build.build_with.Goals as goal

pub place_nodes-requires-clause-placed : goal.place_nodes-requires-clause-placed
place_nodes-requires-clause-placed g c =
    let t = g.T.Placed.tree c.args.trie.now in
    let own = g.T.Placed.slot_of c.args.trie.now in
    subst (λ ps. IsPlacing t (placed_by ps own)) (sym c.deref-2.ensures.value) c.in_ok-placed.ensures.placing

pub place_nodes-requires-clause-nodes : goal.place_nodes-requires-clause-nodes
place_nodes-requires-clause-nodes g c =
    let t = g.T.Placed.tree c.args.trie.now in
    let own = g.T.Placed.slot_of c.args.trie.now in
    subst (λ ps. AreNodes t (placed_by ps own) c.deref-3.result.now) (sym c.deref-2.ensures.value)
    (subst (AreNodes t (placed_by c.in_ok-placed.placed.places.items own)) (sym c.deref-3.ensures.value) c.in_ok-placed.ensures.listed)

pub link_nodes-requires-clause-placed : goal.link_nodes-requires-clause-placed
link_nodes-requires-clause-placed g c =
    let t = g.T.Placed.tree c.args.trie.now in
    let own = g.T.Placed.slot_of c.args.trie.now in
    subst (λ ps. IsPlacing t (placed_by ps own)) (sym c.deref-5.ensures.value) c.in_ok-placed.ensures.placing

pub link_nodes-requires-clause-nodes : goal.link_nodes-requires-clause-nodes
link_nodes-requires-clause-nodes g c =
    let t = g.T.Placed.tree c.args.trie.now in
    let own = g.T.Placed.slot_of c.args.trie.now in
    subst (λ ps. AreNodes t (placed_by ps own) c.deref-6.result.now) (sym c.deref-5.ensures.value)
    (subst (AreNodes t (placed_by c.in_ok-placed.placed.places.items own)) (sym c.deref-6.ensures.value) c.in_ok-placed.ensures.listed)

pub link_nodes-requires-clause-sorted : goal.link_nodes-requires-clause-sorted
link_nodes-requires-clause-sorted g c = subst AreByDepth (sym c.deref-6.ensures.value) c.in_ok-placed.ensures.sorted

pub link_nodes-requires-clause-first : goal.link_nodes-requires-clause-first
link_nodes-requires-clause-first g c =
    let t = g.T.Placed.tree c.args.trie.now in
    let own = g.T.Placed.slot_of c.args.trie.now in
    let slots = placed_by c.in_ok-placed.placed.places.items own in
    let nodes = c.in_ok-placed.placed.nodes.items in
    let size : length c.place_nodes.new.states ≡ c.slots_of.result = c.place_nodes.auto.states ∙ c.deref_mut.ensures.len ∙ c.in_ok-states.ensures.len in
    let same : c.deref_mut-2.result.now ≡ c.place_nodes.new.states = c.deref_mut-2.ensures.value ∙ whole_front _ c.place_nodes.new.states _ (sym (c.place_nodes.auto.states ∙ c.deref_mut.ensures.len)) in
    let laid : AreLaid t slots nodes (length nodes) c.place_nodes.new.states =
    subst (λ ps. AreLaid t (placed_by ps own) nodes (length nodes) c.place_nodes.new.states) c.deref-2.ensures.value
    (subst (λ ns. AreLaid t (placed_by c.deref-2.result.now own) ns (length ns) c.place_nodes.new.states) c.deref-3.ensures.value c.place_nodes.ensures) in
    subst (λ (ks : List ListedKey). AreLinkedFirst t (placed_by c.deref-5.result.now own) c.deref-6.result.now 0 c.deref_mut-2.result.now ks) (sym c.in_ok-keys.ensures)
    (subst (λ ps. AreLinkedFirst t (placed_by ps own) c.deref-6.result.now 0 c.deref_mut-2.result.now (no_key ∷ [])) (sym c.deref-5.ensures.value)
    (subst (λ ns. AreLinkedFirst t slots ns 0 c.deref_mut-2.result.now (no_key ∷ [])) (sym c.deref-6.ensures.value)
    (subst (λ ss. AreLinkedFirst t slots nodes 0 ss (no_key ∷ [])) (sym same)
    (first_links t slots c.in_ok-placed.ensures.placing nodes c.in_ok-placed.ensures.listed c.slots_of.result c.slots_of.ensures.some
    (subst (AreSlotsWithin c.slots_of.result) c.deref.ensures.value c.slots_of.ensures.within) c.place_nodes.new.states size laid))))

pub returns : goal.returns
returns g c =
    let t = g.T.Placed.tree c.args.trie.now in
    let own = g.T.Placed.slot_of c.args.trie.now in
    let len = c.in_ok-states.states.len in
    let laid = c.place_nodes.new.states in
    let linked = c.link_nodes.new.states in
    let same : take len (linked ++ drop (length linked) (take len (laid ++ drop (length laid) c.in_ok-states.states.items))) ≡ linked =
    whole_front len linked (drop (length linked) (take len (laid ++ drop (length laid) c.in_ok-states.states.items))) (sym (c.link_nodes.auto.states ∙ c.deref_mut-2.ensures.len)) in
    let keys = c.link_nodes.new.keys.items in
    subst (λ ss. IsAutomaton t (slot_of_path ss) ss keys) (sym same) (reached_automaton t (placed_by c.deref-5.result.now own) linked keys c.in_ok-link_nodes.ensures)
