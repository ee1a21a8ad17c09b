use Rattle.std.specs.Prelude.{vec_capacity}
use Rattle.cedarwood.proofs.EndsLemmas.{first_found, first_full, first_refused}
use Rattle.cedarwood.proofs.trie.Trie.first_into.Goals as goal

pub returns-clause-found : goal.returns-clause-found
returns-clause-found g c =
    let all = c.entries_with_prefix_bytes in
    first_found c.args.self.now.state.tree all.result c.next_into.new.self all.ensures c.next_into.new.key.items c.next_into.result c.next_into.ensures.found

pub returns-clause-refused : goal.returns-clause-refused
returns-clause-refused g c =
    let all = c.entries_with_prefix_bytes in
    first_refused c.args.self.now.state.tree all.result c.next_into.new.self all.ensures c.next_into.new.key.items c.next_into.result c.next_into.ensures.refused

pub returns-clause-full : goal.returns-clause-full
returns-clause-full g c =
    let all = c.entries_with_prefix_bytes in
    first_full c.args.self.now.state.tree all.result c.next_into.new.self all.ensures c.next_into.new.key.items (vec_capacity c.args.key.now) c.next_into.result c.next_into.ensures.full
