use Rattle.std.proofs.Common.{subst}
use Rattle.last_entries.specs.Nearness.{IsFirstOf}
use Rattle.cedar_complete.proofs.WithinLemmas.{first_of}
use Rattle.cedar_complete.proofs.look_ups.TrieFirstSince.seek.Goals as goal

pub returns-in-Ok : goal.returns-in-Ok
returns-in-Ok g c =
    let key = c.next_into.new.key.items in
    subst (λ es. IsFirstOf es key c.in-Ok.found) c.in-Some.ensures.1 (first_of c.in-Some.entries key c.in-Ok.found c.next_into.new.self c.in-Ok.ensures.found)
