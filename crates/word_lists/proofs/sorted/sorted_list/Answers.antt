use Rattle.std.proofs.Common.{◌≡◌, ◌∙◌, ap, sym}
use Rattle.cedarwood.specs.State.{State}
use Rattle.cedarwood.specs.Words.{entries_of}
use Rattle.word_lists.specs.Stored.{lines_in, lines_stored, pairs_stored}
use Rattle.word_lists.proofs.PlainLines.{built_so}
use Rattle.word_lists.proofs.sorted.sorted_list.Goals as goal

pub returns-in-Ok : goal.returns-in-Ok
returns-in-Ok g c =
    let lines = lines_in c.args.list.now in
    let pairs = entries_of c.deref.result.now in
    let stores : (s : State) → lines_stored s 1 lines ≡ pairs_stored s (entries_of c.in-Some.pairs.items) = rw c.in-Some.is at c.in_ok-pairs.ensures in
    built_so _ _ c.new.result pairs c.in-Ok.trie lines c.in-Ok.ensures.built c.new.ensures.ordered
    (λ s. stores s ∙ ap (λ l. pairs_stored s (entries_of l)) (sym c.deref.ensures.value)) (c.sorted_is_stored_in_turn.ensures pairs)
