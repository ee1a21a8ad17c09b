use Rattle.cedarwood.specs.State.{State}
use Rattle.word_lists.proofs.PlainLines.{pair_pushed}
use Rattle.word_lists.proofs.sorted.push_line.Goals as goal

pub returns : goal.returns
returns g c = λ _ (s : State).
    pair_pushed s c.args.number c.args.line.now c.args.pairs.now.items c.push.new.self.items c.in-Some.pair c.in_ok-push.ensures.items c.in-Some.ensures
