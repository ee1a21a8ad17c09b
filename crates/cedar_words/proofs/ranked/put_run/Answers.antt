use Rattle.std.proofs.Common.{◌≡◌, IfOk, None, arith, length, subst}
use Rattle.cedar_words.specs.Models.{run_len}
use Rattle.cedar_words.specs.Ranked.{lists_of, put_ways, step_ways, ways_behind}
use Rattle.cedar_words.proofs.TableLemmas.{lists_length}
use Rattle.cedar_words.proofs.ranked.put_run.Goals as goal

pub returns : goal.returns
returns g c =
    let run = c.args.run in
    let later = lists_of c.args.later.now in
    let many = lists_length c.args.later.now in
    let least = c.min.ensures in
    let most = c.max-len.ensures in
    let len : c.max-len.result ≡ run_len (length later) run = omega (arith, many, least, most) in
    subst (λ n. IfOk c.put_token.result (λ _. c.put_token.new.ways.items ≡ put_ways c.args.most c.args.ways.now.items (step_ways run.cost n None 0 (ways_behind later n)))) len c.put_token.ensures
