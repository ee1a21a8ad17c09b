use Rattle.std.proofs.Common.{◌≡◌, ◌∙◌, ◌-◌, ◌<◌, [], List, IfOk, ap, arith, length, slice_index_or, subst, sym}
use Rattle.cedar_words.specs.Ranked.{lists_of, put_ways, step_ways}
use Rattle.cedar_words.specs.declared.ranked.Way.{Way}
use Rattle.cedar_words.proofs.TableLemmas.{list_at, lists_length}
use Rattle.cedar_words.proofs.ranked.put_token.Goals as goal

pub returns : goal.returns
returns g c =
    let later = c.args.later.now in
    let len = c.args.len in
    let left = length later - len in
    let some = c.requires.some in
    let within = c.requires.within in
    let low : left < length later = omega (arith, some, within) in
    let behind = c.deref.ensures.value ∙ ap (λ v. v.items) c.index-later-left.is ∙ sym (list_at later left c.index-later-left.result low) ∙ ap (λ n. slice_index_or (lists_of later) (n - len) []) (sym (lists_length later)) in
    subst (λ (ways : List Way). IfOk c.put_step.result (λ _. c.put_step.new.ways.items ≡ put_ways c.args.most c.args.ways.now.items (step_ways c.args.price len c.args.value 0 ways))) behind c.put_step.ensures
