use Rattle.std.proofs.lemmas.Result.{err_from_is_err_and}
use Rattle.cedar_slots.specs.declared.blocks.BlockType.TheVariants.{Open, Closed, Full}
use Rattle.cedar_file.specs.PlaceChecks.{HasList}
use Rattle.cedar_slots.specs.Views.{blocks_of}
use Rattle.cedar_file.proofs.ChecksLemmas.Outcome.{ok_iff_same}
use Rattle.cedar_file.proofs.ChecksLemmas.ListsRead.{list_from, lists_from}
use Rattle.cedar_slots.proofs.ListsLemmas.ThreeLists.{cases_list}
use Rattle.cedar_file.proofs.check.lists.check_lists.Goals as goal

pub returns-in_err-check_list-clause-answer : goal.returns-in_err-check_list-clause-answer
returns-in_err-check_list-clause-answer g c =
    let p = err_from_is_err_and c.from_residual.result c.from_residual.ensures.1 in
    rw p.1 (λ has. c.in_err-check_list.ensures.answer (list_from (blocks_of c.args.blocks.now) c.requires.some has Open))

pub returns-in_err-check_list-2-clause-answer : goal.returns-in_err-check_list-2-clause-answer
returns-in_err-check_list-2-clause-answer g c =
    let p = err_from_is_err_and c.from_residual-in_err-check_list-2.result c.from_residual-in_err-check_list-2.ensures.1 in
    rw p.1 (λ has. c.in_err-check_list-2.ensures.answer (list_from (blocks_of c.args.blocks.now) c.requires.some has Closed))

pub returns-clause-answer : goal.returns-clause-answer
returns-clause-answer g c =
    let blocks = blocks_of c.args.blocks.now in
    ok_iff_same c.check_full_list.result tt
    (λ full. lists_from blocks (cases_list (HasList blocks) c.in_ok-check_list.ensures.answer.0 c.in_ok-check_list-2.ensures.answer.0 full))
    (λ has. list_from blocks c.requires.some has Full)
    c.check_full_list.ensures.answer
