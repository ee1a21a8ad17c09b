use Rattle.std.proofs.Common.{ap, arith, inr, length, refl, rules}
use Rattle.cedarwood.specs.WatchedDevice.{device_of, has_failed}
use Rattle.cedar_cli.specs.Command.{order_of}
use Rattle.cedar_cli.specs.View.{view_of}
use Rattle.cedar_cli.specs.declared.script.ScriptError.TheVariants.{Memory}
use Rattle.cedar_cli.proofs.BlockCounts.{no_blocks}
use Rattle.cedar_cli.proofs.Faults.{memory_fault}
use Rattle.cedar_cli.proofs.Orders.{Disobeys-unanswered}
use Rattle.cedarwood.proofs.GeneralLemmas.{on_ok}
use Rattle.cedar_cli.proofs.script.answer_with_room.Goals as goal

pub returns-in_default-clause-answer : goal.returns-in_default-clause-answer
returns-in_default-clause-answer g c =
    let s = view_of g.L.Layout.kind c.args.trie.now in record {
      ok = tt;
      err = Disobeys-unanswered Memory (order_of c.args.line.now) s s (g.W.Write.contents (device_of c.args.writer.now)) refl;
    }

pub returns-in_default-clause-faults : goal.returns-in_default-clause-faults
returns-in_default-clause-faults g c = memory_fault (has_failed c.args.writer.now)

pub returns-in_default-clause-blocks : goal.returns-in_default-clause-blocks
returns-in_default-clause-blocks g c = no_blocks (length c.args.line.now) c.args.trie.now

pub returns-clause-memory : goal.returns-clause-memory
returns-clause-memory g c = λ failed. inr (c.answer_line.ensures.memory failed)

pub returns-clause-told : goal.returns-clause-told
returns-clause-told g c = on_ok c.answer_line.result c.answer_line.ensures.told

pub answer_line-requires : goal.answer_line-requires
answer_line-requires g c =
    let enough = c.in-Ok.ensures.ok in
    let same = ap length c.as_mut_slice.ensures.value in
    (search rules, omega (arith, enough, same))
