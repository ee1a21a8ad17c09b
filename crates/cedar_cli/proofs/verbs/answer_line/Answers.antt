use Rattle.std.proofs.Common.{length, refl, subst, take, ◌≡◌, ◌∷◌, [], Option, Some, None}
use Rattle.std.specs.Prelude.{codes}
use Rattle.cedarwood.specs.WatchedDevice.{device_of, has_failed}
use Rattle.cedar_cli.specs.Command.{bad_line_of, Order, order_of}
use Rattle.cedar_cli.specs.Reports.{Continues}
use Rattle.cedar_cli.specs.declared.command.BadLine.{BadLine}
use Rattle.cedar_cli.specs.Words.{Answers, MayLackMemory}
use Rattle.cedar_cli.proofs.BlockCounts.{no_blocks, key_blocks}
use Rattle.cedar_cli.proofs.Orders.{never_memory, told, write_alone}
use Rattle.cedar_cli.proofs.Faults.{writers_fault}
use Rattle.cedar_cli.proofs.verbs.answer_line.Goals as goal

pub returns-in-Err : goal.returns-in-Err
returns-in-Err g c = record {
  answer = let e : ◌≡◌ {A = Option Order} None (order_of c.args.line.now) = rw c.in-Err.is at c.parse_line.ensures.order in
      let d = c.args.trie.now in
      rw (← e) (told g.L.Layout.kind None d d (g.W.Write.contents (device_of c.args.writer.now)) (g.W.Write.contents (device_of c.write_whole.new.writer)) (codes "bad line\n")
      c.write_whole.result refl refl refl c.write_whole.ensures.ok c.write_whole.ensures.err);
  faults = writers_fault (has_failed c.args.writer.now) (has_failed c.write_whole.new.writer) c.write_whole.result c.write_whole.ensures.faults;
  memory = λ starved. absurd (never_memory _ c.write_whole.result c.write_whole.ensures.faults.cause starved);
  limit = λ full. let alone = write_alone _ c.write_whole.result c.write_whole.ensures.faults.cause in absurd (alone.1 full);
  blocks = no_blocks (length c.args.line.now) c.args.trie.now;
  max_trial = refl;
  len = c.parse_line.ensures.len;
  told = let is : ◌≡◌ {A = Option BadLine} (Some c.in-Err.bad) (bad_line_of c.args.line.now) = rw c.in-Err.is at c.parse_line.ensures.bad in
      subst (λ (why : Option BadLine). Continues (g.B.LineReports.told c.args.reports.now) (g.B.LineReports.told c.tell.new.self) (why ∷ [])) is c.tell.ensures;
}

pub returns-in-Ok : goal.returns-in-Ok
returns-in-Ok g c = record {
  answer = let key = take c.in-Ok.command.key_len c.parse_line.new.room in
      let e : ◌≡◌ {A = Option Order} (Some (c.in-Ok.command.verb, key)) (order_of c.args.line.now) = rw c.in-Ok.is at c.parse_line.ensures.order in
      let held = g.W.Write.contents (device_of c.args.writer.now) in
      let holds = g.W.Write.contents (device_of c.answer_command.new.writer) in
      subst (λ (o : Option Order). Answers g.L.Layout.kind o c.args.trie.now c.answer_command.new.trie held holds c.answer_command.result) e c.answer_command.ensures.answer;
  faults = c.answer_command.ensures.faults;
  memory = λ starved.
      let key = take c.in-Ok.command.key_len c.parse_line.new.room in
      let e : ◌≡◌ {A = Option Order} (Some (c.in-Ok.command.verb, key)) (order_of c.args.line.now) = rw c.in-Ok.is at c.parse_line.ensures.order in
      subst (λ (o : Option Order). MayLackMemory g.row.SLOTS o c.answer_command.new.trie) e (c.answer_command.ensures.memory starved);
  limit = c.answer_command.ensures.limit;
  blocks = let key = take c.in-Ok.command.key_len c.parse_line.new.room in
      let e : ◌≡◌ {A = Option Order} (Some (c.in-Ok.command.verb, key)) (order_of c.args.line.now) = rw c.in-Ok.is at c.parse_line.ensures.order in
      key_blocks c.args.line.now key c.in-Ok.command.verb c.args.trie.now c.answer_command.new.trie e c.answer_command.ensures.blocks;
  max_trial = c.answer_command.ensures.max_trial;
  len = c.parse_line.ensures.len;
  told = let is : ◌≡◌ {A = Option BadLine} None (bad_line_of c.args.line.now) = rw c.in-Ok.is at c.parse_line.ensures.bad in
      subst (λ (why : Option BadLine). Continues (g.B.LineReports.told c.args.reports.now) (g.B.LineReports.told c.tell-in-Ok.new.self) (why ∷ [])) is c.tell-in-Ok.ensures;
}
