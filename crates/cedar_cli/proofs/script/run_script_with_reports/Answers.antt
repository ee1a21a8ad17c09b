use Rattle.std.proofs.Common.{◌≡◌, ◌||◌, Bool, subst}
use Rattle.std.specs.Prelude.{OnOk}
use Rattle.cedarwood.specs.WatchedDevice.{device_of, has_failed}
use Rattle.cedar_cli.specs.View.{view_of}
use Rattle.cedar_cli.proofs.Faults.{write_no_read, write_no_memory, write_no_limit}
use Rattle.cedar_cli.proofs.Runs.{ended_by_flush}
use Rattle.cedar_cli.proofs.script.run_script_with_reports.Goals as goal

pub returns-then-flushes : goal.returns-then-flushes
returns-then-flushes g c =
    let answered = c.answer_input-outcome.ensures in
    let after = c.answer_input-outcome.new.trie in
    record {
      ok = tt;
      err = ended_by_flush g.row.SLOTS after c.answer_input-outcome.result (view_of g.L.Layout.kind c.args.trie.now) (view_of g.L.Layout.kind after)
          (g.W.Write.contents (device_of c.args.writer.now)) (g.W.Write.contents (device_of c.answer_input-outcome.new.writer))
          (g.R.Read.remaining (device_of c.args.reader.now)) answered.ok answered.err;
      read = λ same. write_no_read same;
      read_cause = λ same. write_no_read same;
      write_cause = λ _. answered.flush_cause c.if-flushes.true;
      unfailed = tt;
      limit = λ same. write_no_limit same;
      blocks = answered.blocks;
      starved = λ same. write_no_memory same;
      full = λ same. write_no_limit same;
      max_trial = answered.max_trial;
      told = tt;
    }

pub returns-clause-unfailed : goal.returns-clause-unfailed
returns-clause-unfailed g c =
    let read = has_failed c.args.reader.now in
    let first = has_failed c.args.writer.now in
    let reader = has_failed c.answer_input-outcome.new.reader in
    let writer = has_failed c.answer_input-outcome.new.writer in
    subst (λ (flush : Bool). OnOk c.answer_input-outcome.result ((reader ≡ read) × (writer ≡ (flush || first)))) c.if-flushes.false c.answer_input-outcome.ensures.unfailed

pub returns-clause-starved : goal.returns-clause-starved
returns-clause-starved g c = λ is.
    let read = has_failed c.args.reader.now in
    let first = has_failed c.args.writer.now in
    let reader = has_failed c.answer_input-outcome.new.reader in
    let writer = has_failed c.answer_input-outcome.new.writer in
    subst (λ (flush : Bool). (reader ≡ read) × (writer ≡ (flush || first))) c.if-flushes.false (c.answer_input-outcome.ensures.starved is)

pub returns-clause-full : goal.returns-clause-full
returns-clause-full g c = λ is.
    let read = has_failed c.args.reader.now in
    let first = has_failed c.args.writer.now in
    let reader = has_failed c.answer_input-outcome.new.reader in
    let writer = has_failed c.answer_input-outcome.new.writer in
    subst (λ (flush : Bool). (reader ≡ read) × (writer ≡ (flush || first))) c.if-flushes.false (c.answer_input-outcome.ensures.full is)
