use Rattle.std.proofs.Common.{◌≡◌, ◌∙◌, Err}
use Rattle.std.proofs.lemmas.Result.{err_from_is_err_and}
use Rattle.std.specs.Prelude.{is_err}
use Rattle.cedarwood.specs.WatchedDevice.{device_of, has_failed}
use Rattle.cedar_cli.specs.Statuses.{ShowsCause}
use Rattle.cedar_cli.specs.View.{view_of}
use Rattle.cedar_cli.proofs.Bytes.{failed_call, unfailed_call}
use Rattle.cedar_cli.proofs.Faults.{no_success, shows_cause, that_error}
use Rattle.cedar_cli.proofs.Runs.{ended_fronts, finished_whole, finished_fronts}
use Rattle.cedar_cli.proofs.program.answer_script.Goals as goal

pub returns-in_err-outcome : goal.returns-in_err-outcome
returns-in_err-outcome g c = record {
  ok = no_success _ c.from_residual.result (err_from_is_err_and c.from_residual.result c.from_residual.ensures.1).0 (err_from_is_err_and c.from_residual.result c.from_residual.ensures.1).1;
  begun = ended_fronts g.row.SLOTS c.run_script_with_reports-outcome.new.trie c.in_err-outcome.field-0.0 (view_of g.L.Layout.kind c.args.trie.now) (view_of g.L.Layout.kind c.run_script_with_reports-outcome.new.trie) (g.W.Write.contents (device_of c.args.writer.now)) (g.W.Write.contents (device_of c.run_script_with_reports-outcome.new.writer)) (g.W.Write.contents (device_of c.flush-flushed.new.self))
      (g.R.Read.remaining (device_of c.args.reader.now)) c.flush-flushed.ensures.bytes c.in_err-outcome.ensures.err;
  cause = let unread = has_failed c.args.reader.now in
      let read = has_failed c.run_script_with_reports-outcome.new.reader in
      let written = has_failed c.run_script_with_reports-outcome.new.writer in
      let last = has_failed c.flush-flushed.new.self in
      let fault = c.in_err-outcome.field-0.0 in
      let by = c.in_err-outcome.ensures in
      let p = err_from_is_err_and c.from_residual.result c.from_residual.ensures.1 in
      let is : c.from_residual.result ≡ Err fault = cc (p.1, p.2) in
      that_error (ShowsCause unread read last) c.from_residual.result fault is
      (shows_cause unread read written last (is_err c.flush-flushed.result) fault by.read_cause by.write_cause (λ e. (by.starved e).0) (λ e. (by.full e).0) c.flush-flushed.ensures.failed);
  unfailed = no_success _ c.from_residual.result (err_from_is_err_and c.from_residual.result c.from_residual.ensures.1).0 (err_from_is_err_and c.from_residual.result c.from_residual.ensures.1).1;
  told = no_success _ c.from_residual.result (err_from_is_err_and c.from_residual.result c.from_residual.ensures.1).0 (err_from_is_err_and c.from_residual.result c.from_residual.ensures.1).1;
}

pub returns-in-Ok : goal.returns-in-Ok
returns-in-Ok g c = record {
  ok = finished_whole (view_of g.L.Layout.kind c.args.trie.now) (view_of g.L.Layout.kind c.run_script_with_reports-outcome.new.trie) (g.W.Write.contents (device_of c.args.writer.now)) (g.W.Write.contents (device_of c.run_script_with_reports-outcome.new.writer)) (g.W.Write.contents (device_of c.flush-flushed.new.self))
      (g.R.Read.remaining (device_of c.args.reader.now)) c.flush-flushed.ensures.bytes c.in_ok-outcome.ensures.ok;
  begun = finished_fronts (view_of g.L.Layout.kind c.args.trie.now) (view_of g.L.Layout.kind c.run_script_with_reports-outcome.new.trie) (g.W.Write.contents (device_of c.args.writer.now)) (g.W.Write.contents (device_of c.run_script_with_reports-outcome.new.writer)) (g.W.Write.contents (device_of c.flush-flushed.new.self))
      (g.R.Read.remaining (device_of c.args.reader.now)) c.flush-flushed.ensures.bytes c.in_ok-outcome.ensures.ok;
  cause = tt;
  unfailed = (
    c.in_ok-outcome.ensures.unfailed.0,
    unfailed_call (has_failed c.run_script_with_reports-outcome.new.writer) (has_failed c.flush-flushed.new.self) c.in-Ok.ensures.failed ∙ c.in_ok-outcome.ensures.unfailed.1,
  );
  told = c.in_ok-outcome.ensures.told;
}

pub returns-in-Err : goal.returns-in-Err
returns-in-Err g c = record {
  ok = tt;
  begun = finished_fronts (view_of g.L.Layout.kind c.args.trie.now) (view_of g.L.Layout.kind c.run_script_with_reports-outcome.new.trie) (g.W.Write.contents (device_of c.args.writer.now)) (g.W.Write.contents (device_of c.run_script_with_reports-outcome.new.writer)) (g.W.Write.contents (device_of c.flush-flushed.new.self))
      (g.R.Read.remaining (device_of c.args.reader.now)) c.flush-flushed.ensures.bytes c.in_ok-outcome.ensures.ok;
  cause = failed_call (has_failed c.run_script_with_reports-outcome.new.writer) (has_failed c.flush-flushed.new.self) c.in-Err.ensures.failed;
  unfailed = tt;
  told = tt;
}
