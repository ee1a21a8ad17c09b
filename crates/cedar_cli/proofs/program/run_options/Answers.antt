use Rattle.std.proofs.Common.{◌≡◌, Err, refl}
use Rattle.std.proofs.lemmas.Result.{err_from_is_err_and}
use Rattle.cedar_cli.proofs.Faults.{no_success, that_error}
use Rattle.cedarwood.specs.WatchedDevice.{device_of, has_failed}
use Rattle.cedar_cli.specs.Options.{empty, request_in}
use Rattle.cedar_cli.specs.Statuses.{EndsBy}
use Rattle.cedar_cli.specs.View.{view_of}
use Rattle.cedar_cli.proofs.Begun.{begins_empty}
use Rattle.cedar_cli.proofs.Runs.{none_front}
use Rattle.cedarwood.proofs.GeneralLemmas.{on_ok}
use Rattle.cedar_cli.proofs.program.run_options.Goals as goal

pub returns-then-not-fits : goal.returns-then-not-fits
returns-then-not-fits g c = record {
  ok = tt;
  begun = let s = empty g.L.Layout.kind c.args.options.ordered in
      (s, begins_empty g.L.Layout.kind (request_in c.args.options), none_front s (g.W.Write.contents (device_of c.args.writer.now)) (g.R.Read.remaining (device_of c.args.reader.now)));
  unfailed = tt;
  ends = refl;
  told = tt;
}

pub returns-in_err-trie : goal.returns-in_err-trie
returns-in_err-trie g c = record {
  ok = let p = err_from_is_err_and c.from_residual.result c.from_residual.ensures.1 in
      no_success _ c.from_residual.result p.0 p.1;
  begun = let s = empty g.L.Layout.kind c.args.options.ordered in
      (s, begins_empty g.L.Layout.kind (request_in c.args.options), none_front s (g.W.Write.contents (device_of c.args.writer.now)) (g.R.Read.remaining (device_of c.args.reader.now)));
  unfailed = let p = err_from_is_err_and c.from_residual.result c.from_residual.ensures.1 in
      no_success _ c.from_residual.result p.0 p.1;
  ends = let read = has_failed c.args.reader.now in
      let written = has_failed c.args.writer.now in
      let fault = c.in_err-trie.field-0.0 in
      let p = err_from_is_err_and c.from_residual.result c.from_residual.ensures.1 in
      let is : c.from_residual.result ≡ Err fault = cc (p.1, p.2) in
      that_error (EndsBy (request_in c.args.options) read read written) c.from_residual.result fault is (c.in_err-trie.ensures.ends read written);
  told = let p = err_from_is_err_and c.from_residual.result c.from_residual.ensures.1 in
      no_success _ c.from_residual.result p.0 p.1;
}

pub returns-in-Ok : goal.returns-in-Ok
returns-in-Ok g c = record {
  ok = on_ok c.save.result (view_of g.L.Layout.kind c.in_ok-trie.trie, c.in_ok-trie.ensures.begun, c.in-Ok.ensures.ok);
  begun = (view_of g.L.Layout.kind c.in_ok-trie.trie, c.in_ok-trie.ensures.begun, c.answer_script.ensures.begun);
  unfailed = on_ok c.save.result c.in-Ok.ensures.unfailed;
  ends = c.save.ensures (has_failed c.args.reader.now) (has_failed c.answer_script.new.reader) (has_failed c.answer_script.new.writer);
  told = on_ok c.save.result c.in-Ok.ensures.told;
}

pub returns : goal.returns
returns g c = record {
  ok = tt;
  begun = (view_of g.L.Layout.kind c.in_ok-trie.trie, c.in_ok-trie.ensures.begun, c.answer_script.ensures.begun);
  unfailed = tt;
  ends = c.in-Err.ensures.cause;
  told = tt;
}
