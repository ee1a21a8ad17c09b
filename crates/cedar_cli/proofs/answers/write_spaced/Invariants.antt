use Rattle.std.proofs.Common.{◌≡◌, ◌++◌}
use Rattle.std.specs.Io.KnownBytes.{Appends}
use Rattle.cedarwood.specs.WatchedDevice.{device_of, has_failed}
use Rattle.cedar_cli.specs.Script.{spaced_texts, token_text}
use Rattle.cedar_cli.proofs.answers.write_spaced.Given as goal

-- the tokens that came were written
abbrev pub invariant-loop-token : goal.invariant-loop-token
invariant-loop-token g l = record {
  came : l.fn.tokens ≡ l.yielded ++ l.tokens;
  written : Appends (g.W.Write.contents (device_of l.fn.writer)) (g.W.Write.contents (device_of l.writer)) (spaced_texts token_text l.yielded);
  unfailed : has_failed l.writer ≡ has_failed l.fn.writer;
}
