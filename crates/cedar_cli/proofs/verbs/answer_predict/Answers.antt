use Rattle.std.proofs.Common.{◌++◌, ◌∷◌, [], Some, ap, refl}
use Rattle.cedar_cli.specs.Script.{pairs_text}
use Rattle.cedarwood.specs.WatchedDevice.{device_of}
use Rattle.cedar_cli.specs.declared.command.Verb.TheVariants.{Predict}
use Rattle.cedar_cli.proofs.Orders.{told}
use Rattle.cedar_cli.proofs.verbs.answer_predict.Goals as goal

pub returns : goal.returns
returns g c = record {
  answer = let d = c.args.trie.now in
      told g.L.Layout.kind (Some (Predict, c.args.key.now)) d d (g.W.Write.contents (device_of c.args.writer.now)) (g.W.Write.contents (device_of c.write_pairs.new.writer))
      (pairs_text c.common_prefix_predict_iter_bytes.result ++ 10 ∷ []) c.write_pairs.result refl refl
      (ap (λ pairs. pairs_text pairs ++ 10 ∷ []) c.common_prefix_predict_iter_bytes.ensures) c.write_pairs.ensures.ok c.write_pairs.ensures.err;
  faults = c.write_pairs.ensures.faults;
}
