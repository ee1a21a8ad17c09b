use Rattle.std.proofs.Common.{◌++◌, ◌∷◌, [], Some, ap, refl}
use Rattle.std.specs.Prelude.{decimal}
use Rattle.cedarwood.specs.WatchedDevice.{device_of}
use Rattle.cedar_cli.specs.declared.command.Verb.TheVariants.{Count}
use Rattle.cedar_cli.proofs.Orders.{told}
use Rattle.cedar_cli.proofs.verbs.answer_count.Goals as goal

pub returns : goal.returns
returns g c = record {
  answer = let d = c.args.trie.now in
      told g.L.Layout.kind (Some (Count, c.args.key.now)) d d (g.W.Write.contents (device_of c.args.writer.now)) (g.W.Write.contents (device_of c.write_count.new.writer))
      (decimal c.count_prefix_bytes.result ++ 10 ∷ []) c.write_count.result refl refl
      (ap (λ n. decimal n ++ 10 ∷ []) c.count_prefix_bytes.ensures) c.write_count.ensures.ok c.write_count.ensures.err;
  faults = c.write_count.ensures.faults;
}
