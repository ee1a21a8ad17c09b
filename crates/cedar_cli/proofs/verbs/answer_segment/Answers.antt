use Rattle.std.proofs.Common.{◌++◌, ◌∷◌, [], Some, ap, refl}
use Rattle.cedar_cli.specs.Script.{tokens_text}
use Rattle.cedarwood.specs.WatchedDevice.{device_of}
use Rattle.cedar_cli.specs.declared.command.Verb.TheVariants.{Segment}
use Rattle.cedar_cli.proofs.Orders.{told}
use Rattle.cedar_cli.proofs.verbs.answer_segment.Goals as goal

pub returns : goal.returns
returns g c = record {
  answer = let d = c.args.trie.now in
      told g.L.Layout.kind (Some (Segment, c.args.text.now)) d d (g.W.Write.contents (device_of c.args.writer.now)) (g.W.Write.contents (device_of c.write_tokens.new.writer))
      (tokens_text c.segment.result ++ 10 ∷ []) c.write_tokens.result refl refl
      (ap (λ tokens. tokens_text tokens ++ 10 ∷ []) c.segment.ensures) c.write_tokens.ensures.ok c.write_tokens.ensures.err;
  faults = c.write_tokens.ensures.faults;
}
