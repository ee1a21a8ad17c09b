use Rattle.std.proofs.Common.{◌++◌, ◌∷◌, [], Some, refl}
use Rattle.cedar_cli.specs.Script.{figures_text}
use Rattle.cedar_cli.proofs.SlotsInView.{figures_seen}
use Rattle.cedarwood.specs.WatchedDevice.{device_of}
use Rattle.cedar_cli.specs.declared.command.Verb.TheVariants.{Figures}
use Rattle.cedar_cli.proofs.Orders.{told}
use Rattle.cedar_cli.proofs.verbs.answer_figures.Goals as goal

pub returns : goal.returns
returns g c = record {
  answer = let d = c.args.trie.now in
      told g.L.Layout.kind (Some (Figures, c.args.key.now)) d d (g.W.Write.contents (device_of c.args.writer.now)) (g.W.Write.contents (device_of c.write_figures.new.writer))
      (figures_text c.len.result c.used_node_slots.result ++ 10 ∷ []) c.write_figures.result refl refl
      (figures_seen g.L.Layout.kind d c.args.key.now c.len.result c.used_node_slots.result c.len.ensures.count c.used_node_slots.ensures.by_default c.used_node_slots.ensures.marked) c.write_figures.ensures.ok c.write_figures.ensures.err;
  faults = c.write_figures.ensures.faults;
}
