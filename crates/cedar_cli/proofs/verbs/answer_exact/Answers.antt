use Rattle.std.specs.Prelude.{codes}
use Rattle.std.proofs.Common.{rules, FitsSigned, w32, to_z, of_z, ◌∙◌, Some, ap, refl, ◌++◌, ◌∷◌, []}
use Rattle.std.proofs.lemmas.Int.{to_z-of_z}
use Rattle.cedarwood.specs.WatchedDevice.{device_of}
use Rattle.cedar_cli.specs.declared.command.Verb.TheVariants.{Exact}
use Rattle.cedar_cli.specs.Script.{found_text}
use Rattle.cedar_cli.proofs.Orders.{found_reply, none_reply, told}
use Rattle.cedar_cli.proofs.verbs.answer_exact.Goals as goal

pub returns-in-Some : goal.returns-in-Some
returns-in-Some g c = record {
  answer = let d = c.args.trie.now in
      let key = c.args.key.now in
      let v = c.in-Some.value in
      let fits : FitsSigned w32 v = search rules in
      told g.L.Layout.kind (Some (Exact, key)) d d (g.W.Write.contents (device_of c.args.writer.now)) (g.W.Write.contents (device_of c.write_found.new.writer))
      (found_text (Some (to_z w32 (of_z w32 v))) c.in-Some.length ++ 10 ∷ []) c.write_found.result refl refl
      (ap (λ x. found_text (Some x) c.in-Some.length ++ 10 ∷ []) (to_z-of_z w32 v fits) ∙ ap (λ l. l ++ 10 ∷ []) (found_reply d.state.tree key v c.in-Some.length c.in-Some.ensures.answer))
      c.write_found.ensures.ok c.write_found.ensures.err;
  faults = c.write_found.ensures.faults;
}

pub returns-in-None : goal.returns-in-None
returns-in-None g c = record {
  answer = let d = c.args.trie.now in
      let key = c.args.key.now in
      told g.L.Layout.kind (Some (Exact, key)) d d (g.W.Write.contents (device_of c.args.writer.now)) (g.W.Write.contents (device_of c.write_whole.new.writer))
      (codes "none" ++ 10 ∷ []) c.write_whole.result refl refl
      (ap (λ l. l ++ 10 ∷ []) (none_reply d.state.tree key c.in-None.ensures.answer)) c.write_whole.ensures.ok c.write_whole.ensures.err;
  faults = c.write_whole.ensures.faults;
}
