use Rattle.std.proofs.Common.{◌++◌, ◌∷◌, [], Some, ap, refl}
use Rattle.std.specs.Prelude.{codes}
use Rattle.cedar_cli.specs.Script.{hex_entry_lines}
use Rattle.cedarwood.specs.WatchedDevice.{device_of, has_failed}
use Rattle.cedar_cli.specs.declared.command.Verb.TheVariants.{Entries}
use Rattle.cedar_cli.specs.declared.script.ScriptError.TheVariants.{Memory}
use Rattle.cedar_cli.specs.View.{view_of}
use Rattle.cedar_cli.proofs.Faults.{memory_fault, memory_no_limit}
use Rattle.cedar_cli.proofs.Orders.{Disobeys-unanswered, told}
use Rattle.cedar_cli.proofs.verbs.answer_entries.Goals as goal

pub returns : goal.returns
returns g c = record {
  answer = let d = c.args.trie.now in
      told g.L.Layout.kind (Some (Entries, c.args.key.now)) d d (g.W.Write.contents (device_of c.args.writer.now)) (g.W.Write.contents (device_of c.write_entries.new.writer))
      ((hex_entry_lines c.in-Ok.entries ++ codes "end") ++ 10 ∷ []) c.write_entries.result refl refl
      (ap (λ entries. (hex_entry_lines entries ++ codes "end") ++ 10 ∷ []) c.in-Ok.ensures.entries) c.write_entries.ensures.ok c.write_entries.ensures.err;
  faults = c.write_entries.ensures.faults;
  never_full = c.write_entries.ensures.never_full;
}

pub returns-in_default : goal.returns-in_default
returns-in_default g c = record {
  answer = let s = view_of g.L.Layout.kind c.args.trie.now in record {
    ok = tt;
    err = Disobeys-unanswered Memory (Some (Entries, c.args.key.now)) s s (g.W.Write.contents (device_of c.args.writer.now)) refl;
  };
  faults = memory_fault (has_failed c.args.writer.now);
  never_full = λ same. memory_no_limit same;
}
