use Rattle.std.proofs.Common.{◌++◌, ◌∷◌, [], ap, false, refl, Some, true}
use Rattle.std.proofs.lemmas.Result.{err_from_is_err_and}
use Rattle.std.specs.Prelude.{codes}
use Rattle.cedarwood.specs.Batches.{IsErasure}
use Rattle.cedarwood.specs.WatchedDevice.{device_of}
use Rattle.cedar_cli.specs.declared.command.Verb.TheVariants.{Erase}
use Rattle.cedarwood.proofs.GrowthLemmas.{grows_none}
use Rattle.cedar_cli.specs.View.{view_of}
use Rattle.device_lines.proofs.Writing.{breaks_all}
use Rattle.cedar_cli.proofs.BlockCounts.{same_blocks}
use Rattle.cedar_cli.proofs.Bytes.{each_fault}
use Rattle.cedar_cli.proofs.Faults.{no_success}
use Rattle.cedar_cli.proofs.Orders.{absent_reply, Disobeys-front, erased_reply, erased_written, told}
use Rattle.cedar_cli.proofs.SlotsInView.{cut_obeyed}
use Rattle.cedar_cli.proofs.verbs.answer_erase.Goals as goal

pub returns-in_default : goal.returns-in_default
returns-in_default g c = record {
  answer = let d = c.args.trie.now in
      let key = c.args.key.now in
      let kept : IsErasure d d key false = c.find_bytes.ensures.absent c.in_default.is in
      told g.L.Layout.kind (Some (Erase, key)) d d (g.W.Write.contents (device_of c.args.writer.now)) (g.W.Write.contents (device_of c.write_whole.new.writer))
      (codes "absent" ++ 10 ∷ []) c.write_whole.result refl (cut_obeyed g.L.Layout.kind d d key kept.state kept.marked kept.marks)
      (ap (λ l. l ++ 10 ∷ []) (absent_reply (view_of g.L.Layout.kind d) key c.in_default.ensures.found)) c.write_whole.ensures.ok c.write_whole.ensures.err;
  faults = c.write_whole.ensures.faults;
  blocks = grows_none c.args.trie.now;
  max_trial = refl;
}

pub returns-in_err-write_whole : goal.returns-in_err-write_whole
returns-in_err-write_whole g c = record {
  answer = let s = view_of g.L.Layout.kind c.args.trie.now in
      let key = c.args.key.now in
      let p = err_from_is_err_and c.from_residual.result c.from_residual.ensures.1 in record {
        ok = no_success _ c.from_residual.result p.0 p.1;
        err = each_fault _ c.from_residual.result
            (λ fault. Disobeys-front fault (Some (Erase, key)) s (g.W.Write.contents (device_of c.args.writer.now)) (g.W.Write.contents (device_of c.write_whole-2.new.writer)) (codes "erased")
            (erased_reply s key c.in-Some.found.value c.in-Some.ensures.found.value) c.in_err-write_whole.ensures.err);
      };
  faults = (breaks_all c.from_residual.ensures.1 c.in_err-write_whole.ensures).faults;
  blocks = grows_none c.args.trie.now;
  max_trial = refl;
}

pub returns : goal.returns
returns g c = record {
  answer = let s = view_of g.L.Layout.kind c.args.trie.now in
      let key = c.args.key.now in
      let erased : IsErasure c.args.trie.now c.erase_found.new.self key true = c.erase_found.ensures in record {
        ok = (
          cut_obeyed g.L.Layout.kind c.args.trie.now c.erase_found.new.self key erased.state erased.marked erased.marks,
          erased_written s key c.in-Some.found.value (g.W.Write.contents (device_of c.args.writer.now)) (g.W.Write.contents (device_of c.write_whole-2.new.writer)) c.in-Some.ensures.found.value
              c.in_ok-write_whole.ensures.ok,
        );
        err = tt;
      };
  faults = record { unfailed = c.in_ok-write_whole.ensures.faults.unfailed; cause = tt };
  blocks = same_blocks c.args.trie.now c.erase_found.new.self c.erase_found.ensures.size;
  max_trial = c.erase_found.ensures.max_trial;
}
