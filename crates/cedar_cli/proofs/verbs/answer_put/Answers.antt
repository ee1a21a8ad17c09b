use Rattle.std.proofs.Common.{arith, length, sym, Some, ap, subst, ◌∙◌, ◌++◌, ◌∷◌, [], ◌≡◌, None, ℤ, to_z, of_z, w32, Err}
use Rattle.std.proofs.lemmas.Int.{to_z-of_z}
use Rattle.std.specs.Prelude.{Result}
use Rattle.cedarwood.specs.State.{after_put}
use Rattle.cedarwood.specs.declared.error.CedarError.{CedarError}
use Rattle.cedarwood.specs.declared.error.CedarError.TheVariants.{Memory, SlotLimit}
use Rattle.cedarwood.specs.Fault.{fault, IsShortage}
use Rattle.cedarwood.specs.WatchedDevice.{device_of, has_failed}
use Rattle.cedar_cli.specs.Script.{put_text}
use Rattle.cedar_cli.specs.View.{view_of}
use Rattle.cedar_cli.specs.declared.command.Verb.TheVariants.{Put}
use Rattle.cedar_cli.specs.declared.script.ScriptError.TheVariants.{Memory as NoMemory, SlotLimit as NoSlot}
use Rattle.cedar_cli.proofs.BlockCounts.{within_further, back_blocks, held_after}
use Rattle.cedar_cli.proofs.Bytes.{Obeys-on_ok}
use Rattle.cedar_cli.proofs.Faults.{memory_no_limit, limit_no_memory, writers_fault, memory_fault, limit_fault}
use Rattle.cedar_cli.proofs.Orders.{pair_kind, refused_by, taken_back, Disobeys-if_err, Disobeys-unanswered, no_shortage, on_not_ok, if_not_err, write_alone, never_memory, told}
use Rattle.cedar_cli.proofs.SlotsInView.{put_obeyed, put_refused, seen_same}
use Rattle.cedarwood.proofs.FaultLemmas.{fault_free}
use Rattle.cedar_cli.proofs.verbs.answer_put.Goals as goal

pub returns-then-is_err : goal.returns-then-is_err
returns-then-is_err g c =
    let key = c.args.key.now in
    let before = c.args.trie.now in
    let old = before.state in
    let u = c.in-Ok.ensures.updated in
    let same = to_z-of_z w32 c.args.value c.ranges.value in
    let clean : fault key c.args.value ≡ None = subst (λ (v : ℤ). fault key v ≡ None) same (fault_free (fault key (to_z w32 (of_z w32 c.args.value))) tt u.faulty) in
    let written = c.write_whole-written.result in
    let writer = c.write_whole-written.ensures.faults in
    let alone = write_alone _ written writer.cause in
    let blocks = u.blocks in
    let held = held_after old c.insert_bytes.new.self.state key (to_z w32 (of_z w32 c.args.value)) u.ok in
    let back = back_blocks c.in-Ok.before _ c.insert_bytes.new.self c.take_back.new.trie c.take_back.ensures.blocks held in
    record {
      answer = record {
        ok = on_not_ok _ written (sym c.is_err.ensures.value ∙ c.if-is_err.true);
        err = Disobeys-if_err _ written (Some (Put c.args.value, key)) (view_of g.L.Layout.kind before) (view_of g.L.Layout.kind c.take_back.new.trie) (g.W.Write.contents (device_of c.args.writer.now)) (g.W.Write.contents (device_of c.write_whole-written.new.writer)) (111 ∷ 107 ∷ 10 ∷ [])
            writer.cause
            (λ _. taken_back c.in-Ok.before old c.insert_bytes.new.self.state c.take_back.new.trie.state key c.args.value
            c.in-Ok.ensures.held c.in-Ok.ensures.sound c.in-Ok.ensures.in_range clean
            (u.ok ∙ ap (λ v. after_put old key v) same) c.take_back.ensures.state)
            (ap (λ f. put_text f ++ 10 ∷ []) (sym clean)) c.write_whole-written.ensures.err;
      };
      faults = writers_fault (has_failed c.args.writer.now) (has_failed c.write_whole-written.new.writer) written writer;
      memory = λ starved. absurd (never_memory _ written writer.cause starved);
      limit = λ full. absurd (alone.1 full);
      blocks = within_further (length key) 0 (length key) before c.insert_bytes.new.self c.take_back.new.trie (omega arith) (blocks.0, blocks.1, blocks.3) (0, omega arith, back);
      max_trial = c.take_back.ensures.max_trial ∙ u.max_trial;
    }

pub returns-else-is_err : goal.returns-else-is_err
returns-else-is_err g c =
    let key = c.args.key.now in
    let before = c.args.trie.now in
    let after = c.insert_bytes.new.self in
    let layout = g.L.Layout.kind in
    let u = c.in-Ok.ensures.updated in
    let same = to_z-of_z w32 c.args.value c.ranges.value in
    let clean : fault key c.args.value ≡ None = subst (λ (v : ℤ). fault key v ≡ None) same (fault_free (fault key (to_z w32 (of_z w32 c.args.value))) tt u.faulty) in
    let written = c.write_whole-written.result in
    let writer = c.write_whole-written.ensures.faults in
    let alone = write_alone _ written writer.cause in
    let blocks = u.blocks in
    record {
      answer = record {
        ok = Obeys-on_ok written (Some (Put c.args.value, key)) (view_of layout before) (view_of layout after) (g.W.Write.contents (device_of c.args.writer.now)) (g.W.Write.contents (device_of c.write_whole-written.new.writer)) (111 ∷ 107 ∷ 10 ∷ [])
            (put_obeyed layout before after key c.args.value clean c.in-Ok.ensures.sound (u.ok ∙ ap (λ v. after_put before.state key v) same) u.marked u.marks)
            (ap (λ f. put_text f ++ 10 ∷ []) (sym clean)) c.write_whole-written.ensures.ok;
        err = if_not_err _ written (sym c.is_err.ensures.value ∙ c.if-is_err.false);
      };
      faults = writers_fault (has_failed c.args.writer.now) (has_failed c.write_whole-written.new.writer) written writer;
      memory = λ starved. absurd (never_memory _ written writer.cause starved);
      limit = λ full. absurd (alone.1 full);
      blocks = (blocks.0, blocks.1, blocks.3);
      max_trial = u.max_trial;
    }

pub returns-in_default : goal.returns-in_default
returns-in_default g c =
    let key = c.args.key.now in
    let before = c.args.trie.now in
    let after = c.insert_bytes.new.self in
    let layout = g.L.Layout.kind in
    let u = c.in-Err.ensures.updated in
    let same = to_z-of_z w32 c.args.value c.ranges.value in
    let never : IsShortage c.in-Err.error → ⊥ = no_shortage c.in-Err.error c.in_default.not-Memory c.in_default.not-SlotLimit in
    let why : fault key c.args.value ≡ Some c.in-Err.error = subst (λ (v : ℤ). fault key v ≡ Some c.in-Err.error) same (refused_by _ (fault key (to_z w32 (of_z w32 c.args.value))) _ c.in-Err.error u.faulty u.refused never) in
    let told_line = c.write_refusal.result in
    let writer = c.write_refusal.ensures.faults in
    let alone = write_alone _ told_line writer.cause in
    let same_seen = seen_same layout before after u.err u.marks_stay in
    let blocks = u.blocks in
    record {
      answer = told layout (Some (Put c.args.value, key)) before after (g.W.Write.contents (device_of c.args.writer.now)) (g.W.Write.contents (device_of c.write_refusal.new.writer)) (put_text (Some c.in-Err.error) ++ 10 ∷ [])
          told_line same_seen (same_seen ∙ put_refused (view_of layout before) key c.args.value c.in-Err.error why) (ap (λ f. put_text f ++ 10 ∷ []) (sym why)) c.write_refusal.ensures.ok c.write_refusal.ensures.err;
      faults = writers_fault (has_failed c.args.writer.now) (has_failed c.write_refusal.new.writer) told_line writer;
      memory = λ starved. absurd (never_memory _ told_line writer.cause starved);
      limit = λ full. absurd (alone.1 full);
      blocks = (blocks.0, blocks.1, blocks.3);
      max_trial = u.max_trial;
    }

pub write_refusal-requires : goal.write_refusal-requires
write_refusal-requires g c =
    let u = c.in-Err.ensures.updated in
    let never : IsShortage c.in-Err.error → ⊥ = no_shortage c.in-Err.error c.in_default.not-Memory c.in_default.not-SlotLimit in
    pair_kind c.args.key.now (to_z w32 (of_z w32 c.args.value)) c.in-Err.error
    (refused_by _ (fault c.args.key.now (to_z w32 (of_z w32 c.args.value))) _ c.in-Err.error u.faulty u.refused never)

pub returns-in-Memory : goal.returns-in-Memory
returns-in-Memory g c =
    let layout = g.L.Layout.kind in
    let before = c.args.trie.now in
    let after = c.insert_bytes.new.self in
    let u = c.in-Err.ensures.updated in
    let blocks = u.blocks in
    let starved : ◌≡◌ {A = Result (Unit {0}) CedarError} (Err c.in-Err.error) (Err Memory) = ap Err c.in-Memory.is in
    record {
      answer = record {
        ok = tt;
        err = Disobeys-unanswered NoMemory (Some (Put c.args.value, c.args.key.now)) (view_of layout before) (view_of layout after) (g.W.Write.contents (device_of c.args.writer.now))
            (seen_same layout before after u.err u.marks_stay);
      };
      faults = memory_fault (has_failed c.args.writer.now);
      memory = λ _. u.memory starved;
      limit = λ same. memory_no_limit same;
      blocks = (blocks.0, blocks.1, blocks.3);
      max_trial = u.max_trial;
    }

pub returns-in-SlotLimit : goal.returns-in-SlotLimit
returns-in-SlotLimit g c =
    let layout = g.L.Layout.kind in
    let before = c.args.trie.now in
    let after = c.insert_bytes.new.self in
    let u = c.in-Err.ensures.updated in
    let blocks = u.blocks in
    let full : ◌≡◌ {A = Result (Unit {0}) CedarError} (Err c.in-Err.error) (Err SlotLimit) = ap Err c.in-SlotLimit.is in
    record {
      answer = record {
        ok = tt;
        err = Disobeys-unanswered NoSlot (Some (Put c.args.value, c.args.key.now)) (view_of layout before) (view_of layout after) (g.W.Write.contents (device_of c.args.writer.now))
            (seen_same layout before after u.err u.marks_stay);
      };
      faults = limit_fault (has_failed c.args.writer.now);
      memory = λ same. limit_no_memory same;
      limit = λ _. u.limit full;
      blocks = (blocks.0, blocks.1, blocks.3);
      max_trial = u.max_trial;
    }
