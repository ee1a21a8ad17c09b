use Rattle.std.proofs.Common.{List, true, false, refl, subst, sym, ◌∙◌, ap}
use Rattle.std.specs.Prelude.{IsTrue}
use Rattle.std.proofs.lemmas.Bool.{false≢true, and_from}
use Rattle.cedar_disk.specs.NotedFiles.{noted_calls}
use Rattle.whole_files.specs.Calls.{Call, all_within, is_named_after, is_usable_after, seen_after, sync_call}
use Rattle.cedar_disk.proofs.Causes.{call_done, call_failed, none_done}
use Rattle.cedar_disk.proofs.Steps.{elapses_none, elapses_to, sync_keeps, synced_file}
use Rattle.cedar_disk.proofs.account.Account.sync.Goals as goal

pub invariant_of-self : goal.invariant_of-self
invariant_of-self g c =
    let noted = c.in-Ok.ensures.noted in
    record {
      usable = λ _. subst (λ (l : List Call). IsTrue (is_usable_after l)) (sym noted) (and_from _ _ c.requires.usable refl);
      known = λ is. subst (λ (l : List Call). IsTrue (is_named_after l)) (sym noted) (c.args.self.now.known is);
      lost = λ is. ap is_named_after noted ∙ c.args.self.now.lost is;
      clean = λ _. (synced_file (noted_calls c.args.self.now.file) (noted_calls c.sync.new.self) c.requires.usable noted).1;
      within = subst (λ (l : List Call). IsTrue (all_within l)) (sym noted) c.args.self.now.within;
      placed = c.in-Ok.ensures.name ∙ c.args.self.now.placed;
    }

pub invariant_of-self-in-Err : goal.invariant_of-self-in-Err
invariant_of-self-in-Err g c = record {
  usable = λ is. absurd (false≢true (sym is));
  known = λ is. subst (λ (l : List Call). IsTrue (is_named_after l)) (sym c.in-Err.ensures.noted) (c.args.self.now.known is);
  lost = λ is. ap is_named_after c.in-Err.ensures.noted ∙ c.args.self.now.lost is;
  clean = λ is. absurd (false≢true (sym is ∙ c.if-not-self.false));
  within = subst (λ (l : List Call). IsTrue (all_within l)) (sym c.in-Err.ensures.noted) c.args.self.now.within;
  placed = c.in-Err.ensures.name ∙ c.args.self.now.placed;
}

pub returns-then-not-self-clause-durable : goal.returns-then-not-self-clause-durable
returns-then-not-self-clause-durable g c = c.args.self.now.clean c.if-not-self.true

pub returns-then-not-self-clause-time : goal.returns-then-not-self-clause-time
returns-then-not-self-clause-time g c = elapses_none (noted_calls c.args.self.now.file)

pub returns-then-not-self-clause-cause : goal.returns-then-not-self-clause-cause
returns-then-not-self-clause-cause g c = none_done (noted_calls c.args.self.now.file)

pub returns-in-Ok-clause-durable : goal.returns-in-Ok-clause-durable
returns-in-Ok-clause-durable g c = (synced_file (noted_calls c.args.self.now.file) (noted_calls c.sync.new.self) c.requires.usable c.in-Ok.ensures.noted).0

pub returns-in-Ok-clause-seen : goal.returns-in-Ok-clause-seen
returns-in-Ok-clause-seen g c = ap seen_after c.in-Ok.ensures.noted

pub returns-in-Ok-clause-crash : goal.returns-in-Ok-clause-crash
returns-in-Ok-clause-crash g c =
    sync_keeps (noted_calls c.args.self.now.file) (noted_calls c.sync.new.self) c.args.self.now.within true c.requires.usable c.in-Ok.ensures.noted

pub returns-in-Ok-clause-time : goal.returns-in-Ok-clause-time
returns-in-Ok-clause-time g c = elapses_to (sync_call true) (noted_calls c.args.self.now.file) (noted_calls c.sync.new.self) c.in-Ok.ensures.noted

pub returns-in-Ok-clause-cause : goal.returns-in-Ok-clause-cause
returns-in-Ok-clause-cause g c = call_done (sync_call true) (noted_calls c.args.self.now.file) (noted_calls c.sync.new.self) c.in-Ok.ensures.noted refl refl

pub returns-in-Err-clause-seen : goal.returns-in-Err-clause-seen
returns-in-Err-clause-seen g c = ap seen_after c.in-Err.ensures.noted

pub returns-in-Err-clause-crash : goal.returns-in-Err-clause-crash
returns-in-Err-clause-crash g c =
    sync_keeps (noted_calls c.args.self.now.file) (noted_calls c.sync.new.self) c.args.self.now.within false c.requires.usable c.in-Err.ensures.noted

pub returns-in-Err-clause-time : goal.returns-in-Err-clause-time
returns-in-Err-clause-time g c = elapses_to (sync_call false) (noted_calls c.args.self.now.file) (noted_calls c.sync.new.self) c.in-Err.ensures.noted

pub returns-in-Err-clause-cause : goal.returns-in-Err-clause-cause
returns-in-Err-clause-cause g c = call_failed (sync_call false) (noted_calls c.args.self.now.file) (noted_calls c.sync.new.self) c.in-Err.ensures.noted refl refl
