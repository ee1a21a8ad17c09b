use Rattle.std.proofs.Common.{List, true, false, refl, subst, sym, ◌∙◌, ap}
use Rattle.std.specs.Prelude.{IsTrue}
use Rattle.std.proofs.lemmas.Bool.{false≢true, le-leb, and_from}
use Rattle.cedar_disk.specs.NotedFiles.{noted_calls}
use Rattle.whole_files.specs.Calls.{Call, all_within, is_named_after, is_usable_after, seen_after, truncate_call}
use Rattle.cedar_disk.proofs.Causes.{call_done, call_failed}
use Rattle.cedar_disk.proofs.Steps.{cut_follows, elapses_to}
use Rattle.cedar_disk.proofs.account.Account.cut.Goals as goal

pub invariant_of-self : goal.invariant_of-self
invariant_of-self g c =
    let noted = c.in-Ok.ensures.noted in
    record {
      usable = λ _. subst (λ (l : List Call). IsTrue (is_usable_after l)) (sym noted) (and_from _ _ c.requires.usable refl);
      known = λ is. subst (λ (l : List Call). IsTrue (is_named_after l)) (sym noted) (c.args.self.now.known is);
      lost = λ is. ap is_named_after noted ∙ c.args.self.now.lost is;
      clean = λ is. absurd (false≢true (sym is));
      within = subst (λ (l : List Call). IsTrue (all_within l)) (sym noted) (and_from _ _ (le-leb _ _ c.requires.within) c.args.self.now.within);
      placed = c.in-Ok.ensures.name ∙ c.args.self.now.placed;
    }

pub invariant_of-self-in-Err : goal.invariant_of-self-in-Err
invariant_of-self-in-Err g c = record {
  usable = λ is. absurd (false≢true (sym is));
  known = λ is. subst (λ (l : List Call). IsTrue (is_named_after l)) (sym c.in-Err.ensures.noted) (c.args.self.now.known is);
  lost = λ is. ap is_named_after c.in-Err.ensures.noted ∙ c.args.self.now.lost is;
  clean = λ is. absurd (false≢true (sym is));
  within = subst (λ (l : List Call). IsTrue (all_within l)) (sym c.in-Err.ensures.noted) (and_from _ _ (le-leb _ _ c.requires.within) c.args.self.now.within);
  placed = c.in-Err.ensures.name ∙ c.args.self.now.placed;
}

pub returns-in-Ok-clause-cut : goal.returns-in-Ok-clause-cut
returns-in-Ok-clause-cut g c = ap seen_after c.in-Ok.ensures.noted

pub returns-in-Ok-clause-crash : goal.returns-in-Ok-clause-crash
returns-in-Ok-clause-crash g c = cut_follows (noted_calls c.args.self.now.file) (noted_calls c.cut.new.self) c.args.len true c.in-Ok.ensures.noted

pub returns-in-Ok-clause-time : goal.returns-in-Ok-clause-time
returns-in-Ok-clause-time g c = elapses_to (truncate_call c.args.len true) (noted_calls c.args.self.now.file) (noted_calls c.cut.new.self) c.in-Ok.ensures.noted

pub returns-in-Ok-clause-cause : goal.returns-in-Ok-clause-cause
returns-in-Ok-clause-cause g c = call_done (truncate_call c.args.len true) (noted_calls c.args.self.now.file) (noted_calls c.cut.new.self) c.in-Ok.ensures.noted refl refl

pub returns-in-Err-clause-crash : goal.returns-in-Err-clause-crash
returns-in-Err-clause-crash g c = cut_follows (noted_calls c.args.self.now.file) (noted_calls c.cut.new.self) c.args.len false c.in-Err.ensures.noted

pub returns-in-Err-clause-time : goal.returns-in-Err-clause-time
returns-in-Err-clause-time g c = elapses_to (truncate_call c.args.len false) (noted_calls c.args.self.now.file) (noted_calls c.cut.new.self) c.in-Err.ensures.noted

pub returns-in-Err-clause-cause : goal.returns-in-Err-clause-cause
returns-in-Err-clause-cause g c = call_failed (truncate_call c.args.len false) (noted_calls c.args.self.now.file) (noted_calls c.cut.new.self) c.in-Err.ensures.noted refl refl
