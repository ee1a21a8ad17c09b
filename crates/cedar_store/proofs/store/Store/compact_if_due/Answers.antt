use Rattle.std.proofs.Common.{◌≡◌, inl, inr, ⊎_elim, refl, rules, true}
use Rattle.std.proofs.lemmas.Result.{on_ok_weaker}
use Rattle.cedar_store.specs.Shortening.{is_due}
use Rattle.cedar_store.proofs.Compacted.{just_looked_at, never_itself, still_usable}
use Rattle.cedar_store.proofs.Shortened.{kept_before}
use Rattle.cedar_store.proofs.store.Store.compact_if_due.Goals as goal

pub replace_if_shorter-requires-clause-made : goal.replace_if_shorter-requires-clause-made
replace_if_shorter-requires-clause-made g c = c.in-Ok.ensures.made c.requires.ordered

pub returns-in-Ok-clause-due : goal.returns-in-Ok-clause-due
returns-in-Ok-clause-due g c = just_looked_at c.replace_if_shorter.result _ _ _ _ c.replace_if_shorter.ensures.done

pub returns-in-Ok-clause-done : goal.returns-in-Ok-clause-done
returns-in-Ok-clause-done g c = still_usable c.replace_if_shorter.result _ _ _ c.replace_if_shorter.ensures.done

pub returns-in-Err-clause-due : goal.returns-in-Err-clause-due
returns-in-Err-clause-due g c = never_itself c.args.self.now.compaction c.args.self.now.journal.end

pub returns-in-Ok-clause-looked_after : goal.returns-in-Ok-clause-looked_after
returns-in-Ok-clause-looked_after g c =
    let old = c.args.self.now in
    let due : is_due old old.journal.end ≡ true = search rules in
    on_ok_weaker c.replace_if_shorter.result (λ seen_to. inr (due, seen_to)) c.replace_if_shorter.ensures.looked_at

pub returns-in-Ok-clause-recorded : goal.returns-in-Ok-clause-recorded
returns-in-Ok-clause-recorded g c =
    let old = c.args.self.now in
    let due : is_due old old.journal.end ≡ true = search rules in
    on_ok_weaker c.replace_if_shorter.result (⊎_elim (λ same. inl same) (λ short. inr (due, short))) c.replace_if_shorter.ensures.recorded

pub returns-in-Err-clause-looked_after : goal.returns-in-Err-clause-looked_after
returns-in-Err-clause-looked_after g c =
    let old = c.args.self.now in
    let faults = g.D.Device.faults in
    let due : is_due old old.journal.end ≡ true = search rules in
    inr (due, (refl, inr (inr (c.in-Err.error, refl, kept_before (faults old.journal.device) (faults old.journal.device) c.in-Err.error c.in-Err.ensures.cause))))

pub returns-in-Ok-clause-counted : goal.returns-in-Ok-clause-counted
returns-in-Ok-clause-counted g c = λ was. c.replace_if_shorter.ensures.counted was
