use Rattle.cedar_journal.proofs.Moments.{weakens}
use Rattle.cedar_store.proofs.Compacted.{only_state}
use Rattle.cedar_store.proofs.store.Store.replace_if_shorter.Goals as goal

pub returns-in-Ok-clause-ready : goal.returns-in-Ok-clause-ready
returns-in-Ok-clause-ready g c = c.put_in_place.ensures.ready (record { ordered = c.requires.ordered; consistent = λ _. c.requires.consistent })

pub returns-in-Err-Kept-clause-ready : goal.returns-in-Err-Kept-clause-ready
returns-in-Err-Kept-clause-ready g c = c.put_in_place.ensures.ready (record { ordered = c.requires.ordered; consistent = λ _. c.requires.consistent })

pub returns-in-Err-Failed-clause-ready : goal.returns-in-Err-Failed-clause-ready
returns-in-Err-Failed-clause-ready g c = c.put_in_place.ensures.ready (record { ordered = c.requires.ordered; consistent = λ _. c.requires.consistent })

pub returns-in-Ok-clause-any_moment : goal.returns-in-Ok-clause-any_moment
returns-in-Ok-clause-any_moment g c =
    let d = g.D.Device in
    let old = c.args.self.now in
    weakens d.moment d.left_since old.journal.device c.put_in_place.new.self.journal.device _ _
    (only_state d.seen d.may_leave old.journal.device old.journal.format old.journal.end (g.T.Words.state old.words) c.requires.consistent) c.put_in_place.ensures.any_moment

pub returns-in-Err-Kept-clause-any_moment : goal.returns-in-Err-Kept-clause-any_moment
returns-in-Err-Kept-clause-any_moment g c =
    let d = g.D.Device in
    let old = c.args.self.now in
    weakens d.moment d.left_since old.journal.device c.put_in_place.new.self.journal.device _ _
    (only_state d.seen d.may_leave old.journal.device old.journal.format old.journal.end (g.T.Words.state old.words) c.requires.consistent) c.put_in_place.ensures.any_moment

pub returns-in-Err-Failed-clause-any_moment : goal.returns-in-Err-Failed-clause-any_moment
returns-in-Err-Failed-clause-any_moment g c =
    let d = g.D.Device in
    let old = c.args.self.now in
    weakens d.moment d.left_since old.journal.device c.put_in_place.new.self.journal.device _ _
    (only_state d.seen d.may_leave old.journal.device old.journal.format old.journal.end (g.T.Words.state old.words) c.requires.consistent) c.put_in_place.ensures.any_moment

pub returns-in-Ok-clause-counted : goal.returns-in-Ok-clause-counted
returns-in-Ok-clause-counted g c = λ was. c.put_in_place.ensures.counted was

pub returns-in-Err-Kept-clause-counted : goal.returns-in-Err-Kept-clause-counted
returns-in-Err-Kept-clause-counted g c = λ was. c.put_in_place.ensures.counted was

pub returns-in-Err-Failed-clause-counted : goal.returns-in-Err-Failed-clause-counted
returns-in-Err-Failed-clause-counted g c = λ was. c.put_in_place.ensures.counted was
