use Rattle.std.proofs.Common.{◌∙◌, rules, sym}
use Rattle.cedar_model.proofs.EditLemmas.Room.{not_both, one_is}
use Rattle.cedar_edit.proofs.keys.step.is_taken.Goals as goal

pub is_free_slot-requires : goal.is_free_slot-requires
is_free_slot-requires g c = (search rules, (c.requires.slot_in, c.requires.apart (λ e. c.if-base_of-eq0.false (c.base_of.ensures ∙ e))))

pub returns-then-base_of-eq0-clause-open : goal.returns-then-base_of-eq0-clause-open
returns-then-base_of-eq0-clause-open g c = λ _ based. absurd (based (sym c.base_of.ensures ∙ c.if-base_of-eq0.true))

pub returns-clause-taken : goal.returns-clause-taken
returns-clause-taken g c = λ taken. ((λ e. c.if-base_of-eq0.false (c.base_of.ensures ∙ e)), λ free. not_both c.is_free_slot.result taken (c.is_free_slot.ensures.1 free))

pub returns-clause-open : goal.returns-clause-open
returns-clause-open g c = λ n _. c.is_free_slot.ensures.0 (one_is c.is_free_slot.result n)

pub returns-then-base_of-eq0-clause-taken : goal.returns-then-base_of-eq0-clause-taken
returns-then-base_of-eq0-clause-taken g c = λ yes. absurd (cc)
