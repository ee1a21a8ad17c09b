-- What a step that may make a block returns.
use Rattle.std.specs.Prelude.{ℕ, IfErr, OnErr, Result}
use Rattle.cedar_slots.specs.declared.shortage.Shortage.{Shortage}
use Rattle.cedar_slots.specs.Places.{MayRefuse, SameSlots}
use Rattle.cedar_model.specs.Edit.Steps.{MayAddBlock}
use Rattle.cedar_model.specs.Table.TableFields.{Fields}

-- one block is made at most. A step that is refused says what there is too little of, and leaves all slots as they
-- were
pub record MayMakeBlock {X : Type 0} (slots : ℕ) (before after : Fields) (result : Result X Shortage) : Type 0 where
  pub refused : IfErr result (λ error. MayRefuse after.places slots error)
  pub unchanged : OnErr result (SameSlots before.places after.places)
  pub growth : MayAddBlock before after
