use Rattle.std.proofs.Common.{FitsSigned, inl, inr, pos, refl, rules, w16, w32}
use Rattle.cedar_slots.proofs.Casts.{bits_of, cast_least, cast_most, cast_within}
use Rattle.cedar_slots.specs.Views.{blocks_of}
use Rattle.cedar_file.proofs.ChecksLemmas.PlacesRead.{range_from}
use Rattle.cedar_file.proofs.check.lists.check_range.Goals as goal

pub returns-clause-answer : goal.returns-clause-answer
returns-clause-answer g c =
    let reject : FitsSigned w16 c.read_block-record.result.reject = search rules in
    let trial : FitsSigned w32 c.read_block-record.result.trial = search rules in
    let most : FitsSigned w32 c.args.blocks.now.max_trial = search rules in (
      range_from (blocks_of c.args.blocks.now) c.args.block c.read_block-record.result c.read_block-record.ensures.value
          (cast_least w16 _ reject (pos 1) c.if-record-lt1.false) (cast_most w16 _ reject (pos 257) c.if-record-gt257.false)
          (cast_least w32 _ trial (pos 0) c.if-record-lt0.false) (cast_within w32 _ _ trial most c.if-record-blocks.false)
          (λ root. elim c.else-block-eq0.either [ inl both ↦ bits_of w32 _ trial 0 (search rules) both.1 | inr other ↦ absurd (other root) ]),
      refl,
    )

pub returns-clause-cost : goal.returns-clause-cost
returns-clause-cost g c = search rules
