use Rattle.std.specs.Prelude.{string_bytes, IfSome}
use Rattle.std.proofs.Common.{◌≡◌, ◌∷◌, [], Option, Some, inl, inr, subst, ◌∙◌}
use Rattle.cedar_disk.specs.FileDevices.{device_opening}
use Rattle.cedar_disk.specs.Openings.{opened_existing}
use Rattle.cedar_salvage.proofs.keep.keep_beside.Goals as goal

-- what holds of a value if there is one holds of the one that is there
of_some : {X : Type 0} (found : Option X) (value : X) (P : X → Type 0) → found ≡ Some value → IfSome found P → P value
of_some found value P is holds = subst (λ x. IfSome x P) is holds

pub returns-in-Some-clause-named : goal.returns-in-Some-clause-named
returns-in-Some-clause-named g c =
    inr (of_some _ c.in-Some.held (λ kept. device_opening kept.device ≡ opened_existing (string_bytes kept.path) ∷ []) c.in-Some.is c.in_ok-held.ensures.named)

pub returns-in-Ok-clause-named : goal.returns-in-Ok-clause-named
returns-in-Ok-clause-named g c = inl (c.in-Ok.ensures.opening ∙ c.in_ok-kept.ensures.named)
