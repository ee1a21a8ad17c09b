-- Some keys that weren't removed.
use Rattle.std.proofs.Common.{◌<◌, ℕ, List, length, Err, refl}
use Rattle.cedarwood.specs.Dictionary.{Dictionary}
use Rattle.cedarwood.specs.declared.error.CedarError.TheVariants.{Memory}
use Rattle.cedar_calls.specs.Changes.{IsErasedBatch}

-- nothing changes if there is no memory to say what was held
pub none_erased : {A : Type 0} (d : Dictionary) (keys : List (List ℕ)) → 0 < length keys → IsErasedBatch {A = A} d d keys (Err Memory)
none_erased d keys some = record { erasures = tt; held = tt; state = tt; size = (refl, refl); max_trial = refl; search_limit = refl; refused = (refl, refl, some) }
