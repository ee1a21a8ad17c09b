-- What is accepted stays so.
use Rattle.std.specs.Prelude.{IsSome, Option, None, Some}
use Rattle.std.proofs.Common.{◌≡◌, inl, inr, List, ℕ, refl, sym, subst}
use Rattle.cedar_journal.specs.declared.records.Extent.{Extent}
use Rattle.cedar_journal.specs.declared.records.Extent.TheVariants.{New, Until}
use Rattle.cedar_journal.specs.Files.{HasExtent, with_payload, file_payloads}
use Rattle.cedar_journal.specs.Laws.{IsAccepted, MayBeLeft}

is_some : (o : Option (List (List ℕ))) (ps : List (List ℕ)) → o ≡ Some ps → IsSome o
is_some o ps is = subst IsSome (sym is) refl

pub extent_accepted : (file : List ℕ) (extent : Extent) → HasExtent file extent → IsAccepted file
extent_accepted file New new = is_some (file_payloads file) _ new.stands
extent_accepted file (Until format end) records = is_some (file_payloads file) _ records.stands

some_added : (payload : List ℕ) (o : Option (List (List ℕ))) → IsSome o → IsSome (with_payload payload o)
some_added payload None some = some
some_added payload (Some ps) some = refl

pub crash_accepted : (file c : List ℕ) → IsAccepted file → MayBeLeft file c → IsAccepted c
crash_accepted file c was (inl (payload, inl before)) = subst IsSome (sym before) was
crash_accepted file c was (inl (payload, inr after)) = subst IsSome (sym after) (some_added payload (file_payloads file) was)
crash_accepted file c was (inr (payloads, inl before)) = subst IsSome (sym before) was
crash_accepted file c was (inr (payloads, inr after)) = is_some (file_payloads c) payloads after
