use Rattle.std.proofs.Common.{nat_eq, refl}
use Rattle.std.specs.List.{starts_with}
use Rattle.cedar_tree.specs.Queries.{Entry, walk}
use Rattle.cedar_tree.proofs.MemberLemmas.{from_filter, into_filter}
use Rattle.cedarwood.proofs.RangeLawLemmas.{passes}
use Rattle.cedarwood.proofs.laws.prefixed_are_of_all_entries.Goals as goal

pub returns-clause-held : goal.returns-clause-held
returns-clause-held c = λ tree prefix e. (
  λ among. (
    from_filter (λ (x : Entry). starts_with nat_eq x.0 prefix) (walk tree) e among,
    passes (λ (x : Entry). starts_with nat_eq x.0 prefix) (walk tree) e among,
  ),
  λ both. into_filter (λ (x : Entry). starts_with nat_eq x.0 prefix) (walk tree) e both.1 both.0,
)

pub returns-clause-predicted : goal.returns-clause-predicted
returns-clause-predicted c = λ tree prefix. refl
