use Rattle.std.proofs.Common.{rules, ◌≡◌, ◌∙◌, List, None, Err, IfSome, IfOk, IfErr, map, subst, ap}
use Rattle.cedarwood.specs.Queries.{Entry}
use Rattle.cedarwood.specs.Sorted.{entries_of}
use Rattle.cedarwood.specs.Words.{IsSorted, most_slots}
use Rattle.either_layout.specs.Builds.{IsBuildShortage}
use Rattle.either_layout.specs.Layouts.{inner_dictionary, inner_layout}
use Rattle.cedar_c.specs.Pairs.{build_fault, entries_in, taken_pair}
use Rattle.cedar_c.proofs.PairLemmas.{entries_taken, fault_answered}
use Rattle.cedar_c.proofs.builds.of_pairs.Goals as goal

pub returns-in-Some-clause-faulty : goal.returns-in-Some-clause-faulty
returns-in-Some-clause-faulty c =
    let same : c.as_slice.result.now ≡ map taken_pair c.args.pairs.now = search rules in
    let is : entries_of c.as_slice.result.now ≡ entries_in c.args.pairs.now = ap entries_of same ∙ entries_taken c.args.pairs.now in
    let result = c.build_taken.result in
    let faulty = subst (λ (es : List Entry). IfSome (build_fault c.args.wanted.is_sorted es) (λ e. result ≡ Err e)) is c.build_taken.ensures.faulty in
    fault_answered (build_fault c.args.wanted.is_sorted (entries_in c.args.pairs.now)) result faulty

pub returns-in-Some-clause-made : goal.returns-in-Some-clause-made
returns-in-Some-clause-made c =
    let same : c.as_slice.result.now ≡ map taken_pair c.args.pairs.now = search rules in
    let is : entries_of c.as_slice.result.now ≡ entries_in c.args.pairs.now = ap entries_of same ∙ entries_taken c.args.pairs.now in
    let result = c.build_taken.result in
    subst (λ (es : List Entry). IfOk result (λ a. IsSorted (inner_layout a) c.args.settings es (inner_dictionary a))) is c.build_taken.ensures.made

pub returns-in-Some-clause-refused : goal.returns-in-Some-clause-refused
returns-in-Some-clause-refused c =
    let same : c.as_slice.result.now ≡ map taken_pair c.args.pairs.now = search rules in
    let is : entries_of c.as_slice.result.now ≡ entries_in c.args.pairs.now = ap entries_of same ∙ entries_taken c.args.pairs.now in
    let result = c.build_taken.result in
    subst (λ (es : List Entry). build_fault c.args.wanted.is_sorted es ≡ None → IfErr result (λ e. IsBuildShortage most_slots es e)) is c.build_taken.ensures.refused
