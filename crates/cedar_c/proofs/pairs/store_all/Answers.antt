use Rattle.std.proofs.Common.{rules, ◌≡◌, ◌∙◌, List, None, Err, IsSome, IfSome, IfErr, OnOk, map, subst, ap}
use Rattle.cedarwood.specs.Queries.{Entry}
use Rattle.cedarwood.specs.Sorted.{entries_of}
use Rattle.cedarwood.specs.Builds.{all_stored, first_fault, IsRefusedBuild}
use Rattle.cedar_c.specs.Pairs.{entries_in, taken_pair}
use Rattle.cedar_c.proofs.PairLemmas.{all_in_use, entries_taken, faulty_keeps, first_no_shortage, front_stored, part_stored, refused_shortage}
use Rattle.cedar_c.proofs.pairs.store_all.Goals as goal

pub returns-in-Some-clause-faulty : goal.returns-in-Some-clause-faulty
returns-in-Some-clause-faulty g c =
    let same : c.as_slice.result.now ≡ map taken_pair c.args.pairs.now = search rules in
    let is : entries_of c.as_slice.result.now ≡ entries_in c.args.pairs.now = ap entries_of same ∙ entries_taken c.args.pairs.now in
    let before = c.args.trie.now in
    let after = c.build_bytes.new.self in
    let result = c.build_bytes.result in
    let kept = subst (λ (es : List Entry). IsSome (first_fault es) → after ≡ before) is c.build_bytes.ensures.unchanged in
    let faulty = subst (λ (es : List Entry). IfSome (first_fault es) (λ e. result ≡ Err e)) is c.build_bytes.ensures.faulty in
    faulty_keeps g.row.SLOTS before after (entries_in c.args.pairs.now) (first_fault (entries_in c.args.pairs.now)) result kept faulty

pub returns-in-Some-clause-front : goal.returns-in-Some-clause-front
returns-in-Some-clause-front g c =
    let same : c.as_slice.result.now ≡ map taken_pair c.args.pairs.now = search rules in
    let is : entries_of c.as_slice.result.now ≡ entries_in c.args.pairs.now = ap entries_of same ∙ entries_taken c.args.pairs.now in
    let before = c.args.trie.now in
    let after = c.build_bytes.new.self in
    let result = c.build_bytes.result in
    let kept = subst (λ (es : List Entry). IsSome (first_fault es) → after ≡ before) is c.build_bytes.ensures.unchanged in
    let stored = subst (λ (es : List Entry). OnOk result (after.state ≡ all_stored before.state es)) is c.build_bytes.ensures.stored in
    let refused = subst (λ (es : List Entry). first_fault es ≡ None → IfErr result (IsRefusedBuild g.row.SLOTS before after es)) is c.build_bytes.ensures.refused in
    front_stored g.row.SLOTS before after (entries_in c.args.pairs.now) (first_fault (entries_in c.args.pairs.now)) result kept stored refused

pub returns-in-Some-clause-refused : goal.returns-in-Some-clause-refused
returns-in-Some-clause-refused g c =
    let same : c.as_slice.result.now ≡ map taken_pair c.args.pairs.now = search rules in
    let is : entries_of c.as_slice.result.now ≡ entries_in c.args.pairs.now = ap entries_of same ∙ entries_taken c.args.pairs.now in
    let before = c.args.trie.now in
    let after = c.build_bytes.new.self in
    let refused = subst (λ (es : List Entry). first_fault es ≡ None → IfErr c.build_bytes.result (IsRefusedBuild g.row.SLOTS before after es)) is c.build_bytes.ensures.refused in
    λ none. refused_shortage g.row.SLOTS before after (entries_in c.args.pairs.now) c.build_bytes.result (refused none)

pub returns-in-Some-clause-limit : goal.returns-in-Some-clause-limit
returns-in-Some-clause-limit g c =
    let same : c.as_slice.result.now ≡ map taken_pair c.args.pairs.now = search rules in
    let is : entries_of c.as_slice.result.now ≡ entries_in c.args.pairs.now = ap entries_of same ∙ entries_taken c.args.pairs.now in
    let before = c.args.trie.now in
    let after = c.build_bytes.new.self in
    let result = c.build_bytes.result in
    let faulty = subst (λ (es : List Entry). IfSome (first_fault es) (λ e. result ≡ Err e)) is c.build_bytes.ensures.faulty in
    let refused = subst (λ (es : List Entry). first_fault es ≡ None → IfErr result (IsRefusedBuild g.row.SLOTS before after es)) is c.build_bytes.ensures.refused in
    all_in_use g.row.SLOTS before after (entries_in c.args.pairs.now) (first_fault (entries_in c.args.pairs.now)) (first_no_shortage (entries_in c.args.pairs.now)) result faulty refused

pub returns-in-Some-clause-part : goal.returns-in-Some-clause-part
returns-in-Some-clause-part g c =
    let same : c.as_slice.result.now ≡ map taken_pair c.args.pairs.now = search rules in
    let is : entries_of c.as_slice.result.now ≡ entries_in c.args.pairs.now = ap entries_of same ∙ entries_taken c.args.pairs.now in
    let before = c.args.trie.now in
    let after = c.build_bytes.new.self in
    let result = c.build_bytes.result in
    let kept = subst (λ (es : List Entry). IsSome (first_fault es) → after ≡ before) is c.build_bytes.ensures.unchanged in
    let refused = subst (λ (es : List Entry). first_fault es ≡ None → IfErr result (IsRefusedBuild g.row.SLOTS before after es)) is c.build_bytes.ensures.refused in
    part_stored g.row.SLOTS before after (entries_in c.args.pairs.now) (first_fault (entries_in c.args.pairs.now)) result kept refused
