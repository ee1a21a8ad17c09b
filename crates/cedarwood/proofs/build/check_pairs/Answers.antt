use Rattle.std.proofs.Common.{◌≡◌, ◌<◌, ◌+◌, ◌∙◌, ℕ, List, sym, subst, get_or, drop, length, None, Option}
use Rattle.std.proofs.lemmas.Result.{err_from_is_err_and}
use Rattle.cedarwood.specs.declared.error.CedarError.{CedarError}
use Rattle.cedar_tree.specs.Queries.{Entry}
use Rattle.cedar_bulk.specs.Sorted.{entries_by}
use Rattle.cedarwood.specs.Builds.{first_fault}
use Rattle.cedarwood.specs.Fault.{fault}
use Rattle.cedarwood.proofs.FaultLemmas.{key_part, no_fault}
use Rattle.cedarwood.proofs.SortedInputLemmas.{after_sound, as_many, bytes_more, entry_there}
use Rattle.cedarwood.proofs.SortedInputLemmas.{first_fault as fault_told}
use Rattle.cedarwood.proofs.UnsortedLemmas.{fault_at}
use Rattle.cedarwood.proofs.UpdateLemmas.{has_fault}
use Rattle.cedarwood.proofs.build.check_pairs.Goals as goal

pub returns-in_err-check_keyed-clause-faulty : goal.returns-in_err-check_keyed-clause-faulty
returns-in_err-check_keyed-clause-faulty g c =
    let items = g.K.AsSlice.items in
    let es : List Entry = entries_by items c.args.pairs.now in
    let i = c.loop-index.index in
    let pair = c.index-pairs-index.result in
    let e : Entry = (items pair.0, pair.1) in
    let inside : i < length es = subst (λ n. i < n) (sym (as_many items c.args.pairs.now)) c.loop-index-test.true in
    let there = entry_there items c.args.pairs.now i pair c.loop-index-test.true c.index-pairs-index.is in
    let p = err_from_is_err_and c.from_residual.result c.from_residual.ensures.1 in
    let same : c.check_keyed.result ≡ c.from_residual.result = cc (p.1, p.2, c.in_err-check_keyed.was) in
    fault_told (fault e.0 e.1) (first_fault (drop (i + 1) es)) (first_fault es) c.check_keyed.result c.from_residual.result c.in_err-check_keyed.field-0.0
    (c.loop-index.invariant.first ∙ fault_at es i e inside there) c.check_keyed.ensures.faulty c.check_keyed.ensures.sound c.in_err-check_keyed.was same

pub returns-in_err-check_keyed-clause-sound : goal.returns-in_err-check_keyed-clause-sound
returns-in_err-check_keyed-clause-sound g c = λ fine.
    let items = g.K.AsSlice.items in
    let es : List Entry = entries_by items c.args.pairs.now in
    let i = c.loop-index.index in
    let pair = c.index-pairs-index.result in
    let e : Entry = (items pair.0, pair.1) in
    let inside : i < length es = subst (λ n. i < n) (sym (as_many items c.args.pairs.now)) c.loop-index-test.true in
    let there = entry_there items c.args.pairs.now i pair c.loop-index-test.true c.index-pairs-index.is in
    let f : Option CedarError = fault e.0 e.1 in
    let parts = key_part f (first_fault (drop (i + 1) es)) (sym (c.loop-index.invariant.first ∙ fault_at es i e inside there) ∙ fine) in
    absurd (has_fault f c.check_keyed.result c.in_err-check_keyed.field-0.0 c.check_keyed.ensures.sound c.in_err-check_keyed.was parts.0)

pub loop-index-preserved : goal.loop-index-preserved
loop-index-preserved g c =
    let items = g.K.AsSlice.items in
    let es : List Entry = entries_by items c.args.pairs.now in
    let i = c.loop-index.index in
    let pair = c.index-pairs-index.result in
    let e : Entry = (items pair.0, pair.1) in
    let inside : i < length es = subst (λ n. i < n) (sym (as_many items c.args.pairs.now)) c.loop-index-test.true in
    let there = entry_there items c.args.pairs.now i pair c.loop-index-test.true c.index-pairs-index.is in
    let sound : fault e.0 e.1 ≡ None = no_fault (fault e.0 e.1) c.check_keyed.result tt c.check_keyed.ensures.faulty c.in_ok-check_keyed.was in
    record {
      first = c.loop-index.invariant.first ∙ fault_at es i e inside there ∙ after_sound _ (first_fault (drop (i + 1) es)) sound;
      bytes = bytes_more es i e inside c.loop-index.invariant.bytes (subst (λ (x : Entry). (j : ℕ) → get_or x.0 j 0 < 256) (sym there) c.check_keyed.ensures.bytes);
    }
