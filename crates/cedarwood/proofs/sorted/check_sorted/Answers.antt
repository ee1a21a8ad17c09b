use Rattle.std.proofs.Common.{◌≡◌, ◌<◌, ◌+◌, ◌∙◌, ℕ, suc, arith, List, [], sym, ap, subst, get_or, drop, length, None, Option}
use Rattle.std.proofs.lemmas.Result.{err_from_is_err_and}
use Rattle.cedarwood.specs.declared.error.CedarError.{CedarError}
use Rattle.cedar_tree.specs.Queries.{Entry}
use Rattle.cedar_bulk.specs.Sorted.{entries_by}
use Rattle.cedarwood.specs.Fault.{or_else}
use Rattle.cedarwood.specs.SortedInput.{fault_behind, fault_from, HasNoNul, key_at}
use Rattle.cedarwood.proofs.FaultLemmas.{key_part, no_fault}
use Rattle.cedarwood.proofs.SortedInputLemmas.{after_sound, as_many, bytes_more, clean_behind, entry_there, fault_step, first_fault, key_at_last}
use Rattle.cedarwood.proofs.UpdateLemmas.{has_fault}
use Rattle.cedarwood.proofs.sorted.check_sorted.Goals as goal

-- the fault from an entry on is its own, or a later one's
turn : (before : List ℕ) (es : List Entry) (i : ℕ) (e : Entry) → i < length es → get_or es i e ≡ e → before ≡ key_at [] es i
    → fault_from i (key_at [] es i) (drop i es) ≡ or_else (fault_behind i before e.0 e.1) (fault_from (i + 1) (key_at [] es (i + 1)) (drop (i + 1) es))
turn before es i e inside there is =
    fault_step es i e inside
    ∙ ap (λ (x : Entry). or_else (fault_behind i (key_at [] es i) x.0 x.1) (fault_from (i + 1) (key_at [] es (i + 1)) (drop (i + 1) es))) there
    ∙ ap (λ k. or_else (fault_behind i k e.0 e.1) (fault_from (i + 1) (key_at [] es (i + 1)) (drop (i + 1) es))) (sym is)

pub returns-in_err-check_behind-clause-faulty : goal.returns-in_err-check_behind-clause-faulty
returns-in_err-check_behind-clause-faulty g c =
    let items = g.K.AsSlice.items in
    let es : List Entry = entries_by items c.args.pairs.now in
    let i = c.loop-index.index in
    let pair = c.index-pairs-index.result in
    let e : Entry = (items pair.0, pair.1) in
    let inside : i < length es = subst (λ n. i < n) (sym (as_many items c.args.pairs.now)) c.loop-index-test.true in
    let p = err_from_is_err_and c.from_residual.result c.from_residual.ensures.1 in
    let same : c.check_behind.result ≡ c.from_residual.result = cc (p.1, p.2, c.in_err-check_behind.was) in
    first_fault (fault_behind i c.key_before-before.result.now e.0 e.1) (fault_from (i + 1) (key_at [] es (i + 1)) (drop (i + 1) es)) (fault_from 0 [] es) c.check_behind.result c.from_residual.result c.in_err-check_behind.field-0.0
    (c.loop-index.invariant.first ∙ turn c.key_before-before.result.now es i e inside (entry_there items c.args.pairs.now i pair c.loop-index-test.true c.index-pairs-index.is) c.key_before-before.ensures)
    c.check_behind.ensures.faulty c.check_behind.ensures.sound c.in_err-check_behind.was same

pub returns-in_err-check_behind-clause-sound : goal.returns-in_err-check_behind-clause-sound
returns-in_err-check_behind-clause-sound g c = λ fine.
    let items = g.K.AsSlice.items in
    let es : List Entry = entries_by items c.args.pairs.now in
    let i = c.loop-index.index in
    let pair = c.index-pairs-index.result in
    let e : Entry = (items pair.0, pair.1) in
    let inside : i < length es = subst (λ n. i < n) (sym (as_many items c.args.pairs.now)) c.loop-index-test.true in
    let step = turn c.key_before-before.result.now es i e inside (entry_there items c.args.pairs.now i pair c.loop-index-test.true c.index-pairs-index.is) c.key_before-before.ensures in
    let f : Option CedarError = fault_behind i c.key_before-before.result.now e.0 e.1 in
    let parts = key_part f (fault_from (i + 1) (key_at [] es (i + 1)) (drop (i + 1) es)) (sym (c.loop-index.invariant.first ∙ step) ∙ fine) in
    absurd (has_fault f c.check_behind.result c.in_err-check_behind.field-0.0 c.check_behind.ensures.sound c.in_err-check_behind.was parts.0)

pub loop-index-preserved : goal.loop-index-preserved
loop-index-preserved g c =
    let items = g.K.AsSlice.items in
    let es : List Entry = entries_by items c.args.pairs.now in
    let i = c.loop-index.index in
    let pair = c.index-pairs-index.result in
    let e : Entry = (items pair.0, pair.1) in
    let inside : i < length es = subst (λ n. i < n) (sym (as_many items c.args.pairs.now)) c.loop-index-test.true in
    let there = entry_there items c.args.pairs.now i pair c.loop-index-test.true c.index-pairs-index.is in
    let sound : fault_behind i c.key_before-before.result.now e.0 e.1 ≡ None = no_fault (fault_behind i c.key_before-before.result.now e.0 e.1) c.check_behind.result tt c.check_behind.ensures.faulty c.in_ok-check_behind.was in
    let next : i + 1 ≡ suc i = omega arith in
    record {
      first = c.loop-index.invariant.first ∙ turn c.key_before-before.result.now es i e inside there c.key_before-before.ensures ∙ after_sound _ (fault_from (i + 1) (key_at [] es (i + 1)) (drop (i + 1) es)) sound;
      bytes = bytes_more es i e inside c.loop-index.invariant.bytes (subst (λ (x : Entry). (j : ℕ) → get_or x.0 j 0 < 256) (sym there) c.in_ok-check_behind.ensures.bytes);
      clean = subst HasNoNul (sym (ap (key_at [] es) next ∙ key_at_last [] es i e inside ∙ ap (λ (x : Entry). x.0) there)) (clean_behind i c.key_before-before.result.now e.0 e.1 sound c.in_ok-check_behind.ensures.bytes);
    }
