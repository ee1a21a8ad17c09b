use denote.Param.{copied, number, param}
use Rattle.std.proofs.Common.{◌≡◌, ◌∙◌, ap, arith, sym, rules, None, Err, FitsSigned, Option, [], w32}
use Rattle.std.proofs.lemmas.Int.{to_z-of_z}
use Rattle.std.proofs.lemmas.Result.{err_from_is_err_and}
use Rattle.cedar_bulk.specs.Sorted.{entries_by}
use Rattle.cedarwood.specs.declared.error.CedarError.{CedarError}
use Rattle.cedarwood.specs.SortedInput.{fault_from}
use Rattle.cedar_model.proofs.MeaningLemmas.HeldCount.{count_is_marked}
use Rattle.cedarwood.proofs.DictionaryLemmas.{limit_of}
use Rattle.cedarwood.proofs.FaultLemmas.{no_fault}
use Rattle.cedarwood.proofs.GrowthLemmas.{capacity_by_blocks}
use Rattle.cedarwood.proofs.MakingLemmas.{refused_build}
use Rattle.cedarwood.proofs.SortedInputLemmas.{fault_handed_on, faultless, sorted_from}
use Rattle.cedarwood.proofs.UpdateLemmas.{has_fault}
use Rattle.cedarwood.proofs.MemoryLemmas.{table_fits}
use Rattle.cedarwood.proofs.trie.Trie.from_sorted_keys.Goals as goal

pub returns-in_err-check_sorted : goal.returns-in_err-check_sorted
returns-in_err-check_sorted g c =
    let p = err_from_is_err_and c.from_residual.result c.from_residual.ensures.1 in
    let first : Option CedarError = fault_from 0 [] (entries_by g.K.AsSlice.items c.args.pairs.now) in
    let test = c.check_sorted in
    let error = c.in_err-check_sorted in
    record {
      built = record {
        faulty = fault_handed_on first test.result c.from_residual.result error.field-0.0 test.ensures.faulty test.ensures.sound error.was (p.1 ∙ ap Err p.2);
        sorted = search rules;
        refused = λ fine. absurd (has_fault first test.result error.field-0.0 test.ensures.sound error.was fine);
      };
    }

pub build_sorted-requires : goal.build_sorted-requires
build_sorted-requires g c =
    let first : Option CedarError = fault_from 0 [] (entries_by g.K.AsSlice.items c.args.pairs.now) in
    let fine : first ≡ None = no_fault first c.check_sorted.result tt c.check_sorted.ensures.faulty c.in_ok-check_sorted.was in
    let k = sorted_from 0 [] (entries_by g.K.AsSlice.items c.args.pairs.now) c.in_ok-check_sorted.ensures.bytes fine in
    (table_fits (param 0 g.row.L) (param 1 (number g.row.SLOTS)) (copied 2 g.row.A) g.L.Layout g.A.Allocator (search), (search rules, (limit_of g.row.SLOTS c.requires.limit, (k.keys, (k.sorted, k.values)))))

pub returns-in_err-build_sorted : goal.returns-in_err-build_sorted
returns-in_err-build_sorted g c =
    let pairs = entries_by g.K.AsSlice.items c.args.pairs.now in
    let first : Option CedarError = fault_from 0 [] pairs in
    let fine : first ≡ None = no_fault first c.check_sorted.result tt c.check_sorted.ensures.faulty c.in_ok-check_sorted.was in
    let refusal = c.from_residual-in_err-build_sorted in
    let p = err_from_is_err_and refusal.result refusal.ensures.1 in
    record { built = refused_build g.L.Layout.kind g.row.SLOTS c.args.builder pairs refusal.result p.0 c.in_err-build_sorted.field-0.0 fine p.1 p.2 c.in_err-build_sorted.ensures.refused }

pub returns : goal.returns
returns g c =
    let first : Option CedarError = fault_from 0 [] (entries_by g.K.AsSlice.items c.args.pairs.now) in
    let fine : first ≡ None = no_fault first c.check_sorted.result tt c.check_sorted.ensures.faulty c.in_ok-check_sorted.was in
    let e = c.in_ok-build_sorted.ensures in
    let b = e.blocks in
    let fits : FitsSigned w32 c.args.builder.max_trial = search rules in
    let held = count_is_marked g.row.SLOTS _ e.well_formed in
    record {
      built = record {
        faulty = faultless first _ fine;
        sorted = record { tree = e.tree; marks = e.marks; ordered = e.ordered; max_trial = e.max_trial ∙ to_z-of_z w32 c.args.builder.max_trial fits; search_limit = search rules; size = (b.0, b.1, b.2, b.3 ∙ sym (capacity_by_blocks b.0 1 1)); packed = omega (arith, held, e.packed) };
        refused = search rules;
      };
    }
