use Rattle.std.proofs.Common.{◌≤◌, ◌<◌, ◌∙◌, ℤ, [], Err, FitsSigned, Ok, Result, arith, get_or, length, pos, rules, subst, sym, take, w32}
use Rattle.std.proofs.lemmas.Int.{to_z-of_z}
use Rattle.cedar_bulk.specs.Sorted.{Pair, entries_of}
use Rattle.cedarwood.specs.declared.error.CedarError.{CedarError}
use Rattle.cedarwood.specs.Updates.{IsUpdate}
use Rattle.cedarwood.proofs.BatchLemmas.{all_built, entry_count, update_more, update_there}
use Rattle.cedarwood.proofs.BuildLemmas.{built, kept, limit_kept}
use Rattle.cedarwood.proofs.trie.Trie.update_batch.Goals as goal

-- what follows the pairs
abbrev blank : Pair
blank = (record { ref_ptr = (0, 0); now = [] }, pos 0)

pub returns-in-Err-clause-updates : goal.returns-in-Err-clause-updates
returns-in-Err-clause-updates g c =
    let ps = c.args.pairs.now in
    let i = c.loop-index.index in
    let fits : FitsSigned w32 (get_or ps i blank).1 = search rules in
    let r : Result (Unit {0}) CedarError = Err c.in-Err.error in
    record {
      within = subst (λ n. i < n) (sym (entry_count ps)) c.loop-index-test.true;
      steps = (
        c.loop-index.self,
        c.loop-index.invariant,
        update_there g.L.Layout.kind g.row.SLOTS c.loop-index.self c.update_bytes.new.self ps i blank r c.loop-index-test.true
            (subst (λ (v : ℤ). IsUpdate g.L.Layout.kind g.row.SLOTS c.loop-index.self c.update_bytes.new.self (get_or ps i blank).0.now v r) (to_z-of_z w32 (get_or ps i blank).1 fits) c.in-Err.ensures.updated),
      );
    }

pub returns-in-Err-clause-refused : goal.returns-in-Err-clause-refused
returns-in-Err-clause-refused g c =
    c.in-Err.ensures.updated.err ∙ built g.L.Layout.kind g.row.SLOTS c.args.self.now (take c.loop-index.index (entries_of c.args.pairs.now)) (Ok tt) c.loop-index.self c.loop-index.invariant

pub returns-in-Err-clause-max_trial : goal.returns-in-Err-clause-max_trial
returns-in-Err-clause-max_trial g c =
    c.in-Err.ensures.updated.max_trial ∙ kept g.L.Layout.kind g.row.SLOTS c.args.self.now (take c.loop-index.index (entries_of c.args.pairs.now)) (Ok tt) c.loop-index.self c.loop-index.invariant

pub returns-in-Err-clause-search_limit : goal.returns-in-Err-clause-search_limit
returns-in-Err-clause-search_limit g c =
    c.in-Err.ensures.updated.search_limit ∙ limit_kept g.L.Layout.kind g.row.SLOTS c.args.self.now (take c.loop-index.index (entries_of c.args.pairs.now)) (Ok tt) c.loop-index.self c.loop-index.invariant

pub loop-index-preserved : goal.loop-index-preserved
loop-index-preserved g c =
    let ps = c.args.pairs.now in
    let i = c.loop-index.index in
    let fits : FitsSigned w32 (get_or ps i blank).1 = search rules in
    let r : Result (Unit {0}) CedarError = Ok tt in
    update_more g.L.Layout.kind g.row.SLOTS c.args.self.now c.loop-index.self c.update_bytes.new.self ps i blank c.loop-index-test.true c.loop-index.invariant
    (subst (λ (v : ℤ). IsUpdate g.L.Layout.kind g.row.SLOTS c.loop-index.self c.update_bytes.new.self (get_or ps i blank).0.now v r) (to_z-of_z w32 (get_or ps i blank).1 fits) c.in_default.ensures.updated)

pub returns-clause-stored : goal.returns-clause-stored
returns-clause-stored g c =
    let ps = c.args.pairs.now in
    let ended : length ps ≤ c.loop-index.index = omega (arith, c.loop-index-test.false) in
    built g.L.Layout.kind g.row.SLOTS c.args.self.now (entries_of ps) (Ok tt) c.loop-index.self (all_built g.L.Layout.kind g.row.SLOTS c.args.self.now c.loop-index.self ps c.loop-index.index ended c.loop-index.invariant)

pub returns-clause-max_trial : goal.returns-clause-max_trial
returns-clause-max_trial g c =
    kept g.L.Layout.kind g.row.SLOTS c.args.self.now (take c.loop-index.index (entries_of c.args.pairs.now)) (Ok tt) c.loop-index.self c.loop-index.invariant

pub returns-clause-search_limit : goal.returns-clause-search_limit
returns-clause-search_limit g c =
    limit_kept g.L.Layout.kind g.row.SLOTS c.args.self.now (take c.loop-index.index (entries_of c.args.pairs.now)) (Ok tt) c.loop-index.self c.loop-index.invariant
