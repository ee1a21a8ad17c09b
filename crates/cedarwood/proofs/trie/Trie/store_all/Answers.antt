use Rattle.std.proofs.Common.{rules, ◌≡◌, ◌≤◌, arith, length, map, Err, None, w32, FitsSigned, ℤ}
use Rattle.std.proofs.lemmas.Int.{to_z-of_z}
use Rattle.std.proofs.lemmas.Result.{err_from_is_err_and}
use Rattle.cedar_tree.specs.Queries.{Entry}
use Rattle.cedarwood.specs.Builds.{first_fault}
use Rattle.cedarwood.proofs.BuildLemmas.{fine_has_fault, none_left, refused_here, stored_more, update_at}
use Rattle.cedarwood.proofs.FaultLemmas.{no_fault}
use Rattle.cedarwood.proofs.SortedInputLemmas.{faultless}
use Rattle.cedarwood.proofs.trie.Trie.store_all.Goals as goal

pub returns-in_err-update_bytes-clause-faulty : goal.returns-in_err-update_bytes-clause-faulty
returns-in_err-update_bytes-clause-faulty g c =
    let f : g.row.K.Denot × ℤ → Entry = λ p. (g.K.AsSlice.items p.0, p.1) in
    let fine : first_fault (map f c.args.pairs.now) ≡ None = no_fault (first_fault (map f c.args.pairs.now)) c.check_pairs.result tt c.check_pairs.ensures.faulty c.in_ok-check_pairs.was in
    faultless (first_fault (map f c.args.pairs.now)) c.from_residual-in_err-update_bytes.result fine

pub returns-in_err-update_bytes-clause-unchanged : goal.returns-in_err-update_bytes-clause-unchanged
returns-in_err-update_bytes-clause-unchanged g c =
    let f : g.row.K.Denot × ℤ → Entry = λ p. (g.K.AsSlice.items p.0, p.1) in
    λ some. fine_has_fault (first_fault (map f c.args.pairs.now)) (no_fault (first_fault (map f c.args.pairs.now)) c.check_pairs.result tt c.check_pairs.ensures.faulty c.in_ok-check_pairs.was) some

pub returns-in_err-update_bytes-clause-updates : goal.returns-in_err-update_bytes-clause-updates
returns-in_err-update_bytes-clause-updates g c =
    let f : g.row.K.Denot × ℤ → Entry = λ p. (g.K.AsSlice.items p.0, p.1) in
    let ps = c.args.pairs.now in
    let i = c.loop-index.index in
    let item = c.index-pairs-index.result in
    let fits : FitsSigned w32 item.1 = search rules in
    let r = c.from_residual-in_err-update_bytes.result in
    let p = err_from_is_err_and r c.from_residual-in_err-update_bytes.ensures.1 in
    let same : c.update_bytes.result ≡ r = cc (p.1, p.2, c.in_err-update_bytes.was) in
    let is : r ≡ Err p.0 = p.1 in
    λ fine. c.loop-index.invariant r c.update_bytes.new.self
    (refused_here f ps i item g.L.Layout.kind g.row.SLOTS c.loop-index.self c.update_bytes.new.self r p.0 c.loop-index-test.true is
    (update_at f ps i item g.L.Layout.kind g.row.SLOTS c.loop-index.self c.update_bytes.new.self _ _ c.update_bytes.result r c.index-pairs-index.is c.as_slice.ensures (to_z-of_z w32 item.1 fits) same c.update_bytes.ensures.updated))

pub loop-index-preserved : goal.loop-index-preserved
loop-index-preserved g c =
    let f : g.row.K.Denot × ℤ → Entry = λ p. (g.K.AsSlice.items p.0, p.1) in
    let ps = c.args.pairs.now in
    let i = c.loop-index.index in
    let item = c.index-pairs-index.result in
    let fits : FitsSigned w32 item.1 = search rules in
    λ r a rest. c.loop-index.invariant r a
    (stored_more f ps i item g.L.Layout.kind g.row.SLOTS c.loop-index.self c.update_bytes.new.self r a c.loop-index-test.true
    (update_at f ps i item g.L.Layout.kind g.row.SLOTS c.loop-index.self c.update_bytes.new.self _ _ c.update_bytes.result _ c.index-pairs-index.is c.as_slice.ensures (to_z-of_z w32 item.1 fits) c.in_ok-update_bytes.was c.update_bytes.ensures.updated)
    rest)

pub returns-clause-unchanged : goal.returns-clause-unchanged
returns-clause-unchanged g c =
    let f : g.row.K.Denot × ℤ → Entry = λ p. (g.K.AsSlice.items p.0, p.1) in
    λ some. fine_has_fault (first_fault (map f c.args.pairs.now)) (no_fault (first_fault (map f c.args.pairs.now)) c.check_pairs.result tt c.check_pairs.ensures.faulty c.in_ok-check_pairs.was) some

pub returns-clause-updates : goal.returns-clause-updates
returns-clause-updates g c =
    let f : g.row.K.Denot × ℤ → Entry = λ p. (g.K.AsSlice.items p.0, p.1) in
    let ps = c.args.pairs.now in
    let ended : length ps ≤ c.loop-index.index = omega (arith, c.loop-index-test.false) in
    λ fine. c.loop-index.invariant _ _ (none_left f ps c.loop-index.index g.L.Layout.kind g.row.SLOTS c.loop-index.self ended)
