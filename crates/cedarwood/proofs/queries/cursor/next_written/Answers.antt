use Rattle.std.proofs.Common.{ap, arith, length, OnErr, subst, sym, vec_capacity}
use Rattle.std.proofs.lemmas.List.{length-append}
use Rattle.std.proofs.lemmas.Result.{on_err_weaker}
use Rattle.cedar_walk.specs.Keys.{KeyOutgrows, NextKeyOutgrows}
use Rattle.cedar_walk.specs.Visits.{path_to}
use Rattle.cedar_walk.proofs.WalkLemmas.Keys.{long_path, whole_outgrows}
use Rattle.cedar_walk.proofs.WalkLemmas.NextNode.{path_length}
use Rattle.cedarwood.specs.declared.queries.cursor.CursorPlace.{CursorPlace}
use Rattle.cedarwood.specs.declared.queries.cursor.CursorPlace.TheVariants.{At, Before}
use Rattle.cedarwood.specs.Cursors.{cursor_entries, IsCursorPlace}
use Rattle.cedar_tree.proofs.GeneralLemmas.{on_err}
use Rattle.cedarwood.proofs.queries.cursor.next_written.Goals as goal

pub next_with_key-requires : goal.next_with_key-requires
next_with_key-requires g c =
    let T = g.T.Walked.shown c.args.trie.now in
    let start = c.args.start.now in
    let key = c.args.key.now.items in
    let here : IsCursorPlace T start key (At c.in-At.slot c.in-At.depth) = subst (IsCursorPlace T start key) c.in-At.is c.requires.place in
    let path = path_to T c.in-At.depth c.in-At.slot in
    record {
      well_formed = c.requires.well_formed;
      below = (start, here.0);
      room = omega (arith, ap length here.1, length-append start path, path_length T c.in-At.depth c.in-At.slot);
    }

pub returns-in-At-clause-full : goal.returns-in-At-clause-full
returns-in-At-clause-full g c =
    let T = g.T.Walked.shown c.args.trie.now in
    let start = c.args.start.now in
    let key = c.args.key.now in
    let slot = c.in-At.slot in
    let depth = c.in-At.depth in
    let here : IsCursorPlace T start key.items (At slot depth) = subst (IsCursorPlace T start key.items) c.in-At.is c.requires.place in
    subst (λ (place : CursorPlace). OnErr c.next_with_key.result (KeyOutgrows (vec_capacity key) (cursor_entries T start place))) (sym c.in-At.is)
    (on_err_weaker c.next_with_key.result (λ (small : NextKeyOutgrows T depth slot (length key.items) (vec_capacity key)). whole_outgrows T start key.items depth slot (vec_capacity key) here.0.0 here.1 small) c.next_with_key.ensures.full)

pub returns-in_err-write_key-in-Before-clause-full : goal.returns-in_err-write_key-in-Before-clause-full
returns-in_err-write_key-in-Before-clause-full g c =
    let T = g.T.Walked.shown c.args.trie.now in
    let start = c.args.start.now in
    let room = vec_capacity c.args.key.now in
    let next = c.in-Before.next in
    let long : KeyOutgrows room (cursor_entries T start (Before next)) = long_path T start next.depth next.slot room c.in_err-write_key-in-Before.ensures.full in
    on_err c.from_residual.result (subst (λ (place : CursorPlace). KeyOutgrows room (cursor_entries T start place)) (sym c.in-Before.is) long)
