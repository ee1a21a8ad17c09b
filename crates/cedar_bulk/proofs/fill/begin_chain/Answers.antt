use Rattle.std.proofs.Common.{◌≢◌, arith, rules, subst, sym}
use Rattle.std.specs.Prelude.{IfSome}
use Rattle.cedar_model.specs.Meaning.Family.{below}
use Rattle.cedar_model.specs.Table.Cells.{Held}
use Rattle.cedar_bulk.specs.Sorted.{GetsNumber}
use Rattle.cedar_table.specs.Table.Views.{cells, fields}
use Rattle.cedar_model.specs.Table.TableFields.{size_of}
use Rattle.cedar_bulk.proofs.BulkLemmas.BareNode.{empty_node}
use Rattle.cedar_bulk.proofs.BulkLemmas.FilledNode.{first_ends, no_number_got, root_ends}
use Rattle.cedar_bulk.proofs.fill.begin_chain.Goals as goal

pub take_number-requires : goal.take_number-requires
take_number-requires g c =
    let not_root : c.args.node ≢ 0 = λ z. let no = c.requires.not_root z in let some = c.in-Some.is in cc in
    (search rules, record { sound = c.requires.sound; node_in = c.requires.node_in; not_root = not_root; node = c.requires.node; based = c.requires.based not_root; base_is = c.requires.base_is; free = c.requires.free _ c.in-Some.is })

pub returns-in-None-clause-gets : goal.returns-in-None-clause-gets
returns-in-None-clause-gets g c = subst (GetsNumber (size_of (fields c.args.table.now)) (cells c.args.table.now) (cells c.args.table.now) c.args.node) (sym c.in-None.is) (no_number_got (size_of (fields c.args.table.now)) (cells c.args.table.now) c.args.node)

pub returns-in-None-clause-ends : goal.returns-in-None-clause-ends
returns-in-None-clause-ends g c = λ l.
    let n = c.requires.node in
    root_ends (size_of (fields c.args.table.now)) (cells c.args.table.now) c.args.node l (omega (arith, c.requires.node_in)) c.if-node-eq0.true
    (empty_node (size_of (fields c.args.table.now)) (cells c.args.table.now) n.0 n.1.path c.args.node n.1.holds n.1.at n.2)

pub returns-in-None-2-clause-gets : goal.returns-in-None-2-clause-gets
returns-in-None-2-clause-gets g c = subst (GetsNumber (size_of (fields c.args.table.now)) (cells c.args.table.now) (cells c.args.table.now) c.args.node) (sym c.in-None.is) (no_number_got (size_of (fields c.args.table.now)) (cells c.args.table.now) c.args.node)

pub returns-in-None-2-clause-ends : goal.returns-in-None-2-clause-ends
returns-in-None-2-clause-ends g c = λ l.
    let n = c.requires.node in
    first_ends (size_of (fields c.args.table.now)) (cells c.args.table.now) c.args.node l c.if-node-eq0.false
    (empty_node (size_of (fields c.args.table.now)) (cells c.args.table.now) n.0 n.1.path c.args.node n.1.holds n.1.at n.2)

pub returns-in-Some-clause-taken : goal.returns-in-Some-clause-taken
returns-in-Some-clause-taken g c =
    subst (λ o. IfSome o (λ v. Held (cells c.take_number.new.table) (below (cells c.args.table.now) c.args.node 0))) (sym c.in-Some.is) c.take_number.ensures.taken

pub returns-in-None-clause-taken : goal.returns-in-None-clause-taken
returns-in-None-clause-taken g c = subst (λ o. IfSome o (λ v. Held (cells c.args.table.now) (below (cells c.args.table.now) c.args.node 0))) (sym c.in-None.is) tt

pub returns-in-None-2-clause-taken : goal.returns-in-None-2-clause-taken
returns-in-None-2-clause-taken g c = subst (λ o. IfSome o (λ v. Held (cells c.args.table.now) (below (cells c.args.table.now) c.args.node 0))) (sym c.in-None.is) tt
