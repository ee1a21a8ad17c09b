use Rattle.std.proofs.Common.{◌≡◌, ◌<◌, ◌∙◌, [], ap, arith, FitsSigned, length, List, refl, rules, Some, subst, sym, w32, ℕ, ℤ}
use Rattle.std.specs.Prelude.{IfSome, vec_capacity}
use Rattle.std.proofs.lemmas.Int.{to_z-of_z}
use Rattle.cedar_tree.specs.Queries.{Entry, walk}
use Rattle.cedar_model.specs.Meaning.WellFormed.{IsWellFormed, tree_of}
use Rattle.cedar_table.specs.Table.Views.{fields}
use Rattle.cedar_walk.specs.Visits.{IsNumberedBelow, path_to}
use Rattle.cedar_walk.proofs.WalkLemmas.NextNode.{path_length}
use Rattle.cedarwood.specs.Dictionary.{Dictionary}
use Rattle.cedarwood.specs.Ends.{last_entry}
use Rattle.cedarwood.proofs.EndsLemmas.{last_of_walk, last_outgrows, some_in_walk}
use Rattle.cedarwood.proofs.MemoryLemmas.{table_fits}
use Rattle.cedarwood.proofs.trie.Trie.last_into.Goals as goal

pub last_numbered-requires : goal.last_numbered-requires
last_numbered-requires g c = (search table_fits, c.self.invariant)

pub returns-in_default-clause-found : goal.returns-in_default-clause-found
returns-in_default-clause-found g c = subst (λ (d : Dictionary). walk d.state.tree ≡ []) c.self.view_is c.in_default.ensures

pub write_key-requires-clause-well_formed : goal.write_key-requires-clause-well_formed
write_key-requires-clause-well_formed g c = subst (λ (d : Dictionary). IsWellFormed g.row.SLOTS d.table) c.self.view_is c.self.invariant

pub write_key-requires-clause-below : goal.write_key-requires-clause-below
write_key-requires-clause-below g c =
    let last = c.in-Some.last in
    subst (λ (d : Dictionary). IsNumberedBelow d.table [] last.depth last.slot) c.self.view_is c.in-Some.ensures.below

pub returns-in-Ok-clause-found : goal.returns-in-Ok-clause-found
returns-in-Ok-clause-found g c =
    let last = c.in-Some.last in
    let is = c.in-Some.ensures in
    let fits : FitsSigned w32 c.in-Some.last.number = search rules in
    subst (λ (d : Dictionary). last_entry d.state.tree ≡ Some (path_to d.table last.depth last.slot, last.number)) c.self.view_is (last_of_walk (tree_of (fields c.self.inside.table)) is.before (path_to (fields c.self.inside.table) last.depth last.slot, last.number) is.entries)
    ∙ ap (λ (w : List ℕ). Some (w, last.number)) (sym c.in-Ok.ensures.written)
    ∙ ap (λ (v : ℤ). Some (c.write_key.new.key.items, v)) (sym (to_z-of_z w32 last.number fits))

pub returns-in-Err-clause-refused : goal.returns-in-Err-clause-refused
returns-in-Err-clause-refused g c =
    let is = c.in-Some.ensures in
    let last = c.in-Some.last in
    let some = some_in_walk (tree_of (fields c.self.inside.table)) is.before (path_to (fields c.self.inside.table) last.depth last.slot, last.number) is.entries in
    (refl, subst (λ (d : Dictionary). 0 < length (walk d.state.tree)) c.self.view_is some)

pub returns-in-Err-clause-full : goal.returns-in-Err-clause-full
returns-in-Err-clause-full g c =
    let is = c.in-Some.ensures in
    let last = c.in-Some.last in
    let room = vec_capacity c.args.key.now in
    let path = path_to (fields c.self.inside.table) last.depth last.slot in
    let long : room < length path = omega (arith, c.in-Err.ensures.full, path_length (fields c.self.inside.table) last.depth last.slot) in
    let t = tree_of (fields c.self.inside.table) in
    subst (λ (d : Dictionary). IfSome (last_entry d.state.tree) (λ (x : Entry). room < length x.0)) c.self.view_is
    (last_outgrows room t (path, last.number) (last_of_walk t is.before (path, last.number) is.entries) long)
