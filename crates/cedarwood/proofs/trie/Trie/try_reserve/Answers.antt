use Rattle.std.proofs.Common.{arith, ◌≡◌, ◌≤◌, ◌+◌, ◌*◌, ◌-◌, Err, IfErr, IsOk, OnErr, OnOk, Result, subst}
use Rattle.std.proofs.lemmas.Result.{IfErr-weaker, on_err_weaker, on_ok_weaker}
use Rattle.cedar_table.specs.Table.Views.{fields}
use Rattle.cedar_model.specs.Table.TableFields.{capacity_of, size_of}
use Rattle.cedarwood.specs.declared.error.CedarError.{CedarError}
use Rattle.cedarwood.specs.declared.error.CedarError.TheVariants.{SlotLimit}
use Rattle.cedarwood.specs.Dictionary.{capacity_after}
use Rattle.cedarwood.specs.Room.{LacksRoom}
use Rattle.cedarwood.proofs.GrowthLemmas.{dictionary_of}
use Rattle.cedarwood.proofs.OutcomeLemmas.{if_err_out, on_err_out, on_ok_out, told_alike}
use Rattle.cedarwood.proofs.RoomLemmas.{all_kept, asks_for_none, capacity_then, has_room, lacks, tells_limit}
use Rattle.cedarwood.proofs.MemoryLemmas.{table_fits}
use Rattle.cedarwood.proofs.trie.Trie.try_reserve.Goals as goal

pub returns-clause-capacity : goal.returns-clause-capacity
returns-clause-capacity g c =
    let new = fields c.try_reserve.new.self in
    let d = c.args.self.now in
    let n = c.args.blocks in
    let r = c.try_reserve.result in
    let then = capacity_then g.row.SLOTS n c.self.inside.search_limit (fields c.self.inside.table) new d c.self.view_is in
    subst (λ (x : Result (Unit {0}) CedarError). OnOk x (capacity_of new ≡ capacity_after n d.size d.capacity)) (told_alike r c.map_err.result c.map_err.ensures.cases)
    (on_ok_out _ r (on_ok_weaker r then c.try_reserve.ensures.capacity))

pub returns-clause-spare : goal.returns-clause-spare
returns-clause-spare g c =
    let new = fields c.try_reserve.new.self in
    let n = c.args.blocks in
    let r = c.try_reserve.result in
    subst (λ (x : Result (Unit {0}) CedarError). OnOk x (256 * n ≤ capacity_of new - size_of new)) (told_alike r c.map_err.result c.map_err.ensures.cases)
    (on_ok_out _ r (on_ok_weaker r (λ (room : size_of new + 256 * n ≤ capacity_of new). omega (arith, room)) c.try_reserve.ensures.spare))

pub returns-clause-enough : goal.returns-clause-enough
returns-clause-enough g c =
    let old = fields c.self.inside.table in
    let new = fields c.try_reserve.new.self in
    let d = c.args.self.now in
    let n = c.args.blocks in
    let is = c.self.view_is in
    λ room. all_kept g.row.SLOTS n c.self.inside.search_limit old new d is (c.try_reserve.ensures.enough (has_room g.row.SLOTS n c.self.inside.search_limit old new d is c.self.invariant room))

pub returns-clause-asks_nothing : goal.returns-clause-asks_nothing
returns-clause-asks_nothing g c =
    let d = c.args.self.now in
    let r = c.try_reserve.result in
    λ room. subst (λ (x : Result (Unit {0}) CedarError). IsOk x) (told_alike r c.map_err.result c.map_err.ensures.cases)
    (asks_for_none g.row.SLOTS c.args.blocks c.self.inside.search_limit (fields c.self.inside.table) (fields c.try_reserve.new.self) d c.self.view_is c.self.invariant r c.try_reserve.ensures.refused room)

pub returns-clause-limit : goal.returns-clause-limit
returns-clause-limit g c =
    let d = c.args.self.now in
    let r = c.try_reserve.result in
    let e = c.try_reserve.ensures in
    λ past. subst (λ (x : Result (Unit {0}) CedarError). x ≡ Err SlotLimit) (told_alike r c.map_err.result c.map_err.ensures.cases)
    (tells_limit g.row.SLOTS c.args.blocks c.self.inside.search_limit (fields c.self.inside.table) (fields c.try_reserve.new.self) d c.self.view_is e.well_formed (omega (arith, e.grown.active)) r e.spare e.refused past)

pub returns-clause-refused : goal.returns-clause-refused
returns-clause-refused g c =
    let d = c.args.self.now in
    let n = c.args.blocks in
    let r = c.try_reserve.result in
    let told = lacks g.row.SLOTS n c.self.inside.search_limit (fields c.self.inside.table) (fields c.try_reserve.new.self) d c.self.view_is in
    subst (λ (x : Result (Unit {0}) CedarError). IfErr x (LacksRoom g.row.SLOTS d n)) (told_alike r c.map_err.result c.map_err.ensures.cases)
    (if_err_out _ r (IfErr-weaker r _ _ told c.try_reserve.ensures.refused))

pub returns-clause-unchanged : goal.returns-clause-unchanged
returns-clause-unchanged g c =
    let new = fields c.try_reserve.new.self in
    let d = c.args.self.now in
    let r = c.try_reserve.result in
    let kept = all_kept g.row.SLOTS c.args.blocks c.self.inside.search_limit (fields c.self.inside.table) new d c.self.view_is in
    subst (λ (x : Result (Unit {0}) CedarError). OnErr x (dictionary_of c.self.inside.search_limit new ≡ d)) (told_alike r c.map_err.result c.map_err.ensures.cases)
    (on_err_out _ r (on_err_weaker r kept c.try_reserve.ensures.unchanged))

pub try_reserve-requires : goal.try_reserve-requires
try_reserve-requires g c = (search table_fits, c.self.invariant)
