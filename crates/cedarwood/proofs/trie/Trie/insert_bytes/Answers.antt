use Rattle.std.proofs.Common.{ap, rules, ◌≡◌, ℕ, ℤ, ◌<◌, None, Some, Option, IfOk, IfSome, Err, arith, get_or, subst, sym, w32, to_z, of_z, FitsSigned, Result}
use Rattle.std.proofs.lemmas.Int.{to_z-of_z}
use Rattle.std.proofs.lemmas.Result.{err_from_is_err_and, on_ok_weaker}
use Rattle.cedar_model.specs.Edit.Packing.{PacksKey}
use Rattle.cedar_tree.specs.Tree.{IsSound, number_at}
use Rattle.cedar_table.specs.Table.Views.{fields}
use Rattle.cedarwood.specs.declared.error.CedarError.{CedarError}
use Rattle.cedar_slots.specs.declared.shortage.Shortage.TheVariants.{Memory, SlotLimit}
use Rattle.cedar_bulk.proofs.BulkLemmas.InnerKeys.{always_on_ok}
use Rattle.cedar_bulk.proofs.BulkLemmas.SlotsOfNumbers.{all_marked}
use Rattle.cedarwood.specs.Builds.{outcome}
use Rattle.cedarwood.specs.Dictionary.{Dictionary}
use Rattle.cedarwood.specs.Fault.{fault, value_fault}
use Rattle.cedarwood.specs.Updates.{IsUpdate}
use Rattle.cedarwood.proofs.DictionaryLemmas.{held_in_range, is_sound, is_value_of}
use Rattle.cedarwood.proofs.FaultLemmas.{no_fault, key_of, in_range_of}
use Rattle.cedarwood.proofs.GrowthLemmas.{dictionary_of}
use Rattle.cedarwood.proofs.MarkedLemmas.{is_marked}
use Rattle.cedarwood.proofs.OutcomeLemmas.{answer_handed_on, answer_has, fault_updates, if_err_out, is_ok_or_out, is_ok_out, limit_out, memory_out, on_err_out, on_ok_out, outcome_is_told, told_outcome}
use Rattle.cedarwood.proofs.UpdateLemmas.{why_refused, at_one_byte, fault_of, grows_by, is_refused, is_spare, marks_follow, marks_remain, over_held, packs_update, state_stays, stored_is}
use Rattle.cedarwood.proofs.BuildLemmas.{none_is_some}
use Rattle.cedarwood.proofs.MemoryLemmas.{table_fits}
use Rattle.cedarwood.proofs.trie.Trie.insert_bytes.Goals as goal

-- ---- what holds at first

pub returns-clause-sound : goal.returns-clause-sound
returns-clause-sound g c = always_on_ok c.map_err.result (subst (λ (d : Dictionary). IsSound d.state.tree) c.self.view_is (is_sound g.row.SLOTS (fields c.self.inside.table) c.self.invariant))

-- ---- a pair with a fault

pub returns-in_err-check_pair-clause-updated : goal.returns-in_err-check_pair-clause-updated
returns-in_err-check_pair-clause-updated g c =
    let r = c.from_residual.result in
    let p = err_from_is_err_and r c.from_residual.ensures.1 in
    let is : r ≡ Err p.0 = p.1 in
    let was : c.check_pair.result ≡ Err p.0 = cc (p.2, c.in_err-check_pair.was) in
    let key = c.args.key.now in
    let v : ℤ = to_z w32 (of_z w32 c.args.value) in
    let fits : FitsSigned w32 c.args.value = search rules in
    let same : v ≡ c.args.value = to_z-of_z w32 c.args.value fits in
    let why : fault key v ≡ Some p.0 = fault_of (fault key v) c.check_pair.result p.0 c.check_pair.ensures.faulty c.check_pair.ensures.sound was in
    subst (λ (x : _). IsUpdate g.L.Layout.kind g.row.SLOTS c.args.self.now c.args.self.now key c.args.value (outcome x)) (sym is)
    (fault_updates g.L.Layout.kind g.row.SLOTS c.args.self.now key c.args.value p.0 (subst (λ (w : ℤ). fault key w ≡ Some p.0) same why))

-- ---- a pair without one

pub update-requires : goal.update-requires
update-requires g c =
    let v : ℤ = to_z w32 (of_z w32 c.args.value) in
    let fine : fault c.args.key.now v ≡ None = no_fault (fault c.args.key.now v) c.check_pair.result tt c.check_pair.ensures.faulty (c.in_ok-check_pair.was) in
    let bytes : (i : ℕ) → get_or c.args.key.now i 0 < 256 = λ i. omega (arith, c.type_inv.key i) in
    (search table_fits, (c.self.invariant, (key_of c.args.key.now v fine bytes, is_value_of v (in_range_of c.args.key.now v fine))))

pub returns-clause-updated : goal.returns-clause-updated
returns-clause-updated g c =
    let old = fields c.self.inside.table in
    let new = fields c.update.new.table in
    let limit = c.self.inside.search_limit in
    let d = c.args.self.now in
    let is = c.self.view_is in
    let r = c.update.result in
    let key = c.args.key.now in
    let slots = g.row.SLOTS in
    let u = c.update.ensures.puts in
    let made = u.blocks in
    let v : ℤ = to_z w32 (of_z w32 c.args.value) in
    let fits : FitsSigned w32 c.args.value = search rules in
    let same : v ≡ c.args.value = to_z-of_z w32 c.args.value fits in
    let fine : fault key c.args.value ≡ None = subst (λ (w : ℤ). fault key w ≡ None) same (no_fault (fault key v) c.check_pair.result tt c.check_pair.ensures.faulty c.in_ok-check_pair.was) in
    subst (λ (x : Result (Unit {0}) CedarError). IsUpdate g.L.Layout.kind slots d (dictionary_of limit new) key c.args.value x) (outcome_is_told r c.map_err.result c.map_err.ensures.cases) (record {
      faulty = subst (λ (o : Option CedarError). IfSome o (λ e. told_outcome r ≡ Err e)) (sym fine) tt;
      unchanged = λ some. absurd (none_is_some (fault key c.args.value) fine some);
      ok = on_ok_out _ r (stored_is slots limit old new d is r key c.args.value v same u.modes u.put);
      err = on_err_out _ r (state_stays slots limit old new d is r key u.modes u.taken_back);
      by_default = on_ok_out _ r (always_on_ok r (all_marked slots new u.well_formed));
      marks = on_ok_out _ r (marks_follow slots limit old new d is r key _ c.update.ensures.marks_put);
      marked = on_ok_out _ r (always_on_ok r (is_marked slots new u.well_formed));
      marks_stay = on_err_out _ r (marks_remain slots limit old new d is r key c.update.ensures.marks_stay);
      refused = λ _. if_err_out _ r (is_refused slots limit old new d is r key u.over);
      memory = λ was. let why = why_refused _ r Memory u.refused (memory_out r was) in (omega (arith, why), omega (arith, why));
      limit = λ was. let why = why_refused _ r SlotLimit u.refused (limit_out r was) in omega (arith, why);
      blocks = (made.0, made.1, (λ _. on_err_out _ r made.2), grows_by slots limit old new d is r key made.0 made.3);
      spare = λ room _. is_ok_out r (is_spare slots limit old new d is r key made.0 u.well_formed.table.within u.refused made.2 made.3 room);
      over = over_held slots limit old new d is r key u.over;
      one_byte = λ b first absent _. is_ok_or_out _ _ r (at_one_byte slots limit old new d is r key c.self.invariant b (u.one_byte b first) absent);
      packs = on_ok_out _ r (on_ok_weaker r (λ (p : PacksKey old new key). packs_update slots limit old new d is r key c.self.invariant u.well_formed p) u.packs);
      max_trial = search (rules, u.modes.max_trial);
      search_limit = ap (λ (x : Dictionary). x.search_limit) is;
    })

pub returns-clause-held : goal.returns-clause-held
returns-clause-held g c =
    answer_handed_on (λ held. held ≡ number_at c.args.self.now.state.tree c.args.key.now) c.update.result c.map_err.result c.map_err.ensures.cases
    (subst (λ (d : Dictionary). IfOk c.update.result (λ held. held ≡ number_at d.state.tree c.args.key.now)) c.self.view_is c.update.ensures.puts.held)

pub returns-clause-in_range : goal.returns-clause-in_range
returns-clause-in_range g c =
    answer_handed_on (λ held. IfSome held (λ v. value_fault v ≡ None)) c.update.result c.map_err.result c.map_err.ensures.cases
    (answer_has (λ held. IfSome held (λ v. value_fault v ≡ None)) _ c.update.result c.update.ensures.puts.held (held_in_range g.row.SLOTS (fields c.self.inside.table) c.args.key.now c.self.invariant))
