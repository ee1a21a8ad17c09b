use Rattle.std.proofs.Common.{rules, sym, subst, w32, FitsSigned}
use Rattle.std.proofs.lemmas.Int.{to_z-of_z}
use Rattle.cedar_calls.specs.declared.answer.Changed.TheVariants as changed
use Rattle.cedar_calls.specs.Changes.{IsChange}
use Rattle.cedarwood.specs.Builds.{outcome}
use Rattle.cedarwood.specs.Updates.{IsUpdate}
use Rattle.cedar_calls.proofs.change.make_change.Goals as goal

pub returns-in-Update : goal.returns-in-Update
returns-in-Update g c =
    let fits : FitsSigned w32 c.in-Update.value = search rules in
    subst (λ change. IsChange {A = g.row.A.Denot} g.L.Layout.kind g.row.SLOTS c.args.trie.now change (changed.Updated c.update_bytes.result) c.update_bytes.new.self) (sym c.in-Update.is)
    (subst (λ v. IsUpdate g.L.Layout.kind g.row.SLOTS c.args.trie.now c.update_bytes.new.self c.in-Update.key.now v c.update_bytes.result) (to_z-of_z w32 c.in-Update.value fits) c.update_bytes.ensures.updated)

pub returns-in-Insert : goal.returns-in-Insert
returns-in-Insert g c =
    let fits : FitsSigned w32 c.in-Insert.value = search rules in
    subst (λ change. IsChange {A = g.row.A.Denot} g.L.Layout.kind g.row.SLOTS c.args.trie.now change (changed.Inserted c.insert_bytes.result) c.insert_bytes.new.self) (sym c.in-Insert.is) (
      subst (λ v. IsUpdate g.L.Layout.kind g.row.SLOTS c.args.trie.now c.insert_bytes.new.self c.in-Insert.key.now v (outcome c.insert_bytes.result)) (to_z-of_z w32 c.in-Insert.value fits) c.insert_bytes.ensures.updated,
      c.insert_bytes.ensures.held,
    )

pub returns-in-Build : goal.returns-in-Build
returns-in-Build g c =
    let e = c.build_bytes.ensures in
    subst (λ change. IsChange {A = g.row.A.Denot} g.L.Layout.kind g.row.SLOTS c.args.trie.now change (changed.Built c.build_bytes.result) c.build_bytes.new.self) (sym c.in-Build.is)
    (record { faulty = e.faulty; unchanged = e.unchanged; updates = e.updates; stored = e.stored; refused = e.refused })

pub returns-in-UpdateBatch : goal.returns-in-UpdateBatch
returns-in-UpdateBatch g c =
    let e = c.update_batch.ensures in
    subst (λ change. IsChange {A = g.row.A.Denot} g.L.Layout.kind g.row.SLOTS c.args.trie.now change (changed.UpdatedBatch c.update_batch.result) c.update_batch.new.self) (sym c.in-UpdateBatch.is)
    (record { updates = e.updates; stored = e.stored; refused = e.refused; max_trial = e.max_trial; search_limit = e.search_limit })

pub returns-in-Reserve : goal.returns-in-Reserve
returns-in-Reserve g c =
    let e = c.try_reserve.ensures in
    subst (λ change. IsChange {A = g.row.A.Denot} g.L.Layout.kind g.row.SLOTS c.args.trie.now change (changed.Reserved c.try_reserve.result) c.try_reserve.new.self) (sym c.in-Reserve.is)
    (record {
      state = e.state;
      marked = e.marked;
      max_trial = e.max_trial;
      search_limit = e.search_limit;
      size = e.size;
      capacity = e.capacity;
      spare = e.spare;
      enough = e.enough;
      asks_nothing = e.asks_nothing;
      limit = e.limit;
      refused = e.refused;
      unchanged = e.unchanged;
    })

pub returns-in-SetSearchLimit : goal.returns-in-SetSearchLimit
returns-in-SetSearchLimit g c =
    subst (λ change. IsChange {A = g.row.A.Denot} g.L.Layout.kind g.row.SLOTS c.args.trie.now change changed.SearchLimitSet c.set_search_limit.new.self) (sym c.in-SetSearchLimit.is) c.set_search_limit.ensures
