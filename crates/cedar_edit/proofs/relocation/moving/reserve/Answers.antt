use Rattle.std.proofs.Common.{◌≡◌, arith, inl, inr, rules, false}
use Rattle.cedar_table.specs.Table.Views.{cells}
use Rattle.cedar_model.proofs.RelocationLemmas.KeptSlot.{taken_seen}
use Rattle.cedar_edit.proofs.relocation.moving.reserve.Goals as goal

pub returns-then-reserved-clause-now : goal.returns-then-reserved-clause-now
returns-then-reserved-clause-now g c = λ e. elim c.then-reserved.either [ inl is ↦ cc | inr un ↦ cc ]

pub pop_e_node-requires : goal.pop_e_node-requires
pop_e_node-requires g c =
    let open_yet : c.args.reserved ≡ false = cc in
    (search rules, (c.requires.sound, (c.requires.slot_in, (c.requires.slot_free open_yet, omega arith))))

pub returns-clause-seen : goal.returns-clause-seen
returns-clause-seen g c =
    let open_yet : c.args.reserved ≡ false = cc in
    taken_seen c.args.reserved (cells c.args.table.now) _ c.args.slot 0 open_yet c.requires.not_root (c.requires.slot_free open_yet) c.pop_e_node.ensures.takes
