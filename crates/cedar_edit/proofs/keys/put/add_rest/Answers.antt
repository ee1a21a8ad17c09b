use Rattle.std.proofs.Common.{◌+◌, ◌*◌, ◌<◌, ◌==◌, ◌∙◌, cond, drop, get_or, rules, subst, sym, take}
use Rattle.std.specs.Prelude.{length}
use Rattle.cedar_model.specs.Edit.NodeEdits.{IsAt}
use Rattle.cedar_model.specs.Edit.Steps.{root_of, with_child}
use Rattle.cedar_model.specs.Table.TableFields.{size_of}
use Rattle.cedar_table.specs.Table.Views.{cells, fields}
use Rattle.cedar_model.proofs.UpdateLemmas.Ending.{step_refused}
use Rattle.cedar_model.proofs.UpdateLemmas.AlongKey.{node_walked, walked_all, walked_at, walked_on, walked_same, walked_to, way_on}
use Rattle.cedar_model.proofs.UpdateLemmas.Packing.{child_labels, small_on}
use Rattle.cedar_edit.proofs.PackingLemmas.{first_small}
use Rattle.cedar_edit.proofs.keys.put.add_rest.Goals as goal

pub follow_or_add-requires : goal.follow_or_add-requires
follow_or_add-requires g c =
    let T = fields c.args.table.now in
    let i = c.args.known in
    let more : i < length c.args.key.now = c.requires.more in
    let k = walked_at g.row.SLOTS T T c.args.key.now i c.args.front more c.requires.front in
    (search rules, record { sound = k.table; node_in = k.inside; node = node_walked _ _ _ _ _ _ _ k; positive = k.bytes.0; no_own_number = way_on _ _ _ _ _ _ _ _ k c.requires.way })

pub trim-requires : goal.trim-requires
trim-requires g c =
    let T = fields c.args.table.now in
    let e = c.in-Err.ensures in
    let k = walked_same g.row.SLOTS T T (fields c.follow_or_add.new.table) _ _ _ c.args.front c.requires.front (λ _. g.L.Layout.kind) e.sound e.step.unchanged e.step.growth.settings in
    (search rules, (k.table, (k.inside, node_walked _ _ _ _ _ _ _ k)))

pub returns-in-Err-clause-refused : goal.returns-in-Err-clause-refused
returns-in-Err-clause-refused g c =
    let T = fields c.args.table.now in
    let i = c.args.known in let key = c.args.key.now in
    let e = c.in-Err.ensures in
    let t = c.trim.ensures in
    let more : i < length key = c.requires.more in
    let k = walked_at g.row.SLOTS T T key i c.args.front more c.requires.front in
    step_refused g.row.SLOTS T T (fields c.follow_or_add.new.table) (fields c.trim.new.table) key (take i key) (drop (i + 1) key) (get_or key i 0) c.args.front c.in-Err.error
    c.requires.well_formed c.requires.key k
    (record { layout = λ _. g.L.Layout.kind; table = e.sound; unchanged = e.step.unchanged; settings = e.step.growth.settings; refused = e.step.refused })
    (record { table = t.sound; tree = t.tree; root_check = t.root_check; frame = t.frame; marks = t.marks })
    (λ own. (e.owned own).0) (λ z. (e.at_root z).0)

pub loop-index-init : goal.loop-index-init
loop-index-init g c =
    let old = fields c.args.table.now in let new = fields c.follow_or_add.new.table in
    let i = c.args.known in let key = c.args.key.now in
    let e = c.in-Ok.ensures in
    let more : i < length key = c.requires.more in
    let k = walked_at g.row.SLOTS old old key i c.args.front more c.requires.front in
    record {
      walked = walked_to g.row.SLOTS old new key i c.in-Ok.child more
          (walked_on g.row.SLOTS old old new key (take i key) (drop (i + 1) key) (get_or key i 0) c.args.front c.in-Ok.child c.requires.well_formed.sound k
          (record { table = e.sound; stepped = e.stepped; blocks = e.step.growth.blocks; owned = λ own. (e.owned own).1; stays = e.stays; root_step = λ z. (e.at_root z).1; root_check = e.step.growth.root_check; settings = e.step.growth.settings }));
      leaf = e.stepped.leaf c.requires.ends;
      not_root = e.stepped.not_root;
      packs = first_small i old new (λ z. (e.at_root (sym (subst (λ n. IsAt (cells c.args.table.now) (take n key) c.args.front) z c.requires.front.at).1)).1) e.step.growth.blocks;
    }

pub extend_leaf-requires : goal.extend_leaf-requires
extend_leaf-requires g c =
    let i = c.loop-index.index in let key = c.args.key.now in
    let k = walked_at g.row.SLOTS (fields c.args.table.now) (fields c.loop-index.table) key i c.loop-index.node c.loop-index-test.true c.loop-index.invariant.walked in
    (search rules, record { sound = k.table; node_in = k.inside; not_root = c.loop-index.invariant.not_root; node = node_walked _ _ _ _ _ _ _ k; positive = k.bytes.0; leaf = c.loop-index.invariant.leaf })

pub trim-requires-in-Err-extend_leaf : goal.trim-requires-in-Err-extend_leaf
trim-requires-in-Err-extend_leaf g c =
    let e = c.in-Err-extend_leaf.ensures in
    let k = walked_same g.row.SLOTS (fields c.args.table.now) (fields c.loop-index.table) (fields c.extend_leaf.new.table) _ _ _ c.loop-index.node c.loop-index.invariant.walked (λ _. g.L.Layout.kind) e.sound e.step.unchanged e.step.growth.settings in
    (search rules, (k.table, (k.inside, node_walked _ _ _ _ _ _ _ k)))

pub returns-in-Err-extend_leaf-clause-refused : goal.returns-in-Err-extend_leaf-clause-refused
returns-in-Err-extend_leaf-clause-refused g c =
    let i = c.loop-index.index in let key = c.args.key.now in
    let e = c.in-Err-extend_leaf.ensures in
    let t = c.trim-in-Err-extend_leaf.ensures in
    let k = walked_at g.row.SLOTS (fields c.args.table.now) (fields c.loop-index.table) key i c.loop-index.node c.loop-index-test.true c.loop-index.invariant.walked in
    step_refused g.row.SLOTS (fields c.args.table.now) (fields c.loop-index.table) (fields c.extend_leaf.new.table) (fields c.trim-in-Err-extend_leaf.new.table) key (take i key) (drop (i + 1) key) (get_or key i 0) c.loop-index.node c.in-Err-extend_leaf.error
    c.requires.well_formed c.requires.key k
    (record { layout = λ _. g.L.Layout.kind; table = e.sound; unchanged = e.step.unchanged; settings = e.step.growth.settings; refused = e.step.refused })
    (record { table = t.sound; tree = t.tree; root_check = t.root_check; frame = t.frame; marks = t.marks })
    (λ own. absurd (e.absent own)) (λ z. absurd (c.loop-index.invariant.not_root z))

pub loop-index-preserved : goal.loop-index-preserved
loop-index-preserved g c =
    let i = c.loop-index.index in let key = c.args.key.now in
    let e = c.in-Ok-extend_leaf.ensures in
    let old = fields c.args.table.now in let mid = fields c.loop-index.table in let new = fields c.extend_leaf.new.table in
    let k = walked_at g.row.SLOTS old mid key i c.loop-index.node c.loop-index-test.true c.loop-index.invariant.walked in
    record {
      walked = walked_to g.row.SLOTS old new key i c.in-Ok-extend_leaf.child c.loop-index-test.true
          (walked_on g.row.SLOTS old mid new key (take i key) (drop (i + 1) key) (get_or key i 0) c.loop-index.node c.in-Ok-extend_leaf.child c.requires.well_formed.sound k
          (record { table = e.sound; stepped = e.stepped; blocks = e.step.growth.blocks; owned = λ own. absurd (e.absent own); stays = λ own. absurd (e.absent own); root_step = λ z. absurd (c.loop-index.invariant.not_root z); root_check = e.step.growth.root_check; settings = e.step.growth.settings }));
      leaf = e.stepped.leaf e.absent;
      not_root = e.stepped.not_root;
      packs = small_on g.row.SLOTS (size_of old + 256 * cond (c.args.known == 0) 0 1) e.step.growth.blocks.0 mid new k.forest (with_child (root_of k.forest) mid.ordered (take i key) (get_or key i 0)).children k.table k.holds
          (e.stepped.tree k.forest (take i key) k.holds (λ is. k.ascending (sym k.settings.ordered ∙ is)) k.at)
          (child_labels (cells c.loop-index.table) k.forest mid.ordered (take i key) (get_or key i 0) c.loop-index.node k.at c.loop-index.invariant.not_root) e.step.growth.blocks.1 e.step.growth.blocks.2 e.single c.loop-index.invariant.packs;
    }

pub returns-clause-walked : goal.returns-clause-walked
returns-clause-walked g c = walked_all g.row.SLOTS (fields c.args.table.now) (fields c.loop-index.table) c.args.key.now c.loop-index.index c.loop-index.node c.loop-index-test.false c.loop-index.invariant.walked

pub returns-clause-leaf : goal.returns-clause-leaf
returns-clause-leaf g c = (c.loop-index.invariant.leaf, c.loop-index.invariant.not_root)

pub returns-clause-packs : goal.returns-clause-packs
returns-clause-packs g c = c.loop-index.invariant.packs
