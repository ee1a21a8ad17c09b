use Rattle.std.proofs.Common.{◌≡◌, ◌<◌, ◌+◌, ◌∙◌, [], ◌∷◌, ◌++◌, arith, rules, subst, sym, refl, inl, inr, take, get_or, length, List, ℕ, zero, suc, true, Some}
use Rattle.std.proofs.lemmas.List.{take_more}
use Rattle.cedar_model.specs.Edits.{add_leaf, edit_at}
use Rattle.cedar_model.specs.Edit.NodeEdits.{Above}
use Rattle.cedar_model.specs.Meaning.Family.{Among}
use Rattle.cedar_model.specs.Meaning.StandsFor.{HoldsTree}
use Rattle.cedar_table.specs.Table.Views.{cells, fields}
use Rattle.cedar_model.specs.Table.TableFields.{size_of}
use Rattle.cedar_bulk.proofs.BulkLemmas.LabelByLabel.{above_take, append_begins, append_on, append_ready, Appended, Appending}
use Rattle.cedar_bulk.proofs.append.append_labels.Goals as goal

next_label : (labels : List ℕ) (i : ℕ) → i < length labels → take (i + 1) labels ≡ take i labels ++ get_or labels i 0 ∷ []
next_label labels i h = take_more labels i 0 h

pub loop-label-init : goal.loop-label-init
loop-label-init g c = append_begins g.row.SLOTS (fields c.args.table.now) c.args.node c.args.before c.requires.sound c.requires.ends

-- what is known of the next label, of a list's i-th
among_all : (labels : List ℕ) (i : ℕ) → i < length labels → Among labels (get_or labels i 0)
among_all [] i h = absurd (omega (arith, h))
among_all (l ∷ ls) zero h = inl refl
among_all (l ∷ ls) (suc i) h = inr (among_all ls i (omega (arith, h)))

pub append_label-slot-requires : goal.append_label-slot-requires
append_label-slot-requires g c =
    let labels = c.args.labels.now in
    let i = c.loop-label.label-index in
    let n = c.requires.node in
    let up : Above 0 (take i labels ++ get_or labels i 0 ∷ []) = subst (Above 0) (next_label labels i c.loop-label-test.true) (above_take (i + 1) 0 labels c.requires.ascends) in
    let k = append_ready g.row.SLOTS (fields c.args.table.now) (fields c.loop-label.table) c.args.node c.args.base (get_or labels i 0) (take i labels) c.loop-label.before n.0 n.1 n.2 up c.requires.node_in c.requires.based c.requires.base_is (c.requires.free (get_or labels i 0) (among_all labels i c.loop-label-test.true)) c.loop-label.invariant in
    (search rules, k)

pub loop-label-preserved : goal.loop-label-preserved
loop-label-preserved g c =
    let labels = c.args.labels.now in
    let i = c.loop-label.label-index in
    let n = c.requires.node in
    let e = c.append_label-slot.ensures in
    let before = fields c.args.table.now in
    let mid = fields c.loop-label.table in
    let after = fields c.append_label-slot.new.table in
    let x : ℕ = get_or labels i 0 in
    let size : size_of mid ≡ size_of before = c.loop-label.invariant.frame.size in
    let up : Above 0 (take i labels ++ x ∷ []) = subst (Above 0) (next_label labels i c.loop-label-test.true) (above_take (i + 1) 0 labels c.requires.ascends) in
    let more : Appended (size_of before) (cells c.loop-label.table) (cells c.append_label-slot.new.table) c.args.node x c.append_label-slot.result = record {
      slot = e.slot;
      tree = λ f w h u at. subst (λ m. HoldsTree m (cells c.append_label-slot.new.table) (edit_at w (λ v. v) (add_leaf true x) f)) (e.size ∙ size) (e.tree f w (subst (λ m. HoldsTree m (cells c.loop-label.table) f) (sym size) h) u at);
      leaf = e.leaf;
      paths = e.paths;
      stays = e.stays;
      keeps = e.keeps;
      held = e.held;
      bare = e.bare;
      owner = e.owner;
      last = e.last;
    } in
    subst (λ ls. Appending g.row.SLOTS (size_of before) before after c.args.node ls (Some c.append_label-slot.result)) (sym (next_label labels i c.loop-label-test.true))
    (append_on g.row.SLOTS (size_of before) before mid after c.args.node x c.append_label-slot.result (take i labels) c.loop-label.before n.1.path (omega (arith, c.type_inv.labels i)) up n.1.at c.loop-label.invariant
    e.sound e.root_check (record { size = e.size; capacity = e.capacity; settings = e.settings }) size more)
