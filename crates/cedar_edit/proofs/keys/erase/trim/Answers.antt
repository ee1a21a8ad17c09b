use Rattle.std.proofs.Common.{◌≡◌, ◌<◌, ◌∙◌, arith, refl, rules, subst, sym}
use Rattle.cedar_model.specs.Tree.{is_bare}
use Rattle.cedar_model.specs.Queries.{node_at}
use Rattle.cedar_model.specs.Edit.Steps.{root_of}
use Rattle.cedar_table.specs.Table.Views.{cells, fields}
use Rattle.cedar_model.proofs.UpdateLemmas.TrimUpwards.{climb_end, climb_none, climb_on, depth_less}
use Rattle.cedar_model.proofs.UpdateLemmas.Frame.{frame_same, frame_then}
use Rattle.cedar_model.proofs.UpdateLemmas.LeftBare.{told_bare, told_not}
use Rattle.cedar_model.proofs.MeaningLemmas.TreeOf.{in_use}
use Rattle.cedar_model.proofs.MeaningLemmas.NumberSlots.{marks_same, marks_then}
use Rattle.cedar_edit.proofs.keys.erase.trim.Goals as goal

pub loop-bare-init : goal.loop-bare-init
loop-bare-init g c = record {
  sound = c.requires.sound;
  inside = c.requires.node_in;
  tells = c.is_bare-bare.ensures;
  root_check = refl;
  marks = marks_same (cells c.args.table.now);
  frame = frame_same _;
  climbs = λ f w h at. climb_none _ _ f w _ h at;
}

pub remove_bare-owner-requires : goal.remove_bare-owner-requires
remove_bare-owner-requires g c =
    let n = c.requires.node.1 in
    let i = c.loop-bare.invariant in
    let k = i.climbs c.requires.node.0 n.path n.holds n.at in
    let told = told_bare c.loop-bare.node c.loop-bare.bare (is_bare (node_at (root_of k.tree) k.path)) (i.tells k.tree k.path k.holds k.at) c.loop-bare-test.true in
    let below_root : c.loop-bare.node ≡ 0 → ⊥ = told.0 in (
      search rules,
      (
        i.sound,
        (
          i.inside,
          (
            omega (arith, below_root),
            (
              k.tree,
              record { holds = k.holds; ascending = λ is. k.ascending (n.ascending (sym i.frame.settings.ordered ∙ is)); path = k.path; at = k.at },
              told.1,
            ),
          ),
        ),
      ),
    )

pub loop-bare-smaller : goal.loop-bare-smaller
loop-bare-smaller g c =
    let n = c.requires.node.1 in
    let k = c.loop-bare.invariant.climbs c.requires.node.0 n.path n.holds n.at in
    depth_less _ _ _ _ k.tree k.path _ _ (in_use (fields c.loop-bare.table)) (in_use (fields c.remove_bare-owner.new.table)) k.holds k.at (c.remove_bare-owner.ensures.tree k.tree k.path k.holds k.at)

pub loop-bare-preserved : goal.loop-bare-preserved
loop-bare-preserved g c =
    let i = c.loop-bare.invariant in
    let up = c.remove_bare-owner.ensures in
    record {
      sound = up.sound;
      inside = subst (λ m. c.remove_bare-owner.result.0 < m) (sym up.frame.size) up.inside;
      tells = up.bare;
      root_check = up.root_check ∙ i.root_check;
      marks = marks_then (cells c.args.table.now) (cells c.loop-bare.table) (cells c.remove_bare-owner.new.table) i.marks up.marks;
      frame = frame_then _ _ _ i.frame up.frame;
      climbs = λ f w h at.
          let k = i.climbs f w h at in
          climb_on _ _ _ _ f w _ _ k (told_bare _ _ _ (i.tells k.tree k.path k.holds k.at) c.loop-bare-test.true).1 (up.tree k.tree k.path k.holds k.at);
    }

pub returns : goal.returns
returns g c =
    let i = c.loop-bare.invariant in
    record {
      sound = i.sound;
      tree = λ f w h at.
          let k = i.climbs f w h at in
          climb_end _ _ f w _ k (told_not _ _ _ (i.tells k.tree k.path k.holds k.at) c.loop-bare-test.false);
      marks = i.marks;
      root_check = i.root_check;
      frame = i.frame;
    }
