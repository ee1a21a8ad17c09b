use Rattle.std.specs.Prelude.{FitsSigned, None, Ok}
use Rattle.std.proofs.Common.{◌≡◌, ◌∙◌, ap, refl, rules, subst, sym}
use Rattle.std.proofs.lemmas.Int.{to_z-of_z}
use mir.Val.{of_z, to_z}
use mir.Syntax.{w32}
use Rattle.cedarwood.specs.Tree.{number_at}
use Rattle.cedarwood.specs.State.{after_put}
use Rattle.cedarwood.proofs.EntryLemmas.Keys.{held_key}
use Rattle.cedarwood.proofs.TreeLemmas.{number_at-put_same}
use Rattle.cedarwood.specs.Fault.{fault}
use Rattle.cedar_store.specs.Batches.{HasKey, IsFaultless, IsHeld, only_updated}
use Rattle.cedar_store.specs.Told.{change_told}
use Rattle.cedar_store.proofs.Payloads.{key_is_sound, sound_pair}
use Rattle.cedar_store.proofs.batch.update_one.Goals as goal

pub returns-in_ok-held-in-Update : goal.returns-in_ok-held-in-Update
returns-in_ok-held-in-Update g c =
    let s = (g.T.Words.state c.args.words.now) in
    let t = (g.T.Words.state c.put.new.self) in
    let key = c.in-Update.key.now in
    let v = c.in-Update.value in
    let fits : FitsSigned w32 v = search rules in
    let same = to_z-of_z w32 v fits in
    let told = sym c.in-Update.is in
    let e = c.in_ok-held-in-Update.ensures in
    let made : t ≡ after_put s key v = e.updated.ok ∙ ap (after_put s key) same in
    let sound : fault key v ≡ None = ap (fault key) (sym same) ∙ sound_pair (fault key (to_z w32 (of_z w32 v))) (Ok tt) e.updated.faulty refl in
    record {
      updated = subst (λ d. t ≡ only_updated s (change_told d)) told made;
      held = subst (λ d. IsHeld s (change_told d) c.in_ok-held-in-Update.held) told
          (record { put = (v, refl); was = e.held; sound = e.sound; key_sound = key_is_sound key v sound; in_range = e.in_range });
      key = subst (λ d. HasKey (change_told d)) told (held_key t.tree key v c.count.ensures.sound (ap (λ u. number_at u.tree key) made ∙ number_at-put_same s.tree s.ordered key v));
      faultless = subst (λ d. IsFaultless (change_told d)) told sound;
      err = tt;
      cause = tt;
    }
