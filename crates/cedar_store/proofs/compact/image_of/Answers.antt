use Rattle.std.specs.Prelude.{FitsSigned, option_map, None, Some}
use Rattle.std.specs.List.{AllByRecursion}
use Rattle.std.proofs.Common.{◌≡◌, ◌∙◌, [], ◌∷◌, ap, arith, length, length-append, rules, subst, sym}
use Rattle.std.proofs.lemmas.Int.{to_z-of_z}
use mir.Syntax.{w32}
use Rattle.cedar_journal.specs.Image.{payloads_of}
use Rattle.cedarwood.specs.Queries.{Entry}
use Rattle.cedarwood.specs.State.{new_state}
use Rattle.cedarwood.specs.Builds.{all_stored}
use Rattle.cedarwood.specs.Fault.{fault}
use Rattle.cedar_store.specs.Changes.{after_payloads, changes_of, put_at}
use Rattle.cedar_store.specs.Compactions.{compacted_length}
use Rattle.cedar_store.proofs.Compacted.{none_left, one_put}
use Rattle.cedar_store.proofs.compact.image_of.Goals as goal

pub loop-entry-init : goal.loop-entry-init
loop-entry-init g c = record {
  made = ap (λ ps. option_map (λ s. all_stored s c.args.entries) (after_payloads new_state ps)) c.in_ok-image.ensures.none;
  size = omega (arith, c.in_ok-image.ensures.length);
  count = omega (arith, ap length c.in_ok-image.ensures.none);
  sound = c.requires;
}

pub push_entry-requires : goal.push_entry-requires
push_entry-requires g c =
    let i = c.loop-entry.invariant in
    let e : Entry = (c.in-Ok.key.items, c.in-Ok.value) in
    let step : c.loop-entry.entries ≡ e ∷ c.next.new.self = search rules in
    let fits : FitsSigned w32 c.in-Ok.value = search rules in
    let sound = subst (AllByRecursion (λ (x : Entry). fault x.0 x.1 ≡ None)) step i.sound in
    (λ k. fault (c.deref.ensures.value k) (to_z-of_z w32 c.in-Ok.value fits k)) ∙ sound.0

pub loop-entry-preserved : goal.loop-entry-preserved
loop-entry-preserved g c =
    let i = c.loop-entry.invariant in
    let e : Entry = (c.in-Ok.key.items, c.in-Ok.value) in
    let later = c.next.new.self in
    let step : c.loop-entry.entries ≡ e ∷ later = search rules in
    let fits : FitsSigned w32 c.in-Ok.value = search rules in
    let same = c.deref.ensures.value in
    let put = c.in_ok-push_entry.ensures.pushed in
    let change : changes_of put.payload ≡ Some (put_at e.0 e.1 ∷ []) = put.change ∙ (λ k. Some (put_at (same k) (to_z-of_z w32 c.in-Ok.value fits k) ∷ [])) in
    let before = payloads_of c.loop-entry.image in
    record {
      made =
          one_put before (payloads_of c.push_entry.new.image) put.payload e.0 e.1 later put.behind change
          ∙ ap (λ l. option_map (λ s. all_stored s l) (after_payloads new_state before)) (sym step)
          ∙ i.made;
      size = omega (arith, i.size, c.in_ok-push_entry.ensures.longer, ap length same, ap compacted_length step);
      count = omega (arith, i.count, ap length put.behind, length-append before (put.payload ∷ []), ap length step);
      sound = (subst (AllByRecursion (λ (x : Entry). fault x.0 x.1 ≡ None)) step i.sound).1;
    }

pub returns-clause-made : goal.returns-clause-made
returns-clause-made g c =
    let ended : c.loop-entry.entries ≡ [] = search rules in
    let held = after_payloads new_state (payloads_of c.loop-entry.image) in
    sym (none_left held) ∙ ap (λ l. option_map (λ s. all_stored s l) held) (sym ended) ∙ c.loop-entry.invariant.made

pub returns-clause-length : goal.returns-clause-length
returns-clause-length g c =
    let ended : c.loop-entry.entries ≡ [] = search rules in
    let all = c.loop-entry.invariant.size in
    omega (arith, all, ap compacted_length ended)

pub returns-clause-count : goal.returns-clause-count
returns-clause-count g c =
    let ended : c.loop-entry.entries ≡ [] = search rules in
    omega (arith, c.loop-entry.invariant.count, ap length ended)
