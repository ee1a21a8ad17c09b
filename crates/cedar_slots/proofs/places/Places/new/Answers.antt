use Rattle.std.proofs.Common.{◌∙◌, ap, arith, length, refl}
use Rattle.std.proofs.lemmas.Int.{ints}
use Rattle.cedar_slots.proofs.ListsLemmas.ThreeLists.{cases_list}
use Rattle.cedar_slots.proofs.PlacementLemmas.FirstBlock.{Sound-fresh}
use Rattle.cedar_slots.proofs.places.Places.new.Goals as goal

pub returns-clause-made : goal.returns-clause-made
returns-clause-made g c =
    let slots = c.free_root_block.ensures in
    record {
      nodes_len = omega (arith, slots.len, ap length c.of.ensures.items, c.in_ok-nodes.ensures.len);
      steps = slots.steps;
      last = slots.last;
      infos = slots.infos ∙ c.of-2.ensures.items ∙ c.in_ok-infos.ensures.items_if_clones_equal (λ b same. same);
      records = c.of-3.ensures.items ∙ c.in_ok-records.ensures.items_if_clones_equal (λ b same. same);
      heads = cases_list _ refl refl refl;
      active = refl;
      max_trial = omega (arith, ints);
      rejects_len = c.in_ok-reject.ensures.len;
      rejects = c.in_ok-reject.ensures.values;
    }

pub returns-clause-sound : goal.returns-clause-sound
returns-clause-sound g c = Sound-fresh _ _ (returns-clause-made g c) (omega (arith, ints))
