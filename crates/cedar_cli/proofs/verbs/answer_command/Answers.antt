use Rattle.std.proofs.Common.{ap, arith, inl, inr, length, refl, rules, Some, sym, ◌≡◌, ◌∙◌, to_z, of_z, w32, FitsSigned}
use Rattle.std.proofs.lemmas.Int.{to_z-of_z}
use Rattle.cedarwood.specs.WatchedDevice.{has_failed}
use Rattle.cedar_cli.specs.Script.{lists_all}
use Rattle.cedar_cli.specs.declared.command.Verb.{Verb}
use Rattle.cedar_cli.specs.declared.command.Verb.TheVariants.{Put, Erase, Exact, Segment, Prefixes, Predict, Count, Entries, Figures}
use Rattle.cedar_cli.proofs.BlockCounts.{no_blocks}
use Rattle.cedar_cli.proofs.Faults.{writers_fault}
use Rattle.cedar_cli.proofs.Orders.{never_memory, write_alone}
use Rattle.cedar_cli.proofs.verbs.answer_command.Goals as goal

pub returns-in-Put : goal.returns-in-Put
returns-in-Put g c = record {
  answer = let fits : FitsSigned w32 c.in-Put.value = search rules in let e : Put (to_z w32 (of_z w32 c.in-Put.value)) ≡ c.args.verb = ap Put (to_z-of_z w32 c.in-Put.value fits) ∙ sym c.in-Put.is in rw (← e) c.answer_put.ensures.answer;
  faults = c.answer_put.ensures.faults;
  memory = λ starved. inr (c.answer_put.ensures.memory starved);
  limit = c.answer_put.ensures.limit;
  blocks = c.answer_put.ensures.blocks;
  max_trial = c.answer_put.ensures.max_trial;
}

pub returns-in-Entries : goal.returns-in-Entries
returns-in-Entries g c = record {
  answer = let e : Entries ≡ c.args.verb = sym c.in-Entries.is in rw (← e) c.answer_entries.ensures.answer;
  faults = c.answer_entries.ensures.faults;
  memory = let e : c.args.verb ≡ Entries = c.in-Entries.is in λ _. inl (ap (λ (v : Verb). lists_all (Some (v, c.args.key.now))) e);
  limit = λ full. absurd (c.answer_entries.ensures.never_full full);
  blocks = no_blocks (length c.args.key.now) c.args.trie.now;
  max_trial = refl;
}

pub returns-in-Erase : goal.returns-in-Erase
returns-in-Erase g c = record {
  answer = let e : Erase ≡ c.args.verb = sym c.in-Erase.is in rw (← e) c.answer_erase.ensures.answer;
  faults = writers_fault (has_failed c.args.writer.now) (has_failed c.answer_erase.new.writer) c.answer_erase.result c.answer_erase.ensures.faults;
  memory = λ starved. absurd (never_memory _ c.answer_erase.result c.answer_erase.ensures.faults.cause starved);
  limit = λ full. let alone = write_alone _ c.answer_erase.result c.answer_erase.ensures.faults.cause in absurd (alone.1 full);
  blocks = (0, omega arith, c.answer_erase.ensures.blocks);
  max_trial = c.answer_erase.ensures.max_trial;
}

pub returns-in-Exact : goal.returns-in-Exact
returns-in-Exact g c = record {
  answer = let e : Exact ≡ c.args.verb = sym c.in-Exact.is in rw (← e) c.answer_exact.ensures.answer;
  faults = writers_fault (has_failed c.args.writer.now) (has_failed c.answer_exact.new.writer) c.answer_exact.result c.answer_exact.ensures.faults;
  memory = λ starved. absurd (never_memory _ c.answer_exact.result c.answer_exact.ensures.faults.cause starved);
  limit = λ full. let alone = write_alone _ c.answer_exact.result c.answer_exact.ensures.faults.cause in absurd (alone.1 full);
  blocks = no_blocks (length c.args.key.now) c.args.trie.now;
  max_trial = refl;
}

pub returns-in-Prefixes : goal.returns-in-Prefixes
returns-in-Prefixes g c = record {
  answer = let e : Prefixes ≡ c.args.verb = sym c.in-Prefixes.is in rw (← e) c.answer_prefixes.ensures.answer;
  faults = writers_fault (has_failed c.args.writer.now) (has_failed c.answer_prefixes.new.writer) c.answer_prefixes.result c.answer_prefixes.ensures.faults;
  memory = λ starved. absurd (never_memory _ c.answer_prefixes.result c.answer_prefixes.ensures.faults.cause starved);
  limit = λ full. let alone = write_alone _ c.answer_prefixes.result c.answer_prefixes.ensures.faults.cause in absurd (alone.1 full);
  blocks = no_blocks (length c.args.key.now) c.args.trie.now;
  max_trial = refl;
}

pub returns-in-Predict : goal.returns-in-Predict
returns-in-Predict g c = record {
  answer = let e : Predict ≡ c.args.verb = sym c.in-Predict.is in rw (← e) c.answer_predict.ensures.answer;
  faults = writers_fault (has_failed c.args.writer.now) (has_failed c.answer_predict.new.writer) c.answer_predict.result c.answer_predict.ensures.faults;
  memory = λ starved. absurd (never_memory _ c.answer_predict.result c.answer_predict.ensures.faults.cause starved);
  limit = λ full. let alone = write_alone _ c.answer_predict.result c.answer_predict.ensures.faults.cause in absurd (alone.1 full);
  blocks = no_blocks (length c.args.key.now) c.args.trie.now;
  max_trial = refl;
}

pub returns-in-Count : goal.returns-in-Count
returns-in-Count g c = record {
  answer = let e : Count ≡ c.args.verb = sym c.in-Count.is in rw (← e) c.answer_count.ensures.answer;
  faults = writers_fault (has_failed c.args.writer.now) (has_failed c.answer_count.new.writer) c.answer_count.result c.answer_count.ensures.faults;
  memory = λ starved. absurd (never_memory _ c.answer_count.result c.answer_count.ensures.faults.cause starved);
  limit = λ full. let alone = write_alone _ c.answer_count.result c.answer_count.ensures.faults.cause in absurd (alone.1 full);
  blocks = no_blocks (length c.args.key.now) c.args.trie.now;
  max_trial = refl;
}

pub returns-in-Figures : goal.returns-in-Figures
returns-in-Figures g c = record {
  answer = let e : Figures ≡ c.args.verb = sym c.in-Figures.is in rw (← e) c.answer_figures.ensures.answer;
  faults = writers_fault (has_failed c.args.writer.now) (has_failed c.answer_figures.new.writer) c.answer_figures.result c.answer_figures.ensures.faults;
  memory = λ starved. absurd (never_memory _ c.answer_figures.result c.answer_figures.ensures.faults.cause starved);
  limit = λ full. let alone = write_alone _ c.answer_figures.result c.answer_figures.ensures.faults.cause in absurd (alone.1 full);
  blocks = no_blocks (length c.args.key.now) c.args.trie.now;
  max_trial = refl;
}

pub returns-in-Segment : goal.returns-in-Segment
returns-in-Segment g c = record {
  answer = let e : Segment ≡ c.args.verb = sym c.in-Segment.is in rw (← e) c.answer_segment.ensures.answer;
  faults = writers_fault (has_failed c.args.writer.now) (has_failed c.answer_segment.new.writer) c.answer_segment.result c.answer_segment.ensures.faults;
  memory = λ starved. absurd (never_memory _ c.answer_segment.result c.answer_segment.ensures.faults.cause starved);
  limit = λ full. let alone = write_alone _ c.answer_segment.result c.answer_segment.ensures.faults.cause in absurd (alone.1 full);
  blocks = no_blocks (length c.args.key.now) c.args.trie.now;
  max_trial = refl;
}
