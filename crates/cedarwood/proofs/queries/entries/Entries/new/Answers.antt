use Rattle.std.proofs.Common.{◌∙◌, ap, length, sym}
use Rattle.cedarwood.proofs.EntriesLemmas.{entries_begin, entries_place}
use Rattle.cedarwood.proofs.queries.entries.Entries.new.Goals as goal

pub invariant_of-result : goal.invariant_of-result
invariant_of-result g c =
    let T = g.T.Walked.shown c.args.trie.now in (
      c.requires.well_formed,
      (λ _. entries_place T c.new.result.items c.new.ensures.items),
      ap length (entries_begin g.T.Walked.slots T c.new.result.items c.args.entries c.requires.well_formed c.new.ensures.items c.requires.entries) ∙ sym c.requires.entries,
    )

pub returns : goal.returns
returns g c = entries_begin g.T.Walked.slots (g.T.Walked.shown c.args.trie.now) c.new.result.items c.args.entries c.requires.well_formed c.new.ensures.items c.requires.entries
