use Rattle.uses.proofs.TermLemmas.{updated_utf8}
use Rattle.uses.proofs.glossary.Glossary.add.Goals as goal

pub invariant_of-self : goal.invariant_of-self
invariant_of-self c =
    let updated = c.update.ensures.updated in
    updated_utf8 c.update.result c.self.inside.terms.state c.update.new.self.state c.args.term.now _ updated.ok updated.err c.utf8.term c.self.invariant
