use Rattle.std.proofs.Common.{◌∙◌, ℕ, List, subst}
use Rattle.cedar_c.specs.Matching.{edits_if, is_wanted_text, TellsWanted}
use Rattle.cedar_c.proofs.near_texts.near_text.Goals as goal

pub returns-in-Ok : goal.returns-in-Ok
returns-in-Ok g c =
    let told = c.near_characters.new in
    subst (λ (query : List ℕ). TellsWanted (is_wanted_text c.args.is_beginning (edits_if c.args.two_edits) query) c.args.trie.now.state c.args.behind.now c.args.buffer.now told.buffer c.args.value.now told.value c.args.needed.now told.needed c.near_characters.result)
    (c.deref.ensures.value ∙ c.in-Ok.ensures) c.near_characters.ensures
