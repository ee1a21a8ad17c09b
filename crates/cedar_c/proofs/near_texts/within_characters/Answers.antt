use Rattle.std.proofs.Common.{◌∙◌, ℕ, Bool, List, ap, sym}
use Rattle.byte_automata.specs.Characters.{are_near, characters_of}
use Rattle.cedar_c.specs.Matching.{edits_if}
use Rattle.cedar_c.proofs.near_texts.within_characters.Goals as goal

pub returns-then-two_edits : goal.returns-then-two_edits
returns-then-two_edits c =
    let near : Bool → List ℕ → Bool = λ two key. are_near c.args.query.now (edits_if two) (characters_of key) in
    c.two.ensures ∙ ap near (sym c.if-two_edits.true)

pub returns-else-two_edits : goal.returns-else-two_edits
returns-else-two_edits c =
    let near : Bool → List ℕ → Bool = λ two key. are_near c.args.query.now (edits_if two) (characters_of key) in
    c.one.ensures ∙ ap near (sym c.if-two_edits.false)
