use Rattle.std.proofs.Common.{◌∙◌, ℕ, Bool, List, ap, subst, sym}
use Rattle.byte_automata.specs.Fronts.{has_front}
use Rattle.cedar_c.specs.Matching.{edits_if, is_wanted_text, TellsWanted}
use Rattle.cedar_c.proofs.near_texts.near_characters.Goals as goal

pub returns-then-is_beginning : goal.returns-then-is_beginning
returns-then-is_beginning g c =
    let told = c.tell_wanted.new in
    let edits = edits_if c.args.two_edits in
    let query = c.args.query.now in
    let same = c.new-beginning.ensures ∙ ap has_front c.within_characters-near.ensures ∙ ap (λ b. is_wanted_text b edits query) (sym c.if-is_beginning.true) in
    subst (λ (wanted : List ℕ → Bool). TellsWanted wanted c.args.trie.now.state c.args.behind.now c.args.buffer.now told.buffer c.args.value.now told.value c.args.needed.now told.needed c.tell_wanted.result) same c.tell_wanted.ensures

pub returns : goal.returns
returns g c =
    let told = c.tell_wanted-2.new in
    let edits = edits_if c.args.two_edits in
    let query = c.args.query.now in
    let same = c.within_characters-near.ensures ∙ ap (λ b. is_wanted_text b edits query) (sym c.if-is_beginning.false) in
    subst (λ (wanted : List ℕ → Bool). TellsWanted wanted c.args.trie.now.state c.args.behind.now c.args.buffer.now told.buffer c.args.value.now told.value c.args.needed.now told.needed c.tell_wanted-2.result) same c.tell_wanted-2.ensures
