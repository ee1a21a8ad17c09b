use Rattle.std.proofs.Common.{ℕ, List, inl, inr, refl, subst}
use Rattle.std.specs.Str.{chars}
use Rattle.cedar_c.specs.Matching.{edits_if, is_wanted_text, TellsWanted}
use Rattle.cedar_c.proofs.near_texts.near_text_of.Goals as goal

pub returns-in-Ok : goal.returns-in-Ok
returns-in-Ok g c =
    let told = c.near_text.new in
    let read = c.in-Ok.ensures.cases in
    inl (read.1, subst (λ (text : List ℕ). TellsWanted (is_wanted_text c.args.is_beginning (edits_if c.args.two_edits) (chars text)) c.args.trie.now.state c.args.behind.now c.args.buffer.now told.buffer c.args.value.now told.value c.args.needed.now told.needed c.near_text.result) read.0 c.near_text.ensures)

pub returns-in-Err : goal.returns-in-Err
returns-in-Err g c = inr (c.in-Err.ensures.cases.0, refl, refl, refl, refl)
