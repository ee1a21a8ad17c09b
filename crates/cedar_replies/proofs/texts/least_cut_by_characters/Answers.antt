use Rattle.std.proofs.lemmas.Result.{err_from_is_err_and}
use Rattle.cedar_words.specs.Cuts.{character_price}
use Rattle.cedar_replies.specs.Texts.{IsCheapCut}
use Rattle.cedar_replies.proofs.CollectLemmas.{no_text, refused, some_text}
use Rattle.cedar_replies.proofs.EmptyTextLemmas.{no_cheap_cut}
use Rattle.cedar_replies.proofs.texts.least_cut_by_characters.Goals as goal

pub returns-then-is_empty : goal.returns-then-is_empty
returns-then-is_empty g c =
    let empty = no_text c.args.text.now c.is_empty.result c.is_empty.ensures c.if-is_empty.true in
    no_cheap_cut c.args.trie.now.state.tree (character_price c.args.unknown c.args.text.now) c.args.text.now c.new.result.items empty c.new.ensures.items

pub returns-in_err-cheapest_by_characters : goal.returns-in_err-cheapest_by_characters
returns-in_err-cheapest_by_characters g c =
    let p = err_from_is_err_and c.from_residual.result c.from_residual.ensures.1 in
    let some = some_text c.args.text.now c.is_empty.result c.is_empty.ensures c.if-is_empty.false in
    refused c.from_residual.result p.0 (λ found. IsCheapCut c.args.trie.now.state.tree (character_price c.args.unknown c.args.text.now) c.args.text.now found.items) c.args.text.now p.1 p.2 some

pub returns : goal.returns
returns g c =
    let e = c.in_ok-cheapest_by_characters.ensures in
    record { cut = e.cut; least = e.least; capped = e.capped; ahead = e.ahead; best = e.best }
