use Rattle.std.proofs.Common.{◌≡◌, ◌+◌, ◌∙◌, ap, cond, drop, sym, get_or}
use Rattle.cedarwood.specs.State.{after_erase}
use Rattle.cedar_store.specs.Batches.{change_at, late_erased}
use Rattle.cedar_store.specs.Told.{change_told, changes_told}
use Rattle.cedar_store.proofs.Withdrawn.{blank, told_at}
use Rattle.cedar_store.proofs.batch.erase_late.Goals as goal

pub returns-in-Update : goal.returns-in-Update
returns-in-Update g c =
    let cs = changes_told c.args.changes.now in
    let i = c.args.index in
    let there : change_at cs i ≡ change_told (get_or c.args.changes.now i blank) = told_at c.args.changes.now i c.requires.inside in
    sym (ap (λ d. late_erased (g.T.Words.state c.args.words.now) d (drop (i + 1) cs)) (there ∙ ap change_told c.in-Update.is))

pub returns-in-Erase : goal.returns-in-Erase
returns-in-Erase g c =
    let s = (g.T.Words.state c.args.words.now) in
    let cs = changes_told c.args.changes.now in
    let i = c.args.index in
    let there : change_at cs i ≡ change_told (get_or c.args.changes.now i blank) = told_at c.args.changes.now i c.requires.inside in
    c.erase_unless.ensures
    ∙ ap (λ b. cond b s (after_erase s c.in-Erase.key.now)) c.is_put.ensures
    ∙ sym (ap (λ d. late_erased s d (drop (i + 1) cs)) (there ∙ ap change_told c.in-Erase.is))
