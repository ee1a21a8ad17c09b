use Rattle.std.specs.Prelude.{nat_eq}
use Rattle.std.specs.Cmp.Lexicographic.{pointwise}
use Rattle.std.proofs.Common.{◌≡◌, ◌∙◌, ap, rules, sym}
use Rattle.cedar_store.specs.Batches.{puts}
use Rattle.cedar_store.specs.Told.{change_told}
use Rattle.cedar_store.proofs.last_puts.puts.Goals as goal

pub returns-in-Update : goal.returns-in-Update
returns-in-Update c =
    let is : c.eq.result ≡ pointwise nat_eq c.args.path.now c.in-Update.key.now = search rules in
    is ∙ sym (ap (λ d. puts c.args.path.now (change_told d)) c.in-Update.is)

pub returns-in-Erase : goal.returns-in-Erase
returns-in-Erase c = sym (ap (λ d. puts c.args.path.now (change_told d)) c.in-Erase.is)
