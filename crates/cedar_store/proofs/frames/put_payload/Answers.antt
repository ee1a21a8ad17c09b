use Rattle.std.proofs.Common.{◌≡◌, ◌/◌, ◌%◌, ◌∷◌, ◌∙◌, ap, rules}
use mir.Val.{of_z}
use mir.Syntax.{w32}
use Rattle.cedar_journal.proofs.Numbers.{told_length}
use Rattle.cedar_store.specs.Changes.{change_of, put_at}
use Rattle.cedar_store.proofs.Payloads.{fits, made_put, one_change, value_is_sound}
use Rattle.cedar_store.proofs.frames.put_payload.Goals as goal

pub returns-clause-change : goal.returns-clause-change
returns-clause-change g c =
    let n = of_z w32 c.args.value in
    let is : c.extend_from_slice.new.self.items ≡ 1 ∷ n % 256 ∷ n / 256 % 256 ∷ n / 65536 % 256 ∷ n / 16777216 % 256 ∷ c.args.key.now = search rules in
    ap change_of is ∙ made_put c.args.key.now c.args.value (n % 256) (n / 256 % 256) (n / 65536 % 256) (n / 16777216 % 256) c.requires (told_length n (fits c.args.value (value_is_sound c.args.key.now c.args.value c.requires)))

pub returns-clause-alone : goal.returns-clause-alone
returns-clause-alone g c = one_change c.extend_from_slice.new.self.items (put_at c.args.key.now c.args.value) (returns-clause-change g c)
