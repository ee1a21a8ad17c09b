use Rattle.std.proofs.Common.{◌++◌, ap₂, List, subst, ℕ}
use Rattle.std.specs.Prelude.{codes}
use Rattle.cedar_cli.specs.Statuses.{WritesOrFailed}
use Rattle.cedar_cli.proofs.Reports.{told_further}
use Rattle.cedar_cli.proofs.program.tell_usage.Goals as goal

pub returns-in-Ok : goal.returns-in-Ok
returns-in-Ok g c =
    let contents = g.E.Write.contents in
    let options = codes " [--unordered] [--load PATH] [--save PATH] [--v1-0]\n" in
    told_further contents c.args.errors.now c.write_all.new.self c.write_message.new.errors (codes "usage: ") (c.args.name.now ++ options) c.in-Ok.ensures.bytes
    (subst (λ (bytes : List ℕ). WritesOrFailed contents c.write_all.new.self c.write_message.new.errors bytes) (ap₂ (λ (x y : List ℕ). x ++ y) c.as_bytes.ensures.value c.as_bytes-in-Ok.ensures.value) c.write_message.ensures)
