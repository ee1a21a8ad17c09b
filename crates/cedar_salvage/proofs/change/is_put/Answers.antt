use Rattle.std.specs.Prelude.{is_some}
use Rattle.std.proofs.Common.{◌-◌, length, take, drop, ◌∙◌, ap, sym, arith}
use Rattle.cedar_store.proofs.Payloads.{high_put, rest_is, short_put}
use Rattle.cedar_salvage.proofs.Changes.{put_by_key}
use Rattle.cedar_salvage.proofs.change.is_put.Goals as goal

pub returns-then-bytes-lt4 : goal.returns-then-bytes-lt4
returns-then-bytes-lt4 c = sym (ap is_some (short_put c.args.bytes.now (omega arith)))

pub returns-then-number : goal.returns-then-number
returns-then-number c = sym (ap is_some (high_put c.args.bytes.now (omega arith) (omega (arith, c.number.ensures))))

pub returns : goal.returns
returns c =
    let bytes = c.args.bytes.now in
    c.is_key.ensures ∙ put_by_key bytes (take (length bytes - 4) (drop 4 bytes)) (omega arith) (rest_is 4 bytes) (omega (arith, c.number.ensures))
