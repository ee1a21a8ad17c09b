use Rattle.std.proofs.Common.{◌≡◌, ◌+◌, ◌∙◌, ap, arith, length}
use Rattle.whole_files.specs.Names.{KeepsFront}
use Rattle.whole_files.proofs.Beside.{beside_of}
use Rattle.whole_files.proofs.names.name_beside.Goals as goal

pub returns : goal.returns
returns c =
    let pieces = c.split_name in
    let mark = c.mark_for-mark in
    let kept = c.kept_front.ensures in
    let more = c.len.result + 4 in
    let text : c.as_str.result.now ≡ mark.result.bytes = c.as_str.ensures.value in
    let size : c.len.result ≡ length mark.result.bytes = c.len.ensures.value in
    let keeps : KeepsFront more pieces.result.2.now c.kept_front.result.now = record { front = kept.front; room = kept.room; whole = kept.whole; other = kept.other } in
    beside_of c.args.path.now pieces.result.0.now pieces.result.1.now pieces.result.2.now c.kept_front.result.now c.as_str.result.now c.args.number more
    c.join_parts.result pieces.ensures.whole pieces.ensures.last c.requires.number (text ∙ mark.ensures.mark) (omega (arith, size, ap length text)) keeps c.join_parts.ensures
