use Rattle.std.proofs.Common.{w32, arith, ap, ◌∙◌}
use Rattle.std.proofs.lemmas.Int.{to_z-of_z}
use Rattle.device_lines.proofs.Writing.{writes_same}
use Rattle.word_lists.specs.Lines.{entry_line}
use Rattle.word_lists.proofs.Rooms.{fields_put}
use Rattle.word_lists.proofs.scan.write_short.Goals as goal

pub returns : goal.returns
returns g c =
    let word = c.args.word.now in
    let same = ap (λ n. entry_line (word, n)) (to_z-of_z w32 c.args.number c.ranges.number) in
    writes_same
    (fields_put 128 c.put_field-start.new.room _ _ c.put_field-start.result c.args.line c.args.column (entry_line (word, c.args.number)) (omega arith) c.put_field-start.ensures.written c.put_field-place.ensures.written
    (c.put_entry-entry.ensures.written ∙ same))
    c.write_whole.ensures
