use Rattle.std.proofs.Common.{w32, arith, ap, drop, ◌++◌, ◌∙◌}
use Rattle.std.proofs.lemmas.Int.{to_z-of_z}
use Rattle.std.specs.Fmt.{signed_decimal}
use Rattle.word_lists.proofs.Rooms.{at_end, entry_put}
use Rattle.word_lists.proofs.word.put_entry.Goals as goal

pub returns-clause-written : goal.returns-clause-written
returns-clause-written c =
    let word = c.args.word.now in
    let ended = c.put_byte-end in
    let last = at_end c.args.room.now 128 10 _ (omega arith) ended.ensures.written in
    let figures = c.put_signed-figures.ensures.written ∙ ap (λ n. signed_decimal n ++ drop ended.result ended.new.room) (to_z-of_z w32 c.args.number c.ranges.number) in
    entry_put word _ _ _ _ c.args.number c.requires.plain c.put_bytes.ensures.written c.put_byte-tab.ensures.written figures last
