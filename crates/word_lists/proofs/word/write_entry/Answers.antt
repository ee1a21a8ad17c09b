use Rattle.std.proofs.Common.{w32, arith, ap, ◌∙◌, ◌≡◌, ◌++◌, ◌∷◌, [], List, ℕ}
use Rattle.std.proofs.lemmas.Int.{to_z-of_z}
use Rattle.std.specs.Fmt.{signed_decimal}
use Rattle.device_lines.proofs.Writing.{breaks_first, then_writes, writes_same}
use Rattle.word_lists.specs.Lines.{entry_line, word_text}
use Rattle.word_lists.proofs.Rooms.{all_from}
use Rattle.word_lists.proofs.word.write_entry.Goals as goal

pub returns-in_err-write_word : goal.returns-in_err-write_word
returns-in_err-write_word g c = breaks_first (9 ∷ [] ++ (signed_decimal c.args.number ++ 10 ∷ [])) c.from_residual.ensures.1 c.in_err-write_word.ensures

pub returns : goal.returns
returns g c =
    let figures : c.as_bytes.result.now ≡ signed_decimal c.args.number = c.as_bytes.ensures.value ∙ c.format.ensures.text ∙ ap signed_decimal (to_z-of_z w32 c.args.number c.ranges.number) in
    writes_same (ap (λ (text : List ℕ). word_text c.args.word.now ++ (9 ∷ [] ++ (text ++ 10 ∷ []))) figures)
    (then_writes c.in_ok-write_word.ensures c.write_line.ensures)

pub returns-then-finds_room : goal.returns-then-finds_room
returns-then-finds_room g c =
    let word = c.args.word.now in
    let put = c.put_entry-start in
    let same = put.ensures.written ∙ ap (λ n. entry_line (word, n)) (to_z-of_z w32 c.args.number c.ranges.number) in
    writes_same (all_from 128 put.new.room (entry_line (word, c.args.number)) put.result (omega arith) same) c.write_whole.ensures
