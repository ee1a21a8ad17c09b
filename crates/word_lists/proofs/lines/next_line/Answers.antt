use Rattle.std.proofs.Common.{rules, ◌≡◌, ◌∙◌, [], ap, length}
use Rattle.std.specs.Prelude.{ltb}
use Rattle.word_lists.proofs.ListedLines.{took_next}
use Rattle.word_lists.proofs.lines.next_line.Goals as goal

pub returns-in-Ok-clause-next : goal.returns-in-Ok-clause-next
returns-in-Ok-clause-next g c =
    let none : c.clear.new.self.items ≡ [] = search rules in
    took_next (g.R.Read.remaining c.args.reader.now) (g.R.Read.remaining c.read_until.new.self) c.clear.new.self.items c.read_until.new.buf.items c.has_bytes.result
    none c.in-Ok.ensures.bytes c.in-Ok.ensures.rest (c.has_bytes.ensures ∙ ap (λ l. ltb 0 (length l)) c.deref.ensures.value)
