use Rattle.std.proofs.Common.{◌++◌, ◌∷◌, ◌∙◌, [], List, ℕ, ap}
use Rattle.device_lines.proofs.Writing.{breaks_first, then_writes, writes_same}
use Rattle.word_lists.proofs.counts.write_figure.Goals as goal

pub returns-in_err-write_whole : goal.returns-in_err-write_whole
returns-in_err-write_whole g c =
    writes_same (ap (λ (text : List ℕ). text ++ 10 ∷ []) (c.as_bytes.ensures.value ∙ c.format.ensures.text))
    (breaks_first (10 ∷ []) c.from_residual.ensures.1 c.in_err-write_whole.ensures)

pub returns : goal.returns
returns g c =
    writes_same (ap (λ (text : List ℕ). text ++ 10 ∷ []) (c.as_bytes.ensures.value ∙ c.format.ensures.text))
    (then_writes c.in_ok-write_whole.ensures c.write_whole-2.ensures)
