use Rattle.cedar_model.proofs.RelocationLemmas.WantedLabels.{Writing}
use Rattle.cedar_edit.proofs.relocation.resolve.labels_with.Given as goal

abbrev pub invariant-loop-other : goal.invariant-loop-other
invariant-loop-other g l = Writing l.table.ordered l.label l.labels l.wanted.items l.other-index l.placed
