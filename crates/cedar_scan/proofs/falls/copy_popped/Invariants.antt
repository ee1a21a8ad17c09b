use Rattle.cedar_scan.proofs.FallLemmas.{AreCopied}
use Rattle.cedar_scan.proofs.falls.copy_popped.Given as goal

abbrev pub invariant-loop-index : goal.invariant-loop-index
invariant-loop-index g l = AreCopied l.initial.popped.items l.fn.fall l.shift l.index l.popped.items
