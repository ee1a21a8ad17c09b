use Rattle.std.proofs.Common.{◌+◌, ◌-◌, List, [], ◌∷◌, ap, arith, ℕ}
use Rattle.std.proofs.lemmas.List.{take_at}
use Rattle.cedar_journal.specs.Formats.{frame_of, opening}
use Rattle.cedar_journal.proofs.Readings.{length-frame}
use Rattle.cedar_plan.specs.Works.{write_to}
use Rattle.cedar_plan.proofs.plan.plan_append.Goals as goal

pub returns : goal.returns
returns c = λ f payload rest is.
    ap (λ (l : List ℕ). write_to (c.args.end + 1) l ∷ write_to c.args.end (opening f ∷ []) ∷ []) (take_at (frame_of f payload) rest (c.args.size - 1) (omega (arith, is, length-frame f payload)))
