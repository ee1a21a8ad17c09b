use Rattle.cedar_tree.proofs.EntryLemmas.Steps.{cut_stops, cut_stops_at_end}
use Rattle.cedar_tree.proofs.edits.cut_ends.Goals as goal

pub returns-clause-there : goal.returns-clause-there
returns-clause-there c = λ t path none_there h. cut_stops_at_end t path none_there h

pub returns-clause-above : goal.returns-clause-above
returns-clause-above c = λ t w l rest stands gone. cut_stops t w l rest stands gone
