use Rattle.whole_files.proofs.Beside.{split_last, split_whole}
use Rattle.whole_files.proofs.names.split_name.Goals as goal

pub returns-in-Some-clause-whole : goal.returns-in-Some-clause-whole
returns-in-Some-clause-whole c = split_whole c.args.path.now c.in-Some.folder.now c.in-Some.name.now c.in-Some.ensures.cases

pub returns-in-Some-clause-last : goal.returns-in-Some-clause-last
returns-in-Some-clause-last c = split_last c.args.path.now c.in-Some.folder.now c.in-Some.name.now c.in-Some.ensures.cases
