use Rattle.whole_files.proofs.Beside.{at_root, before_slash, without_slash}
use Rattle.whole_files.proofs.names.folder_of.Goals as goal

pub returns-in_default : goal.returns-in_default
returns-in_default c = without_slash c.args.path.now c.in_default.ensures.cases

pub returns-then-is_empty : goal.returns-then-is_empty
returns-then-is_empty c = at_root c.args.path.now c.in-Some.folder.now c.in-Some.field-0-1.now c.in-Some.ensures.cases c.is_empty.result c.is_empty.ensures c.if-is_empty.true

pub returns : goal.returns
returns c = before_slash c.args.path.now c.in-Some.folder.now c.in-Some.field-0-1.now c.in-Some.ensures.cases c.is_empty.result c.is_empty.ensures c.if-is_empty.false
