use Rattle.std.proofs.Common.{Some}
use Rattle.either_layout.proofs.load.load_bytes.Goals as goal

pub returns-clause-loads : goal.returns-clause-loads
returns-clause-loads g c = (Some c.load_from_reader_with_limit.new.reader.now, c.load_from_reader_with_limit.ensures.loads)
