use Rattle.cedar_store.proofs.Payloads.{rest_is}
use Rattle.cedar_salvage.proofs.whole.behind_header.Goals as goal

pub returns : goal.returns
returns c = rest_is 13 c.args.bytes.now
