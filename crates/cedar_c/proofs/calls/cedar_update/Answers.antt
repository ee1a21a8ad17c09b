use Rattle.std.proofs.Common.{rules}
use Rattle.cedar_c.proofs.calls.cedar_update.Goals as goal

pub returns-in-Err : goal.returns-in-Err
returns-in-Err c = record {
  stores = record {
    closed = search rules;
    ok = search rules;
    err = search rules;
    unchanged = search rules;
    faulty = search rules;
    memory = search rules;
    limit = search rules;
    spare = search rules;
    refused = search rules;
    stays = search rules;
    layout = search rules;
    trials = search rules;
    search_limit = search rules;
  };
}
