use Rattle.std.proofs.Common.{rules}
use Rattle.cedar_c.proofs.calls.cedar_insert.Goals as goal

pub returns-in-Err-clause-stores : goal.returns-in-Err-clause-stores
returns-in-Err-clause-stores c = record {
  closed = search rules;
  ok = search rules;
  err = search rules;
  unchanged = search rules;
  faulty = search rules;
  memory = search rules;
  limit = search rules;
  spare = search rules;
  refused = search rules;
  stays = search rules;
  layout = search rules;
  trials = search rules;
  search_limit = search rules;
}

pub returns-in-Some-clause-stores : goal.returns-in-Some-clause-stores
returns-in-Some-clause-stores c = record {
  closed = search rules;
  ok = search rules;
  err = search rules;
  unchanged = search rules;
  faulty = search rules;
  memory = search rules;
  limit = search rules;
  spare = search rules;
  refused = search rules;
  stays = search rules;
  layout = search rules;
  trials = search rules;
  search_limit = search rules;
}

pub returns-in_default-clause-stores : goal.returns-in_default-clause-stores
returns-in_default-clause-stores c = record {
  closed = search rules;
  ok = search rules;
  err = search rules;
  unchanged = search rules;
  faulty = search rules;
  memory = search rules;
  limit = search rules;
  spare = search rules;
  refused = search rules;
  stays = search rules;
  layout = search rules;
  trials = search rules;
  search_limit = search rules;
}
