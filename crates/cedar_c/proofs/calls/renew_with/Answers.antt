use Rattle.std.proofs.Common.{rules, ◌≡◌}
use Rattle.cedarwood.specs.Words.{no_search_limit}
use Rattle.cedar_c.proofs.calls.renew_with.Goals as goal

pub returns-in-Ok : goal.returns-in-Ok
returns-in-Ok c = record {
  opens = record {
    made = λ ok.
        let ordered : c.in-Ok.settings.ordered ≡ c.args.ordered = search rules in
        let trials : c.in-Ok.settings.max_trial ≡ c.args.max_trial = search rules in
        let limit : c.in-Ok.settings.search_limit ≡ no_search_limit = search rules in
        (c.in-Ok.settings, ordered, trials, limit, c.renew.ensures.made ok);
    layout = search rules;
    invalid = search rules;
    refused = search rules;
  };
}
