use Rattle.std.proofs.Common.{ℕ, List, unsigned_abs}
use Rattle.cedar_words.specs.Cuts.{IsAheadCapped, IsCheapestBy, IsCut, IsLeastCapped}
use Rattle.cedar_words.specs.Models.{IsBestCut}
use Rattle.cedar_words.specs.Runs.{byte_run}
use Rattle.cedar_words.specs.Tokens.{Token}
use Rattle.cedar_words.proofs.CutLemmas.{said_of, steps_ahead, steps_capped, steps_cheapest, steps_cut}
use Rattle.cedar_words.proofs.InstanceLemmas.{found_best}
use Rattle.cedar_words.proofs.costs.cheapest.Goals as goal

pub returns-clause-cut : goal.returns-clause-cut
returns-clause-cut g c =
    let t = c.args.trie.now.state.tree in
    let text = c.args.text.now in
    let u : ℕ → ℕ = λ _. c.args.unknown in
    said_of t u text (λ (tokens : List Token). IsCut t text tokens) c.cut_by.result c.cut_by.ensures (λ costs are. steps_cut t u text costs are)

pub returns-clause-least : goal.returns-clause-least
returns-clause-least g c =
    let t = c.args.trie.now.state.tree in
    let text = c.args.text.now in
    let u : ℕ → ℕ = λ _. c.args.unknown in
    λ short. said_of t u text (λ (tokens : List Token). IsCheapestBy t u text tokens) c.cut_by.result c.cut_by.ensures (λ costs are. steps_cheapest t u text costs are (λ _. c.ranges.unknown.fits) short)

pub returns-clause-capped : goal.returns-clause-capped
returns-clause-capped g c =
    let t = c.args.trie.now.state.tree in
    let text = c.args.text.now in
    let u : ℕ → ℕ = λ _. c.args.unknown in
    said_of t u text (λ (tokens : List Token). IsLeastCapped t u text tokens) c.cut_by.result c.cut_by.ensures (λ costs are. steps_capped t u text costs are)

pub returns-clause-ahead : goal.returns-clause-ahead
returns-clause-ahead g c =
    let t = c.args.trie.now.state.tree in
    let text = c.args.text.now in
    let u : ℕ → ℕ = λ _. c.args.unknown in
    said_of t u text (λ (tokens : List Token). IsAheadCapped t u text tokens) c.cut_by.result c.cut_by.ensures (λ costs are. steps_ahead t u text costs are)

pub returns-clause-best : goal.returns-clause-best
returns-clause-best g c =
    let t = c.args.trie.now.state.tree in
    let text = c.args.text.now in
    let u : ℕ → ℕ = λ _. c.args.unknown in
    said_of t u text (λ (tokens : List Token). IsBestCut t unsigned_abs (λ p. byte_run (u p)) text tokens) c.cut_by.result c.cut_by.ensures (λ costs are. found_best t u text costs are)
