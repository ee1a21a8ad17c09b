-- The words that the public clauses cite, from one place: a caller's crate takes them from here, and so do this crate's own sources.
pub use Rattle.cedar_words.specs.Characters.{AreWholeCharacters, HasUtf8Keys, PartsNoCharacter}
pub use Rattle.cedar_words.specs.Cuts.{character_price, cost_by, HasOneCheapest, IsAhead}
pub use Rattle.cedar_words.specs.Cuts.{IsCheapest, IsCheapestBy, IsCut}
pub use Rattle.cedar_words.specs.Cuts.{IsAheadCapped, IsLeastCapped}
pub use Rattle.cedar_words.specs.Spots.{IsKeyIn, IsLeftmost, keywords_from, keywords_in}
pub use Rattle.cedar_words.specs.Spots.{keywords_of, Spot, spots_at, spots_from}
pub use Rattle.cedar_words.specs.Spots.{spots_left}
pub use Rattle.cedar_words.specs.Steps.{AreCosts, AreMarks, AreWithin, best_cut, best_of, better_of}
pub use Rattle.cedar_words.specs.Steps.{IsFoundBy, IsMark, key_step, step_at, step_over}
pub use Rattle.cedar_words.specs.Tokens.{AreAdjacent, bytes_in, found_number, IsLongest, len_of}
pub use Rattle.cedar_words.specs.Tokens.{longest, segments, Token, tokens_behind}
pub use Rattle.cedar_words.specs.Tokens.{TokensGoOn}
pub use Rattle.cedar_words.specs.Lattice.{edges_at, edges_from, GivesEdge, IsEdgeOf, IsStop}
pub use Rattle.cedar_words.specs.Lattice.{key_edge, keys_left, own_run, run_by, run_edge}
pub use Rattle.cedar_words.specs.Models.{cost_with, HasOneBestCut, IsBestCut, IsCheapestByModel}
pub use Rattle.cedar_words.specs.Models.{IsCutBy, RunsKeepCharacters}
pub use Rattle.cedar_words.specs.Ranked.{AreWays, best_ways, insert_way, IsBestCuts, WaysGoOn}
pub use Rattle.cedar_words.specs.Ranked.{key_ways, lists_of, no_way, put_way, put_ways, run_ways}
pub use Rattle.cedar_words.specs.Ranked.{step_ways, way_along, way_at, way_before, ways_along}
pub use Rattle.cedar_words.specs.Ranked.{ways_behind}
pub use Rattle.cedar_words.specs.Runs.{byte_run, character_run, class_run, only_without_key}
pub use Rattle.cedar_words.specs.ModelSteps.{AreCostsBy, AreKeptBy, beside_run, best_by}
pub use Rattle.cedar_words.specs.ModelSteps.{best_cut_by, best_priced, kept_at, kept_value, or_run}
pub use Rattle.cedar_words.specs.ModelSteps.{priced_step, run_step, step_from, TellsStep}
pub use Rattle.cedarwood.specs.Queries.{Entry, front}
pub use Rattle.cedarwood.specs.State.{State}
pub use Rattle.cedarwood.specs.Builds.{all_stored}
pub use Rattle.cedarwood.specs.Tree.{cut, empty_tree, IsSoundBelow, put, Tree}
pub use Rattle.std.specs.Iterator.{item_count, UpTo, YieldsFirst}
pub use Rattle.std.specs.Iterator.SizeHint.{IsWithinCount}
