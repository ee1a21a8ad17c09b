-- The words that the public clauses cite, from one place: a caller's crate takes them from here, and so do this crate's own sources.
pub use Rattle.cedar_match.specs.Matching.{CountsItem, CountsNodes, entries_to_come, GivesCopy}
pub use Rattle.cedar_match.specs.Matching.{GivesItem, GivesMatch, GoesToMatch, HasNoMoreToCome}
pub use Rattle.cedar_match.specs.Matching.{IsMatchPlaceOf, leads_on, LeadsToNext, LeavesNoNode}
pub use Rattle.cedar_match.specs.Matching.{left_from, left_past, match_walk_code}
pub use Rattle.cedar_match.specs.Matching.{MatchWalk, nodes_to_come, path_on, states_along, StepsOn}
pub use Rattle.cedar_match.specs.Matching.{StopsBeforeNode}
pub use Rattle.cedar_match.specs.TableNodes.{node_of, StandsIn}
pub use Rattle.cedar_tree.specs.Queries.{Entry, prefixes, walk}
pub use Rattle.cedar_tree.specs.Tree.{Tree}
pub use Rattle.cedarwood.specs.declared.error.CedarError.TheVariants.{Memory}
pub use Rattle.std.specs.Iterator.{at_most, UpTo}
pub use Rattle.std.specs.Iterator.SizeHint.{IsWithinCount}
pub use Rattle.cedarwood.specs.Blanks.{IsBlankOf}
