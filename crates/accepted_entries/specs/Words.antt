-- The words that the clauses cite, from one place.
pub use Rattle.accepted_entries.specs.Accepted.{entries_in_span, GivesAccepted, GoesOnBehind}
pub use Rattle.accepted_entries.specs.Accepted.{KeepsAccepted, LeavesKey, SaysOf, verdict_of}
pub use Rattle.accepted_entries.specs.Bounds.{CostsLookUps, FollowsKey, TakesWayOn}
pub use Rattle.last_entries.specs.Nearness.{AscendByKeys, entry_told, IsFirstOf}
