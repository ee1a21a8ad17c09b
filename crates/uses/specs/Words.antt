-- The words of these callers' clauses, from one place: their own, and those of the libraries.
pub use Rattle.best_few.specs.Orders.{found_entry}
pub use Rattle.cedar_words.specs.Words.{HasUtf8Keys, IsAheadCapped, IsCheapest, IsCut}
pub use Rattle.cedar_words.specs.Words.{IsLeastCapped, keywords_in, segments}
pub use Rattle.cedarwood.specs.Words.{all_stored, CedarFitsInMemory, device_of, empty_tree}
pub use Rattle.cedarwood.specs.Words.{entries_of, entries_with, exact, IsBlankOf, IsSlotLimit}
pub use Rattle.cedarwood.specs.Words.{number_at}
pub use Rattle.cedarwood.specs.Words.{after_put, path_calls, table_bytes}
pub use Rattle.cedarwood.specs.State.{State, state_code}
pub use Rattle.uses.specs.Counts.{count_of, one_more}
pub use Rattle.uses.specs.Keywords.{HasKeyword}
pub use Rattle.uses.specs.Opened.{IsValueIn}
pub use Rattle.uses.specs.Pages.{IsPage, ReadsTable}
pub use Rattle.uses.specs.Parts.{piece_of, term_of}
pub use Rattle.uses.specs.Saves.{IsThere}
pub use Rattle.uses.specs.Suggestions.{suggestions}
