-- The words that the clauses cite, from one place.
pub use Rattle.best_few.specs.Orders.{best, entry_cmp, found_entry, IsInOrder, KeepsBest}
pub use Rattle.best_few.specs.Orders.{KeepsOneMore, kept_cmp, PrecedesLast, sort_by_value}
pub use Rattle.best_few.specs.Orders.{TellsIfBefore, turn_of, turned_entry}
pub use Rattle.best_few.specs.declared.order.ByValue.{ByValue}
pub use Rattle.best_few.specs.declared.order.ByValue.TheVariants.{LowestFirst}
pub use Rattle.cedar_tree.specs.Queries.{Entry}
pub use Rattle.std.specs.BinaryHeap.{heap_items, heap_len, IsHeap}
pub use Rattle.std.specs.List.Sorted.{IsPermutation}
pub use Rattle.std.specs.Ordering.{is_lt}
