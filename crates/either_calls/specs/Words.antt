-- The words of clauses, from one place: a caller's crate takes them from here.
pub use Rattle.cedarwood.specs.Words.{most_slots}
pub use Rattle.cedar_calls.specs.Words.{AddsRun}
pub use Rattle.either_layout.specs.Words.{inner_dictionary, inner_layout, layout_for}
pub use Rattle.either_calls.specs.Tries.{HasRoomFor, layout_of, tries_in}
