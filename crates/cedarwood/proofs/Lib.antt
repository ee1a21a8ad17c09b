pub use Rattle.cedar_tree.proofs.WalkLemmas
pub use Rattle.cedar_tree.proofs.OrderLemmas
pub use Rattle.cedar_tree.proofs.MemberLemmas
pub use Rattle.cedar_tree.proofs.GeneralLemmas
pub use Rattle.cedar_tree.proofs.FrontFromLemmas
pub use Rattle.cedar_tree.proofs.EntryLemmas
pub use Rattle.cedar_model.proofs.MeaningLemmas.HeldCount
pub use Rattle.cedar_format.proofs.OneTable
pub use Rattle.cedar_tree.proofs.FrontLemmas
pub use Rattle.cedar_tree.proofs.TreeLemmas
pub mod DictionaryLemmas
pub mod FaultLemmas
pub mod GrowthLemmas
pub mod SortedInputLemmas
pub mod UnsortedLemmas
pub mod UpdateLemmas
pub mod CountLemmas
pub mod PredictionLemmas
pub mod BatchLemmas
pub mod BuildLemmas
pub mod CollectLemmas
pub mod EntriesLemmas
pub mod LoadLemmas
mod MakingLemmas
pub mod MarkedLemmas
mod MemoryLemmas
mod OutcomeLemmas
pub mod RoomLemmas
pub mod SaveLemmas
mod ValidLemmas
pub mod LongestLemmas
pub mod RangeLemmas
pub mod BetweenLemmas
pub mod BoundedLemmas
mod PutBackLemmas
mod InnerMarksLemmas
mod CompactLemmas
mod ShrinkLemmas
pub mod ErasureLemmas
mod EndsLemmas
mod RangeLawLemmas
pub mod CursorLemmas
