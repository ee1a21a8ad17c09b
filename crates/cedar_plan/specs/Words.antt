-- The words of clauses, from one place.
pub use Rattle.cedar_journal.specs.Files.{ends_closed, HasExtent, is_at_rest}
pub use Rattle.cedar_journal.specs.Formats.{frame_of, opening}
pub use Rattle.cedar_journal.specs.declared.format.Format.TheVariants.{Plain, Summed}
pub use Rattle.cedar_plan.specs.Plans.{header, PlansAppend, works_of}
pub use Rattle.cedar_plan.specs.Safety.{AppendsAreSafe, OpeningsAreSafe, WithdrawalsAreSafe}
pub use Rattle.cedar_plan.specs.Works.{cut_to, opening_works, write_to}
