-- The table's fields, and its slots as functions of their numbers.
pub mod Cells
pub mod Layouts
pub mod TableFields
