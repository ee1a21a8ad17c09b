pub use Rattle.whole_files.specs.Calls
pub mod Plans
pub mod Safety
pub mod Words
pub mod Works
