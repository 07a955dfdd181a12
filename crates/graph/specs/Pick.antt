-- The word of the contracts for the better of two candidates. Assumes nothing.
pub use Rattle.seq.specs.Pick.{better}
