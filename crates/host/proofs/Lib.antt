-- Laws of the row.
pub mod RowLaws
pub mod Numbers
pub mod Joined
pub mod PartLaws
pub mod SleeperLaws
pub mod Whole
pub mod WaitLaws
pub mod ProcessLaws
pub mod QueueRows
pub mod SetRows
pub mod CallerRows
pub mod HeldLaws
pub mod SemaphoreLaws
