-- Laws that the proofs of the rules cite.
pub mod LentLaws
pub mod LookLaws
pub mod SettleLaws
pub mod WakingLoops
pub mod QuickLoops
pub mod SetLoops
pub mod ByProcess
pub mod Marking
