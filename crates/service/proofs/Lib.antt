-- Laws that several proofs cite. Those of one event alone stand below its proof.
pub mod EventLaws
pub mod SlotLaws
pub mod WaitingLaws
pub mod QueryLaws
pub mod SetShown
pub mod ReadLaws
pub mod ReplyLaws
pub mod Calls
