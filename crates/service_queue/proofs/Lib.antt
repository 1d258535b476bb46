-- Laws of the queue in the row.
pub mod MovingLaws
pub mod QueueHeldLaws
pub mod PositionLaws
pub mod EndingLaws
