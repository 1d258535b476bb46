-- Laws of the definitions, and what is proved of the two engines.
-- Lists, masks, and what holds of every state:
pub mod Lists
pub mod Bits
-- the laws of each file of specs/:
pub mod RefusalLaws
pub mod MarkLaws
pub mod JudgeLaws
pub mod LookLaws
pub mod QueueLaws
pub mod TableLaws
pub mod PermissionLaws
pub mod CheckLaws
pub mod ClockLaws
pub mod Ones
-- a waking, in either engine:
pub mod WakingLaws
pub mod Rules
pub mod Calm
pub mod CleanLaws
pub mod Unmarked
-- the operation that judging names; a refused event changes nothing, the two engines agree, what a whole set shows, and the situations:
pub mod Positions
pub mod Refusals
pub mod Agree
pub mod EventLaws
pub mod WakingEvents
pub mod Engines
pub mod WholeSetLaws
pub mod Situations
