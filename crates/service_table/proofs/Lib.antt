-- Laws that the proofs of several functions cite, and that callers cite.
pub mod Lists
pub mod LastLaws
pub mod WrittenLaws
pub mod LoopLaws
pub mod SettingLaws
pub mod ZeroLaws
pub mod UndoLaws
pub mod ExitLaws
