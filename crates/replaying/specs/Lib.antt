-- What a replay writes, and how far it has come.
pub mod Replay
pub mod Texts
