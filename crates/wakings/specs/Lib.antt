-- A lent list of bytes as wakings.
pub mod Wakings
