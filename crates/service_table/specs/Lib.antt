-- What a slot, a process and a number are, and what judged copies do to a host.
pub mod Numbered
pub mod Written
