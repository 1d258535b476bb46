-- What is lent to a waking, the world that it holds, and what each rule leaves of it.
pub mod Lent
