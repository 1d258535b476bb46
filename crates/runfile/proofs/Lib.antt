-- Laws of the definitions; `Walk` is what a caller goes by.
pub mod Numbers
mod Sizes
pub mod Loops
pub mod Walk
pub mod Beginnings
pub mod Examples
