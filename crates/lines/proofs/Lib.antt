-- Laws of the definitions; `Lengths` and `Writing` are what a caller goes by.
pub mod Digits
pub mod Decimal
pub mod Signs
pub mod Writing
pub mod Wakings
pub mod NumberRows
pub mod Lengths
pub mod Examples
