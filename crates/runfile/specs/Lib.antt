-- What a run file says, in the order of "The run file": its fields, its table, its bodies, the whole.
pub mod Fields
pub mod Table
pub mod Body
pub mod Kinds
pub mod File
