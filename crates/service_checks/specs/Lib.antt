-- The checks promise the model's definitions.
pub mod Found
