-- Laws of the definitions, that a caller goes by.
pub mod ListLaws
