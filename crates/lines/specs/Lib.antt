-- The text of the lines, and what writing it into a lent buffer comes to.
pub mod Text
pub mod Buffer
