-- What the example leans on.
mod Events
