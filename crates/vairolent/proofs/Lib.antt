-- What an export leaves is what the service leaves, as C has it; and read back it is a call of the service.
pub mod Calls
