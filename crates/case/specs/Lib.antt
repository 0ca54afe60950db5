-- What reading says that it does: how a line of the cases is read, and what its numbers ask.
pub mod Lines
pub mod Cases
