-- The laws of withdraw.
pub mod Slots
