-- The laws of activate.
pub mod Turns
