-- The laws that rest on what a line means.
pub mod Fields
pub mod Parting
pub mod Meanings
pub mod Spaces
pub mod Keeping
