-- What the crates that store a size ask of the bytes that they take.
pub mod Fits
