-- What the contracts of `release` cite beside the rules, and the laws of free.
pub mod Releases
