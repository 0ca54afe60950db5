-- What the contracts of `steps` cite beside the rules, and the laws of its runs.
pub mod Acts
pub mod Lists
pub mod Loops
