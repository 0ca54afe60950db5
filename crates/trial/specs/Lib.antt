-- What a case leads to by the rules, and the laws of its image.
pub mod Outcomes
pub mod Filling
