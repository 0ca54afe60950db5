-- What the contracts of `survey` cite beside the rules, and the laws of its tests and of check.
pub mod Checking
