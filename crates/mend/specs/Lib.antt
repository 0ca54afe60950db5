-- What the contracts of `mend` cite beside the rules, and the laws of a walk that stores behind itself.
pub mod Passes
pub mod Recovering
