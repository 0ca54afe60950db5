-- What the contracts of `seen` cite beside the rules, what the state is after any beginning of the clumps, and what is read off it.
pub mod Forms
pub mod States
pub mod Judging
pub mod Parts
pub mod Beginnings
pub mod Told
pub mod Seeing
