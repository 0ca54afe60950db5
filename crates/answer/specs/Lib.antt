-- What the contracts of `answer` cite beside the rules.
pub mod Refusals
