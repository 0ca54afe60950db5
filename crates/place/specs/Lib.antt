-- What the contracts of `place` cite beside the rules, and the laws of reserve.
pub mod Places
