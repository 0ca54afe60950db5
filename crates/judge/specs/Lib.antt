-- What the judge's answer tells.
pub mod Judging
