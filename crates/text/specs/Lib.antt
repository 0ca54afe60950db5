-- How a number is printed, what is written where in a buffer, and the laws of writing. Those of digits are in proofs/Decimals.antt.
pub mod Texts
pub mod Writing
pub mod Examples
