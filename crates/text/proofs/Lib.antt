-- The laws of digits, which rest on how a number is printed.
pub mod Decimals
