-- What a case leads to, as it is said: the checksum, and the line that is printed.
pub mod Sums
pub mod Texts
