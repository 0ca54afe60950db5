-- What grow asks of the clump that was found, and the laws of its ways out.
pub mod Enlarging
