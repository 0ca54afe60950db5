-- What every public contract determines, and check as a request.
pub mod Determined
