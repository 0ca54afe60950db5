-- What the contracts of `walk` cite beside the rules, and the laws of its searches.
pub mod Forms
pub mod Scans
pub mod Beside
pub mod Left
