-- What a line means and how a reply is printed, as definitions, in document 01's words ("The program"), and the laws of the code.
pub mod Lines
pub mod Texts
pub mod Examples
pub mod Scans
pub mod Names
pub mod Numbers
pub mod Gathering
pub mod Determined
