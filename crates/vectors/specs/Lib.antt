-- Where the bytes of a file of cases lead.
pub mod Steps
