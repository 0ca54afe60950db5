-- The laws of onactive and onfree.
pub mod Slots
