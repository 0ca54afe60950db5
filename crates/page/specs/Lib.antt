-- What the contracts of `page` cite beside the rules, and the laws of its tests and of tests of an on-list.
pub mod Forms
pub mod Padding
pub mod Pool
pub mod Slots
