-- What the program makes of a byte and of its whole input, in document 01's words ("The program"), and the laws of the code.
pub mod Steps
pub mod Feeding
pub mod Inputs
