-- What the program makes of a line, in document 01's words ("The program").
pub mod Obeying
