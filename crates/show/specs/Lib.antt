-- What `walk` prints, a part of it, and how a buffer is filled with a part.
pub mod Shown
pub mod Parts
pub mod Filling
