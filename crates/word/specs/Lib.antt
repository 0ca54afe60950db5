-- Laws of words, of memories and of runs of stores. Nothing above this crate opens `put` or `word_at` again.
pub mod Tests
pub mod Parts
pub mod Chunks
pub mod Memory
pub mod Blank
pub mod Runs
