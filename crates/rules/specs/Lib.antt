-- Document 01 as definitions, in its words and its order, with the requests of document 02 that have landed. This folder is what a
-- reader must believe.
pub mod Lists
pub mod Words
pub mod Pages
pub mod Clumps
pub mod Sound
pub mod Answers
pub mod Stores
pub mod Requests
pub mod Reading
pub mod Traces
pub mod Demands
pub mod PowerLoss
pub mod Cases
pub mod Samples
pub mod ReadingSamples
pub mod MarkSamples
pub mod ClearSamples
pub mod GrowSamples
pub mod Earlier
