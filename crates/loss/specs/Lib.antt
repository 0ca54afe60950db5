-- What power loss leaves: cuts, recovery and histories. From the bottom up. The laws that rest on an order of stores are in proofs/.
-- The forms: cuts, what a sound pool holds, what recovery will make of it, and the orders that the laws are about.
pub mod Cuts
pub mod Held
pub mod Fates
pub mod Orders
-- One part of the clumps replaced; stores made again; what stores leave; a list emptied; valid targets; entries carried out; one state stored.
pub mod Parts
pub mod Redo
pub mod Blanked
pub mod Emptied
pub mod Targets
pub mod Carrying
pub mod Turning
-- FREE clumps: none touching, neighbours, runs, gaps, merging; and what is equal in two readings.
pub mod Calm
pub mod Neighbours
pub mod Joined
pub mod Merging
pub mod Gaps
pub mod Slices
pub mod Readings
-- Entries in order; what an owner may write; a cut creation.
pub mod Entries
pub mod Owning
pub mod Creating
-- The orders that are wrong.
pub mod Wrong
