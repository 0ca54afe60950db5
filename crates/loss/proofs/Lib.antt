-- The laws of cuts, which rest on the orders of stores (specs/Orders.antt), and the theorems above them. From the bottom up.
-- A list carried out; each request at every cut.
pub mod Finishing
pub mod Recovering
pub mod Ending
pub mod Reserving
pub mod Freeing
pub mod Listing
pub mod Courses
pub mod Growing
pub mod Turns
pub mod Requested
-- Images and histories: the theorems that the demands name.
pub mod Images
pub mod Histories
pub mod Again
pub mod Linked
pub mod Fresh
pub mod Grown
pub mod Cleared
