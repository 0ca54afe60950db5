-- What the contracts of `create` cite beside the rules, and its laws.
pub mod Creating
