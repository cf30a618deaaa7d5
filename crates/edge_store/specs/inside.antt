-- What the contracts of private functions cite: how the nodes are linked, and what they own.
pub mod Links
pub mod Ownership
