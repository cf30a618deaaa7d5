-- What the walks of the functions with pointers share.
pub mod Chained
pub mod Paired
pub mod Seen
pub mod Shared
pub mod Steps
pub mod Walk
