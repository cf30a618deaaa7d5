pub mod ArcLists
mod Begins
mod Chosen
mod Ends
mod Indexing
mod LayerSteps
mod NodeBits
mod Order
mod Places
mod Pushes
mod Steps
