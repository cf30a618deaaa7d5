pub mod EntriesLemmas
pub mod PartsLemmas
pub mod ReadsLemmas
pub mod ShelfLemmas
