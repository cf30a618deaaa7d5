pub mod BegunLaws
pub mod CoverLaws
pub mod MemoryLaws
pub mod PowerLaws
pub mod SinkLaws
pub mod VectorLaws
pub mod ChainLaws
