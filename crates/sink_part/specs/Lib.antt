pub mod inside
pub use Rattle.label_graphs.specs.Sink
