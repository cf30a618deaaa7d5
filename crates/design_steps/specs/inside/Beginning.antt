-- How what a design begins with is seen as its data, and its vector by itself.
use Rattle.std.specs.Prelude.{ℕ, List}
use Rattle.design_steps.specs.declared.beginning.Begun.{Begun}
use Rattle.design_steps.specs.Begun.{BegunData}
use Rattle.design_steps.specs.Vectors.{VectorData}
use Rattle.design_steps.specs.Views.{sink_data}

abbrev pub vector_data : ℕ × List ℕ → VectorData
vector_data vector = record { bound = vector.0; weights = vector.1 }

abbrev pub begun_data : Begun → BegunData
begun_data begun = record {
  cover = begun.cover;
  memory = begun.memory;
  power = begun.power;
  vector = vector_data (begun.bound, begun.weights);
  sink = sink_data begun.sink;
}
