use Rattle.split_spec.proofs.SinkWindow.{window_of_memory}
use Rattle.split_spec.proofs.windows.a_sink_has_the_window_of_its_memory.Goals as goal

pub returns : goal.returns
returns c = λ cover q n a power rows states symbols is memory enough order graph size edges.
    window_of_memory cover q n a power rows states
    (record { symbols = symbols; is_power = is; among = record { order = order; graph = graph; size = size; edges = edges } }) memory.together enough
