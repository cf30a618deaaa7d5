-- Words side by side: symbol s of interleave v stands at place s * many + v.
use Rattle.std.specs.Prelude.{ℕ, ◌+◌, ◌*◌, ◌/◌, List, map, length, slice_index}
use Rattle.std.specs.List.{range_with_len}

-- the symbols of interleave v among `many`
abbrev pub interleave : ℕ → ℕ → List ℕ → List ℕ
interleave many v symbols = map (λ s. slice_index symbols (s * many + v)) (range_with_len 0 (length symbols / many))
