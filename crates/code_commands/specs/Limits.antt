-- How many bytes a file may have.
use Rattle.std.specs.Prelude.{ℕ, ◌^◌}

abbrev pub code_limit : ℕ
code_limit = 2 ^ 23

abbrev pub data_limit : ℕ
data_limit = 2 ^ 26

-- the line feed counts
abbrev pub text_limit : ℕ
text_limit = 2 ^ 29
