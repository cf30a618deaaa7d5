-- How much is written for a file.
use Rattle.std.specs.Prelude.{ℕ, ◌+◌, ◌*◌}
use Rattle.code_spec.specs.Code.{CodeData}
use Rattle.code_spec.specs.PlainText.{word_count}

-- the blocks of lead-in, file and lead-out, for a file of so many bytes
abbrev pub blocks_of : CodeData → ℕ → ℕ
blocks_of c bytes = c.past + word_count c.p (8 * bytes) + c.ahead
