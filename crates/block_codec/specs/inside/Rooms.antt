-- The room that a text is made in, piece by piece.
use Rattle.std.specs.Prelude.{ℕ, ◌+◌, ◌*◌, ◌≤◌}
use Rattle.code_spec.specs.Code.{CodeData}
use Rattle.code_spec.specs.PlainText.{word_count}

-- so many bytes have room for the digits of a piece of 6,720 bytes, and for a lane behind them
abbrev pub HasRoom : CodeData → ℕ → Type 0
HasRoom c room = c.q * word_count c.p (8 * 6720) + 32 ≤ room
