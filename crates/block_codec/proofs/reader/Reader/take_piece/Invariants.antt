use Rattle.std.proofs.Common.{◌≡◌, ◌+◌, ◌-◌, ◌≤◌, ℕ, List, length, take}
use Rattle.std.specs.Prelude.{vec_len, vec_capacity}
use Rattle.block_codec.specs.inside.Readers.{IsReaderFor, HasText, GoesOn, IsFrontOf}
use Rattle.block_codec.proofs.reader.Reader.take_piece.Given as goal

abbrev pub invariant-loop-at : goal.invariant-loop-at
invariant-loop-at l = record {
  code : IsReaderFor l.code l.self;
  within : l.at ≤ length l.piece;
  room : vec_len l.out ≤ vec_len l.fn.out + l.at;
  capacity : vec_capacity l.out ≡ vec_capacity l.fn.out;
  count : l.self.count ≤ l.fn.self.count + l.at;
  front : IsFrontOf l.fn.out.items l.out.items;
  text : (text bytes : List ℕ) → HasText l.code text bytes l.fn.self → GoesOn l.code text bytes (take l.at l.piece) l.fn.out.items l.out.items l.self;
}

abbrev pub decreases-loop-at : goal.decreases-loop-at
decreases-loop-at l = length l.piece - l.at
