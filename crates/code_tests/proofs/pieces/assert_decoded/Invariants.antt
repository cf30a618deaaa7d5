use Rattle.std.proofs.Common.{◌+◌, ◌≤◌, length}
use Rattle.block_codec.specs.TextDecoding.{IsTextDecoderFor, bytes_come}
use Rattle.code_tests.proofs.pieces.assert_decoded.Given as goal

abbrev pub invariant-loop-rest : goal.invariant-loop-rest
invariant-loop-rest g l = IsTextDecoderFor l.code-inside.code l.decoder × (bytes_come l.decoder + length l.rest ≤ 19)

abbrev pub decreases-loop-rest : goal.decreases-loop-rest
decreases-loop-rest g l = length l.rest
