use Rattle.std.proofs.Common.{arith}
use Rattle.block_codec.proofs.AnswerLaws.{window_none}
use Rattle.block_codec.proofs.table_decoder.TableDecoder.for_code.Goals as goal

pub returns-clause-came : goal.returns-clause-came
returns-clause-came c = record { last = window_none c.args.code.now; counted = omega arith }
