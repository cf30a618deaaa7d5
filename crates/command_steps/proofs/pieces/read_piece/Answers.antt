use Rattle.std.proofs.Common.{sym, rules, arith}
use Rattle.command_steps.specs.Pieces.{gave_too_much}
use Rattle.command_steps.specs.Promise.{fault}
use Rattle.command_steps.proofs.PieceLaws.{piece_comes, piece_is_too_long, piece_is_missing}
use Rattle.command_steps.proofs.pieces.read_piece.Goals as goal

pub returns-in-Err-Failed-clause-piece : goal.returns-in-Err-Failed-clause-piece
returns-in-Err-Failed-clause-piece g c = λ text here starts. fault c.read.ensures.same (search rules)

pub returns-in-Err-Missing-clause-piece : goal.returns-in-Err-Missing-clause-piece
returns-in-Err-Missing-clause-piece g c = λ text here starts.
    piece_is_missing c.args.name.now c.args.place c.args.limit c.read.new.room _ _ c.args.at (search rules) (search rules)

pub returns-then-count-limit-clause-piece : goal.returns-then-count-limit-clause-piece
returns-then-count-limit-clause-piece g c = λ text here starts.
    piece_is_too_long c.args.name.now c.args.place c.args.limit c.read.new.room _ _ c.args.at c.in-Ok.count c.requires.within (omega arith) c.in-Ok.ensures.bytes
    (cc (c.read.ensures.same, c.in-Ok.ensures.count))

pub returns-then-count-limit-clause-tells : goal.returns-then-count-limit-clause-tells
returns-then-count-limit-clause-tells g c = gave_too_much c.in-Ok.count (omega arith) c.in-Ok.ensures.gives

pub returns-clause-piece : goal.returns-clause-piece
returns-clause-piece g c = λ text here starts.
    piece_comes c.args.name.now c.args.place c.args.limit text c.read.new.room _ _ c.args.at c.in-Ok.count (sym here) (omega (arith, c.in-Ok.ensures.bound)) (omega arith) (omega arith)
    starts c.in-Ok.ensures.bytes (cc (c.read.ensures.same, c.in-Ok.ensures.count))
