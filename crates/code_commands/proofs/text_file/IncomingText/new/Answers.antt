use Rattle.std.proofs.Common.{refl}
use Rattle.code_commands.proofs.IncomingLaws.{nothing_has_come}
use Rattle.code_commands.proofs.text_file.IncomingText.new.Goals as goal

pub returns-clause-come : goal.returns-clause-come
returns-clause-come c = nothing_has_come c.args.code.now _ c.code-code.ensures.checked.code refl refl c.new-2.ensures.items c.in_ok-new.ensures.come
