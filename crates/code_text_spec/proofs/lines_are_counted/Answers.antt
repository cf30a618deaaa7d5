use Rattle.code_text_spec.proofs.Lines.{length-code_lines}
use Rattle.code_text_spec.proofs.lines_are_counted.Goals as goal

pub returns : goal.returns
returns c = length-code_lines
