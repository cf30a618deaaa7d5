-- What the program's values stand for.
use Rattle.workbench.specs.declared.command.Command.{Command}
use Rattle.workbench.specs.declared.command.Command.TheVariants.{Check, Explain, Encode, Decode}
use Rattle.workbench.specs.Forms.{Form, check, explain, encode, decode}

abbrev pub form_seen : Command → Form
form_seen (Check words) = check words
form_seen (Explain words) = explain words
form_seen (Encode words) = encode words
form_seen (Decode words) = decode words
