use Rattle.std.proofs.Common.{refl, ap}
use Rattle.command_steps.specs.declared.status.ChannelFault.{ChannelFault}
use Rattle.command_steps.specs.declared.status.Status.TheVariants.{ChannelRefused}
use Rattle.code_commands.proofs.IncomingLaws.{ends_bad, ends_well, ends_refused}
use Rattle.code_commands.proofs.text_file.IncomingText.end.Goals as goal

pub returns-in-Some : goal.returns-in-Some
returns-in-Some c = λ text. ends_bad c.args.code.now _ text c.args.self c.in-Some.at c.in-Some.is

pub returns-in-Ok : goal.returns-in-Ok
returns-in-Ok c = λ text come.
    let code = c.args.code.now in
    let checked = c.code-code.ensures.checked in
    let end = c.in-Ok.ensures.end code text checked.code c.requires.code.decoder in
    ends_well code _ text c.args.self c.args.self.file c.in-Ok.field-0 refl checked c.in_default.is come end

pub returns-in-Err : goal.returns-in-Err
returns-in-Err c = λ text come.
    let code = c.args.code.now in
    let end = c.in-Err.ensures.end code text c.code-code.ensures.checked.code c.requires.code.decoder in
    ends_refused code _ text c.args.self c.in-Err.fault _ (ap (λ (f : ChannelFault). ChannelRefused f) c.told.ensures) c.in_default.is come end
