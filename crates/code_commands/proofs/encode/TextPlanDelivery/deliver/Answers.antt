use Rattle.code_commands.proofs.TextLaws.{text_broken}
use Rattle.code_commands.proofs.encode.TextPlanDelivery.deliver.Goals as goal

pub returns : goal.returns
returns g c = record { delivers = text_broken c.args.self _ _ _ _ _ _ _ _ c.self.view_is c.code-2.ensures.same c.as_slice.ensures.value c.in-Err.ensures }
