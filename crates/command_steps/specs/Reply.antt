-- What a reply is seen as.
use Rattle.std.specs.Prelude.{◌≢◌, option_map, string_bytes}
use Rattle.command_steps.specs.declared.answer.Reply.TheInside.{Inside}
use Rattle.command_steps.specs.declared.status.Status.TheVariants.{Done}
use Rattle.command_steps.specs.Promise.{IsRefusal}
use Rattle.command_steps.specs.Answer.{Answer}

abbrev pub answer_seen : Inside → Answer
answer_seen reply = record { status = reply.status; output = option_map (λ bytes. bytes.items) reply.output; printed = string_bytes reply.printed }

abbrev pub IsDoneOrRefused : Inside → Type 0
IsDoneOrRefused reply = reply.status ≢ Done → IsRefusal reply.status
