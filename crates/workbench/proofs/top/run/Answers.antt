use Rattle.std.proofs.Common.{◌≡◌, ap, sym, ◌∙◌}
use Rattle.std.specs.Prelude.{Some, Option, option_map, map, string_bytes}
use Rattle.std.specs.Global.{Global}
use Rattle.workbench.specs.Forms.{encode, form_of}
use Rattle.workbench.specs.Views.{form_seen}
use Rattle.workbench.proofs.ChannelLaws.{channel_keeps}
use Rattle.workbench.proofs.top.run.Goals as goal

pub returns-in-Some-Encode-clause-channel : goal.returns-in-Some-Encode-clause-channel
returns-in-Some-Encode-clause-channel g c =
    let form : Some (form_seen c.in-Some-Encode.field-0) ≡ form_of (map (string_bytes {Z = Global}) c.args.words.now) =
    ap (λ (o : Option _). option_map form_seen o) (sym c.in-Some-Encode.is) ∙ c.command_of.ensures in
    let seen : Some (encode c.in-Some-Encode.task) ≡ form_of (map (string_bytes {Z = Global}) c.args.words.now) =
    ap (λ command. Some (form_seen command)) (sym c.in-Some-Encode.field-0-is) ∙ form in
    channel_keeps _ (encode c.in-Some-Encode.task) _ _ _ _ _ seen c.perform-in-Some-Encode.ensures.ends
