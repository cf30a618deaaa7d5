use Rattle.std.proofs.Common.{List, ℕ, Err, refl, sym, ◌∙◌, subst}
use Rattle.block_codec.specs.TextDecoding.{TextHasCome, TakesText}
use Rattle.block_codec.specs.declared.fault.TextFault.{TextFault}
use Rattle.code_commands.proofs.IncomingLaws.{is_none, well_taken, badly_taken, passed_over}
use Rattle.code_commands.proofs.text_file.IncomingText.take.Goals as goal

pub returns-then-is_some-clause-come : goal.returns-then-is_some-clause-come
returns-then-is_some-clause-come c =
    let some = sym c.is_some.ensures ∙ c.if-is_some.true in
    λ text. passed_over c.args.code.now c.args.self.now _ text c.args.piece.now some refl refl

pub returns-in-Ok-clause-come : goal.returns-in-Ok-clause-come
returns-in-Ok-clause-come c =
    let none = is_none c.args.self.now.fault (sym c.is_some.ensures ∙ c.if-is_some.false) in
    let fed = c.in-Ok.ensures in
    λ text. well_taken c.args.code.now c.args.self.now _ text c.args.piece.now none none refl fed.come fed.bytes c.feed.ensures.before

pub returns-in-Err-BadSymbol-clause-come : goal.returns-in-Err-BadSymbol-clause-come
returns-in-Err-BadSymbol-clause-come c =
    let code = c.args.code.now in
    let old = c.args.self.now in
    let piece = c.args.piece.now in
    let at = c.in-Err-BadSymbol.at in
    let none = is_none old.fault (sym c.is_some.ensures ∙ c.if-is_some.false) in
    let takes = λ (text : List ℕ) (come : TextHasCome code old.decoder text).
    subst (λ (f : TextFault). TakesText code old.decoder c.feed.new.self text piece (Err f)) c.in-Err-BadSymbol.field-0-is
    (c.in-Err-BadSymbol.ensures.come text come) in
    λ text. badly_taken code old _ text piece at none refl refl takes
