use Rattle.std.proofs.Common.{◌+◌, ◌∷◌, [], ◌++◌, sym, ap, subst, arith}
use Rattle.code_spec.specs.Code.{CodeData}
use Rattle.code_spec.specs.Decoder.{IsDecoded}
use Rattle.code_spec.proofs.DecoderLaws.{decoded_below}
use Rattle.block_codec.specs.inside.Answers.{window_of}
use Rattle.block_codec.proofs.AnswerLaws.{window_rolled, window_below, entry_read}
use Rattle.block_codec.proofs.Comings.{came_more, answer_came}
use Rattle.block_codec.proofs.table_decoder.TableDecoder.take_block.Goals as goal

pub returns-then-self-length-clause-came : goal.returns-then-self-length-clause-came
returns-then-self-length-clause-came c = λ came before.
    let code = c.args.code.now in
    let self = c.args.self.now in
    let same = ap (λ (d : CodeData). d.q) c.code.view_is in
    let moved = window_rolled code _ _ self.last.window _ c.joined-self.result c.args.block.value same c.window_length-length.ensures.count c.requires.block c.last_digits.ensures.value c.joined-self.ensures.value in
    let held = came_more code _ _ came self.last.count (self.last.count + 1) c.args.block moved (record { last = before.last; counted = before.counted }) (omega (arith, c.if-self-length.true, c.window_length-length.ensures.count)) in
    record { last = held.last; counted = held.counted }

pub returns-clause-code : goal.returns-clause-code
returns-clause-code c =
    let same = ap (λ (d : CodeData). d.q) c.code.view_is in
    record {
      short = c.requires.code.short;
      answers = c.requires.code.answers;
      fours = c.requires.code.fours;
      last = record {
        window = window_below c.args.code.now _ _ c.joined-self.result same c.window_length-length.ensures.count c.joined-self.ensures.below;
        count = omega (arith, c.window_length-length.ensures.count);
      };
    }

pub returns-clause-came : goal.returns-clause-came
returns-clause-came c = λ came before.
    let code = c.args.code.now in
    let self = c.args.self.now in
    let same = ap (λ (d : CodeData). d.q) c.code.view_is in
    let moved = window_rolled code _ _ self.last.window _ c.joined-self.result c.args.block.value same c.window_length-length.ensures.count c.requires.block c.last_digits.ensures.value c.joined-self.ensures.value in
    let held = came_more code _ _ came self.last.count c.window_length-length.result c.args.block moved (record { last = before.last; counted = before.counted }) (omega (arith, c.if-self-length.false, c.window_length-length.ensures.count)) in
    record { last = held.last; counted = held.counted }

pub returns-clause-answer : goal.returns-clause-answer
returns-clause-answer c = λ came before.
    let code = c.args.code.now in
    let self = c.args.self.now in
    let same = ap (λ (d : CodeData). d.q) c.code.view_is in
    let moved = window_rolled code _ _ self.last.window _ c.joined-self.result c.args.block.value same c.window_length-length.ensures.count c.requires.block c.last_digits.ensures.value c.joined-self.ensures.value in
    let held = came_more code _ _ came self.last.count c.window_length-length.result c.args.block moved (record { last = before.last; counted = before.counted }) (omega (arith, c.if-self-length.false, c.window_length-length.ensures.count)) in
    let below = window_below code _ _ c.joined-self.result same c.window_length-length.ensures.count c.joined-self.ensures.below in
    let answer = entry_read code self.answers.items c.joined-self.result c.index.result.now c.requires.code.answers below c.index.ensures in
    answer_came code _ (came ++ c.args.block ∷ []) c.window_length-length.result c.from.result held (omega (arith, c.window_length-length.ensures.count))
    (subst (λ w. IsDecoded code (window_of code c.joined-self.result) w) (sym c.from.ensures) answer)

pub returns-clause-small : goal.returns-clause-small
returns-clause-small c =
    let code = c.args.code.now in
    let self = c.args.self.now in
    let same = ap (λ (d : CodeData). d.q) c.code.view_is in
    let below = window_below code _ _ c.joined-self.result same c.window_length-length.ensures.count c.joined-self.ensures.below in
    let answer = entry_read code self.answers.items c.joined-self.result c.index.result.now c.requires.code.answers below c.index.ensures in
    decoded_below code (window_of code c.joined-self.result) c.from.result
    (subst (λ w. IsDecoded code (window_of code c.joined-self.result) w) (sym c.from.ensures) answer)
