use Rattle.std.proofs.Common.{ℕ, List, [], ◌∷◌, ◌++◌, Option, sym, subst}
use Rattle.std.proofs.lemmas.List.{append-nil}
use Rattle.symbol_base.specs.Block.{symbols_of}
use Rattle.code_spec.specs.Code.{CodeData, IsCode}
use Rattle.block_codec.specs.Decoding.{block_of}
use Rattle.block_codec.specs.inside.Parts.{IsPart, Holds, TakesOut, Regroups}
use Rattle.block_codec.specs.inside.Readers.{HasSymbols, listed}
use Rattle.block_codec.proofs.ReaderLaws.{blocks_filled, block_alone, block_decoded}
use Rattle.block_codec.proofs.reader.Reader.take_symbol.Goals as goal

pub returns-in_err-word-clause-symbols : goal.returns-in_err-word-clause-symbols
returns-in_err-word-clause-symbols c = λ symbols bytes has.
    let code = c.args.code.now in
    let symbol = c.args.symbol in
    let whole = c.from.result in
    let block = block_of whole in
    let is : IsCode code = subst (λ (d : CodeData). IsCode d) c.code.view_is c.code.invariant in
    let part : IsPart code.q c.add.new.self = subst (λ (d : CodeData). IsPart d.q c.add.new.self) c.code.view_is c.in_ok-whole.ensures.part in
    let taken : TakesOut code.q (has.rest ++ symbols_of 2 1 symbol) c.add.new.self whole =
    subst (λ (d : CodeData). TakesOut d.q (has.rest ++ symbols_of 2 1 symbol) c.add.new.self whole) c.code.view_is
    (subst (λ w. TakesOut c.code.inside.q (has.rest ++ symbols_of 2 1 symbol) c.add.new.self w) (sym c.from.ensures) (c.in_ok-whole.ensures.digits has.rest has.held)) in
    let came = c.in_err-word.ensures.came has.blocks has.decoded.came in
    let answer = c.in_err-word.ensures.answer has.blocks has.decoded.came in
    let P : List ℕ → Type 0 = λ list. HasSymbols code (symbols ++ symbol ∷ []) list (record { blocks = c.take_block.new.self; symbols = c.add.new.self; bits = c.args.self.now.bits; digits = c.args.self.now.digits; count = c.args.self.now.count }) in
    subst (λ (r : Option ℕ). P (bytes ++ listed r)) (sym c.from_residual-in_err-word.ensures)
    (subst P (sym (append-nil bytes))
    (record {
      blocks = has.blocks ++ block ∷ [];
      rest = taken.rest;
      cut = blocks_filled code symbols has.rest has.blocks symbol whole c.add.new.self is.alphabet c.requires.symbol part has.cut taken;
      held = taken.held;
      decoded = block_alone code has.blocks block bytes c.args.self.now.blocks c.take_block.new.self c.args.self.now.bits has.decoded came answer;
    }))

pub returns-clause-symbols : goal.returns-clause-symbols
returns-clause-symbols c = λ symbols bytes has.
    let code = c.args.code.now in
    let symbol = c.args.symbol in
    let whole = c.from.result in
    let word = c.in_ok-word.word in
    let block = block_of whole in
    let is : IsCode code = subst (λ (d : CodeData). IsCode d) c.code.view_is c.code.invariant in
    let part : IsPart code.q c.add.new.self = subst (λ (d : CodeData). IsPart d.q c.add.new.self) c.code.view_is c.in_ok-whole.ensures.part in
    let taken : TakesOut code.q (has.rest ++ symbols_of 2 1 symbol) c.add.new.self whole =
    subst (λ (d : CodeData). TakesOut d.q (has.rest ++ symbols_of 2 1 symbol) c.add.new.self whole) c.code.view_is
    (subst (λ w. TakesOut c.code.inside.q (has.rest ++ symbols_of 2 1 symbol) c.add.new.self w) (sym c.from.ensures) (c.in_ok-whole.ensures.digits has.rest has.held)) in
    let came = c.in_ok-word.ensures.came has.blocks has.decoded.came in
    let answer = c.in_ok-word.ensures.answer has.blocks has.decoded.came in
    let more : (held : List ℕ) → Holds c.args.self.now.bits held → Regroups 8 (held ++ symbols_of 2 code.p word) c.add-2.new.self c.add-2.result =
    subst (λ (d : CodeData). (held : List ℕ) → Holds c.args.self.now.bits held → Regroups 8 (held ++ symbols_of 2 d.p word) c.add-2.new.self c.add-2.result) c.code.view_is c.add-2.ensures.digits in
    record {
      blocks = has.blocks ++ block ∷ [];
      rest = taken.rest;
      cut = blocks_filled code symbols has.rest has.blocks symbol whole c.add.new.self is.alphabet c.requires.symbol part has.cut taken;
      held = taken.held;
      decoded = block_decoded code has.blocks block bytes c.args.self.now.blocks c.take_block.new.self c.args.self.now.bits c.add-2.new.self word c.add-2.result c.add-2.ensures.part has.decoded came answer more;
    }
