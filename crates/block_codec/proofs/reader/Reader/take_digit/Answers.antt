use Rattle.std.proofs.Common.{◌++◌, ℕ, List, Option, sym, ap, ◌∙◌}
use Rattle.std.proofs.lemmas.List.{append-nil}
use Rattle.code_spec.specs.PlainReading.{symbols_in}
use Rattle.block_codec.specs.inside.Readers.{listed}
use Rattle.block_codec.proofs.ReaderLaws.{recounted, digit_goes_on, none_listed}
use Rattle.block_codec.proofs.reader.Reader.take_digit.Goals as goal

pub returns-in-Some-clause-text : goal.returns-in-Some-clause-text
returns-in-Some-clause-text c = λ text bytes has.
    digit_goes_on c.args.code.now text bytes c.args.symbol c.args.self.now c.take_symbol.new.self c.take_symbol.result c.args.out.now.items _ c.requires.table.alphabet c.requires.symbol
    c.take_symbol.ensures.count (c.push_reserved.ensures.items ∙ ap (λ (r : Option ℕ). c.args.out.now.items ++ listed r) (sym c.in-Some.is)) has (c.take_symbol.ensures.symbols (symbols_in text) bytes (recounted c.args.code.now (symbols_in text) bytes c.args.self.now _ has.symbols))

pub returns-in_default-clause-text : goal.returns-in_default-clause-text
returns-in_default-clause-text c = λ text bytes has.
    digit_goes_on c.args.code.now text bytes c.args.symbol c.args.self.now c.take_symbol.new.self c.take_symbol.result c.args.out.now.items _ c.requires.table.alphabet c.requires.symbol
    c.take_symbol.ensures.count
    (sym (append-nil c.args.out.now.items) ∙ ap (λ (list : List ℕ). c.args.out.now.items ++ list) (sym (none_listed c.take_symbol.result c.in_default.not-Some))) has (c.take_symbol.ensures.symbols (symbols_in text) bytes (recounted c.args.code.now (symbols_in text) bytes c.args.self.now _ has.symbols))
