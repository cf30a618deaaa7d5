use Rattle.std.proofs.Common.{◌+◌, ℕ, List, Option, None, refl, subst}
use Rattle.code_spec.specs.Code.{CodeData}
use Rattle.block_codec.specs.TextDecoding.{wanted_memory}
use Rattle.block_codec.specs.inside.Readers.{HasText, TakesPiece}
use Rattle.block_codec.proofs.TextLaws.{fed_bytes, reads_on, no_fault, took_piece, met_bad, knew_bad}
use Rattle.block_codec.proofs.text_decoder.TextDecoder.feed.Goals as goal

pub returns-in-Some-clause-come : goal.returns-in-Some-clause-come
returns-in-Some-clause-come c = λ text come. knew_bad c.args.code.now c.args.self.now text c.args.piece.now c.in-Some.at c.in-Some.is come

pub returns-then-is_err-clause-come : goal.returns-then-is_err-clause-come
returns-then-is_err-clause-come c = λ text come.
    let now = reads_on c.args.code.now c.args.self.now text c.args.self.now.fault c.in_default.not-Some come.read in
    wanted_memory now.1.clean refl

pub returns-in-None-clause-come : goal.returns-in-None-clause-come
returns-in-None-clause-come c = λ text come.
    let code = c.args.code.now in
    let now = reads_on code c.args.self.now text c.args.self.now.fault c.in_default.not-Some come.read in
    let P : CodeData → Option ℕ → Type 0 = λ d r. (t b : List ℕ) → HasText d t b c.args.self.now.reader → TakesPiece d t b c.args.piece.now c.reserve.new.self.items c.take_piece.new.out.items c.take_piece.new.self r in
    let goes = subst (λ (r : Option ℕ). P code r) c.in-None.is (subst (λ (d : CodeData). P d c.take_piece.result) c.code.ensures.same c.take_piece.ensures.text) text now.0 now.1 in
    took_piece code c.args.self.now _ text now.0 c.args.piece.now c.reserve.new.self.items c.take_piece.new.out.items refl (no_fault c.args.self.now.fault c.in_default.not-Some) come goes

pub returns-in-None-clause-bytes : goal.returns-in-None-clause-bytes
returns-in-None-clause-bytes c = λ text front come is.
    let code = c.args.code.now in
    let now = reads_on code c.args.self.now text c.args.self.now.fault c.in_default.not-Some come.read in
    let P : CodeData → Option ℕ → List ℕ → Type 0 = λ d r out. (t b : List ℕ) → HasText d t b c.args.self.now.reader → TakesPiece d t b c.args.piece.now out c.take_piece.new.out.items c.take_piece.new.self r in
    let goes =
    subst (λ (out : List ℕ). P code None out) c.reserve.ensures.items
    (subst (λ (r : Option ℕ). P code r c.reserve.new.self.items) c.in-None.is
    (subst (λ (d : CodeData). P d c.take_piece.result c.reserve.new.self.items) c.code.ensures.same c.take_piece.ensures.text)) text now.0 now.1 in
    fed_bytes code text now.0 c.args.piece.now front c.args.out.now.items c.take_piece.new.out.items c.args.self.now.reader c.take_piece.new.self c.code.ensures.checked now.1 goes is

pub returns-in-Some-take_piece-clause-come : goal.returns-in-Some-take_piece-clause-come
returns-in-Some-take_piece-clause-come c = λ text come.
    let code = c.args.code.now in
    let place = c.in-Some-take_piece.place in
    let now = reads_on code c.args.self.now text c.args.self.now.fault c.in_default.not-Some come.read in
    let P : CodeData → Option ℕ → Type 0 = λ d r. (t b : List ℕ) → HasText d t b c.args.self.now.reader → TakesPiece d t b c.args.piece.now c.reserve.new.self.items c.take_piece.new.out.items c.take_piece.new.self r in
    let stops = subst (λ (r : Option ℕ). P code r) c.in-Some-take_piece.is (subst (λ (d : CodeData). P d c.take_piece.result) c.code.ensures.same c.take_piece.ensures.text) text now.0 now.1 in
    met_bad code c.args.self.now _ text c.args.piece.now (c.args.self.now.taken + place) place refl refl refl come now.1.clean stops
