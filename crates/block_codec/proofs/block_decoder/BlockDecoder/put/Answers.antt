use Rattle.std.proofs.Common.{◌+◌, ◌∷◌, [], ◌++◌, ◌∙◌, min, ap, arith, drop, List}
use Rattle.symbol_base.specs.declared.Block.{Block}
use Rattle.code_spec.specs.Code.{CodeData}
use Rattle.code_spec.specs.Decoder.{window_length}
use Rattle.block_codec.proofs.Comings.{came_more, written_back}
use Rattle.block_codec.proofs.block_decoder.BlockDecoder.put.Goals as goal

pub returns-clause-window : goal.returns-clause-window
returns-clause-window c =
    let old = c.args.self.now.window in
    written_back old.len old.items c.move_in.new.window c.args.block old.ok.0 (omega (arith, c.requires.code.size)) (c.move_in.ensures ∙ ap (λ (bs : List Block). drop 1 bs ++ c.args.block ∷ []) c.deref_mut.ensures.value)

pub returns-clause-came : goal.returns-clause-came
returns-clause-came c = λ came before.
    let old = c.args.self.now.window in
    let counted = c.one_more-self.ensures ∙ ap (λ (d : CodeData). min (window_length d) (c.args.self.now.count + 1)) c.code.view_is in
    let held = came_more c.args.code.now old.items _ came c.args.self.now.count _ c.args.block (returns-clause-window c) (record { last = before.last; counted = before.counted }) counted in
    record { last = held.last; counted = held.counted }
