use Rattle.std.proofs.Common.{[], ◌++◌, take, refl, sym, ◌∙◌, rules}
use Rattle.command_steps.proofs.PieceReads.{nothing_has_come, piece_stops, piece_ends, piece_goes_on, more_has_come, end_decides, want_before, want_behind, stop_told}
use Rattle.code_commands.specs.Decode.{text_input, FileOf}
use Rattle.code_commands.proofs.DecodeLaws.{read_stops, read_starves, read_to_end}
use Rattle.code_commands.proofs.text_file.read_text.Goals as goal

pub returns-in_err-incoming-clause-step : goal.returns-in_err-incoming-clause-step
returns-in_err-incoming-clause-step g c = read_starves _ c.args.code.now c.args.name.now _ _ _ (search rules) refl

pub returns-in_err-incoming-clause-reads : goal.returns-in_err-incoming-clause-reads
returns-in_err-incoming-clause-reads g c = want_before g.F.Shelf.read_gives (text_input c.args.name.now) _ _ (search rules)

pub returns-in_err-count-clause-step : goal.returns-in_err-count-clause-step
returns-in_err-count-clause-step g c =
    let so_far = c.loop-incoming.invariant in
    let stop = c.in_err-count.ensures.piece so_far.text (sym so_far.come.counted) so_far.starts in
    read_stops _ c.args.code.now c.args.name.now so_far.text c.read_piece.new.room _ _ _ _ c.in_err-count.field-0.0 (search rules) so_far.same stop

pub returns-in_err-count-clause-reads : goal.returns-in_err-count-clause-reads
returns-in_err-count-clause-reads g c =
    let so_far = c.loop-incoming.invariant in
    stop_told g.F.Shelf.read_gives (text_input c.args.name.now) _ _ c.in_err-count.field-0.0 _ (search rules)
    (piece_stops g.F.Shelf.read_gives (text_input c.args.name.now) _ _ _ _ _ c.in_err-count.field-0.0 so_far.asked so_far.within so_far.run c.in_err-count.ensures.tells)

pub returns-then-count-eq0-clause-step : goal.returns-then-count-eq0-clause-step
returns-then-count-eq0-clause-step g c =
    let so_far = c.loop-incoming.invariant in
    let piece = c.in_ok-count.ensures.piece so_far.text (sym so_far.come.counted) so_far.starts in
    let end = c.end.ensures so_far.text so_far.come in
    read_to_end _ c.args.code.now c.args.name.now so_far.text _ _ c.end.result (piece.same ∙ so_far.same) (piece.ends c.if-count-eq0.true) end

pub returns-then-count-eq0-clause-reads : goal.returns-then-count-eq0-clause-reads
returns-then-count-eq0-clause-reads g c =
    let so_far = c.loop-incoming.invariant in
    end_decides g.F.Shelf.read_gives (text_input c.args.name.now) _ _ (FileOf c.args.code.now so_far.text) _ c.end.result
    (piece_ends g.F.Shelf.read_gives (text_input c.args.name.now) _ _ _ _ _ _ so_far.asked c.if-count-eq0.true so_far.run c.in_ok-count.ensures.tells)
    (c.end.ensures so_far.text so_far.come)

pub returns-in_err-take-clause-step : goal.returns-in_err-take-clause-step
returns-in_err-take-clause-step g c =
    let so_far = c.loop-incoming.invariant in
    let piece = c.in_ok-count.ensures.piece so_far.text (sym so_far.come.counted) so_far.starts in
    read_starves _ c.args.code.now c.args.name.now _ _ _ (search rules) (piece.same ∙ so_far.same)

pub returns-in_err-take-clause-reads : goal.returns-in_err-take-clause-reads
returns-in_err-take-clause-reads g c =
    let so_far = c.loop-incoming.invariant in
    want_behind g.F.Shelf.read_gives (text_input c.args.name.now) _ _ _ _ (search rules)
    (piece_goes_on g.F.Shelf.read_gives (text_input c.args.name.now) _ _ _ _ _ _ so_far.asked (search rules) so_far.run c.in_ok-count.ensures.tells)

pub loop-incoming-init : goal.loop-incoming-init
loop-incoming-init g c = record {
  text = [];
  within = search rules;
  same = refl;
  code = search rules;
  come = search rules;
  asked = search rules;
  run = nothing_has_come g.F.Shelf.read_gives (text_input c.args.name.now) _ _ (search rules);
  starts = search rules;
}

pub loop-incoming-preserved : goal.loop-incoming-preserved
loop-incoming-preserved g c =
    let so_far = c.loop-incoming.invariant in
    let piece = c.in_ok-count.ensures.piece so_far.text (sym so_far.come.counted) so_far.starts in
    record {
      text = so_far.text ++ take c.in_ok-count.count c.read_piece.new.room;
      within = search rules;
      same = piece.same ∙ so_far.same;
      code = search rules;
      come = search rules;
      asked = search rules;
      run = more_has_come g.F.Shelf.read_gives (text_input c.args.name.now) _ _ _ c.in_ok-count.count _ _ _ so_far.asked (search rules) so_far.run c.in_ok-count.ensures.tells (search rules);
      starts = piece.starts;
    }
