use Rattle.std.proofs.Common.{refl}
use Rattle.min_cover.specs.inside.States.{raw_of}
use Rattle.min_cover.proofs.Numbering.{numbers_raw, numbers_within, numbers_past}
use Rattle.min_cover.proofs.search.number_of.Goals as goal

pub returns : goal.returns
returns c = λ d.
    let stored = c.in_ok-number.ensures.stored in
    let old = c.args.found.now.keys in
    let new = c.insert_full.new.self.keys in
    numbers_within d old (raw_of c.args.state) new c.in_ok-number.number c.if-number-ge-MOST_STATES.false
    (numbers_raw d old new c.args.state stored.0 c.in_ok-number.number c.in_ok-number.ensures.keys c.in_ok-number.ensures.within stored.1 stored.2)

pub returns-then-number-ge-MOST_STATES : goal.returns-then-number-ge-MOST_STATES
returns-then-number-ge-MOST_STATES c = λ d.
    let stored = c.in_ok-number.ensures.stored in
    let old = c.args.found.now.keys in
    let new = c.insert_full.new.self.keys in
    let past = numbers_past d old (raw_of c.args.state) new c.in_ok-number.number c.if-number-ge-MOST_STATES.true c.requires
    (numbers_raw d old new c.args.state stored.0 c.in_ok-number.number c.in_ok-number.ensures.keys c.in_ok-number.ensures.within stored.1 stored.2) in
    (past.0, past.1, refl)
