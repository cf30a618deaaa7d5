use Rattle.std.proofs.Common.{◌∙◌, sym, ap, subst}
use Rattle.gf256.specs.Linear.{values}
use Rattle.rs_code.specs.Word.{differences, IsNear}
use Rattle.rs_code.specs.Polynomial.{sum_of}
use Rattle.rs_code.proofs.Words.{near_is_single}
use Rattle.rs_code.proofs.Patterns.{pattern_of_near, near_of_pattern, differences-errors}
use Rattle.rs_code.proofs.repair.Goals as goal

pub returns-clause-near : goal.returns-clause-near
returns-clause-near c =
    let pattern = c.in-Some.ensures.pattern in
    subst (IsNear c.args.t c.args.word.now) (sym c.add_symbols.ensures)
    (near_of_pattern c.args.t c.args.word.now (values c.args.sums.now) _ c.requires.short c.requires.elements
    pattern.elements pattern.same_length pattern.few c.requires.sums pattern.sums_agree)

pub returns-clause-count : goal.returns-clause-count
returns-clause-count c =
    c.count_errors-changed.ensures ∙ sym (differences-errors c.args.word.now _ c.in-Some.ensures.pattern.same_length)
    ∙ ap (differences c.args.word.now) (sym c.add_symbols.ensures)

pub returns-clause-becomes : goal.returns-clause-becomes
returns-clause-becomes c = λ near near_in.
    near_is_single c.args.t c.args.word.now c.add_symbols.new.word near (returns-clause-near c) near_in

-- a word that is near would be one of errors with these sums
pub returns-in_default-clause-too_far : goal.returns-in_default-clause-too_far
returns-in_default-clause-too_far c = λ near near_in.
    c.in_default.ensures.none (sum_of c.args.word.now near)
    (pattern_of_near c.args.t c.args.word.now (values c.args.sums.now) near c.requires.elements c.requires.sums near_in)

pub returns-in_default-clause-found : goal.returns-in_default-clause-found
returns-in_default-clause-found c = λ near near_in. absurd (returns-in_default-clause-too_far c near near_in)

pub returns-in_default-clause-becomes : goal.returns-in_default-clause-becomes
returns-in_default-clause-becomes c = λ near near_in. absurd (returns-in_default-clause-too_far c near near_in)
