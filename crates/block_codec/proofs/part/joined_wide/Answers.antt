use Rattle.std.proofs.Common.{sym, subst, ◌<◌, ◌+◌, ◌^◌}
use Rattle.block_codec.proofs.PartLaws.{joined_by_wide_shift, joined_below}
use Rattle.block_codec.proofs.part.joined_wide.Goals as goal

pub returns-clause-value : goal.returns-clause-value
returns-clause-value c = joined_by_wide_shift c.args.value c.args.count c.args.digits c.args.width c.requires.value c.requires.digits c.requires.fits

pub returns-clause-below : goal.returns-clause-below
returns-clause-below c =
    subst (λ n. n < 2 ^ (c.args.count + c.args.width))
    (sym (joined_by_wide_shift c.args.value c.args.count c.args.digits c.args.width c.requires.value c.requires.digits c.requires.fits))
    (joined_below c.args.value c.args.count c.args.digits c.args.width c.requires.value c.requires.digits)
