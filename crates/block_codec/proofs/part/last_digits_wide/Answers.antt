use Rattle.std.proofs.Common.{sym, subst, ◌<◌, ◌^◌}
use Rattle.block_codec.proofs.PartLaws.{last_by_wide_mask, last_below}
use Rattle.block_codec.proofs.part.last_digits_wide.Goals as goal

pub returns-clause-value : goal.returns-clause-value
returns-clause-value c = last_by_wide_mask c.args.value c.args.count c.requires

pub returns-clause-below : goal.returns-clause-below
returns-clause-below c =
    subst (λ n. n < 2 ^ c.args.count) (sym (last_by_wide_mask c.args.value c.args.count c.requires)) (last_below c.args.value c.args.count)
