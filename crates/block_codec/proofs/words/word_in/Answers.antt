use Rattle.std.proofs.Common.{◌≡◌, ◌-◌, ◌*◌, ◌/◌, ◌%◌, ◌^◌, arith}
use Rattle.std.proofs.lemmas.Nat.{one_shl, and_mask}
use Rattle.block_codec.proofs.words.word_in.Goals as goal

pub returns-clause-value : goal.returns-clause-value
returns-clause-value c =
    let mask : 1 * 2 ^ c.args.p % 18446744073709551616 ≡ 2 ^ c.args.p = one_shl c.args.p 64 (omega (arith, c.requires.eight)) in
    rw mask (and_mask (c.args.value / 2 ^ (c.args.p * (7 - c.args.k))) c.args.p)
