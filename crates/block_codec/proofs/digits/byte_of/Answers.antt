use Rattle.std.proofs.Common.{◌≡◌, sym, ap, ◌∙◌, get_or, arith}
use Rattle.block_codec.proofs.GroupLaws.{digits_told}
use Rattle.block_codec.proofs.digits.byte_of.Goals as goal

pub returns-clause-digits : goal.returns-clause-digits
returns-clause-digits c =
    let table = c.args.table.now in
    let place : get_or table c.from.result 0 ≡ get_or table c.likely_byte-byte.result 0 = ap (λ n. get_or table n 0) c.from.ensures in
    digits_told table c.args.digits.now c.likely_byte-byte.result c.number_of_eight-number.result (omega arith) c.requires.table c.requires.eight (λ i. omega (arith, c.type_inv.digits i)) c.number_of_eight-number.ensures
    (sym place ∙ c.if-table-from.false)
