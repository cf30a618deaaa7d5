use Rattle.std.proofs.Common.{◌≡◌, ◌*◌, subst, arith}
use Rattle.std.proofs.Math.Dec.{leb}
use Rattle.std.proofs.lemmas.Bool.{OnTrue_from, leb-true}
use Rattle.code_spec.specs.Code.{CodeData}
use Rattle.code_spec.specs.PlainText.{word_count}
use Rattle.block_codec.specs.inside.Tables.{HasShortBytes}
use Rattle.block_codec.proofs.CountLaws.{byte_filled}
use Rattle.block_codec.proofs.bytes.has_short_bytes.Goals as goal

pub returns-then-code-eq0 : goal.returns-then-code-eq0
returns-then-code-eq0 c =
    OnTrue_from (leb c.digit_count.result 16) (HasShortBytes c.args.code.now)
    (λ fits. record {
      fills = subst (λ (d : CodeData). 8 ≡ d.p * word_count d.p 8) c.code.view_is (byte_filled c.code.inside.p c.code.invariant.p.0 c.code.invariant.p.1 c.if-code-eq0.true);
      short = omega (arith, leb-true c.digit_count.result 16 fits, c.digit_count.ensures.count);
    })
