-- The sizes of a code as numbers of their own.
use Rattle.std.specs.Prelude.{◌≡◌, ◌≤◌}
use Rattle.code_spec.specs.Code.{CodeData}
use Rattle.code_spec.specs.Decoder.{window_length}
use Rattle.block_codec.specs.declared.sizes.Sizes.{Sizes}

-- the sizes are the code's, and none of them is large
pub record AreSizesOf (c : CodeData) (sizes : Sizes) : Type 0 where
  pub p : sizes.p ≡ c.p
  pub q : sizes.q ≡ c.q
  pub length : sizes.length ≡ window_length c
  pub some : 1 ≤ sizes.length
  pub short : sizes.length ≤ 768
