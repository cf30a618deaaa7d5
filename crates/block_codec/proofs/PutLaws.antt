-- Bytes that are put in two parts, whole or in part.
use Rattle.std.proofs.Common.{◌≡◌, ℕ, List, ◌++◌, Option, Result, Ok, Err}
use Rattle.std.specs.Prelude.{option_map}
use Rattle.shelf_io.specs.Shelf.{Files}
use Rattle.shelf_io.specs.WholeFile.{all_appended, IsPutAll}
use Rattle.shelf_io.proofs.PartsLemmas.{put_then, put_then-failed}

-- the second part is put behind the first, whole or in part
pub put_then-all : {T E : Type 0} (name first second : List ℕ) (old mid new : Option Files) (result : Result T E) → mid ≡ option_map (all_appended name first) old → IsPutAll name second mid new result
    → IsPutAll name (first ++ second) old new result
put_then-all name first second old mid new (Ok value) before put = put_then name first second old mid new before put
put_then-all name first second old mid new (Err error) before put = put_then-failed name first second old mid new before put
