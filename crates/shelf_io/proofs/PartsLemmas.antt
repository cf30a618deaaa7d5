-- Bytes that are put in parts.
use Rattle.std.proofs.Common.{◌≡◌, ℕ, ◌+◌, List, [], ◌∷◌, ◌++◌, length, take, Some, None, Option, Result, Ok, Err, refl, sym, ap, ◌∙◌, inl, inr, arith}
use Rattle.std.specs.Prelude.{option_map}
use Rattle.std.proofs.Math.Seq.{take-append-add}
use Rattle.std.proofs.lemmas.List.{append-nil, length-append, take-append-le}
use Rattle.shelf_io.specs.Shelf.{Files, with_file, appended}
use Rattle.shelf_io.specs.WholeFile.{all_appended, IsPutInPart, IsPutAll, IsWritten}
use Rattle.shelf_io.proofs.ShelfLemmas.{appended-appended, appended-all_appended, option_map-option_map, made_and_put, made_and_failed}

-- all bytes behind all that were put
all_appended-all_appended : (name first second : List ℕ) (files : Files) → all_appended name second (all_appended name first files) ≡ all_appended name (first ++ second) files
all_appended-all_appended name first [] files = ap (λ bytes. all_appended name bytes files) (sym (append-nil first))
all_appended-all_appended name first (byte ∷ second) files = appended-all_appended name first (byte ∷ second) files (omega arith)

-- bytes behind all that were put, where the file may have been made for none
appended_behind : (name first second : List ℕ) (files : Files) → appended name second (all_appended name first files) ≡ appended name (first ++ second) files
appended_behind name [] second files = refl
appended_behind name (byte ∷ first) second files = appended-appended name (byte ∷ first) second files

-- no bytes put nothing
pub put_none : (name : List ℕ) (files : Option Files) → files ≡ option_map (all_appended name []) files
put_none name None = refl
put_none name (Some files) = refl

-- two parts put one after the other are put
pub put_then : (name first second : List ℕ) (old mid new : Option Files) → mid ≡ option_map (all_appended name first) old → new ≡ option_map (all_appended name second) mid
    → new ≡ option_map (all_appended name (first ++ second)) old
put_then name first second old mid new before after =
    after ∙ ap (option_map (all_appended name second)) before
    ∙ option_map-option_map (all_appended name second) (all_appended name first) (all_appended name (first ++ second)) old (all_appended-all_appended name first second)

-- where the second part fails, both are put in part
pub put_then-failed : (name first second : List ℕ) (old mid new : Option Files) → mid ≡ option_map (all_appended name first) old → IsPutInPart name second mid new
    → IsPutInPart name (first ++ second) old new
put_then-failed name first second old mid new before failed =
    let k = failed.0 in
    let front : first ++ take k second ≡ take (length first + k) (first ++ second) = sym (take-append-add first second k) in (
      length first + k,
      omega (arith, failed.1, length-append first second),
      elim failed.2 [
        | inl put ↦ inl (put_then name first (take k second) old mid new before put ∙ ap (λ (bytes : List ℕ). option_map (all_appended name bytes) old) front)
        | inr put ↦ inr (put ∙ ap (option_map (appended name (take k second))) before
            ∙ option_map-option_map (appended name (take k second)) (all_appended name first) (appended name (first ++ take k second)) old (appended_behind name first (take k second))
            ∙ ap (λ (bytes : List ℕ). option_map (appended name bytes) old) front)
      ],
    )

-- where the first part fails, both are put in part
pub put_failed : (name first second : List ℕ) (old new : Option Files) → IsPutInPart name first old new → IsPutInPart name (first ++ second) old new
put_failed name first second old new failed =
    let k = failed.0 in
    let front : take k first ≡ take k (first ++ second) = sym (take-append-le k first second (omega (arith, failed.1))) in (
      k,
      omega (arith, failed.1, length-append first second),
      elim failed.2 [
        | inl put ↦ inl (put ∙ ap (λ (bytes : List ℕ). option_map (all_appended name bytes) old) front)
        | inr put ↦ inr (put ∙ ap (λ (bytes : List ℕ). option_map (appended name bytes) old) front)
      ],
    )

-- all bytes put into a file just made are the file, and some are a front of it
pub made_then_put : {T E : Type 0} (name bytes : List ℕ) (old made new : Option Files) (result : Result T E) → made ≡ option_map (λ files. with_file files name []) old
    → IsPutAll name bytes made new result → IsWritten name bytes old new result
made_then_put name bytes old made new (Ok value) first put = made_and_put name bytes old made new first put
made_then_put name bytes old made new (Err error) first put =
    let front = made_and_failed name bytes old made new first put in
    inr (front.0, front.2)
