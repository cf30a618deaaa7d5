-- What one change of a shelf's files after another comes to.
use Rattle.std.proofs.Common.{◌≡◌, ◌≢◌, ℕ, ◌+◌, ◌-◌, ◌<◌, ◌≤◌, true, false, List, [], ◌∷◌, ◌++◌, length, take, drop, Some, None, Option, refl, sym, ap, ◌∙◌, inl, inr, subst, arith, append_assoc}
use Rattle.std.specs.Prelude.{◌⊎◌, unwrap_or, IfSome, IsSomeAnd, Ok, option_map, bytes_eq}
use Rattle.std.proofs.Math.Seq.{take-add}
use Rattle.std.proofs.lemmas.Slice.Eq.{bytes_eq-Decides}
use Rattle.std.proofs.lemmas.Bool.{cases_Bool}
use Rattle.std.proofs.lemmas.List.{append-nil, length-drop, length-take-le, take_rest, take_all}
use Rattle.shelf_io.specs.Shelf.{Files, OnFile, IsRead, Reads, with_file, content, appended}
use Rattle.shelf_io.specs.WholeFile.{all_appended}

-- two names are one or are told apart by their bytes
pub names_cases : (a b : List ℕ) → ((bytes_eq a b ≡ true) × (a ≡ b)) ⊎ ((bytes_eq a b ≡ false) × (a ≢ b))
names_cases a b = elim (cases_Bool (bytes_eq a b)) [
  | inl one ↦ inl (one, (bytes_eq-Decides a b).0 one)
  | inr two ↦ inr (two, λ same. let one : bytes_eq a b ≡ true = (bytes_eq-Decides a b).1 same in cc)
]

-- a name is itself
pub same_name : (a : List ℕ) → bytes_eq a a ≡ true
same_name a = (bytes_eq-Decides a a).1 refl

-- the file that was written holds what was written
pub content-with_file : (files : Files) (name bytes : List ℕ) → content (with_file files name bytes) name ≡ bytes
content-with_file files name bytes = rw same_name refl

-- of two writes of one file the later counts
pub with_file-with_file : (files : Files) (name a b : List ℕ) → with_file (with_file files name a) name b ≡ with_file files name b
with_file-with_file files name a b = λ i other.
    let pointwise : (other : List ℕ) → with_file (with_file files name a) name b other ≡ with_file files name b other =
    λ other. elim (names_cases other name) [ inl same ↦ rw same.0 refl | inr apart ↦ rw apart.0 refl ] in
    pointwise other i

-- two pieces put one behind the other are one piece
pub appended-appended : (name a b : List ℕ) (files : Files) → appended name b (appended name a files) ≡ appended name (a ++ b) files
appended-appended name a b files =
    ap (λ bytes. with_file (appended name a files) name (bytes ++ b)) (content-with_file files name (content files name ++ a))
    ∙ with_file-with_file files name (content files name ++ a) ((content files name ++ a) ++ b)
    ∙ ap (with_file files name) (append_assoc (content files name) a b)

-- a piece behind all that was put joins it
pub appended-all_appended : (name front piece : List ℕ) (files : Files) → 0 < length piece
    → appended name piece (all_appended name front files) ≡ all_appended name (front ++ piece) files
appended-all_appended name [] [] files h = absurd (omega arith)
appended-all_appended name [] (byte ∷ piece) files h = refl
appended-all_appended name (first ∷ front) piece files h = appended-appended name (first ∷ front) piece files

-- nothing put behind all that was put makes the file at most
pub appended-nothing : (name front : List ℕ) (files : Files)
    → appended name [] (all_appended name front files) ≡ appended name front files
appended-nothing name [] files = refl
appended-nothing name (first ∷ front) files =
    appended-appended name (first ∷ front) [] files ∙ ap (λ bytes. appended name bytes files) (append-nil (first ∷ front))

-- one change after another, where the files are told
pub option_map-option_map : (f g h : Files → Files) (files : Option Files) → ((x : Files) → f (g x) ≡ h x)
    → option_map f (option_map g files) ≡ option_map h files
option_map-option_map f g h None same = refl
option_map-option_map f g h (Some files) same = ap (λ x. Some x) (same files)

-- the next k bytes behind the first ones
pub take-step : (bytes : List ℕ) (at k : ℕ) → k ≤ length bytes - at
    → take at bytes ++ take k (take (length bytes - at) (drop at bytes)) ≡ take (at + k) bytes
take-step bytes at k h =
    ap (λ rest. take at bytes ++ take k rest) (take_rest bytes at) ∙ sym (take-add at k bytes)

-- a put of the bytes behind the first ones puts the next ones, and at least one
pub put_step : (name bytes : List ℕ) (at k : ℕ) (old mid new : Option Files) → at < length bytes
    → k ≤ length (take (length bytes - at) (drop at bytes))
    → (0 < length (take (length bytes - at) (drop at bytes)) → 0 < k)
    → mid ≡ option_map (all_appended name (take at bytes)) old
    → new ≡ option_map (appended name (take k (take (length bytes - at) (drop at bytes)))) mid
    → (0 < k) × (at + k ≤ length bytes) × (new ≡ option_map (all_appended name (take (at + k) bytes)) old)
put_step name bytes at k old mid new more bound progress before after =
    let rest = take (length bytes - at) (drop at bytes) in
    let size : length rest ≡ length bytes - at = ap length (take_rest bytes at) ∙ length-drop at bytes in
    let some : 0 < k = progress (omega arith) in
    let within : k ≤ length bytes - at = omega arith in
    let count : 0 < length (take k rest) = omega (arith, length-take-le k rest bound) in (
      some,
      omega arith,
      after ∙ ap (option_map (appended name (take k rest))) before
          ∙ option_map-option_map (appended name (take k rest)) (all_appended name (take at bytes)) (all_appended name (take (at + k) bytes)) old
          (λ files. appended-all_appended name (take at bytes) (take k rest) files count ∙ ap (λ b. all_appended name b files) (take-step bytes at k within)),
    )

-- a write of one file leaves every other
pub with_file-other : (files : Files) (name bytes other : List ℕ) → other ≢ name → with_file files name bytes other ≡ files other
with_file-other files name bytes other apart = elim (names_cases other name) [
  | inl same ↦ absurd (apart same.1)
  | inr two ↦ rw two.0 refl
]

-- bytes appended to a file just made are the file
pub appended-made : (files : Files) (name bytes : List ℕ) → appended name bytes (with_file files name []) ≡ with_file files name bytes
appended-made files name bytes =
    ap (λ held. with_file (with_file files name []) name (held ++ bytes)) (content-with_file files name [])
    ∙ with_file-with_file files name [] bytes

-- and so are all bytes put into it, few or none
pub all_appended-made : (files : Files) (name bytes : List ℕ) → all_appended name bytes (with_file files name []) ≡ with_file files name bytes
all_appended-made files name [] = refl
all_appended-made files name (byte ∷ rest) = appended-made files name (byte ∷ rest)

-- all bytes put into a file stand behind its own
pub content-all_appended : (files : Files) (name bytes : List ℕ) → content (all_appended name bytes files) name ≡ content files name ++ bytes
content-all_appended files name [] = sym (append-nil (content files name))
content-all_appended files name (byte ∷ rest) = content-with_file files name (content files name ++ byte ∷ rest)

-- and leave every other file
pub all_appended-other : (files : Files) (name bytes other : List ℕ) → other ≢ name → all_appended name bytes files other ≡ files other
all_appended-other files name [] other apart = refl
all_appended-other files name (byte ∷ rest) other apart = with_file-other files name (content files name ++ byte ∷ rest) other apart

-- to make a file and put all bytes is to write it, where the files are told
pub made_and_put : (name bytes : List ℕ) (old made new : Option Files)
    → made ≡ option_map (λ files. with_file files name []) old → new ≡ option_map (all_appended name bytes) made
    → new ≡ option_map (λ files. with_file files name bytes) old
made_and_put name bytes old made new first then =
    then ∙ ap (option_map (all_appended name bytes)) first
    ∙ option_map-option_map (all_appended name bytes) (λ files. with_file files name []) (λ files. with_file files name bytes) old
    (λ files. all_appended-made files name bytes)

-- to make a file and fail to put all bytes is to write some front of them, where the files are told
pub made_and_failed : (name bytes : List ℕ) (old made new : Option Files)
    → made ≡ option_map (λ files. with_file files name []) old
    → ((k : ℕ) × (k < length bytes)
    × ((new ≡ option_map (all_appended name (take k bytes)) made) ⊎ (new ≡ option_map (appended name (take k bytes)) made)))
    → (k : ℕ) × (k < length bytes) × (new ≡ option_map (λ files. with_file files name (take k bytes)) old)
made_and_failed name bytes old made new first failed =
    let k = failed.0 in (
      k,
      failed.1,
      elim failed.2 [
        | inl all ↦ made_and_put name (take k bytes) old made new first all
        | inr some ↦ (some ∙ ap (option_map (appended name (take k bytes))) first
            ∙ option_map-option_map (appended name (take k bytes)) (λ files. with_file files name []) (λ files. with_file files name (take k bytes)) old
            (λ files. appended-made files name (take k bytes)))
      ],
    )

-- a read behind the first bytes of a file reads the next ones
next_bytes : (file : Option (List ℕ)) (front room : List ℕ) (at n : ℕ) → front ≡ take at (unwrap_or file [])
    → IsSomeAnd file (Reads at room n) → front ++ take n room ≡ take (at + n) (unwrap_or file [])
next_bytes None front room at n before read = absurd read
next_bytes (Some bytes) front room at n before read =
    ap (λ list. list ++ take n room) before ∙ ap (λ list. take at bytes ++ list) read.front ∙ sym (take-add at n bytes)

-- and one that reads none, with room for some, stands at the end
last_bytes : (file : Option (List ℕ)) (front room : List ℕ) (at limit : ℕ) → 0 < length room → length front ≤ limit
    → front ≡ take at (unwrap_or file []) → IsSomeAnd file (Reads at room 0)
    → IsSomeAnd file (λ bytes. (front ≡ bytes) × (length bytes ≤ limit))
last_bytes None front room at limit some within before read = absurd read
last_bytes (Some bytes) front room at limit some within before read =
    let whole : front ≡ bytes = elim (read.ends refl) [
      | inl none ↦ (let empty : length room ≡ 0 = ap length none in absurd (omega arith))
      | inr end ↦ before ∙ take_all at bytes end
    ] in
    (whole, subst (λ (list : List ℕ). length list ≤ limit) whole within)

-- the same read, with its place and its count under other names
at_place : (old files : Option Files) (name room : List ℕ) (start at n count : ℕ) → files ≡ old → at ≡ start → n ≡ count
    → OnFile files name (IsRead at room (Ok n)) → OnFile old name (IsRead start room (Ok count))
at_place old files name room start at n count same here is read = rw (← same, ← here, ← is) read

-- the bytes read so far after one more read, where the files are told
pub read_step : (old files : Option Files) (name front room more : List ℕ) (start at n size : ℕ)
    → files ≡ old → at ≡ start → more ≡ front ++ take n room → size ≡ start + n
    → IfSome old (λ told. front ≡ take start (content told name)) → OnFile files name (IsRead at room (Ok n))
    → IfSome old (λ told. more ≡ take size (content told name))
read_step None files name front room more start at n size same here longer sum before read = tt
read_step (Some told) files name front room more start at n size same here longer sum before read =
    let now = at_place (Some told) files name room start at n n same here refl read in
    longer ∙ next_bytes (told name) front room start n before now ∙ ap (λ (k : ℕ). take k (content told name)) (sym sum)

-- the bytes read so far are the file, where a read with room for some reads none
pub read_end : (old files : Option Files) (name front room : List ℕ) (start at n limit : ℕ)
    → files ≡ old → at ≡ start → n ≡ 0 → 0 < length room → length front ≤ limit
    → IfSome old (λ told. front ≡ take start (content told name)) → OnFile files name (IsRead at room (Ok n))
    → OnFile old name (λ file. IsSomeAnd file (λ bytes. (front ≡ bytes) × (length bytes ≤ limit)))
read_end None files name front room start at n limit same here none some within before read = tt
read_end (Some told) files name front room start at n limit same here none some within before read =
    last_bytes (told name) front room start limit some within before (at_place (Some told) files name room start at n 0 same here none read)
