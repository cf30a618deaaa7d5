-- The files of a list of files, after one of them is written or another comes.
use Rattle.std.proofs.Common.{◌≡◌, ◌≢◌, ℕ, zero, suc, List, [], ◌∷◌, ◌++◌, get_or, set, Some, None, refl, sym, ap, ◌∙◌, subst, inl, inr, arith}
use Rattle.std.specs.Prelude.{unwrap_or}
use Rattle.std.proofs.lemmas.List.Elements.{All-head, All-tail}
use Rattle.shelf_io.specs.Shelf.{with_file, appended}
use Rattle.shelf_io.specs.Entries.{Entry, files_of, IsNowhere, IsFirstAt}
use Rattle.shelf_io.proofs.ShelfLemmas.{names_cases}

-- a name that no file of the list has is no file's
pub files_of-nowhere : (entries : List Entry) (name : List ℕ) → IsNowhere entries name → files_of entries name ≡ None
files_of-nowhere [] name nowhere = refl
files_of-nowhere (entry ∷ rest) name nowhere =
    let here : entry.name ≢ name = All-head (λ (e : Entry). e.name ≢ name) entry rest nowhere in
    let behind = files_of-nowhere rest name (All-tail (λ (e : Entry). e.name ≢ name) entry rest nowhere) in
    elim (names_cases name entry.name) [ inl same ↦ absurd (here (sym same.1)) | inr apart ↦ rw apart.0 behind ]

-- the first file of the list that has the name comes first in what is behind the list's head
later : (entry : Entry) (rest : List Entry) (name : List ℕ) (i : ℕ) → IsFirstAt (entry ∷ rest) name (suc i) → IsFirstAt rest name i
later entry rest name i first = record {
  inside = omega (arith, first.inside);
  here = λ d. first.here d;
  before = λ k d low below. first.before (suc k) d (omega arith) (omega arith);
}

-- the file that comes first under its name is that name's file
pub files_of-first : (entries : List Entry) (name : List ℕ) (i : ℕ) (d : Entry) → IsFirstAt entries name i
    → files_of entries name ≡ Some (get_or entries i d).bytes
files_of-first [] name i d first = absurd (omega (arith, first.inside))
files_of-first (entry ∷ rest) name zero d first = elim (names_cases name entry.name) [
  | inl same ↦ rw same.0 refl
  | inr apart ↦ absurd (apart.1 (sym (first.here d)))
]
files_of-first (entry ∷ rest) name (suc i) d first = elim (names_cases name entry.name) [
  | inl same ↦ absurd (first.before 0 d (omega arith) (omega arith) (sym same.1))
  | inr apart ↦ rw apart.0 (files_of-first rest name i d (later entry rest name i first))
]

-- the file at each name after the first file of one name is written
set_at : (entries : List Entry) (name : List ℕ) (i : ℕ) (written : Entry) (other : List ℕ) → IsFirstAt entries name i → written.name ≡ name
    → files_of (set entries i written) other ≡ with_file (files_of entries) name written.bytes other
set_at [] name i written other first named = absurd (omega (arith, first.inside))
set_at (entry ∷ rest) name zero written other first named =
    let here : entry.name ≡ name = first.here entry in
    rw (named, here) (elim (names_cases other name) [ inl same ↦ rw same.0 refl | inr apart ↦ rw apart.0 refl ])
set_at (entry ∷ rest) name (suc i) written other first named =
    let behind = set_at rest name i written other (later entry rest name i first) named in
    let front : entry.name ≢ name = first.before 0 entry (omega arith) (omega arith) in
    rw behind (elim (names_cases other name) [
      | inl same ↦ (elim (names_cases other entry.name) [ inl clash ↦ absurd (front (sym clash.1 ∙ same.1)) | inr apart ↦ rw (same.0, apart.0) refl ])
      | inr apart ↦ rw apart.0 refl
    ])

-- the files after the first file of one name is written
pub files_of-set : (entries : List Entry) (name : List ℕ) (i : ℕ) (written : Entry) → IsFirstAt entries name i → written.name ≡ name
    → files_of (set entries i written) ≡ with_file (files_of entries) name written.bytes
files_of-set entries name i written first named = λ j other. set_at entries name i written other first named j

-- the file at each name after another file comes
push_at : (entries : List Entry) (added : Entry) (other : List ℕ) → IsNowhere entries added.name
    → files_of (entries ++ added ∷ []) other ≡ with_file (files_of entries) added.name added.bytes other
push_at [] added other nowhere = refl
push_at (entry ∷ rest) added other nowhere =
    let front : entry.name ≢ added.name = All-head (λ (e : Entry). e.name ≢ added.name) entry rest nowhere in
    let behind = push_at rest added other (All-tail (λ (e : Entry). e.name ≢ added.name) entry rest nowhere) in
    rw behind (elim (names_cases other added.name) [
      | inl same ↦ (elim (names_cases other entry.name) [ inl clash ↦ absurd (front (sym clash.1 ∙ same.1)) | inr apart ↦ rw (same.0, apart.0) refl ])
      | inr apart ↦ rw apart.0 refl
    ])

-- the files after another file comes
pub files_of-push : (entries : List Entry) (added : Entry) → IsNowhere entries added.name
    → files_of (entries ++ added ∷ []) ≡ with_file (files_of entries) added.name added.bytes
files_of-push entries added nowhere = λ j other. push_at entries added other nowhere j

-- what the first file of a name holds is what the list's files tell of that name
pub file_told : (entries items : List Entry) (name : List ℕ) (i : ℕ) (found : Entry) (bytes : List ℕ)
    → items ≡ entries → IsFirstAt entries name i → found ≡ get_or items i found → bytes ≡ found.bytes
    → Some bytes ≡ files_of entries name
file_told entries items name i found bytes same first read is =
    ap (λ b. Some b) (is ∙ ap (λ (e : Entry). e.bytes) read ∙ ap (λ list. (get_or list i found).bytes) same) ∙ sym (files_of-first entries name i found first)

-- the list with the first file of a name written tells the files with that file written
pub file_written : (entries items : List Entry) (name : List ℕ) (i : ℕ) (found written : Entry)
    → items ≡ entries → IsFirstAt entries name i → found ≡ get_or items i found → written.name ≡ found.name
    → files_of (set items i written) ≡ with_file (files_of entries) name written.bytes
file_written entries items name i found written same first read named =
    ap (λ list. files_of (set list i written)) same
    ∙ files_of-set entries name i written first
    (named ∙ ap (λ (e : Entry). e.name) read ∙ ap (λ list. (get_or list i found).name) same ∙ first.here found)

-- the list with one more file tells the files with that file, where its name is new
pub file_added : (entries items more : List Entry) (name : List ℕ) (added : Entry)
    → items ≡ entries → IsNowhere entries name → more ≡ items ++ added ∷ [] → added.name ≡ name
    → files_of more ≡ with_file (files_of entries) name added.bytes
file_added entries items more name added same nowhere pushed named =
    ap files_of pushed ∙ ap (λ list. files_of (list ++ added ∷ [])) same
    ∙ subst (λ n. files_of (entries ++ added ∷ []) ≡ with_file (files_of entries) n added.bytes) named
    (files_of-push entries added (subst (λ n. IsNowhere entries n) (sym named) nowhere))

-- the list with more bytes in the first file of a name tells the files with these bytes appended
pub file_extended : (entries items : List Entry) (name bytes : List ℕ) (i : ℕ) (found written : Entry)
    → items ≡ entries → IsFirstAt entries name i → found ≡ get_or items i found → written.name ≡ found.name → written.bytes ≡ found.bytes ++ bytes
    → files_of (set items i written) ≡ appended name bytes (files_of entries)
file_extended entries items name bytes i found written same first read named longer =
    let told : files_of entries name ≡ Some found.bytes = sym (file_told entries items name i found found.bytes same first read refl) in
    file_written entries items name i found written same first read named
    ∙ ap (with_file (files_of entries) name) (longer ∙ ap (λ file. unwrap_or file [] ++ bytes) (sym told))

-- bytes appended to a file that isn't there are the whole file
pub appended-nowhere : (entries : List Entry) (name bytes : List ℕ) → IsNowhere entries name
    → with_file (files_of entries) name bytes ≡ appended name bytes (files_of entries)
appended-nowhere entries name bytes nowhere =
    ap (λ file. with_file (files_of entries) name (unwrap_or file [] ++ bytes)) (sym (files_of-nowhere entries name nowhere))
