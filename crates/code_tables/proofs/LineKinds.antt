-- Each kind of line is read exactly where its rule is kept.
use Rattle.std.proofs.Common.{◌≡◌, ℕ, ◌^◌, ◌<◌, ◌≤◌, true, List, [], ◌∷◌, ◌++◌, length, get_or, Option, Some, None, refl, sym, ap, ◌∙◌, subst, arith, append_assoc}
use Rattle.std.specs.Prelude.{codes, IfSome}
use Rattle.std.specs.Fmt.{decimal}
use Rattle.std.specs.Char.{is_ascii_digit}
use Rattle.std.specs.Str.{all_ascii_digits}
use Rattle.std.proofs.lemmas.Bool.{and_parts}
use Rattle.std.proofs.lemmas.Fmt.{digits_decimal, decimal_nonempty}
use Rattle.code_text_spec.specs.CodeText.{spaced, limit}
use Rattle.code_text_spec.specs.LineRules.{Place, at_version, at_alphabet, at_d, at_k, at_forbid, at_words, at_row, Keeps, keeps_version, keeps_alphabet, keeps_d, keeps_k, keeps_forbid, IsEnd, behind_last_row}
use Rattle.text_reading.specs.Reading.{after_text, field_at}
use Rattle.text_reading.specs.Reader.{Reads}
use Rattle.text_reading.specs.LineReader.{one_line, both_lines, ReadsLines}
use Rattle.text_reading.proofs.Steps.{bind_some, some_is}
use Rattle.text_reading.proofs.Numbers.{digits_are_numerals, none_of}
use Rattle.text_reading.proofs.Readers.{after_text-append, after_text_takes, field_reads}
use Rattle.text_reading.proofs.Composed.{behind_reads}
use Rattle.text_reading.proofs.LineReaders.{one_line_reads, below_line_reads, both_lines_read}
use Rattle.code_tables.specs.inside.Reading.{dash_or_number, limit_at, d_at, k_at, forbid_at, head_at}

-- a reader of one text is a reader of the same text written otherwise
pub reads_as : {A : Type 0} (read : List ℕ → Option (A × List ℕ)) (text other : A → List ℕ) (Is : A → Type 0) → ((value : A) → text value ≡ other value) → Reads read text Is → Reads read other Is
reads_as {A} read text other Is same reads = subst (λ (t : A → List ℕ). Reads read t Is) (λ i value. same value i) reads

-- a number and the byte behind it
abbrev pub field_text : ℕ → ℕ → List ℕ
field_text end n = decimal n ++ end ∷ []

abbrev pub IsRange : ℕ → ℕ → ℕ → Type 0
IsRange least most n = (least ≤ n) × (n ≤ most)

abbrev pub IsLimit : ℕ → Option ℕ → Type 0
IsLimit d k = IfSome k (IsRange d 100)

-- an item that comes behind the one before
abbrev pub IsNext : {X : Type 0} → (X → Type 0) → (X → X → Type 0) → Option X → X → Type 0
IsNext P R before x = P x × IfSome before (λ b. R b x)

-- ---- the limit

abbrev pub limit_text : Option ℕ → List ℕ
limit_text k = limit k ++ 10 ∷ []

dash_is_no_digit : is_ascii_digit 45 ≡ true → ⊥
dash_is_no_digit e = cc

first_of_digits : (text rest : List ℕ) → all_ascii_digits text ≡ true → 0 < length text → is_ascii_digit (get_or (text ++ rest) 0 0) ≡ true
first_of_digits [] rest h some = absurd (omega arith)
first_of_digits (digit ∷ text) rest h some = (and_parts (is_ascii_digit digit) (all_ascii_digits text) h).0

first_is_digit : (k : ℕ) (rest : List ℕ) → k < 10 ^ 18 → is_ascii_digit (get_or (field_text 10 k ++ rest) 0 0) ≡ true
first_is_digit k rest small =
    let fits : k < 2 ^ 64 = omega arith in
    rw append_assoc (first_of_digits (decimal k) (10 ∷ rest) (digits_decimal digits_are_numerals k fits) (decimal_nonempty k fits))

-- a dash begins no number
no_dash : (k : ℕ) (rest : List ℕ) → k < 10 ^ 18 → after_text (45 ∷ 10 ∷ []) (field_text 10 k ++ rest) ≡ None
no_dash k rest small =
    none_of (after_text (45 ∷ 10 ∷ []) (field_text 10 k ++ rest)) (λ after e.
    let behind_dash = after_text_takes (45 ∷ 10 ∷ []) (field_text 10 k ++ rest) after e in
    let first = ap (λ (bytes : List ℕ). get_or bytes 0 0) behind_dash in
    let digit = first_is_digit k rest small in
    dash_is_no_digit (sym (ap is_ascii_digit first) ∙ digit))

k_reads : (d : ℕ) → Reads (field_at 10 d 100) (field_text 10) (IsRange d 100)
k_reads d = field_reads 10 d 100 refl (omega arith)

limit_again : (d : ℕ) (k : Option ℕ) (rest : List ℕ) → IsLimit d k → limit_at d (limit_text k ++ rest) ≡ Some (k, rest)
unfolding limit_at
limit_again d None rest is = rw (after_text-append (45 ∷ 10 ∷ []) rest) refl
limit_again d (Some k) rest is =
    let number = (k_reads d).again k rest is in
    rw (no_dash k rest (omega arith), number) refl

dash_or_number_takes : (d : ℕ) (bytes : List ℕ) (dash : Option (List ℕ)) (k : Option ℕ) (rest : List ℕ) → ((after : List ℕ) → dash ≡ Some after → bytes ≡ 45 ∷ 10 ∷ after)
    → dash_or_number d bytes dash ≡ Some (k, rest) → (bytes ≡ limit_text k ++ rest) × IsLimit d k
dash_or_number_takes d bytes (Some after) k rest dash e =
    subst (λ (p : Option ℕ × List ℕ). (bytes ≡ limit_text p.0 ++ p.1) × IsLimit d p.0) (some_is (None, after) (k, rest) e) (dash after refl, tt)
dash_or_number_takes d bytes None k rest dash e =
    let one : (x : ℕ × List ℕ) × (field_at 10 d 100 bytes ≡ Some x) × (Some (Some x.0, x.1) ≡ Some (k, rest)) =
    bind_some (field_at 10 d 100 bytes) (λ x. Some (Some x.0, x.1)) (k, rest) e in
    let x : ℕ × List ℕ = one.0 in
    let number = (k_reads d).takes bytes x.0 x.1 one.1 in
    subst (λ (p : Option ℕ × List ℕ). (bytes ≡ limit_text p.0 ++ p.1) × IsLimit d p.0) (some_is (Some x.0, x.1) (k, rest) one.2) (number.0, number.1)

limit_reads : (d : ℕ) → Reads (limit_at d) limit_text (IsLimit d)
unfolding limit_at
limit_reads d = record {
  again = limit_again d;
  takes = λ bytes k rest e. dash_or_number_takes d bytes (after_text (45 ∷ 10 ∷ []) bytes) k rest (λ after h. after_text_takes (45 ∷ 10 ∷ []) bytes after h) e;
}

-- ---- the head

-- only a row may be expected at the end of a text
abbrev pub IsRowPlace : Place → Type 0
IsRowPlace (at_row p q states state word) = Unit {0}
IsRowPlace other = ⊥

pub ends_at_row : (here : Place) → IsEnd here → IsRowPlace here
ends_at_row here (behind_last_row p q states) = tt

version_kept : (text : List ℕ) (next : Place) → Keeps at_version text next → text ≡ codes "modcode 1"
version_kept text next keeps_version = refl

alphabet_kept : (text : List ℕ) (next : Place) → Keeps at_alphabet text next → text ≡ codes "alphabet 2"
alphabet_kept text next keeps_alphabet = refl

d_kept : (text : List ℕ) (next : Place) → Keeps at_d text next → (d : ℕ) × IsRange 0 100 d × (text ≡ spaced (codes "d") (decimal d))
d_kept text next (keeps_d d most) = (d, (omega arith, most), refl)

k_kept : (d : ℕ) (text : List ℕ) (next : Place) → Keeps (at_k d) text next → (k : Option ℕ) × IsLimit d k × (text ≡ spaced (codes "k") (limit k))
k_kept d text next (keeps_k e k range) = (k, range, refl)

forbid_kept : (text : List ℕ) (next : Place) → Keeps at_forbid text next → (count : ℕ) × IsRange 0 128 count × (text ≡ spaced (codes "forbid") (decimal count))
forbid_kept text next (keeps_forbid count most) = (count, (omega arith, most), refl)

pub d_reads : Reads d_at (λ d. spaced (codes "d") (decimal d) ++ 10 ∷ []) (IsRange 0 100)
unfolding d_at
d_reads = behind_reads (codes "d ") (field_at 10 0 100) (field_text 10) (IsRange 0 100) (field_reads 10 0 100 refl (omega arith))

pub k_text_reads : (d : ℕ) → Reads (k_at d) (λ k. spaced (codes "k") (limit k) ++ 10 ∷ []) (IsLimit d)
unfolding k_at
k_text_reads d = behind_reads (codes "k ") (limit_at d) limit_text (IsLimit d) (limit_reads d)

pub forbid_reads : Reads forbid_at (λ count. spaced (codes "forbid") (decimal count) ++ 10 ∷ []) (IsRange 0 128)
unfolding forbid_at
forbid_reads = behind_reads (codes "forbid ") (field_at 10 0 128) (field_text 10) (IsRange 0 128) (field_reads 10 0 128 refl (omega arith))

d_line_reads : ReadsLines Keeps IsEnd (one_line d_at) (λ d. spaced (codes "d") (decimal d) ∷ []) (IsRange 0 100) at_d at_k
d_line_reads =
    one_line_reads Keeps IsEnd d_at (λ d. spaced (codes "d") (decimal d)) (IsRange 0 100) at_d at_k d_reads
    (λ d is. keeps_d d is.1) d_kept (ends_at_row at_d)

k_line_reads : (d : ℕ) → ReadsLines Keeps IsEnd (one_line (k_at d)) (λ k. spaced (codes "k") (limit k) ∷ []) (IsLimit d) (at_k d) (λ k. at_forbid)
k_line_reads d =
    one_line_reads Keeps IsEnd (k_at d) (λ k. spaced (codes "k") (limit k)) (IsLimit d) (at_k d) (λ k. at_forbid) (k_text_reads d)
    (λ k is. keeps_k d k is) (k_kept d) (ends_at_row (at_k d))

forbid_line_reads : ReadsLines Keeps IsEnd (one_line forbid_at) (λ count. spaced (codes "forbid") (decimal count) ∷ []) (IsRange 0 128) at_forbid (λ count. at_words count None)
forbid_line_reads =
    one_line_reads Keeps IsEnd forbid_at (λ count. spaced (codes "forbid") (decimal count)) (IsRange 0 128) at_forbid (λ count. at_words count None) forbid_reads
    (λ count is. keeps_forbid count is.1) forbid_kept (ends_at_row at_forbid)

abbrev pub Head : Type 0
Head = ℕ × (Option ℕ × ℕ)

abbrev pub head_lines : Head → List (List ℕ)
head_lines head = codes "modcode 1" ∷ codes "alphabet 2" ∷ spaced (codes "d") (decimal head.0) ∷ spaced (codes "k") (limit head.1.0) ∷ spaced (codes "forbid") (decimal head.1.1) ∷ []

abbrev pub IsHead : Head → Type 0
IsHead head = IsRange 0 100 head.0 × (IsLimit head.0 head.1.0 × IsRange 0 128 head.1.1)

pub head_reads : ReadsLines Keeps IsEnd head_at head_lines IsHead at_version (λ head. at_words head.1.1 None)
unfolding head_at
head_reads =
    let runs = both_lines_read Keeps IsEnd (one_line d_at) 1 (λ d. both_lines (one_line (k_at d)) 1 (λ k. one_line forbid_at))
    (λ d. spaced (codes "d") (decimal d) ∷ []) (λ d rest. spaced (codes "k") (limit rest.0) ∷ spaced (codes "forbid") (decimal rest.1) ∷ []) (IsRange 0 100) (λ d rest. IsLimit d rest.0 × IsRange 0 128 rest.1)
    at_d at_k (λ d rest. at_words rest.1 None) d_line_reads (λ d is. refl) (λ d is.
    both_lines_read Keeps IsEnd (one_line (k_at d)) 1 (λ k. one_line forbid_at) (λ k. spaced (codes "k") (limit k) ∷ []) (λ k count. spaced (codes "forbid") (decimal count) ∷ []) (IsLimit d) (λ k. IsRange 0 128)
    (at_k d) (λ k. at_forbid) (λ k count. at_words count None) (k_line_reads d) (λ k is. refl) (λ k is. forbid_line_reads)) in
    below_line_reads Keeps IsEnd (codes "modcode 1") _ (λ head. codes "alphabet 2" ∷ spaced (codes "d") (decimal head.0) ∷ spaced (codes "k") (limit head.1.0) ∷ spaced (codes "forbid") (decimal head.1.1) ∷ []) IsHead at_version at_alphabet (λ head. at_words head.1.1 None) keeps_version version_kept (ends_at_row at_version)
    (below_line_reads Keeps IsEnd (codes "alphabet 2") _ (λ head. spaced (codes "d") (decimal head.0) ∷ spaced (codes "k") (limit head.1.0) ∷ spaced (codes "forbid") (decimal head.1.1) ∷ []) IsHead at_alphabet at_d (λ head. at_words head.1.1 None) keeps_alphabet alphabet_kept (ends_at_row at_alphabet) runs)
