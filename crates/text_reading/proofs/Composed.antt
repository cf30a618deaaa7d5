-- Readers made of readers.
use Rattle.std.proofs.Common.{◌≡◌, ℕ, List, ◌++◌, Option, Some, refl, sym, ap, ◌∙◌, subst, append_assoc}
use Rattle.text_reading.specs.Reading.{◌>>=◌, after_text, behind, both}
use Rattle.text_reading.specs.Reader.{Reads}
use Rattle.text_reading.proofs.Steps.{bind_some, some_is}
use Rattle.text_reading.proofs.Readers.{after_text-append, after_text_takes}

-- a reader behind a text reads the text and its own
pub behind_reads : {A : Type 0} (front : List ℕ) (read : List ℕ → Option (A × List ℕ)) (text : A → List ℕ) (Is : A → Type 0) → Reads read text Is
    → Reads (behind front read) (λ value. front ++ text value) Is
unfolding behind
behind_reads {A} front read text Is reads = record {
  again = λ value rest is. rw (append_assoc, after_text-append front (text value ++ rest), reads.again value rest is) refl;
  takes = λ bytes value rest e.
      let step : (after : List ℕ) × (after_text front bytes ≡ Some after) × (read after ≡ Some (value, rest)) = bind_some (after_text front bytes) read (value, rest) e in
      let own = reads.takes step.0 value rest step.2 in
      (after_text_takes front bytes step.0 step.1 ∙ ap (λ (after : List ℕ). front ++ after) own.0 ∙ sym (append_assoc front (text value) rest), own.1);
}

-- two readers, one behind the other, read the one text and the other
pub both_read : {A B : Type 0} (first : List ℕ → Option (A × List ℕ)) (second : A → List ℕ → Option (B × List ℕ)) (front : A → List ℕ) (back : A → B → List ℕ) (Is : A → Type 0) (Goes : A → B → Type 0)
    → Reads first front Is → ((a : A) → Is a → Reads (second a) (back a) (Goes a))
    → Reads (both first second) (λ pair. front pair.0 ++ back pair.0 pair.1) (λ pair. Is pair.0 × Goes pair.0 pair.1)
unfolding both
both_read {A} {B} first second front back Is Goes reads others = record {
  again = λ pair rest is.
      let own = (others pair.0 is.0).again pair.1 rest is.1 in
      rw (append_assoc, reads.again pair.0 (back pair.0 pair.1 ++ rest) is.0, own) refl;
  takes = λ bytes pair rest e.
      let one : (x : A × List ℕ) × (first bytes ≡ Some x) × ((second x.0 x.1 >>= λ y. Some ((x.0, y.0), y.1)) ≡ Some (pair, rest)) =
      bind_some (first bytes) (λ x. second x.0 x.1 >>= λ y. Some ((x.0, y.0), y.1)) (pair, rest) e in
      let x : A × List ℕ = one.0 in
      let two : (y : B × List ℕ) × (second x.0 x.1 ≡ Some y) × (Some ((x.0, y.0), y.1) ≡ Some (pair, rest)) =
      bind_some (second x.0 x.1) (λ y. Some ((x.0, y.0), y.1)) (pair, rest) one.2 in
      let y : B × List ℕ = two.0 in
      let front_is = reads.takes bytes x.0 x.1 one.1 in
      let back_is = (others x.0 front_is.1).takes x.1 y.0 y.1 two.1 in
      let text : bytes ≡ front x.0 ++ back x.0 y.0 ++ y.1 = front_is.0 ∙ ap (λ (after : List ℕ). front x.0 ++ after) back_is.0 ∙ sym (append_assoc (front x.0) (back x.0 y.0) y.1) in
      subst (λ (p : (A × B) × List ℕ). (bytes ≡ front p.0.0 ++ back p.0.0 p.0.1 ++ p.1) × (Is p.0.0 × Goes p.0.0 p.0.1)) (some_is ((x.0, y.0), y.1) (pair, rest) two.2)
      (text, (front_is.1, back_is.1));
}
