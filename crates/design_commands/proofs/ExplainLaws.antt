-- The text of what a design begins with, piece by piece.
use Rattle.std.proofs.Common.{◌≡◌, ℕ, List, [], ◌∷◌, ◌++◌, append_assoc, sym, ap, ◌∙◌}
use Rattle.std.proofs.lemmas.List.{append-nil}
use Rattle.text_reading.specs.Lines.{text_of}
use Rattle.text_reading.proofs.LineSteps.{text_of-append}

-- three lines behind others
pub three_lines : (lines : List (List ℕ)) (first second third name old new : List ℕ) → old ≡ text_of lines
    → new ≡ old ++ (first ++ 10 ∷ (second ++ 10 ∷ (third ++ 10 ∷ name)))
    → new ≡ text_of (lines ++ first ∷ second ∷ third ∷ []) ++ name
three_lines lines first second third name old new before is =
    is ∙ ap (λ (t : List ℕ). t ++ (first ++ 10 ∷ (second ++ 10 ∷ (third ++ 10 ∷ name)))) before
    ∙ ap (λ (t : List ℕ). text_of lines ++ t) (sym (regrouped first second third name))
    ∙ sym (append_assoc (text_of lines) (text_of (first ∷ second ∷ third ∷ [])) name)
    ∙ ap (λ (t : List ℕ). t ++ name) (sym (text_of-append lines (first ∷ second ∷ third ∷ [])))
  where
    regrouped : (first second third name : List ℕ) → text_of (first ∷ second ∷ third ∷ []) ++ name ≡ first ++ 10 ∷ (second ++ 10 ∷ (third ++ 10 ∷ name))
    regrouped first second third name =
        append_assoc (first ++ 10 ∷ []) (text_of (second ∷ third ∷ [])) name ∙ append_assoc first (10 ∷ []) (text_of (second ∷ third ∷ []) ++ name)
        ∙ ap (λ (t : List ℕ). first ++ 10 ∷ t) (append_assoc (second ++ 10 ∷ []) (text_of (third ∷ [])) name ∙ append_assoc second (10 ∷ []) (text_of (third ∷ []) ++ name)
        ∙ ap (λ (t : List ℕ). second ++ 10 ∷ t) (append_assoc (third ++ 10 ∷ []) [] name ∙ append_assoc third (10 ∷ []) name))

-- two lines behind others, each by a name and what follows it
pub two_lines : (lines : List (List ℕ)) (name other weights sink named weighed begun sunk new : List ℕ) → named ≡ text_of lines ++ name → weighed ≡ named ++ weights
    → begun ≡ weighed ++ 10 ∷ other → sunk ≡ begun ++ sink → new ≡ sunk ++ 10 ∷ []
    → new ≡ text_of (lines ++ (name ++ weights) ∷ (other ++ sink) ∷ [])
two_lines lines name other weights sink named weighed begun sunk new a b c d e =
    let one : weighed ≡ text_of lines ++ (name ++ weights) = b ∙ ap (λ (t : List ℕ). t ++ weights) a ∙ append_assoc (text_of lines) name weights in
    let two : begun ≡ text_of lines ++ ((name ++ weights) ++ 10 ∷ other) = c ∙ ap (λ (t : List ℕ). t ++ 10 ∷ other) one ∙ append_assoc (text_of lines) (name ++ weights) (10 ∷ other) in
    let three : new ≡ (text_of lines ++ ((name ++ weights) ++ 10 ∷ other)) ++ (sink ++ 10 ∷ []) =
    e ∙ ap (λ (t : List ℕ). t ++ 10 ∷ []) (d ∙ ap (λ (t : List ℕ). t ++ sink) two) ∙ append_assoc (text_of lines ++ ((name ++ weights) ++ 10 ∷ other)) sink (10 ∷ []) in
    three ∙ append_assoc (text_of lines) ((name ++ weights) ++ 10 ∷ other) (sink ++ 10 ∷ [])
    ∙ ap (λ (t : List ℕ). text_of lines ++ t) (regrouped (name ++ weights) other sink)
    ∙ sym (text_of-append lines ((name ++ weights) ∷ (other ++ sink) ∷ []))
  where
    regrouped : (first other sink : List ℕ) → (first ++ 10 ∷ other) ++ (sink ++ 10 ∷ []) ≡ text_of (first ∷ (other ++ sink) ∷ [])
    regrouped first other sink =
        append_assoc first (10 ∷ other) (sink ++ 10 ∷ [])
        ∙ ap (λ (t : List ℕ). first ++ 10 ∷ t) (sym (append_assoc other sink (10 ∷ [])) ∙ sym (append-nil ((other ++ sink) ++ 10 ∷ [])))
        ∙ sym (append_assoc first (10 ∷ []) (text_of ((other ++ sink) ∷ [])))
