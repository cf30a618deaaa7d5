-- Texts of lines: those before a wrong line are the same however they are found, and readers of lines are made of readers.
use Rattle.std.proofs.Common.{◌≡◌, ℕ, suc, ◌+◌, List, [], ◌∷◌, ◌++◌, length, drop, Option, Some, refl, sym, ap, ◌∙◌, subst, arith, append_assoc}
use Rattle.std.proofs.lemmas.List.{length-append}
use Rattle.std.proofs.lemmas.List.Concat.{flat_map-append}
use Rattle.text_reading.specs.Reading.{after_text}
use Rattle.text_reading.specs.Reader.{Reads}
use Rattle.text_reading.specs.Lines.{text_of, Leads, none, more, Breaks, IsFirstWrong}
use Rattle.text_reading.proofs.Steps.{some_is}
use Rattle.text_reading.proofs.Readers.{after_text-append}

-- ---- lines that lead on

-- lines behind lines
pub leads-append : {E : Type 0} {Keeps : E → List ℕ → E → Type 0} (here via there : E) (front back : List (List ℕ)) → Leads Keeps here front via → Leads Keeps via back there → Leads Keeps here (front ++ back) there
leads-append here via there front back (none e) on = on
leads-append here via there front back (more e f g line lines keeps leads) on = more e f there line (lines ++ back) keeps (leads-append f g there lines back leads on)

pub text_of-append : (front back : List (List ℕ)) → text_of (front ++ back) ≡ text_of front ++ text_of back
text_of-append front back = flat_map-append (λ (line : List ℕ). line ++ 10 ∷ []) front back

-- a line that is wrong behind lines that keep their rules is wrong
pub wrong_behind : {E : Type 0} {Keeps : E → List ℕ → E → Type 0} {IsEnd : E → Type 0} (start here : E) (first : ℕ) (bytes rest : List ℕ) (lines : List (List ℕ)) (n : ℕ) → Leads Keeps start lines here → bytes ≡ text_of lines ++ rest
    → IsFirstWrong Keeps IsEnd here (first + length lines) rest n → IsFirstWrong Keeps IsEnd start first bytes n
wrong_behind start here first bytes rest lines n leads front wrong = record {
  lines = lines ++ wrong.lines;
  rest = wrong.rest;
  here = wrong.here;
  front = front ∙ ap (λ (t : List ℕ). text_of lines ++ t) wrong.front ∙ sym (append_assoc (text_of lines) (text_of wrong.lines) wrong.rest) ∙ ap (λ (t : List ℕ). t ++ wrong.rest) (sym (text_of-append lines wrong.lines));
  kept = leads-append start here wrong.here lines wrong.lines leads wrong.kept;
  breaks = wrong.breaks;
  number = omega (arith, wrong.number, length-append lines wrong.lines);
}

-- ---- one way on

-- Where two lines keep the rule in front of one text, they lead to one place, at places that are good; and good places lead to good ones.
pub record IsOneWay {E : Type 0} (Keeps : E → List ℕ → E → Type 0) (IsGood : E → Type 0) : Type 0 where
  pub way : (here : E) (line other rest behind : List ℕ) (next after : E) → IsGood here → Keeps here line next → Keeps here other after → line ++ 10 ∷ rest ≡ other ++ 10 ∷ behind → (next ≡ after) × (rest ≡ behind)
  pub stays : (here : E) (line : List ℕ) (next : E) → IsGood here → Keeps here line next → IsGood next

-- no two lines are the first wrong line
one_wrong : {E : Type 0} {Keeps : E → List ℕ → E → Type 0} {IsEnd IsGood : E → Type 0} → IsOneWay Keeps IsGood → (start here there : E) (lines others : List (List ℕ)) (rest behind : List ℕ)
    → IsGood start → Leads Keeps start lines here → Leads Keeps start others there → text_of lines ++ rest ≡ text_of others ++ behind → Breaks Keeps IsEnd here rest → Breaks Keeps IsEnd there behind → length lines ≡ length others
one_wrong way start here there lines others rest behind good (none e) (none f) same one two = refl
one_wrong way start here there lines others rest behind good (none e) (more f next g line later keeps leads) same one two =
    absurd (one.line line (text_of later ++ behind) next (same ∙ simp append_assoc refl) keeps)
one_wrong way start here there lines others rest behind good (more f next g line later keeps leads) (none e) same one two =
    absurd (two.line line (text_of later ++ rest) next (sym same ∙ simp append_assoc refl) keeps)
one_wrong {E} {Keeps} way start here there lines others rest behind good (more e next g line later keeps leads) (more f after h other last keeps_too leads_too) same one two =
    let on = way.way e line other (text_of later ++ rest) (text_of last ++ behind) next after good keeps keeps_too (simp append_assoc at same) in
    ap suc (one_wrong way next g h later last rest behind (way.stays e line next good keeps) leads (subst (λ (s : E). Leads Keeps s last h) (sym on.0) leads_too) on.1 one two)

pub first_wrong_is_one : {E : Type 0} {Keeps : E → List ℕ → E → Type 0} {IsEnd IsGood : E → Type 0} → IsOneWay Keeps IsGood → (start : E) (first : ℕ) (bytes : List ℕ) (m n : ℕ) → IsGood start → IsFirstWrong Keeps IsEnd start first bytes m → IsFirstWrong Keeps IsEnd start first bytes n → m ≡ n
first_wrong_is_one way start first bytes m n good one two =
    let long = one_wrong way start one.here two.here one.lines two.lines one.rest two.rest good one.kept two.kept (sym one.front ∙ two.front) one.breaks two.breaks in
    omega (arith, one.number, two.number, long)

-- a whole text has no wrong line
whole_breaks : {E : Type 0} {Keeps : E → List ℕ → E → Type 0} {IsEnd IsGood : E → Type 0} → IsOneWay Keeps IsGood → ((here next : E) (line : List ℕ) → IsEnd here → Keeps here line next → ⊥) → (start here there : E) (lines others : List (List ℕ)) (behind : List ℕ)
    → IsGood start → Leads Keeps start lines here → IsEnd here → Leads Keeps start others there → text_of lines ≡ text_of others ++ behind → Breaks Keeps IsEnd there behind → ⊥
whole_breaks way stops start here there lines others behind good (none e) ends (none f) same breaks = breaks.end ends (sym same)
whole_breaks way stops start here there lines others behind good (none e) ends (more f next g line later keeps leads) same breaks = stops e next line ends keeps
whole_breaks way stops start here there lines others behind good (more f next g line later keeps leads) ends (none e) same breaks =
    breaks.line line (text_of later) next (sym same ∙ simp append_assoc refl) keeps
whole_breaks {E} {Keeps} way stops start here there lines others behind good (more e next g line later keeps leads) ends (more f after h other last keeps_too leads_too) same breaks =
    let on = way.way e line other (text_of later) (text_of last ++ behind) next after good keeps keeps_too (simp append_assoc at same) in
    whole_breaks way stops next g h later last behind (way.stays e line next good keeps) leads ends (subst (λ (s : E). Leads Keeps s last h) (sym on.0) leads_too) on.1 breaks

pub whole_is_not_wrong : {E : Type 0} {Keeps : E → List ℕ → E → Type 0} {IsEnd IsGood : E → Type 0} → IsOneWay Keeps IsGood → ((here next : E) (line : List ℕ) → IsEnd here → Keeps here line next → ⊥) → (start here : E) (lines : List (List ℕ)) (first n : ℕ) (bytes : List ℕ)
    → IsGood start → Leads Keeps start lines here → IsEnd here → bytes ≡ text_of lines → IsFirstWrong Keeps IsEnd start first bytes n → ⊥
whole_is_not_wrong way stops start here lines first n bytes good leads ends spelled wrong =
    whole_breaks way stops start here wrong.here lines wrong.lines wrong.rest good leads ends wrong.kept (sym spelled ∙ wrong.front) wrong.breaks

-- what is read of a text is one value
pub one_value : {A : Type 0} (read : List ℕ → Option (A × List ℕ)) (line : A → List ℕ) (Is : A → Type 0) → Reads read (λ value. line value ++ 10 ∷ []) Is → (v w : A) (rest behind : List ℕ) → Is v → Is w → line v ++ 10 ∷ rest ≡ line w ++ 10 ∷ behind → (v ≡ w) × (rest ≡ behind)
one_value {A} read line Is reads v w rest behind is_v is_w same =
    let one : read (line v ++ 10 ∷ rest) ≡ Some (v, rest) = ap read (sym (append_assoc (line v) (10 ∷ []) rest)) ∙ reads.again v rest is_v in
    let two : read (line w ++ 10 ∷ behind) ≡ Some (w, behind) = ap read (sym (append_assoc (line w) (10 ∷ []) behind)) ∙ reads.again w behind is_w in
    let pair : (v, rest) ≡ (w, behind) = some_is (v, rest) (w, behind) (sym one ∙ ap read same ∙ two) in
    (ap (λ (p : A × List ℕ). p.0) pair, ap (λ (p : A × List ℕ). p.1) pair)

-- what stands behind a text is one
pub one_behind : (text rest behind : List ℕ) → text ++ 10 ∷ rest ≡ text ++ 10 ∷ behind → rest ≡ behind
one_behind text rest behind same =
    let one = after_text-append text (10 ∷ rest) in
    let two = after_text-append text (10 ∷ behind) in
    let both : 10 ∷ rest ≡ 10 ∷ behind = some_is (10 ∷ rest) (10 ∷ behind) (sym one ∙ ap (after_text text) same ∙ two) in
    ap (λ (bytes : List ℕ). drop 1 bytes) both
