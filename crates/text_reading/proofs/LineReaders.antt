-- Readers of lines are made of readers of one line.
use Rattle.std.proofs.Common.{◌≡◌, ℕ, zero, suc, ◌+◌, ◌-◌, ◌<◌, ◌≤◌, List, [], ◌∷◌, ◌++◌, length, Option, Some, None, refl, sym, ap, ◌∙◌, subst, arith, append_assoc}
use Rattle.std.specs.Prelude.{Result, Ok, Err, ok_or}
use Rattle.std.proofs.lemmas.List.{append-nil}
use Rattle.text_reading.specs.Reading.{after_text}
use Rattle.text_reading.specs.Reader.{Reads}
use Rattle.text_reading.specs.Lines.{text_of, Leads, none, more, IsFirstWrong}
use Rattle.text_reading.specs.LineReader.{◌>>=◌, LineReader, one_line, below_line, both_lines, parts_from, ReadsLines, lines_along, HoldsAlong, after_all}
use Rattle.text_reading.proofs.Readers.{after_text-append, after_text_takes}
use Rattle.text_reading.proofs.LineSteps.{leads-append, text_of-append, wrong_behind}

-- ---- what an answer tells of its parts

pub ok_or_ok : {A : Type 0} (o : Option A) (n : ℕ) (x : A) → ok_or o n ≡ Ok x → o ≡ Some x
ok_or_ok (Some y) n x e = cc
ok_or_ok None n x e = absurd cc

pub ok_or_err : {A : Type 0} (o : Option A) (n m : ℕ) → ok_or o n ≡ Err m → (o ≡ None) × (n ≡ m)
ok_or_err (Some y) n m e = absurd cc
ok_or_err None n m e = (refl, cc)

pub ok_is : {A : Type 0} (x y : A) → (let r : Result A ℕ = Ok x in r) ≡ Ok y → x ≡ y
ok_is x y e = cc

pub bind_ok : {A B : Type 0} (r : Result A ℕ) (f : A → Result B ℕ) (y : B) → (r >>= f) ≡ Ok y → (x : A) × (r ≡ Ok x) × (f x ≡ Ok y)
bind_ok (Ok x) f y e = (x, refl, e)
bind_ok (Err n) f y e = absurd cc

-- where the whole is wrong, the first is, or the rest behind it
pub data BindErr {A B : Type 0} (r : Result A ℕ) (f : A → Result B ℕ) (n : ℕ) : Type 0 where
  in_front : r ≡ Err n → BindErr r f n
  behind_it : (x : A) → r ≡ Ok x → f x ≡ Err n → BindErr r f n

err_is : {A B : Type 0} (m n : ℕ) → (let r : Result B ℕ = Err m in r) ≡ Err n → (let r : Result A ℕ = Err m in r) ≡ Err n
err_is m n e = cc

pub bind_err : {A B : Type 0} (r : Result A ℕ) (f : A → Result B ℕ) (n : ℕ) → (r >>= f) ≡ Err n → BindErr r f n
bind_err (Ok x) f n e = behind_it x refl e
bind_err {A} {B} (Err m) f n e = in_front (err_is {A = A} {B = B} m n e)

pub ok_is_no_err : {A : Type 0} (x : A) (n : ℕ) → (let r : Result A ℕ = Ok x in r) ≡ Err n → ⊥
ok_is_no_err x n e = cc

not_both : {A : Type 0} (o : Option A) (x : A) → o ≡ None → o ≡ Some x → ⊥
not_both None x e h = absurd cc
not_both (Some y) x e h = absurd cc

-- a line and its line feed, and a text behind them
text_of_one : (line rest : List ℕ) → text_of (line ∷ []) ++ rest ≡ (line ++ 10 ∷ []) ++ rest
text_of_one line rest = ap (λ (t : List ℕ). t ++ rest) (append-nil (line ++ 10 ∷ []))

-- one line
pub one_line_reads : {E A : Type 0} (Keeps : E → List ℕ → E → Type 0) (IsEnd : E → Type 0) (read : List ℕ → Option (A × List ℕ)) (line : A → List ℕ) (Is : A → Type 0) (from : E) (to : A → E)
    → Reads read (λ value. line value ++ 10 ∷ []) Is
    → ((value : A) → Is value → Keeps from (line value) (to value))
    → ((text : List ℕ) (next : E) → Keeps from text next → (value : A) × Is value × (text ≡ line value))
    → (IsEnd from → ⊥)
    → ReadsLines Keeps IsEnd (one_line read) (λ value. line value ∷ []) Is from to
unfolding one_line
one_line_reads {E} {A} Keeps IsEnd read line Is from to reads keeps kept goes_on = record {
  again = λ first value rest is. rw (text_of_one (line value) rest, reads.again value rest is) refl;
  takes = λ first bytes value rest e.
      let own = reads.takes bytes value rest (ok_or_ok (read bytes) first (value, rest) e) in
      (own.0 ∙ sym (text_of_one (line value) rest), own.1);
  leads = λ value is. more from (to value) (to value) (line value) [] (keeps value is) (none (to value));
  wrong = λ first bytes n e.
      let none_read = ok_or_err (read bytes) first n e in
      record {
        lines = [];
        rest = bytes;
        here = from;
        front = refl;
        kept = none from;
        breaks = record {
          line = λ text rest next spelled keeps_it.
              let own : (value : A) × Is value × (text ≡ line value) = kept text next keeps_it in
              let again : read bytes ≡ Some (own.0, rest) =
              ap read (spelled ∙ ap (λ (t : List ℕ). t ++ 10 ∷ rest) own.2 ∙ sym (append_assoc (line own.0) (10 ∷ []) rest)) ∙ reads.again own.0 rest own.1 in
              not_both (read bytes) (own.0, rest) none_read.0 again;
          end = λ ends. absurd (goes_on ends);
        };
        number = omega (arith, none_read.1);
      };
}

-- a line that is always the same, and lines behind it
pub below_line_reads : {E A : Type 0} (Keeps : E → List ℕ → E → Type 0) (IsEnd : E → Type 0) (line : List ℕ) (read : LineReader A) (lines : A → List (List ℕ)) (Is : A → Type 0) (from via : E) (to : A → E)
    → Keeps from line via → ((text : List ℕ) (next : E) → Keeps from text next → text ≡ line) → (IsEnd from → ⊥)
    → ReadsLines Keeps IsEnd read lines Is via to
    → ReadsLines Keeps IsEnd (below_line line read) (λ value. line ∷ lines value) Is from to
unfolding below_line
below_line_reads {E} {A} Keeps IsEnd line read lines Is from via to keeps kept goes_on reads = record {
  again = λ first value rest is.
      rw (append_assoc (line ++ 10 ∷ []) (text_of (lines value)) rest, after_text-append (line ++ 10 ∷ []) (text_of (lines value) ++ rest), reads.again (first + 1) value rest is) refl;
  takes = λ first bytes value rest e.
      let one : (x : List ℕ) × (ok_or (after_text (line ++ 10 ∷ []) bytes) first ≡ Ok x) × (read (first + 1) x ≡ Ok (value, rest)) =
      bind_ok (ok_or (after_text (line ++ 10 ∷ []) bytes) first) (λ x. read (first + 1) x) (value, rest) e in
      let own = reads.takes (first + 1) one.0 value rest one.2 in
      (after_text_takes (line ++ 10 ∷ []) bytes one.0 (ok_or_ok _ first one.0 one.1) ∙ ap (λ (t : List ℕ). (line ++ 10 ∷ []) ++ t) own.0 ∙ sym (append_assoc (line ++ 10 ∷ []) (text_of (lines value)) rest), own.1);
  leads = λ value is. more from via (to value) line (lines value) keeps (reads.leads value is);
  wrong = λ first bytes n e. below_line_wrong first bytes n (bind_err (ok_or (after_text (line ++ 10 ∷ []) bytes) first) (λ x. read (first + 1) x) n e);
} where
  below_line_wrong : (first : ℕ) (bytes : List ℕ) (n : ℕ) → BindErr (ok_or (after_text (line ++ 10 ∷ []) bytes) first) (λ x. read (first + 1) x) n → IsFirstWrong Keeps IsEnd from first bytes n
  below_line_wrong first bytes n (in_front e) =
      let none_read = ok_or_err (after_text (line ++ 10 ∷ []) bytes) first n e in
      record {
        lines = [];
        rest = bytes;
        here = from;
        front = refl;
        kept = none from;
        breaks = record {
          line = λ text rest next spelled keeps_it.
              let again : after_text (line ++ 10 ∷ []) bytes ≡ Some rest =
              ap (after_text (line ++ 10 ∷ [])) (spelled ∙ ap (λ (t : List ℕ). t ++ 10 ∷ rest) (kept text next keeps_it) ∙ sym (append_assoc line (10 ∷ []) rest)) ∙ after_text-append (line ++ 10 ∷ []) rest in
              not_both (after_text (line ++ 10 ∷ []) bytes) rest none_read.0 again;
          end = λ ends. absurd (goes_on ends);
        };
        number = omega (arith, none_read.1);
      }
  below_line_wrong first bytes n (behind_it x here e) =
      wrong_behind from via first bytes x (line ∷ []) n (more from via via line [] keeps (none via))
      (after_text_takes (line ++ 10 ∷ []) bytes x (ok_or_ok _ first x here) ∙ sym (text_of_one line x)) (reads.wrong (first + 1) x n e)

abbrev pair_up : {A B : Type 0} → A → B × List ℕ → Result ((A × B) × List ℕ) ℕ
pair_up x y = Ok ((x, y.0), y.1)

-- lines behind lines
pub both_lines_read : {E A B : Type 0} (Keeps : E → List ℕ → E → Type 0) (IsEnd : E → Type 0) (front : LineReader A) (size : ℕ) (back : A → LineReader B)
    (lines : A → List (List ℕ)) (others : A → B → List (List ℕ)) (Is : A → Type 0) (Goes : A → B → Type 0) (from : E) (via : A → E) (to : A → B → E)
    → ReadsLines Keeps IsEnd front lines Is from via → ((a : A) → Is a → length (lines a) ≡ size)
    → ((a : A) → Is a → ReadsLines Keeps IsEnd (back a) (others a) (Goes a) (via a) (to a))
    → ReadsLines Keeps IsEnd (both_lines front size back) (λ pair. lines pair.0 ++ others pair.0 pair.1) (λ pair. Is pair.0 × Goes pair.0 pair.1) from (λ pair. to pair.0 pair.1)
unfolding both_lines
both_lines_read {E} {A} {B} Keeps IsEnd front size back lines others Is Goes from via to reads long on = record {
  again = λ first pair rest is.
      rw (text_of-append (lines pair.0) (others pair.0 pair.1), append_assoc, reads.again first pair.0 (text_of (others pair.0 pair.1) ++ rest) is.0, (on pair.0 is.0).again (first + size) pair.1 rest is.1) refl;
  takes = λ first bytes pair rest e.
      let one : (x : A × List ℕ) × (front first bytes ≡ Ok x) × ((back x.0 (first + size) x.1 >>= λ y. pair_up x.0 y) ≡ Ok (pair, rest)) =
      bind_ok (front first bytes) (λ x. back x.0 (first + size) x.1 >>= λ y. pair_up x.0 y) (pair, rest) e in
      let x : A × List ℕ = one.0 in
      let two : (y : B × List ℕ) × (back x.0 (first + size) x.1 ≡ Ok y) × ((let r : Result ((A × B) × List ℕ) ℕ = Ok ((x.0, y.0), y.1) in r) ≡ Ok (pair, rest)) =
      bind_ok (back x.0 (first + size) x.1) (λ y. pair_up x.0 y) (pair, rest) one.2 in
      let y : B × List ℕ = two.0 in
      let mine = reads.takes first bytes x.0 x.1 one.1 in
      let own = (on x.0 mine.1).takes (first + size) x.1 y.0 y.1 two.1 in
      let text : bytes ≡ text_of (lines x.0 ++ others x.0 y.0) ++ y.1 =
      mine.0 ∙ ap (λ (t : List ℕ). text_of (lines x.0) ++ t) own.0 ∙ sym (append_assoc (text_of (lines x.0)) (text_of (others x.0 y.0)) y.1) ∙ ap (λ (t : List ℕ). t ++ y.1) (sym (text_of-append (lines x.0) (others x.0 y.0))) in
      subst (λ (p : (A × B) × List ℕ). (bytes ≡ text_of (lines p.0.0 ++ others p.0.0 p.0.1) ++ p.1) × (Is p.0.0 × Goes p.0.0 p.0.1)) (ok_is ((x.0, y.0), y.1) (pair, rest) two.2) (text, (mine.1, own.1));
  leads = λ pair is. leads-append from (via pair.0) (to pair.0 pair.1) (lines pair.0) (others pair.0 pair.1) (reads.leads pair.0 is.0) ((on pair.0 is.0).leads pair.1 is.1);
  wrong = λ first bytes n e. both_wrong first bytes n (bind_err (front first bytes) (λ x. back x.0 (first + size) x.1 >>= λ y. pair_up x.0 y) n e);
} where
  last_wrong : (x : A) (n : ℕ) (r : Result (B × List ℕ) ℕ) → (r >>= λ y. pair_up x y) ≡ Err n → r ≡ Err n
  last_wrong x n (Ok y) e = absurd cc
  last_wrong x n (Err m) e = cc

  both_wrong : (first : ℕ) (bytes : List ℕ) (n : ℕ) → BindErr (front first bytes) (λ x. back x.0 (first + size) x.1 >>= λ y. pair_up x.0 y) n → IsFirstWrong Keeps IsEnd from first bytes n
  both_wrong first bytes n (in_front e) = reads.wrong first bytes n e
  both_wrong first bytes n (behind_it x here e) =
      let mine = reads.takes first bytes x.0 x.1 here in
      let same : first + size ≡ first + length (lines x.0) = omega (arith, long x.0 mine.1) in
      wrong_behind from (via x.0) first bytes x.1 (lines x.0) n (reads.leads x.0 mine.1) mine.0
      (subst (λ (m : ℕ). IsFirstWrong Keeps IsEnd (via x.0) m x.1 n) same ((on x.0 mine.1).wrong (first + size) x.1 n (last_wrong x.0 n (back x.0 (first + size) x.1) e)))

abbrev put_in_front : {A : Type 0} → A → List A × List ℕ → Result (List A × List ℕ) ℕ
put_in_front x y = Ok (x ∷ y.0, y.1)

-- parts, each read by what came before it
pub parts_read : {E S A : Type 0} (Keeps : E → List ℕ → E → Type 0) (IsEnd : E → Type 0) (read : S → LineReader A) (after : S → A → S) (size : ℕ)
    (lines : S → A → List (List ℕ)) (Is : S → A → Type 0) (Inside : ℕ → S → Type 0) (expects : ℕ → S → E)
    → ((left : ℕ) (s : S) → Inside (suc left) s → ReadsLines Keeps IsEnd (read s) (lines s) (Is s) (expects (suc left) s) (λ x. expects left (after s x)))
    → ((s : S) (x : A) → Is s x → length (lines s x) ≡ size)
    → ((left : ℕ) (s : S) (x : A) → Inside (suc left) s → Is s x → Inside left (after s x))
    → (count : ℕ) (s : S) → Inside count s
    → ReadsLines Keeps IsEnd (parts_from read after size count s) (lines_along lines after s) (λ items. (length items ≡ count) × HoldsAlong Is after s items) (expects count s) (λ items. expects 0 (after_all after s items))
unfolding parts_from
parts_read {E} {S} {A} Keeps IsEnd read after size lines Is Inside expects reads long stays count s inside = record {
  again = λ first items rest is. again_parts count s first items rest inside is.0 is.1;
  takes = λ first bytes items rest e. takes_parts count s first bytes items rest inside e;
  leads = λ items is. leads_parts count s items inside is.0 is.1;
  wrong = λ first bytes n e. wrong_parts count s first bytes n inside e;
} where
  again_parts : (count : ℕ) (s : S) (first : ℕ) (items : List A) (rest : List ℕ) → Inside count s → length items ≡ count → HoldsAlong Is after s items
      → parts_from read after size count s first (text_of (lines_along lines after s items) ++ rest) ≡ Ok (items, rest)
  again_parts zero s first [] rest inside is holds = refl
  again_parts zero s first (x ∷ items) rest inside is holds = absurd (omega arith)
  again_parts (suc count) s first [] rest inside is holds = absurd (omega arith)
  again_parts (suc count) s first (x ∷ items) rest inside is holds =
      let others = again_parts count (after s x) (first + size) items rest (stays count s x inside holds.0) (omega arith) holds.1 in
      rw (text_of-append (lines s x) (lines_along lines after (after s x) items), append_assoc, (reads count s inside).again first x (text_of (lines_along lines after (after s x) items) ++ rest) holds.0, others) refl

  takes_parts : (count : ℕ) (s : S) (first : ℕ) (bytes : List ℕ) (items : List A) (rest : List ℕ) → Inside count s → parts_from read after size count s first bytes ≡ Ok (items, rest)
      → (bytes ≡ text_of (lines_along lines after s items) ++ rest) × ((length items ≡ count) × HoldsAlong Is after s items)
  takes_parts zero s first bytes items rest inside e =
      subst (λ (p : List A × List ℕ). (bytes ≡ text_of (lines_along lines after s p.0) ++ p.1) × ((length p.0 ≡ 0) × HoldsAlong Is after s p.0)) (ok_is ([], bytes) (items, rest) e) (refl, (refl, tt))
  takes_parts (suc count) s first bytes items rest inside e =
      let one : (x : A × List ℕ) × (read s first bytes ≡ Ok x) × ((parts_from read after size count (after s x.0) (first + size) x.1 >>= λ y. put_in_front x.0 y) ≡ Ok (items, rest)) =
      bind_ok (read s first bytes) (λ x. parts_from read after size count (after s x.0) (first + size) x.1 >>= λ y. put_in_front x.0 y) (items, rest) e in
      let x : A × List ℕ = one.0 in
      let two : (y : List A × List ℕ) × (parts_from read after size count (after s x.0) (first + size) x.1 ≡ Ok y) × (put_in_front x.0 y ≡ Ok (items, rest)) =
      bind_ok (parts_from read after size count (after s x.0) (first + size) x.1) (λ y. put_in_front x.0 y) (items, rest) one.2 in
      let y : List A × List ℕ = two.0 in
      let mine = (reads count s inside).takes first bytes x.0 x.1 one.1 in
      let own = takes_parts count (after s x.0) (first + size) x.1 y.0 y.1 (stays count s x.0 inside mine.1) two.1 in
      let later : List (List ℕ) = lines_along lines after (after s x.0) y.0 in
      let text : bytes ≡ text_of (lines s x.0 ++ later) ++ y.1 =
      mine.0 ∙ ap (λ (t : List ℕ). text_of (lines s x.0) ++ t) own.0 ∙ sym (append_assoc (text_of (lines s x.0)) (text_of later) y.1) ∙ ap (λ (t : List ℕ). t ++ y.1) (sym (text_of-append (lines s x.0) later)) in
      subst (λ (p : List A × List ℕ). (bytes ≡ text_of (lines_along lines after s p.0) ++ p.1) × ((length p.0 ≡ suc count) × HoldsAlong Is after s p.0)) (ok_is (x.0 ∷ y.0, y.1) (items, rest) two.2)
      (text, (ap suc own.1.0, (mine.1, own.1.1)))

  leads_parts : (count : ℕ) (s : S) (items : List A) → Inside count s → length items ≡ count → HoldsAlong Is after s items → Leads Keeps (expects count s) (lines_along lines after s items) (expects 0 (after_all after s items))
  leads_parts zero s [] inside is holds = none (expects 0 s)
  leads_parts zero s (x ∷ items) inside is holds = absurd (omega arith)
  leads_parts (suc count) s [] inside is holds = absurd (omega arith)
  leads_parts (suc count) s (x ∷ items) inside is holds =
      leads-append (expects (suc count) s) (expects count (after s x)) (expects 0 (after_all after (after s x) items)) (lines s x) (lines_along lines after (after s x) items)
      ((reads count s inside).leads x holds.0) (leads_parts count (after s x) items (stays count s x inside holds.0) (omega arith) holds.1)

  last_wrong : (x : A) (n : ℕ) (r : Result (List A × List ℕ) ℕ) → (r >>= λ y. put_in_front x y) ≡ Err n → r ≡ Err n
  last_wrong x n (Ok y) e = absurd cc
  last_wrong x n (Err m) e = cc

  wrong_or_behind : (count : ℕ) (s : S) (first : ℕ) (bytes : List ℕ) (n : ℕ) → Inside (suc count) s
      → ((x : A × List ℕ) → Is s x.0 → parts_from read after size count (after s x.0) (first + size) x.1 ≡ Err n → IsFirstWrong Keeps IsEnd (expects count (after s x.0)) (first + size) x.1 n)
      → BindErr (read s first bytes) (λ x. parts_from read after size count (after s x.0) (first + size) x.1 >>= λ y. put_in_front x.0 y) n → IsFirstWrong Keeps IsEnd (expects (suc count) s) first bytes n
  wrong_or_behind count s first bytes n inside others (in_front e) = (reads count s inside).wrong first bytes n e
  wrong_or_behind count s first bytes n inside others (behind_it x here e) =
      let mine = (reads count s inside).takes first bytes x.0 x.1 here in
      let same : first + size ≡ first + length (lines s x.0) = omega (arith, long s x.0 mine.1) in
      let rest_wrong = others x mine.1 (last_wrong x.0 n (parts_from read after size count (after s x.0) (first + size) x.1) e) in
      wrong_behind (expects (suc count) s) (expects count (after s x.0)) first bytes x.1 (lines s x.0) n ((reads count s inside).leads x.0 mine.1) mine.0
      (subst (λ (m : ℕ). IsFirstWrong Keeps IsEnd (expects count (after s x.0)) m x.1 n) same rest_wrong)

  wrong_parts : (count : ℕ) (s : S) (first : ℕ) (bytes : List ℕ) (n : ℕ) → Inside count s → parts_from read after size count s first bytes ≡ Err n → IsFirstWrong Keeps IsEnd (expects count s) first bytes n
  wrong_parts zero s first bytes n inside e = absurd (ok_is_no_err ([], bytes) n e)
  wrong_parts (suc count) s first bytes n inside e =
      wrong_or_behind count s first bytes n inside (λ x is err. wrong_parts count (after s x.0) (first + size) x.1 n (stays count s x.0 inside is) err) (bind_err (read s first bytes) (λ x. parts_from read after size count (after s x.0) (first + size) x.1 >>= λ y. put_in_front x.0 y) n e)

-- ---- a loop over parts

-- what a loop has read, and what is left to it
abbrev pub with_parts : {A : Type 0} → List A → Result (List A × List ℕ) ℕ → Result (List A × List ℕ) ℕ
with_parts front read = read >>= λ x. Ok (front ++ x.0, x.1)

regroup : {A : Type 0} (front : List A) (x : A) (read : Result (List A × List ℕ) ℕ) → with_parts front (read >>= λ others. put_in_front x others) ≡ with_parts (front ++ x ∷ []) read
regroup front x (Ok others) = simp append_assoc refl
regroup front x (Err n) = refl

-- the loop reads one part more
pub parts_more : {S A : Type 0} (read : S → LineReader A) (after : S → A → S) (size : ℕ) (front : List A) (count place : ℕ) (s : S) (line : ℕ) (bytes : List ℕ) (x : A) (rest : List ℕ) (total : Result (List A × List ℕ) ℕ) → place < count → read s line bytes ≡ Ok (x, rest)
    → with_parts front (parts_from read after size (count - place) s line bytes) ≡ total → with_parts (front ++ x ∷ []) (parts_from read after size (count - (place + 1)) (after s x) (line + size) rest) ≡ total
unfolding parts_from
parts_more read after size front count place s line bytes x rest total inside h so_far =
    let left : count - place ≡ suc (count - (place + 1)) = omega arith in
    let one : with_parts front (parts_from read after size (suc (count - (place + 1))) s line bytes) ≡ with_parts (front ++ x ∷ []) (parts_from read after size (count - (place + 1)) (after s x) (line + size) rest) =
    rw h (regroup front x (parts_from read after size (count - (place + 1)) (after s x) (line + size) rest)) in
    sym one ∙ (rw left at so_far)

-- the loop meets what is no part
pub parts_wrong : {S A : Type 0} (read : S → LineReader A) (after : S → A → S) (size : ℕ) (front : List A) (count place : ℕ) (s : S) (line : ℕ) (bytes : List ℕ) (n : ℕ) (total : Result (List A × List ℕ) ℕ) → place < count → read s line bytes ≡ Err n
    → with_parts front (parts_from read after size (count - place) s line bytes) ≡ total → total ≡ Err n
unfolding parts_from
parts_wrong read after size front count place s line bytes n total inside h so_far =
    let left : count - place ≡ suc (count - (place + 1)) = omega arith in
    let one : with_parts front (parts_from read after size (suc (count - (place + 1))) s line bytes) ≡ Err n = rw h refl in
    sym (rw left at so_far) ∙ one

-- the loop has read all parts
pub parts_all : {S A : Type 0} (read : S → LineReader A) (after : S → A → S) (size : ℕ) (front : List A) (count place : ℕ) (s : S) (line : ℕ) (bytes : List ℕ) (total : Result (List A × List ℕ) ℕ) → count ≤ place
    → with_parts front (parts_from read after size (count - place) s line bytes) ≡ total → total ≡ Ok (front, bytes)
unfolding parts_from
parts_all read after size front count place s line bytes total over so_far =
    let left : count - place ≡ 0 = omega arith in
    let one : with_parts front (parts_from read after size 0 s line bytes) ≡ Ok (front, bytes) = rw (append-nil front) refl in
    sym (rw left at so_far) ∙ one
