-- How walks are cut and joined, and that a window's word is found between its front and its back.
use Rattle.std.proofs.Common.{◌≡◌, ℕ, ◌+◌, ◌<◌, ◌^◌, ◌↔◌, List, [], ◌∷◌, ◌++◌, length, take, drop, get_or, refl, sym, ap, ◌∙◌, subst, arith}
use Rattle.std.proofs.Math.Seq.{take-append_seam, drop-append_seam, get_or-append_seam}
use Rattle.std.proofs.lemmas.List.{get_or-drop, take-append-drop}
use Rattle.std.proofs.lemmas.List.Elements.{All-head, All-tail, All-nil, All-append, All-take, All-drop}
use Rattle.symbol_base.specs.declared.Block.{Block}
use Rattle.code_spec.specs.Output.{row_at, state_after, output}
use Rattle.code_spec.specs.Code.{CodeData, IsCode, IsState, IsDataWord, IsDataWords}
use Rattle.code_spec.specs.Decoder.{IsFound}
use Rattle.code_spec.specs.Walks.{IsArc, IsReached, IsReadable, IsBetween}
use Rattle.code_spec.proofs.OutputLaws.{output_from-append, state_after-append, length-output_from}
use Rattle.code_spec.proofs.OutputParts.{output_from-take, output_from-drop}
use Rattle.code_spec.proofs.StepLaws.{words_more, after_inside}

-- no blocks can be read from anywhere
pub readable_none : (c : CodeData) (state : ℕ) → IsReadable c [] state
readable_none c state = record { words = []; below = All-nil (IsDataWord c); writes = refl }

-- an arc in front of what can be read
pub readable_more : (c : CodeData) (block : Block) (blocks : List Block) (state next : ℕ) → IsArc c state block next → IsReadable c blocks next → IsReadable c (block ∷ blocks) state
readable_more c block blocks state next arc readable = record {
  words = arc.word ∷ readable.words;
  below = words_more c arc.word readable.words arc.below readable.below;
  writes =
      ap (λ (first : Block). first ∷ output c (row_at c.rows state arc.word).to readable.words) arc.writes
      ∙ ap (λ (s : ℕ). block ∷ output c s readable.words) arc.leads
      ∙ ap (λ (rest : List Block). block ∷ rest) readable.writes;
}

-- the first word of what writes a block and others
first_word : (c : CodeData) (block : Block) (blocks : List Block) (state : ℕ) (words : List ℕ) → IsDataWords c words → output c state words ≡ block ∷ blocks
    → (word : ℕ) × ((rest : List ℕ) × ((words ≡ word ∷ rest) × ((word < 2 ^ c.p) × (((row_at c.rows state word).block ≡ block) × (IsDataWords c rest × (output c (row_at c.rows state word).to rest ≡ blocks))))))
first_word c block blocks state [] below writes = absurd (cc)
first_word c block blocks state (word ∷ rest) below writes = (word, (rest, (refl, (All-head (IsDataWord c) word rest below, (cc, (All-tail (IsDataWord c) word rest below, cc))))))

-- what can be read begins with an arc
pub readable_first : (c : CodeData) (block : Block) (blocks : List Block) (state : ℕ) → IsReadable c (block ∷ blocks) state → (next : ℕ) × (IsArc c state block next × IsReadable c blocks next)
readable_first c block blocks state readable =
    let first = first_word c block blocks state readable.words readable.below readable.writes in
    let word = first.0 in
    let rest = first.1.0 in
    let facts = first.1.1.1 in
    ((row_at c.rows state word).to, (record { word = word; below = facts.0; writes = facts.1.0; leads = refl }, record { words = rest; below = facts.1.1.0; writes = facts.1.1.1 }))

-- no blocks lead from each state to itself
no_words : (c : CodeData) (from state : ℕ) (words : List ℕ) → output c from words ≡ [] → state_after c.rows from words ≡ state → from ≡ state
no_words c from state [] writes leads = leads
no_words c from state (word ∷ words) writes leads = absurd (cc)

pub reached_none : (c : CodeData) (state : ℕ) → IsReached c [] state ↔ IsState c state
reached_none c state = (
  λ reached. subst (λ s. IsState c s) (no_words c reached.from state reached.words reached.writes reached.leads) reached.inside,
  λ inside. record { from = state; words = []; inside = inside; below = All-nil (IsDataWord c); writes = refl; leads = refl },
)

-- where blocks lead is a state
pub reached_inside : (c : CodeData) (blocks : List Block) (state : ℕ) → IsCode c → IsReached c blocks state → IsState c state
reached_inside c blocks state code reached = subst (λ s. IsState c s) reached.leads (after_inside c reached.from reached.words code reached.inside reached.below)

-- an arc behind blocks
pub reached_more : (c : CodeData) (blocks : List Block) (block : Block) (state next : ℕ) → IsReached c blocks state → IsArc c state block next → IsReached c (blocks ++ block ∷ []) next
reached_more c blocks block state next reached arc =
    let one : List ℕ = arc.word ∷ [] in
    let last : output c (state_after c.rows reached.from reached.words) one ≡ block ∷ [] =
    ap (λ (s : ℕ). output c s one) reached.leads ∙ ap (λ (b : Block). b ∷ []) arc.writes in
    record {
      from = reached.from;
      words = reached.words ++ one;
      inside = reached.inside;
      below = All-append (IsDataWord c) reached.words one reached.below (words_more c arc.word [] arc.below (All-nil (IsDataWord c)));
      writes =
          output_from-append c.rows reached.from reached.words one
          ∙ ap (λ (bs : List Block). bs ++ output c (state_after c.rows reached.from reached.words) one) reached.writes
          ∙ ap (λ (bs : List Block). blocks ++ bs) last;
      leads = state_after-append c.rows reached.from reached.words one ∙ ap (λ (s : ℕ). state_after c.rows s one) reached.leads ∙ arc.leads;
    }

-- what writes two parts writes each by a part of its words
front_writes : (c : CodeData) (from : ℕ) (words : List ℕ) (front back : List Block) → output c from words ≡ front ++ back → output c from (take (length front) words) ≡ front
front_writes c from words front back writes =
    sym (output_from-take c.rows from words (length front)) ∙ ap (λ (bs : List Block). take (length front) bs) writes ∙ take-append_seam front back

back_writes : (c : CodeData) (from : ℕ) (words : List ℕ) (front back : List Block) → output c from words ≡ front ++ back
    → output c (state_after c.rows from (take (length front) words)) (drop (length front) words) ≡ back
back_writes c from words front back writes =
    sym (output_from-drop c.rows from words (length front)) ∙ ap (λ (bs : List Block). drop (length front) bs) writes ∙ drop-append_seam front back

-- the front of a walk
front_reached : (c : CodeData) (from : ℕ) (words : List ℕ) (front back : List Block) → IsState c from → IsDataWords c words → output c from words ≡ front ++ back
    → IsReached c front (state_after c.rows from (take (length front) words))
front_reached c from words front back inside below writes = record {
  from = from;
  words = take (length front) words;
  inside = inside;
  below = All-take (IsDataWord c) (length front) words below;
  writes = front_writes c from words front back writes;
  leads = refl;
}

-- the last block of those that lead to a state is an arc's
pub reached_last : (c : CodeData) (blocks : List Block) (block : Block) (next : ℕ) → IsReached c (blocks ++ block ∷ []) next → (state : ℕ) × (IsReached c blocks state × IsArc c state block next)
reached_last c blocks block next reached =
    let n = length blocks in
    let via : ℕ = state_after c.rows reached.from (take n reached.words) in
    let last = back_writes c reached.from reached.words blocks (block ∷ []) reached.writes in
    let below : IsDataWords c (drop n reached.words) = All-drop (IsDataWord c) n reached.words reached.below in
    let first = first_word c block [] via (drop n reached.words) below last in
    let word = first.0 in
    let facts = first.1.1.1 in
    let end : state_after c.rows via (drop n reached.words) ≡ next =
    sym (state_after-append c.rows reached.from (take n reached.words) (drop n reached.words)) ∙ ap (λ (ws : List ℕ). state_after c.rows reached.from ws) (take-append-drop n reached.words) ∙ reached.leads in
    let leads : state_after c.rows (row_at c.rows via word).to first.1.0 ≡ next =
    ap (λ (ws : List ℕ). state_after c.rows via ws) (sym first.1.1.0) ∙ end in (
      via,
      (
        front_reached c reached.from reached.words blocks (block ∷ []) reached.inside reached.below reached.writes,
        record { word = word; below = facts.0; writes = facts.1.0; leads = no_words c (row_at c.rows via word).to next first.1.0 facts.1.1.1 leads },
      ),
    )

-- A word that a window can have is between its front and its back.
pub found_between : (c : CodeData) (front : List Block) (block : Block) (back : List Block) (word : ℕ) → length front ≡ c.past
    → IsFound c (front ++ (block ∷ back)) word → IsBetween c front block back word
found_between c front block back word long found =
    let n = length front in
    let state : ℕ = state_after c.rows found.state (take n found.words) in
    let behind = back_writes c found.state found.words front (block ∷ back) found.writes in
    let below : IsDataWords c (drop n found.words) = All-drop (IsDataWord c) n found.words found.below in
    let first = first_word c block back state (drop n found.words) below behind in
    let facts = first.1.1.1 in
    let place : n + 0 ≡ c.past = omega (arith, long) in
    let is : first.0 ≡ word =
    ap (λ (ws : List ℕ). get_or ws 0 0) (sym first.1.1.0) ∙ get_or-drop n found.words 0 0 ∙ ap (λ (i : ℕ). get_or found.words i 0) place ∙ found.here in
    let P : ℕ → Type 0 = λ w. IsBetween c front block back w in
    subst P is (record {
      state = state;
      reached = front_reached c found.state found.words front (block ∷ back) found.inside found.below found.writes;
      below = facts.0;
      writes = facts.1.0;
      readable = record { words = first.1.0; below = facts.1.1.0; writes = facts.1.1.1 };
    })

-- and each word between them is one that the window can have
pub between_found : (c : CodeData) (front : List Block) (block : Block) (back : List Block) (word : ℕ) → length front ≡ c.past
    → IsBetween c front block back word → IsFound c (front ++ (block ∷ back)) word
between_found c front block back word long between =
    let before = between.reached in
    let behind = between.readable in
    let rest : List ℕ = word ∷ behind.words in
    let count : length before.words ≡ c.past = sym (length-output_from c.rows before.from before.words) ∙ ap (λ (bs : List Block). length bs) before.writes ∙ long in
    let tail : output c (state_after c.rows before.from before.words) rest ≡ block ∷ back =
    ap (λ (s : ℕ). output c s rest) before.leads
    ∙ ap (λ (b : Block). b ∷ output c (row_at c.rows between.state word).to behind.words) between.writes
    ∙ ap (λ (bs : List Block). block ∷ bs) behind.writes in
    record {
      state = before.from;
      words = before.words ++ rest;
      inside = before.inside;
      below = All-append (IsDataWord c) before.words rest before.below (words_more c word behind.words between.below behind.below);
      writes =
          output_from-append c.rows before.from before.words rest
          ∙ ap (λ (bs : List Block). bs ++ output c (state_after c.rows before.from before.words) rest) before.writes
          ∙ ap (λ (bs : List Block). front ++ bs) tail;
      here = subst (λ n. get_or (before.words ++ rest) n 0 ≡ word) count (get_or-append_seam before.words word behind.words 0);
    }
