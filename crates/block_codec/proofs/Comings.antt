-- One block more that comes to a decoder.
use Rattle.std.proofs.Common.{◌≡◌, ℕ, ◌+◌, ◌-◌, ◌<◌, ◌≤◌, ⊎_elim, List, [], ◌∷◌, ◌++◌, length, get_or, set, take, drop, replicate, min, sym, ap, ◌∙◌, subst, append_assoc, arith, length-set}
use Rattle.std.proofs.Math.Seq.{drop-append-add}
use Rattle.std.proofs.lemmas.Bool.{cases_eq}
use Rattle.std.proofs.lemmas.List.{ext_get_or, get_or-drop, get_or-set_same, get_or-set_other, get_or_append_left, get_or_push, length-append, length-drop, length-replicate, take-append-le, take_all, drop-append-le, drop-drop}
use Rattle.symbol_base.specs.declared.Block.{Block}
use Rattle.code_spec.specs.Code.{CodeData}
use Rattle.code_spec.specs.Decoder.{window_length, IsDecoded}
use Rattle.block_codec.specs.Decoding.{block_of, last_blocks}

-- each block but the first moved by one place, and one more at the end
pub moved_whole : {A : Type 0} (none : A) (old now : List A) (i : ℕ) (item : A) → 0 < length old → length now ≡ length old → length old - 1 ≤ i
    → ((k : ℕ) → k < i → get_or now k none ≡ get_or old (k + 1) none) → set now (length old - 1) item ≡ drop 1 old ++ item ∷ []
moved_whole none old now i item some count end moved =
    let last = length old - 1 in
    let left : length (set now last item) ≡ length old = length-set now last item ∙ count in
    let short : length (drop 1 old) ≡ last = length-drop 1 old in
    let right : length (drop 1 old ++ item ∷ []) ≡ length old = omega (arith, length-append (drop 1 old) (item ∷ []), short, some) in
    ext_get_or none (set now last item) (drop 1 old ++ item ∷ []) (left ∙ sym right)
    (λ k inside.
    ⊎_elim
    (λ (here : k ≡ last).
    subst (λ (n : ℕ). get_or (set now last item) n none ≡ get_or (drop 1 old ++ item ∷ []) n none) (sym here)
    (get_or-set_same now last item none (omega (arith, some, count)) ∙ sym (get_or_push (drop 1 old) item none last short)))
    (λ (there : k ≡ last → ⊥).
    let before : k < last = omega (arith, inside, left, there) in
    let next : k + 1 ≡ 1 + k = omega arith in
    get_or-set_other now last k item none there ∙ moved k (omega (arith, before, end)) ∙ ap (λ (n : ℕ). get_or old n none) next ∙ sym (get_or-drop 1 old k none)
    ∙ sym (get_or_append_left (drop 1 old) (item ∷ []) none k (omega (arith, before, short))))
    (cases_eq k last))

-- the window and the count of a decoder to which these blocks have come
pub record HoldsLast (c : CodeData) (window : List Block) (count : ℕ) (came : List Block) : Type 0 where
  pub last : window ≡ last_blocks (window_length c) came
  pub counted : count ≡ min (window_length c) (length came)

pub came_more : (c : CodeData) (old now came : List Block) (count more : ℕ) (block : Block) → now ≡ drop 1 old ++ block ∷ [] → HoldsLast c old count came → more ≡ min (window_length c) (count + 1)
    → HoldsLast c now more (came ++ block ∷ [])
came_more c old now came count more block moved before counted =
    let zeros : List Block = replicate (window_length c) (block_of 0) in
    let n = length came in
    let longer : n + 1 ≡ length (came ++ block ∷ []) = omega (arith, length-append came (block ∷ [])) in
    let fits : n + 1 ≤ length (zeros ++ came) = omega (arith, length-append zeros came, length-replicate {A = Block} (window_length c) (block_of 0)) in
    record {
      last =
          moved
          ∙ ap (λ (bs : List Block). drop 1 bs ++ block ∷ []) before.last
          ∙ ap (λ (bs : List Block). bs ++ block ∷ []) (drop-drop 1 n (zeros ++ came))
          ∙ sym (drop-append-le (n + 1) (zeros ++ came) (block ∷ []) fits)
          ∙ ap (λ (bs : List Block). drop (n + 1) bs) (append_assoc zeros came (block ∷ []))
          ∙ ap (λ (m : ℕ). drop m (zeros ++ (came ++ block ∷ []))) longer;
      counted = omega (arith, counted, before.counted, longer);
    }

-- where as many have come as a window has, the window is the last of them
pub window_came : (c : CodeData) (window came : List Block) (count : ℕ) → HoldsLast c window count came → window_length c ≤ length came → window ≡ drop (length came - window_length c) came
window_came c window came count has long =
    let zeros : List Block = replicate (window_length c) (block_of 0) in
    let whole : length came ≡ length zeros + (length came - window_length c) = omega (arith, long, length-replicate {A = Block} (window_length c) (block_of 0)) in
    has.last ∙ ap (λ (m : ℕ). drop m (zeros ++ came)) whole ∙ drop-append-add zeros came (length came - window_length c)

pub answer_came : (c : CodeData) (window came : List Block) (count word : ℕ) → HoldsLast c window count came → window_length c ≤ count → IsDecoded c window word
    → (window_length c ≤ length came) × IsDecoded c (drop (length came - window_length c) came) word
answer_came c window came count word has full answer =
    let long : window_length c ≤ length came = omega (arith, full, has.counted) in
    (long, subst (λ (bs : List Block). IsDecoded c bs word) (window_came c window came count has long) answer)

-- a Vec after its slice was moved
pub written_back : (len : ℕ) (old new : List Block) (block : Block) → len ≡ length old → 0 < length old → new ≡ drop 1 old ++ block ∷ [] → take len (new ++ drop (length new) old) ≡ drop 1 old ++ block ∷ []
written_back len old new block is some moved =
    let count : length new ≡ length old = ap (λ (bs : List Block). length bs) moved ∙ omega (arith, length-append (drop 1 old) (block ∷ []), length-drop 1 old, some) in
    take-append-le len new (drop (length new) old) (omega (arith, is, count)) ∙ take_all len new (omega (arith, is, count)) ∙ moved
