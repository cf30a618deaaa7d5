-- A cover stays one where its edges are told in other words.
use Rattle.std.proofs.Common.{◌↔◌, ℕ, inl, inr, List}
use Rattle.label_graphs.specs.Cover.{TellsApart, IsCover}
use Rattle.symbol_base.specs.Walk.{IsWalk}
use Rattle.symbol_base.proofs.Walks.{walk-told}

walk_told :
    (e f : ℕ → ℕ → ℕ → Type 0) → ((u s v : ℕ) → e u s v → f u s v) → (w : List ℕ) (u v : ℕ) → IsWalk e u w v
    → IsWalk f u w v
walk_told e f same w u v walk = walk-told e f w u v same walk

apart_told :
    (e f : ℕ → ℕ → ℕ → Type 0) → ((u s v : ℕ) → e u s v → f u s v) → ((u s v : ℕ) → f u s v → e u s v) → (u v : ℕ)
    (w : List ℕ) → TellsApart e u v w → TellsApart f u v w
apart_told e f on back u v w (inl told) =
    inl ((told.0.0, walk_told e f on w u told.0.0 told.0.1), λ read. told.1 (read.0, walk_told f e back w v read.0 read.1))
apart_told e f on back u v w (inr told) =
    inr (λ read. told.0 (read.0, walk_told f e back w u read.0 read.1), (told.1.0, walk_told e f on w v told.1.0 told.1.1))

pub cover-edges :
    (W : List ℕ → Type 0) (n : ℕ) (e f : ℕ → ℕ → ℕ → Type 0) → IsCover W n e → ((u s v : ℕ) → e u s v ↔ f u s v)
    → IsCover W n f
cover-edges W n e f cover same =
    let on = λ (u s v : ℕ). (same u s v).0 in
    let back = λ (u s v : ℕ). (same u s v).1 in
    record {
      some = cover.some;
      inside = λ u s v edge. cover.inside u s v (back u s v edge);
      single = λ u s v w one two. cover.single u s v w (back u s v one) (back u s w two);
      words = λ w. (
        λ word. let read = (cover.words w).0 word in (read.0, walk_told e f on w 0 read.0 read.1),
        λ read. (cover.words w).1 (read.0, walk_told f e back w 0 read.0 read.1),
      );
      reached = λ v v_in. let way = cover.reached v v_in in (way.0, walk_told e f on way.0 0 v way.1);
      apart = λ u v less v_in. let told = cover.apart u v less v_in in (told.0, apart_told e f on back u v told.0 told.1);
      order = λ u v less v_in y walk.
          let low = cover.order u v less v_in y (walk_told f e back y 0 v walk) in
          (low.0, walk_told e f on low.0 0 u low.1, low.2);
    }

-- and where its words are
pub cover-words :
    (V W : List ℕ → Type 0) (n : ℕ) (e : ℕ → ℕ → ℕ → Type 0) → IsCover V n e → ((w : List ℕ) → V w ↔ W w) → IsCover W n e
cover-words V W n e cover same = record {
  some = cover.some;
  inside = cover.inside;
  single = cover.single;
  words = λ w. ((λ word. (cover.words w).0 ((same w).1 word)), (λ read. (same w).0 ((cover.words w).1 read)));
  reached = cover.reached;
  apart = cover.apart;
  order = cover.order;
}
