-- What stays linked where a node comes or goes.
use mathlib.Core.Path.{◌≡◌, refl}
use mathlib.Core.Logic.{∥∥₁_elim}
use mathlib.Core.List.{List, [], ◌∷◌, ◌++◌}
use Prim.Native.Nat.{ℕ, zero, suc, ◌+◌, ◌<◌}
use native.Mathlib.Omega.{arith}
use lib.ListN.{length, get_or}
use base.Stored.{Coded-set}
use denote.RawPtr.{Ptr, null_ptr, coded_ptr}
use Rattle.edge_store.specs.inside.Links.{Link, place_of, LeadsForward, EndsFrom, EndsAt, IsChained}

LeadsForward-prop : (h : Ptr) (ls : List Link) → IsProp (LeadsForward h ls)
LeadsForward-prop h [] = λ p q. refl
LeadsForward-prop h (l ∷ ls) = λ p q i. (Coded-set coded_ptr h l.0 p.0 q.0 i, LeadsForward-prop l.1 ls p.1 q.1 i)

EndsFrom-prop : (a : Ptr) (ls : List Link) (t : Ptr) → IsProp (EndsFrom a ls t)
EndsFrom-prop a [] t = Coded-set coded_ptr t a
EndsFrom-prop a (l ∷ ls) t = EndsFrom-prop l.0 ls t

EndsAt-prop : (ls : List Link) (t : Ptr) → IsProp (EndsAt ls t)
EndsAt-prop [] t = λ p q. refl
EndsAt-prop (l ∷ ls) t = EndsFrom-prop l.0 ls t

pub IsChained-had : (h t : Ptr) (ls : List Link) → ∥ IsChained h t ls ∥₁ → IsChained h t ls
IsChained-had h t ls c = ∥∥₁_elim c (λ p q i. (LeadsForward-prop h ls p.0 q.0 i, EndsAt-prop ls t p.1 q.1 i)) (λ p. p)

-- ---- at the front
pub IsChained-tail : (h t : Ptr) (l : Link) (ls : List Link) → IsChained h t (l ∷ ls) → IsChained l.1 t ls
IsChained-tail h t l [] c = (tt, tt)
IsChained-tail h t l (m ∷ ls) c = (c.0.1, c.1)

-- ---- at the back
EndsFrom-last : (a t : Ptr) (ls : List Link) (l : Link) → EndsFrom a (ls ++ l ∷ []) t → t ≡ l.0
EndsFrom-last a t [] l c = c
EndsFrom-last a t (m ∷ ls) l c = EndsFrom-last m.0 t ls l c

pub IsChained-last : (h t : Ptr) (ls : List Link) (l : Link) → IsChained h t (ls ++ l ∷ []) → t ≡ l.0
IsChained-last h t [] l c = c.1
IsChained-last h t (m ∷ ls) l c = EndsFrom-last m.0 t ls l c.1

-- ---- two chains are joined: the last node of the first gets a new `next`
LeadsForward-join : (h p : Ptr) (ls : List Link) (l : Link) (ms : List Link) → LeadsForward h (ls ++ l ∷ []) → LeadsForward p ms → LeadsForward h ((ls ++ (l.0, p) ∷ []) ++ ms)
LeadsForward-join h p [] l ms c d = (c.0, d)
LeadsForward-join h p (k ∷ ls) l ms c d = (c.0, LeadsForward-join k.1 p ls l ms c.1 d)

EndsFrom-join : (a b u : Ptr) (ls : List Link) (m : Link) (ms : List Link) → EndsFrom b (m ∷ ms) u → EndsFrom a (ls ++ m ∷ ms) u
EndsFrom-join a b u [] m ms d = d
EndsFrom-join a b u (k ∷ ls) m ms d = EndsFrom-join k.0 b u ls m ms d

EndsAt-join : (u : Ptr) (ls : List Link) (m : Link) (ms : List Link) → EndsAt (m ∷ ms) u → EndsAt (ls ++ m ∷ ms) u
EndsAt-join u [] m ms d = d
EndsAt-join u (k ∷ ls) m ms d = EndsFrom-join k.0 m.0 u ls m ms d

pub IsChained-join : (h t p u : Ptr) (ls : List Link) (l m : Link) (ms : List Link) → IsChained h t (ls ++ l ∷ []) → IsChained p u (m ∷ ms)
    → IsChained h u ((ls ++ (l.0, p) ∷ []) ++ m ∷ ms)
IsChained-join h t p u ls l m ms c d = (LeadsForward-join h p ls l (m ∷ ms) c.0 d.0, EndsAt-join u (ls ++ (l.0, p) ∷ []) m ms d.1)

-- ---- by index
abbrev pub link_at : List Link → ℕ → Link
link_at ls i = get_or ls i (null_ptr, null_ptr)

pub place_of-is : (ls : List Link) (i : ℕ) → place_of ls i ≡ (link_at ls i).0
unfolding place_of
place_of-is ls i = refl

pub head_is : (h : Ptr) (ls : List Link) → 0 < length ls → LeadsForward h ls → h ≡ (link_at ls 0).0
head_is h [] p c = absurd (omega arith)
head_is h (l ∷ ls) p c = c.0

pub next_is : (h : Ptr) (ls : List Link) (i : ℕ) → i + 1 < length ls → LeadsForward h ls → (link_at ls i).1 ≡ (link_at ls (suc i)).0
next_is h [] i p c = absurd (omega arith)
next_is h (l ∷ ls) zero p c = head_is l.1 ls (omega arith) c.1
next_is h (l ∷ ls) (suc i) p c = next_is l.1 ls i (omega arith) c.1
