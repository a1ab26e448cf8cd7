-- The nodes of a run stay linked when a node is added at its end or taken off its front.
use Rattle.std.proofs.Common.{◌≡◌, ◌<◌, List, [], ◌∷◌, ◌++◌, length, refl, ap, arith}
use mathlib.Core.Logic.{∥∥₁_elim}
use base.Stored.{Coded-set}
use denote.RawPtr.{Ptr, coded_ptr}
use Rattle.wf_frame.specs.Frames.{FrameValue}
use Rattle.wf_queue_parts.specs.Links.{Placed, LeadsTo, EndsAfter, ChainEndsAt, IsLinked, LeadsOn, frames_of}

LeadsTo-prop : (h : Ptr) (ns : List Placed) → IsProp (LeadsTo h ns)
LeadsTo-prop h [] = λ p q. refl
LeadsTo-prop h (n ∷ ns) = λ p q i. (Coded-set coded_ptr h n.0 p.0 q.0 i, LeadsTo-prop n.1.next ns p.1 q.1 i)

EndsAfter-prop : (a : Ptr) (ns : List Placed) (t : Ptr) → IsProp (EndsAfter a ns t)
EndsAfter-prop a [] t = Coded-set coded_ptr t a
EndsAfter-prop a (n ∷ ns) t = EndsAfter-prop n.0 ns t

EndsAt-prop : (ns : List Placed) (t : Ptr) → IsProp (ChainEndsAt ns t)
EndsAt-prop [] t = λ p q. refl
EndsAt-prop (n ∷ ns) t = EndsAfter-prop n.0 ns t

pub linked_had : (h t : Ptr) (ns : List Placed) → ∥ IsLinked h t ns ∥₁ → IsLinked h t ns
linked_had h t ns c = ∥∥₁_elim c (λ p q i. (LeadsTo-prop h ns p.0 q.0 i, EndsAt-prop ns t p.1 q.1 i)) (λ p. p)

-- the rest, once the first node is gone
pub linked_rest : (h t : Ptr) (n : Placed) (ns : List Placed) → IsLinked h t (n ∷ ns) → IsLinked n.1.next t ns
linked_rest h t n [] c = (tt, tt)
linked_rest h t n (m ∷ ns) c = (c.0.1, c.1)

-- the first node of a run that leads on
pub leads : (ns : List Placed) (next : Ptr) → LeadsOn ns next → (m : Placed) × (ms : List Placed) ×
    (ns ≡ m ∷ ms) × (next ≡ m.1.next)
leads [] next s = absurd s
leads (m ∷ ms) next s = (m, ms, refl, s)

-- two runs are joined: the last node of the first gets a new `next`
abbrev pub leading : Placed → Ptr → Placed
leading m q = (m.0, record m.1 { next = q })

pub uncons : (ns : List Placed) → 0 < length ns → (m : Placed) × (ms : List Placed) × (ns ≡ m ∷ ms)
uncons [] p = absurd (omega arith)
uncons (m ∷ ms) p = (m, ms, refl)

last_of : (n : Placed) (ns : List Placed) → (ms : List Placed) × (m : Placed) × (n ∷ ns ≡ ms ++ m ∷ [])
last_of n [] = ([], n, refl)
last_of n (k ∷ ns) = let on = last_of k ns in (n ∷ on.0, on.1, ap (λ (l : List Placed). n ∷ l) on.2)

pub unsnoc : (ns : List Placed) → 0 < length ns → (ms : List Placed) × (m : Placed) × (ns ≡ ms ++ m ∷ [])
unsnoc [] p = absurd (omega arith)
unsnoc (n ∷ ns) p = last_of n ns

LeadsTo-join : (h q : Ptr) (ns : List Placed) (m : Placed) (ks : List Placed) → LeadsTo h (ns ++ m ∷ []) →
    LeadsTo q ks → LeadsTo h (ns ++ leading m q ∷ ks)
LeadsTo-join h q [] m ks c d = (c.0, d)
LeadsTo-join h q (n ∷ ns) m ks c d = (c.0, LeadsTo-join n.1.next q ns m ks c.1 d)

EndsAfter-join : (a t : Ptr) (ns : List Placed) (k : Placed) (ks : List Placed) → EndsAfter k.0 ks t →
    EndsAfter a (ns ++ k ∷ ks) t
EndsAfter-join a t [] k ks d = d
EndsAfter-join a t (n ∷ ns) k ks d = EndsAfter-join n.0 t ns k ks d

EndsAt-join : (t : Ptr) (ns : List Placed) (m k : Placed) (ks : List Placed) → EndsAfter k.0 ks t →
    ChainEndsAt (ns ++ m ∷ k ∷ ks) t
EndsAt-join t [] m k ks d = d
EndsAt-join t (n ∷ ns) m k ks d = EndsAfter-join n.0 t ns m (k ∷ ks) d

EndsAfter-last : (a t : Ptr) (ns : List Placed) (m : Placed) → EndsAfter a (ns ++ m ∷ []) t → t ≡ m.0
EndsAfter-last a t [] m c = c
EndsAfter-last a t (n ∷ ns) m c = EndsAfter-last n.0 t ns m c

pub linked_last : (h t : Ptr) (ns : List Placed) (m : Placed) → IsLinked h t (ns ++ m ∷ []) → t ≡ m.0
linked_last h t [] m c = c.1
linked_last h t (n ∷ ns) m c = EndsAfter-last n.0 t ns m c.1

pub linked_join : (h t q u : Ptr) (ns : List Placed) (m k : Placed) (ks : List Placed) →
    IsLinked h t (ns ++ m ∷ []) → IsLinked q u (k ∷ ks) → IsLinked h u (ns ++ leading m q ∷ k ∷ ks)
linked_join h t q u ns m k ks c d = (
  LeadsTo-join h q ns m (k ∷ ks) c.0 d.0,
  EndsAt-join u ns (leading m q) k ks d.1,
)

pub frames_join : (q : Ptr) (ns : List Placed) (m : Placed) (ks : List Placed) →
    frames_of (ns ++ leading m q ∷ ks) ≡ frames_of (ns ++ m ∷ []) ++ frames_of ks
frames_join q [] m ks = refl
frames_join q (n ∷ ns) m ks = ap (λ (l : List FrameValue). n.1.frame ∷ l) (frames_join q ns m ks)
