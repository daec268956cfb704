-- The numbers of edges by the places that the edges leave.
--   stands_push      what stands in a list with one more number
--   index_none       no edges
--   index_more       one edge more
use Rattle.std.proofs.Common.{◌≡◌, ◌⊎◌, inl, inr, ℕ, zero, suc, ◌+◌, ◌<◌, List, [], ◌∷◌, ◌++◌, length, get_or, take}
use Rattle.std.proofs.Common.{refl, sym, ap, subst, ◌∙◌, arith, replicate}
use Rattle.std.specs.Prelude.{slice_get, slice_set, Some}
use Rattle.std.specs.List.{slice_index_or}
use Rattle.std.proofs.lemmas.List.{take_more, length-set, length-replicate, get_or-set_same, length-take-le}
use Rattle.std.proofs.lemmas.Option.{slice_get_read, get_or_from_slice_get}
use Rattle.pungi_domain.specs.declared.affine_edge.AffineEdge.{AffineEdge}
use Rattle.pungi_links.specs.Ring.{Stands}
use Rattle.pungi_fixpoint.specs.Turns.{IsIndex}
use Rattle.pungi_fixpoint.proofs.Gets.{get_push}

pub stands_push : (x : ℕ) (xs : List ℕ) (y : ℕ) → Stands x (xs ++ y ∷ []) → Stands x xs ⊎ (x ≡ y)
stands_push x [] y h = elim h [ inl e ↦ inr e | inr n ↦ absurd n ]
stands_push x (z ∷ xs) y h = elim h [
  | inl e ↦ inl (inl e)
  | inr s ↦ elim (stands_push x xs y s) [ inl k ↦ inl (inr k) | inr e ↦ inr e ]
]

stands_left : (x : ℕ) (xs : List ℕ) (y : ℕ) → Stands x xs → Stands x (xs ++ y ∷ [])
stands_left x [] y h = absurd h
stands_left x (z ∷ xs) y h = elim h [ inl e ↦ inl e | inr s ↦ inr (stands_left x xs y s) ]

stands_last : (xs : List ℕ) (y : ℕ) → Stands y (xs ++ y ∷ [])
stands_last [] y = inl refl
stands_last (z ∷ xs) y = inr (stands_last xs y)

no_list : (n k : ℕ) → slice_index_or (replicate {A = List ℕ} n []) k [] ≡ []
no_list zero k = refl
no_list (suc n) zero = refl
no_list (suc n) (suc k) = no_list n k

pub index_none : (places : ℕ) → IsIndex [] places (replicate places [])
index_none places = record {
  all = length-replicate places [];
  there = λ i e h. absurd (cc);
  only = λ k i h. absurd (subst (λ l. Stands i l) (no_list places k) h);
}

-- the list of a place after a number was added to that of one
added : (lists : List (List ℕ)) (j k n : ℕ) → j < length lists
    → ((k ≡ j) × (slice_index_or (slice_set lists j (slice_index_or lists j [] ++ n ∷ [])) k []
    ≡ slice_index_or lists k [] ++ n ∷ []))
    ⊎ (slice_index_or (slice_set lists j (slice_index_or lists j [] ++ n ∷ [])) k [] ≡ slice_index_or lists k [])
added [] j k n h = absurd (omega arith)
added (l ∷ lists) zero zero n h = inl (refl, refl)
added (l ∷ lists) zero (suc k) n h = inr refl
added (l ∷ lists) (suc j) zero n h = inr refl
added (l ∷ lists) (suc j) (suc k) n h = elim (added lists j k n (omega arith)) [
  | inl e ↦ inl (ap suc e.0, e.1)
  | inr e ↦ inr e
]

at_place : (lists : List (List ℕ)) (j n : ℕ) → j < length lists
    → slice_index_or (slice_set lists j (slice_index_or lists j [] ++ n ∷ [])) j []
    ≡ slice_index_or lists j [] ++ n ∷ []
at_place lists j n h = get_or-set_same lists j (slice_index_or lists j [] ++ n ∷ []) [] h

kept : (lists : List (List ℕ)) (j k n x : ℕ) → j < length lists → Stands x (slice_index_or lists k [])
    → Stands x (slice_index_or (slice_set lists j (slice_index_or lists j [] ++ n ∷ [])) k [])
kept lists j k n x h s = elim (added lists j k n h) [
  | inl e ↦ subst (Stands x) (sym e.1) (stands_left x (slice_index_or lists k []) n s)
  | inr e ↦ subst (Stands x) (sym e) s
]

push_there : {A : Type 0} (xs : List A) (x d : A) (i : ℕ) → slice_get xs i ≡ Some d
    → slice_get (xs ++ x ∷ []) i ≡ Some d
push_there [] x d i h = absurd (cc)
push_there (y ∷ xs) x d zero h = h
push_there (y ∷ xs) x d (suc i) h = push_there xs x d i h

push_last : {A : Type 0} (xs : List A) (x : A) → slice_get (xs ++ x ∷ []) (length xs) ≡ Some x
push_last [] x = refl
push_last (y ∷ xs) x = push_last xs x

index_push : (es : List AffineEdge) (places : ℕ) (lists : List (List ℕ)) (e : AffineEdge) (n : ℕ) → n ≡ length es
    → e.from < places → IsIndex es places lists
    → IsIndex (es ++ e ∷ []) places (slice_set lists e.from (slice_index_or lists e.from [] ++ n ∷ []))
index_push es places lists e n is lt old =
    let h : e.from < length lists = rw old.all lt in
    record {
      all = length-set lists e.from (slice_index_or lists e.from [] ++ n ∷ []) ∙ old.all;
      there = λ i d g. elim (get_push es e i d g) [
        | inl k ↦ kept lists e.from d.from n i h (old.there i d k)
        | inr k ↦ rw (k.1, k.0 ∙ sym is) (subst (Stands n) (sym (at_place lists e.from n h))
            (stands_last (slice_index_or lists e.from []) n))
      ];
      only = λ k i s. elim (added lists e.from k n h) [
        | inl q ↦ elim (stands_push i (slice_index_or lists k []) n (subst (Stands i) q.1 s)) [
          | inl t ↦ let o = old.only k i t in (o.0, push_there es e o.0 i o.1, o.2)
          | inr t ↦ (e, rw (t ∙ is) (push_last es e), sym q.0)
        ]
        | inr q ↦ let o = old.only k i (subst (Stands i) q s) in (o.0, push_there es e o.0 i o.1, o.2)
      ];
    }

at_any : (ls : List (List ℕ)) (j : ℕ) (l : List ℕ) → j < length ls → l ≡ get_or ls j l → slice_index_or ls j [] ≡ l
at_any ls j l b w = get_or_from_slice_get ls j l [] (slice_get_read ls (length ls) j l refl b w)

index_next : (es : List AffineEdge) (places : ℕ) (lists : List (List ℕ)) (i : ℕ) (e : AffineEdge)
    (old new : List ℕ) → i < length es → e ≡ get_or es i e → e.from < places → old ≡ get_or lists e.from old
    → new ≡ old ++ i ∷ [] → IsIndex (take i es) places lists
    → IsIndex (take (i + 1) es) places (slice_set lists e.from new)
index_next es places lists i e old new lt is within was now h =
    let n = index_push (take i es) places lists e i (sym (length-take-le i es (omega arith))) within h in
    let a : e.from < length lists = rw h.all within in
    let o : slice_index_or lists e.from [] ≡ old = at_any lists e.from old a was in
    let k : slice_index_or lists e.from [] ++ i ∷ [] ≡ new = ap (λ l. l ++ i ∷ []) o ∙ sym now in
    subst (λ l. IsIndex (take (i + 1) es) places (slice_set lists e.from l)) k
    (subst (λ l. IsIndex l places (slice_set lists e.from (slice_index_or lists e.from [] ++ i ∷ [])))
    (ap (λ x. take i es ++ x ∷ []) is ∙ sym (take_more es i e lt)) n)

pub index_more : (es : List AffineEdge) (places : ℕ) (lists : List (List ℕ)) (i : ℕ) (e : AffineEdge)
    (j : ℕ) (old new : List ℕ) → i < length es → e ≡ get_or es i e → e.from < places → e.from ≡ j
    → old ≡ get_or lists j old → new ≡ old ++ i ∷ [] → IsIndex (take i es) places lists
    → IsIndex (take (i + 1) es) places (slice_set lists j new)
index_more es places lists i e j old new lt is within from was now h =
    subst (λ k. IsIndex (take (i + 1) es) places (slice_set lists k new)) from
    (index_next es places lists i e old new lt is within (subst (λ k. old ≡ get_or lists k old) (sym from) was) now h)
