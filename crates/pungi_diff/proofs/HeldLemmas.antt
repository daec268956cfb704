-- One more constraint in its chain.
use Rattle.std.proofs.Common.{◌≡◌, ◌∙◌, ℕ, ◌+◌, ◌<◌, ◌≤◌, List, [], ◌∷◌, ◌++◌, length, Option, None, Some}
use Rattle.std.proofs.Common.{slice_index_or, slice_set, refl, sym, arith, inl, inr, length-append, length-set}
use Rattle.std.proofs.Common.{get_or-set_other, get_or-set_same}
use Rattle.std.proofs.lemmas.Bool.{cases_eq}
use Rattle.std.proofs.lemmas.List.{get_or_append_left}
use Rattle.std.proofs.lemmas.List.Elements.{All-push}
use Rattle.std.proofs.Math.Seq.{get_or-append_seam}
use Rattle.pungi_diff.specs.declared.constraint.Constraint.{Constraint}
use Rattle.pungi_diff.specs.declared.constraint.TheConstants.{NO_CONSTRAINT}
use Rattle.pungi_diff.specs.Held.{IsLatest, Linked, nth}

nth_front : (list : List Constraint) (new : Constraint) (k : ℕ) → k < length list
    → nth (list ++ new ∷ []) k ≡ nth list k
nth_front list new k lt = get_or_append_left list (new ∷ []) NO_CONSTRAINT k lt

nth_new : (list : List Constraint) (new : Constraint) → nth (list ++ new ∷ []) (length list) ≡ new
nth_new list new = get_or-append_seam list new [] NO_CONSTRAINT

-- the latest among old ones
latest_front : (list : List Constraint) (new : Constraint) (y m : ℕ) (o : Option ℕ) → m ≤ length list
    → IsLatest list y m o → IsLatest (list ++ new ∷ []) y m o
latest_front list new y m None le h = λ j lt is. h j lt (sym (ap_y j (omega (arith, lt, le))) ∙ is)
  where
    ap_y : (j : ℕ) → j < length list → (nth (list ++ new ∷ []) j).y ≡ (nth list j).y
    ap_y j lt = rw (nth_front list new j lt) refl
latest_front list new y m (Some k) le h = (
  h.0,
  ap_y k (let a = h.0 in omega (arith, a, le)) ∙ h.1,
  λ j gt lt is. h.2 j gt lt (sym (ap_y j (omega (arith, lt, le))) ∙ is),
)
  where
    ap_y : (j : ℕ) → j < length list → (nth (list ++ new ∷ []) j).y ≡ (nth list j).y
    ap_y j lt = rw (nth_front list new j lt) refl

-- a new one on another node
latest_past : (list : List Constraint) (new : Constraint) (y : ℕ) (o : Option ℕ) → (new.y ≡ y → ⊥)
    → IsLatest (list ++ new ∷ []) y (length list) o → IsLatest (list ++ new ∷ []) y (length list + 1) o
latest_past list new y None ne h = λ j lt is. elim (cases_eq j (length list)) [
  | inl e ↦ ne (sym (rw (e, nth_new list new) refl) ∙ is)
  | inr other ↦ h j (let n : j ≡ length list → ⊥ = other in omega (arith, n, lt)) is
]
latest_past list new y (Some k) ne h = (
  (let a = h.0 in omega (arith, a)),
  h.1,
  λ j gt lt is. elim (cases_eq j (length list)) [
    | inl e ↦ ne (sym (rw (e, nth_new list new) refl) ∙ is)
    | inr other ↦ h.2 j gt (let n : j ≡ length list → ⊥ = other in omega (arith, n, lt)) is
  ],
)

-- a new one is itself the latest on its node
latest_new : (list : List Constraint) (new : Constraint)
    → IsLatest (list ++ new ∷ []) new.y (length list + 1) (Some (length list))
latest_new list new = (omega arith, rw (nth_new list new) refl, λ j gt lt is. absurd (omega (arith, gt, lt)))

pub linked_push : (room : ℕ) (list : List Constraint) (list_room : ℕ) (latest earlier : List (Option ℕ))
    (earlier_room : ℕ) (new : Constraint) (before : Option ℕ)
    → Linked room list list_room latest earlier earlier_room → length list < room → new.y < length latest
    → before ≡ slice_index_or latest new.y None
    → Linked room (list ++ new ∷ []) list_room (slice_set latest new.y (Some (length list)))
    (earlier ++ before ∷ []) earlier_room
linked_push room list list_room latest earlier earlier_room new before l lt y_in is = record {
  few = l.few;
  holds = rw (length-append list (new ∷ [])) (omega (arith, lt));
  list_fits = l.list_fits;
  earlier_fits = l.earlier_fits;
  each = rw (length-append list (new ∷ []), length-append earlier (before ∷ [])) (let e = l.each in omega (arith, e));
  within = rw (length-set latest new.y (Some (length list))) (All-push (λ k. k.y < length latest) list new l.within
      y_in);
  by_node = λ u u_lt. rw (length-append list (new ∷ [])) (elim (cases_eq u new.y) [
    | inl e ↦ rw (e, get_or-set_same latest new.y (Some (length list)) None y_in) (latest_new list new)
    | inr ne ↦ rw (get_or-set_other latest new.y u (Some (length list)) None ne)
        (latest_past list new u (slice_index_or latest u None) (λ e. ne (sym e))
        (latest_front list new u (length list) (slice_index_or latest u None) (omega arith)
        (l.by_node u (let e = length-set latest new.y (Some (length list)) in omega (arith, e, u_lt)))))
  ]);
  by_number = λ k k_lt. elim (cases_eq k (length list)) [
    | inl e ↦ rw (e, nth_new list new, last) (latest_front list new new.y (length list)
        (slice_index_or latest new.y None) (omega arith) (l.by_node new.y y_in))
    | inr ne ↦
        let k_in : k < length list = (let e = length-append list (new ∷ []) in let n : k ≡ length list
        → ⊥ = ne in omega (arith, e, n, k_lt)) in
        rw (nth_front list new k k_in, front k k_in) (latest_front list new (nth list k).y k
        (slice_index_or earlier k None) (omega (arith, k_in)) (l.by_number k k_in))
  ];
}
  where
    last : slice_index_or (earlier ++ before ∷ []) (length list) None ≡ slice_index_or latest new.y None
    last = let e = l.each in rw (← e) (get_or-append_seam earlier before [] None ∙ is)

    front : (k : ℕ) → k < length list → slice_index_or (earlier ++ before ∷ []) k None ≡ slice_index_or earlier k None
    front k k_in = let e = l.each in get_or_append_left earlier (before ∷ []) None k (omega (arith, e, k_in))
