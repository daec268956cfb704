-- Lists compared item by item, and an edge put among others.
use Rattle.std.proofs.Common.{◌≡◌, ◌∙◌, inl, inr, refl, sym, ap, arith, ℕ, zero, suc, ◌+◌, ◌<◌, ◌≤◌, List, [], ◌∷◌}
use Rattle.std.proofs.Common.{◌++◌}
use Rattle.std.proofs.Common.{length, map, get_or, drop, take, min, insert, nat_cmp, append_assoc}
use Rattle.std.specs.Cmp.{nat_cmp_is}
use Rattle.std.specs.Cmp.Lexicographic.{slice_cmp}
use Rattle.std.specs.FinMap.{put}
use Rattle.std.specs.FinMap.Entries.{by_order}
use Rattle.std.specs.Ordering.{ordering_then}
use Rattle.std.specs.declared.cmp.Ordering.{Ordering}
use Rattle.std.specs.declared.cmp.Ordering.TheVariants.{Less, Equal, Greater}
use Rattle.std.proofs.lemmas.Bool.{cases_order}
use Rattle.std.proofs.lemmas.List.{drop_all, drop_more, take-append-drop, take_more}
use Rattle.pungi_domain.specs.declared.affine_edge.AffineEdge.{AffineEdge}
use Rattle.pungi_shape.specs.EdgeOrder.{alone, put_edge}
use Rattle.pungi_shape.specs.Programs.{edge_cmp}

-- ---- items

module _ {A : Type 0} (R : A → A → Ordering) (xs ys : List A) where
  next : (i : ℕ) (d e : A) → i < length xs → i < length ys
      → slice_cmp R (drop i xs) (drop i ys)
      ≡ ordering_then (R (get_or xs i d) (get_or ys i e)) (slice_cmp R (drop (i + 1) xs) (drop (i + 1) ys))
  next i d e lt lu =
      ap (λ l. slice_cmp R l (drop i ys)) (drop_more xs i d lt)
      ∙ ap (λ l. slice_cmp R (get_or xs i d ∷ drop (i + 1) xs) l) (drop_more ys i e lu)

  -- where the rests compare as the lists do: two items that are equal, and two that are not
  pub cmp-step : (i : ℕ) (d e : A) → i < length xs → i < length ys
      → slice_cmp R (drop i xs) (drop i ys) ≡ slice_cmp R xs ys → R (get_or xs i d) (get_or ys i e) ≡ Equal
      → slice_cmp R (drop (i + 1) xs) (drop (i + 1) ys) ≡ slice_cmp R xs ys
  cmp-step i d e lt lu so_far same =
      sym (ap (λ o. ordering_then o (slice_cmp R (drop (i + 1) xs) (drop (i + 1) ys))) same)
      ∙ sym (next i d e lt lu) ∙ so_far

  pub cmp-less : (i : ℕ) (d e : A) → i < length xs → i < length ys
      → slice_cmp R (drop i xs) (drop i ys) ≡ slice_cmp R xs ys → R (get_or xs i d) (get_or ys i e) ≡ Less
      → Less ≡ slice_cmp R xs ys
  cmp-less i d e lt lu so_far less =
      sym (ap (λ o. ordering_then o (slice_cmp R (drop (i + 1) xs) (drop (i + 1) ys))) less)
      ∙ sym (next i d e lt lu) ∙ so_far

  pub cmp-greater : (i : ℕ) (d e : A) → i < length xs → i < length ys
      → slice_cmp R (drop i xs) (drop i ys) ≡ slice_cmp R xs ys → R (get_or xs i d) (get_or ys i e) ≡ Greater
      → Greater ≡ slice_cmp R xs ys
  cmp-greater i d e lt lu so_far greater =
      sym (ap (λ o. ordering_then o (slice_cmp R (drop (i + 1) xs) (drop (i + 1) ys))) greater)
      ∙ sym (next i d e lt lu) ∙ so_far

some_more : {A : Type 0} (xs : List A) (i : ℕ) → i < length xs → (x : A) × ((rest : List A) × (drop i xs ≡ x ∷ rest))
some_more [] i lt = absurd (omega (arith, lt))
some_more (x ∷ xs) zero lt = (x, (xs, refl))
some_more (x ∷ xs) (suc i) lt = some_more xs i (omega (arith, lt))

-- the lengths decide where one list ends
pub cmp-end : {A : Type 0} (R : A → A → Ordering) (xs ys : List A) (i : ℕ) → i ≤ length xs → i ≤ length ys
    → min (length xs) (length ys) ≤ i → slice_cmp R (drop i xs) (drop i ys) ≡ nat_cmp (length xs) (length ys)
cmp-end R xs ys i le lf ends = elim (cases_order (length xs) (length ys)) [
  | inl same ↦
      ap (λ l. slice_cmp R l (drop i ys)) (drop_all i xs (omega (arith, ends, same)))
      ∙ ap (slice_cmp R []) (drop_all i ys (omega (arith, ends, same)))
      ∙ nat_cmp_is (length xs) (length ys) Equal same
  | inr other ↦ elim other [
    | inl less ↦
        let more = some_more ys i (omega (arith, less, le)) in
        ap (λ l. slice_cmp R l (drop i ys)) (drop_all i xs (omega (arith, ends, less)))
        ∙ ap (slice_cmp R []) more.1.1
        ∙ nat_cmp_is (length xs) (length ys) Less less
    | inr greater ↦
        let more = some_more xs i (omega (arith, greater, lf)) in
        ap (λ l. slice_cmp R (drop i xs) l) (drop_all i ys (omega (arith, ends, greater)))
        ∙ ap (λ l. slice_cmp R l []) more.1.1
        ∙ nat_cmp_is (length xs) (length ys) Greater greater
  ]
]

-- ---- edges

firsts : (es : List AffineEdge) → map (λ x. x.0) (map alone es) ≡ es
firsts [] = refl
firsts (e ∷ es) = ap (λ l. e ∷ l) (firsts es)

at_head : (e d : AffineEdge) (ds : List AffineEdge) (o : Ordering) → edge_cmp e d ≡ o
    → put_edge e (d ∷ ds)
    ≡ map (λ x. x.0) (by_order o (alone e ∷ alone d ∷ map alone ds) (alone d ∷ map alone ds)
    (alone d ∷ put edge_cmp e tt (map alone ds)))
at_head e d ds o h =
    ap (λ r. map (λ x. x.0) (by_order r (alone e ∷ alone d ∷ map alone ds) (alone d ∷ map alone ds)
    (alone d ∷ put edge_cmp e tt (map alone ds)))) h

module _ (e : AffineEdge) (es : List AffineEdge) (i : ℕ) (d : AffineEdge) (lt : i < length es)
    (so_far : put_edge e es ≡ take i es ++ put_edge e (drop i es)) where
  here : drop i es ≡ get_or es i d ∷ drop (i + 1) es
  here = drop_more es i d lt

  pub put-before : edge_cmp e (get_or es i d) ≡ Less → put_edge e es ≡ insert es i e
  put-before h =
      so_far ∙ ap (λ l. take i es ++ put_edge e l) here
      ∙ ap (λ l. take i es ++ l) (at_head e (get_or es i d) (drop (i + 1) es) Less h
      ∙ ap (λ l. e ∷ get_or es i d ∷ l) (firsts (drop (i + 1) es)))
      ∙ ap (λ l. take i es ++ e ∷ l) (sym here)

  pub put-there : edge_cmp e (get_or es i d) ≡ Equal → put_edge e es ≡ es
  put-there h =
      so_far ∙ ap (λ l. take i es ++ put_edge e l) here
      ∙ ap (λ l. take i es ++ l) (at_head e (get_or es i d) (drop (i + 1) es) Equal h
      ∙ ap (λ l. get_or es i d ∷ l) (firsts (drop (i + 1) es)))
      ∙ ap (λ l. take i es ++ l) (sym here) ∙ take-append-drop i es

  pub put-later : edge_cmp e (get_or es i d) ≡ Greater
      → put_edge e es ≡ take (i + 1) es ++ put_edge e (drop (i + 1) es)
  put-later h =
      so_far ∙ ap (λ l. take i es ++ put_edge e l) here
      ∙ ap (λ l. take i es ++ l) (at_head e (get_or es i d) (drop (i + 1) es) Greater h)
      ∙ sym (append_assoc (take i es) (get_or es i d ∷ []) (put_edge e (drop (i + 1) es)))
      ∙ ap (λ l. l ++ put_edge e (drop (i + 1) es)) (sym (take_more es i d lt))

pub put-last : (e : AffineEdge) (es : List AffineEdge) (i : ℕ) → i ≡ length es
    → put_edge e es ≡ take i es ++ put_edge e (drop i es) → put_edge e es ≡ insert es i e
put-last e es i last so_far =
    let ends : drop i es ≡ [] = drop_all i es (omega (arith, last)) in
    so_far ∙ ap (λ l. take i es ++ put_edge e l) ends ∙ ap (λ l. take i es ++ e ∷ l) (sym ends)
