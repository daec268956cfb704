-- What the members of a value of the domain of constants make of equations and rows.
use Rattle.std.proofs.Common.{◌≡◌, ◌∙◌, ℕ, suc, ◌<◌, ◌⊎◌, inl, inr, ℤ, pos, neg_ℤ, ◌+ℤ◌, ◌*ℤ◌, List, [], ◌∷◌, length}
use Rattle.std.proofs.Common.{Option, None, Some, IsSome, refl, sym, ap, subst, arith, slice_set}
use Rattle.std.specs.List.{All}
use Rattle.std.proofs.lemmas.Int.{ints}
use Rattle.std.proofs.lemmas.Bool.{cases_eq}
use Rattle.std.proofs.lemmas.List.{get_or-set_same, get_or-set_other}
use Rattle.std.proofs.lemmas.List.Elements.{All-drop}
use Rattle.std.proofs.Math.ListN.{length-set}
use Rattle.pungi_domain.specs.Vectors.{Vector, at, dot, row_sum, image, IsMatrix}
use Rattle.pungi_domain.specs.Flat.{constant_at, value_at, or_zero, IsSmall, IsConstant, MeetsConstants, AreConstants}
use Rattle.pungi_domain.specs.Constants.{IsSettled, IsOpen, Tells, AllKnown, row_at, IsRowConstant, IsImageConstant}
use Rattle.pungi_domain.specs.Constants.{AreImages}
use Rattle.pungi_domain.specs.Ring.{mul_comm, mul_zero, mul_add, mul_assoc, mul_swap, add_mul, cancel}
use Rattle.pungi_domain.proofs.Dots.{dot_sum, dot_none, dot_one}

one_times : (a : ℤ) → pos 1 *ℤ a ≡ a
one_times a = omega (arith, ints)

zero_times : (a : ℤ) → pos 0 *ℤ a ≡ pos 0
zero_times a = mul_comm (pos 0) a ∙ mul_zero a

no_sum : (a : ℤ) → neg_ℤ a +ℤ a ≡ pos 0
no_sum a = omega (arith, ints)

neg_times : (a b : ℤ) → neg_ℤ a *ℤ b ≡ neg_ℤ (a *ℤ b)
neg_times a b =
    let e = add_mul (neg_ℤ a) a b in
    let f : (neg_ℤ a +ℤ a) *ℤ b ≡ pos 0 *ℤ b = ap (λ z. z *ℤ b) (no_sum a) in
    let g = zero_times b in
    omega (arith, ints, e, f, g)

-- what is left of v without the constants
rest : List (Option ℤ) → Vector → Vector
rest cs v i = (pos 1 *ℤ v i) +ℤ (neg_ℤ (v 0) *ℤ value_at cs i)

rest_known : (o : Option ℤ) (l x : ℤ) → IsSome o → IsConstant o l x → (pos 1 *ℤ x) +ℤ (neg_ℤ l *ℤ or_zero o) ≡ pos 0
rest_known None l x h k = absurd (cc)
rest_known (Some c) l x h k =
    let e = one_times x in
    let f = neg_times l c in
    let g = mul_comm c l in
    omega (arith, ints, e, f, g, k)

rest_open : (o : Option ℤ) (l x : ℤ) → o ≡ None → (pos 1 *ℤ x) +ℤ (neg_ℤ l *ℤ or_zero o) ≡ x
rest_open None l x h = (let e = one_times x in let f = mul_zero (neg_ℤ l) in omega (arith, ints, e, f))
rest_open (Some c) l x h = absurd (cc)

-- the sum of an equation, without the constants
dot_rest : (cs : List (Option ℤ)) (e : List ℤ) (v : Vector)
    → dot e v ≡ dot e (rest cs v) +ℤ (v 0 *ℤ dot e (value_at cs))
unfolding rest
dot_rest cs e v =
    let s = dot_sum e (pos 1) (neg_ℤ (v 0)) v (value_at cs) in
    let a = one_times (dot e v) in
    let b = neg_times (v 0) (dot e (value_at cs)) in
    omega (arith, ints, s, a, b)

module _ (w : ℕ) (cs : List (Option ℤ)) (e : List ℤ) (v : Vector) (width : length e ≡ w)
    (meets : MeetsConstants w cs v) where
  rest_settled : (i : ℕ) → i < length e → IsSettled e cs i → at e i *ℤ rest cs v i ≡ pos 0
  unfolding rest
  rest_settled i lt h = elim h [
    | inl z ↦ ap (λ y. y *ℤ rest cs v i) z ∙ zero_times (rest cs v i)
    | inr k ↦ ap (λ y. at e i *ℤ y) (rest_known (constant_at cs i) (v 0) (v i) k
        (meets i (omega (arith, width, lt)))) ∙ mul_zero (at e i)
  ]

  pub dot_settled : ((i : ℕ) → i < w → IsSettled e cs i) → dot e v ≡ v 0 *ℤ dot e (value_at cs)
  dot_settled h =
      let r = dot_rest cs e v in
      let z = dot_none e (rest cs v) (λ i lt. rest_settled i lt (h i (omega (arith, width, lt)))) in
      omega (arith, ints, r, z)

  pub dot_but_one : (p : ℕ) → p < w → constant_at cs p ≡ None → ((i : ℕ) → i < w → (i ≡ p → ⊥) → IsSettled e cs i)
      → dot e v ≡ (at e p *ℤ v p) +ℤ (v 0 *ℤ dot e (value_at cs))
  unfolding rest
  dot_but_one p lt none h =
      let r = dot_rest cs e v in
      let o = dot_one e (rest cs v) p (omega (arith, width, lt)) (λ i i_lt ne. rest_settled i i_lt
      (h i (omega (arith, width, i_lt)) ne)) in
      let x : at e p *ℤ rest cs v p ≡ at e p *ℤ v p = ap (λ y. at e p *ℤ y) (rest_open (constant_at cs p) (v 0)
      (v p) none) in
      omega (arith, ints, r, o, x)

  -- where the equation gives one more constant, the members that meet it have it
  pub told : (p : ℕ) (c : ℤ) → length cs ≡ w → Tells cs e p c → dot e v ≡ pos 0 → v p ≡ c *ℤ v 0
  told p c len t z =
      let o = t.open_at in
      let d = dot_but_one p (let l = o.0 in omega (arith, len, l)) o.2 (λ i lt ne. t.others i
      (omega (arith, len, lt)) ne) in
      let s : v 0 *ℤ ((at e p *ℤ c) +ℤ dot e (value_at cs)) ≡ pos 0 = ap (λ y. v 0 *ℤ y) t.solves ∙ mul_zero (v 0) in
      let m = mul_add (v 0) (at e p *ℤ c) (dot e (value_at cs)) in
      let k : v 0 *ℤ (at e p *ℤ c) ≡ at e p *ℤ (c *ℤ v 0) = mul_swap (v 0) (at e p) c
      ∙ ap (λ y. at e p *ℤ y) (mul_comm (v 0) c) in
      cancel (at e p) (v p) (c *ℤ v 0) o.1 (omega (arith, ints, d, z, s, m, k))

constant_value : (o : Option ℤ) (l : ℤ) → l ≡ pos 1 → IsConstant o l (or_zero o)
constant_value None l e = tt
constant_value (Some c) l e =
    (let f : c *ℤ l ≡ c *ℤ pos 1 = ap (λ z. c *ℤ z) e in let g = mul_comm c (pos 1) in let h = one_times c in omega
    (arith, ints, f, g, h))

-- the constants themselves are a member
pub values_meet : (w : ℕ) (cs : List (Option ℤ)) → AreConstants w cs → MeetsConstants w cs (value_at cs)
values_meet w cs h i lt = constant_value (constant_at cs i) (value_at cs 0) (ap or_zero (h.leading (omega (arith, lt))))

single : ℕ → Vector
single p i = elim (cases_eq i p) [ inl e ↦ pos 1 | inr ne ↦ pos 0 ]

single_at : (p : ℕ) → single p p ≡ pos 1
unfolding single
single_at p = go (cases_eq p p)
  where
    go : (d : (p ≡ p) ⊎ (p ≡ p → ⊥)) → (elim d as (λ _. ℤ) [ inl e ↦ pos 1 | inr ne ↦ pos 0 ]) ≡ pos 1
    go (inl e) = refl
    go (inr ne) = absurd (ne refl)

single_else : (p i : ℕ) → (i ≡ p → ⊥) → single p i ≡ pos 0
unfolding single
single_else p i n = go (cases_eq i p)
  where
    go : (d : (i ≡ p) ⊎ (i ≡ p → ⊥)) → (elim d as (λ _. ℤ) [ inl e ↦ pos 1 | inr ne ↦ pos 0 ]) ≡ pos 0
    go (inl e) = absurd (n e)
    go (inr ne) = refl

constant_open : (o : Option ℤ) (l x : ℤ) → o ≡ None → IsConstant o l x
constant_open None l x e = tt
constant_open (Some c) l x e = absurd (cc)

constant_zero : (o : Option ℤ) (l x : ℤ) → l ≡ pos 0 → x ≡ pos 0 → IsConstant o l x
constant_zero None l x e f = tt
constant_zero (Some c) l x e f = f ∙ sym (ap (λ z. c *ℤ z) e ∙ mul_zero c)

-- where a coordinate has no constant, a member does not meet an equation that has a coefficient there
pub open_fails : (w : ℕ) (cs : List (Option ℤ)) (e : List ℤ) (p : ℕ) → AreConstants w cs → length e ≡ w → IsOpen e cs p
    → (v : Vector) × MeetsConstants w cs v × (dot e v ≡ pos 0 → ⊥)
open_fails w cs e p h width o = (
  single p,
  (λ i lt. elim (cases_eq i p) [
    | inl same ↦ constant_open (constant_at cs i) (single p 0) (single p i) (ap (constant_at cs) same ∙ o.2)
    | inr ne ↦ constant_zero (constant_at cs i) (single p 0) (single p i) (single_else p 0 behind) (single_else p i ne)
  ]),
  (λ z. o.1 (let d = dot_one e (single p) p p_lt (λ i i_lt ne. ap (λ y. at e i *ℤ y) (single_else p i ne)
      ∙ mul_zero (at e i)) in
      let s : at e p *ℤ single p p ≡ at e p *ℤ pos 1 = ap (λ y. at e p *ℤ y) (single_at p) in
      let c = mul_comm (at e p) (pos 1) in
      let t = one_times (at e p) in
      omega (arith, ints, z, d, s, c, t))),
)
  where
    p_lt : p < length e
    p_lt = (let l = o.0 in let n = h.width in omega (arith, l, n, width))

    behind : 0 ≡ p → ⊥
    behind same = (let l = h.leading (omega (arith, p_lt, width)) in let n : constant_at cs 0
        ≡ None = ap (constant_at cs) same ∙ o.2 in cc)

row_term_known : (o : Option ℤ) (f l x : ℤ) → IsSome o → IsConstant o l x → f *ℤ x ≡ (f *ℤ or_zero o) *ℤ l
row_term_known None f l x h k = absurd (cc)
row_term_known (Some c) f l x h k = ap (λ z. f *ℤ z) k ∙ sym (mul_assoc f c l)

-- a row of known sources
row_known : (w : ℕ) (cs : List (Option ℤ)) (v : Vector) (row : List (ℕ × ℤ)) → MeetsConstants w cs v
    → All (λ p. p.0 < w) row → AllKnown cs row (length row)
    → row_sum row v ≡ row_sum row (value_at cs) *ℤ v 0
row_known w cs v [] m h k = sym (zero_times (v 0))
row_known w cs v (p ∷ row) m h k =
    let i = row_known w cs v row m (All-drop (λ (q : ℕ × ℤ). q.0 < w) 1 (p ∷ row) h)
    (λ j lt. k (suc j) (omega (arith, lt))) in
    let t = row_term_known (constant_at cs p.0) p.1 (v 0) (v p.0) (k 0 (omega arith)) (m p.0 (h 0 p (omega arith))) in
    let a = add_mul (p.1 *ℤ value_at cs p.0) (row_sum row (value_at cs)) (v 0) in
    omega (arith, ints, i, t, a)

row_constant : (w : ℕ) (cs : List (Option ℤ)) (v : Vector) (row : List (ℕ × ℤ)) (c : ℤ) → MeetsConstants w cs v
    → All (λ p. p.0 < w) row → IsRowConstant cs row c → row_sum row v ≡ c *ℤ v 0
row_constant w cs v row c m h r = row_known w cs v row m h r.known ∙ ap (λ z. z *ℤ v 0) (sym r.is)

-- the image of a member
pub image_meets : (w : ℕ) (cs images : List (Option ℤ)) (rows : List (List (ℕ × ℤ))) (v : Vector)
    → MeetsConstants w cs v → All (λ row. All (λ p. p.0 < w) row) rows → AreImages cs rows images
    → MeetsConstants (length rows) images (image rows v)
image_meets w cs images rows v m h a i lt = go (constant_at images i) (a.each i lt)
  where
    go : (o : Option ℤ) → IsImageConstant cs rows i o → IsConstant o (image rows v 0) (image rows v i)
    go None k = tt
    go (Some c) (inl k) = rw (k.0, k.1) (sym (one_times (image rows v 0)))
    go (Some c) (inr k) =
        let r : row_sum (row_at rows i) v ≡ c *ℤ v 0 = row_constant w cs v (row_at rows i) c m (h i [] lt)
        k.1.constant in
        elim k.1.leads [
          | inl z ↦ r ∙ ap (λ y. y *ℤ v 0) z ∙ zero_times (v 0)
              ∙ sym (ap (λ y. y *ℤ image rows v 0) z ∙ zero_times (image rows v 0))
          | inr l ↦ r ∙ ap (λ y. c *ℤ y) (sym (row_constant w cs v (row_at rows 0) (pos 1) m
              (h 0 [] (omega (arith, lt))) l ∙ one_times (v 0)))
        ]

-- the image of the vector 0
row_zero : (w : ℕ) (v : Vector) (row : List (ℕ × ℤ)) → ((i : ℕ) → i < w → v i ≡ pos 0) → All (λ p. p.0 < w) row
    → row_sum row v ≡ pos 0
row_zero w v [] z h = refl
row_zero w v (p ∷ row) z h =
    let i = row_zero w v row z (All-drop (λ (q : ℕ × ℤ). q.0 < w) 1 (p ∷ row) h) in
    let t : p.1 *ℤ v p.0 ≡ pos 0 = ap (λ y. p.1 *ℤ y) (z p.0 (h 0 p (omega arith))) ∙ mul_zero p.1 in
    omega (arith, ints, i, t)

pub image_zero : (w : ℕ) (rows : List (List (ℕ × ℤ))) (v : Vector) → ((i : ℕ) → i < w → v i ≡ pos 0)
    → IsMatrix w rows → (i : ℕ) → i < length rows → image rows v i ≡ pos 0
image_zero w rows v z h i lt = row_zero w v (row_at rows i) z (h i [] lt).within

pub told_constants : (cs : List (Option ℤ)) (e : List ℤ) (p : ℕ) (c : ℤ) → AreConstants (length cs) cs
    → Tells cs e p c → AreConstants (length cs) (slice_set cs p (Some c))
told_constants cs e p c h t = record {
  width = length-set cs p (Some c);
  narrow = h.narrow;
  small = λ i lt. elim (cases_eq i p) [
    | inl same ↦ subst (λ (o : Option ℤ). IsSmall o) (sym (ap (constant_at (slice_set cs p (Some c))) same
        ∙ get_or-set_same cs p (Some c) None t.open_at.0)) t.within
    | inr ne ↦ subst (λ (o : Option ℤ). IsSmall o) (sym (get_or-set_other cs p i (Some c) None ne))
        (h.small i (let l = length-set cs p (Some c) in omega (arith, l, lt)))
  ];
  leading = λ some. elim (cases_eq 0 p) [
    | inl same ↦ absurd (let l = h.leading some in let n : constant_at cs 0
        ≡ None = ap (constant_at cs) same ∙ t.open_at.2 in cc)
    | inr ne ↦ get_or-set_other cs p 0 (Some c) None ne ∙ h.leading some
  ];
}

-- the members that an equation leaves
pub told_meets : (w : ℕ) (cs : List (Option ℤ)) (e : List ℤ) (p : ℕ) (c : ℤ) (v : Vector) → length cs ≡ w
    → length e ≡ w → Tells cs e p c → MeetsConstants w cs v → dot e v ≡ pos 0
    → MeetsConstants w (slice_set cs p (Some c)) v
told_meets w cs e p c v len width t m z i lt = elim (cases_eq i p) [
  | inl same ↦ subst (λ (o : Option ℤ). IsConstant o (v 0) (v i)) (sym (ap (constant_at (slice_set cs p (Some c)))
      same ∙ get_or-set_same cs p (Some c) None t.open_at.0)) (ap v same ∙ told w cs e v width m p c len t z)
  | inr ne ↦ subst (λ (o : Option ℤ). IsConstant o (v 0) (v i)) (sym (get_or-set_other cs p i (Some c) None ne))
      (m i lt)
]

-- constants that do not meet an equation are a member that does not
pub values_fail : (cs : List (Option ℤ)) (e : List ℤ) → AreConstants (length cs) cs
    → (dot e (value_at cs) ≡ pos 0 → ⊥) → (v : Vector) × MeetsConstants (length cs) cs v × (dot e v ≡ pos 0 → ⊥)
values_fail cs e h n = (value_at cs, values_meet (length cs) cs h, n)

-- where nothing is open and the constants meet an equation, all members do
pub settled_meets : (cs : List (Option ℤ)) (e : List ℤ) (v : Vector) → length e ≡ length cs
    → ((i : ℕ) → i < length cs → IsSettled e cs i) → dot e (value_at cs) ≡ pos 0 → MeetsConstants (length cs) cs v
    → dot e v ≡ pos 0
settled_meets cs e v width h z m = dot_settled (length cs) cs e v width m h ∙ ap (λ y. v 0 *ℤ y) z ∙ mul_zero (v 0)

-- all members of the value of the vector 0 meet each equation
pub zero_meets : (w : ℕ) (e : List ℤ) (v : Vector) → length e ≡ w → ((i : ℕ) → i < w → v i ≡ pos 0) → dot e v ≡ pos 0
zero_meets w e v width z =
    dot_none e v (λ i lt. ap (λ y. at e i *ℤ y) (z i (omega (arith, width, lt))) ∙ mul_zero (at e i))
