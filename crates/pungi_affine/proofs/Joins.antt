-- What a row that is added to those of a span makes of it.
use Rattle.std.proofs.Common.{◌≡◌, ◌∙◌, ℕ, ◌<◌, ℤ, pos, ◌-ℤ◌, ◌*ℤ◌, List, ◌∷◌, length, refl, sym, ap, subst, arith}
use Rattle.std.proofs.Common.{zero, suc, ◌+◌, ◌≤◌, inl, inr, [], insert}
use Rattle.std.proofs.lemmas.Bool.{cases_lt, cases_eq}
use Rattle.std.proofs.lemmas.Int.{ints}
use Rattle.pungi_domain.specs.Vectors.{at}
use Rattle.pungi_domain.specs.Spans.{Plus, LargeRow, Divides}
use Rattle.pungi_domain.specs.Ring.{mul_comm, mul_assoc}
use Rattle.pungi_affine.specs.Spans.{InSpan, SameMembers}
use Rattle.pungi_affine.specs.Forms.{Line, line, vectors, WithinBox, IsForm, IsOrdered, IsCoprime}
use Rattle.pungi_affine.specs.Parts.{IsPivotPart}
use Rattle.pungi_affine.specs.Steps.{residual, Steps}
use Rattle.pungi_affine.specs.Mixes.{IsResidual, IsPlace}
use Rattle.pungi_affine.specs.Joins.{IsPlain, IsJoined}
use Rattle.pungi_affine.specs.States.{IsKept}
use Rattle.pungi_affine.specs.Adds.{Adds}
use Rattle.pungi_affine.proofs.AddLemmas.{left_no_member}
use Rattle.pungi_affine.proofs.Extends.{insert_each, insert_ordered, ordered_few}
use Rattle.pungi_affine.proofs.Insert.{shifted, shifted_low, shifted_high, insert_length, insert_at, insert_old}
use Rattle.pungi_affine.proofs.Insert.{insert_covers}
use Rattle.pungi_affine.proofs.LargeRows.{kept_not_large}
use Rattle.pungi_affine.proofs.Members.{same_chain, plus_span, large_row_same}
use Rattle.pungi_affine.proofs.Next.{u_pivot, form_next, within_next, next_within}
use Rattle.pungi_affine.proofs.Reduced.{zero_mul}

-- the row times the number that makes it d at its pivot, and the others times their factor
new_is : (f a b d : ℤ) → f *ℤ a ≡ d → a *ℤ (f *ℤ b) ≡ d *ℤ b
new_is f a b d e = sym (mul_assoc a f b) ∙ ap (λ z. z *ℤ b) (mul_comm a f ∙ e)

-- an entry of a row that is 0 at the pivot stays
old_is : (a b x z : ℤ) → z ≡ pos 0 → a *ℤ x ≡ (a *ℤ x) -ℤ (z *ℤ b)
old_is a b x z e = rw e (let m = zero_mul b in omega (arith, ints, m))

module _ (w : ℕ) (d : ℤ) (ls : List Line) (kept : IsKept w d ls) (v u : List ℤ) (len : length v ≡ w)
    (left : IsResidual d ls v u) (l m : Line) (part : IsPivotPart u l.pivot l.entries) (plain : IsPlain d ls l m)
    (ms : List Line) (h : IsJoined ls m ms) where
  u_len : length u ≡ w
  u_len = left.lengths ∙ len

  l_len : length l.entries ≡ w
  l_len = part.is.lengths ∙ u_len

  in_u : (i : ℕ) → i < w → i < length u
  in_u i lt = (let n = u_len in omega (arith, n, lt))

  in_v : (i : ℕ) → i < w → i < length v
  in_v i lt = (let n = len in omega (arith, n, lt))

  in_l : (i : ℕ) → i < w → i < length l.entries
  in_l i lt = (let n = l_len in omega (arith, n, lt))

  q_in : l.pivot < w
  q_in = (let n = u_len in let x = part.within in omega (arith, n, x))

  residual_is : (i : ℕ) → i < w → residual d ls (at v) i ≡ part.is.times *ℤ at l.entries i
  residual_is i lt = sym (left.each i (in_v i lt)) ∙ part.is.exact i (in_u i lt)

  abbrev all : List Line
  all = insert ls h.place m

  count : length all ≡ length ls + 1
  count = insert_length ls h.place m h.is_place.within

  below : (k : ℕ) → shifted h.place k ≤ k + 1
  below k = elim (cases_lt k h.place) [
    | inl x ↦ (let e = shifted_low h.place k x in omega (arith, e))
    | inr x ↦ (let e = shifted_high h.place k x in omega (arith, e))
  ]

  abbrev steps : Steps w d ls (at v) d all
  steps = record {
    u = at l.entries;
    h = part.is.times;
    h_not = part.is.not_zero;
    u_is = residual_is;
    q = l.pivot;
    q_within = q_in;
    q_entry = part.is.positive;
    q_first = part.before;
    g = at l.entries l.pivot;
    g_positive = part.is.positive;
    d_is = mul_comm (at l.entries l.pivot) d;
    new = h.place;
    new_in = (let e = count in let x = h.is_place.within in omega (arith, e, x));
    place = shifted h.place;
    place_in = λ k lt. (let e = count in let b = below k in omega (arith, e, lt, b));
    covers = λ j lt. insert_covers ls h.place m h.is_place.within j (let e = count in omega (arith, e, lt));
    new_pivot = ap (λ x. x.pivot) (insert_at ls h.place m h.is_place.within) ∙ plain.multiple.pivot;
    new_row = λ i lt. ap (λ x. at l.entries l.pivot *ℤ at x.entries i) (insert_at ls h.place m h.is_place.within)
        ∙ ap (λ z. at l.entries l.pivot *ℤ z) (plain.multiple.each i (in_l i lt))
        ∙ new_is plain.factor (at l.entries l.pivot) (at l.entries i) d plain.own;
    old_pivot = λ k lt. ap (λ x. x.pivot) (insert_old ls h.place m h.is_place.within k lt);
    old_row = λ k i lt i_lt. ap (λ x. at l.entries l.pivot *ℤ at x.entries i)
        (insert_old ls h.place m h.is_place.within k lt)
        ∙ old_is (at l.entries l.pivot) (at l.entries i) (at (line ls k).entries i) (at (line ls k).entries l.pivot)
        (plain.zeros k lt);
  }

  form : IsForm w d all
  form = form_next w d ls kept.form v d all steps

  after : (k : ℕ) → h.place ≤ k → k < length ls → m.pivot < (line ls k).pivot
  after k le lt =
      let n = plain.multiple.pivot in
      let b = h.is_place.after (omega (arith, le, lt)) in
      let o : (line ls h.place).pivot ≤ (line ls k).pivot = elim (cases_eq h.place k) [
        | inl same ↦ (let s : (line ls h.place).pivot ≡ (line ls k).pivot = ap (λ j. (line ls j).pivot) same in
            omega (arith, s))
        | inr ne ↦ (let x : h.place ≡ k → ⊥ = ne in let y = kept.order h.place k (omega (arith, le, x)) lt in
            omega (arith, y))
      ] in
      let ne : l.pivot ≡ (line ls k).pivot → ⊥ = λ same.
      (let z : at l.entries (line ls k).pivot ≡ pos 0 = u_pivot w d ls kept.form v d all steps k lt in
      let y : at l.entries l.pivot ≡ at l.entries (line ls k).pivot = ap (at l.entries) same in
      let p = part.is.positive in
      absurd (omega (arith, ints, z, y, p))) in
      omega (arith, n, b, o, ne)

  order : IsOrdered all
  order = insert_ordered ls h.place m h.is_place.within kept.order h.is_place.before after

  widths : (k : ℕ) → k < length all → length (line all k).entries ≡ w
  widths = insert_each ls h.place m h.is_place.within (λ x. length x.entries ≡ w) (plain.multiple.lengths ∙ l_len)
      kept.widths

  small : (k : ℕ) → k < length all → WithinBox (line all k).entries
  small = insert_each ls h.place m h.is_place.within (λ x. WithinBox x.entries) plain.small kept.small

  -- what divides all entries divides those of the old rows
  coprime : IsCoprime w d all
  coprime n e divides each = kept.coprime n e divides
      (λ k i lt i_lt. subst (λ (x : Line). Divides n (e *ℤ at x.entries i))
      (insert_old ls h.place m h.is_place.within k lt) (each (shifted h.place k) i (let c = count in let b = below k in
      omega (arith, c, b, lt)) i_lt))

  all_kept : IsKept w d all
  all_kept = record {
    narrow = kept.narrow;
    few = ordered_few w all order form.within;
    form = form;
    order = order;
    coprime = coprime;
    scale = kept.scale;
    widths = widths;
    small = small;
  }

  all_members : SameMembers (InSpan w (v ∷ vectors ls)) (InSpan w (vectors all))
  all_members = record {
    to = within_next w d ls kept.form v d all steps;
    back = next_within w d ls kept.form v d all steps;
  }

  pub joined_kept : IsKept w d ms
  joined_kept = subst (λ (ns : List Line). IsKept w d ns) (sym h.rows) all_kept

  members : SameMembers (Plus w (InSpan w (vectors ls)) (at v)) (InSpan w (vectors ms))
  members = same_chain (Plus w (InSpan w (vectors ls)) (at v)) (InSpan w (v ∷ vectors ls)) (InSpan w (vectors ms))
      (plus_span w (vectors ls) v)
      (subst (λ (ns : List Line). SameMembers (InSpan w (v ∷ vectors ls)) (InSpan w (vectors ns))) (sym h.rows)
      all_members)

  pub joined_adds : Adds (record { width = w; scale = d; lines = ls }) (at v)
      (record { width = w; scale = d; lines = ms })
  joined_adds = record {
    width = refl;
    more = ap length h.rows ∙ count;
    few = joined_kept.few;
    members = members;
    new = left_no_member w d ls v u l.pivot l.entries kept len left part;
  }

  pub joined_not_large : (r : List ℤ) → LargeRow w (Plus w (InSpan w (vectors ls)) (at v)) r → ⊥
  joined_not_large r x = kept_not_large w d ms joined_kept r
      (large_row_same w (Plus w (InSpan w (vectors ls)) (at v)) (InSpan w (vectors ms)) members r x)

-- there is a place for each row
some_place : (ls : List Line) (q : ℕ) → (p : ℕ) × IsPlace ls q p
some_place [] q = (
  0,
  record {
    within = omega arith;
    before = λ k lt. absurd (omega (arith, lt));
    after = λ lt. absurd (omega (arith, lt));
  },
)
some_place (l ∷ ls) q = elim (cases_lt l.pivot q) [
  | inl less ↦ (
      let h = some_place ls q in
      let i = h.1 in (
        h.0 + 1,
        record {
          within = (let n = i.within in omega (arith, n));
          before = front l ls q h.0 less i.before;
          after = back l ls q h.0 i.after;
        },
      ))
  | inr ge ↦ (
    0,
    record {
      within = omega arith;
      before = λ k lt. absurd (omega (arith, lt));
      after = λ lt. ge;
    },
  )
]
  where
    front : (l : Line) (ls : List Line) (q p : ℕ) → l.pivot < q → ((k : ℕ) → k < p → (line ls k).pivot < q) → (k : ℕ)
        → k < p + 1 → (line (l ∷ ls) k).pivot < q
    front l ls q p less h zero lt = less
    front l ls q p less h (suc k) lt = h k (omega (arith, lt))

    back : (l : Line) (ls : List Line) (q p : ℕ) → (p < length ls → q ≤ (line ls p).pivot)
        → p + 1 < length (l ∷ ls) → q ≤ (line (l ∷ ls) (p + 1)).pivot
    back l ls q p h lt = (let e : p + 1 ≡ suc p = omega arith in rw e (h (omega (arith, lt))))

pub some_joined : (ls : List Line) (l : Line) → (ms : List Line) × IsJoined ls l ms
some_joined ls l =
    let p = some_place ls l.pivot in (insert ls p.0 l, record { place = p.0; is_place = p.1; rows = refl })
