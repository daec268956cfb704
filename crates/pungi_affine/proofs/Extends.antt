-- The form with one vector more, from the rows mixed with what is left of it.
use Rattle.std.proofs.Common.{◌≡◌, ◌∙◌, ℕ, zero, suc, ◌+◌, ◌<◌, ◌≤◌, inl, inr, ℤ, pos, ◌*ℤ◌, List, [], ◌∷◌, ◌++◌}
use Rattle.std.proofs.Common.{length, take, slice_index_or, sym, ap, subst, arith}
use Rattle.std.specs.List.{insert}
use Rattle.std.proofs.lemmas.Int.{ints}
use Rattle.std.proofs.lemmas.Bool.{cases_lt, cases_eq}
use Rattle.pungi_domain.specs.Vectors.{at}
use Rattle.pungi_domain.specs.Ring.{mul_comm, mul_zero, product_zero}
use Rattle.pungi_affine.specs.Forms.{Line, line, lines, line_of, IsForm, IsOrdered}
use Rattle.pungi_affine.specs.Steps.{residual, Steps}
use Rattle.pungi_affine.specs.Parts.{wide_line, wide_lines, IsPivotPart, AreLong, IsLong}
use Rattle.pungi_affine.specs.Mixes.{IsResidual, IsMixed, AreMixed, IsExtended, IsExtension}
use Rattle.pungi_affine.specs.States.{IsKept}
use Rattle.pungi_affine.specs.declared.row.Row.{Row}
use Rattle.pungi_affine.specs.declared.part.WideRow.{WideRow}
use Rattle.pungi_affine.proofs.LineLemmas.{mapped_more, mapped_push}
use Rattle.pungi_affine.proofs.Shared.{last_line, front_line, more_lines, each_more}
use Rattle.pungi_affine.proofs.Insert.{shifted, shifted_low, shifted_high, insert_length, insert_at, insert_old}
use Rattle.pungi_affine.proofs.Insert.{insert_covers, steps_insert}
use Rattle.pungi_affine.proofs.Reduced.{fill_one_by}
use Rattle.pungi_affine.proofs.Next.{form_next, within_next, next_within}

pub mixed_more : (u : List ℤ) (q : ℕ) (ls ms : List Line) (l m : Line) → AreMixed u q ls ms → IsMixed u q l m
    → AreMixed u q (ls ++ l ∷ []) (ms ++ m ∷ [])
mixed_more u q ls ms l m a h = record {
  count = (let x = more_lines ls l in let y = more_lines ms m in let e = a.count in omega (arith, x, y, e));
  each = each_more (λ k x. IsMixed u q x (line (ms ++ m ∷ []) k)) ls l
      (λ k lt. subst (λ (x : Line). IsMixed u q (line ls k) x) (sym (front_line ms m k
      (let e = a.count in omega (arith, e, lt)))) (a.each k lt))
      (subst (λ (x : Line). IsMixed u q l x) (sym (ap (λ j. line (ms ++ m ∷ []) j) (sym a.count) ∙ last_line ms m)) h);
}

pub mixed_rows_more : (u : List ℤ) (q : ℕ) (rs : List Row) (qs : List WideRow) (k : ℕ) (r : Row) (m : WideRow)
    → k < length rs → r ≡ slice_index_or rs k r → AreMixed u q (lines (take k rs)) (wide_lines qs)
    → IsMixed u q (line_of r) (wide_line m) → AreMixed u q (lines (take (k + 1) rs)) (wide_lines (qs ++ m ∷ []))
mixed_rows_more u q rs qs k r m lt is a h =
    rw (mapped_more line_of rs k r lt, ← is, mapped_push wide_line qs m) (mixed_more u q (lines (take k rs))
    (wide_lines qs) (line_of r) (wide_line m) a h)

-- pivots that ascend are each at least the row's number, so there are no more rows than coordinates
ordered_low : (ls : List Line) → IsOrdered ls → (k : ℕ) → k < length ls → k ≤ (line ls k).pivot
ordered_low ls o zero lt = omega arith
ordered_low ls o (suc k) lt =
    let l : k < length ls = omega (arith, lt) in
    let h = ordered_low ls o k l in
    let s = o k (suc k) (omega arith) lt in
    omega (arith, h, s)

pub ordered_few : (w : ℕ) (ls : List Line) → IsOrdered ls → ((k : ℕ) → k < length ls → (line ls k).pivot < w)
    → length ls ≤ w
ordered_few w ls o within = go (length ls) (omega arith)
  where
    go : (n : ℕ) → n ≤ length ls → n ≤ w
    go zero le = omega arith
    go (suc n) le = (let h = ordered_low ls o n (omega (arith, le)) in let b = within n (omega (arith, le)) in omega
        (arith, h, b))

module _ (ms : List Line) (p : ℕ) (n : Line) (le : p ≤ length ms) where
  to_old : (j : ℕ) → j < length (insert ms p n) → j < length ms + 1
  to_old j lt = (let e = insert_length ms p n le in omega (arith, e, lt))

  pub insert_each : (P : Line → Type 0) → P n → ((k : ℕ) → k < length ms → P (line ms k)) → (j : ℕ)
      → j < length (insert ms p n) → P (line (insert ms p n) j)
  insert_each P here h j lt = elim (insert_covers ms p n le j (to_old j lt)) [
    | inl e ↦ subst (λ (k : ℕ). P (line (insert ms p n) k)) (sym e) (subst P (sym (insert_at ms p n le)) here)
    | inr o ↦ subst (λ (k : ℕ). P (line (insert ms p n) k)) o.2 (subst P (sym (insert_old ms p n le o.0 o.1))
        (h o.0 o.1))
  ]

  pub insert_ordered : IsOrdered ms → ((k : ℕ) → k < p → (line ms k).pivot < n.pivot)
      → ((k : ℕ) → p ≤ k → k < length ms → n.pivot < (line ms k).pivot) → IsOrdered (insert ms p n)
  insert_ordered o before after j k lt k_lt = elim (insert_covers ms p n le k (to_old k k_lt)) [
    | inl e ↦ elim (insert_covers ms p n le j (omega (arith, lt, to_old k k_lt))) [
      | inl f ↦ absurd (omega (arith, e, f, lt))
      | inr b ↦ (
          let x = at_old b.0 b.1 j b.2 in
          let y = at_new k e in
          let h = before b.0 (low b.0 j b.2 (omega (arith, e, lt))) in
          omega (arith, x, y, h))
    ]
    | inr a ↦ elim (insert_covers ms p n le j (omega (arith, lt, to_old k k_lt))) [
      | inl f ↦ (
          let x = at_old a.0 a.1 k a.2 in
          let y = at_new j f in
          let h = after a.0 (high a.0 k a.2 (omega (arith, f, lt))) a.1 in
          omega (arith, x, y, h))
      | inr b ↦ (
          let x = at_old a.0 a.1 k a.2 in
          let y = at_old b.0 b.1 j b.2 in
          let h = o b.0 a.0 (both b.0 a.0 j k b.2 a.2 lt) a.1 in
          omega (arith, x, y, h))
    ]
  ]
    where
      at_new : (j : ℕ) → j ≡ p → (line (insert ms p n) j).pivot ≡ n.pivot
      at_new j e = ap (λ i. (line (insert ms p n) i).pivot) e ∙ ap (λ l. l.pivot) (insert_at ms p n le)

      at_old : (i : ℕ) → i < length ms → (j : ℕ) → shifted p i ≡ j → (line (insert ms p n) j).pivot ≡ (line ms i).pivot
      at_old i i_lt j e = ap (λ m. (line (insert ms p n) m).pivot) (sym e)
          ∙ ap (λ l. l.pivot) (insert_old ms p n le i i_lt)

      low : (i j : ℕ) → shifted p i ≡ j → j < p → i < p
      low i j e l = elim (cases_lt i p) [
        | inl a ↦ a
        | inr a ↦ (let s = shifted_high p i a in absurd
            (omega (arith, s, e, l, a)))
      ]

      high : (i j : ℕ) → shifted p i ≡ j → p < j → p ≤ i
      high i j e l = elim (cases_lt i p) [
        | inl a ↦ (let s = shifted_low p i a in absurd (omega (arith, s, e, l, a)))
        | inr a ↦ a
      ]

      both : (a b j k : ℕ) → shifted p a ≡ j → shifted p b ≡ k → j < k → a < b
      both a b j k e f l = elim (cases_lt a p) [
        | inl x ↦ (let s = shifted_low p a x in elim (cases_lt b p) [
          | inl y ↦ (let t = shifted_low p b y in omega
              (arith, s, t, e, f, l))
          | inr y ↦ omega (arith, x, y)
        ])
        | inr x ↦ (let s = shifted_high p a x in elim (cases_lt b p) [
          | inl y ↦
              (let t = shifted_low p b y in absurd (omega (arith, s, t, e, f, l, x, y)))
          | inr y ↦
              (let t = shifted_high p b y in omega (arith, s, t, e, f, l))
        ])
      ]

-- nothing is left at the rows' pivots
residual_zero : (w : ℕ) (d : ℤ) (ls : List Line) → IsForm w d ls → (v : ℕ → ℤ) (k : ℕ) → k < length ls
    → residual d ls v (line ls k).pivot ≡ pos 0
residual_zero w d ls form v k lt =
    let e = fill_one_by ls v k (line ls k).pivot lt (λ j j_lt ne. ap (λ z. v (line ls j).pivot *ℤ z)
    (form.others k j lt j_lt (λ same. ne (sym same))) ∙ mul_zero (v (line ls j).pivot)) in
    let f : v (line ls k).pivot *ℤ at (line ls k).entries (line ls k).pivot
    ≡ v (line ls k).pivot *ℤ d = ap (λ z. v (line ls k).pivot *ℤ z) (form.own k lt) in
    let c = mul_comm d (v (line ls k).pivot) in
    omega (arith, ints, e, f, c)

module _ (w : ℕ) (d : ℤ) (ls : List Line) (kept : IsKept w d ls) (v u : List ℤ) (v_len : length v ≡ w)
    (left : IsResidual d ls v u) (l : Line) (part : IsPivotPart u l.pivot l.entries) (e : ℤ) (ms : List Line)
    (x : IsExtended d ls l e ms) where
  u_len : length u ≡ w
  u_len = left.lengths ∙ v_len

  l_len : length l.entries ≡ w
  l_len = part.is.lengths ∙ u_len

  in_u : (i : ℕ) → i < w → i < length u
  in_u i lt = (let n = u_len in omega (arith, n, lt))

  in_v : (i : ℕ) → i < w → i < length v
  in_v i lt = (let n = v_len in omega (arith, n, lt))

  in_l : (i : ℕ) → i < w → i < length l.entries
  in_l i lt = (let n = l_len in omega (arith, n, lt))

  q_in : l.pivot < w
  q_in = (let n = u_len in let h = part.within in omega (arith, n, h))

  place_in : x.place ≤ length x.mixes
  place_in = (let a = x.is_place.within in let b = x.mixed.count in omega (arith, a, b))

  to_ls : (k : ℕ) → k < length x.mixes → k < length ls
  to_ls k lt = (let b = x.mixed.count in omega (arith, b, lt))

  residual_is : (i : ℕ) → i < w → residual d ls (at v) i ≡ part.is.times *ℤ at l.entries i
  residual_is i lt = sym (left.each i (in_v i lt)) ∙ part.is.exact i (in_u i lt)

  zero_there : (k : ℕ) → k < length ls → at l.entries (line ls k).pivot ≡ pos 0
  zero_there k lt = elim (product_zero part.is.times (at l.entries (line ls k).pivot)
      (sym (residual_is (line ls k).pivot (kept.form.within k lt)) ∙ residual_zero w d ls kept.form (at v) k lt))
      [ inl y ↦ absurd (part.is.not_zero y) | inr y ↦ y ]

  steps : Steps w d ls (at v) e (insert x.mixes x.place x.new)
  steps = steps_insert w d ls (at v) e x.mixes x.place x.new (at l.entries) part.is.times l.pivot part.is.not_zero
      residual_is q_in part.is.positive part.before x.scale x.mixed.count place_in x.multiple.pivot
      (λ i lt. x.multiple.each i (in_l i lt))
      (λ k lt. (x.mixed.each k lt).pivot)
      (λ k i lt i_lt. let h = (x.mixed.each k lt).each i (in_l i i_lt) in let c = mul_comm (at l.entries i)
      (at (line ls k).entries l.pivot) in omega (arith, ints, h, c))

  pub extended_form : IsForm w e (insert x.mixes x.place x.new)
  extended_form = form_next w d ls kept.form v e (insert x.mixes x.place x.new) steps

  mixes_ordered : IsOrdered x.mixes
  mixes_ordered j k lt k_lt =
      let a = (x.mixed.each j (to_ls j (omega (arith, lt, k_lt)))).pivot in
      let b = (x.mixed.each k (to_ls k k_lt)).pivot in
      let h = kept.order j k lt (to_ls k k_lt) in
      omega (arith, a, b, h)

  after : (k : ℕ) → x.place ≤ k → k < length x.mixes → x.new.pivot < (line x.mixes k).pivot
  after k le lt =
      let k_lt = to_ls k lt in
      let a = (x.mixed.each k k_lt).pivot in
      let n = x.multiple.pivot in
      let b = x.is_place.after (omega (arith, le, k_lt)) in
      let o : (line ls x.place).pivot ≤ (line ls k).pivot = elim (cases_eq x.place k) [
        | inl same ↦ (let s : (line ls x.place).pivot ≡ (line ls k).pivot = ap (λ j. (line ls j).pivot) same in
            omega (arith, s))
        | inr ne ↦ (let m : x.place ≡ k → ⊥ = ne in let h = kept.order x.place k (omega (arith, le, m)) k_lt in
            omega (arith, h))
      ] in
      let ne : l.pivot ≡ (line ls k).pivot → ⊥ = λ same.
      (let z : at l.entries (line ls k).pivot ≡ pos 0 = zero_there k k_lt in
      let y : at l.entries l.pivot ≡ at l.entries (line ls k).pivot = ap (at l.entries) same in
      let p = part.is.positive in
      absurd (omega (arith, ints, z, y, p))) in
      omega (arith, a, n, b, o, ne)

  before : (k : ℕ) → k < x.place → (line x.mixes k).pivot < x.new.pivot
  before k lt =
      let a = (x.mixed.each k (let i = x.is_place.within in omega (arith, i, lt))).pivot in
      let b = x.is_place.before k lt in
      let n = x.multiple.pivot in
      omega (arith, a, b, n)

  extended_order : IsOrdered (insert x.mixes x.place x.new)
  extended_order = insert_ordered x.mixes x.place x.new place_in mixes_ordered before after

  pub extension_is : IsExtension w ls v e (insert x.mixes x.place x.new)
  extension_is = record {
    wide = record {
      narrow = kept.narrow;
      few = ordered_few w (insert x.mixes x.place x.new) extended_order extended_form.within;
      form = extended_form;
      order = extended_order;
      scale = subst (λ (z : ℤ). IsLong z) (x.multiple.each l.pivot (in_l l.pivot q_in) ∙ sym x.scale)
          (x.multiple.long l.pivot (let n = x.multiple.lengths in let i = in_l l.pivot q_in in omega (arith, n, i)));
      widths = insert_each x.mixes x.place x.new place_in (λ m. length m.entries ≡ w) (x.multiple.lengths ∙ l_len)
          (λ k lt. (x.mixed.each k (to_ls k lt)).lengths ∙ l_len);
      long = insert_each x.mixes x.place x.new place_in (λ m. AreLong m.entries) x.multiple.long
          (λ k lt. (x.mixed.each k (to_ls k lt)).long);
    };
    count = insert_length x.mixes x.place x.new place_in ∙ ap (λ n. n + 1) x.mixed.count;
    members = record {
      to = within_next w d ls kept.form v e (insert x.mixes x.place x.new) steps;
      back = next_within w d ls kept.form v e (insert x.mixes x.place x.new) steps;
    };
  }

pub extension : (w : ℕ) (d : ℤ) (ls : List Line) (v u : List ℤ) (l : Line) (e : ℤ) (ms : List Line) → IsKept w d ls
    → length v ≡ w → IsResidual d ls v u → IsPivotPart u l.pivot l.entries → IsExtended d ls l e ms
    → IsExtension w ls v e ms
extension w d ls v u l e ms kept len left part x =
    subst (λ (ns : List Line). IsExtension w ls v e ns) (sym x.rows) (extension_is w d ls kept v u len left l part e
    ms x)
