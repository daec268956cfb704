-- A span is large exactly where an entry of its kept rows is over 2^31.
use Rattle.std.proofs.Common.{◌≡◌, ℕ, ℤ, List, sym, arith, subst}
use Rattle.std.proofs.lemmas.Int.{ints}
use Rattle.pungi_domain.specs.Vectors.{at}
use Rattle.pungi_domain.specs.Spans.{IsScaledRow, IsLeastScale, IsLarge, IsOutside}
use Rattle.pungi_affine.specs.Spans.{InSpan}
use Rattle.pungi_affine.specs.Forms.{Line, line, vectors, IsForm, IsCoprime}
use Rattle.pungi_affine.specs.Steps.{HasOutside}
use Rattle.pungi_affine.proofs.Reduced.{same_row, least_is, pivot_of, is_scaled_row, scale_is, pivot_is}

module _ (w : ℕ) (d : ℤ) (ls : List Line) (form : IsForm w d ls) (co : IsCoprime w d ls) where
  pub same_scale : (e : ℤ) → IsLeastScale w (InSpan w (vectors ls)) e → e ≡ d
  same_scale e l =
      let a = l.least d (scale_is w d ls form) in
      let b = (least_is w d ls form co).least e l.scale in
      omega (arith, ints, a, b)

  pub large_has : IsLarge w (InSpan w (vectors ls)) → HasOutside w ls
  large_has h =
      let f = pivot_of w d ls form h.q h.pivot in
      let e : h.d ≡ d = same_scale h.d h.least in
      let r1 : IsScaledRow w (InSpan w (vectors ls)) d h.q h.r = subst (λ (x : ℤ). IsScaledRow w
      (InSpan w (vectors ls)) x h.q h.r) e h.row in
      let r2 : IsScaledRow w (InSpan w (vectors ls)) d (line ls f.0).pivot h.r = subst
      (λ (x : ℕ). IsScaledRow w (InSpan w (vectors ls)) d x h.r) (sym f.2) r1 in
      let same = same_row w d ls form h.r f.0 f.1 r2 h.i h.within in
      record { k = f.0; k_in = f.1; i = h.i; i_in = h.within; outside = subst (λ (x : ℤ). IsOutside x) same h.large }

  pub has_large : HasOutside w ls → IsLarge w (InSpan w (vectors ls))
  has_large h = record {
    d = d;
    least = least_is w d ls form co;
    q = (line ls h.k).pivot;
    pivot = pivot_is w d ls form h.k h.k_in;
    r = at (line ls h.k).entries;
    row = is_scaled_row w d ls form h.k h.k_in;
    i = h.i;
    within = h.i_in;
    large = h.outside;
  }
