-- One function's annotation.
--   range_place            a large step is over an edge from its place
--   fit_growth             an annotation's exits fit those that were put
use Rattle.std.proofs.Common.{◌∙◌, inl, ℕ, Bool, List, Option, ℤ, sym, arith}
use Rattle.std.proofs.lemmas.Option.{slice_get_within, get_or_from_slice_get}
use Rattle.pungi_domain.specs.Builds.{IsLargeBuild}
use Rattle.pungi_domain.specs.Vectors.{Vectors}
use Rattle.pungi_domain.specs.declared.affine_program.AffineProgram.{AffineProgram}
use Rattle.pungi_fixpoint.specs.Solver.{FitsWidths}
use Rattle.pungi_summary.specs.Results.{AreValues}
use Rattle.pungi_summary.specs.Steps.{HasRangePlace}
use Rattle.pungi_summary.specs.Values.{FitGrowth}

pub range_place : {D : Type 0} (least : Bool) (member : D → Vectors) (p : AffineProgram)
    (exit : ℕ → ℕ → Option D) (k : ℕ) (r : List ℤ) → IsLargeBuild least member p exit k r → HasRangePlace p k
range_place least member p exit k r h = inl (
  h.edge,
  (
    h.number,
    slice_get_within p.edges h.number h.edge h.edge_is,
    get_or_from_slice_get p.edges h.number h.edge h.edge h.edge_is,
  ),
  h.from,
)

pub fit_growth : {D : Type 0} (width : D → ℕ) (p : AffineProgram) (old : List (Option D)) (at added : List D)
    → AreValues width p.exits old → FitsWidths width p at added → FitGrowth width old added
fit_growth width p old at added values widths = record {
  count = values.count ∙ sym widths.classes;
  widths = λ c a is.
      let lt = slice_get_within added c a is in
      let classes = widths.classes in
      let d = values.each c (omega (arith, lt, classes)) in
      (d.0, d.1, widths.exit_widths c a is ∙ sym d.2);
}
