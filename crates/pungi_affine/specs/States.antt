-- What contracts see of a span: its width, the scale, and the scaled rows with their pivots.
--   SpanState            these three
--   span_rank s          how many rows it has
--   SpanMember s v       v is a vector of the span
--   IsKept w d ls        the rows are the reduced form with the least scale, in the order of the pivots; there are at
--                        most 256 coordinates, not fewer than rows, and no entry is over 2^31 in absolute value
use Rattle.std.specs.Prelude.{◌≡◌, ℕ, ◌<◌, ◌≤◌, ℤ, List, length}
use Rattle.pungi_domain.specs.Vectors.{Vector}
use Rattle.pungi_affine.specs.Spans.{InSpan}
use Rattle.pungi_affine.specs.Forms.{Line, line, vectors, IsForm, IsOrdered, IsCoprime, IsBox, WithinBox}

pub record SpanState : Type 0 where
  pub width : ℕ
  pub scale : ℤ
  pub lines : List Line

abbrev pub span_rank : SpanState → ℕ
span_rank s = length s.lines

abbrev pub SpanMember : SpanState → Vector → Type 0
SpanMember s v = InSpan s.width (vectors s.lines) v

pub record IsKept (w : ℕ) (d : ℤ) (ls : List Line) : Type 0 where
  pub narrow : w ≤ 256
  pub few : length ls ≤ w
  pub form : IsForm w d ls
  pub order : IsOrdered ls
  pub coprime : IsCoprime w d ls
  pub scale : IsBox d
  pub widths : (k : ℕ) → k < length ls → length (line ls k).entries ≡ w
  pub small : (k : ℕ) → k < length ls → WithinBox (line ls k).entries
