-- Adding a vector to a span.
--   Adds s v t      t is the span of s and v, which was not in s; it has one row more, and not more than coordinates
--   AddsTo s v o    o is such a span, or none where v is in s
--   joined s ms     the width and the scale of s, and the rows ms
--   IsPlainFor s l  the row l may be added to those of s: they may be kept then
--   IsJoinedSpan s l t   t is the span of the rows of s and l
--   IsPlainChange s v l   adding v to s adds the row l
--   IsChange s v c  c is what adding v to s does
use Rattle.std.specs.Prelude.{◌≡◌, ◌+◌, ◌≤◌, List, length, Option, None, Some}
use Rattle.pungi_domain.specs.Vectors.{Vector}
use Rattle.pungi_domain.specs.Spans.{Plus}
use Rattle.pungi_affine.specs.Spans.{SameMembers}
use Rattle.pungi_affine.specs.Forms.{Line, WithinBox}
use Rattle.pungi_affine.specs.Parts.{wide_line}
use Rattle.pungi_affine.specs.Joins.{IsJoined}
use Rattle.pungi_affine.specs.States.{SpanState, SpanMember, IsKept}
use Rattle.pungi_affine.specs.declared.add.Change.{Change}
use Rattle.pungi_affine.specs.declared.add.Change.TheVariants.{Nothing, Plain, Other}

pub record Adds (s : SpanState) (v : Vector) (t : SpanState) : Type 0 where
  pub width : t.width ≡ s.width
  pub more : length t.lines ≡ length s.lines + 1
  pub few : length t.lines ≤ t.width
  pub members : SameMembers (Plus s.width (SpanMember s) v) (SpanMember t)
  pub new : SpanMember s v → ⊥

abbrev pub AddsTo : SpanState → Vector → Option SpanState → Type 0
AddsTo s v None = SpanMember s v
AddsTo s v (Some t) = Adds s v t

abbrev pub joined : SpanState → List Line → SpanState
joined s ms = record { width = s.width; scale = s.scale; lines = ms }

pub record IsPlainFor (s : SpanState) (l : Line) : Type 0 where
  pub small : WithinBox l.entries
  pub kept : (ms : List Line) → IsJoined s.lines l ms → IsKept s.width s.scale ms

pub record IsJoinedSpan (s : SpanState) (l : Line) (t : SpanState) : Type 0 where
  pub rows : IsJoined s.lines l t.lines
  pub is : t ≡ joined s t.lines

pub record IsPlainChange (s : SpanState) (v : Vector) (l : Line) : Type 0 where
  pub plain : IsPlainFor s l
  pub adds : (ms : List Line) → IsJoined s.lines l ms → Adds s v (joined s ms)

abbrev pub IsChange : SpanState → Vector → Change → Type 0
IsChange s v Nothing = SpanMember s v
IsChange s v (Plain r) = IsPlainChange s v (wide_line r)
IsChange s v (Other t) = Adds s v t
