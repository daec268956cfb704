-- Adding vectors to a span, one after the other.
--   Sums w S vs           the span of S and these vectors
--   IsSum s vs t changed  t is the span of s and these vectors: it is s, or has more rows where that changed it
--   row_vectors ls        the rows as vectors
--   given_vectors gs      given vectors as such
--   given_at gs k         the entries of one of them
--   IsStep s b v t a      t is the span of s and v; a is whether that, or what was before, changed it
use Rattle.std.specs.Prelude.{◌≡◌, ◌⊎◌, ℕ, ◌<◌, ◌≤◌, ℤ, List, [], ◌∷◌, length, map, Bool, true, false}
use Rattle.std.specs.List.{slice_index_or}
use Rattle.pungi_domain.specs.Vectors.{Vector, Vectors, at}
use Rattle.pungi_domain.specs.Spans.{Plus}
use Rattle.pungi_affine.specs.Spans.{SameMembers}
use Rattle.pungi_affine.specs.Forms.{Line}
use Rattle.pungi_affine.specs.declared.sum.Given.{Given}
use Rattle.pungi_affine.specs.States.{SpanState, SpanMember}

abbrev pub Sums : ℕ → Vectors → List Vector → Vectors
Sums w S [] = S
Sums w S (v ∷ vs) = Sums w (Plus w S v) vs

pub record IsSum (s : SpanState) (vs : List Vector) (t : SpanState) (changed : Bool) : Type 0 where
  pub width : t.width ≡ s.width
  pub members : SameMembers (Sums s.width (SpanMember s) vs) (SpanMember t)
  pub unchanged : changed ≡ false → t ≡ s
  pub rose : changed ≡ true → length s.lines < length t.lines
  pub few : length s.lines ≤ s.width → length t.lines ≤ t.width

abbrev pub row_vectors : List Line → List Vector
row_vectors ls = map (λ l. at l.entries) ls

abbrev pub given_vectors : List Given → List Vector
given_vectors gs = map (λ g. at g.entries.items) gs

pub record IsStep (s : SpanState) (before : Bool) (v : Vector) (t : SpanState) (after : Bool) : Type 0 where
  pub width : t.width ≡ s.width
  pub members : SameMembers (Plus s.width (SpanMember s) v) (SpanMember t)
  pub unchanged : after ≡ false → (t ≡ s) × (before ≡ false)
  pub rose : after ≡ true → (length s.lines < length t.lines) ⊎ ((t ≡ s) × (before ≡ true))
  pub few : length s.lines ≤ s.width → length t.lines ≤ t.width

abbrev pub given_at : List Given → ℕ → List ℤ
given_at gs k = slice_index_or (map (λ g. g.entries.items) gs) k []
