-- Rows combined with one another.
--   IsWide z                   z is at most 2^94 + 2^59 in absolute value
--   IsNarrow e                 the coefficients after the first are at most 2^20 in absolute value
--   IsResidual d ls v u        u is what is left of the d-fold of v without the rows
--   IsLeftPart d ls v o        o is what is left, without the common divisor of its entries
--   mixed_entry u q r i        the row r times u's entry at q less u times r's entry at q, at a coordinate: it is 0 at
--                              q
--   IsMixed u q r x            x is this row
--   AreMixed u q ls ms         ms are these rows of ls, at the same pivots
--   IsMultiple d l m           m is the d-fold of the row l, at the same pivot
--   IsPlace ls q p             p rows have their pivot before q
--   IsExtended d ls l e ms      ms are the mixed rows of ls and, in its place, the d-fold of the row l
--   IsExtension w ls v e ms    ms are a form of the span of v and the rows ls, with one row more
use Rattle.std.specs.Prelude.{◌≡◌, ℕ, ◌+◌, ◌<◌, ◌≤◌, ◌^◌, ℤ, ◌-ℤ◌, ◌*ℤ◌, List, ◌∷◌, length, Option}
use Rattle.std.specs.List.{insert}
use Rattle.pungi_domain.specs.Vectors.{at, IsWithin}
use Rattle.pungi_affine.specs.Spans.{InSpan, SameMembers}
use Rattle.pungi_affine.specs.Forms.{Line, line, vectors}
use Rattle.pungi_affine.specs.Steps.{residual}
use Rattle.pungi_affine.specs.Parts.{AreLong, IsPartOf}
use Rattle.pungi_affine.specs.WideForms.{IsWideForm}
use Rattle.pungi_affine.specs.declared.part.WideRow.{WideRow}

abbrev pub IsWide : ℤ → Type 0
IsWide z = IsWithin (2 ^ 94 + 2 ^ 59) z

abbrev pub IsNarrow : List ℤ → Type 0
IsNarrow e = (i : ℕ) → 0 < i → i < length e → IsWithin (2 ^ 20) (at e i)

pub record IsResidual (d : ℤ) (ls : List Line) (v u : List ℤ) : Type 0 where
  pub lengths : length u ≡ length v
  pub each : (i : ℕ) → i < length v → at u i ≡ residual d ls (at v) i
  pub within : (i : ℕ) → i < length v → IsWithin (2 ^ 71) (at u i)

abbrev pub IsLeftPart : ℤ → List Line → List ℤ → Option WideRow → Type 0
IsLeftPart d ls v o = (u : List ℤ) × IsResidual d ls v u × IsPartOf u o

abbrev pub mixed_entry : List ℤ → ℕ → List ℤ → ℕ → ℤ
mixed_entry u q r i = (at u q *ℤ at r i) -ℤ (at u i *ℤ at r q)

pub record IsMixed (u : List ℤ) (q : ℕ) (l m : Line) : Type 0 where
  pub pivot : m.pivot ≡ l.pivot
  pub lengths : length m.entries ≡ length u
  pub each : (i : ℕ) → i < length u → at m.entries i ≡ mixed_entry u q l.entries i
  pub long : AreLong m.entries

pub record AreMixed (u : List ℤ) (q : ℕ) (ls ms : List Line) : Type 0 where
  pub count : length ms ≡ length ls
  pub each : (k : ℕ) → k < length ls → IsMixed u q (line ls k) (line ms k)

pub record IsMultiple (d : ℤ) (l m : Line) : Type 0 where
  pub pivot : m.pivot ≡ l.pivot
  pub lengths : length m.entries ≡ length l.entries
  pub each : (i : ℕ) → i < length l.entries → at m.entries i ≡ d *ℤ at l.entries i
  pub long : AreLong m.entries

pub record IsPlace (ls : List Line) (q p : ℕ) : Type 0 where
  pub within : p ≤ length ls
  pub before : (k : ℕ) → k < p → (line ls k).pivot < q
  pub after : p < length ls → q ≤ (line ls p).pivot

pub record IsExtended (d : ℤ) (ls : List Line) (l : Line) (e : ℤ) (ms : List Line) : Type 0 where
  pub mixes : List Line
  pub mixed : AreMixed l.entries l.pivot ls mixes
  pub new : Line
  pub multiple : IsMultiple d l new
  pub place : ℕ
  pub is_place : IsPlace ls l.pivot place
  pub rows : ms ≡ insert mixes place new
  pub scale : e ≡ d *ℤ at l.entries l.pivot

pub record IsExtension (w : ℕ) (ls : List Line) (v : List ℤ) (e : ℤ) (ms : List Line) : Type 0 where
  pub wide : IsWideForm w e ms
  pub count : length ms ≡ length ls + 1
  pub members : SameMembers (InSpan w (v ∷ vectors ls)) (InSpan w (vectors ms))
