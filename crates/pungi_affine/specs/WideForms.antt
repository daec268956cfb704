-- Forms whose numbers may be over 2^31.
--   IsQuotientLine g l m      the g-fold of each entry of m is that of l, at the same pivot
--   AreQuotients g ls ms      the rows of ms are so those of ls
--   IsWideForm w d ls         the rows are a reduced form in the order of their pivots, with numbers below 2^127
--   HasLargeAt ls k           a row has an entry over 2^31 in absolute value
--   IsLeastForm w ls d ms     ms are such a form of the span of ls, with as many rows, and with the least scale
--   HasLarge rs o             o is the place of a row with an entry over 2^31 in absolute value; `None` where there is
--                             no such row
use Rattle.std.specs.Prelude.{◌≡◌, ℕ, ◌<◌, ◌≤◌, ℤ, ◌*ℤ◌, List, length, Option, None, Some}
use Rattle.pungi_domain.specs.Vectors.{at}
use Rattle.pungi_domain.specs.Spans.{IsOutside}
use Rattle.pungi_affine.specs.Spans.{InSpan, SameMembers}
use Rattle.pungi_affine.specs.Forms.{Line, line, vectors, IsForm, IsOrdered, IsCoprime, WithinBox}
use Rattle.pungi_affine.specs.Parts.{IsLong, AreLong}

pub record IsQuotientLine (g : ℤ) (l m : Line) : Type 0 where
  pub pivot : m.pivot ≡ l.pivot
  pub lengths : length m.entries ≡ length l.entries
  pub exact : (i : ℕ) → i < length l.entries → g *ℤ at m.entries i ≡ at l.entries i

pub record AreQuotients (g : ℤ) (ls ms : List Line) : Type 0 where
  pub count : length ms ≡ length ls
  pub each : (k : ℕ) → k < length ls → IsQuotientLine g (line ls k) (line ms k)

pub record IsWideForm (w : ℕ) (d : ℤ) (ls : List Line) : Type 0 where
  pub narrow : w ≤ 256
  pub few : length ls ≤ w
  pub form : IsForm w d ls
  pub order : IsOrdered ls
  pub scale : IsLong d
  pub widths : (k : ℕ) → k < length ls → length (line ls k).entries ≡ w
  pub long : (k : ℕ) → k < length ls → AreLong (line ls k).entries

pub record IsLeastForm (w : ℕ) (ls : List Line) (d : ℤ) (ms : List Line) : Type 0 where
  pub wide : IsWideForm w d ms
  pub coprime : IsCoprime w d ms
  pub count : length ms ≡ length ls
  pub members : SameMembers (InSpan w (vectors ls)) (InSpan w (vectors ms))

pub record HasLargeAt (ls : List Line) (k : ℕ) : Type 0 where
  pub within : k < length ls
  pub i : ℕ
  pub i_in : i < length (line ls k).entries
  pub outside : IsOutside (at (line ls k).entries i)

abbrev pub HasLarge : List Line → Option ℕ → Type 0
HasLarge ls None = (k : ℕ) → k < length ls → WithinBox (line ls k).entries
HasLarge ls (Some k) = HasLargeAt ls k
