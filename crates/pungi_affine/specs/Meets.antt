-- The vectors of a span that meet an equation.
--   AreSums t e ls s        s has for each row its coefficients times entries, summed up, times the number t, which
--                           isn't 0
--   IsLastOf s p            p is the last place with an entry other than 0
--   LastOf s o              o is the last place with an entry other than 0; `None` where all are 0
--   IsCrossed a l b k m     m is the a-fold of the row l less the b-fold of the row k, at the pivot of l
--   AreCrossed s p ls ms    ms are the rows of ls times s's entry at p, less the row at p times s's entry at theirs
--   crossed_entry a l b k i    an entry of such a row
--   IsTurned s p r          r is a multiple of s with an entry above 0 at p
--   IsMetForm d ls s p e ms ms are the crossed rows without the one at p, and e is their scale
use Rattle.std.specs.Prelude.{◌≡◌, ℕ, ◌<◌, ℤ, pos, ◌-ℤ◌, ◌*ℤ◌, ◌<ℤ◌, List, length, Option, None, Some}
use Rattle.std.specs.List.{remove}
use Rattle.pungi_domain.specs.Vectors.{at, dot}
use Rattle.pungi_affine.specs.Forms.{Line, line}
use Rattle.pungi_affine.specs.Parts.{IsLong, AreLong}
use Rattle.pungi_affine.specs.Mixes.{IsWide}

pub record AreSums (t : ℤ) (e : List ℤ) (ls : List Line) (s : List ℤ) : Type 0 where
  pub count : length s ≡ length ls
  pub each : (k : ℕ) → k < length ls → at s k ≡ t *ℤ dot e (at (line ls k).entries)
  pub wide : (k : ℕ) → k < length ls → IsWide (at s k)

pub record IsLastOf (s : List ℤ) (p : ℕ) : Type 0 where
  pub within : p < length s
  pub entry : at s p ≡ pos 0 → ⊥
  pub after : (k : ℕ) → p < k → k < length s → at s k ≡ pos 0

abbrev pub LastOf : List ℤ → Option ℕ → Type 0
LastOf s None = (k : ℕ) → k < length s → at s k ≡ pos 0
LastOf s (Some p) = IsLastOf s p

pub record IsCrossed (a : ℤ) (l : Line) (b : ℤ) (k m : Line) : Type 0 where
  pub pivot : m.pivot ≡ l.pivot
  pub lengths : length m.entries ≡ length l.entries
  pub each : (i : ℕ) → i < length l.entries → at m.entries i ≡ (a *ℤ at l.entries i) -ℤ (b *ℤ at k.entries i)
  pub long : AreLong m.entries

pub record AreCrossed (s : List ℤ) (p : ℕ) (ls ms : List Line) : Type 0 where
  pub count : length ms ≡ length ls
  pub each : (k : ℕ) → k < length ls → IsCrossed (at s p) (line ls k) (at s k) (line ls p) (line ms k)

abbrev pub crossed_entry : ℤ → Line → ℤ → Line → ℕ → ℤ
crossed_entry a l b k i = (a *ℤ at l.entries i) -ℤ (b *ℤ at k.entries i)

pub record IsTurned (s : List ℤ) (p : ℕ) (r : List ℤ) : Type 0 where
  pub count : length r ≡ length s
  pub times : ℤ
  pub not_zero : times ≡ pos 0 → ⊥
  pub each : (k : ℕ) → k < length s → at r k ≡ times *ℤ at s k
  pub positive : pos 0 <ℤ at r p
  pub wide : (k : ℕ) → k < length r → IsWide (at r k)

pub record IsMetForm (d : ℤ) (ls : List Line) (s : List ℤ) (p : ℕ) (e : ℤ) (ms : List Line) : Type 0 where
  pub crosses : List Line
  pub crossed : AreCrossed s p ls crosses
  pub rows : ms ≡ remove crosses p
  pub scale : e ≡ d *ℤ at s p
  pub long : IsLong e
