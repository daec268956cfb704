-- Common divisors.
--   IsCommon a b g     g divides a and b, and what divides their e-folds divides that of g
--   IsContent xs g     g divides each number, and what divides their e-folds divides that of g
--   IsDivisor xs g     the same, for a whole number g
--   IsShared d ls g    the same of a number d and the entries of all rows
use Rattle.std.specs.Prelude.{ℕ, ◌*◌, ◌<◌, List, ℤ, ◌*ℤ◌, length}
use Rattle.std.specs.Int.RustNames.{unsigned_abs}
use Rattle.std.specs.List.{All}
use Rattle.pungi_domain.specs.Vectors.{at}
use Rattle.pungi_domain.specs.Spans.{Divides}
use Rattle.pungi_affine.specs.Forms.{Line, line}
use Prim.Native.Nat.{◌∣◌}

pub record IsCommon (a b g : ℕ) : Type 0 where
  pub left : g ∣ a
  pub right : g ∣ b
  pub combines : (m e : ℕ) → m ∣ (e * a) → m ∣ (e * b) → m ∣ (e * g)

pub record IsContent (xs : List ℤ) (g : ℕ) : Type 0 where
  pub divides : All (λ x. g ∣ unsigned_abs x) xs
  pub combines : (m e : ℕ) → All (λ x. m ∣ (e * unsigned_abs x)) xs → m ∣ (e * g)

pub record IsDivisor (xs : List ℤ) (g : ℤ) : Type 0 where
  pub divides : (i : ℕ) → i < length xs → Divides g (at xs i)
  pub combines : (m e : ℤ) → ((i : ℕ) → i < length xs → Divides m (e *ℤ at xs i)) → Divides m (e *ℤ g)

pub record IsShared (d : ℤ) (ls : List Line) (g : ℤ) : Type 0 where
  pub scale : Divides g d
  pub rows : (k : ℕ) → k < length ls → (i : ℕ) → i < length (line ls k).entries → Divides g (at (line ls k).entries i)
  pub combines : (m e : ℤ) → Divides m (e *ℤ d)
      → ((k : ℕ) → k < length ls → (i : ℕ) → i < length (line ls k).entries
      → Divides m (e *ℤ at (line ls k).entries i)) → Divides m (e *ℤ g)
