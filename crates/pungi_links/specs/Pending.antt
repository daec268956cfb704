-- A list without repeats of numbers below a limit, linked by index: a ring through them and the limit.
--   PendingState             how contracts see it: the limit and the list
--   listed links end         the list, which is what follows the end in its ring
--   IsQueue links end        the list is in the ring of the end, and every other number is alone
--   IsPending s              the numbers of the list are below the limit, and none stands twice
--   Puts old i new result    the number is last, if it wasn't in the list; otherwise nothing changes
--   Takes old new result     the first number is removed, if there is one
use Rattle.std.specs.Prelude.{◌≡◌, ℕ, ◌+◌, ◌<◌, List, [], ◌∷◌, ◌++◌, length, slice_index, Bool, true, false, Option}
use Rattle.std.specs.Prelude.{None, Some}
use Rattle.pungi_links.specs.Ring.{Stands, NoRepeat, IsRing, way}

pub record PendingState : Type 0 where
  pub limit : ℕ
  pub list : List ℕ

abbrev pub listed : List ℕ → ℕ → List ℕ
listed links end = way links (slice_index links end) end

pub record IsQueue (links : List ℕ) (end : ℕ) : Type 0 where
  pub all : length links ≡ end + 1
  pub ring : IsRing links end (end ∷ listed links end)
  pub alone : (i : ℕ) → i < end → (Stands i (listed links end) → ⊥) → IsRing links i (i ∷ [])

pub record IsPending (s : PendingState) : Type 0 where
  pub below : (i : ℕ) → Stands i s.list → i < s.limit
  pub distinct : NoRepeat s.list

abbrev pub Puts : PendingState → ℕ → PendingState → Bool → Type 0
Puts old i new true = (Stands i old.list → ⊥) × (new ≡ record old { list = old.list ++ i ∷ [] })
Puts old i new false = Stands i old.list × (new ≡ old)

abbrev pub Takes : PendingState → PendingState → Option ℕ → Type 0
Takes old new None = (old.list ≡ []) × (new ≡ old)
Takes old new (Some i) = old ≡ record new { list = i ∷ new.list }
