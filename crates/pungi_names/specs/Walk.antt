-- A walk along typedefs.
--   on_path ps w        a word is among those that were walked by, the latest first
--   IsPath step s ps v  from s by these words to v, each with the stars that its typedef adds
--   ReachesSome step w o    what may be found under a word is what it reaches
--   AllReach step find  what is found under a word is what it reaches
--   EndsAt step ps v o  where a walk ends: at what the word reaches, or at a word that was walked by
use Rattle.std.specs.Prelude.{◌≡◌, ℕ, ◌==◌, Bool, false, ◌||◌, List, [], ◌∷◌, Option, Some, None, IsTrue}
use Rattle.pungi_types.specs.Kinds.{Followed}
use Rattle.pungi_names.specs.Depth.{TypedefTarget, Reaches, Leads}

abbrev pub on_path : List (ℕ × ℕ) → ℕ → Bool
on_path [] w = false
on_path (p ∷ ps) w = p.0 == w || on_path ps w

abbrev pub IsPath : (ℕ → ℕ → Followed) → ℕ → List (ℕ × ℕ) → ℕ → Type 0
IsPath step s [] v = s ≡ v
IsPath step s (p ∷ ps) v = Leads step p.0 p.1 v × IsPath step s ps p.0

abbrev pub ReachesSome : (ℕ → ℕ → Followed) → ℕ → Option TypedefTarget → Type 0
ReachesSome step w None = Unit {0}
ReachesSome step w (Some r) = Reaches step w r

abbrev pub AllReach : (ℕ → ℕ → Followed) → (ℕ → Option TypedefTarget) → Type 0
AllReach step find = (w : ℕ) → ReachesSome step w (find w)

abbrev pub EndsAt : (ℕ → ℕ → Followed) → List (ℕ × ℕ) → ℕ → Option TypedefTarget → Type 0
EndsAt step ps v None = IsTrue (on_path ps v)
EndsAt step ps v (Some r) = Reaches step v r
