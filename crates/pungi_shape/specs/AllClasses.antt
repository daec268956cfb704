-- The exit classes of all functions of a file, and what is known of them while they are searched.
--   AreExitsBy codes others f xs    these are the exit classes that are found of a function where those that it calls
--                           leave by given classes alone, in order
--   AreFoundClasses codes f xs      exit classes of a function are found
--   HasClasses codes cs f   a function has a list of such classes
--   HaveCallees codes cs f  so has each function that it calls
--   AreAllClasses codes cs  for each function these are its exit classes; it has no list where it is too large; and one
--                           that has a list calls only functions that have one
--   AreFoundNow codes cs f xs       each function that it calls has a list, and these classes are found by those
--   IsFoundNow codes cs f o so it is with what a search gave; or the function is too large
--   AreFoundSoFar codes cs f xs     where each function that it calls has a list, a function's classes are found by
--                           those
--   IsAllFound codes cs f xs        each function that it calls has a list, and what is found by those is among these
--   IsSettling codes cs list        so it is with each function that has code and a list, but for those that wait
--   has_more o n            what a search gave is more than n classes: further ones, or that the function is too large
--   IsGrown, IsLeftAlone, IsKept o f callers cs cs' list list'    where it is more than was known, it is put in place
--                           of that, and the callers wait; where it isn't, nothing changes; one of both
--   room_in o, room cs      how often the list of a function can change, those of all
--   work lists cs list      how often functions can be taken from the list of those that wait
use Rattle.std.specs.Prelude.{◌≡◌, ◌⊎◌, ℕ, ◌+◌, ◌*◌, ◌-◌, ◌≤◌, nat_lt, Bool, true, false, List, length}
use Rattle.std.specs.Prelude.{Option, Some, None, slice_get, slice_set}
use Rattle.std.specs.List.{All, IsAmong, sum_by}
use Rattle.pungi_code.specs.declared.code.Code.{Code}
use Rattle.pungi_code.specs.declared.code.Codes.{Codes}
use Rattle.pungi_code.specs.Run.{code_at}
use Rattle.pungi_links.specs.Ring.{Stands}
use Rattle.pungi_shape.specs.declared.shape.Shape.{Shape}
use Rattle.pungi_shape.specs.Named.{callees_of}
use Rattle.pungi_shape.specs.Edges.{to_exit}
use Rattle.pungi_shape.specs.Limits.{most_places}
use Rattle.pungi_shape.specs.Programs.{AreExits, IsFound, IsTooLarge, Rises, exit_cmp}
use Rattle.pungi_shape.specs.Classes.{AreClasses, AreClassesOf, ClassLists, classes_of, has_list}
use Rattle.pungi_shape.specs.FoundBy.{IsFoundBy}

pub record AreExitsBy (codes : Codes) (others : ℕ → List Shape) (f : ℕ) (xs : List Shape) : Type 0 where
  pub rise : Rises exit_cmp xs
  pub found : All (λ x. IsFoundBy codes others f (to_exit x)) xs
  pub all : (x : Shape) → IsFoundBy codes others f (to_exit x) → IsAmong xs x

pub record AreFoundClasses (codes : Codes) (f : ℕ) (xs : List Shape) : Type 0 where
  pub classes : AreClassesOf codes f xs
  pub found : All (λ x. IsFound codes f (to_exit x)) xs

abbrev pub HasClasses : Codes → ClassLists → ℕ → Type 0
HasClasses codes cs f = (xs : List Shape) × ((slice_get cs f ≡ Some (Some xs)) × AreFoundClasses codes f xs)

abbrev pub HaveCallees : Codes → ClassLists → ℕ → Type 0
HaveCallees codes cs f = (g : ℕ) → IsAmong (callees_of codes f) g → HasClasses codes cs g

pub record AreAllClasses (codes : Codes) (cs : ClassLists) : Type 0 where
  pub count : length cs ≡ length codes.codes
  pub classes : AreClasses codes (classes_of cs)
  pub exits : (f : ℕ) (xs : List Shape) → slice_get cs f ≡ Some (Some xs) → AreExits codes f xs
  pub large : (f : ℕ) → slice_get cs f ≡ Some None → IsTooLarge codes f
  pub callees : (f g : ℕ) (xs : List Shape) → slice_get cs f ≡ Some (Some xs) → IsAmong (callees_of codes f) g
      → has_list (slice_get cs g) ≡ true

-- ---- what a search gave

pub record AreFoundNow (codes : Codes) (cs : ClassLists) (f : ℕ) (xs : List Shape) : Type 0 where
  pub known : AreFoundClasses codes f xs
  pub callees : HaveCallees codes cs f
  pub exits : AreExitsBy codes (classes_of cs) f xs

abbrev pub IsFoundNow : Codes → ClassLists → ℕ → Option (List Shape) → Type 0
IsFoundNow codes cs f None = IsTooLarge codes f
IsFoundNow codes cs f (Some xs) = AreFoundNow codes cs f xs

-- ---- while they are searched

pub record AreFoundSoFar (codes : Codes) (cs : ClassLists) (f : ℕ) (xs : List Shape) : Type 0 where
  pub known : AreFoundClasses codes f xs
  pub by : HaveCallees codes cs f → All (λ x. IsFoundBy codes (classes_of cs) f (to_exit x)) xs

pub record IsAllFound (codes : Codes) (cs : ClassLists) (f : ℕ) (xs : List Shape) : Type 0 where
  pub callees : HaveCallees codes cs f
  pub all : (x : Shape) → IsFoundBy codes (classes_of cs) f (to_exit x) → IsAmong xs x

pub record IsSettling (codes : Codes) (cs : ClassLists) (list : List ℕ) : Type 0 where
  pub count : length cs ≡ length codes.codes
  pub known : (f : ℕ) (xs : List Shape) → slice_get cs f ≡ Some (Some xs) → AreFoundSoFar codes cs f xs
  pub large : (f : ℕ) → slice_get cs f ≡ Some None → IsTooLarge codes f
  pub settled : (f : ℕ) (xs : List Shape) (code : Code) → code_at codes f ≡ Some code
      → slice_get cs f ≡ Some (Some xs) → Stands f list ⊎ IsAllFound codes cs f xs

abbrev pub has_more : Option (List Shape) → ℕ → Bool
has_more None n = true
has_more (Some xs) n = nat_lt n (length xs)

pub record IsGrown (o : Option (List Shape)) (f : ℕ) (callers : List ℕ) (cs cs' : ClassLists) (list list' : List ℕ)
    : Type 0 where
  pub more : has_more o (length (classes_of cs f)) ≡ true
  pub put : cs' ≡ slice_set cs f o
  pub kept : (g : ℕ) → Stands g list → Stands g list'
  pub wait : (g : ℕ) → Stands g callers → Stands g list'
  pub few : length list' ≤ length list + length callers

pub record IsLeftAlone (o : Option (List Shape)) (f : ℕ) (cs cs' : ClassLists) (list list' : List ℕ) : Type 0 where
  pub less : has_more o (length (classes_of cs f)) ≡ false
  pub classes : cs' ≡ cs
  pub same : list' ≡ list

abbrev pub IsKept : Option (List Shape) → ℕ → List ℕ → ClassLists → ClassLists → List ℕ → List ℕ → Type 0
IsKept o f callers cs cs' list list' = IsGrown o f callers cs cs' list list' ⊎ IsLeftAlone o f cs cs' list list'

-- ---- how long it takes

abbrev pub room_in : Option (List Shape) → ℕ
room_in None = 0
room_in (Some xs) = 1 + (most_places - length xs)

abbrev pub room : ClassLists → ℕ
room cs = sum_by room_in cs

abbrev pub work : List (List ℕ) → ClassLists → List ℕ → ℕ
work lists cs list = room cs * (1 + sum_by length lists) + length list
