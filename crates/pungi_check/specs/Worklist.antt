-- The worklist over calls: functions are marked as refused, and those whose callers are still to be marked wait.
--   items_in o              the numbers of a list that may be missing
--   callers_at cs j         the callers of function j
--   NoCallers n cs          so many functions, none of which has a caller
--   AreCallers fs cs        the lists are those of the callers of each function
--   Added old new i js      the lists, with i as a caller of each of these
--   is_marked marks i       function i is marked
--   unmarked marks          how many are not
--   Visited old new w w' is    these were marked, and those that were not marked before wait
use Rattle.std.specs.Prelude.{◌≡◌, ℕ, ◌+◌, ◌<◌, ◌==◌, nat_lt, Bool, true, false, ◌&&◌, ◌||◌, not, List, [], ◌∷◌, length}
use Rattle.std.specs.Prelude.{get_or, slice_get, Option, Some, None, Vec}
use Rattle.std.specs.declared.alloc.Global.{Global}
use Rattle.pungi_types.specs.Names.{is_among}
use Rattle.pungi_check.specs.CallGraph.{is_call}
use Rattle.pungi_check.specs.declared.call_node.CallNode.{CallNode}

abbrev pub items_in : Option (Vec ℕ Global) → List ℕ
items_in None = []
items_in (Some v) = v.items

abbrev pub callers_at : List (Vec ℕ Global) → ℕ → List ℕ
callers_at cs j = items_in (slice_get cs j)

pub record AreCallers (fs : List CallNode) (cs : List (Vec ℕ Global)) : Type 0 where
  pub count : length cs ≡ length fs
  pub calls : (i j : ℕ) → j < length fs → is_among (callers_at cs j) i ≡ is_call fs i j

pub record Added (old new : List (Vec ℕ Global)) (i : ℕ) (js : List ℕ) : Type 0 where
  pub count : length new ≡ length old
  pub adds : (j m : ℕ) → j < length old → is_among (callers_at new j) m
      ≡ (is_among (callers_at old j) m || (m == i && is_among js j))

abbrev pub is_marked : List Bool → ℕ → Bool
is_marked marks i = get_or marks i false

abbrev pub unmarked : List Bool → ℕ
unmarked [] = 0
unmarked (true ∷ marks) = unmarked marks
unmarked (false ∷ marks) = unmarked marks + 1

pub record Visited (old new : List Bool) (w w' is : List ℕ) : Type 0 where
  pub count : length new ≡ length old
  pub marks : (i : ℕ) → is_marked new i ≡ (is_marked old i || (is_among is i && nat_lt i (length old)))
  pub waits : (i : ℕ) → is_among w' i ≡ (is_among w i || (is_marked new i && not (is_marked old i)))
  pub weight : unmarked new + length w' ≡ unmarked old + length w

-- so many functions, none of which has a caller
pub record NoCallers (n : ℕ) (cs : List (Vec ℕ Global)) : Type 0 where
  pub count : length cs ≡ n
  pub none : (j : ℕ) → callers_at cs j ≡ []
