-- Whether each number that enters a path's computations is 0: the results of the operators are fixed then.
--   IsZeroNode table x            a token of a node stands for the number 0
--   HasResultAtZero table c n     each token that enters a computation is 0, what its operator takes has 64 bits, and
--                                 this is the result
--   AreAtZero table cs, IsAtZero table k    so is each of these computations with its result; so is each of a path
--   AreNeverAtZero cs             they are so by no values of the tokens
--   HasNoZeroTable s              no values of the tokens fit a state by which its computations are so
--   MeansAtZero cs ls             values of the tokens meet bounds exactly where they are so
--   result_of_two c a b, result_at table c    what the operator of a computation gives, where both operands have 64
--                                 bits
--   results_table ns              each token is 0, and these are the results of computations
--   AreResults n cs ns            these are the results of the first n computations, where they are so, and each takes
--                                 results of earlier ones
--   Adds ls new P                 bounds with more of them, which say this too
--   IsResultAtZero table c j n    each token that enters a computation is 0, and this is the result of the jth
--   SayResults n cs ns ls         bounds say this of the first n computations
use Rattle.std.specs.Prelude.{◌≡◌, ℕ, ◌<◌, ℤ, pos, true, List, [], length, get_or, Option, Some, None}
use Rattle.pungi_types.specs.declared.kind.ValueKind.TheVariants as kinds
use Rattle.pungi_meaning.specs.Values.{number_of, fits, arithmetic, in_range}
use Rattle.pungi_symbol.specs.declared.states.computation.Computation.{Computation}
use Rattle.pungi_symbol.specs.declared.states.known.Known.{Known}
use Rattle.pungi_symbol.specs.declared.states.limit.Limit.{Limit}
use Rattle.pungi_symbol.specs.declared.states.node.Node.{Node}
use Rattle.pungi_symbol.specs.declared.states.node.Node.TheVariants as nodes
use Rattle.pungi_symbol.specs.declared.states.state.State.{State}
use Rattle.pungi_symbol.specs.states.Terms.{Table, at, computed_at, sum_value, NodeBelow}
use Rattle.pungi_symbol.specs.runs.Fits.{AreMet, FitsState}
use Rattle.pungi_symbol.specs.runs.Paths.{no_computation}

abbrev pub IsZeroNode : Table → Node → Type 0
IsZeroNode table nodes.Zero = Unit {0}
IsZeroNode table (nodes.Token t) = number_of (at table t) ≡ pos 0
IsZeroNode table (nodes.Computed j) = Unit {0}

pub record HasResultAtZero (table : Table) (c : Computation) (n : ℤ) : Type 0 where
  pub a : IsZeroNode table c.a.node
  pub b : IsZeroNode table c.b.node
  pub long_a : fits kinds.Long (sum_value table c.a) ≡ true
  pub long_b : fits kinds.Long (sum_value table c.b) ≡ true
  pub is : arithmetic c.op c.kind (sum_value table c.a) (sum_value table c.b) ≡ Some n

abbrev pub AreAtZero : Table → List Computation → Type 0
AreAtZero table cs =
    (j : ℕ) → j < length cs → HasResultAtZero table (get_or cs j no_computation) (computed_at table j)

abbrev pub AreNeverAtZero : List Computation → Type 0
AreNeverAtZero cs = (table : Table) → AreAtZero table cs → ⊥

abbrev pub IsAtZero : Table → Known → Type 0
IsAtZero table k = AreAtZero table k.computed

abbrev pub HasNoZeroTable : State → Type 0
HasNoZeroTable s = (table : Table) → FitsState table s → IsAtZero table s.known → ⊥

pub record MeansAtZero (cs : List Computation) (ls : List Limit) : Type 0 where
  pub only : (table : Table) → AreMet table ls → AreAtZero table cs
  pub all : (table : Table) → AreAtZero table cs → AreMet table ls

-- ---- the results, one after another

abbrev pub result_of_two : Computation → Option ℤ → Option ℤ → Option ℤ
result_of_two c None b = None
result_of_two c (Some a) None = None
result_of_two c (Some a) (Some b) = arithmetic c.op c.kind a b

abbrev pub result_at : Table → Computation → Option ℤ
result_at table c =
    result_of_two c (in_range kinds.Long (sum_value table c.a)) (in_range kinds.Long (sum_value table c.b))

abbrev pub results_table : List ℤ → Table
results_table ns = record { values = []; computed = ns }

pub record AreResults (n : ℕ) (cs : List Computation) (ns : List ℤ) : Type 0 where
  pub long : length ns ≡ n
  pub earlier : (j : ℕ) → j < n
      → NodeBelow j (get_or cs j no_computation).a.node × NodeBelow j (get_or cs j no_computation).b.node
  pub each : (j : ℕ) → j < n → result_at (results_table ns) (get_or cs j no_computation) ≡ Some (get_or ns j (pos 0))
  pub only : (table : Table) → AreAtZero table cs → (j : ℕ) → j < n → computed_at table j ≡ get_or ns j (pos 0)

pub record Adds (ls new : List Limit) (P : Table → Type 0) : Type 0 where
  pub only : (table : Table) → AreMet table new → AreMet table ls × P table
  pub all : (table : Table) → AreMet table ls → P table → AreMet table new

pub record IsResultAtZero (table : Table) (c : Computation) (j : ℕ) (n : ℤ) : Type 0 where
  pub a : IsZeroNode table c.a.node
  pub b : IsZeroNode table c.b.node
  pub is : computed_at table j ≡ n

pub record SayResults (n : ℕ) (cs : List Computation) (ns : List ℤ) (ls : List Limit) : Type 0 where
  pub only : (table : Table) → AreMet table ls → (j : ℕ) → j < n
      → IsResultAtZero table (get_or cs j no_computation) j (get_or ns j (pos 0))
  pub all : (table : Table) → ((j : ℕ) → j < n
      → IsResultAtZero table (get_or cs j no_computation) j (get_or ns j (pos 0))) → AreMet table ls
