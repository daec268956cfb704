-- What `Bounds` holds, and its additions.
--   State                       how contracts see it: the nodes, the room, the constraints held, and the last cycle
--   Kept held value             the values are the greatest that meet the constraints and are at most 0
--   Roomy nodes held value ..   the room that the calls use
--   AddsOk old k new            the constraint is held, and no round of it has a sum below 0
--   AddsNot old k new           the constraint isn't held, and a round of it with a sum below 0 is the cycle
--   Adds old k new result       one of these, by the result
--   Solution s values           values that meet all constraints, with node 0 at 0
--   MeetsIf v k result          whether values meet a constraint
--   Extends held new value ..   the values meet the new constraint too, or the round shows that none do
--   Moves value values          each value less that of node 0
use Rattle.std.specs.Prelude.{◌≡◌, ℕ, ◌<◌, ◌≤◌, ℤ, pos, ◌≤ℤ◌, ◌<ℤ◌, List, [], ◌∷◌, ◌++◌, length, Result, Ok, Err, Bool}
use Rattle.std.specs.Prelude.{true, false, ◌+ℤ◌, ◌-ℤ◌}
use Rattle.std.specs.List.{All}
use Rattle.pungi_diff.specs.declared.constraint.Constraint.{Constraint}
use Rattle.pungi_diff.specs.Constraint.{at, Meets, Solves, InRange, IsStep}
use Rattle.pungi_diff.specs.Round.{GoesRound}

pub record State : Type 0 where
  pub nodes : ℕ
  pub room : ℕ
  pub held : List Constraint
  pub cycle : List Constraint

pub record Kept (held : List Constraint) (value : List ℤ) : Type 0 where
  pub some_node : 0 < length value
  pub few : length value ≤ 65536
  pub range : InRange (length value) held
  pub steps : All IsStep held
  pub solves : Solves (at value) held
  pub top : (u : ℕ) → u < length value → at value u ≤ℤ pos 0
  pub greatest : (s : ℕ → ℤ) → Solves s held → ((u : ℕ) → u < length value → s u ≤ℤ pos 0) → (u : ℕ)
      → u < length value → s u ≤ℤ at value u

pub record Roomy (nodes : ℕ) (value gap : List ℤ) (rank : List ℕ) (via : List Constraint)
    (fringe_room round_room : ℕ) : Type 0 where
  pub values : length value ≡ nodes
  pub gaps : length gap ≡ length value
  pub ranks : length rank ≡ length value
  pub vias : length via ≡ length value
  pub fringe_fits : length value ≤ fringe_room
  pub round_fits : length value < round_room

pub record AddsOk (old : State) (k : Constraint) (new : State) : Type 0 where
  pub held : new.held ≡ old.held ++ k ∷ []
  pub none : (ks : List Constraint) → GoesRound old.held k ks → ⊥
  pub cycle : new.cycle ≡ old.cycle
  pub nodes : new.nodes ≡ old.nodes
  pub room : new.room ≡ old.room

pub record AddsNot (old : State) (k : Constraint) (new : State) : Type 0 where
  pub held : new.held ≡ old.held
  pub round : GoesRound old.held k new.cycle
  pub nodes : new.nodes ≡ old.nodes
  pub room : new.room ≡ old.room

abbrev pub Adds : {T E : Type 0} → State → Constraint → State → Result T E → Type 0
Adds old k new (Ok u) = AddsOk old k new
Adds old k new (Err e) = AddsNot old k new

pub record Solution (s : State) (values : List ℤ) : Type 0 where
  pub all_nodes : length values ≡ s.nodes
  pub solves : Solves (at values) s.held
  pub zero : at values 0 ≡ pos 0

abbrev pub MeetsIf : (ℕ → ℤ) → Constraint → Bool → Type 0
MeetsIf v k true = Meets v k
MeetsIf v k false = (v k.y +ℤ k.c) <ℤ v k.x

abbrev pub Extends : List Constraint → Constraint → List ℤ → List Constraint → List Constraint → Bool → Type 0
Extends held new value before round true = Kept (held ++ new ∷ []) value × (round ≡ before)
Extends held new value before round false = Kept held value × GoesRound held new round

pub record Moves (value values : List ℤ) : Type 0 where
  pub lengths : length values ≡ length value
  pub each : (u : ℕ) → u < length value → at values u ≡ at value u -ℤ at value 0
