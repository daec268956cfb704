-- The places that leave a verdict open: which comes first, and at which the free runs of a function stand.
use Rattle.std.proofs.Common.{◌≡◌, ℕ, List, [], ◌∷◌, Bool, true, false, refl, sym, ap, ◌∙◌, subst, arith}
use Rattle.std.proofs.Common.{◌⊎◌, inl, inr, cond, Option, None, Some, length}
use Rattle.std.proofs.lemmas.Bool.Decides.{nat_tests}
use Rattle.pungi_base.specs.declared.pos.Pos.{Pos}
use Rattle.pungi_code.specs.declared.code.Code.{Code}
use Rattle.pungi_code.specs.declared.code.Codes.{Codes}
use Rattle.pungi_code.specs.Run.{code_at}
use Rattle.pungi_symbol.specs.declared.states.computation.Computation.{Computation}
use Rattle.pungi_symbol.specs.declared.states.known.Known.{Known}
use Rattle.pungi_symbol.specs.declared.states.known.Status.{Status}
use Rattle.pungi_symbol.specs.declared.states.known.Status.TheVariants as status
use Rattle.pungi_symbol.specs.declared.states.obstacle.Obstacle.{Obstacle}
use Rattle.pungi_symbol.specs.declared.states.obstacle.Obstacle.TheVariants.{Number, Loop}
use Rattle.pungi_symbol.specs.declared.states.state.State.{State}
use Rattle.pungi_symbol.specs.declared.states.term.Term.{Term}
use Rattle.pungi_symbol.specs.answers.KnownAfter.{number_place_by}
use Rattle.pungi_symbol.specs.states.NumberPlaces.{is_earlier, earliest, place_among}
use Rattle.pungi_symbol.specs.states.Terms.{Table}
use Rattle.pungi_symbol.specs.runs.Fits.{FitsState}
use Rattle.pungi_symbol.specs.runs.Paths.{Path, HasNoTable}
use Rattle.pungi_symbol.specs.runs.AtZero.{HasNoZeroTable}
use Rattle.pungi_symbol.specs.Promises.{AllLevel, LevelBy, OffBy, IsOffIn}
use Rattle.pungi_explore.specs.declared.seen.Seen.{Seen}
use Rattle.pungi_explore.specs.Explored.{StandsAt, IsOffAt}
use Rattle.pungi_explore.specs.Traces.{HasEnded, states_after}
use Rattle.pungi_explore.specs.Visits.{IsFollowed, seen_at, seen_with}
use Rattle.pungi_explore.proofs.Begins.{Told, Begins, stays, answers, begins, ended_asks, IsLevelOrOff}
use Rattle.pungi_explore.proofs.Each.{Each}
use Rattle.pungi_explore.proofs.Listed.{after_each}
use Rattle.pungi_explore.proofs.Trees.{IsGone}

-- ---- places

-- where none was seen there is no place; else it isn't before the one that was
abbrev pub IsNotBefore : Option Pos → Pos → Type 0
IsNotBefore None p = ⊥
IsNotBefore (Some q) p = is_earlier p q ≡ false

not_itself : (p : Pos) → is_earlier p p ≡ false
not_itself p = grind (arith, nat_tests)

-- what is before a place is before what isn't before it
not_before : (p q r : Pos) → is_earlier p q ≡ true → is_earlier r q ≡ false → is_earlier r p ≡ false
not_before p q r e f = grind (arith, nat_tests)

not_before_earliest : (q p r : Pos) (b : Bool) → is_earlier p q ≡ b → is_earlier r q ≡ false
    → is_earlier r (cond b p q) ≡ false
not_before_earliest q p r true e f = not_before p q r e f
not_before_earliest q p r false e f = f

still_not_before : (seen : Option Pos) (p r : Pos) → IsNotBefore seen r → IsNotBefore (Some (earliest seen p)) r
still_not_before None p r h = absurd h
still_not_before (Some q) p r h = not_before_earliest q p r (is_earlier p q) refl h

this_not_before : (q p : Pos) (b : Bool) → is_earlier p q ≡ b → is_earlier p (cond b p q) ≡ false
this_not_before q p true e = not_itself p
this_not_before q p false e = e

one_not_before : (seen : Option Pos) (p : Pos) → IsNotBefore (Some (earliest seen p)) p
one_not_before None p = not_itself p
one_not_before (Some q) p = this_not_before q p (is_earlier p q) refl

-- ---- what was seen, with one place more

-- a place that isn't before what was seen isn't before what is seen then
pub still_not_before_seen : (other o : Obstacle) (seen : Seen) (p r : Pos) → IsNotBefore (seen_at other seen) r
    → IsNotBefore (seen_at other (seen_with seen o p)) r
still_not_before_seen Number Number seen p r h = still_not_before seen.number p r h
still_not_before_seen Number Loop seen p r h = h
still_not_before_seen Loop Number seen p r h = h
still_not_before_seen Loop Loop seen p r h = still_not_before seen.cut p r h

one_not_before_seen : (o : Obstacle) (seen : Seen) (p : Pos) → IsNotBefore (seen_at o (seen_with seen o p)) p
one_not_before_seen Number seen p = one_not_before seen.number p
one_not_before_seen Loop seen p = one_not_before seen.cut p

-- ---- what a state stands at

blocked_same : (o u : Obstacle) (p q : Pos) → status.Blocked o p ≡ status.Blocked u q → (o ≡ u) × (p ≡ q)
blocked_same o u p q e = (cc, cc)

going_blocked : (o : Obstacle) (p : Pos) → status.Going ≡ status.Blocked o p → ⊥
going_blocked o p e = cc

same_some : (p q : Pos) → Some p ≡ Some q → p ≡ q
same_some p q e = cc

-- a path that is reported by no place has no such computation
pub place_none : (cs : List Computation) (k : Known) → number_place_by cs k ≡ None → cs ≡ []
place_none [] k e = refl
place_none (c ∷ cs) k e = let bad : Some (place_among k.places) ≡ None = e in absurd (cc)

-- where there is no such computation, any values do for that
pub none_at_all : (s : State) → s.known.computed ≡ [] → HasNoZeroTable s → HasNoTable s
none_at_all s e none table f =
    none table f (λ j lt. absurd (let many = ap length e in omega (arith, lt, many)))

module _ (s : State) where
  blocked_returned : (o : Obstacle) (p q : Pos) (x : Option Term) → s.known.status ≡ status.Blocked o p
      → s.known.status ≡ status.Returned q x → ⊥
  blocked_returned o p q x e h = let bad : status.Blocked o p ≡ status.Returned q x = sym e ∙ h in cc

  blocked_level : (codes : Codes) (o : Obstacle) (p : Pos) → s.known.status ≡ status.Blocked o p → AllLevel codes s
  blocked_level codes o p e code entry choices n ds q x has immortals h fits r = absurd (blocked_returned o p q x e h)

  -- one whose path isn't followed has ended
  pub blocked_ended : (o : Obstacle) (p : Pos) → s.known.status ≡ status.Blocked o p → HasEnded s
  blocked_ended o p e going = going_blocked o p (sym going ∙ e)

module _ (code : Code) (s : State) where
  -- a state is off only where it has returned
  going_off : (z : Status) (t : ℕ) → z ≡ status.Going → OffBy code s z t → ⊥
  going_off status.Going t e h = h
  going_off (status.Returned p x) t e h = absurd (let bad : status.Returned p x ≡ status.Going = e in cc)
  going_off (status.Stopped p) t e h = h
  going_off (status.Blocked o p) t e h = h

  pub blocked_off : (z : Status) (t : ℕ) (o : Obstacle) (p : Pos) → z ≡ status.Blocked o p → OffBy code s z t → ⊥
  blocked_off status.Going t o p e h = h
  blocked_off (status.Returned q x) t o p e h = absurd (let bad : status.Returned q x ≡ status.Blocked o p = e in cc)
  blocked_off (status.Stopped q) t o p e h = h
  blocked_off (status.Blocked u q) t o p e h = h

  -- and where its balances aren't level
  pub level_off : (z : Status) (t : ℕ) → LevelBy code s z → OffBy code s z t → ⊥
  level_off status.Going t level h = h
  level_off (status.Returned p x) t level h = h.1 (level t h.0.0 h.0.1)
  level_off (status.Stopped p) t level h = h
  level_off (status.Blocked o p) t level h = h

  pub off_ended : (t : ℕ) → OffBy code s s.known.status t → HasEnded s
  off_ended t off going = going_off s.known.status t going off

  pub going_stands : s.known.status ≡ status.Going → (o : Obstacle) (p : Pos) → StandsAt code o p s → ⊥
  going_stands e Number p (inl b) = going_blocked Number p (sym e ∙ b)
  going_stands e Number p (inr off) = off_ended off.0.0 off.0.1 e
  going_stands e Loop p b = going_blocked Loop p (sym e ∙ b)

  -- a state that ended balanced stands at no place
  pub level_stands : IsFollowed s → LevelBy code s s.known.status → (o : Obstacle) (p : Pos) → StandsAt code o p s → ⊥
  level_stands followed level Number p (inl b) = followed Number p b
  level_stands followed level Number p (inr off) = level_off s.known.status off.0.0 level off.0.1
  level_stands followed level Loop p b = followed Loop p b

  -- one that isn't level stands at a place where it is reported as off
  level_by : (codes : Codes) (o : Obstacle) (p : Pos) → StandsAt code o p s
      → AllLevel codes s ⊎ ((q : Pos) × IsOffAt code q s)
  level_by codes Number p (inl b) = inl (blocked_level s codes Number p b)
  level_by codes Number p (inr off) = inr (p, off)
  level_by codes Loop p b = inl (blocked_level s codes Loop p b)

  pub stands_level : (codes : Codes) (o : Obstacle) (p : Pos) → StandsAt code o p s
      → ((t : ℕ) → OffBy code s s.known.status t → HasNoZeroTable s) → IsLevelOrOff codes code s
  stands_level codes o p at none = record { level = level_by codes o p at; at_zero = none }

  -- one that ended balanced isn't off
  pub ended_balanced : (codes : Codes) → AllLevel codes s → LevelBy code s s.known.status → IsLevelOrOff codes code s
  ended_balanced codes all level = record {
    level = inl all;
    at_zero = λ t off. absurd (level_off s.known.status t level off);
  }

  -- one whose path isn't followed stands at its place
  pub blocked_stands : (o : Obstacle) (p : Pos) → s.known.status ≡ status.Blocked o p → StandsAt code o p s
  blocked_stands Number p e = inl e
  blocked_stands Loop p e = e

  -- a state stands at one place
  pub one_place : (o u : Obstacle) (p q : Pos) → StandsAt code o p s → StandsAt code u q s → (o ≡ u) × (p ≡ q)
  one_place Number Number p q (inl a) (inl b) = blocked_same Number Number p q (sym a ∙ b)
  one_place Number Number p q (inl a) (inr b) = absurd (blocked_off s.known.status b.0.0 Number p a b.0.1)
  one_place Number Number p q (inr a) (inl b) = absurd (blocked_off s.known.status a.0.0 Number q b a.0.1)
  one_place Number Number p q (inr a) (inr b) = (refl, same_some p q (sym a.1 ∙ b.1))
  one_place Number Loop p q (inl a) b = blocked_same Number Loop p q (sym a ∙ b)
  one_place Number Loop p q (inr a) b = absurd (blocked_off s.known.status a.0.0 Loop q b a.0.1)
  one_place Loop Number p q a (inl b) = blocked_same Loop Number p q (sym a ∙ b)
  one_place Loop Number p q a (inr b) = absurd (blocked_off s.known.status b.0.0 Loop p a b.0.1)
  one_place Loop Loop p q a b = blocked_same Loop Loop p q (sym a ∙ b)

  -- so no place at which it stands is before what is seen then
  pub this_not_before_seen : (o u : Obstacle) (seen : Seen) (p q : Pos) → StandsAt code o p s → StandsAt code u q s
      → IsNotBefore (seen_at u (seen_with seen o p)) q
  this_not_before_seen o u seen p q a b =
      let same = one_place o u p q a b in
      subst (IsNotBefore (seen_at u (seen_with seen o p))) same.1
      (subst (λ x. IsNotBefore (seen_at x (seen_with seen o p)) p) same.0 (one_not_before_seen o seen p))

-- a state of a function is off by the code of the function
pub off_in : (codes : Codes) (s : State) → IsOffIn codes s → (code : Code)
    → code_at codes s.known.function ≡ Some code → (t : ℕ) × OffBy code s s.known.status t
off_in codes s off code is =
    let same : off.0 ≡ code = same_code off.0 code (sym off.1.0 ∙ is) in
    subst (λ c. (t : ℕ) × OffBy c s s.known.status t) same off.1.1
  where
    same_code : (a b : Code) → Some a ≡ Some b → a ≡ b
    same_code a b e = cc

-- ---- the states that paths lead to

-- no free run that a path leads to stands so at an earlier place
abbrev pub NoneBefore : Obstacle → Option Pos → Code → State → Type 0
NoneBefore o seen code s =
    (ds : Told) (last : State) → Path code.instrs s ds last → (table : Table) → FitsState table last → (p : Pos)
    → StandsAt code o p last → IsNotBefore seen p

module _ (o : Obstacle) (seen : Option Pos) (code : Code) (s : State) where
  pub gone_before : IsGone code.instrs s → NoneBefore o seen code s
  gone_before gone ds last path table fits p e = absurd (gone ds last path table fits)

  -- what holds of a state that has ended
  ended_begins : HasEnded s → ((p : Pos) → StandsAt code o p s → IsNotBefore seen p) → (ds : Told) (last : State)
      → Begins code.instrs s ds last → (p : Pos) → StandsAt code o p last → IsNotBefore seen p
  ended_begins ended here _ _ stays p e = here p e
  ended_begins ended here _ _ (answers d ds last c path) p e = absurd (ended_asks code.instrs s d ended c)

  pub ended_before : HasEnded s → ((p : Pos) → StandsAt code o p s → IsNotBefore seen p) → NoneBefore o seen code s
  ended_before ended here ds last path table fits p e =
      ended_begins ended here ds last (begins code.instrs s ds last path) p e

  going_begins : s.known.status ≡ status.Going → Each (NoneBefore o seen code) (states_after code.instrs s)
      → (ds : Told) (last : State) → Begins code.instrs s ds last → (table : Table) → FitsState table last → (p : Pos)
      → StandsAt code o p last → IsNotBefore seen p
  going_begins going all _ _ stays table fits p e = absurd (going_stands code s going o p e)
  going_begins going all _ _ (answers d ds last c path) table fits p e =
      after_each (NoneBefore o seen code) code.instrs s all d c ds last path table fits p e

  pub going_before : s.known.status ≡ status.Going → Each (NoneBefore o seen code) (states_after code.instrs s)
      → NoneBefore o seen code s
  going_before going all ds last path table fits p e =
      going_begins going all ds last (begins code.instrs s ds last path) table fits p e
