-- What the ends of the paths of a function show of its runs.
use Rattle.std.proofs.Common.{◌≡◌, ℕ, ◌+◌, List, [], ◌∷◌, refl, sym, ap, ◌∙◌, subst, arith, ◌⊎◌, inl, inr, Option}
use Rattle.std.proofs.Common.{None, Some}
use Rattle.pungi_base.specs.declared.choice.Choice.{Choice}
use Rattle.pungi_base.specs.declared.entry.Entry.{Entry}
use Rattle.pungi_base.specs.declared.pos.Pos.{Pos}
use Rattle.pungi_base.specs.declared.value.Value.{Value}
use Rattle.pungi_base.specs.declared.witness.Witness.{Witness}
use Rattle.pungi_world.specs.declared.world.World.{World}
use Rattle.pungi_world.specs.Escapes.{IsBalanced}
use Rattle.pungi_meaning.specs.Run as run
use Rattle.pungi_code.specs.declared.code.Code.{Code}
use Rattle.pungi_code.specs.declared.code.Codes.{Codes}
use Rattle.pungi_symbol.specs.declared.answers.decision.Decision.{Decision}
use Rattle.pungi_symbol.specs.declared.states.computation.Computation.{Computation}
use Rattle.pungi_symbol.specs.declared.states.known.Known.{Known}
use Rattle.pungi_symbol.specs.declared.states.known.Status.{Status}
use Rattle.pungi_symbol.specs.declared.states.known.Status.TheVariants as status
use Rattle.pungi_symbol.specs.declared.states.state.State.{State}
use Rattle.pungi_symbol.specs.declared.states.term.Term.{Term}
use Rattle.pungi_symbol.specs.states.Terms.{Table}
use Rattle.pungi_symbol.specs.answers.KnownAfter.{number_place_by}
use Rattle.pungi_symbol.specs.runs.Paths.{start_state, table_of, Path, run_for, IsAt, Meets, IsBlocked, returned_value}
use Rattle.pungi_symbol.specs.Promises.{HasForm, HasImmortals, Covers, IsReached, AllLevel}
use Rattle.pungi_explore.specs.Explored.{Returns, ComputesWithZeros, AreFollowedBalanced, IsFaultRun, IsOffAt}
use Rattle.pungi_explore.specs.Visits.{ShowsFault}
use Rattle.pungi_explore.proofs.SameFunction.{path_function}
use Rattle.pungi_explore.proofs.Begins.{AreLevelFrom}

-- ---- a run that returns

-- a run returns once
same_return : (w v : World) (a b : Option Value) (p q : Pos) (xs ys : List Pos)
    → run.Returned w a p xs ≡ run.Returned v b q ys → (w ≡ v) × (a ≡ b)
same_return w v a b p q xs ys e = (cc, cc)

stopped_return : (w : World) (a : Option Value) (p q : Pos) (xs : List Pos) → run.Stopped q ≡ run.Returned w a p xs → ⊥
stopped_return w a p q xs e = cc

unfinished_return : (w : World) (a : Option Value) (p : Pos) (xs : List Pos) → run.OutOfFuel ≡ run.Returned w a p xs → ⊥
unfinished_return w a p xs e = cc

wanting_return : (w : World) (a : Option Value) (p : Pos) (xs : List Pos) → run.NeedsChoice ≡ run.Returned w a p xs → ⊥
wanting_return w a p xs e = cc

none_added : (n : ℕ) → n + 0 ≡ n
none_added n = omega arith

-- a path without such computations is reported by no place
without_place : (cs : List Computation) (k : Known) (p : Pos) → cs ≡ [] → number_place_by cs k ≡ Some p → ⊥
without_place [] k p e h = let bad : None ≡ Some p = h in cc
without_place (c ∷ cs) k p e h = let bad : c ∷ cs ≡ [] = e in cc

-- no state that a run meets returned unbalanced and is reported
abbrev pub IsNowhereOff : ℕ → ℕ → Code → Entry → List Choice → Type 0
IsNowhereOff statics f code entry choices =
    (n : ℕ) (ds : List Decision) (s : State) → Meets statics f code entry choices n ds s → (p : Pos)
    → IsOffAt code p s → ⊥

module _ (codes : Codes) (f : ℕ) (code : Code) (has : HasForm codes f code) where
  abbrev First : State
  First = start_state codes.statics f code

  pub of_function : (ds : List Decision) (s : State) → Path code.instrs First ds s → s.known.function ≡ f
  of_function ds s p = path_function code.instrs First ds s p

  pub is_reached : (ds : List Decision) (s : State) → Path code.instrs First ds s → IsReached codes s ds code
  is_reached ds s p = subst (λ g. HasForm codes g code × Path code.instrs (start_state codes.statics g code) ds s)
      (sym (of_function ds s p)) (has, p)

  module _ (immortals : HasImmortals codes f) (entry : Entry) (choices : List Choice) (world : World)
      (value : Option Value) (r : Returns codes.statics code entry choices world value) where
    ends : run_for code entry choices (r.steps + 0) ≡ run.Returned world value r.pos r.used
    ends = ap (run_for code entry choices) (none_added r.steps) ∙ r.is

    module _ (ds : List Decision) (s : State) (level : AllLevel codes s)
        (m : Meets codes.statics s.known.function code entry choices r.steps ds s)
        (path : Path code.instrs First ds s) where
      at_end : (z : Status) → s.known.status ≡ z
          → IsAt code entry choices r.steps (table_of codes.statics entry choices m.computed) m.m s.known.pc z
          → IsBalanced code.terms entry world value
      at_end status.Going e h = absurd (unfinished_return world value r.pos r.used (sym (h.ends 0) ∙ ends))
      at_end (status.Blocked o p) e h = absurd (unfinished_return world value r.pos r.used (sym (h.ends 0) ∙ ends))
      at_end (status.Stopped p) e h = absurd (stopped_return world value r.pos p r.used (sym (h.ends 0) ∙ ends))
      at_end (status.Returned p x) e h =
          let table = table_of codes.statics entry choices m.computed in
          let same = same_return m.m.world world (returned_value table x) value p r.pos m.m.used r.used
          (sym (h.ends 0) ∙ ends) in
          let reached = is_reached ds s path in
          let there = subst (HasImmortals codes) (sym (of_function ds s path)) immortals in
          let balanced = level code entry choices r.steps ds p x reached.0 there e r.fits m in
          subst (λ w. IsBalanced code.terms entry w value) same.0
          (subst (λ v. IsBalanced code.terms entry m.m.world v) same.1 balanced)

    module _ (ds : List Decision) (s : State) (met : Meets codes.statics f code entry choices r.steps ds s) where
      met_balanced : AllLevel codes s ⊎ ((p : Pos) × IsOffAt code p s) → ((p : Pos) → IsOffAt code p s → ⊥)
          → IsBalanced code.terms entry world value
      met_balanced (inr off) not_off = absurd (not_off off.0 off.1)
      met_balanced (inl level) not_off =
          let m = subst (λ g. Meets codes.statics g code entry choices r.steps ds s) (sym
          (of_function ds s met.path)) met in
          at_end ds s level m met.path s.known.status refl m.is_at

    covered : AreLevelFrom codes code First → (IsBlocked codes.statics f code entry choices → ⊥)
        → IsNowhereOff codes.statics f code entry choices
        → (run_for code entry choices r.steps ≡ run.NeedsChoice)
        ⊎ (((ds : List Decision) × ((s : State) × Meets codes.statics f code entry choices r.steps ds s))
        ⊎ IsBlocked codes.statics f code entry choices) → IsBalanced code.terms entry world value
    covered level followed not_off (inl e) = absurd (wanting_return world value r.pos r.used (sym e ∙ r.is))
    covered level followed not_off (inr (inr n)) = absurd (followed n)
    covered level followed not_off (inr (inl c)) = met_balanced c.0 c.1.0 c.1.1
        (level c.0 c.1.0 c.1.1.path).level (λ p off. not_off r.steps c.0 c.1.0 c.1.1 p off)

    -- a run that computes with zeros isn't off where it returns
    zeros_balanced : AreLevelFrom codes code First → ComputesWithZeros codes.statics f code entry choices r.steps
        → IsBalanced code.terms entry world value
    zeros_balanced level z =
        let h = level z.decisions z.s z.meets.path in
        met_balanced z.decisions z.s z.meets h.level (λ p off. h.at_zero off.0.0 off.0.1
        (table_of codes.statics entry choices z.meets.computed) z.meets.lies.fits z.zeros)

  -- where all that paths lead to is level or off, a run that isn't blocked and meets nothing that is off is balanced
  pub one_balanced : Covers codes f → HasImmortals codes f → AreLevelFrom codes code First → (entry : Entry)
      (choices : List Choice) (world : World) (value : Option Value)
      → Returns codes.statics code entry choices world value
      → (IsBlocked codes.statics f code entry choices → ⊥) → IsNowhereOff codes.statics f code entry choices
      → IsBalanced code.terms entry world value
  one_balanced covers immortals level entry choices world value r followed not_off =
      covered immortals entry choices world value r level followed not_off
      (covers code has entry choices r.steps r.fits)

  -- where a run has no computation that is no sum, nothing that it meets is off
  pub all_balanced : Covers codes f → HasImmortals codes f → AreLevelFrom codes code First
      → AreFollowedBalanced codes.statics f code
  all_balanced covers immortals level entry choices world value r (inl tried) =
      one_balanced covers immortals level entry choices world value r tried.0
      (λ n ds s m p off. without_place s.known.computed s.known p (tried.1 n ds s m) off.1)
  all_balanced covers immortals level entry choices world value r (inr zeros) =
      zeros_balanced immortals entry choices world value r level zeros

-- ---- the run of a fault

module _ (codes : Codes) (code : Code) (s : State) (w : Witness) (ds : List Decision) (shows : ShowsFault codes s w)
    (reached : IsReached codes s ds code) where
  abbrev N : ℕ
  N = (shows.run_at.short code ds reached).0

  abbrev M : Meets codes.statics s.known.function code w.input w.choices N ds s
  M = (shows.run_at.short code ds reached).1.1

  abbrev T : Table
  T = table_of codes.statics w.input w.choices M.computed

  returned_at : (z : Status) (p : Pos) (x : Option Term) → z ≡ status.Returned p x
      → IsAt code w.input w.choices N T M.m s.known.pc z
      → run_for code w.input w.choices (N + 0) ≡ run.Returned M.m.world (returned_value T x) p M.m.used
  returned_at z p x e h = let at : IsAt code w.input w.choices N T M.m s.known.pc (status.Returned p x) = subst
      (IsAt code w.input w.choices N T M.m s.known.pc) e h in at.ends 0

  pub fault_run : IsFaultRun codes.statics code w
  fault_run =
      let p = shows.returned.0 in
      let x = shows.returned.1.0 in
      let e = shows.returned.1.1 in
      let own = shows.run_at.own code ds reached in
      let fits = (shows.run_at.run code ds reached).0 in
      let u = shows.uneven code w.input w.choices N ds p x own.0 reached.0 e fits own.1.0 own.1.1 M in
      let returns : Returns codes.statics code w.input w.choices M.m.world (returned_value T x) = record {
        fits = fits;
        steps = N;
        pos = p;
        used = M.m.used;
        is = subst (λ n. run_for code w.input w.choices n ≡ run.Returned M.m.world (returned_value T x) p M.m.used)
            (none_added N) (returned_at s.known.status p x e M.is_at);
      } in
      let used = M.lies.used in
      let each = shows.run_at.each code ds reached in
      record {
        world = M.m.world;
        value = returned_value T x;
        returns = returns;
        short = (shows.run_at.short code ds reached).1.0;
        all_used = omega (arith, used, each);
        object = u.object;
        there = u.there;
        counted = u.counted;
        differs = u.differs;
      }
