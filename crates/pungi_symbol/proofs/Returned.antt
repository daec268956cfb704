-- What a state at the end of a path returns, and whether its balances are level.
use Rattle.std.proofs.Common.{◌≡◌, ◌==◌, cond, ℕ, ◌+◌, ◌<◌, List, Bool}
use Rattle.std.proofs.Common.{true, false, refl, sym, ◌∙◌, subst, arith, Option, None, Some}
use Rattle.std.specs.Prelude.{slice_get}
use Rattle.pungi_base.specs.declared.choice.Choice.{Choice}
use Rattle.pungi_base.specs.declared.entry.Entry.{Entry}
use Rattle.pungi_base.specs.declared.pos.Pos.{Pos}
use Rattle.pungi_code.specs.declared.code.Code.{Code}
use Rattle.pungi_code.specs.Entries.{code_fits}
use Rattle.pungi_code.specs.Run.{code_at}
use Rattle.pungi_code.specs.declared.code.Line.{Line}
use Rattle.pungi_code.specs.declared.instr.Instr.{Instr}
use Rattle.pungi_symbol.specs.declared.answers.decision.Decision.{Decision}
use Rattle.pungi_symbol.specs.declared.states.known.Known.{Known}
use Rattle.pungi_symbol.specs.declared.states.known.Status.TheVariants as status
use Rattle.pungi_symbol.specs.declared.states.obstacle.Obstacle.{Obstacle}
use Rattle.pungi_symbol.specs.declared.states.obstacle.Obstacle.TheVariants as obstacle
use Rattle.pungi_symbol.specs.declared.questions.question.Question.{Question}
use Rattle.pungi_symbol.specs.declared.questions.question.Question.TheVariants.{Does, Touches, Overwrites}
use Rattle.pungi_symbol.specs.declared.questions.question.Question.TheVariants.{Null as AsksNull, Base, Answers, Same}
use Rattle.pungi_symbol.specs.declared.questions.question.Question.TheVariants.{Orders, Range, Computes, Unplain, Turn}
use Rattle.pungi_symbol.specs.declared.questions.question.Question.TheVariants.{Returns}
use Rattle.pungi_symbol.specs.declared.questions.question.Question.TheVariants.{Stops, Over}
use Rattle.pungi_symbol.specs.declared.states.state.State.{State}
use Rattle.pungi_symbol.specs.declared.states.sum.Sum.{Sum as SumOf}
use Rattle.pungi_symbol.specs.declared.states.term.Term.{Term}
use Rattle.pungi_symbol.specs.states.Terms.{outcomes_of_answer, mark_at}
use Rattle.pungi_symbol.specs.states.Turns.{blocked_at}
use Rattle.pungi_symbol.specs.runs.Fits.{IsSound}
use Rattle.pungi_symbol.specs.runs.RunInState.{Lies}
use Rattle.pungi_code.specs.declared.code.Codes.{Codes}
use Rattle.pungi_world.specs.Escapes.{IsCounted, IsLevel}
use Rattle.pungi_symbol.specs.declared.states.known.Status.{Status}
use Rattle.pungi_symbol.specs.states.Known.{count}
use Rattle.pungi_symbol.specs.questions.NextQuestion.{ask}
use Rattle.pungi_symbol.specs.answers.KnownAfter.{go, instr_of, arrive_answer, call_var, place_of_line, computed}
use Rattle.pungi_symbol.specs.answers.KnownAfter.{turned}
use Rattle.pungi_symbol.specs.answers.KnownAfter.{number_of_outcome, says_order}
use Rattle.pungi_symbol.specs.answers.SymbolicState.{balance_at}
use Rattle.pungi_symbol.specs.runs.Paths.{argument_count, start_state, table_of, Path, path_here, path_on}
use Rattle.pungi_symbol.specs.runs.Paths.{wanted, IsLevelState, Meets, returned_value}
use Rattle.pungi_symbol.specs.states.Terms.{Table}
use Rattle.pungi_symbol.specs.Promises.{HasForm, AllLevel, IsLevelIn, OwnUneven, LevelBy, OffBy, HasReturned}
use Rattle.pungi_symbol.proofs.answers.CountedSteps.{Counts, same_status, answered_counts, line_counts, load_counts}
use Rattle.pungi_symbol.proofs.answers.CountedSteps.{store_counts, ordered_counts, computed_counts}
use Rattle.pungi_symbol.specs.answers.KnownAfter.{with_comparison, with_computation, next_computed}
use Rattle.pungi_symbol.proofs.steps.StepBack.{compared_same}
use Rattle.pungi_symbol.proofs.steps.StepForward.{AreObjectLines}
use Rattle.pungi_symbol.proofs.steps.Questions.{IsGiven, IsAsked}
use Rattle.pungi_symbol.proofs.runs.Paths.{can_going, asked_at, path_sound}
use Rattle.pungi_symbol.proofs.runs.Starts.{form_lines, start_sound}
use Rattle.pungi_symbol.proofs.runs.TakenParameters.{HoldsArguments, arguments_held}
use Rattle.pungi_symbol.proofs.runs.LevelBalances.{level_balanced}
use Rattle.pungi_symbol.proofs.runs.Returns.{uneven}

returned_same : (p q : Pos) (x y : Option Term) → status.Returned p x ≡ status.Returned q y → x ≡ y
returned_same p q x y e = cc

stopped_returned : (p q : Pos) (x : Option Term) → status.Stopped p ≡ status.Returned q x → ⊥
stopped_returned p q x e = cc

blocked_returned : (o : Obstacle) (p q : Pos) (x : Option Term) → status.Blocked o p ≡ status.Returned q x → ⊥
blocked_returned o p q x e = cc

module _ (code : List Line) (n : ℕ) (form : AreObjectLines n code) where
  abbrev Given : Known → Type 0
  Given k = (p : Pos) (x : Option Term) → k.status ≡ status.Returned p x → IsGiven k x

  going_given : (k : Known) → k.status ≡ status.Going → Given k
  going_given k e p x h = absurd (let bad : status.Going ≡ status.Returned p x = sym e ∙ h in cc)

  counted_given : (k k' : Known) → k.status ≡ status.Going → Counts k k' → Given k'
  counted_given k k' e c = going_given k' (same_status k k' c ∙ e)

  ranged_given : (i : Instr) (a : SumOf) (at : Pos) (b : Bool) (k : Known) → k.status ≡ status.Going
      → Given (cond b (computed i a k) (record k { status = status.Stopped at }))
  ranged_given i a at true k e = counted_given k (computed i a k) e (computed_counts i a k)
  ranged_given i a at false k e = λ p x h. absurd (stopped_returned at p x h)

  turned_given : (o : Option Pos) (k : Known) → k.status ≡ status.Going → Given (turned o k)
  turned_given None k e = going_given (turned None k) e
  turned_given (Some at) k e = λ p x h. absurd (blocked_returned obstacle.Loop at p x h)

  given_by : (k : Known) (o : Option Line) (q : Question) (d : Decision) → k.status ≡ status.Going
      → IsAsked (instr_of o) k q → Given (go o k q d)
  given_by k o (Does d') d e a = counted_given k (go o k (Does d') d) e (line_counts k o)
  given_by k o (Touches r) d e a = counted_given k (go o k (Touches r) d) e (load_counts (instr_of o) r k)
  given_by k o (Overwrites r) d e a = counted_given k (go o k (Overwrites r) d) e (store_counts (instr_of o) _ k)
  given_by k o (AsksNull t) d e a = going_given (go o k (AsksNull t) d) e
  given_by k o (Base t u j) d e a = going_given (go o k (Base t u j) d) e
  given_by k o (Answers x) d e a =
      let r = mark_at (outcomes_of_answer x) (number_of_outcome d) in
      counted_given (arrive_answer x r k) (go o k (Answers x) d) e
      (answered_counts (arrive_answer x r k) (call_var (instr_of o)) _)
  given_by k o (Same t u) d e a = going_given (go o k (Same t u) d) e
  given_by k o (Orders x y) d e a =
      let k' = with_comparison (place_of_line o) x y k in
      let same = compared_same (place_of_line o) x y k in
      counted_given k' (go o k (Orders x y) d) (same.0 ∙ e) (ordered_counts (instr_of o) (says_order d) k')
  given_by k o (Range kind x) d e a = ranged_given (instr_of o) x (place_of_line o) (number_of_outcome d == 1) k e
  given_by k o (Computes kind p x y) d e a =
      let k' = with_computation (place_of_line o) (record { kind = kind; op = p; a = x; b = y }) k in
      ranged_given (instr_of o) (next_computed k) (place_of_line o) (number_of_outcome d == 1) k' e
  given_by k o Unplain d e a = λ p x h. absurd (blocked_returned obstacle.Number (place_of_line o) p x h)
  given_by k o Turn d e a = turned_given (blocked_at k.turns k.pc) k e
  given_by k o (Returns y) d e a = λ p x h. let same : y
      ≡ x = returned_same (place_of_line o) p y x h in subst (IsGiven k) same a
  given_by k o (Stops d') d e a = λ p x h. absurd (stopped_returned (place_of_line o) p x h)
  given_by k o Over d e a = going_given k e

  -- what a state at the end of a path returns is known
  pub path_given : (first : State) → IsSound first → first.statics ≡ n → first.known.status ≡ status.Going
      → (ds : List Decision) (s : State) → Path code first ds s → Given s.known
  path_given first w same start ds s path_here = going_given s.known start
  path_given first w same start _ _ (path_on ds s d p c) =
      let r = path_sound code n form first w same ds s p in
      given_by s.known (slice_get code s.known.pc) (ask code s.known) d (can_going code s d c)
      (asked_at code n form s r.0 r.1 d c)

same_code : (a b : Code) → Some a ≡ Some b → a ≡ b
same_code a b e = cc

no_code : (code : Code) → None ≡ Some code → ⊥
no_code code e = cc

module _ (codes : Codes) (s : State) (code : Code) (entry : Entry) (choices : List Choice) (n : ℕ) (ds : List Decision)
    (has : HasForm codes s.known.function code) (fits : code_fits codes.statics code entry ≡ true)
    (r : Meets codes.statics s.known.function code entry choices n ds s) where
  abbrev Tab : Table
  Tab = table_of codes.statics entry choices r.computed

  form : AreObjectLines codes.statics code.instrs
  form = form_lines codes.statics code has.form

  first : IsSound (start_state codes.statics s.known.function code)
  first = start_sound codes.statics s.known.function code

  sound : IsSound s × (s.statics ≡ codes.statics)
  sound = path_sound code.instrs codes.statics form (start_state codes.statics s.known.function code) first refl ds s
      r.path

  given : (p : Pos) (x : Option Term) → s.known.status ≡ status.Returned p x → IsGiven s.known x
  given p x e = path_given code.instrs codes.statics form (start_state codes.statics s.known.function code) first refl
      refl ds s r.path p x e

  held : HoldsArguments Tab s.statics (argument_count code) entry
  held = subst (λ k. HoldsArguments Tab k (argument_count code) entry) (sym sound.1) (arguments_held codes.statics code
      entry choices r.computed fits)

  there : (p : ℕ) → p < argument_count code → s.statics + p < count s.known
  there p lt = let a = r.lies.used in let b = sound.1 in omega (arith, a, b, lt)

level_case : (code : Code) (s : State) (z : Status) (p : Pos) (x : Option Term) → z ≡ status.Returned p x
    → LevelBy code s z → IsLevelState code s x
level_case code s status.Going p x e h = absurd (cc)
level_case code s (status.Returned p' x') p x e h =
    let same : x' ≡ x = returned_same p' p x' x e in subst (IsLevelState code s) same h
level_case code s (status.Stopped p') p x e h = absurd (cc)
level_case code s (status.Blocked o p') p x e h = absurd (cc)

pub all_level : (codes : Codes) (s : State) (own : Code) → code_at codes s.known.function ≡ Some own
    → LevelBy own s s.known.status → AllLevel codes s
all_level codes s own is h code entry choices n ds p x has immortals e fits r =
    let same : own ≡ code = same_code own code (sym is ∙ has.is) in
    let level = subst (λ c. LevelBy c s s.known.status) same h in
    let all = sound codes s code entry choices n ds has fits r in
    let few = immortals code has.is in
    let statics = all.1 in
    level_balanced code entry (table_of codes.statics entry choices r.computed) (codes.statics + argument_count code)
    r.m s all.0 r.lies (held codes s code entry choices n ds has fits r)
    (there codes s code entry choices n ds has fits r) (omega (arith, few, statics)) x
    (given codes s code entry choices n ds has fits r p x e) (level_case code s s.known.status p x e level)

pub level_in : (codes : Codes) (s : State) (own : Code) → code_at codes s.known.function ≡ Some own
    → LevelBy own s s.known.status → IsLevelIn codes s
level_in codes s own is h code e = subst (λ c. LevelBy c s s.known.status) (same_code own code (sym is ∙ e)) h

-- a function with no code has no run
pub none_level : (codes : Codes) (s : State) → code_at codes s.known.function ≡ None → AllLevel codes s
none_level codes s none code entry choices n ds p x has = absurd (no_code code (sym none ∙ has.is))

pub none_in : (codes : Codes) (s : State) → code_at codes s.known.function ≡ None → IsLevelIn codes s
none_in codes s none code e = absurd (no_code code (sym none ∙ e))

abbrev IsOffBy : Code → State → Option Term → ℕ → Type 0
IsOffBy code s x t =
    (IsCounted code.terms t × (t < count s.known)) × (balance_at s.balances t ≡ wanted code s x t → ⊥)

off_case : (code : Code) (s : State) (z : Status) (t : ℕ) (p : Pos) (x : Option Term) → z ≡ status.Returned p x
    → OffBy code s z t → IsOffBy code s x t
off_case code s status.Going t p x e h = absurd h
off_case code s (status.Returned p' x') t p x e h =
    let same : x' ≡ x = returned_same p' p x' x e in subst (λ y. IsOffBy code s y t) same h
off_case code s (status.Stopped p') t p x e h = absurd h
off_case code s (status.Blocked o p') t p x e h = absurd h

pub own_uneven : (codes : Codes) (s : State) (own : Code) (t : ℕ) → code_at codes s.known.function ≡ Some own
    → OffBy own s s.known.status t → OwnUneven codes s
own_uneven codes s own t is h code entry choices n ds p x ns has e fits model values r =
    let same : own ≡ code = same_code own code (sym is ∙ has.is) in
    let off = off_case code s s.known.status t p x e (subst (λ c. OffBy c s s.known.status t) same h) in
    let all = sound codes s code entry choices n ds has fits r in
    let lies = subst (λ y. Lies code.instrs (record { values = y; computed = r.computed }) (codes.statics
    + argument_count code) r.m s) values r.lies in
    let args = subst (λ y. HoldsArguments (record { values = y; computed = r.computed }) s.statics (argument_count code)
    entry) values (held codes s code entry choices n ds has fits r) in
    let u = uneven s all.0 ns model code entry r.computed (codes.statics + argument_count code) r.m lies args
    (there codes s code entry choices n ds has fits r) x t (given codes s code entry choices n ds has fits r p x e)
    off.0.0 off.0.1 off.1
    in
    record {
      object = u.0;
      there = u.1.0;
      counted = u.1.1.0;
      differs = λ level. u.1.1.1 (subst (λ y. IsLevel code.terms entry r.m.world
          (returned_value (record { values = y; computed = r.computed }) x) u.0)
          values level);
    }

pub off_returned : (code : Code) (s : State) (t : ℕ) → OffBy code s s.known.status t → HasReturned s
off_returned code s t h = by s.known.status refl h
  where
    by : (z : Status) → s.known.status ≡ z → OffBy code s z t → HasReturned s
    by status.Going e h = absurd h
    by (status.Returned p x) e h = (p, (x, e))
    by (status.Stopped p) e h = absurd h
    by (status.Blocked o p) e h = absurd h
