-- What a search has shown so far, where these states are pending: whatever is shown of them is shown of the first.
use Rattle.std.proofs.Common.{◌≡◌, ℕ, ℤ, suc, ◌+◌, ◌≤◌, List, [], ◌∷◌, ◌++◌, map, refl, sym, ap, ◌∙◌, subst, arith}
use Rattle.std.proofs.Common.{Bool, true, false, cond, ◌⊎◌, inl, inr, Option, None, Some}
use Rattle.pungi_base.specs.declared.choice.Choice.{Choice}
use Rattle.pungi_base.specs.declared.entry.Entry.{Entry}
use Rattle.pungi_base.specs.declared.pos.Pos.{Pos}
use Rattle.pungi_base.specs.declared.witness.Witness.{Witness}
use Rattle.pungi_code.specs.declared.code.Code.{Code}
use Rattle.pungi_code.specs.declared.code.Codes.{Codes}
use Rattle.pungi_code.specs.Run.{code_at}
use Rattle.pungi_symbol.specs.declared.answers.decision.Decision.{Decision}
use Rattle.pungi_symbol.specs.declared.states.known.Status.TheVariants as status
use Rattle.pungi_symbol.specs.declared.states.obstacle.Obstacle.{Obstacle}
use Rattle.pungi_symbol.specs.declared.states.obstacle.Obstacle.TheVariants.{Number, Loop}
use Rattle.pungi_symbol.specs.declared.states.state.State.{State}
use Rattle.pungi_symbol.specs.answers.SymbolicState.{successors}
use Rattle.pungi_symbol.specs.runs.Paths.{start_state, table_of, Path, path_here, path_on, Meets, HasNoTable}
use Rattle.pungi_symbol.specs.runs.Paths.{IsFreeRun}
use Rattle.pungi_symbol.specs.Promises.{lines_in, lines_of, next_states, HasForm, Covers, HasFreeRun, AllLevel}
use Rattle.pungi_symbol.specs.Promises.{HasImmortals, IsLevelIn, RunsOn, is_there, runs_on}
use Rattle.pungi_symbol.specs.states.NumberPlaces.{is_earlier, earliest}
use Rattle.pungi_explore.specs.declared.explored.Explored.{Explored}
use Rattle.pungi_explore.specs.declared.explored.Explored.TheVariants.{AllBalanced, Fault, NumberSeen, Cut, TooMany}
use Rattle.pungi_explore.specs.declared.seen.Seen.{Seen}
use Rattle.pungi_explore.specs.Traces.{HasEnded, states_after}
use Rattle.pungi_explore.specs.Explored.{most_traces, HasFew, HasMany, AreBalanced, IsFaultRun, IsExplored, FindsFault}
use Rattle.pungi_explore.specs.Explored.{AreFollowedBalanced, AreLevelAtZero, IsNeverBlocked, StandsAt, ComesTo}
use Rattle.pungi_explore.specs.Explored.{SeesNoNumber, FirstPlace, FirstLoop, HasJudgedForm}
use Rattle.pungi_explore.specs.Visits.{ShowsFault, IsOpenAt, IsFollowed, LeadsNowhere, Keeps, keeps_none}
use Rattle.pungi_explore.specs.Visits.{keeps_one, leaves_out, Puts, seen_at, seen_with, shown_by, shown}
use Rattle.pungi_explore.proofs.Each.{Each, each_joined, each_left, each_right}
use Rattle.pungi_explore.proofs.TracesOfRuns.{has_few, has_many, few_not_many}
use Rattle.pungi_explore.proofs.Trees.{IsGone, HaveTraces, no_state, has_ended, goes_on, has_gone, HaveAtLeast}
use Rattle.pungi_explore.proofs.Trees.{none_left, left_out, one_ended, one_goes_on, joined, parted}
use Rattle.pungi_explore.proofs.Trees.{at_least_joined, at_least_parted, all_left_out}
use Rattle.pungi_explore.proofs.Nexts.{each_next}
use Rattle.pungi_explore.proofs.Begins.{AreLevelFrom, ended_gone, next_going, gone_level, ended_level, going_level}
use Rattle.pungi_explore.proofs.Places.{IsNotBefore, NoneBefore, still_not_before_seen, this_not_before_seen}
use Rattle.pungi_explore.proofs.Places.{gone_before, ended_before, going_before, stands_level, level_stands}
use Rattle.pungi_explore.proofs.Places.{blocked_stands, ended_balanced}
use Rattle.pungi_explore.proofs.Ends.{of_function, is_reached, one_balanced, all_balanced, fault_run}

abbrev pub IsOnPath : Codes → ℕ → Code → State → Type 0
IsOnPath codes f code s = (ds : List Decision) × Path code.instrs (start_state codes.statics f code) ds s

-- a state that leaves the verdict open at this place
pub record IsSeenThere (codes : Codes) (f : ℕ) (code : Code) (o : Obstacle) (p : Pos) : Type 0 where
  pub s : State
  pub on_path : IsOnPath codes f code s
  pub is_open : IsOpenAt codes s o p

abbrev pub IsSeen : Codes → ℕ → Code → Obstacle → Option Pos → Type 0
IsSeen codes f code o None = Unit {0}
IsSeen codes f code o (Some p) = IsSeenThere codes f code o p

-- what was seen is before what others have, if it is before what is pending
abbrev pub AreFirst : Codes → ℕ → Code → List State → Obstacle → Option Pos → Option Pos → Type 0
AreFirst codes f code pending o seen other =
    ((p : Pos) → IsNotBefore seen p → IsNotBefore other p) → Each (NoneBefore o other code) pending
    → NoneBefore o other code (start_state codes.statics f code)

abbrev pub none_seen : Seen
none_seen = record { number = None; cut = None }

pub record Searched (codes : Codes) (f : ℕ) (code : Code) (pending : List State) (ended : ℕ) (seen : Seen) :
    Type 0 where
  pub on_path : Each (IsOnPath codes f code) pending
  pub level : Each (AreLevelFrom codes code) pending
      → AreLevelFrom codes code (start_state codes.statics f code)
  pub exactly : (m : ℕ) → HaveTraces code.instrs pending m
      → HaveTraces code.instrs (start_state codes.statics f code ∷ []) (ended + m)
  pub at_least : (m : ℕ) → HaveAtLeast code.instrs (HasFreeRun codes) pending m
      → HaveAtLeast code.instrs (HasFreeRun codes) (start_state codes.statics f code ∷ []) (ended + m)
  pub first : (o : Obstacle) (other : Option Pos) → AreFirst codes f code pending o (seen_at o seen) other
  pub there : (o : Obstacle) → IsSeen codes f code o (seen_at o seen)

module _ (codes : Codes) (f : ℕ) (code : Code) (has : HasForm codes f code) where
  abbrev First : State
  First = start_state codes.statics f code

  none_there : (o : Obstacle) → IsSeen codes f code o (seen_at o none_seen)
  none_there Number = tt
  none_there Loop = tt

  pub first_searched : Searched codes f code (First ∷ []) 0 none_seen
  first_searched = record {
    on_path = (([], path_here), tt);
    level = λ all. all.0;
    exactly = λ m h. subst (HaveTraces code.instrs (First ∷ [])) (omega arith) h;
    at_least = λ m h. subst (HaveAtLeast code.instrs (HasFreeRun codes) (First ∷ [])) (omega arith) h;
    first = λ o other wider all. all.0;
    there = none_there;
  }

  -- ---- a place more

  -- the earliest place is this one, or the one that was seen
  earliest_is : (seen : Option Pos) (p : Pos) → (earliest seen p ≡ p) ⊎ (seen ≡ Some (earliest seen p))
  earliest_is None p = inl refl
  earliest_is (Some q) p = by (is_earlier p q)
    where
      by : (b : Bool) → (cond b p q ≡ p) ⊎ (Some q ≡ Some (cond b p q))
      by true = inl refl
      by false = inr refl

  there_earliest : (o : Obstacle) (seen : Option Pos) (p : Pos) → IsSeen codes f code o seen
      → IsSeenThere codes f code o p → IsSeenThere codes f code o (earliest seen p)
  there_earliest o seen p before now = by (earliest_is seen p)
    where
      by : (earliest seen p ≡ p) ⊎ (seen ≡ Some (earliest seen p)) → IsSeenThere codes f code o (earliest seen p)
      by (inl e) = subst (IsSeenThere codes f code o) (sym e) now
      by (inr e) = subst (IsSeen codes f code o) e before

  there_with : (o : Obstacle) (seen : Seen) (p : Pos) → ((u : Obstacle) → IsSeen codes f code u (seen_at u seen))
      → IsSeenThere codes f code o p → (u : Obstacle) → IsSeen codes f code u (seen_at u (seen_with seen o p))
  there_with Number seen p before now Number = there_earliest Number seen.number p (before Number) now
  there_with Number seen p before now Loop = before Loop
  there_with Loop seen p before now Number = before Number
  there_with Loop seen p before now Loop = there_earliest Loop seen.cut p (before Loop) now

  -- ---- states that are left out

  gone_there : (s : State) → IsOnPath codes f code s → LeadsNowhere s → IsGone code.instrs s
  gone_there s on_path nowhere ds last path = nowhere codes code on_path.0 ds last (is_reached codes f code has
      on_path.0 s on_path.1) path

  -- what holds where no run is holds of all, if it holds of those that are kept
  all_kept : (P : State → Type 0) → ((s : State) → IsGone code.instrs s → P s) → (ss ts : List State) → Keeps ss ts
      → Each (IsOnPath codes f code) ss → Each P ts → Each P ss
  all_kept P gone _ _ keeps_none on all = tt
  all_kept P gone _ _ (keeps_one s ss ts k) on all = (all.0, all_kept P gone ss ts k on.1 all.1)
  all_kept P gone _ _ (leaves_out s ss ts nowhere k) on all =
      (gone s (gone_there s on.0 nowhere), all_kept P gone ss ts k on.1 all)

  kept_on : (P : State → Type 0) (ss ts : List State) → Keeps ss ts → Each P ss → Each P ts
  kept_on P _ _ keeps_none all = tt
  kept_on P _ _ (keeps_one s ss ts k) all = (all.0, kept_on P ss ts k all.1)
  kept_on P _ _ (leaves_out s ss ts nowhere k) all = kept_on P ss ts k all.1

  kept_traces : (ss ts : List State) (n : ℕ) → Keeps ss ts → Each (IsOnPath codes f code) ss
      → HaveTraces code.instrs ts n → HaveTraces code.instrs ss n
  kept_traces _ _ n keeps_none on h = h
  kept_traces _ _ n (keeps_one s ss ts k) on h =
      let r = parted code.instrs (s ∷ []) ts n h in
      let sum = r.sum in
      subst (HaveTraces code.instrs (s ∷ ss)) sum (joined code.instrs (s ∷ []) ss r.left r.right r.of_left
      (kept_traces ss ts r.right k on.1 r.of_right))
  kept_traces _ _ n (leaves_out s ss ts nowhere k) on h =
      has_gone s ss n (gone_there s on.0 nowhere) (kept_traces ss ts n k on.1 h)

  kept_at_least : (ss ts : List State) (n : ℕ) → Keeps ss ts → HaveAtLeast code.instrs (HasFreeRun codes) ts n
      → HaveAtLeast code.instrs (HasFreeRun codes) ss n
  kept_at_least _ _ n keeps_none h = h
  kept_at_least _ _ n (keeps_one s ss ts k) h =
      let r = at_least_parted code.instrs (HasFreeRun codes) (s ∷ []) ts n h in
      let sum = r.sum in
      subst (HaveAtLeast code.instrs (HasFreeRun codes) (s ∷ ss)) sum (at_least_joined code.instrs (HasFreeRun codes)
      (s ∷ []) ss r.left r.right r.of_left (kept_at_least ss ts r.right k r.of_right))
  kept_at_least _ _ n (leaves_out s ss ts nowhere k) h = left_out s ss n (kept_at_least ss ts n k h)

  module _ (rest : List State) (s : State) (ended : ℕ) (seen : Seen)
      (so_far : Searched codes f code (rest ++ s ∷ []) ended seen) where
    popped : IsOnPath codes f code s
    popped = (each_right (IsOnPath codes f code) rest (s ∷ []) so_far.on_path).0

    left_on_path : Each (IsOnPath codes f code) rest
    left_on_path = each_left (IsOnPath codes f code) rest (s ∷ []) so_far.on_path

    its_code : code_at codes s.known.function ≡ Some code
    its_code = ap (code_at codes) (of_function codes f code has popped.0 s popped.1) ∙ has.is

    -- a state that has ended is one trace more
    ended_exactly : HasEnded s → (m : ℕ) → HaveTraces code.instrs rest m
        → HaveTraces code.instrs (First ∷ []) (ended + 1 + m)
    ended_exactly over m h = subst (HaveTraces code.instrs (First ∷ [])) (omega arith)
        (so_far.exactly (m + suc 0) (joined code.instrs rest (s ∷ []) m (suc 0) h (has_ended s [] 0 over no_state)))

    ended_at_least : HasEnded s → HasFreeRun codes s → (m : ℕ) → HaveAtLeast code.instrs (HasFreeRun codes) rest m
        → HaveAtLeast code.instrs (HasFreeRun codes) (First ∷ []) (ended + 1 + m)
    ended_at_least over run m h = subst (HaveAtLeast code.instrs (HasFreeRun codes) (First ∷ [])) (omega arith)
        (so_far.at_least (m + suc 0) (at_least_joined code.instrs (HasFreeRun codes) rest (s ∷ []) m (suc 0) h
        (one_ended s [] 0 over run none_left)))

    pub ended_searched : HasEnded s → IsFollowed s → AllLevel codes s → IsLevelIn codes s → HasFreeRun codes s
        → Searched codes f code rest (ended + 1) seen
    ended_searched over followed all_level level run = record {
      on_path = left_on_path;
      level = λ all. so_far.level (each_joined (AreLevelFrom codes code) rest (s ∷ []) all
          (ended_level codes code s over (ended_balanced code s codes all_level (level code its_code)), tt));
      exactly = ended_exactly over;
      at_least = ended_at_least over run;
      first = λ o other wider all. so_far.first o other wider (each_joined (NoneBefore o other code) rest
          (s ∷ []) all (
            ended_before o other code s over
                (λ p at. absurd (level_stands code s followed (level code its_code) o p at)),
            tt,
          ));
      there = so_far.there;
    }

    -- so is one that leaves the verdict open
    pub open_searched : (o : Obstacle) (p : Pos) → IsOpenAt codes s o p
        → Searched codes f code rest (ended + 1) (seen_with seen o p)
    open_searched o p b = record {
      on_path = left_on_path;
      level = λ all. so_far.level (each_joined (AreLevelFrom codes code) rest (s ∷ []) all (
        ended_level codes code s b.over (stands_level code s codes o p (b.at code its_code)
            (λ t off. b.at_zero (code, (its_code, (t, off))))),
        tt,
      ));
      exactly = ended_exactly b.over;
      at_least = ended_at_least b.over b.run;
      first = λ u other wider all. so_far.first u other (λ q h. wider q (still_not_before_seen u o seen p q h))
          (each_joined (NoneBefore u other code) rest (s ∷ []) all (
            ended_before u other code s b.over
                (λ q at. wider q (this_not_before_seen code s o u seen p q (b.at code its_code) at)),
            tt,
          ));
      there = there_with o seen p so_far.there (record { s = s; on_path = popped; is_open = b });
    }

    -- a state that no run is in, and that has ended, is no trace
    pub gone_searched : HasEnded s → HasNoTable s → Searched codes f code rest ended seen
    gone_searched over none =
        let gone = ended_gone code.instrs s over none in
        record {
          on_path = left_on_path;
          level = λ all. so_far.level (each_joined (AreLevelFrom codes code) rest (s ∷ []) all
              (gone_level codes code s gone, tt));
          exactly = λ m h. subst (HaveTraces code.instrs (First ∷ [])) (omega arith) (so_far.exactly (m + 0)
              (joined code.instrs rest (s ∷ []) m 0 h (has_gone s [] 0 gone no_state)));
          at_least = λ m h. subst (HaveAtLeast code.instrs (HasFreeRun codes) (First ∷ [])) (omega arith)
              (so_far.at_least (m + 0) (at_least_joined code.instrs (HasFreeRun codes) rest (s ∷ []) m 0 h
              (left_out s [] 0 none_left)));
          first = λ o other wider all. so_far.first o other wider (each_joined (NoneBefore o other code) rest
              (s ∷ []) all (gone_before o other code s gone, tt));
          there = so_far.there;
        }

    -- the next states stand for one that goes on, without those that lead nowhere
    pub going_searched : s.known.status ≡ status.Going → (kept : List State)
        → Keeps (states_after code.instrs s) kept → Searched codes f code (rest ++ kept) ended seen
    going_searched going kept keeps = record {
      on_path = each_joined (IsOnPath codes f code) rest kept left_on_path
          (kept_on (IsOnPath codes f code) (states_after code.instrs s) kept keeps next_on_path);
      level = λ all. so_far.level (each_joined (AreLevelFrom codes code) rest (s ∷ [])
          (each_left (AreLevelFrom codes code) rest kept all) (
            going_level codes code s going (all_kept (AreLevelFrom codes code)
                (λ t gone. gone_level codes code t gone) (states_after code.instrs s) kept keeps next_on_path
                (each_right (AreLevelFrom codes code) rest kept all)),
            tt,
          ));
      exactly = λ m h. exactly_on m h;
      at_least = λ m h. at_least_on m h;
      first = λ o other wider all. so_far.first o other wider (each_joined (NoneBefore o other code) rest
          (s ∷ []) (each_left (NoneBefore o other code) rest kept all) (
            going_before o other code s going (all_kept (NoneBefore o other code)
                (λ t gone. gone_before o other code t gone) (states_after code.instrs s) kept keeps next_on_path
                (each_right (NoneBefore o other code) rest kept all)),
            tt,
          ));
      there = so_far.there;
    }
      where
        next_on_path : Each (IsOnPath codes f code) (states_after code.instrs s)
        next_on_path = each_next (IsOnPath codes f code) code.instrs s
            (λ d c. (d ∷ popped.0, path_on popped.0 s d popped.1 c))

        exactly_on : (m : ℕ) → HaveTraces code.instrs (rest ++ kept) m
            → HaveTraces code.instrs (First ∷ []) (ended + m)
        exactly_on m h =
            let r = parted code.instrs rest kept m h in
            let sum = r.sum in
            subst (HaveTraces code.instrs (First ∷ [])) (omega (arith, sum))
            (so_far.exactly (r.left + (r.right + 0)) (joined code.instrs rest (s ∷ []) r.left (r.right + 0)
            r.of_left (goes_on s [] r.right 0 going (kept_traces
            (states_after code.instrs s) kept r.right keeps next_on_path r.of_right)
            no_state)))

        at_least_on : (m : ℕ) → HaveAtLeast code.instrs (HasFreeRun codes) (rest ++ kept) m
            → HaveAtLeast code.instrs (HasFreeRun codes) (First ∷ []) (ended + m)
        at_least_on m h =
            let r = at_least_parted code.instrs (HasFreeRun codes) rest kept m h in
            let sum = r.sum in
            subst (HaveAtLeast code.instrs (HasFreeRun codes) (First ∷ [])) (omega (arith, sum))
            (so_far.at_least (r.left + (r.right + 0)) (at_least_joined code.instrs (HasFreeRun codes) rest (s ∷ [])
            r.left (r.right + 0) r.of_left (one_goes_on s [] r.right 0 going (kept_at_least
            (states_after code.instrs s) kept r.right keeps
            r.of_right) none_left)))

    -- the states after it, by the code that its function has
    lines_are : next_states codes s ≡ successors code.instrs s
    lines_are = ap (λ o. successors (lines_in o) s) its_code

    pub next_searched : s.known.status ≡ status.Going → (new : List State)
        → Puts (map (λ p. p.1) (next_states codes s)) rest new → Searched codes f code new ended seen
    next_searched going new puts =
        subst (λ ss. Searched codes f code ss ended seen) (sym puts.1.1) (going_searched going puts.0
        (subst (λ ps. Keeps (map (λ p. p.1) ps) puts.0) lines_are puts.1.0))

    pub fault_searched : (w : Witness) → ShowsFault codes s w → IsFaultRun codes.statics code w
    fault_searched w shows = fault_run codes code s w popped.0 shows (is_reached codes f code has popped.0 s popped.1)

    -- one more than the highest number
    pub too_many : HasEnded s → HasFreeRun codes s → ended ≡ most_traces → HasMany codes f code
    too_many over run full =
        let all : HaveAtLeast code.instrs (HasFreeRun codes) (First ∷ []) (most_traces + 1) = subst
        (HaveAtLeast code.instrs (HasFreeRun codes) (First ∷ [])) (omega (arith, full))
        (so_far.at_least (0 + suc 0) (at_least_joined code.instrs (HasFreeRun codes) rest (s ∷ []) 0 (suc 0)
        (all_left_out code.instrs (HasFreeRun codes) rest) (one_ended s [] 0 over run none_left))) in
        has_many codes f code has all

  -- ---- a state that went on in place

  pub run_on_searched : (rest : List State) (s t : State) (ended : ℕ) (seen : Seen)
      → Searched codes f code (rest ++ s ∷ []) ended seen → RunsOn codes s t
      → Searched codes f code (rest ++ t ∷ []) ended seen
  run_on_searched rest s _ ended seen so_far is_there = so_far
  run_on_searched rest s _ ended seen so_far (runs_on t u d r next) =
      let before = run_on_searched rest s t ended seen so_far r in
      next_searched rest t ended seen before
      (next_going (lines_of codes t.known.function) t (d, u) [] next)
      (rest ++ u ∷ []) (
        u ∷ [],
        (
          subst (λ ps. Keeps (map (λ p. p.1) ps) (u ∷ [])) (sym next)
              (keeps_one u [] [] keeps_none),
          refl,
        ),
      )

  -- ---- where no state is pending

  module _ (ended : ℕ) (seen : Seen) (covers : Covers codes f) (immortals : HasImmortals codes f)
      (few : ended ≤ most_traces) (so_far : Searched codes f code [] ended seen) where
    followed_balanced : AreFollowedBalanced codes.statics f code
    followed_balanced = all_balanced codes f code has covers immortals (so_far.level tt)

    level_at_zero : AreLevelAtZero codes.statics f code
    level_at_zero entry choices computed ds s t run zeros off =
        (so_far.level tt ds s run.path).at_zero t off (table_of codes.statics entry choices computed) run.fits zeros

    none_before : (o : Obstacle) (found : Option Pos) → seen_at o seen ≡ found → NoneBefore o found code First
    none_before o found e =
        subst (λ x. NoneBefore o x code First) e (so_far.first o (seen_at o seen) (λ p h. h) tt)

    -- where a free run comes to, it isn't before the place that was seen
    comes_later : (o : Obstacle) (found : Option Pos) → seen_at o seen ≡ found → (entry : Entry)
        (choices : List Choice) (computed : List ℤ) (p : Pos)
        → ComesTo codes.statics f code entry choices computed o p → IsNotBefore found p
    comes_later o found e entry choices computed p c = none_before o found e c.decisions c.s c.run.path
        (table_of codes.statics entry choices computed) c.run.fits p c.at

    no_number_seen : seen.number ≡ None → SeesNoNumber codes.statics f code
    no_number_seen e entry choices computed p c = comes_later Number None e entry choices computed p c

    -- what no run meets where nothing was seen
    met_nowhere : (o : Obstacle) → seen_at o seen ≡ None → (entry : Entry) (choices : List Choice) (n : ℕ)
        (ds : List Decision) (s : State) → Meets codes.statics f code entry choices n ds s → (p : Pos)
        → StandsAt code o p s → ⊥
    met_nowhere o e entry choices n ds s m p at = none_before o None e ds s m.path
        (table_of codes.statics entry choices m.computed) m.lies.fits p at

    never_blocked : seen.number ≡ None → seen.cut ≡ None → IsNeverBlocked codes.statics f code
    never_blocked e g entry choices fits b =
        met_nowhere b.obstacle (both b.obstacle) entry choices b.steps b.decisions b.s b.meets b.place
        (blocked_stands code b.s b.obstacle b.place b.blocked)
      where
        both : (o : Obstacle) → seen_at o seen ≡ None
        both Number = e
        both Loop = g

    pub all_searched_balanced : seen.number ≡ None → seen.cut ≡ None
        → AreBalanced codes.statics code × (HasFew codes f code × IsNeverBlocked codes.statics f code)
    all_searched_balanced e g = (
      λ entry choices world value r. one_balanced codes f code has covers immortals (so_far.level tt) entry choices world
          value r (never_blocked e g entry choices r.fits)
          (λ n ds s m p off. met_nowhere Number e entry choices n ds s m p (inr off)),
      (
        has_few codes f code has covers (ended + 0) (omega (arith, few)) (so_far.exactly 0 no_state),
        never_blocked e g,
      ),
    )

    there_code : (s : State) (ds : List Decision) → Path code.instrs First ds s
        → code_at codes s.known.function ≡ Some code
    there_code s ds path = ap (code_at codes) (of_function codes f code has ds s path) ∙ has.is

    seen_there : (o : Obstacle) (p : Pos) → seen_at o seen ≡ Some p → IsSeenThere codes f code o p
    seen_there o p e = subst (IsSeen codes f code o) e (so_far.there o)

    pub first_place : (o : Obstacle) (p : Pos) → seen_at o seen ≡ Some p → FirstPlace codes.statics f code o p
    first_place o p e =
        let t = seen_there o p e in
        let ds = t.on_path.0 in
        let path = t.on_path.1 in
        let w = t.is_open.run.0 in
        let computed = t.is_open.run.1.0 in
        let is = t.is_open.run.1.1 code ds (is_reached codes f code has ds t.s path) in
        record {
          entry = w.input;
          choices = w.choices;
          computed = computed;
          comes = record {
            decisions = ds;
            s = t.s;
            run = subst (λ g. IsFreeRun codes.statics g code w.input w.choices computed ds t.s)
                (of_function codes f code has ds t.s path) is;
            at = t.is_open.at code (there_code t.s ds path);
          };
          first = λ other given numbers q c. comes_later o (Some p) e other given numbers q c;
          at_zero = level_at_zero;
          followed = followed_balanced;
        }

    pub first_loop : (p : Pos) → seen.number ≡ None → seen.cut ≡ Some p → FirstLoop codes.statics f code p
    first_loop p e g =
        let t = seen_there Loop p g in
        let ds = t.on_path.0 in
        record {
          first = first_place Loop p g;
          no_number = no_number_seen e;
          place = t.is_open.place code ds p (is_reached codes f code has ds t.s t.on_path.1)
              (t.is_open.at code (there_code t.s ds t.on_path.1));
        }

-- a function whose code has the judged form
pub with_form : (codes : Codes) (f : ℕ) → HasJudgedForm codes f → (code : Code) → code_at codes f ≡ Some code
    → HasForm codes f code
with_form codes f judged code is = record { is = is; form = judged code is }

pub all_searched : (codes : Codes) (f ended : ℕ) (seen : Seen) → HasJudgedForm codes f → Covers codes f
    → HasImmortals codes f → ended ≤ most_traces
    → ((code : Code) → HasForm codes f code → Searched codes f code [] ended seen)
    → IsExplored codes f (shown seen)
all_searched codes f ended seen judged covers immortals few so_far = by seen.number seen.cut refl refl
  where
    by : (number cut : Option Pos) → seen.number ≡ number → seen.cut ≡ cut → IsExplored codes f (shown_by number cut)
    by None None e g = λ code is. let has = with_form codes f judged code is in
        all_searched_balanced codes f code has ended seen covers immortals few (so_far code has) e g
    by None (Some p) e g = λ code is. let has = with_form codes f judged code is in
        first_loop codes f code has ended seen covers immortals few (so_far code has) p e g
    by (Some p) cut e g = λ code is. let has = with_form codes f judged code is in
        first_place codes f code has ended seen covers immortals few (so_far code has) Number p e

-- where a fault is there and the traces are few, it is found
pub finds_fault : (codes : Codes) (f : ℕ) (e : Explored) → IsExplored codes f e → FindsFault codes f e
finds_fault codes f AllBalanced h code has few u =
    absurd (u.differs ((h code has).0 u.entry u.choices u.world u.value u.returns))
finds_fault codes f (Fault w) h code has few u = (w, refl)
finds_fault codes f (NumberSeen p) h code has few u =
    absurd (u.differs ((h code has).followed u.entry u.choices u.world u.value u.returns u.tried))
finds_fault codes f (Cut p) h code has few u =
    absurd (u.differs ((h code has).first.followed u.entry u.choices u.world u.value u.returns u.tried))
finds_fault codes f TooMany h code has few u = absurd (few_not_many codes f code few (h code has))
