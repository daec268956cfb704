-- Where the trees below states end, the traces of runs from these states to the ends are in a list that has one for
-- each leaf, and no run goes on further than the trees are deep.
use Rattle.std.proofs.Common.{◌≡◌, ℕ, suc, ◌+◌, ◌<◌, ◌≤◌, List, [], ◌∷◌, ◌++◌, length, map, refl, sym, ap, subst, arith}
use Rattle.std.proofs.Common.{inl}
use Rattle.std.proofs.Common.{length-append}
use Rattle.std.proofs.Math.ListN.{length-map}
use Rattle.pungi_code.specs.declared.code.Line.{Line}
use Rattle.pungi_symbol.specs.declared.answers.decision.Decision.{Decision}
use Rattle.pungi_symbol.specs.declared.states.known.Status.TheVariants as status
use Rattle.pungi_symbol.specs.declared.states.state.State.{State}
use Rattle.pungi_symbol.specs.answers.SymbolicState.{successors}
use Rattle.pungi_symbol.specs.states.Terms.{Table}
use Rattle.pungi_symbol.specs.runs.Fits.{FitsState}
use Rattle.pungi_symbol.specs.runs.Paths.{Path}
use Rattle.pungi_explore.specs.Traces.{IsIn, HasEnded, states_after}
use Rattle.pungi_explore.proofs.Begins.{Told, Begins, stays, answers, begins, ended_asks, ended_here}
use Rattle.pungi_explore.proofs.Different.{in_left, in_right, in_map}
use Rattle.pungi_explore.proofs.Each.{Each, each_weaker}
use Rattle.pungi_explore.proofs.Listed.{after_answer, after_each}
use Rattle.pungi_explore.proofs.Trees.{IsGone, HaveTraces, no_state, has_ended, goes_on, has_gone}

pub same_head : {X : Type 0} (x y : X) (xs ys : List X) → x ∷ xs ≡ y ∷ ys → x ≡ y
same_head x y xs ys e = cc

pub same_tail : {X : Type 0} (x y : X) (xs ys : List X) → x ∷ xs ≡ y ∷ ys → xs ≡ ys
same_tail x y xs ys e = cc

module _ (code : List Line) where
  -- all traces of runs from a state to an end are in a list
  abbrev pub AreIn : List Told → State → Type 0
  AreIn ts s = (ds : Told) (last : State) → Path code s ds last → HasEnded last → (table : Table)
      → FitsState table last → IsIn ds ts

  -- all that begin with an answer
  abbrev pub AreInAfter : List Told → Decision × State → Type 0
  AreInAfter ts p = (ds : Told) (last : State) → Path code p.1 ds last → HasEnded last → (table : Table)
      → FitsState table last → IsIn (ds ++ p.0 ∷ []) ts

  ended_in : (s : State) → HasEnded s → AreIn ([] ∷ []) s
  ended_in s over ds last p ended table fits = inl (ended_here code s over ds last p)

  going_by : (s : State) (ts : List Told) → s.known.status ≡ status.Going → Each (AreInAfter ts) (successors code s)
      → (ds : Told) (last : State) → Begins code s ds last → HasEnded last → (table : Table) → FitsState table last
      → IsIn ds ts
  going_by s ts going all _ _ stays ended table fits = absurd (ended going)
  going_by s ts going all _ _ (answers d es last c p) ended table fits = after_answer (AreInAfter ts) code s all d c
      es last p ended table fits

  going_in : (s : State) (ts : List Told) → s.known.status ≡ status.Going → Each (AreInAfter ts) (successors code s)
      → AreIn ts s
  going_in s ts going all ds last p ended table fits = going_by s ts going all ds last (begins code s ds last p) ended
      table fits

  -- ---- leaves

  pub record Leaves (ps : List (Decision × State)) (n : ℕ) : Type 0 where
    pub traces : List Told
    pub long : length traces ≡ n
    pub all : Each (AreInAfter traces) ps

  more_left : (ts us : List Told) (p : Decision × State) → AreInAfter us p → AreInAfter (ts ++ us) p
  more_left ts us p h ds last path ended table fits = in_right (ds ++ p.0 ∷ []) ts us (h ds last path ended table fits)

  one_leaf : (p : Decision × State) (s : State) (us : List Told) → p.1 ≡ s → HasEnded s → AreInAfter ((p.0 ∷ []) ∷ us) p
  one_leaf p s us same over ds last path ended table fits =
      let here : HasEnded p.1 = subst HasEnded (sym same) over in
      inl (ap (λ es. es ++ p.0 ∷ []) (ended_here code p.1 here ds last path))

  one_branch : (p : Decision × State) (s : State) (ts us : List Told) → p.1 ≡ s → AreIn ts s
      → AreInAfter (map (λ ds. ds ++ p.0 ∷ []) ts ++ us) p
  one_branch p s ts us same all ds last path ended table fits =
      let there : IsIn ds ts = all ds last (subst (λ t. Path code t ds last) same path) ended table fits in
      in_left (ds ++ p.0 ∷ []) (map (λ es. es ++ p.0 ∷ []) ts) us (in_map (λ es. es ++ p.0 ∷ []) ds ts there)

  none_there : (p : Decision × State) (s : State) (us : List Told) → p.1 ≡ s → IsGone code s → AreInAfter us p
  none_there p s us same gone ds last path ended table fits = absurd (gone ds last
      (subst (λ t. Path code t ds last) same path) table fits)

  pub leaves : (ps : List (Decision × State)) (ss : List State) (n : ℕ) → map (λ p. p.1) ps ≡ ss
      → HaveTraces code ss n → Leaves ps n
  leaves [] _ _ e no_state = record { traces = []; long = omega arith; all = tt }
  leaves [] _ _ e (has_ended s ss n over t) = absurd (let long = ap length e in omega (arith, long))
  leaves [] _ _ e (goes_on s ss m n going a t) = absurd (let long = ap length e in omega (arith, long))
  leaves [] _ _ e (has_gone s ss n gone t) = absurd (let long = ap length e in omega (arith, long))
  leaves (p ∷ ps) _ _ e no_state = absurd (let long = ap length e in omega (arith, long))
  leaves (p ∷ ps) _ _ e (has_ended s ss n over t) =
      let r = leaves ps ss n (same_tail p.1 s (map (λ q. q.1) ps) ss e) t in
      let long = r.long in
      record {
        traces = (p.0 ∷ []) ∷ r.traces;
        long = omega (arith, long);
        all = (
          one_leaf p s r.traces (same_head p.1 s (map (λ q. q.1) ps) ss e) over,
          each_weaker
              (AreInAfter r.traces) (AreInAfter ((p.0 ∷ []) ∷ r.traces)) (more_left ((p.0 ∷ []) ∷ []) r.traces) ps
              r.all,
        );
      }
  leaves (p ∷ ps) _ _ e (goes_on s ss m n going a t) =
      let r = leaves ps ss n (same_tail p.1 s (map (λ q. q.1) ps) ss e) t in
      let u = leaves (successors code s) (states_after code s) m refl a in
      let left = map (λ ds. ds ++ p.0 ∷ []) u.traces in
      let one = u.long in
      let other = r.long in
      let mapped = length-map u.traces (λ ds. ds ++ p.0 ∷ []) in
      let sum = length-append left r.traces in
      record {
        traces = left ++ r.traces;
        long = omega (arith, one, other, mapped, sum);
        all = (
          one_branch p s u.traces r.traces (same_head p.1 s (map (λ q. q.1) ps) ss e)
              (going_in s u.traces going u.all),
          each_weaker (AreInAfter r.traces) (AreInAfter (left ++ r.traces))
              (more_left left r.traces) ps r.all,
        );
      }
  leaves (p ∷ ps) _ _ e (has_gone s ss n gone t) =
      let r = leaves ps ss n (same_tail p.1 s (map (λ q. q.1) ps) ss e) t in
      record {
        traces = r.traces;
        long = r.long;
        all = (none_there p s r.traces (same_head p.1 s (map (λ q. q.1) ps) ss e) gone, r.all);
      }

  pub record FewFrom (s : State) (n : ℕ) : Type 0 where
    pub traces : List Told
    pub few : length traces ≤ n
    pub all : AreIn traces s

  pub few_from : (s : State) (ss : List State) (n : ℕ) → HaveTraces code (s ∷ ss) n → FewFrom s n
  few_from s ss _ (has_ended _ _ n over t) = record { traces = [] ∷ []; few = omega arith; all = ended_in s over }
  few_from s ss _ (goes_on _ _ m n going a t) =
      let u = leaves (successors code s) (states_after code s) m refl a in
      let long = u.long in
      record { traces = u.traces; few = omega (arith, long); all = going_in s u.traces going u.all }
  few_from s ss _ (has_gone _ _ n gone t) = record {
    traces = [];
    few = omega arith;
    all = λ ds last p ended table fits. absurd (gone ds last p table fits);
  }

  -- ---- depth

  -- a path of runs that may go on is not so long
  abbrev pub AreShorter : ℕ → State → Type 0
  AreShorter depth s = (ds : Told) (last : State) → Path code s ds last → last.known.status ≡ status.Going
      → (table : Table) → FitsState table last → length ds < depth

  ended_short : (s : State) (depth : ℕ) → HasEnded s → (ds : Told) (last : State) → Begins code s ds last
      → last.known.status ≡ status.Going → length ds < depth
  ended_short s depth over _ _ stays going = absurd (over going)
  ended_short s depth over _ _ (answers d es last c p) going = absurd (ended_asks code s d over c)

  going_short : (s : State) (depth : ℕ) → Each (AreShorter depth) (states_after code s) → (ds : Told) (last : State)
      → Begins code s ds last → last.known.status ≡ status.Going → (table : Table) → FitsState table last
      → length ds < suc depth
  going_short s depth all _ _ stays going table fits = omega arith
  going_short s depth all _ _ (answers d es last c p) going table fits =
      let one = after_each (AreShorter depth) code s all d c es last p going table fits in
      let long = length-append es (d ∷ []) in
      omega (arith, one, long)

  deeper : (m n : ℕ) (s : State) → m ≤ n → AreShorter m s → AreShorter n s
  deeper m n s le h ds last p going table fits = let short = h ds last p going table fits in omega (arith, le, short)

  pub depth : (ss : List State) (n : ℕ) → HaveTraces code ss n → (d : ℕ) × Each (AreShorter d) ss
  depth _ _ no_state = (0, tt)
  depth _ _ (has_ended s ss n over t) =
      let r = depth ss n t in
      (r.0, (λ ds last p going table fits. ended_short s r.0 over ds last (begins code s ds last p) going, r.1))
  depth _ _ (goes_on s ss m n going a t) =
      let u = depth (states_after code s) m a in
      let r = depth ss n t in
      let here : AreShorter (suc u.0) s = λ ds last p g table fits. going_short s u.0 u.1 ds last
      (begins code s ds last p) g table fits in (
        suc u.0 + r.0,
        (
          deeper (suc u.0) (suc u.0 + r.0) s (omega arith) here,
          each_weaker (AreShorter r.0)
              (AreShorter (suc u.0 + r.0)) (λ t. deeper r.0 (suc u.0 + r.0) t (omega arith)) ss r.1,
        ),
      )
  depth _ _ (has_gone s ss n gone t) =
      let r = depth ss n t in
      (r.0, (λ ds last p going table fits. absurd (gone ds last p table fits), r.1))
