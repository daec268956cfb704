-- Traces of runs, and paths of states to ends that a free run is in: each is the other, so the code has as many traces
-- as there are leaves below its first state.
use Rattle.std.proofs.Common.{◌≡◌, ℕ, ◌+◌, ◌<◌, ◌≤◌, List, [], ◌∷◌, length, map, true, refl, sym, ap, ◌∙◌, subst, arith}
use Rattle.std.proofs.Common.{◌⊎◌, inl, inr}
use Rattle.std.proofs.Math.ListN.{length-map}
use Rattle.pungi_base.specs.declared.choice.Choice.{Choice}
use Rattle.pungi_base.specs.declared.entry.Entry.{Entry}
use Rattle.pungi_meaning.specs.Run as run
use Rattle.pungi_code.specs.Alike.{IsOver}
use Rattle.pungi_code.specs.Entries.{code_fits}
use Rattle.pungi_code.specs.declared.code.Code.{Code}
use Rattle.pungi_code.specs.declared.code.Codes.{Codes}
use Rattle.pungi_symbol.specs.declared.states.known.Status.{Status}
use Rattle.pungi_symbol.specs.declared.states.known.Status.TheVariants as status
use Rattle.pungi_symbol.specs.declared.states.state.State.{State}
use Rattle.pungi_symbol.specs.runs.Paths.{start_state, table_of, Path, run_for, IsAt, Meets, IsBlocked, IsFreeRun}
use Rattle.pungi_symbol.specs.Promises.{HasForm, Covers, HasFreeRun}
use Rattle.pungi_explore.specs.Explored.{most_traces, HasFew, HasMany, ExcludeEachOther}
use Rattle.pungi_explore.specs.Traces.{Trace, trace_in, IsIn, IsTrace, HasEnded}
use Rattle.pungi_explore.proofs.SameAnswers.{same_path}
use Rattle.pungi_explore.proofs.Begins.{Told}
use Rattle.pungi_explore.proofs.Different.{in_map, of_map, different_mapped, as_many}
use Rattle.pungi_explore.proofs.Ends.{of_function, is_reached}
use Rattle.pungi_explore.proofs.Few.{AreIn, few_from, AreShorter, depth}
use Rattle.pungi_explore.proofs.Many.{many_from}
use Rattle.pungi_explore.proofs.Trees.{HaveTraces, HaveAtLeast}

module _ (code : Code) (statics f : ℕ) (entry : Entry) (choices : List Choice) (n : ℕ) where
  none_added : n ≡ n + 0
  none_added = omega arith

  -- a run to which no path leads on is over, where it isn't blocked
  over_at : (ds : Told) (s : State) (m : Meets statics f code entry choices n ds s) (z : Status)
      → s.known.status ≡ z → (IsBlocked statics f code entry choices → ⊥) → (z ≡ status.Going → n ≤ length ds)
      → (z ≡ status.Going → length ds < n)
      → IsAt code entry choices n (table_of statics entry choices m.computed) m.m s.known.pc z
      → IsOver (run_for code entry choices n)
  over_at ds s m status.Going e followed enough short at = absurd (let a = enough refl in let b = short refl in omega
      (arith, a, b))
  over_at ds s m (status.Returned p x) e followed enough short at = subst IsOver (sym
      (ap (run_for code entry choices) none_added ∙ at.ends 0)) tt
  over_at ds s m (status.Stopped p) e followed enough short at = subst IsOver (sym
      (ap (run_for code entry choices) none_added ∙ at.ends 0)) tt
  over_at ds s m (status.Blocked o p) e followed enough short at = absurd (followed
      (record { steps = n; decisions = ds; s = s; obstacle = o; place = p; meets = m; blocked = e }))

module _ (codes : Codes) (f : ℕ) (code : Code) (has : HasForm codes f code) where
  abbrev First : State
  First = start_state codes.statics f code

  -- a path to an end that has a free run is the trace of one
  trace_of : (ds : Told) (s : State) → Path code.instrs First ds s → HasEnded s → HasFreeRun codes s → (t : Trace)
      → t ≡ trace_in ds → IsTrace codes.statics f code t
  trace_of ds s path over there t same =
      let w = there.0 in
      let computed = there.1.0 in
      record {
        entry = w.input;
        choices = w.choices;
        computed = computed;
        decisions = ds;
        s = s;
        run = subst (λ g. IsFreeRun codes.statics g code w.input w.choices computed ds s)
            (of_function codes f code has ds s path) (there.1.1 code ds (is_reached codes f code has ds s path));
        is = same;
        over = over;
      }

  -- the trace of a free run is a path to an end
  in_list : (ts : List Told) → AreIn code.instrs ts First → (ds : Trace) → IsTrace codes.statics f code ds
      → IsIn ds (map trace_in ts)
  in_list ts all ds t = subst (λ l. IsIn l (map trace_in ts)) (sym t.is) (in_map trace_in t.decisions ts
      (all t.decisions t.s t.run.path t.over (table_of codes.statics t.entry t.choices t.computed) t.run.fits))

  module _ (covers : Covers codes f) where
    all_end : (n : ℕ) → AreShorter code.instrs n First → (entry : Entry) (choices : List Choice)
        → code_fits codes.statics code entry ≡ true → (IsBlocked codes.statics f code entry choices → ⊥)
        → IsOver (run_for code entry choices n)
    all_end n short entry choices fits followed = by (covers code has entry choices n fits)
      where
        by : (run_for code entry choices n ≡ run.NeedsChoice)
            ⊎ (((es : Told) × ((s : State) × Meets codes.statics f code entry choices n es s))
            ⊎ IsBlocked codes.statics f code entry choices) → IsOver (run_for code entry choices n)
        by (inl e) = subst IsOver (sym e) tt
        by (inr (inl c)) =
            let es = c.0 in
            let s = c.1.0 in
            let m = c.1.1 in
            over_at code codes.statics f entry choices n es s m s.known.status refl followed m.enough
            (λ g. short es s m.path g (table_of codes.statics entry choices m.computed) m.lies.fits) m.is_at
        by (inr (inr c)) = absurd (followed c)

    pub has_few : (n : ℕ) → n ≤ most_traces → HaveTraces code.instrs (First ∷ []) n → HasFew codes f code
    has_few n le h =
        let r = few_from code.instrs First [] n h in
        let d = depth code.instrs (First ∷ []) n h in
        let few = r.few in
        let long = length-map r.traces trace_in in
        record {
          traces = map trace_in r.traces;
          few = omega (arith, few, le, long);
          all = in_list r.traces r.all;
          steps = d.0;
          ends = all_end d.0 d.1.0;
        }

  pub has_many : HaveAtLeast code.instrs (HasFreeRun codes) (First ∷ []) (most_traces + 1) → HasMany codes f code
  has_many h =
      let r = many_from code.instrs (HasFreeRun codes) First (most_traces + 1) h in
      record {
        traces = map trace_in r.traces;
        many = length-map r.traces trace_in ∙ r.long;
        different = different_mapped trace_in r.traces (λ x z i j same. let k = r.each x i in let l = r.each z j in
            same_path code.instrs First x z k.last l.last k.path l.path k.ended l.ended same) r.different;
        each = λ t i. let o = of_map trace_in t r.traces i in let l = r.each o.from o.there in trace_of o.from
            l.last l.path l.ended l.holds t o.is;
      }

pub few_not_many : (codes : Codes) (f : ℕ) → ExcludeEachOther codes f
few_not_many codes f code few many =
    let fewer = as_many many.traces few.traces many.different (λ ds i. few.all ds (many.each ds i)) in
    let more = many.many in
    let most = few.few in
    absurd (omega (arith, fewer, more, most))
