-- What the public calls promise, from the lemmas on states.
use Rattle.std.proofs.Common.{◌≡◌, ℤ, ℕ, suc, ◌+◌, ◌-◌, ◌<◌, ◌≤◌, List, [], ◌∷◌, length, map, take, drop, get_or, Bool}
use Rattle.std.proofs.Common.{true, false, refl, sym, ap, ◌∙◌, subst, arith, ◌⊎◌, inl, inr, Option, Some}
use Rattle.std.proofs.Common.{◌+ℤ◌}
use Rattle.std.specs.Prelude.{slice_get}
use Rattle.pungi_base.specs.declared.choice.Choice.{Choice}
use Rattle.pungi_base.specs.declared.choice.Choice.TheVariants as choice
use Rattle.pungi_base.specs.declared.value.Value.{Value}
use Rattle.pungi_base.specs.declared.value.Value.TheVariants as value
use Rattle.pungi_symbol.specs.declared.answers.decision.Decision.{Decision}
use Rattle.pungi_symbol.specs.declared.states.mark.Mark.TheVariants.{IsNull}
use Rattle.pungi_symbol.specs.declared.states.state.State.{State}
use Rattle.pungi_meaning.specs.Values.{arithmetic}
use Rattle.pungi_symbol.specs.declared.runs.model.Model.{Model}
use Rattle.pungi_symbol.specs.states.Terms.{Table, value_at, at, is_mark, sum_value}
use Rattle.pungi_symbol.specs.runs.Fits.{FitsState, IsSound}
use Rattle.std.specs.Prelude.{◌&&◌, nat_lt, nat_le, ◌^◌, All, IfSome}
use Rattle.std.specs.Option.{option_map_or}
use Rattle.std.specs.List.{list_all}
use Rattle.std.proofs.lemmas.Bool.Decides.{nat_tests}
use Rattle.std.proofs.lemmas.List.{get_or-take, get_or-drop, length-take, length-drop, append-nil}
use Rattle.std.proofs.lemmas.Option.{slice_get-get_or}
use Rattle.pungi_base.specs.declared.entry.Entry.{Entry}
use Rattle.pungi_base.specs.declared.witness.Witness.{Witness}
use Rattle.pungi_api.specs.declared.param.Param.{Param}
use Rattle.pungi_api.specs.declared.param.Param.TheVariants as param
use Rattle.pungi_meaning.specs.Run as run
use Rattle.pungi_code.specs.declared.code.Code.{Code}
use Rattle.pungi_code.specs.declared.code.Codes.{Codes}
use Rattle.pungi_code.specs.Entries.{holds_value, hold_values, code_fits}
use Rattle.pungi_code.specs.Run.{code_at}
use Rattle.pungi_code.specs.WellFormed.{is_slot_kind}
use Rattle.pungi_symbol.specs.states.Known.{count}
use Rattle.pungi_symbol.specs.questions.NextQuestion.{content_mark}
use Rattle.pungi_symbol.specs.answers.KnownAfter.{go_on}
use Rattle.pungi_symbol.specs.runs.RunInState.{IsOf}
use Rattle.pungi_symbol.specs.runs.Numbers.{numbers_in}
use Rattle.pungi_symbol.specs.runs.Paths.{Numbers, AreComputed, computation, sum_at, values_of, own_table}
use Rattle.pungi_symbol.specs.runs.Paths.{argument_count, start_state, table_of}
use Rattle.pungi_symbol.specs.runs.Paths.{HasNoTable, run_for, Meets, GoesBack, AreApart, canon, choice_of}
use Rattle.pungi_symbol.specs.runs.Paths.{own_choices, own_numbers}
use Rattle.pungi_symbol.specs.answers.SymbolicState.{is_among}
use Rattle.pungi_symbol.specs.runs.Paths.{IsModel, IsBlocked, IsShort}
use Rattle.pungi_symbol.specs.Promises.{next_states, Covers, IsReached, IsRunOf, IsShortRunOf, HasNoRun, IsOwn}
use Rattle.pungi_symbol.specs.Promises.{IsFreeRunOf, HasFreeRun}
use Rattle.pungi_symbol.specs.Promises.{HasEachChoice}
use Rattle.pungi_symbol.proofs.runs.Canon.{run_values, own_apart, own_numbers_long, choice_back, choice_at}
use Rattle.pungi_symbol.proofs.runs.Canon.{choices_long as all_choices_long}
use Rattle.pungi_symbol.proofs.steps.StepForward.{AreObjectLines, two_true}
use Rattle.pungi_symbol.proofs.runs.Paths.{step_back, path_sound, path_fits, Arrived, wants_one}
use Rattle.pungi_symbol.proofs.runs.Paths.{meets_one, blocked_one, arrives_at}
use Rattle.pungi_symbol.proofs.runs.MadeObjects.{Follows}
use Rattle.pungi_symbol.proofs.runs.Supplied.{Supplies, path_grows, path_late}
use Rattle.pungi_symbol.proofs.runs.RunsOfPaths.{stands, is_short, AreReal}
use Rattle.pungi_symbol.proofs.steps.Numbers.{result_number}
use Rattle.pungi_symbol.proofs.runs.Starts.{form_lines, form_params, marks_long, argument_mark, start_sound, held_long}
use Rattle.pungi_symbol.proofs.runs.Starts.{start_linked, start_lies, entry_fits}
use Rattle.pungi_symbol.proofs.runs.Returns.{own_long, canon_fits, canon_small, canon_next, node_same}
use Rattle.pungi_symbol.proofs.answers.NextStates.{all_next}
use Rattle.pungi_symbol.proofs.answers.Reached.{of_code}

-- ---- forward

pub covers : (codes : Codes) (f : ℕ) → Covers codes f
covers codes f code has entry choices n fits =
    let e = entry_fits codes.statics code entry fits in
    let args = held_long codes.statics f code entry.objects (take code.params code.vars) entry.args e.1 in
    by (arrives_at code codes.statics f (form_lines codes.statics code has.form) entry choices
    (start_sound codes.statics f code) (start_linked codes.statics f code entry choices [] args)
    (start_lies codes.statics f code entry choices [] args e.0 (form_params codes.statics code has.form) e.1) n)
  where
    by : Arrived code codes.statics f entry choices n
        → (run_for code entry choices n ≡ run.NeedsChoice)
        ⊎ (((ds : List Decision) × ((s : State) × Meets codes.statics f code entry choices n ds s))
        ⊎ IsBlocked codes.statics f code entry choices)
    by (wants_one h) = inl (ap (run_for code entry choices) (omega arith) ∙ h 0)
    by (meets_one ds s r long) = inr (inl (ds, (s, r)))
    by (blocked_one r) = inr (inr r)

-- ---- reached states

module _ (codes : Codes) (s : State) (ds : List Decision) (code : Code) (reached : IsReached codes s ds code) where
  abbrev pub Start : State
  Start = start_state codes.statics s.known.function code

  lines_form : AreObjectLines codes.statics code.instrs
  lines_form = form_lines codes.statics code reached.0.form

  pub reached_sound : IsSound s × (s.statics ≡ codes.statics)
  reached_sound = path_sound code.instrs codes.statics lines_form Start (start_sound codes.statics s.known.function
      code) refl ds s reached.1

  pub all_back : (go_on : List (Decision × State)) → go_on ≡ next_states codes s → All (GoesBack code.instrs s) go_on
  all_back go_on is = of_code (GoesBack code.instrs s) codes s ds code go_on is reached
      (all_next (GoesBack code.instrs s) code.instrs s (λ d c table f. step_back code.instrs codes.statics
      lines_form s reached_sound.0 reached_sound.1 table d c f))

  -- ---- the state's own run

  abbrev N : ℕ
  N = argument_count code

  long : codes.statics + N ≤ count s.known
  long =
      let a = path_grows code.instrs Start ds s reached.1 in
      let b = marks_long codes.statics s.known.function code in
      omega (arith, a, b)

  -- what is made comes after static objects and arguments
  late : (m : ℕ) → is_among s.known.made m ≡ true → codes.statics + N ≤ m
  late m h =
      let a = path_late code.instrs Start refl ds s reached.1 m h in
      let b = marks_long codes.statics s.known.function code in
      omega (arith, a, b)

  static_late : (m : ℕ) → is_among s.known.made m ≡ true → s.statics ≤ m
  static_late m h = let a = late m h in let e = reached_sound.1 in omega (arith, a, e)

  module _ (ns : Numbers) (model : IsModel s ns) where
    abbrev Own : Table
    Own = own_table s ns

    abbrev Came : List Value
    Came = drop codes.statics Own.values

    canon_long : length Own.values ≡ count s.known
    canon_long = own_long s.known.marks (own_numbers s) ns.tokens
        (own_numbers_long s ∙ reached_sound.0.notes.classes_long) model.all

    came_long : length Came ≡ count s.known - codes.statics
    came_long = let a = length-drop codes.statics Own.values in let b = canon_long in omega (arith, a, b)

    module _ (input : Entry) (choices : List Choice) (objects : input.objects ≡ count s.known)
        (few : input.objects < 2 ^ 31) (args : input.args ≡ take N Came) (chosen : choices
        ≡ drop N (drop codes.statics (own_choices s ns.tokens))) where
      abbrev T : Table
      T = table_of codes.statics input choices ns.computed

      pub own_is : values_of codes.statics input choices ≡ Own.values
      own_is =
          let e = reached_sound.1 in
          ap (λ n. values_of n input choices) (sym e)
          ∙ run_values s reached_sound.0 static_late ns.tokens model.all input choices N
          (args ∙ ap (λ n. take N (drop n Own.values)) (sym e))
          (chosen ∙ ap (λ n. drop N (drop n (own_choices s ns.tokens))) (sym e))

      pub choices_long : codes.statics + N + length choices ≡ count s.known
      choices_long =
          let a = ap length chosen in
          let all = own_choices s ns.tokens in
          let b = length-drop N (drop codes.statics all) in
          let d = length-drop codes.statics all in
          let e = all_choices_long s.known.marks Own.values in
          let f = canon_long in
          let l = long in
          omega (arith, a, b, d, e, f, l)

      pub fits : FitsState T s
      fits = subst (λ vs. FitsState (record { values = vs; computed = ns.computed }) s) (sym own_is)
          (canon_fits s reached_sound.0 ns model static_late)

      pub apart : AreApart s T.values
      apart = subst (AreApart s) (sym own_is) (own_apart s reached_sound.0 ns.tokens)

      -- the numbers of the table are those of the operators, where the model's are
      real : AreComputed s.known ns → AreReal T s.known.computed
      real made = subst (λ vs. AreReal (record { values = vs; computed = ns.computed }) s.known.computed) (sym own_is)
          (λ j lt.
          let c = computation s.known j in
          let a = ap (λ z. z +ℤ c.a.plus) (node_same s reached_sound.0 ns model c.a.node) in
          let b = ap (λ z. z +ℤ c.b.plus) (node_same s reached_sound.0 ns model c.b.node) in
          sym (ap (λ z. result_number (arithmetic c.op c.kind z (sum_value Own c.b))) a
          ∙ ap (λ z. result_number (arithmetic c.op c.kind (sum_at ns c.a) z)) b ∙ ap result_number (made j lt)))

      args_long : length input.args ≡ N
      args_long =
          let a = ap length args in
          let b = length-take N Came in
          let c = came_long in
          let d = long in
          omega (arith, a, b, c, d)

      argument_at : (j : ℕ) → j < N → get_or input.args j value.Null ≡ at Own (codes.statics + j)
      argument_at j lt = ap (λ vs. get_or vs j value.Null) args ∙ get_or-take N Came j value.Null lt
          ∙ get_or-drop codes.statics Own.values j value.Null

      first_fits : FitsState Own Start
      first_fits = (path_fits code.instrs codes.statics lines_form Start (start_sound codes.statics s.known.function
          code) refl Own ds s reached.1 (canon_fits s reached_sound.0 ns model static_late)).0

      argument_good : (j : ℕ) → j < N → (is_mark (get_or (map content_mark (take code.params code.vars)) j IsNull)
          (get_or input.args j value.Null) ≡ true) × IsOf input.objects (get_or input.args j value.Null)
      argument_good j lt =
          let e = argument_at j lt in
          let b = marks_long codes.statics s.known.function code in
          let h = first_fits.notes.marks (codes.statics + j) (omega (arith, lt, b)) in
          let l = long in (
            ap (is_mark (get_or (map content_mark (take code.params code.vars)) j IsNull)) e
                ∙ ap (λ r. is_mark r (at Own (codes.statics + j))) (sym (argument_mark codes.statics
                s.known.function code j)) ∙ h,
            subst (IsOf input.objects) (sym e) (canon_small s reached_sound.0 ns model [] s.known.made refl
                (codes.statics + j) (λ m h. let made = late m h in omega (arith, made, lt)) (omega (arith, lt, l))
                input.objects (omega (arith, objects))),
          )

      lt_true : (a b : ℕ) → a < b → nat_lt a b ≡ true
      lt_true a b h = grind (arith, nat_tests)

      le_true : (a b : ℕ) → a ≤ b → nat_le a b ≡ true
      le_true a b h = grind (arith, nat_tests)

      one_held : (k : Param) (v : Value) → is_slot_kind k ≡ true → is_mark (content_mark k) v ≡ true
          → IsOf input.objects v → holds_value input.objects k v ≡ true
      one_held param.ObjectOrNull value.Null p h o = refl
      one_held param.ObjectOrNull (value.Object k) p h o = lt_true k input.objects o
      one_held param.ObjectOrNull (value.Int i) p h o = h
      one_held param.ObjectOrNull value.Text p h o = h
      one_held param.TextOrNull value.Null p h o = refl
      one_held param.TextOrNull (value.Object k) p h o = h
      one_held param.TextOrNull (value.Int i) p h o = h
      one_held param.TextOrNull value.Text p h o = refl
      one_held param.Object v p h o = absurd (let bad : false ≡ true = p in cc)
      one_held param.Text v p h o = absurd (let bad : false ≡ true = p in cc)
      one_held param.Int value.Null p h o = h
      one_held param.Int (value.Object k) p h o = h
      one_held param.Int (value.Int i) p h o = h
      one_held param.Int value.Text p h o = h
      one_held param.Long value.Null p h o = h
      one_held param.Long (value.Object k) p h o = h
      one_held param.Long (value.Int i) p h o = h
      one_held param.Long value.Text p h o = h
      one_held param.Size value.Null p h o = h
      one_held param.Size (value.Object k) p h o = h
      one_held param.Size (value.Int i) p h o = h
      one_held param.Size value.Text p h o = h
      one_held param.ModuleDef v p h o = absurd (let bad : false ≡ true = p in cc)

      both_true : (a b : Bool) → a ≡ true → b ≡ true → (a && b) ≡ true
      both_true a b e f = ap (λ z. z && b) e ∙ f

      all_held : (ks : List Param) (vs : List Value) → length vs ≡ length ks → list_all is_slot_kind ks ≡ true
          → ((j : ℕ) → j < length ks → (is_mark (get_or (map content_mark ks) j IsNull) (get_or vs j value.Null)
          ≡ true) × IsOf input.objects (get_or vs j value.Null)) → hold_values input.objects ks vs ≡ true
      all_held [] [] e p h = refl
      all_held [] (v ∷ vs) e p h = absurd (let bad : suc (length vs) ≡ 0 = e in omega (arith, bad))
      all_held (k ∷ ks) [] e p h = absurd (let bad : 0 ≡ suc (length ks) = e in omega (arith, bad))
      all_held (k ∷ ks) (v ∷ vs) e p h =
          let two = two_true (is_slot_kind k) (list_all is_slot_kind ks) p in
          let one = h 0 (omega arith) in
          both_true (holds_value input.objects k v) (hold_values input.objects ks vs) (one_held k v two.0 one.0 one.1)
          (all_held ks vs (omega (arith, e)) two.1 (λ j lt. h (suc j) (omega (arith, lt))))

      held : hold_values input.objects (take code.params code.vars) input.args ≡ true
      held = all_held (take code.params code.vars) input.args args_long (form_params codes.statics code
          reached.0.form) argument_good

      enough : codes.statics ≤ input.objects
      enough = let l = long in omega (arith, l, objects)

      pub run_fits : code_fits codes.statics code input ≡ true
      run_fits = both_true (nat_le codes.statics input.objects) _ (le_true codes.statics input.objects enough)
          (both_true (nat_lt input.objects (2 ^ 31)) (hold_values input.objects (take code.params code.vars) input.args)
          (lt_true input.objects (2 ^ 31) few) held)

      supplies : Supplies T (codes.statics + N) input.objects choices (count s.known) s.known.marks s.known.made
      supplies = record {
        there = λ j lt.
            let all = own_choices s ns.tokens in
            let t = codes.statics + N + j in
            let m = get_or s.known.marks t IsNull in
            let v = at Own t in
            let cl = choices_long in
            let vl = canon_long in
            let at_t : codes.statics + (N + j) ≡ t = omega arith in
            let is : get_or choices j choice.Null ≡ choice_of m v = ap (λ cs. get_or cs j choice.Null) chosen
            ∙ get_or-drop N (drop codes.statics all) j choice.Null
            ∙ get_or-drop codes.statics all (N + j) choice.Null
            ∙ ap (λ i. get_or all i choice.Null) at_t
            ∙ choice_at s.known.marks Own.values t choice.Null lt (omega (arith, lt, vl)) in
            let here : slice_get choices j ≡ Some (choice_of m v) =
            slice_get-get_or choices j choice.Null (omega (arith, lt, cl)) ∙ ap Some is in
            (choice_of m v, here, ap (choice_of m) (sym (choice_back m v)));
        few = (let e = choices_long in omega (arith, e));
        small = λ before after is t later lt. subst (λ y. IsOf (input.objects + length before) (value_at y t))
            (sym own_is) (canon_small s reached_sound.0 ns model before after is t later lt
            (input.objects + length before) (omega (arith, objects)));
        next = λ before after t is new. ap (λ y. value_at y t) own_is
            ∙ canon_next s reached_sound.0 ns model before after t is new
            ∙ ap (λ n. value.Object (n + length before)) (sym objects);
      }

      last_follows : Follows s.known.made s.known.made (count s.known)
      last_follows = record { more = []; is = sym (append-nil s.known.made); later = λ m h. absurd (none m h) }
        where
          none : (m : ℕ) → is_among [] m ≡ true → ⊥
          none m h = let bad : false ≡ true = h in cc

      -- where the code has a loop, the run is as short as the path
      pub run_short : AreComputed s.known ns → (n : ℕ)
          × (IsShort code n × Meets codes.statics s.known.function code input choices n ds s)
      run_short made =
          let f = s.known.function in
          let linked = start_linked codes.statics f code input choices ns.computed args_long in
          let begun = start_lies codes.statics f code input choices ns.computed args_long enough
          (form_params codes.statics code reached.0.form) held in
          let first = start_sound codes.statics f code in
          let r = stands code codes.statics f lines_form input choices ns.computed first linked begun (count s.known)
          s.known.marks s.known.made supplies ds s reached.1 fits (real made) (omega arith) last_follows
          (λ t lt v. refl) in (
            r.0,
            (
              is_short code codes.statics f lines_form input choices ns.computed first linked begun (count s.known)
                  s.known.marks s.known.made supplies r.0 (length ds) ds s reached.1 r.1,
              record {
                computed = ns.computed;
                path = reached.1;
                asked = (path_fits code.instrs codes.statics lines_form Start (start_sound codes.statics f code) refl T
                    ds s reached.1 fits).1;
                m = r.1.m;
                lies = r.1.lies;
                enough = λ h. r.1.in_time;
                is_at = r.1.is_at;
              },
            ),
          )

      pub run_meets : AreComputed s.known ns
          → (n : ℕ) × Meets codes.statics s.known.function code input choices n ds s
      run_meets made = let r = run_short made in (r.0, r.1.1)

-- the parts of a run that `solve` gives
abbrev pub HasParts : Codes → State → List ℤ → Witness → Type 0
HasParts codes s ns w = (w.input.objects ≡ count s.known) × (w.input.objects < 2 ^ 31)
    × (w.input.args ≡ take (option_map_or argument_count (code_at codes s.known.function) 0)
    (drop codes.statics (canon s ns)))
    × (w.choices ≡ drop (option_map_or argument_count (code_at codes s.known.function) 0)
    (drop codes.statics (own_choices s ns)))

module _ (codes : Codes) (s : State) (w : Witness) (ns : Numbers) (model : IsModel s ns)
    (h : HasParts codes s ns.tokens w) where
  args_of : (code : Code) (ds : List Decision) → IsReached codes s ds code
      → w.input.args ≡ take (argument_count code) (drop codes.statics (canon s ns.tokens))
  args_of code ds r =
      h.2 ∙ ap (λ o. take (option_map_or argument_count o 0) (drop codes.statics (canon s ns.tokens))) r.0.is

  choices_of : (code : Code) (ds : List Decision) → IsReached codes s ds code
      → w.choices ≡ drop (argument_count code) (drop codes.statics (own_choices s ns.tokens))
  choices_of code ds r = h.3 ∙ ap (λ o. drop (option_map_or argument_count o 0)
      (drop codes.statics (own_choices s ns.tokens))) r.0.is

  pub solved_run : AreComputed s.known ns → IsRunOf codes s w
  solved_run made code ds r = (
    run_fits codes s ds code r ns model w.input w.choices h.0 h.1 (args_of code ds r)
        (choices_of code ds r),
    run_meets codes s ds code r ns model w.input w.choices h.0 h.1 (args_of code ds r)
        (choices_of code ds r) made,
  )

  pub solved_short : AreComputed s.known ns → IsShortRunOf codes s w
  solved_short made code ds r = run_short codes s ds code r ns model w.input w.choices h.0 h.1 (args_of code ds r)
      (choices_of code ds r) made

  pub solved_own : IsOwn codes s w
  solved_own code ds r = (
    ns,
    (
      model,
      own_is codes s ds code r ns model w.input w.choices h.0 h.1 (args_of code ds r) (choices_of code ds r),
    ),
  )

  pub solved_each : HasEachChoice codes s w
  solved_each code ds r = choices_long codes s ds code r ns model w.input w.choices h.0 h.1 (args_of code ds r)
      (choices_of code ds r)

  pub solved_apart : (code : Code) (ds : List Decision) → IsReached codes s ds code
      → AreApart s (values_of codes.statics w.input w.choices)
  solved_apart code ds r = apart codes s ds code r ns model w.input w.choices h.0 h.1 (args_of code ds r)
      (choices_of code ds r)

  -- if a computation that is no sum may give any number
  solved_free : IsFreeRunOf codes s w ns.computed
  solved_free code ds r = record {
    fits_code = run_fits codes s ds code r ns model w.input w.choices h.0 h.1 (args_of code ds r)
        (choices_of code ds r);
    path = r.1;
    fits = fits codes s ds code r ns model w.input w.choices h.0 h.1 (args_of code ds r) (choices_of code ds r);
    enough = (let e = choices_long codes s ds code r ns model w.input w.choices h.0 h.1 (args_of code ds r)
        (choices_of code ds r) in omega (arith, e));
  }

-- a state with few tokens has a run where numbers meet what it notes: its own
abbrev own_run : Codes → State → List ℤ → Witness
own_run codes s ns = record {
  input = record {
    objects = count s.known;
    args = take (option_map_or argument_count (code_at codes s.known.function) 0) (drop codes.statics (canon s ns));
  };
  choices = drop (option_map_or argument_count (code_at codes s.known.function) 0)
      (drop codes.statics (own_choices s ns));
}

true_lt : (a b : ℕ) → nat_lt a b ≡ true → a < b
true_lt a b h = grind (arith, nat_tests)

pub has_free_run : (s : State) (ns : Numbers) → IsModel s ns → nat_lt (count s.known) (2 ^ 31) ≡ true
    → (codes : Codes) → HasFreeRun codes s
has_free_run s ns model few codes = (
  own_run codes s ns.tokens,
  (
    ns.computed,
    solved_free codes s (own_run codes s ns.tokens) ns model (
      refl,
      true_lt (count s.known) (2 ^ 31) few,
      refl,
      refl,
    ),
  ),
)

-- what was found of the numbers of a state that is the same
module _ (s t : State) (o : Option Model) (same : s ≡ t) (m : Model) (is : o ≡ Some m) where
  pub model_there : IfSome o (λ x. IsModel s (numbers_in x)) → IsModel t (numbers_in m)
  model_there found = subst (λ u. IsModel u (numbers_in m)) same
      (subst (λ r. IfSome r (λ x. IsModel s (numbers_in x))) is found)

  pub real_there : IfSome o (λ x. AreComputed s.known (numbers_in x)) → AreComputed t.known (numbers_in m)
  real_there found = subst (λ u. AreComputed u.known (numbers_in m)) same
      (subst (λ r. IfSome r (λ x. AreComputed s.known (numbers_in x))) is found)

-- where no values of the tokens fit a state, none fit one that its paths lead to
pub no_run : (codes : Codes) (s : State) → HasNoTable s → HasNoRun codes s
no_run codes s none code ds es last reached path table f =
    let sound = reached_sound codes s ds code reached in
    none table (path_fits code.instrs codes.statics (form_lines codes.statics code reached.0.form) s sound.0 sound.1
    table es last path f).0
