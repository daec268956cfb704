-- Calls of the API keep to the program.
--   ApiRun          what a call did that went on
--   Ending          how it ended, by its outcome
use Rattle.std.proofs.Common.{◌≡◌, inl, inr, ℕ, zero, suc, ◌+◌, ◌<◌, ℤ, ◌+ℤ◌, ◌-ℤ◌, true, cond}
use Rattle.std.proofs.Common.{List, [], ◌∷◌, ◌++◌, length, map, get_or, refl, sym, ap, ◌∙◌, subst, arith}
use Rattle.std.proofs.Common.{Option, Some, None, Result, Ok, Err}
use Rattle.std.specs.Prelude.{nat_le, slice_get, replicate}
use Rattle.std.specs.List.{All, IsAmong, enumerate_from}
use Rattle.std.proofs.lemmas.Int.{ints}
use Rattle.pungi_base.specs.declared.choice.Choice.{Choice}
use Rattle.pungi_base.specs.declared.pos.Pos.{Pos}
use Rattle.pungi_base.specs.declared.value.Value.{Value}
use Rattle.pungi_base.specs.declared.value.Value.TheVariants as value
use Rattle.pungi_api.specs.declared.answer.Answer.{Answer}
use Rattle.pungi_api.specs.declared.answer.Answer.TheVariants as answer
use Rattle.pungi_api.specs.declared.call_answer.CallAnswer.{CallAnswer}
use Rattle.pungi_api.specs.declared.call_answer.CallAnswer.TheVariants.{Of, Argument}
use Rattle.pungi_api.specs.declared.param.Param.{Param}
use Rattle.pungi_api.specs.declared.param.Param.TheVariants as param
use Rattle.pungi_api.specs.declared.signature.Signature.{Signature}
use Rattle.pungi_api.specs.Rows.{may_take_all}
use Rattle.pungi_api.specs.Signatures.{is_signature, has_outcomes, returns_object, row_answer}
use Rattle.pungi_domain.specs.Vectors.{Vector}
use Rattle.pungi_world.specs.Calls.{first_of, call_answer, call_effect, is_call_success}
use Rattle.pungi_world.specs.declared.content.Content.TheVariants as content
use Rattle.pungi_world.specs.declared.effect.Effect.{Effect}
use Rattle.pungi_world.specs.declared.halt.Halt.{Halt}
use Rattle.pungi_world.specs.declared.halt.Halt.TheVariants as halt
use Rattle.pungi_world.specs.declared.world.World.{World}
use Rattle.pungi_world.specs.Choices.{answer_of}
use Rattle.pungi_world.specs.World.{account_of}
use Rattle.pungi_meaning.specs.Run.{Run, Returned, with_operations}
use Rattle.pungi_meaning.specs.Todo.{Called as CalledOperation}
use Rattle.pungi_code.specs.declared.atom.Atom.{Atom}
use Rattle.pungi_code.specs.declared.atom.Var.{Var}
use Rattle.pungi_code.specs.declared.code.Code.{Code}
use Rattle.pungi_code.specs.declared.code.Line.{Line}
use Rattle.pungi_code.specs.declared.instr.Instr.{Instr}
use Rattle.pungi_code.specs.declared.instr.Instr.TheVariants.{Api}
use Rattle.pungi_code.specs.Perform.{call, perform}
use Rattle.pungi_code.specs.Registers.{Regs, Next, all_values, with_values, choices_left, after_effect, put_answer}
use Rattle.pungi_code.specs.WellFormed.{is_var, is_wide, var_kind, is_answer, are_arguments, is_argument, atom_is}
use Rattle.pungi_code.specs.WellFormed.{returned_param}
use Rattle.pungi_shape.specs.declared.holding.Holding.{Holding}
use Rattle.pungi_shape.specs.declared.holding.Holding.TheVariants as held
use Rattle.pungi_shape.specs.declared.shape.Shape.{Shape}
use Rattle.pungi_shape.specs.Cases.{within, leads_to, passes_on, are_set}
use Rattle.pungi_shape.specs.Calls.{null, object, text, known, number}
use Rattle.pungi_shape.specs.Calls.{Outcome, nothing, outcomes_of_row, outcomes_of, outcome_value, does, outcome_cases}
use Rattle.pungi_shape.specs.Calls.{answer_cases, makes}
use Rattle.pungi_shape.specs.Liveness.{instr_at}
use Rattle.pungi_shape.specs.Named.{static_in}
use Rattle.pungi_shape.specs.Parts.{maps, reads, vars_in, vars_in_all, kept_argument, following}
use Rattle.pungi_shape.specs.Scenes.{Scene, scene_of}
use Rattle.pungi_shape.specs.Steps.{holdings_of}
use Rattle.pungi_shape.specs.Edges.{point_of}
use Rattle.pungi_code.specs.Limits.{most_arguments}
use Rattle.pungi_shape.specs.Described.{Naming, debt}
use Rattle.pungi_shape.proofs.sound.Views.{View, view_of, IsTyped, IsObjectSpot, suits}
use Rattle.pungi_shape.proofs.sound.Shows.{spot_in}
use Rattle.pungi_shape.proofs.sound.Flow.{Claim, Flow, IsCode}
use Rattle.pungi_shape.proofs.sound.Stands.{StandsAs, Runs, Steps}
use Rattle.pungi_shape.specs.Arrivals.{arrive}
use Rattle.pungi_shape.proofs.sound.Arrives.{names_after}
use Rattle.pungi_shape.proofs.sound.Moves.{moves_within, leads_on}
use Rattle.pungi_shape.proofs.sound.SceneSteps.{with_debts}
use Rattle.pungi_shape.proofs.sound.Liveness.{IsRead, reads_set}
use Rattle.pungi_shape.proofs.sound.Kinds.{wide_suits, put_typed, atom_suits}
use Rattle.pungi_shape.proofs.sound.Parts.{Chosen, case_covers}
use Rattle.pungi_shape.proofs.sound.Simple.{no_guard}
use Rattle.pungi_shape.proofs.sound.Simple.{instr_is, sound_at, statics_named, atom_read, in_vars, set_by}
use Rattle.pungi_shape.proofs.sound.Accesses.{moved, suits_content}
use Rattle.pungi_shape.proofs.sound.ApiArguments.{values_are, no_values, arguments_so, arguments_there, ArgumentsSo}
use Rattle.pungi_shape.proofs.sound.ApiArguments.{passes_held, Took, done_all}
use Rattle.pungi_shape.proofs.sound.ApiOutcomes.{row_answered, argument_answered}
use Rattle.pungi_shape.proofs.sound.worlds.Values.{IsOf, near_of}
use Rattle.pungi_shape.proofs.sound.worlds.SlotKinds.{all_more, there_more}
use Rattle.pungi_shape.proofs.sound.worlds.Calls.{AreOf, first_is_of, done_by, Called, call_does, IsNearAnswer}
use Rattle.pungi_shape.proofs.sound.worlds.Calls.{IsOfAnswer, Returns, call_returns, call_makes, given_by}
use Rattle.pungi_shape.proofs.sound.worlds.Outcomes.{IsOutcome, IsSuited, row_ends}
use Rattle.pungi_shape.proofs.sound.Members.{nothing_in, first_among, later_among, among_append, among_left, among_map}
use Rattle.pungi_shape.proofs.sound.Tests.{no_way, both_true, lt_true}
use Rattle.pungi_shape.proofs.sound.worlds.Outcomes.{answers, first_answer, made_next}

-- ---- what the run did

pub record ApiRun (choices : List Choice) (x : Option Var) (g : Signature) (as' : List Atom) (next : Next) (pc : ℕ)
    (m : Regs) (w : World) (v : Option Value) (q : Pos) (used : List Pos) : Type 0 where
  pub values : List Value
  pub are_values : all_values as' m.vars ≡ Some values
  pub effect_of : Effect
  pub world : World
  pub returns : Returns g values (choices_left choices m) m.world world effect_of
  pub used_now : List Pos
  pub ends : (next (pc + 1) (put_answer x effect_of.value (moved m world used_now))).end ≡ Returned w v q used

module _ (choices : List Choice) (x : Option Var) (g : Signature) (as' : List Atom) (p : Pos)
    (next : Next) (pc : ℕ) (m : Regs) (w : World) (v : Option Value) (q : Pos) (used : List Pos) where
  abbrev Ran : Type 0
  Ran = ApiRun choices x g as' next pc m w v q used

  abbrev goes : List Value → Result (Effect × World) Halt → Run
  goes xs r =
      after_effect p r m
      (λ e r'. with_operations (CalledOperation p g xs e ∷ []) (next (pc + 1) (put_answer x e.value r')))

  ran_effect : (xs : List Value) (r : Result (Effect × World) Halt) → all_values as' m.vars ≡ Some xs
      → call_effect m.world g xs (choices_left choices m) ≡ r → (goes xs r).end ≡ Returned w v q used → Ran
  ran_effect xs (Ok r) is_xs is_r e =
      let returns = call_returns g xs (choices_left choices m) m.world r.1 r.0 is_r in
      let us = m.used ++ replicate r.0.used p in
      record {
        values = xs;
        are_values = is_xs;
        effect_of = r.0;
        world = r.1;
        returns = returns;
        used_now = us;
        ends = e;
      }
  ran_effect xs (Err halt.Stopped) is_xs is_r e = absurd cc
  ran_effect xs (Err halt.NeedsChoice) is_xs is_r e = absurd cc
  ran_effect xs (Err halt.Memory) is_xs is_r e = absurd cc

  ran_values : (o : Option (List Value)) → all_values as' m.vars ≡ o
      → (with_values o p (call choices x g p next pc m)).end ≡ Returned w v q used → Ran
  ran_values None is e = absurd cc
  ran_values (Some xs) is e = ran_effect xs (call_effect m.world g xs (choices_left choices m)) is refl e

  pub api_ran : (perform choices (Api x g as') p next pc m).end ≡ Returned w v q used → Ran
  api_ran e = ran_values (all_values as' m.vars) refl e

-- ---- what is read

pub arguments_read : (o : View) (as' : List Atom) (xs : List Value) → all_values as' o.vars ≡ Some xs → (y : ℕ)
    → IsAmong (vars_in_all as') y → IsRead o y
arguments_read o [] xs e y there = absurd (nothing_in y there)
arguments_read o (a ∷ as') xs e y there =
    let r = values_are a as' o.vars xs e in
    elim (among_append (vars_in a) (vars_in_all as') y there) [
      | inl h ↦ atom_read o a (r.first, r.is_first) y h
      | inr h ↦ arguments_read o as' r.rest r.are_rest y h
    ]

kept_among : (c : CallAnswer) (as' : List Atom) (y : ℕ) → IsAmong (kept_argument c as') y → IsAmong (vars_in_all as') y
kept_among (Of a) as' y there = absurd (nothing_in y there)
kept_among Argument [] y there = absurd (nothing_in y there)
kept_among Argument (a ∷ as') y there = among_left (vars_in a) (vars_in_all as') y there

among_enumerated : (k : ℕ) (os : List Outcome) (j : ℕ) → j < length os
    → IsAmong (enumerate_from k os) (k + j, get_or os j nothing)
among_enumerated k [] j lt = absurd (omega (arith, lt))
among_enumerated k (o ∷ os) zero lt = (0, (omega arith, ap (λ z. (z, o)) (omega arith)))
among_enumerated k (o ∷ os) (suc j) lt =
    subst (λ z. IsAmong (enumerate_from k (o ∷ os)) (z, get_or os j nothing))
    (let e : k + 1 + j ≡ k + suc j = omega arith in e)
    (later_among (k, o) (enumerate_from (k + 1) os) (k + 1 + j, get_or os j nothing)
    (among_enumerated (k + 1) os j (omega (arith, lt))))

-- ---- kinds

suits_there : (n m : ℕ) (y : Value) → suits n param.ObjectOrNull y ≡ true → IsOf m y
    → suits m param.ObjectOrNull y ≡ true
suits_there n m value.Null e h = refl
suits_there n m (value.Object o) e h = lt_true o m h
suits_there n m (value.Int i) e h = no_way e
suits_there n m value.Text e h = no_way e

object_argument : (vars : List Param) (p : Param) (ps : List Param) (a : Atom) → returns_object Argument (p ∷ ps) ≡ true
    → is_argument vars p a ≡ true → atom_is vars param.ObjectOrNull a ≡ true
object_argument vars param.Object ps a r e = e
object_argument vars param.ObjectOrNull ps a r e = e
object_argument vars param.Text ps a r e = no_way r
object_argument vars param.TextOrNull ps a r e = no_way r
object_argument vars param.Int ps a r e = no_way r
object_argument vars param.Long ps a r e = no_way r
object_argument vars param.Size ps a r e = no_way r
object_argument vars param.ModuleDef ps a r e = no_way r

makes_made : (a : Answer) → makes (Of a) ≡ true → a ≡ answer.Made
makes_made answer.Made e = refl
makes_made a e = no_way e

less_by : (d e f g c : ℤ) → d ≡ (e +ℤ f) +ℤ g → d -ℤ c ≡ ((e -ℤ c) +ℤ f) +ℤ g
less_by d e f g c i = omega (arith, ints, i)

-- ---- the whole call

module _ (code : Code) (ks : List ℕ) (claim : Claim) (is_code : IsCode code ks claim) (flow : Flow code ks claim)
    (x : Option Var) (g : Signature) (as' : List Atom) (pc : ℕ) (line : Line)
    (there : slice_get code.instrs pc ≡ Some line) (same : line.instr ≡ Api x g as') (m : Regs)
    (runs : Runs code ks claim pc m) (xs : List Value) (values : all_values as' m.vars ≡ Some xs)
    (choices : List Choice) (w : World) (effect : Effect) (returns : Returns g xs choices m.world w effect)
    (us : List Pos) where
  abbrev i : Instr
  i = Api x g as'

  abbrev n : ℕ
  n = length code.vars

  abbrev s : Shape
  s = runs.shape

  abbrev S : Scene
  S = scene_of s

  abbrev hs : List Holding
  hs = holdings_of S as'

  abbrev r : Option Value
  r = effect.value

  abbrev N : Regs
  N = moved m w us

  abbrev size : ℕ
  size = length m.world.accounts

  at : instr_at code pc ≡ i
  at = instr_is code pc line i there same

  sound : (is_answer code.vars g x ≡ true) × (are_arguments code.vars g.params as' ≡ true)
  sound =
      let one = both_true (is_answer code.vars g x) _ (sound_at code ks claim is_code pc line i there same) in
      (one.0, (both_true (are_arguments code.vars g.params as') _ one.1).0)

  answer_formed : (returns_object g.answer g.params ≡ true) × (has_outcomes g.own g.answer ≡ true)
  answer_formed =
      let one = both_true (is_answer code.vars g x) _ (sound_at code ks claim is_code pc line i there same) in
      let two = both_true (are_arguments code.vars g.params as') _ one.1 in
      let three = both_true (nat_le (length as') most_arguments) (is_signature g) two.1 in
      let four = both_true (may_take_all (row_answer g.answer) g.params g.takes) _ three.1 in
      both_true (returns_object g.answer g.params) (has_outcomes g.own g.answer) four.1

  outcomes : has_outcomes g.own g.answer ≡ true
  outcomes = answer_formed.1

  object_returned : returns_object g.answer g.params ≡ true
  object_returned = answer_formed.0

  in_code : (t : Var) → x ≡ Some t → t.0 < n
  in_code t e = in_vars code t (both_true (is_var code.vars t) _ (subst (λ z. is_answer code.vars g z ≡ true) e
      sound.0)).0

  named : (a : Atom) → IsAmong as' a → All (IsAmong ks) (static_in a)
  named a h = statics_named code ks claim is_code pc line i there same a h

  set : are_set S (vars_in_all as') ≡ true
  set = set_by code ks claim pc m i at runs (arguments_read (view_of code claim.origin m) as' xs values)

  so : ArgumentsSo runs.names hs xs
  so = arguments_so ks n runs.names runs.vector S
      (view_of code claim.origin m) runs.stands.scene runs.stands.shows as' xs named set values

  are_there : AreOf size xs
  are_there = arguments_there ks n runs.names runs.vector S (view_of code claim.origin m) runs.stands.scene
      runs.stands.shows as'
      xs so

  pub record Ending : Type 0 where
    pub number_of : ℕ
    pub among : number_of < length (outcomes_of g.answer)
    pub success : is_call_success g.answer r
        ≡ is_call_success g.answer (outcome_value (get_or (outcomes_of g.answer) number_of nothing))
    pub near : IsNearAnswer size r
    pub suited : (y : Value) → r ≡ Some y → (k : ℕ) → IsOf k y → suits k (returned_param g.answer) y ≡ true

  -- debts since the entry
  abbrev owed : ℕ → ℤ
  owed o = debt m.world o -ℤ claim.origin.debts o

  -- debts before the answer
  abbrev before : ℕ → ℤ
  before o = owed o +ℤ done_by g.own g xs r o

  abbrev O : View
  O = with_debts before (view_of code claim.origin m)

  module _ (ending : Ending) where
    abbrev k : ℕ
    k = ending.number_of

    abbrev out : Outcome
    out = get_or (outcomes_of g.answer) k nothing

    abbrev T : Scene
    T = does g.own g hs out S

    pub called : Called g.own g xs m.world w r
    called = subst (λ u. Called g.own g xs m.world u r) (sym returns.world)
        (call_does g.own g xs choices m.world r returns.used outcomes are_there ending.near returns.answered)

    pub owed_then : (o : ℕ) → debt w o -ℤ claim.origin.debts o ≡ before o +ℤ given_by g.answer r o
    owed_then o = less_by (debt w o) (debt m.world o) (done_by g.own g xs r o) (given_by g.answer r o)
        (claim.origin.debts o) (called.debts o)

    took : Took ks n runs.names runs.vector s (view_of code claim.origin m) T before
    took = done_all ks n runs.names runs.vector s (view_of code claim.origin m) g.own g as' xs out r S owed
        ending.success so (record {
          shape = refl;
          width = refl;
          scene = runs.stands.scene;
          shows = runs.stands.shows;
        })

    -- the first part
    cases_are : outcome_cases g hs S ≡ map (λ (e : ℕ × Outcome). passes_on e.0 (does g.own g hs e.1 S))
        (enumerate_from 0 (outcomes_of g.answer))
    cases_are = ap (λ b. cond b [] (map (λ (e : ℕ × Outcome). passes_on e.0 (does g.own g hs e.1 S))
        (enumerate_from 0 (outcomes_of g.answer))))
        (passes_held runs.names g.params hs xs so returns.passes)

    first : Chosen code ks i pc 0 0 s runs.vector O (within k)
    first = record {
      chosen = passes_on k T;
      names = runs.names;
      is_there = subst (λ cs. IsAmong cs (passes_on k T)) (sym cases_are)
          (subst (λ (z : ℕ). IsAmong (map (λ (e : ℕ × Outcome). passes_on e.0 (does g.own g hs e.1 S))
          (enumerate_from 0 (outcomes_of g.answer))) (passes_on z T)) (let e : 0 + k ≡ k = omega arith in e)
          (among_map (λ (e : ℕ × Outcome). passes_on e.0 (does g.own g hs e.1 S))
          (enumerate_from 0 (outcomes_of g.answer))
          (0 + k, out) (among_enumerated 0 (outcomes_of g.answer) k ending.among)));
      onward = refl;
      frees = tt;
      guard = no_guard runs.vector;
      width = took.width;
      scene = took.scene;
      deads = λ y d. (ap (λ (z : Shape). get_or z.vars y held.Unset) (sym took.shape) ∙ d, refl);
      kinds = subst (λ (z : Shape). All (IsObjectSpot code) (map spot_in z.slots)) (sym took.shape) runs.stands.kinds;
      shows = took.shows;
    }

    abbrev Last : Shape → Naming → Vector → Type 0
    Last s1 names1 v1 = Chosen code ks i pc 1 k s1 v1 (view_of code claim.origin (put_answer x r N)) (leads_to (pc + 1))

    -- kinds after the answer
    typed_world : IsTyped claim.file code (view_of code claim.origin N)
    typed_world = record {
      count = runs.typed.count;
      vars = λ y. suits_content size (length w.accounts) _ _ called.keeps.accounts (runs.typed.vars y);
      slots = all_more claim.file m.world w called.keeps.slots called.keeps.accounts runs.typed.slots;
      there = there_more m.world w called.keeps.slots called.keeps.accounts runs.typed.there;
      grown = let more = called.keeps.accounts in let before = runs.typed.grown in omega (arith, more, before);
    }

    typed_answer : IsTyped claim.file code (view_of code claim.origin (put_answer x r N))
    typed_answer = by x r refl refl
      where
        by : (z : Option Var) (o : Option Value) → x ≡ z → r ≡ o
            → IsTyped claim.file code (view_of code claim.origin (put_answer z o N))
        by None o e f = typed_world
        by (Some t) None e f = typed_world
        by (Some t) (Some y) e f =
            let wide = (both_true (is_var code.vars t) (is_wide (returned_param g.answer) (var_kind code.vars t))
            (subst (λ z. is_answer code.vars g z ≡ true) e sound.0)).1 in
            put_typed claim.file code (view_of code claim.origin N) t.0 (content.Holds y) typed_world (in_code t e)
            (wide_suits (length w.accounts) (returned_param g.answer) (var_kind code.vars t) y wide
            (ending.suited y f (length w.accounts) (subst (λ z. IsOfAnswer (length w.accounts) z) f called.there)))

    pub goes_on : ((s1 : Shape) (names1 : Naming) (v1 : Vector)
        → StandsAs code ks claim (point_of pc 1 k) s1 names1 v1 O
        → are_set (scene_of s1) (kept_argument g.answer as') ≡ true → Last s1 names1 v1)
        → Runs code ks claim (pc + 1) (put_answer x r N)
    goes_on last =
        let c = case_covers code ks i pc 0 0 s runs.vector O (within k) at set first in
        let one = moves_within code ks claim flow (point_of pc 0 0) s runs.names runs.vector
        (view_of code claim.origin m) O k runs.stands c
        (subst (λ (z : ℕ). 1 < z) (sym (ap maps at)) (omega arith)) in
        let p1 = point_of pc 1 k in
        let s1 = (arrive code p1 c.chosen.scene).shape in
        let names1 = names_after code p1 c.chosen.scene c.names in
        let same_reads : reads (instr_at code pc) 1 ≡ kept_argument g.answer as' = ap (λ j. reads j 1) at in
        let set1 = subst (λ ys. are_set (scene_of s1) ys ≡ true) same_reads
        (reads_set code ks claim p1 s1 names1 one.vector O one.stands
        (λ y h. arguments_read (view_of code claim.origin m) as' xs values y
        (kept_among g.answer as' y (subst (λ ys. IsAmong ys y) same_reads h)))) in
        let after = view_of code claim.origin (put_answer x r N) in
        let lands = leads_on code ks claim flow p1 s1 names1 one.vector O after (pc + 1) one.stands
        (case_covers code ks i pc 1 k s1 one.vector after (leads_to (pc + 1)) at set1
        (last s1 names1 one.vector one.stands set1))
        (sym (ap maps at)) (subst (λ j. IsAmong (following pc j) (pc + 1)) (sym at) (first_among (pc + 1) [])) in
        record {
          shape = lands.shape;
          names = lands.names;
          vector = lands.vector;
          typed = typed_answer;
          stands = lands.stands;
        }

  -- ---- by its answer

  outcome_near : (k : ℕ) (o : Outcome) (z : Option Value) → IsOutcome k o z → IsNearAnswer k z
  outcome_near k nothing z e = subst (IsNearAnswer k) (sym e) tt
  outcome_near k null z e = subst (IsNearAnswer k) (sym e) tt
  outcome_near k object z e = subst (IsNearAnswer k) (sym e.1.1) e.1.0
  outcome_near k text z e = subst (IsNearAnswer k) (sym e) tt
  outcome_near k (known j) z e = subst (IsNearAnswer k) (sym e) tt
  outcome_near k number z e = subst (IsNearAnswer k) (sym e.1) tt

  by_row : (a : Answer) → g.answer ≡ Of a → Runs code ks claim (pc + 1) (put_answer x r N)
  by_row a is_a =
      let e = row_ends size a choices r returns.used (subst (λ c. call_answer size c xs choices
      ≡ answers r returns.used) is_a returns.answered) in
      let ending : Ending = record {
        number_of = e.number_of;
        among = subst (λ c. e.number_of < length (outcomes_of c)) (sym is_a) e.among;
        success = subst (λ c. is_call_success c r ≡ is_call_success c (outcome_value (get_or (outcomes_of c) e.number_of
            nothing))) (sym is_a) e.success;
        near = outcome_near size (get_or (outcomes_of_row a) e.number_of nothing) r e.is_outcome;
        suited = λ y f k h. subst (λ c. suits k (returned_param c) y ≡ true) (sym is_a)
            (subst (λ z. IsSuited a z) f e.suited k h);
      } in
      let did = called ending in
      goes_on ending (λ s1 names1 v1 stands1 set1.
      row_answered code ks claim pc e.number_of x g as' s1 names1 v1 m w us before stands1 did.keeps r
      (owed_then ending)
      runs.typed.count in_code runs.typed.there a is_a e.written size (get_or (outcomes_of_row a) e.number_of nothing)
      (ap (λ c. answer_cases e.number_of c x as' (pc + 1) (scene_of s1)) is_a) e.is_outcome
      (λ j f. subst (λ z. IsOfAnswer (length w.accounts) z) f did.there)
      (λ makes_it j f.
      let is_made : a ≡ answer.Made = makes_made a makes_it in
      let next = made_next size choices r returns.used j (subst (λ b. answer_of size b choices
      ≡ answers r returns.used) is_made (subst (λ c. call_answer size c xs choices
      ≡ answers r returns.used) is_a returns.answered)) f in (
        next,
        subst (λ (u : World). (account_of u j).made ≡ true) (sym returns.world)
            (call_makes g.own g xs m.world r j outcomes (is_a ∙ ap Of is_made) are_there f (omega (arith, next))),
      )))

  first_suits : g.answer ≡ Argument → (k : ℕ) → IsOf k (first_of xs)
      → suits k param.ObjectOrNull (first_of xs) ≡ true
  first_suits is k h = by as' refl g.params refl
    where
      by : (bs : List Atom) → as' ≡ bs → (ps : List Param) → g.params ≡ ps
          → suits k param.ObjectOrNull (first_of xs) ≡ true
      by [] e ps f =
          let none : xs ≡ [] = no_values m.vars xs (ap (λ z. all_values z m.vars) (sym e) ∙ values) in
          ap (λ z. suits k param.ObjectOrNull (first_of z)) none
      by (a ∷ bs) e [] f = no_way (ap (λ z. are_arguments code.vars z (a ∷ bs)) (sym f)
          ∙ ap (are_arguments code.vars g.params) (sym e) ∙ sound.1)
      by (a ∷ bs) e (p ∷ ps) f =
          let vs = values_are a bs m.vars xs (ap (λ z. all_values z m.vars) (sym e) ∙ values) in
          let fits = both_true (is_argument code.vars p a) (are_arguments code.vars ps bs)
          (ap (λ z. are_arguments code.vars z (a ∷ bs)) (sym f) ∙ ap (are_arguments code.vars g.params) (sym e)
          ∙ sound.1) in
          let returned : returns_object Argument (p ∷ ps) ≡ true = ap (λ z. returns_object z (p ∷ ps)) (sym is)
          ∙ ap (returns_object g.answer) (sym f) ∙ object_returned in
          let first_is : first_of xs ≡ vs.first = ap first_of vs.all in
          let ok = atom_suits code ks n runs.names runs.vector None S (view_of code claim.origin m) runs.typed.vars
          runs.stands.scene
          runs.stands.shows a param.ObjectOrNull vs.first (named a
          (subst (λ z. IsAmong z a) (sym e) (first_among a bs)))
          (object_argument code.vars p ps a returned fits.0) vs.is_first in
          subst (λ z. suits k param.ObjectOrNull z ≡ true) (sym first_is)
          (suits_there size k vs.first ok (subst (IsOf k) first_is h))

  by_argument : g.answer ≡ Argument → Runs code ks claim (pc + 1) (put_answer x r N)
  by_argument is =
      let is_r : r ≡ Some (first_of xs) = sym (first_answer (Some (first_of xs)) r 0 returns.used
      (subst (λ c. call_answer size c xs choices ≡ answers r returns.used) is returns.answered)) in
      let ending : Ending = record {
        number_of = 0;
        among = subst (λ c. 0 < length (outcomes_of c)) (sym is) (omega arith);
        success = subst (λ c. is_call_success c r ≡ is_call_success c
            (outcome_value (get_or (outcomes_of c) 0 nothing)))
            (sym is) refl;
        near = subst (IsNearAnswer size) (sym is_r) (near_of size (first_of xs) (first_is_of size xs are_there));
        suited = λ y f k h.
            let same_value : Some (first_of xs) ≡ Some y = sym is_r ∙ f in
            let y_is : first_of xs ≡ y = cc in
            subst (λ c. suits k (returned_param c) y ≡ true) (sym is)
            (subst (λ z. suits k param.ObjectOrNull z ≡ true) y_is (first_suits is k (subst (IsOf k) (sym y_is) h)));
      } in
      let did = called ending in
      goes_on ending (λ s1 names1 v1 stands1 set1.
      argument_answered code ks claim pc 0 x g as' s1 names1 v1 m w us before stands1 did.keeps r (owed_then ending)
      runs.typed.count in_code runs.typed.there is xs values named
      (subst (λ c. are_set (scene_of s1) (kept_argument c as') ≡ true) is set1) is_r)

  pub api_runs : Runs code ks claim (pc + 1) (put_answer x r N)
  api_runs = by g.answer refl
    where
      by : (c : CallAnswer) → g.answer ≡ c → Runs code ks claim (pc + 1) (put_answer x r N)
      by (Of a) e = by_row a e
      by Argument e = by_argument e

pub steps_api : (code : Code) (ks : List ℕ) (claim : Claim) → IsCode code ks claim → Flow code ks claim
    → (x : Option Var)
    (g : Signature) (as' : List Atom) → Steps code ks claim (Api x g as')
steps_api code ks claim is_code flow x g as' choices p next pc line m w v q used there same runs e =
    let ran = api_ran choices x g as' p next pc m w v q used e in
    record {
      pc = pc + 1;
      regs = put_answer x ran.effect_of.value (moved m ran.world ran.used_now);
      runs = api_runs code ks claim is_code flow x g as' pc line there same m runs ran.values ran.are_values
          (choices_left choices m) ran.world ran.effect_of ran.returns ran.used_now;
      ends = ran.ends;
    }
