-- Calls and jumps at a point where all is of its kind, and each instruction of a well-formed code.
use Rattle.std.proofs.Common.{◌≡◌, ℕ, ◌+◌, ◌&&◌, true, List, [], ◌∷◌, ◌++◌}
use Rattle.std.proofs.Common.{Option, Some, None, option_map, length, map, replicate, take, refl, sym, ap}
use Rattle.std.proofs.Common.{subst, inr}
use Rattle.std.specs.Prelude.{◌==◌, nat_le, slice_get, slice_set, if◌then◌else◌}
use Rattle.pungi_base.specs.declared.choice.Choice.{Choice}
use Rattle.pungi_base.specs.declared.pos.Pos.{Pos}
use Rattle.pungi_base.specs.declared.value.Value.{Value}
use Rattle.pungi_api.specs.declared.answer.Answer.TheVariants as answer
use Rattle.pungi_api.specs.declared.call_answer.CallAnswer.{CallAnswer}
use Rattle.pungi_api.specs.declared.call_answer.CallAnswer.TheVariants.{Of, Argument}
use Rattle.pungi_api.specs.declared.param.Param.{Param}
use Rattle.pungi_api.specs.declared.param.Param.TheVariants as param
use Rattle.pungi_api.specs.declared.signature.Signature.{Signature}
use Rattle.pungi_api.specs.Rows.{may_take_all}
use Rattle.pungi_api.specs.Signatures.{has_outcomes, is_signature, returns_object, row_answer}
use Rattle.pungi_world.specs.declared.content.Content.{Content}
use Rattle.pungi_world.specs.declared.content.Content.TheVariants.{Unset, Holds}
use Rattle.pungi_world.specs.declared.effect.Effect.{Effect}
use Rattle.pungi_world.specs.declared.world.World.{World}
use Rattle.pungi_world.specs.Calls.{call_effect}
use Rattle.pungi_meaning.specs.Run.{Run, with_operations}
use Rattle.pungi_meaning.specs.Todo.{Called}
use Rattle.pungi_meaning.specs.Values.{is_true}
use Rattle.pungi_code.specs.declared.atom.Atom.{Atom}
use Rattle.pungi_code.specs.declared.atom.Var.{Var}
use Rattle.pungi_code.specs.declared.code.Code.{Code}
use Rattle.pungi_code.specs.declared.code.Codes.{Codes}
use Rattle.pungi_code.specs.declared.instr.Instr.{Instr}
use Rattle.pungi_code.specs.declared.instr.Instr.TheVariants as instr
use Rattle.pungi_code.specs.declared.instr.Label.{Label}
use Rattle.pungi_code.specs.declared.place.Place.{Place}
use Rattle.pungi_code.specs.declared.place.Place.TheVariants.{Global, Field}
use Rattle.pungi_code.specs.Entries.{holds_value}
use Rattle.pungi_code.specs.Frames.{Rest, code_numbered, enter}
use Rattle.pungi_code.specs.Limits.{most_arguments}
use Rattle.pungi_code.specs.Perform.{call}
use Rattle.pungi_code.specs.Registers.{all_values, choices_left, content_of, put_answer}
use Rattle.pungi_code.specs.Run.{calling}
use Rattle.pungi_code.specs.WellFormed.{AreWellFormed, are_alike, are_arguments, atom_is, counts_in}
use Rattle.pungi_code.specs.WellFormed.{fits_call, fits_result, is_answer, is_integer, is_number, is_order, is_place}
use Rattle.pungi_code.specs.WellFormed.{is_slot_kind, is_sound_among, is_var, is_wide, kinds_of, place_kind, place_of}
use Rattle.pungi_code.specs.WellFormed.{returned_param, var_kind}
use Rattle.pungi_layout.proofs.well_formed.Both.{and_true, and_left, and_right}
use Rattle.pungi_kinds.specs.Contents.{argument_kind, arguments_hold, gives_result, IsPlaceOf, SlotsHold}
use Rattle.pungi_kinds.specs.Operations.{OperationHolds, answer_holds}
use Rattle.pungi_kinds.specs.Runs.{Point, HasKinds}
use Rattle.pungi_kinds.specs.Taken.{atom_holds, base_holds, contents_of, passed_hold, takes_kinds}
use Rattle.pungi_kinds.proofs.ValueLemmas as lemma
use Rattle.pungi_kinds.proofs.AtomLemmas.{values_held}
use Rattle.pungi_kinds.proofs.CallLemmas.{IsCalled, called}
use Rattle.pungi_kinds.proofs.Instructions as instruction
use Rattle.pungi_kinds.proofs.SlotLemmas.{more_slots}
use Rattle.pungi_kinds.proofs.Steps as step

answer_value : (n : ℕ) (a : CallAnswer) (v : Value) → answer_holds n a (Some v) ≡ true
    → holds_value n (returned_param a) v ≡ true
answer_value n (Of answer.Void) v h = absurd (cc)
answer_value n (Of _) v h = h
answer_value n Argument v h = h

module _ (codes : Codes) (w : AreWellFormed codes) (result : Option Param) (choices : List Choice) (first : ℕ)
    (s : Point) (has : HasKinds codes result choices first s) where
  abbrev Does : Instr → Pos → Type 0
  Does i p = instruction.Does codes w result choices first s has i p

  abbrev Done : (Rest → Run) → Type 0
  Done told = step.Done codes result choices first s has told

  abbrev Vars : List Content
  Vars = s.regs.vars

  abbrev Kinds : List Param
  Kinds = has.runs.code.vars

  abbrev N : ℕ
  N = length s.regs.world.accounts

  -- ---- calls of the API

  module _ (g : Signature) (p : Pos) (vs : List Value) (r : Effect × World)
      (c : IsCalled s.regs.world g (choices_left choices s.regs) r)
      (held : arguments_hold N g.params (map Holds vs) ≡ true) where
    grown : step.IsGrown codes result choices first s has r
    grown = record {
      least = c.grows.least;
      most = c.grows.most;
      used = c.used;
      slots = subst (λ slots. SlotsHold codes (length r.1.accounts) slots) (sym c.grows.slots)
          (more_slots codes N (length r.1.accounts) s.regs.world.slots c.grows.least has.slots);
    }

    operation : OperationHolds codes (length r.1.accounts) (Called p g vs r.0)
    operation =
        and_true (arguments_hold (length r.1.accounts) g.params (map Holds vs))
        (answer_holds (length r.1.accounts) g.answer r.0.value)
        (lemma.more_contents N (length r.1.accounts) (map argument_kind g.params) (map Holds vs) c.grows.least held)
        c.holds

    answers : (x : Option Var) (v : Option Value) → is_answer Kinds g x ≡ true
        → answer_holds (length r.1.accounts) g.answer v ≡ true
        → Done (λ go. with_operations (Called p g vs r.0 ∷ []) (go s.frames s.instrs (s.place + 1) (put_answer x v
        (record (s.regs) { world = r.1; used = s.regs.used ++ replicate r.0.used p }))))
    answers None v there h =
        inr (record {
          ops = Called p g vs r.0 ∷ [];
          next = step.After codes result choices first s has (s.place + 1) r p Vars;
          by = λ go. refl;
          holds = (operation, tt);
          then = step.grown_same codes result choices first s has (s.place + 1) r p grown;
        })
    answers (Some x) None there h =
        inr (record {
          ops = Called p g vs r.0 ∷ [];
          next = step.After codes result choices first s has (s.place + 1) r p Vars;
          by = λ go. refl;
          holds = (operation, tt);
          then = step.grown_same codes result choices first s has (s.place + 1) r p grown;
        })
    answers (Some x) (Some v) there h =
        inr (record {
          ops = Called p g vs r.0 ∷ [];
          next = step.After codes result choices first s has (s.place + 1) r p (slice_set Vars x.0 (Holds v));
          by = λ go. refl;
          holds = (operation, tt);
          then = step.grown_put codes result choices first s has (s.place + 1) r p x v grown
              (lemma.wider (length r.1.accounts) (returned_param g.answer) (var_kind Kinds x) v
              (and_right (is_var Kinds x) (is_wide (returned_param g.answer) (var_kind Kinds x)) there)
              (answer_value (length r.1.accounts) g.answer v h));
        })

  calls_api : (x : Option Var) (g : Signature) (as' : List Atom) (p : Pos) → is_answer Kinds g x ≡ true
      → is_signature g ≡ true → arguments_hold N g.params (contents_of Vars as') ≡ true
      → Does (instr.Api x g as') p
  calls_api x g as' p there sound h =
      let others = returns_object g.answer g.params && has_outcomes g.own g.answer in
      let ends = and_right (may_take_all (row_answer g.answer) g.params g.takes) others sound in
      let object = and_left (returns_object g.answer g.params) (has_outcomes g.own g.answer) ends in
      let outcomes = and_right (returns_object g.answer g.params) (has_outcomes g.own g.answer) ends in
      step.reads_all codes result choices first s has (all_values as' Vars) p
      (λ vs go. call choices x g p (go s.frames s.instrs) s.place s.regs vs)
      (λ vs e. let held = values_held N Vars g.params as' vs h e in
      step.affects codes result choices first s has (call_effect s.regs.world g vs (choices_left choices s.regs)) p _
      (λ r f. let c = called s.regs.world g vs (choices_left choices s.regs) object outcomes held r f in
      answers g p vs r c held x r.0.value there c.holds))

  -- ---- calls of functions

  enters : (p : Pos) (x : Option Var) (f : ℕ) (as' : List Atom) (vs : List Value) → all_values as' Vars ≡ Some vs
      → (o : Option Code) → code_numbered codes.codes f ≡ o → fits_call Kinds (kinds_of codes f) x as' ≡ true
      → passed_hold N Vars (kinds_of codes f) as' ≡ true
      → Done (λ go. enter go s.frames (calling p s.instrs s.place x s.regs) f vs s.regs o)
  enters p x f as' vs e None there fit h =
      step.stopped codes result choices first s has
      (λ go. enter go s.frames (calling p s.instrs s.place x s.regs) f vs s.regs None) p (λ go. refl)
  enters p x f as' vs e (Some c) there fit h =
      let k : List Param × Option Param = (take c.params c.vars, c.result) in
      let same : kinds_of codes f ≡ Some k
      = ap (option_map (λ (d : Code). (take d.params d.vars, d.result))) there in
      let formed = w.each f c (step.in_list (slice_get codes.codes f) c there) in
      let fits = subst (λ q. fits_call Kinds q x as' ≡ true) same fit in
      let passed = subst (λ q. passed_hold N Vars q as' ≡ true) same h in
      step.tests codes result choices first s has (length vs == c.params) p _
      (λ t. step.begins codes result choices first s has p x f vs c there
      (and_left (fits_result Kinds c.result x) (are_arguments Kinds (take c.params c.vars) as'
      && nat_le (length as') most_arguments) fits)
      (lemma.as_params N c.params c.vars (map Holds vs) formed.kinds
      (values_held N Vars (take c.params c.vars) as' vs passed e)))

  calls_code : (x : Option Var) (f : ℕ) (as' : List Atom) (p : Pos) → fits_call Kinds (kinds_of codes f) x as' ≡ true
      → passed_hold N Vars (kinds_of codes f) as' ≡ true → Does (instr.Call x f as') p
  calls_code x f as' p fit h =
      step.reads_all codes result choices first s has (all_values as' Vars) p
      (λ vs go. enter go s.frames (calling p s.instrs s.place x s.regs) f vs s.regs (code_numbered codes.codes f))
      (λ vs e. enters p x f as' vs e (code_numbered codes.codes f) refl fit h)

  -- ---- jumps and returns

  branches : (a : Atom) (this other : Label) (p : Pos) → Does (instr.Branch a this other) p
  branches a this other p =
      step.reads codes result choices first s has (content_of a Vars) p _
      (λ v e. step.jumps codes result choices first s has (if is_true v then this.0 else other.0))

  returns : (a : Option Atom) (p : Pos)
      → gives_result N has.runs.code.result (option_map (λ b. content_of b Vars) a) ≡ true → Does (instr.Return a) p
  returns None p h = step.leaves codes result choices first s has s.frames has.waiting has.outer None p h
  returns (Some a) p h =
      step.reads codes result choices first s has (content_of a Vars) p _
      (λ v e. step.leaves codes result choices first s has s.frames has.waiting has.outer (Some v) p
      (subst (λ c. gives_result N has.runs.code.result (Some c) ≡ true) e h))

  -- ---- each instruction

  of_place : (place : Place) → is_place Kinds place (place_kind place) ≡ true → is_slot_kind (place_kind place) ≡ true
  of_place (Global n k) h = and_left (is_slot_kind k) (is_wide k k && is_wide k k) h
  of_place (Field base tag field k) h =
      and_left (is_slot_kind k) (is_wide k k && is_wide k k)
      (and_right (atom_is Kinds param.ObjectOrNull base)
      (is_slot_kind k && (is_wide k k && is_wide k k)) h)

  -- `at`: a place that it reads or writes is one of the file's
  pub performs : (i : Instr) (p : Pos) → is_sound_among (kinds_of codes) has.runs.code i ≡ true
      → takes_kinds (kinds_of codes) has.runs.code N Vars i ≡ true
      → ((place : Place) → place_of i ≡ Some place → IsPlaceOf codes place) → Does i p
  performs (instr.Set x a) p h t at = instruction.sets codes w result choices first s has x a p t
  performs (instr.Arith x kind o a b) p h t at =
      let numbers = is_number Kinds a && is_number Kinds b in
      instruction.computes codes w result choices first s has x kind o a b p
      (and_left (counts_in kind (var_kind Kinds x)) numbers
      (and_right (is_var Kinds x) (counts_in kind (var_kind Kinds x) && numbers) h)) t
  performs (instr.Fit x kind a) p h t at =
      instruction.converts codes w result choices first s has x kind a p
      (and_left (counts_in kind (var_kind Kinds x)) (is_number Kinds a)
      (and_right (is_var Kinds x) (counts_in kind (var_kind Kinds x) && is_number Kinds a) h)) t
  performs (instr.Compare x c a b) p h t at =
      let two = if is_order c then is_number Kinds a && is_number Kinds b else are_alike Kinds a b in
      instruction.compares codes w result choices first s has x c a b p
      (and_left (is_integer (var_kind Kinds x)) two
      (and_right (is_var Kinds x) (is_integer (var_kind Kinds x) && two) h)) t
  performs (instr.Load x place) p h t at =
      let wide = is_wide (place_kind place) (var_kind Kinds x) in
      let rest = and_right (is_var Kinds x) (is_place Kinds place (place_kind place) && wide) h in
      instruction.loads codes w result choices first s has x place p (at place refl)
      (of_place place (and_left (is_place Kinds place (place_kind place)) wide rest))
      (and_right (is_place Kinds place (place_kind place)) wide rest)
  performs (instr.Store place a) p h t at =
      instruction.stores codes w result choices first s has place a p (at place refl)
      (of_place place (and_left (is_place Kinds place (place_kind place)) (atom_is Kinds (place_kind place) a) h))
      (and_left (atom_holds N Vars (place_kind place) a) (base_holds N Vars place) t)
  performs (instr.Api x g as') p h t at =
      let few = nat_le (length as') most_arguments in
      let rest = and_right (is_answer Kinds g x) (are_arguments Kinds g.params as' && (few && is_signature g)) h in
      calls_api x g as' p
      (and_left (is_answer Kinds g x) (are_arguments Kinds g.params as' && (few && is_signature g)) h)
      (and_right few (is_signature g)
      (and_right (are_arguments Kinds g.params as') (few && is_signature g) rest)) t
  performs (instr.Call x n as') p h t at = calls_code x n as' p h t
  performs (instr.Unset x) p h t at = step.writes codes result choices first s has [] x Unset refl tt
  performs (instr.Jump to) p h t at = step.jumps codes result choices first s has to.0
  performs (instr.Branch a this other) p h t at = branches a this other p
  performs (instr.Return a) p h t at = returns a p t
  performs instr.Fall p h t at = step.stopped codes result choices first s has _ p (λ go. refl)
