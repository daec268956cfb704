-- A call of a function of the file, at its caller: where the called function leaves by an exit class, the run goes on
-- after the call.
--   ready                   the shape and the vector before the called function is entered
--   exit, z                 the exit class by which it leaves; that vector, beside the one that it left
--   whole, final            the scene over both; what is left of it
--   back, landing           the edge after the call, and the shape where it leads
use Rattle.std.proofs.Common.{◌≡◌, ◌≢◌, ℕ, suc, ◌+◌, ◌≤◌, ◌-ℤ◌, true, false, List, [], ◌∷◌, length, map, get_or, take}
use Rattle.std.proofs.Common.{refl, sym, ap, ◌∙◌, subst, arith, Option, Some, None}
use Rattle.std.specs.Prelude.{◌&&◌, nat_le, slice_get}
use Rattle.std.specs.List.{All, IsAmong}
use Rattle.std.proofs.lemmas.Bool.{false≢true}
use Rattle.std.proofs.lemmas.List.Elements.{All-nil}
use Rattle.pungi_base.specs.declared.value.Value.{Value}
use Rattle.pungi_api.specs.declared.param.Param.{Param}
use Rattle.pungi_domain.specs.Vectors.{Vector}
use Rattle.pungi_world.specs.declared.content.Content.{Content}
use Rattle.pungi_world.specs.declared.content.Content.TheVariants as content
use Rattle.pungi_code.specs.declared.atom.Atom.{Atom}
use Rattle.pungi_code.specs.declared.atom.Var.{Var}
use Rattle.pungi_code.specs.declared.code.Code.{Code}
use Rattle.pungi_code.specs.declared.code.Line.{Line}
use Rattle.pungi_code.specs.declared.instr.Instr.{Instr}
use Rattle.pungi_code.specs.declared.instr.Instr.TheVariants.{Call}
use Rattle.pungi_code.specs.Limits.{most_arguments}
use Rattle.pungi_code.specs.Registers.{Regs, put, all_values}
use Rattle.pungi_code.specs.WellFormed.{are_arguments, fits_call, fits_result, is_var, is_wide, var_kind}
use Rattle.pungi_shape.specs.declared.holding.Holding.TheVariants.{Dead, Unset}
use Rattle.pungi_shape.specs.declared.point.Point.{Point}
use Rattle.pungi_shape.specs.declared.shape.Shape.{Shape}
use Rattle.pungi_shape.specs.declared.tracked.Tracked.{Tracked}
use Rattle.pungi_shape.specs.Shapes.{tokens_of, width_of, exit_of}
use Rattle.pungi_shape.specs.Parts.{maps, var_in, following}
use Rattle.pungi_shape.specs.Liveness.{is_among, instr_at, is_holder}
use Rattle.pungi_shape.specs.Named.{static_in}
use Rattle.pungi_shape.specs.Scenes.{Scene, scene_of}
use Rattle.pungi_shape.specs.Cases.{is_set}
use Rattle.pungi_shape.specs.Arrivals.{arrive}
use Rattle.pungi_shape.specs.Exits.{arguments_of, join_all, agreement, add_all, put_result}
use Rattle.pungi_shape.specs.Places.{Place, at_point, after_call}
use Rattle.pungi_shape.specs.Edges.{Edge, point_of, settle, goes_to, both_shapes, comes_back_by, edges_from}
use Rattle.pungi_shape.specs.Described.{debt}
use Rattle.pungi_shape.proofs.sound.Views.{View, view_of, IsTyped, IsObjectSpot}
use Rattle.pungi_shape.proofs.sound.Shows.{spot_in}
use Rattle.pungi_shape.proofs.sound.Flow.{Claim, Flow, IsCode, AreZero}
use Rattle.pungi_shape.proofs.sound.Stands.{Runs, done_writes, sent}
use Rattle.pungi_shape.proofs.sound.Leaving.{Left}
use Rattle.pungi_shape.proofs.sound.Calling.{AreCalled, resumed_by}
use Rattle.pungi_shape.proofs.sound.Arrives.{names_after, arrives}
use Rattle.pungi_shape.proofs.sound.Moves.{kinds_arrive}
use Rattle.pungi_shape.proofs.sound.SceneWords.{with_world, with_debts}
use Rattle.pungi_shape.proofs.sound.Liveness.{live_part, live_next}
use Rattle.pungi_shape.proofs.sound.ApiArguments.{values_are, no_values}
use Rattle.pungi_shape.proofs.sound.Simple.{instr_is, sound_at, statics_named, in_vars}
use Rattle.pungi_shape.proofs.sound.Puts.{PutSo, view_after, IsVarOf}
use Rattle.pungi_shape.proofs.sound.Resumed.{grown, resumed_typed, result_typed}
use Rattle.pungi_shape.proofs.sound.CallReady.{IsReady, call_ready}
use Rattle.pungi_shape.proofs.sound.CallExits.{IsJoined, beside, claimed_after, whole_joined, agrees, entry_long}
use Rattle.pungi_shape.proofs.sound.CallResults.{added, puts_value, puts_nothing}
use Rattle.pungi_shape.proofs.sound.Members.{first_among}
use Rattle.pungi_shape.proofs.sound.Tests.{both_true, none_some}

values_long : (as' : List Atom) (vars : List Content) (vs : List Value) → all_values as' vars ≡ Some vs
    → length vs ≡ length as'
values_long [] vars vs e = ap length (no_values vars vs e)
values_long (a ∷ as') vars vs e =
    let r = values_are a as' vars vs e in ap length r.all ∙ ap suc (values_long as' vars r.rest r.are_rest)

module _ (code : Code) (ks : List ℕ) (claim : Claim) (is_code : IsCode code ks claim) (flow : Flow code ks claim)
    (x : Option Var) (g : ℕ) (as' : List Atom) (pc : ℕ) (line : Line) (m n : Regs) (vs : List Value) (callee : Code)
    (names : List ℕ) (called : Claim) (result : Option Value) (there : slice_get code.instrs pc ≡ Some line)
    (same : line.instr ≡ Call x g as') (runs : Runs code ks claim pc m) (values : all_values as' m.vars ≡ Some vs)
    (call : AreCalled claim m g vs callee names called) (among : All (IsAmong ks) names)
    (left : Left callee names called n result) where
  at : instr_at code pc ≡ Call x g as'
  at = instr_is code pc line (Call x g as') there same

  ready : IsReady code ks claim as' pc m
  ready = call_ready code ks claim is_code flow x g as' pc m vs at runs values

  abbrev s : Shape
  s = ready.shape

  abbrev exit : Shape
  exit = exit_of left.shape

  abbrev w : ℕ
  w = width_of s

  abbrev z : Vector
  z = beside ready.vector w left.vector

  abbrev whole : Scene
  whole = both_shapes s exit

  abbrev next : Point
  next = point_of (pc + 1) 0 0

  abbrev added_there : Scene
  added_there = add_all w exit (arguments_of exit as') (tokens_of exit) (join_all [] (arguments_of exit as') whole)

  abbrev final : Scene
  final = put_result w exit (arguments_of exit as') x left.shape.returned added_there

  abbrev back : Edge
  back = goes_to code next (agreement w exit as' whole) final

  abbrev place : Place
  place = after_call (point_of pc 2 0) s exit

  abbrev landing : Shape
  landing = (arrive code next final).shape

  named : (a : Atom) → IsAmong as' a → All (IsAmong ks) (static_in a)
  named a h = statics_named code ks claim is_code pc line (Call x g as') there same a h

  grows : length m.world.accounts ≤ length n.world.accounts
  grows = grown code claim m g vs callee names called n call left.typed

  long : length left.shape.entry ≡ length as'
  long =
      entry_long code ks claim is_code flow x g as' pc m n vs callee names called result at named ready values call
      among left grows ∙ values_long as' m.vars vs values

  joined : IsJoined ks (length code.vars) (λ i. is_set (scene_of s) i) ready.names left.names z
      (with_world n.world (view_of code claim.origin m)) (arguments_of exit as') whole
      (join_all [] (arguments_of exit as') whole)
  joined = whole_joined code ks claim is_code flow x g as' pc m n vs callee names called result at named ready values
      call among left grows

  here : claim.holds place z
  here = claimed_after code ks claim is_code flow x g as' pc m n vs callee names called result at named ready values
      call among left grows

  met : AreZero (agreement w exit as' whole) z
  met = agrees code ks claim is_code flow x g as' pc m n vs callee names called result at named ready values call
      among left grows

  edge_there : IsAmong (edges_from code place) back
  edge_there = subst (λ (i : Instr). IsAmong (comes_back_by code i pc s exit) back) (sym at) (first_among back [])

  -- a variable that is dead isn't read any more
  dead_after : (i : ℕ) → is_among (var_in x) i ≡ false → get_or s.vars i Unset ≡ Dead → is_holder code next i ≡ false
  dead_after i unwritten dead =
      let three : maps (instr_at code pc) ≡ 3 = ap maps at in
      let part = live_part code (point_of pc 1 0) 0 i (omega (arith, three))
      (subst (λ (j : Instr). is_among (done_writes j 1) i ≡ false) (sym at) refl) (ready.stands.deads i dead) in
      live_next code (point_of pc 2 0) (pc + 1) i (omega (arith, three))
      (subst (λ (j : Instr). IsAmong (following pc j) (pc + 1)) (sym at) (first_among (pc + 1) []))
      (subst (λ (j : Instr). is_among (done_writes j 2) i ≡ false) (sym at) unwritten) part

  lands_after : (r : Regs) → IsTyped claim.file code (view_of code claim.origin r)
      → PutSo ks (length code.vars) z x (view_of code claim.origin r) added_there final → Runs code ks claim (pc + 1) r
  lands_after r typed put =
      let done = added code ks claim x g as' m n vs callee names called result call left s ready.names ready.vector long
      joined in
      let zeros = flow.duties place back z (settle code (at_point next landing)) here edge_there met refl in
      let arrived = arrives code ks next final put.names z None (view_of code claim.origin r) put.scene put.shows
      (λ i e. let p = put.deads i e in dead_after i p.1
      (joined.joined.deads i (sym (ap (λ (q : Shape). get_or q.vars i Unset) done.shape) ∙ p.0))) zeros in
      let none : final.shape.slots ≡ [] =
      put.slots ∙ ap (λ (q : Shape). q.slots) done.shape ∙ joined.joined.slots
      in
      record {
        shape = landing;
        names = names_after code next final put.names;
        vector = sent (arrive code next final).rows z;
        typed = typed;
        stands = record {
          claimed = flow.edges place back z (sent (arrive code next final).rows z) (settle code (at_point next landing))
              here edge_there met (λ i. refl) refl;
          scene = arrived.scene;
          deads = arrived.deads;
          kinds = kinds_arrive code next final (subst (λ (rs : List Tracked). All (IsObjectSpot code) (map spot_in rs))
              (sym none) (All-nil (IsObjectSpot code)));
          shows = arrived.shows;
        };
      }

  -- ---- what is returned

  abbrev view_then : View
  view_then = with_debts (λ k. debt n.world k -ℤ claim.origin.debts k) (with_world n.world
      (view_of code claim.origin m))

  lands_nothing : left.shape.returned ≡ Dead → ((i : ℕ) → is_among (var_in x) i ≡ false)
      → IsVarOf (length code.vars) x → Runs code ks claim (pc + 1) (record n { vars = m.vars })
  lands_nothing none unwritten in_code =
      lands_after (record n { vars = m.vars })
      (resumed_typed code claim m g vs callee names called n call left.typed runs.typed)
      (puts_nothing code ks claim x g as' m n vs callee names called result call left s ready.names ready.vector long
      joined none unwritten runs.typed.count in_code)

  lands_value : (v : Value) (r : Regs) → left.content ≡ content.Holds v → left.shape.returned ≢ Dead
      → IsVarOf (length code.vars) x → view_after x (content.Holds v) view_then ≡ view_of code claim.origin r
      → IsTyped claim.file code (view_of code claim.origin r) → Runs code ks claim (pc + 1) r
  lands_value v r is alive in_code same_view typed =
      lands_after r typed (subst (λ o. PutSo ks (length code.vars) z x o added_there final) same_view
      (puts_value code ks claim x g as' m n vs callee names called result call left s ready.names ready.vector long
      joined v is alive runs.typed.count in_code))

  fits : fits_result code.vars callee.result x ≡ true
  fits =
      (both_true (fits_result code.vars callee.result x)
      (are_arguments code.vars (take callee.params callee.vars) as' && nat_le (length as') most_arguments)
      (subst (λ k. fits_call code.vars k x as' ≡ true) call.kinds
      (sound_at code ks claim is_code pc line (Call x g as') there same))).0

-- ---- the step

-- the kind of what is returned suits the variable
fits_some : (vars : List Param) (k : Option Param) (x : Var) → fits_result vars k (Some x) ≡ true
    → (l : Param) × ((k ≡ Some l) × ((is_var vars x && is_wide l (var_kind vars x)) ≡ true))
fits_some vars None x e = absurd (false≢true e)
fits_some vars (Some l) x e = (l, (refl, e))

some_regs : (a b : Regs) → Some a ≡ Some b → a ≡ b
some_regs a b e = cc

pub steps_call : (code : Code) (ks : List ℕ) (claim : Claim) → IsCode code ks claim → Flow code ks claim
    → (x : Option Var) (g : ℕ) (as' : List Atom) (pc : ℕ) (line : Line) (m n : Regs) (vs : List Value) (callee : Code)
    (names : List ℕ) (called : Claim) (result : Option Value) (r : Regs) → slice_get code.instrs pc ≡ Some line
    → line.instr ≡ Call x g as' → Runs code ks claim pc m → all_values as' m.vars ≡ Some vs
    → AreCalled claim m g vs callee names called → All (IsAmong ks) names → Left callee names called n result
    → resumed_by x result m n ≡ Some r → Runs code ks claim (pc + 1) r
steps_call code ks claim is flow None g as' pc line m n vs callee names called None r there same runs values call among
    left e =
    subst (Runs code ks claim (pc + 1)) (some_regs (record n { vars = m.vars }) r e)
    (lands_nothing code ks claim is flow None g as' pc line m n vs callee names called None there same runs values call
    among left left.returned (λ i. refl) tt)
steps_call code ks claim is flow None g as' pc line m n vs callee names called (Some v) r there same runs values call
    among left e =
    let q = record n { vars = m.vars } in
    subst (Runs code ks claim (pc + 1)) (some_regs q r e)
    (lands_value code ks claim is flow None g as' pc line m n vs callee names called (Some v) there same runs values
    call among left v q left.returned.0 left.returned.1 tt refl
    (resumed_typed code claim m g vs callee names called n call left.typed runs.typed))
steps_call code ks claim is flow (Some x) g as' pc line m n vs callee names called None r there same runs values call
    among left e = absurd (none_some r e)
steps_call code ks claim is flow (Some x) g as' pc line m n vs callee names called (Some v) r there same runs values
    call among left e =
    let q = put x (content.Holds v) (record n { vars = m.vars }) in
    let fit = fits_some code.vars callee.result x (fits code ks claim is flow (Some x) g as' pc line m n vs callee names
    called (Some v) there same runs values call among left) in
    let in_code = in_vars code x (both_true (is_var code.vars x) (is_wide fit.0 (var_kind code.vars x)) fit.1.1).0 in
    subst (Runs code ks claim (pc + 1)) (some_regs q r e)
    (lands_value code ks claim is flow (Some x) g as' pc line m n vs callee names called (Some v) there same runs values
    call among left v q left.returned.0 left.returned.1 in_code refl
    (result_typed code claim m g vs callee names called n call left.typed x v fit.0 runs.typed fit.1.1
    (left.suits_result v fit.0 refl fit.1.0)))
