-- An instruction in a window does there what the instruction itself does.
--   Follows code i w to pc q m k o u    two outcomes are alike: both go on, at the next places or at a label of the
--                                       code and where it has moved to, with the same held; or both end
--   Kept m' k'                          the same is still held in the window, and nothing outside it has changed
--   *_kept                              so it is after a variable was set
--   *_follow                            outcomes are alike whose operands are equal
--   *_alike                             so are those of one kind of instruction
use Rattle.std.proofs.Common.{◌≡◌, ℕ, ◌+◌, ℤ, ◌<◌, ◌≤◌, Bool, true, false, ◌&&◌, List, ◌++◌, length}
use Rattle.std.proofs.Common.{Option, Some, None, Result, Ok, Err, refl, sym, ap, ◌∙◌, subst, arith, cond, length-set}
use Rattle.std.proofs.Common.{if◌then◌else◌, replicate, drop}
use Rattle.std.specs.Prelude.{nat_le}
use Rattle.std.proofs.lemmas.Bool.{and_parts}
use Rattle.pungi_base.specs.declared.choice.Choice.{Choice}
use Rattle.pungi_base.specs.declared.pos.Pos.{Pos}
use Rattle.pungi_base.specs.declared.value.Value.{Value}
use Rattle.pungi_base.specs.declared.value.Value.TheVariants as value
use Rattle.pungi_api.specs.declared.param.Param.{Param}
use Rattle.pungi_api.specs.declared.param.Param.TheVariants as param
use Rattle.pungi_api.specs.declared.signature.Signature.{Signature}
use Rattle.pungi_api.specs.Signatures.{is_signature}
use Rattle.pungi_types.specs.declared.kind.ValueKind.{ValueKind}
use Rattle.pungi_world.specs.declared.content.Content.{Content}
use Rattle.pungi_world.specs.declared.content.Content.TheVariants as content
use Rattle.pungi_world.specs.declared.effect.Effect.{Effect}
use Rattle.pungi_world.specs.declared.halt.Halt.{Halt}
use Rattle.pungi_world.specs.declared.halt.Halt.TheVariants as halt
use Rattle.pungi_world.specs.declared.slot.Slot.{Slot}
use Rattle.pungi_world.specs.declared.world.World.{World}
use Rattle.pungi_world.specs.Slots.{load_effect, store_effect}
use Rattle.pungi_world.specs.Calls.{call_effect}
use Rattle.pungi_meaning.specs.declared.cmp.Cmp.{Cmp}
use Rattle.pungi_meaning.specs.declared.op.Op.{Op}
use Rattle.pungi_meaning.specs.Values.{fits, is_true, truth, arithmetic, holds, number_of}
use Rattle.pungi_code.specs.declared.atom.Atom.{Atom}
use Rattle.pungi_code.specs.declared.atom.Var.{Var}
use Rattle.pungi_code.specs.declared.code.Code.{Code}
use Rattle.pungi_code.specs.declared.instr.Instr.{Instr}
use Rattle.pungi_code.specs.declared.instr.Instr.TheVariants.{Set, Arith, Fit, Compare, Load, Store, Api, Call, Unset}
use Rattle.pungi_code.specs.declared.instr.Instr.TheVariants.{Jump, Branch, Return, Fall}
use Rattle.pungi_code.specs.declared.instr.Label.{Label}
use Rattle.pungi_code.specs.declared.place.Place.{Place}
use Rattle.pungi_code.specs.Limits.{most_arguments, most_variables}
use Rattle.pungi_code.specs.Perform.{slot_of}
use Rattle.pungi_code.specs.Registers.{Regs, put, content_of, all_values, choices_left, put_answer}
use Rattle.pungi_code.specs.WellFormed.{CallKinds, is_sound_among, leads_on, is_var, is_number, is_condition, is_label}
use Rattle.pungi_code.specs.WellFormed.{is_answer, is_order, are_alike, are_arguments, atom_is}
use Rattle.pungi_code.specs.WellFormed.{is_wide, is_integer, is_place, counts_in, returned_param}
use Rattle.pungi_code.specs.WellFormed.{var_kind, place_kind}
use Rattle.pungi_inline.specs.Moved.{moved_var, moved_result, moved_atom, moved_atoms, moved_place, moved_instr}
use Rattle.pungi_inline.proofs.OneInstruction.{Outcome, Goes, Stops, Wants, leads, is_ordinary}
use Rattle.pungi_inline.proofs.OneInstruction.{on_value, on_number, on_slot, on_values, on_effect}
use Rattle.pungi_inline.proofs.Operands.{IsHeld, lt_says, held_of_kind, held_condition, held_alike, held_numbers}
use Rattle.pungi_inline.proofs.Operands.{atom_alike, values_alike, slot_alike, put_alike, put_outside}
use Rattle.pungi_inline.proofs.Windows.{SameRegs, SameOutside}

-- pc and q are the places of the instruction in the two codes, m and k what is held before it
pub data Follows (code : Code) (i : Instr) (w : ℕ) (to : ℕ → ℕ) (pc q : ℕ) (m k : Regs) : Outcome → Outcome → Type 0
  where
    go_on : (m' k' : Regs) → leads_on i ≡ true → SameRegs w m' k' → length m'.vars ≡ length m.vars
        → length k'.vars ≡ length k.vars → SameOutside w (length m.vars) k.vars k'.vars
        → Follows code i w to pc q m k (Goes (pc + 1) m') (Goes (q + 1) k')
    go_to : (l : ℕ) (m' k' : Regs) → l < length code.instrs → SameRegs w m' k' → length m'.vars ≡ length m.vars
        → length k'.vars ≡ length k.vars → SameOutside w (length m.vars) k.vars k'.vars
        → Follows code i w to pc q m k (Goes l m') (Goes (to l) k')
    stop : (p p' : Pos) → Follows code i w to pc q m k (Stops p) (Stops p')
    want : Follows code i w to pc q m k Wants Wants

module _ (code : Code) (w : ℕ) (m k : Regs) (vars : length m.vars ≡ length code.vars)
    (few : length k.vars ≤ most_variables) (same : SameRegs w m k) where
  -- ---- what is held afterwards

  record Kept (m' k' : Regs) : Type 0 where
    now : SameRegs w m' k'
    left : length m'.vars ≡ length m.vars
    right : length k'.vars ≡ length k.vars
    outside : SameOutside w (length m.vars) k.vars k'.vars

  unchanged : Kept m k
  unchanged = record { now = same; left = refl; right = refl; outside = λ y side. refl }

  held : (x : Var) → is_var code.vars x ≡ true → x.0 < length m.vars
  held x e = let lt = lt_says x.0 (length code.vars) e in omega (arith, lt, vars)

  put_kept : (x : Var) (c : Content) (m' k' : Regs) → is_var code.vars x ≡ true → Kept m' k'
      → Kept (put x c m') (put (moved_var w x) c k')
  put_kept x c m' k' e h =
      let lt : x.0 < length m'.vars = let a = held x e in let b = h.left in omega (arith, a, b) in
      let small : length k'.vars ≤ most_variables = subst (λ n. n ≤ most_variables) (sym h.right) few in
      record {
        now = put_alike w x c m' k' lt small h.now;
        left = length-set m'.vars x.0 c ∙ h.left;
        right = length-set k'.vars (moved_var w x).0 c ∙ h.right;
        outside = λ y side.
            subst (λ n. SameOutside w n k'.vars (put (moved_var w x) c k').vars) h.left
            (put_outside w x c m' k' lt small h.now) y side ∙ h.outside y side;
      }

  abbrev IsKnown : Option Var → Type 0
  IsKnown None = Unit {0}
  IsKnown (Some x) = is_var code.vars x ≡ true

  answer_kept : (x : Option Var) (o : Option Value) (m' k' : Regs) → IsKnown x → Kept m' k'
      → Kept (put_answer x o m') (put_answer (moved_result w x) o k')
  answer_kept None o m' k' e h = h
  answer_kept (Some x) None m' k' e h = h
  answer_kept (Some x) (Some v) m' k' e h = put_kept x (content.Holds v) m' k' e h

  -- ---- outcomes

  module _ (i : Instr) (to : ℕ → ℕ) (pc q : ℕ) where
    abbrev Alike : Outcome → Outcome → Type 0
    Alike o u = Follows code i w to pc q m k o u

    goes : (m' k' : Regs) → leads_on i ≡ true → Kept m' k' → Alike (Goes (pc + 1) m') (Goes (q + 1) k')
    goes m' k' e h = go_on m' k' e h.now h.left h.right h.outside

    jumps : (l : ℕ) → l < length code.instrs → Alike (Goes l m) (Goes (to l) k)
    jumps l lt = go_to l m k lt same refl refl (λ y side. refl)

    value_case : (c : Content) (p : Pos) (go on : Value → Outcome) → ((v : Value) → Alike (go v) (on v))
        → Alike (on_value c p go) (on_value c p on)
    value_case content.Unset p go on h = stop p p
    value_case (content.Holds v) p go on h = h v

    value_follow : (c d : Content) (p : Pos) (go on : Value → Outcome) → d ≡ c
        → ((v : Value) → Alike (go v) (on v)) → Alike (on_value c p go) (on_value d p on)
    value_follow c d p go on e h =
        subst (λ z. Alike (on_value c p go) (on_value z p on)) (sym e) (value_case c p go on h)

    number_follow : (o : Option ℤ) (p : Pos) (go on : ℤ → Outcome) → ((n : ℤ) → Alike (go n) (on n))
        → Alike (on_number o p go) (on_number o p on)
    number_follow None p go on h = stop p p
    number_follow (Some n) p go on h = h n

    slot_case : (o : Option (Slot × Param)) (p : Pos) (go on : Slot → Param → Outcome)
        → ((s : Slot) (l : Param) → Alike (go s l) (on s l)) → Alike (on_slot o p go) (on_slot o p on)
    slot_case None p go on h = stop p p
    slot_case (Some s) p go on h = h s.0 s.1

    slot_follow : (o u : Option (Slot × Param)) (p : Pos) (go on : Slot → Param → Outcome) → u ≡ o
        → ((s : Slot) (l : Param) → Alike (go s l) (on s l)) → Alike (on_slot o p go) (on_slot u p on)
    slot_follow o u p go on e h =
        subst (λ z. Alike (on_slot o p go) (on_slot z p on)) (sym e) (slot_case o p go on h)

    values_case : (o : Option (List Value)) (p : Pos) (go on : List Value → Outcome)
        → ((vs : List Value) → Alike (go vs) (on vs)) → Alike (on_values o p go) (on_values o p on)
    values_case None p go on h = stop p p
    values_case (Some vs) p go on h = h vs

    values_follow : (o u : Option (List Value)) (p : Pos) (go on : List Value → Outcome) → u ≡ o
        → ((vs : List Value) → Alike (go vs) (on vs)) → Alike (on_values o p go) (on_values u p on)
    values_follow o u p go on e h =
        subst (λ z. Alike (on_values o p go) (on_values z p on)) (sym e) (values_case o p go on h)

    effect_case : (r : Result (Effect × World) Halt) (p : Pos) (go on : Effect → Regs → Outcome)
        → ((e : Effect) (m' k' : Regs) → Kept m' k' → Alike (go e m') (on e k'))
        → Alike (on_effect p r m go) (on_effect p r k on)
    effect_case (Ok r) p go on h =
        h r.0 (record m { world = r.1; used = m.used ++ replicate r.0.used p })
        (record k { world = r.1; used = k.used ++ replicate r.0.used p }) (record {
          now = record {
            world = refl;
            used = ap (λ u. u ++ replicate r.0.used p) same.used;
            vars = same.vars;
            room = same.room;
          };
          left = refl;
          right = refl;
          outside = λ y side. refl;
        })
    effect_case (Err halt.Stopped) p go on h = stop p p
    effect_case (Err halt.NeedsChoice) p go on h = want
    effect_case (Err halt.Memory) p go on h = want

    -- the worlds are the same, and so are the choices that are left
    effect_follow : (choices : List Choice) (f : World → List Choice → Result (Effect × World) Halt) (p : Pos)
        (go on : Effect → Regs → Outcome)
        → ((e : Effect) (m' k' : Regs) → Kept m' k' → Alike (go e m') (on e k'))
        → Alike (on_effect p (f m.world (choices_left choices m)) m go)
        (on_effect p (f k.world (choices_left choices k)) k on)
    effect_follow choices f p go on h =
        let r = f m.world (choices_left choices m) in
        let e : f k.world (choices_left choices k)
        ≡ f m.world (choices_left choices m) = ap (λ z. f z (choices_left choices k)) same.world
        ∙ ap (λ u. f m.world (drop (length u) choices)) same.used in
        subst (λ z. Alike (on_effect p r m go) (on_effect p z k on)) (sym e) (effect_case r p go on h)

    if_follow : (b : Bool) (o u o' u' : Outcome) → Alike o u → Alike o' u' → Alike (cond b o o') (cond b u u')
    if_follow true o u o' u' h g = h
    if_follow false o u o' u' h g = g

    branch_follow : (b : Bool) (this other : Label) → is_label code this ≡ true → is_label code other ≡ true
        → Alike (Goes (if b then this.0 else other.0) m) (Goes (if b then to this.0 else to other.0) k)
    branch_follow true this other e f = jumps this.0 (lt_says this.0 (length code.instrs) e)
    branch_follow false this other e f = jumps other.0 (lt_says other.0 (length code.instrs) f)

  -- ---- each instruction

  module _ (callees : ℕ → CallKinds) (choices : List Choice) (p : Pos) (to : ℕ → ℕ) (pc q : ℕ) where
    abbrev IsAlike : Instr → Type 0
    IsAlike i = Follows code i w to pc q m k (leads choices i p pc m) (leads choices (moved_instr w to i) p q k)

    value_alike : (i : Instr) (a : Atom) (go on : Value → Outcome) → IsHeld (length code.vars) a
        → ((v : Value) → Follows code i w to pc q m k (go v) (on v))
        → Follows code i w to pc q m k (on_value (content_of a m.vars) p go)
        (on_value (content_of (moved_atom w a) k.vars) p on)
    value_alike i a go on e h =
        value_follow i to pc q (content_of a m.vars) (content_of (moved_atom w a) k.vars) p go on
        (atom_alike (length code.vars) w a m k e vars few same) h

    set_on : (i : Instr) (x : Var) (c : Content) → leads_on i ≡ true → is_var code.vars x ≡ true
        → Follows code i w to pc q m k (Goes (pc + 1) (put x c m)) (Goes (q + 1) (put (moved_var w x) c k))
    set_on i x c on e = goes i to pc q (put x c m) (put (moved_var w x) c k) on (put_kept x c m k e unchanged)

    set_alike : (x : Var) (a : Atom) → is_sound_among callees code (Set x a) ≡ true → IsAlike (Set x a)
    set_alike x a e =
        let h = and_parts (is_var code.vars x) (atom_is code.vars (var_kind code.vars x) a) e in
        value_alike (Set x a) a _ _ (held_of_kind code.vars (var_kind code.vars x) a h.1)
        (λ v. set_on (Set x a) x (content.Holds v) refl h.0)

    arith_alike : (x : Var) (kind : ValueKind) (o : Op) (a b : Atom)
        → is_sound_among callees code (Arith x kind o a b) ≡ true → IsAlike (Arith x kind o a b)
    arith_alike x kind o a b e =
        let i : Instr = Arith x kind o a b in
        let h = and_parts (is_var code.vars x)
        (counts_in kind (var_kind code.vars x) && (is_number code.vars a && is_number code.vars b)) e in
        let numbers = is_number code.vars a && is_number code.vars b in
        let g = and_parts (counts_in kind (var_kind code.vars x)) numbers h.1 in
        let both = held_numbers code.vars a b g.1 in
        value_alike i a _ _ both.0 (λ v. value_alike i b _ _ both.1
        (λ u. number_follow i to pc q (arithmetic o kind (number_of v) (number_of u)) p _ _
        (λ n. set_on i x (content.Holds (value.Int n)) refl h.0)))

    fit_alike : (x : Var) (kind : ValueKind) (a : Atom) → is_sound_among callees code (Fit x kind a) ≡ true
        → IsAlike (Fit x kind a)
    fit_alike x kind a e =
        let i : Instr = Fit x kind a in
        let h = and_parts (is_var code.vars x) (counts_in kind (var_kind code.vars x) && is_number code.vars a) e in
        let g = and_parts (counts_in kind (var_kind code.vars x)) (is_number code.vars a) h.1 in
        value_alike i a _ _ (held_of_kind code.vars param.Long a g.1)
        (λ v. if_follow i to pc q (fits kind (number_of v)) _ _ _ _
        (set_on i x (content.Holds (value.Int (number_of v))) refl h.0) (stop p p))

    held_compared : (c : Bool) (a b : Atom)
        → (if c then is_number code.vars a && is_number code.vars b else are_alike code.vars a b) ≡ true
        → IsHeld (length code.vars) a × IsHeld (length code.vars) b
    held_compared true a b e = held_numbers code.vars a b e
    held_compared false a b e = held_alike code.vars a b e

    compare_alike : (x : Var) (c : Cmp) (a b : Atom) → is_sound_among callees code (Compare x c a b) ≡ true
        → IsAlike (Compare x c a b)
    compare_alike x c a b e =
        let i : Instr = Compare x c a b in
        let compared = if is_order c then is_number code.vars a && is_number code.vars b else
        are_alike code.vars a b in
        let h = and_parts (is_var code.vars x) (is_integer (var_kind code.vars x) && compared) e in
        let g = and_parts (is_integer (var_kind code.vars x)) compared h.1 in
        let both = held_compared (is_order c) a b g.1 in
        value_alike i a _ _ both.0 (λ v. value_alike i b _ _ both.1
        (λ u. set_on i x (content.Holds (truth (holds c v u))) refl h.0))

    load_alike : (x : Var) (place : Place) → is_sound_among callees code (Load x place) ≡ true
        → IsAlike (Load x place)
    load_alike x place e =
        let i : Instr = Load x place in
        let h = and_parts (is_var code.vars x) (is_place code.vars place (place_kind place)
        && is_wide (place_kind place) (var_kind code.vars x)) e in
        let g = and_parts (is_place code.vars place (place_kind place))
        (is_wide (place_kind place) (var_kind code.vars x)) h.1 in
        slot_follow i to pc q (slot_of place m.vars) (slot_of (moved_place w place) k.vars) p _ _
        (slot_alike code.vars (place_kind place) place w m k g.0 vars few same)
        (λ s l. effect_follow i to pc q choices (λ z cs. load_effect z s l cs) p _ _
        (λ x' m' k' kept. goes i to pc q _ _ refl (answer_kept (Some x) x'.value m' k' h.0 kept)))

    store_alike : (place : Place) (a : Atom) → is_sound_among callees code (Store place a) ≡ true
        → IsAlike (Store place a)
    store_alike place a e =
        let i : Instr = Store place a in
        let h = and_parts (is_place code.vars place (place_kind place)) (atom_is code.vars (place_kind place) a) e in
        value_alike i a _ _ (held_of_kind code.vars (place_kind place) a h.1)
        (λ v. slot_follow i to pc q (slot_of place m.vars) (slot_of (moved_place w place) k.vars) p _ _
        (slot_alike code.vars (place_kind place) place w m k h.0 vars few same)
        (λ s l. effect_follow i to pc q choices (λ z cs. store_effect z s l v cs) p _ _
        (λ x' m' k' kept. goes i to pc q m' k' refl kept)))

    known_answer : (g : Signature) (x : Option Var) → is_answer code.vars g x ≡ true → IsKnown x
    known_answer g None e = tt
    known_answer g (Some x) e =
        (and_parts (is_var code.vars x) (is_wide (returned_param g.answer) (var_kind code.vars x)) e).0

    api_alike : (x : Option Var) (g : Signature) (as' : List Atom)
        → is_sound_among callees code (Api x g as') ≡ true → IsAlike (Api x g as')
    api_alike x g as' e =
        let i : Instr = Api x g as' in
        let sizes = nat_le (length as') most_arguments && is_signature g in
        let taken = are_arguments code.vars g.params as' && sizes in
        let h = and_parts (is_answer code.vars g x) taken e in
        let a = and_parts (are_arguments code.vars g.params as') sizes h.1 in
        values_follow i to pc q (all_values as' m.vars) (all_values (moved_atoms w as') k.vars) p _ _
        (values_alike code.vars g.params as' w m k a.0 vars few same)
        (λ vs. effect_follow i to pc q choices (λ z cs. call_effect z g vs cs) p _ _
        (λ x' m' k' kept. goes i to pc q _ _ refl (answer_kept x x'.value m' k' (known_answer g x h.0) kept)))

    branch_alike : (a : Atom) (this other : Label) → is_sound_among callees code (Branch a this other) ≡ true
        → IsAlike (Branch a this other)
    branch_alike a this other e =
        let i : Instr = Branch a this other in
        let h = and_parts (is_condition code.vars a) (is_label code this && is_label code other) e in
        let g = and_parts (is_label code this) (is_label code other) h.1 in
        value_alike i a _ _ (held_condition code.vars a h.0)
        (λ v. branch_follow i to pc q (is_true v) this other g.0 g.1)

    each_alike : (i : Instr) → is_ordinary i ≡ true → is_sound_among callees code i ≡ true → IsAlike i
    each_alike (Set x a) ordinary e = set_alike x a e
    each_alike (Arith x kind o a b) ordinary e = arith_alike x kind o a b e
    each_alike (Fit x kind a) ordinary e = fit_alike x kind a e
    each_alike (Compare x c a b) ordinary e = compare_alike x c a b e
    each_alike (Load x place) ordinary e = load_alike x place e
    each_alike (Store place a) ordinary e = store_alike place a e
    each_alike (Api x g as') ordinary e = api_alike x g as' e
    each_alike (Call x f as') ordinary e = absurd (cc)
    each_alike (Unset x) ordinary e = set_on (Unset x) x content.Unset refl e
    each_alike (Jump l) ordinary e = jumps (Jump l) to pc q l.0 (lt_says l.0 (length code.instrs) e)
    each_alike (Branch a this other) ordinary e = branch_alike a this other e
    each_alike (Return a) ordinary e = absurd (cc)
    each_alike Fall ordinary e = stop p p

pub leads_alike : (callees : ℕ → CallKinds) (code : Code) (choices : List Choice) (i : Instr) (p : Pos) (w : ℕ)
    (to : ℕ → ℕ) (pc q : ℕ) (m k : Regs) → is_ordinary i ≡ true → is_sound_among callees code i ≡ true
    → length m.vars ≡ length code.vars → length k.vars ≤ most_variables → SameRegs w m k
    → Follows code i w to pc q m k (leads choices i p pc m) (leads choices (moved_instr w to i) p q k)
leads_alike callees code choices i p w to pc q m k ordinary sound vars few same =
    each_alike code w m k vars few same callees choices p to pc q i ordinary sound
