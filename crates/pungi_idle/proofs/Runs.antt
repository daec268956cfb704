-- Where what is held differs only in variables that no instruction names, a run is the same.
--   Same N vs us              the same is held in the variables that are N
--   SameRegs N m k            so it is in two runs, whose worlds and used choices are the same
--   Blind N next              what comes next is the same run
use Rattle.std.proofs.Common.{◌≡◌, ℕ, zero, suc, ◌+◌, ℤ, Bool, true, false, ◌||◌, List, [], ◌∷◌, ◌++◌, length}
use Rattle.std.proofs.Common.{replicate, Option, Some, None, Result, Ok, Err, refl, ap, ap₂, ◌∙◌, subst, drop, arith}
use Rattle.std.specs.Prelude.{if◌then◌else◌, slice_get, slice_set}
use Rattle.std.specs.List.{list_any}
use Rattle.pungi_base.specs.declared.choice.Choice.{Choice}
use Rattle.pungi_base.specs.declared.pos.Pos.{Pos}
use Rattle.pungi_base.specs.declared.value.Value.{Value}
use Rattle.pungi_base.specs.declared.value.Value.TheVariants as value
use Rattle.pungi_api.specs.declared.param.Param.{Param}
use Rattle.pungi_world.specs.declared.content.Content.{Content}
use Rattle.pungi_world.specs.declared.content.Content.TheVariants as content
use Rattle.pungi_world.specs.declared.effect.Effect.{Effect}
use Rattle.pungi_world.specs.declared.halt.Halt.{Halt}
use Rattle.pungi_world.specs.declared.halt.Halt.TheVariants as halt
use Rattle.pungi_world.specs.declared.slot.Slot.{Slot}
use Rattle.pungi_world.specs.declared.world.World.{World}
use Rattle.pungi_world.specs.Slots.{load_effect, store_effect}
use Rattle.pungi_world.specs.Calls.{call_effect}
use Rattle.pungi_meaning.specs.Run.{Run, end_at_once, with_operations, Returned, Stopped}
use Rattle.pungi_meaning.specs.Todo.{Computed, Fitted, Compared, Loaded, Stored, Called}
use Rattle.pungi_meaning.specs.Values.{fits, is_true, truth, arithmetic, holds, number_of}
use Rattle.pungi_meaning.specs.Work.{content_at}
use Rattle.pungi_code.specs.declared.atom.Atom.{Atom}
use Rattle.pungi_code.specs.declared.atom.Atom.TheVariants as atom
use Rattle.pungi_code.specs.declared.atom.Var.{Var}
use Rattle.pungi_code.specs.declared.code.Line.{Line}
use Rattle.pungi_code.specs.declared.instr.Instr.{Instr}
use Rattle.pungi_code.specs.declared.instr.Instr.TheVariants.{Set, Arith, Fit, Compare, Load, Store, Api, Call, Unset}
use Rattle.pungi_code.specs.declared.instr.Instr.TheVariants.{Jump, Branch, Return, Fall}
use Rattle.pungi_code.specs.declared.place.Place.{Place}
use Rattle.pungi_code.specs.declared.place.Place.TheVariants.{Global, Field}
use Rattle.pungi_code.specs.Perform.{perform, with_number, field_of, slot_of, with_slot}
use Rattle.pungi_code.specs.Registers.{Regs, Next, put, content_of, both_values, all_values, choices_left, put_answer}
use Rattle.pungi_code.specs.Registers.{with_value, with_values, after_effect}
use Rattle.pungi_code.specs.Run.{exec, fetch}
use Rattle.pungi_idle.specs.Named.{atom_names, result_names, place_names, names, is_var}
use Rattle.pungi_idle.proofs.Naming.{or_left, or_right, same_number}

pub record Same (N : ℕ → Type 0) (vs us : List Content) : Type 0 where
  pub long : length vs ≡ length us
  pub at : (x : ℕ) → N x → content_at vs x ≡ content_at us x

pub record SameRegs (N : ℕ → Type 0) (m k : Regs) : Type 0 where
  pub world : m.world ≡ k.world
  pub used : m.used ≡ k.used
  pub vars : Same N m.vars k.vars

abbrev pub Blind : (ℕ → Type 0) → Next → Type 0
Blind N next = (pc : ℕ) (m k : Regs) → SameRegs N m k → next pc m ≡ next pc k

less : (a b : ℕ) → suc a ≡ suc b → a ≡ b
less a b e = omega (arith, e)

-- whichever variable is set
set_same : (vs us : List Content) (x : ℕ) (c : Content) (y : ℕ) → length vs ≡ length us
    → content_at vs y ≡ content_at us y → content_at (slice_set vs x c) y ≡ content_at (slice_set us x c) y
set_same [] [] x c y long e = refl
set_same [] (u ∷ us) x c y long e = absurd (omega (arith, long))
set_same (v ∷ vs) [] x c y long e = absurd (omega (arith, long))
set_same (v ∷ vs) (u ∷ us) zero c zero long e = refl
set_same (v ∷ vs) (u ∷ us) zero c (suc y) long e = e
set_same (v ∷ vs) (u ∷ us) (suc x) c zero long e = e
set_same (v ∷ vs) (u ∷ us) (suc x) c (suc y) long e = set_same vs us x c y (less (length vs) (length us) long) e

set_long : (vs us : List Content) (x : ℕ) (c : Content) → length vs ≡ length us
    → length (slice_set vs x c) ≡ length (slice_set us x c)
set_long [] [] x c long = refl
set_long [] (u ∷ us) x c long = absurd (omega (arith, long))
set_long (v ∷ vs) [] x c long = absurd (omega (arith, long))
set_long (v ∷ vs) (u ∷ us) zero c long = long
set_long (v ∷ vs) (u ∷ us) (suc x) c long = ap suc (set_long vs us x c (less (length vs) (length us) long))

module _ (N : ℕ → Type 0) where
  -- ---- what is held afterwards

  put_same : (x : Var) (c : Content) (m k : Regs) → SameRegs N m k → SameRegs N (put x c m) (put x c k)
  put_same x c m k h = record {
    world = h.world;
    used = h.used;
    vars = record {
      long = set_long m.vars k.vars x.0 c h.vars.long;
      at = λ y n. set_same m.vars k.vars x.0 c y h.vars.long (h.vars.at y n);
    };
  }

  answer_same : (x : Option Var) (o : Option Value) (m k : Regs) → SameRegs N m k
      → SameRegs N (put_answer x o m) (put_answer x o k)
  answer_same None o m k h = h
  answer_same (Some x) None m k h = h
  answer_same (Some x) (Some v) m k h = put_same x (content.Holds v) m k h

  -- ---- operands

  atom_same : (a : Atom) (vs us : List Content) → ((x : ℕ) → atom_names x a ≡ true → N x) → Same N vs us
      → content_of a vs ≡ content_of a us
  atom_same (atom.Var y) vs us reads h = h.at y.0 (reads y.0 (same_number y.0))
  atom_same (atom.Int n) vs us reads h = refl
  atom_same atom.Null vs us reads h = refl
  atom_same atom.Text vs us reads h = refl
  atom_same (atom.Static n) vs us reads h = refl

  atoms_same : (as' : List Atom) (vs us : List Content) → ((x : ℕ) → list_any (atom_names x) as' ≡ true → N x)
      → Same N vs us → all_values as' vs ≡ all_values as' us
  atoms_same [] vs us reads h = refl
  atoms_same (a ∷ as') vs us reads h =
      ap₂ both_values
      (atom_same a vs us (λ x e. reads x (or_left (atom_names x a) (list_any (atom_names x) as') e)) h)
      (atoms_same as' vs us (λ x e. reads x (or_right (atom_names x a) (list_any (atom_names x) as') e)) h)

  place_same : (place : Place) (vs us : List Content) → ((x : ℕ) → place_names x place ≡ true → N x) → Same N vs us
      → slot_of place vs ≡ slot_of place us
  place_same (Global n kind) vs us reads h = refl
  place_same (Field base tag field kind) vs us reads h =
      ap (λ c. field_of c tag field kind) (atom_same base vs us reads h)

  -- ---- what follows

  value_case : (c : Content) (p : Pos) (go on : Value → Run) → ((v : Value) → go v ≡ on v)
      → with_value c p go ≡ with_value c p on
  value_case content.Unset p go on h = refl
  value_case (content.Holds v) p go on h = h v

  value_same : (c d : Content) (p : Pos) (go on : Value → Run) → c ≡ d → ((v : Value) → go v ≡ on v)
      → with_value c p go ≡ with_value d p on
  value_same c d p go on e h = subst (λ z. with_value c p go ≡ with_value z p on) e (value_case c p go on h)

  values_case : (o : Option (List Value)) (p : Pos) (go on : List Value → Run) → ((vs : List Value) → go vs ≡ on vs)
      → with_values o p go ≡ with_values o p on
  values_case None p go on h = refl
  values_case (Some vs) p go on h = h vs

  values_same : (o u : Option (List Value)) (p : Pos) (go on : List Value → Run) → o ≡ u
      → ((vs : List Value) → go vs ≡ on vs) → with_values o p go ≡ with_values u p on
  values_same o u p go on e h = subst (λ z. with_values o p go ≡ with_values z p on) e (values_case o p go on h)

  slot_case : (o : Option (Slot × Param)) (p : Pos) (go on : Slot → Param → Run)
      → ((s : Slot) (l : Param) → go s l ≡ on s l) → with_slot o p go ≡ with_slot o p on
  slot_case None p go on h = refl
  slot_case (Some s) p go on h = h s.0 s.1

  slot_same : (o u : Option (Slot × Param)) (p : Pos) (go on : Slot → Param → Run) → o ≡ u
      → ((s : Slot) (l : Param) → go s l ≡ on s l) → with_slot o p go ≡ with_slot u p on
  slot_same o u p go on e h = subst (λ z. with_slot o p go ≡ with_slot z p on) e (slot_case o p go on h)

  number_case : (o : Option ℤ) (p : Pos) (go on : ℤ → Run) → ((n : ℤ) → go n ≡ on n)
      → with_number p o go ≡ with_number p o on
  number_case None p go on h = refl
  number_case (Some n) p go on h = h n

  if_case : (b : Bool) (r s t : Run) → r ≡ s → (if b then r else t) ≡ (if b then s else t)
  if_case true r s t h = h
  if_case false r s t h = refl

  effect_case : (r : Result (Effect × World) Halt) (p : Pos) (m k : Regs) (go on : Effect → Regs → Run)
      → SameRegs N m k → ((e : Effect) (m' k' : Regs) → SameRegs N m' k' → go e m' ≡ on e k')
      → after_effect p r m go ≡ after_effect p r k on
  effect_case (Ok r) p m k go on same h =
      h r.0 (record m { world = r.1; used = m.used ++ replicate r.0.used p })
      (record k { world = r.1; used = k.used ++ replicate r.0.used p }) (record {
        world = refl;
        used = ap (λ (u : List Pos). u ++ replicate r.0.used p) same.used;
        vars = same.vars;
      })
  effect_case (Err halt.Stopped) p m k go on same h = refl
  effect_case (Err halt.NeedsChoice) p m k go on same h = refl
  effect_case (Err halt.Memory) p m k go on same h = refl

  -- the worlds are the same, and so are the choices that are left
  effect_same : (choices : List Choice) (f : World → List Choice → Result (Effect × World) Halt) (p : Pos) (m k : Regs)
      (go on : Effect → Regs → Run) → SameRegs N m k
      → ((e : Effect) (m' k' : Regs) → SameRegs N m' k' → go e m' ≡ on e k')
      → after_effect p (f m.world (choices_left choices m)) m go
      ≡ after_effect p (f k.world (choices_left choices k)) k on
  effect_same choices f p m k go on same h =
      let r = f m.world (choices_left choices m) in
      let e : r ≡ f k.world (choices_left choices k) = ap (λ w. f w (choices_left choices m)) same.world
      ∙ ap (λ (u : List Pos). f k.world (drop (length u) choices)) same.used in
      subst (λ z. after_effect p r m go ≡ after_effect p z k on) e (effect_case r p m k go on same h)

  -- ---- each instruction

  module _ (choices : List Choice) (p : Pos) (next : Next) (blind : Blind N next) (pc : ℕ) (m k : Regs)
      (same : SameRegs N m k) where
    one : (i : Instr) (a : Atom) (go on : Value → Run) → ((x : ℕ) → atom_names x a ≡ true → N x)
        → ((v : Value) → go v ≡ on v)
        → with_value (content_of a m.vars) p go ≡ with_value (content_of a k.vars) p on
    one i a go on reads h =
        value_same (content_of a m.vars) (content_of a k.vars) p go on (atom_same a m.vars k.vars reads same.vars) h

    sets : (x : Var) (c : Content) → next (pc + 1) (put x c m) ≡ next (pc + 1) (put x c k)
    sets x c = blind (pc + 1) (put x c m) (put x c k) (put_same x c m k same)

    pub performs : (i : Instr) → ((x : ℕ) → names x i ≡ true → N x)
        → perform choices i p next pc m ≡ perform choices i p next pc k
    performs (Set y a) reads =
        one (Set y a) a _ _ (λ x e. reads x (or_right (is_var x y) (atom_names x a) e)) (λ v. sets y (content.Holds v))
    performs (Arith y kind o a b) reads =
        let i : Instr = Arith y kind o a b in
        one i a _ _ (λ x e. reads x (or_right (is_var x y) (atom_names x a || atom_names x b)
        (or_left (atom_names x a) (atom_names x b) e)))
        (λ v. one i b _ _ (λ x e. reads x (or_right (is_var x y) (atom_names x a || atom_names x b)
        (or_right (atom_names x a) (atom_names x b) e)))
        (λ w. number_case (arithmetic o kind (number_of v) (number_of w)) p _ _
        (λ n. ap (with_operations (Computed p o kind v w ∷ []))
        (sets y (content.Holds (value.Int n))))))
    performs (Fit y kind a) reads =
        one (Fit y kind a) a _ _ (λ x e. reads x (or_right (is_var x y) (atom_names x a) e))
        (λ v. if_case (fits kind (number_of v)) _ _ (end_at_once (Stopped p))
        (ap (with_operations (Fitted p kind v ∷ [])) (sets y (content.Holds (value.Int (number_of v))))))
    performs (Compare y c a b) reads =
        let i : Instr = Compare y c a b in
        one i a _ _ (λ x e. reads x (or_right (is_var x y) (atom_names x a || atom_names x b)
        (or_left (atom_names x a) (atom_names x b) e)))
        (λ v. one i b _ _ (λ x e. reads x (or_right (is_var x y) (atom_names x a || atom_names x b)
        (or_right (atom_names x a) (atom_names x b) e)))
        (λ w. ap (with_operations (Compared p c v w ∷ [])) (sets y (content.Holds (truth (holds c v w))))))
    performs (Load y place) reads =
        slot_same (slot_of place m.vars) (slot_of place k.vars) p _ _
        (place_same place m.vars k.vars (λ x e. reads x (or_right (is_var x y) (place_names x place) e)) same.vars)
        (λ s l. effect_same choices (λ w cs. load_effect w s l cs) p m k _ _ same
        (λ e m' k' h. ap (with_operations (Loaded p s e.value ∷ [])) (blind (pc + 1) (put_answer (Some y) e.value m')
        (put_answer (Some y) e.value k') (answer_same (Some y) e.value m' k' h))))
    performs (Store place a) reads =
        one (Store place a) a _ _ (λ x e. reads x (or_right (place_names x place) (atom_names x a) e))
        (λ v. slot_same (slot_of place m.vars) (slot_of place k.vars) p _ _
        (place_same place m.vars k.vars (λ x e. reads x (or_left (place_names x place) (atom_names x a) e)) same.vars)
        (λ s l. effect_same choices (λ w cs. store_effect w s l v cs) p m k _ _ same
        (λ e m' k' h. ap (with_operations (Stored p s v ∷ [])) (blind (pc + 1) m' k' h))))
    performs (Api y g as') reads =
        values_same (all_values as' m.vars) (all_values as' k.vars) p _ _
        (atoms_same as' m.vars k.vars (λ x e. reads x (or_right (result_names x y) (list_any (atom_names x) as') e))
        same.vars)
        (λ vs. effect_same choices (λ w cs. call_effect w g vs cs) p m k _ _ same
        (λ e m' k' h. ap (with_operations (Called p g vs e ∷ [])) (blind (pc + 1) (put_answer y e.value m')
        (put_answer y e.value k') (answer_same y e.value m' k' h))))
    performs (Call y f as') reads = refl
    performs (Unset y) reads = sets y content.Unset
    performs (Jump to) reads = blind to.0 m k same
    performs (Branch a this other) reads =
        one (Branch a this other) a _ _ reads (λ v. blind (if is_true v then this.0 else other.0) m k same)
    performs (Return None) reads =
        ap₂ (λ (w : World) (u : List Pos). end_at_once (Returned w None p u)) same.world same.used
    performs (Return (Some a)) reads =
        one (Return (Some a)) a _ _ reads (λ v. ap₂ (λ (w : World) (u : List Pos). end_at_once
        (Returned w (Some v) p u)) same.world same.used)
    performs Fall reads = refl

  -- ---- runs

  module _ (ls : List Line) (reads : (pc : ℕ) (l : Line) → slice_get ls pc ≡ Some l → (x : ℕ)
      → names x l.instr ≡ true → N x) (choices : List Choice) where
    fetches : (next : Next) → Blind N next → (pc : ℕ) (m k : Regs) → SameRegs N m k → (o : Option Line)
        → slice_get ls pc ≡ o → fetch choices o next pc m ≡ fetch choices o next pc k
    fetches next blind pc m k same None at = refl
    fetches next blind pc m k same (Some l) at =
        performs choices l.pos next blind pc m k same l.instr (reads pc l at)

    pub runs : (n : ℕ) → Blind N (exec choices ls n)
    runs zero pc m k same = refl
    runs (suc n) pc m k same = fetches (exec choices ls n) (runs n) pc m k same (slice_get ls pc) refl
