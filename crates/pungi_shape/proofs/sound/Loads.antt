-- Loads keep to the program.
--   LoadRun         what a load did that went on
use Rattle.std.proofs.Common.{◌≡◌, ◌≢◌, ℕ, ◌+◌, ◌<◌, ℤ, Bool, true, false, List, [], ◌∷◌, ◌++◌}
use Rattle.std.proofs.Common.{length, refl, sym, ap, ◌∙◌, subst, arith, ◌⊎◌, inl, inr, Option, Some, None}
use Rattle.std.proofs.Common.{Result, Ok, Err}
use Rattle.std.specs.Prelude.{replicate}
use Rattle.std.specs.List.{IsAmong}
use Rattle.std.proofs.lemmas.Bool.{false≢true}
use Rattle.pungi_base.specs.declared.choice.Choice.{Choice}
use Rattle.pungi_base.specs.declared.pos.Pos.{Pos}
use Rattle.pungi_base.specs.declared.value.Value.{Value}
use Rattle.pungi_base.specs.declared.value.Value.TheVariants as value
use Rattle.pungi_api.specs.declared.param.Param.{Param}
use Rattle.pungi_api.specs.declared.param.Param.TheVariants as param
use Rattle.pungi_domain.specs.Vectors.{Vector, dot}
use Rattle.pungi_world.specs.declared.content.Content.{Content}
use Rattle.pungi_world.specs.declared.content.Content.TheVariants as content
use Rattle.pungi_world.specs.declared.effect.Effect.{Effect}
use Rattle.pungi_world.specs.declared.halt.Halt.{Halt}
use Rattle.pungi_world.specs.declared.halt.Halt.TheVariants as halt
use Rattle.pungi_world.specs.declared.slot.Slot.{Slot}
use Rattle.pungi_world.specs.declared.slot.Slot.TheVariants as slots
use Rattle.pungi_world.specs.declared.touch.Touch.{Touch}
use Rattle.pungi_world.specs.declared.world.World.{World}
use Rattle.pungi_world.specs.Effects.{◌>>=◌}
use Rattle.pungi_world.specs.Slots.{slot_at, touch, after_load}
use Rattle.pungi_meaning.specs.Run.{Run, Returned, with_operations}
use Rattle.pungi_meaning.specs.Todo.{Loaded}
use Rattle.pungi_code.specs.declared.atom.Var.{Var}
use Rattle.pungi_code.specs.declared.code.Code.{Code}
use Rattle.pungi_code.specs.declared.instr.Instr.TheVariants.{Load}
use Rattle.pungi_code.specs.declared.place.Place.{Place}
use Rattle.pungi_code.specs.declared.place.Place.TheVariants as places
use Rattle.pungi_code.specs.Perform.{field_of, slot_of, with_slot, load, perform}
use Rattle.pungi_code.specs.Registers.{Regs, Next, put, content_of, choices_left, after_effect}
use Rattle.pungi_code.specs.Registers.{put_answer}
use Rattle.pungi_code.specs.WellFormed.{is_integer, is_object, is_slot_kind, is_wide, is_var, is_place, place_kind}
use Rattle.pungi_code.specs.WellFormed.{var_kind, atom_is, place_of}
use Rattle.pungi_shape.specs.declared.holding.Holding.{Holding}
use Rattle.pungi_shape.specs.declared.holding.Holding.TheVariants as held
use Rattle.pungi_shape.specs.declared.shape.Shape.{Shape}
use Rattle.pungi_shape.specs.Cases.{Case, leads_to}
use Rattle.pungi_shape.specs.Forms.{Form, zero_form}
use Rattle.pungi_shape.specs.Parts.{maps, vars_in_place, following}
use Rattle.pungi_shape.specs.Scenes.{Scene, scene_of, with_var}
use Rattle.pungi_shape.specs.Shapes.{is_number, width_of}
use Rattle.pungi_shape.specs.Slots.{slot_holding, load_by_kind, load_cases}
use Rattle.pungi_shape.specs.Edges.{point_of}
use Rattle.pungi_shape.specs.Described.{Naming, HoldsSo}
use Rattle.pungi_shape.proofs.sound.Views.{View, view_of, IsTyped, IsHeldSo, names_slot, suits}
use Rattle.pungi_shape.proofs.sound.Shows.{IsLiveIn, IsOther}
use Rattle.pungi_shape.proofs.sound.FormValues.{length_zero}
use Rattle.pungi_shape.proofs.sound.Flow.{Claim, Flow, IsCode}
use Rattle.pungi_shape.proofs.sound.Stands.{StandsAs, Steps}
use Rattle.pungi_shape.proofs.sound.Arrives.{IsTrackedSlot}
use Rattle.pungi_shape.proofs.sound.Moves.{leads_on}
use Rattle.pungi_shape.proofs.sound.SceneSteps.{with_var_scene, with_var_shows, with_var_dead}
use Rattle.pungi_shape.proofs.sound.Renames.{no_number_of}
use Rattle.pungi_shape.proofs.sound.SceneBalances.{one_value}
use Rattle.pungi_shape.proofs.sound.Liveness.{IsRead}
use Rattle.pungi_shape.proofs.sound.Kinds.{wide_suits, put_typed}
use Rattle.pungi_shape.proofs.sound.Atoms.{FindsSlot, field_at, named_slot}
use Rattle.pungi_shape.proofs.sound.Parts.{Chosen, FreesHere, case_covers}
use Rattle.pungi_shape.proofs.sound.Simple.{no_guard, not_written, in_vars}
use Rattle.pungi_shape.proofs.sound.Simple.{instr_is}
use Rattle.pungi_shape.proofs.sound.Simple.{sound_at, atom_read}
use Rattle.pungi_shape.proofs.sound.Accesses.{IsAccess, at_slot, moved, suited_more, slot_there}
use Rattle.pungi_shape.proofs.sound.TrackedSlots.{held_at, content_pointer, pointer_loaded, pointer_set}
use Rattle.pungi_shape.proofs.sound.worlds.Places.{found, found_at, placed}
use Rattle.pungi_shape.proofs.sound.worlds.SlotKinds.{KindOf, suit_all}
use Rattle.pungi_shape.proofs.sound.worlds.Touches.{Touched, touched, touches}
use Rattle.pungi_shape.proofs.sound.Members.{nothing_in, first_among, later_among}
use Rattle.pungi_shape.proofs.sound.Tests.{no_way, both_true}

-- ---- what the run did

pub slot_kind_is : (place : Place) (vars : List Content) (z : Slot) (k : Param) → slot_of place vars ≡ Some (z, k)
    → k ≡ place_kind place
slot_kind_is (places.Global n kind) vars z k e =
    let p : Slot × Param = (slots.Global n, kind) in
    let q : Slot × Param = (z, k) in
    let same : p ≡ q = cc in
    ap (λ (r : Slot × Param). r.1) (sym same)
slot_kind_is (places.Field base tag field kind) vars z k e = by (content_of base vars) e
  where
    by : (c : Content) → field_of c tag field kind ≡ Some (z, k) → k ≡ kind
    by content.Unset f = absurd cc
    by (content.Holds value.Null) f = absurd cc
    by (content.Holds (value.Object o)) f =
        let p : Slot × Param = (slots.Field o tag field, kind) in
        let q : Slot × Param = (z, k) in
        let same : p ≡ q = cc in
        ap (λ (r : Slot × Param). r.1) (sym same)
    by (content.Holds (value.Int n)) f = absurd cc
    by (content.Holds value.Text) f = absurd cc

pub place_read : (o : View) (place : Place) (z : Slot) (k : Param) → slot_of place o.vars ≡ Some (z, k)
    → (x : ℕ) → IsAmong (vars_in_place place) x → IsRead o x
place_read o (places.Global n kind) z k e x there = absurd (nothing_in x there)
place_read o (places.Field base tag field kind) z k e x there =
    let f = field_at o.vars base tag field kind k z e in
    atom_read o base (value.Object f.object, f.holds) x there

pub record LoadRun (choices : List Choice) (x : Var) (place : Place) (p : Pos) (next : Next) (pc : ℕ) (m : Regs)
    (w : World) (v : Option Value) (q : Pos) (used : List Pos) : Type 0 where
  pub slot : Slot
  pub is_slot : slot_of place m.vars ≡ Some (slot, place_kind place)
  pub touch_of : Touch
  pub world : World
  pub touch_is : touch m.world slot (place_kind place) (choices_left choices m) ≡ touches touch_of world
  pub value_of : Value
  pub held : (slot_at world touch_of.place).held ≡ content.Holds value_of
  pub used_now : List Pos
  pub ends : (next (pc + 1) (put x (content.Holds value_of) (moved m world used_now))).end ≡ Returned w v q used

module _ (choices : List Choice) (x : Var) (place : Place) (p : Pos) (next : Next) (pc : ℕ) (m : Regs) (w : World)
    (v : Option Value) (q : Pos) (used : List Pos) where
  abbrev Ran : Type 0
  Ran = LoadRun choices x place p next pc m w v q used

  abbrev goes : Slot → Result (Effect × World) Halt → Run
  goes z r =
      after_effect p r m (λ e r'. with_operations (Loaded p z e.value ∷ [])
      (next (pc + 1) (put_answer (Some x) e.value r')))

  ran_loaded : (z : Slot) (t : Touch) (u : World) (c : Content) → slot_of place m.vars ≡ Some (z, place_kind place)
      → touch m.world z (place_kind place) (choices_left choices m) ≡ touches t u → (slot_at u t.place).held ≡ c
      → (goes z (after_load c t.used u)).end ≡ Returned w v q used → Ran
  ran_loaded z t u content.Unset is_z is_t held e = absurd cc
  ran_loaded z t u (content.Holds y) is_z is_t held e = record {
    slot = z;
    is_slot = is_z;
    touch_of = t;
    world = u;
    touch_is = is_t;
    value_of = y;
    held = held;
    used_now = m.used ++ replicate t.used p;
    ends = e;
  }

  ran_touched : (z : Slot) (r : Result (Touch × World) Halt) → slot_of place m.vars ≡ Some (z, place_kind place)
      → touch m.world z (place_kind place) (choices_left choices m) ≡ r
      → (goes z (r >>= λ t. after_load (slot_at t.1 t.0.place).held t.0.used t.1)).end ≡ Returned w v q used → Ran
  ran_touched z (Ok t) is_z is_t e = ran_loaded z t.0 t.1 (slot_at t.1 t.0.place).held is_z is_t refl e
  ran_touched z (Err halt.Stopped) is_z is_t e = absurd cc
  ran_touched z (Err halt.NeedsChoice) is_z is_t e = absurd cc
  ran_touched z (Err halt.Memory) is_z is_t e = absurd cc

  ran_slot : (o : Option (Slot × Param)) → slot_of place m.vars ≡ o
      → (with_slot o p (load choices x p next pc m)).end ≡ Returned w v q used → Ran
  ran_slot None is e = absurd cc
  ran_slot (Some s) is e =
      let kind = slot_kind_is place m.vars s.0 s.1 is in
      let same : slot_of place m.vars ≡ Some (s.0, place_kind place) = is ∙ ap (λ k. Some (s.0, k)) kind in
      ran_touched s.0 (touch m.world s.0 (place_kind place) (choices_left choices m)) same refl
      (subst (λ k. (load choices x p next pc m s.0 k).end ≡ Returned w v q used) kind e)

  pub load_ran : (perform choices (Load x place) p next pc m).end ≡ Returned w v q used → Ran
  load_ran e = ran_slot (slot_of place m.vars) refl e

-- ---- the last part

pub load_access : (x : Var) (place : Place) → IsAccess (Load x place) place (vars_in_place place)
load_access x place = record {
  three = refl;
  place_is = refl;
  reads_first_part = refl;
  reads_second_part = refl;
  reads_third_part = refl;
  finding = λ pc t. refl;
  touching = λ pc t. refl;
  unwritten_first = refl;
  unwritten_second = refl;
  base_atoms = λ a h. h;
  base_reads = λ y h. h;
  base_set = λ t h. h;
}

integer_value : (n : ℕ) (k : Param) (y : Value) → is_integer k ≡ true → suits n k y ≡ true
    → (i : ℤ) × (y ≡ value.Int i)
integer_value n param.Int value.Null e f = no_way f
integer_value n param.Int (value.Object o) e f = no_way f
integer_value n param.Int value.Text e f = no_way f
integer_value n param.Long value.Null e f = no_way f
integer_value n param.Long (value.Object o) e f = no_way f
integer_value n param.Long value.Text e f = no_way f
integer_value n param.Size value.Null e f = no_way f
integer_value n param.Size (value.Object o) e f = no_way f
integer_value n param.Size value.Text e f = no_way f
integer_value n k (value.Int i) e f = (i, refl)
integer_value n k y e f = no_way e

text_value : (n : ℕ) (k : Param) (y : Value) → is_slot_kind k ≡ true → is_object k ≡ false → is_integer k ≡ false
    → suits n k y ≡ true → (y ≡ value.Null) ⊎ (y ≡ value.Text)
text_value n param.TextOrNull value.Null s o i f = inl refl
text_value n param.TextOrNull value.Text s o i f = inr refl
text_value n param.TextOrNull (value.Object k) s o i f = no_way f
text_value n param.TextOrNull (value.Int j) s o i f = no_way f
text_value n param.Object y s o i f = no_way s
text_value n param.ObjectOrNull y s o i f = no_way (sym o)
text_value n param.Int y s o i f = no_way (sym i)
text_value n param.Long y s o i f = no_way (sym i)
text_value n param.Size y s o i f = no_way (sym i)
text_value n param.Text y s o i f = no_way s
text_value n param.ModuleDef y s o i f = no_way s

module _ (code : Code) (ks : List ℕ) (claim : Claim) (x : Var) (place : Place) (pc : ℕ) (m : Regs) (s : Shape)
    (names : Naming) (v : Vector)
    (stands : StandsAs code ks claim (point_of pc 2 0) s names v (view_of code claim.origin m)) (z :
    Slot)
    (finds : FindsSlot names (scene_of s) place z)
    (tracked : is_object (place_kind place) ≡ true → IsTrackedSlot (scene_of s) place) (y : Value)
    (found_is : found m.world z ≡ Some (content.Holds y))
    (suit : suits (length m.world.accounts) (place_kind place) y ≡ true)
    (slot_kind : is_slot_kind (place_kind place) ≡ true) (count : length m.vars ≡ length code.vars)
    (lt : x.0 < length code.vars) where
  abbrev S : Scene
  S = scene_of s

  abbrev n : ℕ
  n = length code.vars

  abbrev zero : Form
  zero = zero_form (width_of s)

  abbrev After : Type 0
  After = Chosen code ks (Load x place) pc 2 0 s v (view_of code claim.origin (put x (content.Holds y) m))
      (leads_to (pc + 1))

  abbrev put_in : Holding → Option ℕ → Case
  put_in h free = record { guard = []; scene = with_var x.0 h zero S; freed = free; onward = leads_to (pc + 1) }

  loaded : (h : Holding) (free : Option ℕ) → IsAmong (load_cases x.0 place (pc + 1) S) (put_in h free)
      → (free ≡ None) ⊎ (free ≡ Some x.0) → h ≢ held.Dead → IsLiveIn S.balances h
      → HoldsSo names h (content.Holds y)
      → (is_number h ≡ true → IsOther free x.0 → content.Holds y ≡ content.Holds (value.Int (dot zero v))) → After
  loaded h free there freed set live so number = record {
    chosen = put_in h free;
    names = names;
    is_there = there;
    onward = refl;
    frees = frees_by free freed;
    guard = no_guard v;
    width = refl;
    scene = with_var_scene ks n x.0 h zero S stands.scene (length_zero (width_of s)) live;
    deads = λ k d.
        let both = with_var_dead S x.0 h zero k set (let e = stands.scene.vars in omega (arith, e, lt)) d in
        (both.0, not_written x.0 k both.1);
    kinds = stands.kinds;
    shows = with_var_shows ks n names v free S (view_of code claim.origin m) x.0 h zero (content.Holds y) stands.scene
        stands.shows
        count
        lt so number;
  }
    where
      frees_by : (f : Option ℕ) → (f ≡ None) ⊎ (f ≡ Some x.0) → FreesHere (Load x place) pc 2 f (leads_to (pc + 1))
      frees_by None e = tt
      frees_by (Some k) (inl e) = absurd (let bad : Some k ≡ None = e in cc)
      frees_by (Some k) (inr e) = ((let f : Some k ≡ Some x.0 = e in let g : k ≡ x.0 = cc in g), refl, refl)

  of_object : is_object (place_kind place) ≡ true → After
  of_object object =
      let h = held_at ks n names v S (view_of code claim.origin m) stands.scene stands.shows place z finds
      (tracked object)
      (content.Holds y) found_is in
      let pointer = content_pointer names (slot_holding S place) y h.content h.so in
      let held_here = slot_holding S place in
      let cases : load_cases x.0 place (pc + 1) S ≡ put_in held_here None ∷ [] = ap (λ b. load_by_kind b
      (is_integer (place_kind place)) x.0 place (pc + 1) S) object
      ∙ pointer_loaded held_here x.0 (pc + 1) S pointer in
      loaded held_here None (subst (λ cs. IsAmong cs (put_in held_here None)) (sym cases)
      (first_among (put_in held_here None) [])) (inl refl) (pointer_set held_here pointer) h.live h.so
      (λ num other. absurd (false≢true (sym (no_number_of held_here pointer) ∙ num)))

  of_integer : is_object (place_kind place) ≡ false → is_integer (place_kind place) ≡ true → After
  of_integer other integer =
      let i = integer_value (length m.world.accounts) (place_kind place) y integer suit in
      let c = put_in held.Number (Some x.0) in
      let cases : load_cases x.0 place (pc + 1) S ≡ c ∷ [] = ap (λ b. load_by_kind b (is_integer (place_kind place)) x.0
      place (pc + 1) S) other ∙ ap (λ b. load_by_kind false b x.0 place (pc + 1) S) integer in
      loaded held.Number (Some x.0) (subst (λ cs. IsAmong cs c) (sym cases) (first_among c [])) (inr refl) (λ e. cc) tt
      (i.0, ap content.Holds i.1) (λ num free. absurd (free refl))

  of_text : is_object (place_kind place) ≡ false → is_integer (place_kind place) ≡ false → After
  of_text other integer =
      let a = put_in held.Null None in
      let b = put_in held.Text None in
      let cases : load_cases x.0 place (pc + 1) S ≡ a ∷ b ∷ [] = ap (λ r. load_by_kind r (is_integer (place_kind place))
      x.0 place (pc + 1) S) other ∙ ap (λ r. load_by_kind false r x.0 place (pc + 1) S) integer in
      elim (text_value (length m.world.accounts) (place_kind place) y slot_kind other integer suit) [
        | inl e ↦ loaded held.Null None (subst (λ cs. IsAmong cs a) (sym cases) (first_among a (b ∷ []))) (inl refl)
            (λ d. cc) tt (ap content.Holds e) (λ num free. absurd (false≢true num))
        | inr e ↦ loaded held.Text None (subst (λ cs. IsAmong cs b) (sym cases) (later_among a (b ∷ []) b
            (first_among b []))) (inl refl) (λ d. cc) tt (ap content.Holds e) (λ num free. absurd (false≢true num))
      ]

  pub load_shown : After
  load_shown = by (is_object (place_kind place)) (is_integer (place_kind place)) refl refl
    where
      by : (b c : Bool) → is_object (place_kind place) ≡ b → is_integer (place_kind place) ≡ c → After
      by true c e f = of_object e
      by false true e f = of_integer e f
      by false false e f = of_text e f

-- ---- the whole load

pub place_slot_kind : (vars : List Param) (place : Place) (k : Param) → is_place vars place k ≡ true
    → is_slot_kind (place_kind place) ≡ true
place_slot_kind vars (places.Global n kind) k e = (both_true (is_slot_kind kind) _ e).0
place_slot_kind vars (places.Field base tag field kind) k e =
    (both_true (is_slot_kind kind) _ (both_true (atom_is vars param.ObjectOrNull base) _ e).1).0

-- once it holds a value, it suits its kind as all others do
typed_loaded : (code : Code) (ks : List ℕ) (claim : Claim) → IsCode code ks claim → (place : Place)
    → KindOf code place → (z : Slot)
    → names_slot place z ≡ true → (m : Regs) (w : World) (us : List Pos) (j : ℕ)
    → IsTyped claim.file code (view_of code claim.origin m)
    → Touched claim.file m.world w z (place_kind place) j → IsHeldSo (length w.accounts) (place_kind place)
    (slot_at w j).held
    → IsTyped claim.file code (view_of code claim.origin (moved m w us))
typed_loaded code ks claim is_code place of z named m w us j typed t held = record {
  count = typed.count;
  vars = suited_more claim.file code claim.origin m w us typed t.grown.accounts;
  slots = λ c in_file. suit_all code c (is_code.kinds c in_file) place of z named w j
      (placed w z j t.grown.place).1 held
      (t.suit c in_file);
  there = t.there;
  grown = let more = t.grown.accounts in let before = typed.grown in omega (arith, more, before);
}

pub steps_load : (code : Code) (ks : List ℕ) (claim : Claim) → IsCode code ks claim → Flow code ks claim → (x : Var)
    (place : Place) → Steps code ks claim (Load x place)
steps_load code ks claim is_code flow x place choices p next pc line m w v q used there same runs e =
    let i = Load x place in
    let kind = place_kind place in
    let ran = load_ran choices x place p next pc m w v q used e in
    let z = ran.slot in
    let u = ran.world in
    let us = ran.used_now in
    let j = ran.touch_of.place in
    let y = ran.value_of in
    let sound = both_true (is_var code.vars x) _ (sound_at code ks claim is_code pc line i there same) in
    let placed = both_true (is_place code.vars place kind) (is_wide kind (var_kind code.vars x)) sound.1 in
    let slot_kind = place_slot_kind code.vars place kind placed.0 in
    let lt = in_vars code x sound.0 in
    let read = place_read (view_of code claim.origin m) place z kind ran.is_slot in
    let access = load_access x place in
    let of : KindOf code place = record {
      pc = pc;
      line = line;
      is_there = there;
      place_is = ap place_of same;
    } in
    let z_there = slot_there code ks claim is_code flow i place (vars_in_place place) access pc line m there same runs z
    kind ran.is_slot read slot_kind in
    let t = touched code claim.file is_code.own is_code.kinds place of z (named_slot place m.vars z kind ran.is_slot)
    slot_kind m.world
    runs.typed.slots runs.typed.there z_there (choices_left choices m) ran.touch_of u ran.touch_is in
    let at = at_slot code ks claim is_code flow i place (vars_in_place place) access pc line m there same runs z kind
    ran.is_slot read slot_kind u us j t in
    let n = moved m u us in
    let is_u : at.seen ≡ u = elim at.is_seen [
      | inl e ↦ e
      | inr e ↦ absurd (let bad : content.Unset ≡ content.Holds y = sym e.unset ∙ ran.held in cc)
    ] in
    let stands = subst (λ seen. StandsAs code ks claim (point_of pc 2 0) at.shape at.names at.vector
    (view_of code claim.origin (moved m seen us))) is_u at.stands in
    let held : IsHeldSo (length u.accounts) kind (slot_at u j).held = elim t.held [
      | inl h ↦ h
      | inr h ↦ absurd (let bad : content.Unset ≡ content.Holds y = sym h.unset ∙ ran.held in cc)
    ] in
    let found_is : found u z ≡ Some (content.Holds y) = found_at u z j t.grown.place ∙ ap Some ran.held in
    let suit : suits (length u.accounts) kind y ≡ true = subst (λ b. suits (length u.accounts) kind b ≡ true)
    (one_value held.value y (sym held.holds ∙ ran.held)) held.suits_kind in
    let after = load_shown code ks claim x place pc n at.shape at.names at.vector stands z at.finds at.tracked y
    found_is suit slot_kind runs.typed.count lt in
    let r = put x (content.Holds y) n in
    let lands = leads_on code ks claim flow (point_of pc 2 0) at.shape at.names at.vector (view_of code claim.origin n)
    (view_of code claim.origin r) (pc + 1)
    stands (case_covers code ks i pc 2 0 at.shape at.vector (view_of code claim.origin r) (leads_to (pc + 1))
    (instr_is code pc line i there same) at.set after)
    (sym (ap maps (instr_is code pc line i there same)))
    (subst (λ k. IsAmong (following pc k) (pc + 1)) (sym (instr_is code pc line i there same))
    (first_among (pc + 1) [])) in
    record {
      pc = pc + 1;
      regs = r;
      runs = record {
        shape = lands.shape;
        names = lands.names;
        vector = lands.vector;
        typed = put_typed claim.file code (view_of code claim.origin n) x.0 (content.Holds y)
            (typed_loaded code ks claim is_code place of z
            (named_slot place m.vars z kind ran.is_slot) m u us j runs.typed t held) lt
            (wide_suits (length u.accounts) kind (var_kind code.vars x) y placed.1 suit);
        stands = lands.stands;
      };
      ends = ran.ends;
    }
