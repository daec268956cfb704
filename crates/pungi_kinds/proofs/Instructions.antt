-- What each instruction does at a point where all is of its kind.
use Rattle.std.proofs.Common.{◌≡◌, ℕ, ◌+◌, Bool, true, false, List, [], ◌∷◌, ◌++◌}
use Rattle.std.proofs.Common.{Option, Some, None, Ok, length, replicate, refl, sym, ◌∙◌}
use Rattle.std.proofs.Common.{subst, arith, eqb-true, inr}
use Rattle.std.specs.Prelude.{ℤ, ◌==◌, slice_set, if◌then◌else◌}
use Rattle.pungi_base.specs.declared.choice.Choice.{Choice}
use Rattle.pungi_base.specs.declared.pos.Pos.{Pos}
use Rattle.pungi_base.specs.declared.value.Value.{Value}
use Rattle.pungi_base.specs.declared.value.Value.TheVariants as value
use Rattle.pungi_api.specs.declared.param.Param.{Param}
use Rattle.pungi_api.specs.declared.param.Param.TheVariants as param
use Rattle.pungi_types.specs.declared.kind.ValueKind.{ValueKind}
use Rattle.pungi_world.specs.declared.content.Content.{Content}
use Rattle.pungi_world.specs.declared.content.Content.TheVariants.{Unset, Holds}
use Rattle.pungi_world.specs.declared.effect.Effect.{Effect}
use Rattle.pungi_world.specs.declared.slot.Slot.{Slot}
use Rattle.pungi_world.specs.declared.slot.Slot.TheVariants as slot
use Rattle.pungi_world.specs.declared.world.World.{World}
use Rattle.pungi_world.specs.Slots.{load_effect, store_effect}
use Rattle.pungi_meaning.specs.declared.cmp.Cmp.{Cmp}
use Rattle.pungi_meaning.specs.declared.op.Op.{Op}
use Rattle.pungi_meaning.specs.Run.{Run, with_operations}
use Rattle.pungi_meaning.specs.Todo.{Computed, Fitted, Compared, Loaded, Stored}
use Rattle.pungi_meaning.specs.Values.{arithmetic, fits, holds, in_range, is_undefined, number_of, result_of}
use Rattle.pungi_meaning.specs.Values.{truth}
use Rattle.pungi_code.specs.declared.atom.Atom.{Atom}
use Rattle.pungi_code.specs.declared.atom.Var.{Var}
use Rattle.pungi_code.specs.declared.code.Codes.{Codes}
use Rattle.pungi_code.specs.declared.instr.Instr.{Instr}
use Rattle.pungi_code.specs.declared.instr.Instr.TheVariants as instr
use Rattle.pungi_code.specs.declared.place.Place.{Place}
use Rattle.pungi_code.specs.declared.place.Place.TheVariants.{Global, Field}
use Rattle.pungi_code.specs.Entries.{holds_value}
use Rattle.pungi_code.specs.Frames.{Rest}
use Rattle.pungi_code.specs.Perform.{field_of, load, slot_of, store, with_slot}
use Rattle.pungi_code.specs.Registers.{choices_left, content_of, put, put_answer}
use Rattle.pungi_code.specs.Run.{among, perform_in}
use Rattle.pungi_code.specs.WellFormed.{AreWellFormed, HaveOneKind, counts_in}
use Rattle.pungi_code.specs.WellFormed.{is_integer}
use Rattle.pungi_code.specs.WellFormed.{is_same_slot, is_slot_kind, is_wide, place_kind}
use Rattle.pungi_code.specs.WellFormed.{place_of, var_kind}
use Rattle.pungi_layout.proofs.well_formed.Both.{and_true, and_left, and_right}
use Rattle.pungi_kinds.specs.Contents.{are_two, IsPlaceOf, is_place_of, IsSlotOf, may_be_compared}
use Rattle.pungi_kinds.specs.Runs.{Point, HasKinds}
use Rattle.pungi_kinds.specs.Taken.{atom_holds}
use Rattle.pungi_kinds.proofs.ValueLemmas as lemma
use Rattle.pungi_kinds.proofs.AtomLemmas.{value_held}
use Rattle.pungi_kinds.proofs.SlotLemmas.{by_kind, loaded, stored, eqb_same}
use Rattle.pungi_kinds.proofs.Steps as step

-- ---- numbers

computed_fits : (o : Op) (k : ValueKind) (a b z : ℤ) → arithmetic o k a b ≡ Some z → fits k z ≡ true
computed_fits o k a b z e = by (is_undefined o b) e
  where
    fit : (c : Bool) → fits k (result_of o a b) ≡ c → (if c then Some (result_of o a b) else None) ≡ Some z
        → fits k z ≡ true
    fit true f g = let same : result_of o a b ≡ z = cc in subst (λ y. fits k y ≡ true) same f
    fit false f g = absurd (cc)

    by : (c : Bool) → (if c then None else in_range k (result_of o a b)) ≡ Some z → fits k z ≡ true
    by true f = absurd (cc)
    by false f = fit (fits k (result_of o a b)) refl f

-- ---- slots

slot_named : (place : Place) (vars : List Content) (q : Slot × Param) → slot_of place vars ≡ Some q
    → (is_place_of q.0 place ≡ true) × (place_kind place ≡ q.1)
slot_named (Global n k) vars q e =
    let same : (slot.Global n, k) ≡ q = cc in
    subst (λ (r : Slot × Param). (is_place_of r.0 (Global n k) ≡ true) × (k ≡ r.1)) same (eqb_same n.0 n.0 refl, refl)
slot_named (Field base tag field k) vars q e = by (content_of base vars) e
  where
    of : (o : ℕ) → (slot.Field o tag field, k) ≡ q
        → (is_place_of q.0 (Field base tag field k) ≡ true) × (k ≡ q.1)
    of o same =
        subst (λ (r : Slot × Param). (is_place_of r.0 (Field base tag field k) ≡ true) × (k ≡ r.1)) same (
          and_true (tag.0 == tag.0) (field.0 == field.0) (eqb_same tag.0 tag.0 refl)
              (eqb_same field.0 field.0 refl),
          refl,
        )

    by : (c : Content) → field_of c tag field k ≡ Some q
        → (is_place_of q.0 (Field base tag field k) ≡ true) × (k ≡ q.1)
    by (Holds (value.Object o)) f = of o (cc)
    by Unset f = absurd (cc)
    by (Holds value.Null) f = absurd (cc)
    by (Holds (value.Int z)) f = absurd (cc)
    by (Holds value.Text) f = absurd (cc)

-- two places that name a slot
one_slot : (s : Slot) (p q : Place) → is_place_of s p ≡ true → is_place_of s q ≡ true → is_same_slot p q ≡ true
one_slot (slot.Global m) (Global n k) (Global o l) h e =
    let a = eqb-true n.0 m.0 h in
    let b = eqb-true o.0 m.0 e in
    eqb_same n.0 o.0 (omega arith)
one_slot (slot.Field object t f) (Field base u g k) (Field other v x l) h e =
    let a = eqb-true u.0 t.0 (and_left (u.0 == t.0) (g.0 == f.0) h) in
    let b = eqb-true g.0 f.0 (and_right (u.0 == t.0) (g.0 == f.0) h) in
    let c = eqb-true v.0 t.0 (and_left (v.0 == t.0) (x.0 == f.0) e) in
    let d = eqb-true x.0 f.0 (and_right (v.0 == t.0) (x.0 == f.0) e) in
    and_true (u.0 == v.0) (g.0 == x.0) (eqb_same u.0 v.0 (omega arith)) (eqb_same g.0 x.0 (omega arith))
one_slot (slot.Global m) (Field base u g k) q h e = absurd (cc)
one_slot (slot.Field object t f) (Global n k) q h e = absurd (cc)
one_slot (slot.Global m) (Global n k) (Field other v x l) h e = absurd (cc)
one_slot (slot.Field object t f) (Field base u g k) (Global o l) h e = absurd (cc)

one_kind : (codes : Codes) → AreWellFormed codes → (s : Slot) (p q : Place) → IsPlaceOf codes p → IsPlaceOf codes q
    → is_place_of s p ≡ true → is_place_of s q ≡ true → place_kind p ≡ place_kind q
one_kind codes w s p q a b h e =
    let agree = w.kinds a.function b.function a.code b.code a.there b.there a.number b.number a.line b.line a.at b.at in
    let first = subst (λ o. HaveOneKind o (place_of b.line.instr)) a.is agree in
    let both = subst (λ o. HaveOneKind (Some p) o) b.is first in
    both (one_slot s p q h e)

-- ---- instructions

module _ (codes : Codes) (w : AreWellFormed codes) (result : Option Param) (choices : List Choice) (first : ℕ)
    (s : Point) (has : HasKinds codes result choices first s) where
  abbrev pub Does : Instr → Pos → Type 0
  Does i p =
      step.Done codes result choices first s has
      (λ go. perform_in (among codes.codes choices s.frames) go s.instrs i p s.place s.regs)

  abbrev Vars : List Content
  Vars = s.regs.vars

  abbrev Kinds : List Param
  Kinds = has.runs.code.vars

  abbrev N : ℕ
  N = length s.regs.world.accounts

  pub sets : (x : Var) (a : Atom) (p : Pos) → atom_holds N Vars (var_kind Kinds x) a ≡ true → Does (instr.Set x a) p
  sets x a p h =
      step.reads codes result choices first s has (content_of a Vars) p
      (λ v go. go s.frames s.instrs (s.place + 1) (put x (Holds v) s.regs))
      (λ v e. step.writes codes result choices first s has [] x (Holds v)
      (value_held N Vars (var_kind Kinds x) a v h e) tt)

  pub computes : (x : Var) (kind : ValueKind) (o : Op) (a b : Atom) (p : Pos)
      → counts_in kind (var_kind Kinds x) ≡ true
      → are_two N param.Long (content_of a Vars) (content_of b Vars) ≡ true → Does (instr.Arith x kind o a b) p
  computes x kind o a b p c h =
      step.reads codes result choices first s has (content_of a Vars) p _
      (λ v e. step.reads codes result choices first s has (content_of b Vars) p _
      (λ u f. step.gives codes result choices first s has (arithmetic o kind (number_of v) (number_of u)) p _
      (λ z g. step.writes codes result choices first s has (Computed p o kind v u ∷ []) x (Holds (value.Int z))
      (lemma.counted N kind (var_kind Kinds x) z c (computed_fits o kind (number_of v) (number_of u) z g))
      (lemma.both_read (are_two N param.Long) (content_of a Vars) (content_of b Vars) v u h e f, tt))))

  pub converts : (x : Var) (kind : ValueKind) (a : Atom) (p : Pos) → counts_in kind (var_kind Kinds x) ≡ true
      → atom_holds N Vars param.Long a ≡ true → Does (instr.Fit x kind a) p
  converts x kind a p c h =
      step.reads codes result choices first s has (content_of a Vars) p _
      (λ v e. step.tests codes result choices first s has (fits kind (number_of v)) p _
      (λ f. step.writes codes result choices first s has (Fitted p kind v ∷ []) x (Holds (value.Int (number_of v)))
      (lemma.counted N kind (var_kind Kinds x) (number_of v) c f) (value_held N Vars param.Long a v h e, tt)))

  pub compares : (x : Var) (c : Cmp) (a b : Atom) (p : Pos) → is_integer (var_kind Kinds x) ≡ true
      → may_be_compared N c (content_of a Vars) (content_of b Vars) ≡ true → Does (instr.Compare x c a b) p
  compares x c a b p i h =
      step.reads codes result choices first s has (content_of a Vars) p _
      (λ v e. step.reads codes result choices first s has (content_of b Vars) p _
      (λ u f. step.writes codes result choices first s has (Compared p c v u ∷ []) x (Holds (truth (holds c v u)))
      (lemma.truth_holds N (var_kind Kinds x) (holds c v u) i)
      (lemma.both_read (may_be_compared N c) (content_of a Vars) (content_of b Vars) v u h e f, tt)))

  -- ---- loads and stores

  module _ (place : Place) (is : IsPlaceOf codes place) (kind : is_slot_kind (place_kind place) ≡ true)
      (q : Slot × Param) (e : slot_of place Vars ≡ Some q) where
    slot_kind_of : is_slot_kind q.1 ≡ true
    slot_kind_of = subst (λ k. is_slot_kind k ≡ true) (slot_named place Vars q e).1 kind

    slot_there : IsSlotOf codes q.0
    slot_there = record { place = place; of = is; named = (slot_named place Vars q e).0 }

    all_one : (r : Place) → IsPlaceOf codes r → is_place_of q.0 r ≡ true → place_kind r ≡ q.1
    all_one r of named =
        let n = slot_named place Vars q e in
        one_kind codes w q.0 r place of is named n.0 ∙ n.1

    loads_so : (x : Var) (p : Pos) → is_wide (place_kind place) (var_kind Kinds x) ≡ true
        → (r : Effect × World) → load_effect s.regs.world q.0 q.1 (choices_left choices s.regs) ≡ Ok r
        → step.Done codes result choices first s has (λ go. with_operations (Loaded p q.0 r.0.value ∷ [])
        (go s.frames s.instrs (s.place + 1) (put_answer (Some x) r.0.value
        (record (s.regs) { world = r.1; used = s.regs.used ++ replicate r.0.used p }))))
    loads_so x p wide r f =
        let l = loaded codes q.0 q.1 slot_kind_of all_one s.regs.world (choices_left choices s.regs) r has.slots f in
        subst (λ (o : Option Value). step.Done codes result choices first s has (λ go. with_operations
        (Loaded p q.0 o ∷ []) (go s.frames s.instrs (s.place + 1) (put_answer (Some x) o
        (record (s.regs) { world = r.1; used = s.regs.used ++ replicate r.0.used p })))))
        (sym l.there) (inr (record {
          ops = Loaded p q.0 (Some l.value) ∷ [];
          next = step.After codes result choices first s has (s.place + 1) r p (slice_set Vars x.0 (Holds l.value));
          by = λ go. refl;
          holds = ((slot_there, l.holds), tt);
          then = step.grown_put codes result choices first s has (s.place + 1) r p x l.value
              (record { least = l.least; most = l.most; used = l.used; slots = l.slots })
              (lemma.wider (length r.1.accounts) (place_kind place) (var_kind Kinds x) l.value wide
              (l.holds place is (slot_named place Vars q e).0));
        }))

    stores_so : (v : Value) (p : Pos) → holds_value N (place_kind place) v ≡ true
        → (r : Effect × World) → store_effect s.regs.world q.0 q.1 v (choices_left choices s.regs) ≡ Ok r
        → step.Done codes result choices first s has (λ go. with_operations (Stored p q.0 v ∷ [])
        (go s.frames s.instrs (s.place + 1)
        (record (s.regs) { world = r.1; used = s.regs.used ++ replicate r.0.used p })))
    stores_so v p h r f =
        let k = subst (λ j. holds_value N j v ≡ true) (slot_named place Vars q e).1 h in
        let left = choices_left choices s.regs in
        let l = stored codes q.0 q.1 slot_kind_of all_one s.regs.world v left r has.slots k f in
        inr (record {
          ops = Stored p q.0 v ∷ [];
          next = step.After codes result choices first s has (s.place + 1) r p Vars;
          by = λ go. refl;
          holds = (
            (
              slot_there,
              by_kind codes q.0 q.1 slot_kind_of all_one (length r.1.accounts) (Holds v)
                  (lemma.more_objects N (length r.1.accounts) q.1 v l.least k),
            ),
            tt,
          );
          then = step.grown_same codes result choices first s has (s.place + 1) r p
              (record { least = l.least; most = l.most; used = l.used; slots = l.slots });
        })

  finds : (o : Option (Slot × Param)) (p : Pos) (f : Slot → Param → Rest → Run)
      → ((q : Slot × Param) → o ≡ Some q → step.Done codes result choices first s has (f q.0 q.1))
      → step.Done codes result choices first s has (λ go. with_slot o p (λ t k. f t k go))
  finds None p f g =
      step.stopped codes result choices first s has (λ go. with_slot None p (λ t k. f t k go)) p (λ go. refl)
  finds (Some q) p f g = g q refl

  pub loads : (x : Var) (place : Place) (p : Pos) → IsPlaceOf codes place → is_slot_kind (place_kind place) ≡ true
      → is_wide (place_kind place) (var_kind Kinds x) ≡ true → Does (instr.Load x place) p
  loads x place p is kind wide =
      finds (slot_of place Vars) p
      (λ t k go. load choices x p (go s.frames s.instrs) s.place s.regs t k)
      (λ q e. step.affects codes result choices first s has
      (load_effect s.regs.world q.0 q.1 (choices_left choices s.regs)) p _ (loads_so place is kind q e x p wide))

  pub stores : (place : Place) (a : Atom) (p : Pos) → IsPlaceOf codes place → is_slot_kind (place_kind place) ≡ true
      → atom_holds N Vars (place_kind place) a ≡ true → Does (instr.Store place a) p
  stores place a p is kind h =
      step.reads codes result choices first s has (content_of a Vars) p _
      (λ v f. finds (slot_of place Vars) p
      (λ t k go. store choices p (go s.frames s.instrs) s.place s.regs v t k)
      (λ q e. step.affects codes result choices first s has
      (store_effect s.regs.world q.0 q.1 v (choices_left choices s.regs)) p _
      (stores_so place is kind q e v p (value_held N Vars (place_kind place) a v h f))))
