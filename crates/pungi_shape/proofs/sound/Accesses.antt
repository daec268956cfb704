-- The first two parts of a load and a store, one after the other.
--   IsAccess i place rs     an instruction finds and touches the slot of a place first, and reads these variables
--   IsAsNull place w u j    a world is as if the slot of a place, which holds nothing, held NULL
--   AtSlot                  what is known before its last part
--   moved m w us            the registers with another world, and other places of choices
use Rattle.std.proofs.Common.{◌≡◌, ℕ, ◌+◌, ◌<◌, ◌≤◌, true, ◌&&◌, ◌||◌, List, [], ◌∷◌}
use Rattle.std.proofs.Common.{length, map, get_or, refl, sym, ap, ◌∙◌, subst, arith, Option, Some, None, Bool, false}
use Rattle.std.proofs.Common.{◌⊎◌, inl, inr, ◌-ℤ◌}
use Rattle.std.specs.Prelude.{slice_get, nat_lt, not, ◌==◌}
use Rattle.std.specs.List.{All, IsAmong, list_any}
use Rattle.std.proofs.lemmas.Bool.{eq-eqb}
use Rattle.pungi_base.specs.declared.pos.Pos.{Pos}
use Rattle.pungi_api.specs.declared.param.Param.{Param}
use Rattle.pungi_domain.specs.Vectors.{Vector}
use Rattle.pungi_world.specs.declared.content.Content.{Content}
use Rattle.pungi_world.specs.declared.content.Content.TheVariants as content
use Rattle.pungi_base.specs.declared.value.Value.TheVariants as value
use Rattle.pungi_world.specs.declared.slot.Slot.{Slot}
use Rattle.pungi_world.specs.declared.slot.Slot.TheVariants as slots
use Rattle.pungi_world.specs.Slots.{is_fresh, place_of, put_at, slot_at}
use Rattle.pungi_world.specs.declared.world.World.{World}
use Rattle.pungi_code.specs.declared.atom.Atom.{Atom}
use Rattle.pungi_code.specs.declared.code.Code.{Code}
use Rattle.pungi_code.specs.declared.code.Line.{Line}
use Rattle.pungi_code.specs.declared.instr.Instr.{Instr}
use Rattle.pungi_code.specs.declared.place.Place.{Place}
use Rattle.pungi_code.specs.Perform.{slot_of}
use Rattle.pungi_code.specs.Registers.{Regs}
use Rattle.pungi_code.specs.WellFormed.{is_slot_kind, is_object, is_text, place_kind, place_of as place_in}
use Rattle.pungi_shape.specs.declared.point.Point.{Point}
use Rattle.pungi_shape.specs.declared.shape.Shape.{Shape}
use Rattle.pungi_shape.specs.declared.tracked.Spot.{Spot}
use Rattle.pungi_shape.specs.declared.tracked.Spot.TheVariants.{Global, Field}
use Rattle.pungi_shape.specs.Cases.{within, passes_on, are_set}
use Rattle.pungi_shape.specs.Liveness.{is_among, instr_at, is_holder, is_live, reads_first}
use Rattle.pungi_code.specs.WellFormed.{atoms_in, atoms_of}
use Rattle.pungi_shape.specs.Named.{static_in}
use Rattle.pungi_shape.specs.Parts.{maps, reads, writes, following, vars_in_place}
use Rattle.pungi_shape.specs.Scenes.{Scene, scene_of, is_made}
use Rattle.pungi_shape.specs.Slots.{find_slot, touch_first, is_of_made, is_tracked}
use Rattle.pungi_shape.specs.Steps.{part_cases}
use Rattle.pungi_shape.specs.Arrivals.{arrive}
use Rattle.pungi_shape.specs.Edges.{point_of}
use Rattle.pungi_shape.specs.Described.{Naming, debt, slot_named}
use Rattle.pungi_shape.proofs.sound.Views.{View, Origin, view_of, IsTyped, IsHeldSo, IsSlotOf, Suits, names_slot}
use Rattle.pungi_shape.proofs.sound.Views.{holds_objects}
use Rattle.pungi_shape.proofs.sound.Kinds.{AreSuited}
use Rattle.pungi_shape.proofs.sound.Flow.{Claim, Flow, IsCode}
use Rattle.pungi_shape.proofs.sound.Stands.{StandsAs, Covers, Runs, done_writes}
use Rattle.pungi_shape.proofs.sound.Arrives.{IsSoleSlot, IsAloneSlot, IsTrackedSlot, AreHolders, sole_arrives}
use Rattle.pungi_shape.proofs.sound.Arrives.{alone_arrives}
use Rattle.pungi_shape.proofs.sound.Arrives.{tracked_arrives}
use Rattle.pungi_shape.proofs.sound.Shows.{IsBaseIn}
use Rattle.pungi_shape.proofs.sound.Arrives.{names_after}
use Rattle.pungi_shape.proofs.sound.Moves.{moves_within}
use Rattle.pungi_shape.proofs.sound.Liveness.{IsRead, reads_set}
use Rattle.pungi_shape.proofs.sound.Atoms.{FindsSlot, finds_slot}
use Rattle.pungi_shape.proofs.sound.Parts.{case_covers}
use Rattle.pungi_shape.proofs.sound.Simple.{instr_is, statics_named}
use Rattle.pungi_shape.proofs.sound.SoleSlots.{Sole, slot_found, place_live}
use Rattle.pungi_shape.proofs.sound.ArrivedMarks.{among_tracked}
use Rattle.pungi_shape.proofs.sound.FirstTouches.{Tracks, slot_touched}
use Rattle.pungi_shape.proofs.sound.worlds.SlotKinds.{KindOf, suits_more, field_held}
use Rattle.pungi_shape.proofs.sound.worlds.Places.{put_here, placed}
use Rattle.pungi_shape.proofs.sound.worlds.Touches.{Grown, IsUntouched, Touched, filled}
use Rattle.pungi_shape.proofs.sound.Members.{nothing_in, one_of, all_among}
use Rattle.pungi_shape.proofs.sound.Tests.{or_true, no_way}

pub record IsAccess (i : Instr) (place : Place) (rs : List ℕ) : Type 0 where
  pub three : maps i ≡ 3
  pub place_is : place_in i ≡ Some place
  pub reads_first_part : reads i 0 ≡ rs
  pub reads_second_part : reads i 1 ≡ rs
  pub reads_third_part : reads i 2 ≡ rs
  pub finding : (pc : ℕ) (t : Scene) → part_cases i pc 0 0 t ≡ map (passes_on 0) (find_slot place t)
  pub touching : (pc : ℕ) (t : Scene) → part_cases i pc 1 0 t ≡ map (passes_on 0) (touch_first place t)
  pub unwritten_first : done_writes i 0 ≡ []
  pub unwritten_second : done_writes i 1 ≡ []
  pub base_atoms : (a : Atom) → IsAmong (atoms_in place) a → IsAmong (atoms_of i) a
  pub base_reads : (x : ℕ) → IsAmong (vars_in_place place) x → IsAmong rs x
  pub base_set : (t : Scene) → are_set t rs ≡ true → are_set t (vars_in_place place) ≡ true

-- ---- what is read is a holder

among_is : (xs : List ℕ) (x : ℕ) → IsAmong xs x → is_among xs x ≡ true
among_is [] x there = absurd (nothing_in x there)
among_is (y ∷ xs) x there = elim (one_of y xs x there) [
  | inl e ↦ ap (λ b. b || is_among xs x) (eq-eqb y x (sym e))
  | inr rest ↦ or_true (y == x) (is_among xs x) (among_is xs x rest)
]

pub reads_hold : (code : Code) (p : Point) (x : ℕ) → IsAmong (reads (instr_at code p.instr) p.done) x
    → is_holder code p x ≡ true
reads_hold code p x there =
    let i = instr_at code p.instr in
    let rest = not (is_among (writes i p.done) x)
    && list_any (reads_first code (length code.instrs) x) (following p.instr i) in
    or_true (nat_lt x code.locals) (is_live code p x) (ap (λ b. b || rest) (among_is (reads i p.done) x there))

-- ---- registers

abbrev pub moved : Regs → World → List Pos → Regs
moved m w us = record { world = w; used = us; vars = m.vars }

pub suits_content : (n m : ℕ) (k : Param) (c : Content) → n ≤ m → Suits n k c → Suits m k c
suits_content n m k content.Unset le h = tt
suits_content n m k (content.Holds x) le h = suits_more n m k x le h

pub suited_more : (file : Code → Type 0) (code : Code) (origin : Origin) (m : Regs) (w : World) (us : List Pos)
    → IsTyped file code (view_of code origin m) → length m.world.accounts ≤ length w.accounts
    → AreSuited code (view_of code origin (moved m w us))
suited_more file code origin m w us typed le x =
    suits_content (length m.world.accounts) (length w.accounts) _ _ le (typed.vars x)

-- it is as if the slot held NULL
pub record IsAsNull (place : Place) (w seen : World) (j : ℕ) : Type 0 where
  pub world : seen ≡ put_at w j value.Null
  pub unset : (slot_at w j).held ≡ content.Unset
  pub object : is_object (place_kind place) ≡ true

-- the world with which a slot's last part goes on: where a slot held nothing that may be any content, it is as if it
-- held NULL, and so what is stored there is the same
pub record AtSlot (code : Code) (ks : List ℕ) (claim : Claim) (i : Instr) (pc : ℕ) (place : Place) (m : Regs) (w :
    World)
    (us : List Pos) (j : ℕ) (z : Slot) : Type 0 where
  pub seen : World
  pub is_seen : (seen ≡ w) ⊎ IsAsNull place w seen j
  pub shape : Shape
  pub names : Naming
  pub vector : Vector
  pub stands : StandsAs code ks claim (point_of pc 2 0) shape names vector (view_of code claim.origin (moved m seen us))
  pub finds : FindsSlot names (scene_of shape) place z
  pub tracked : is_object (place_kind place) ≡ true → IsTrackedSlot (scene_of shape) place
  pub set : are_set (scene_of shape) (reads i 2) ≡ true

module _ (code : Code) (ks : List ℕ) (claim : Claim) (is_code : IsCode code ks claim) (flow : Flow code ks claim)
    (i : Instr)
    (place : Place) (rs : List ℕ) (access : IsAccess i place rs) (pc : ℕ) (line : Line) (m : Regs)
    (there : slice_get code.instrs pc ≡ Some line) (same : line.instr ≡ i) (runs : Runs code ks claim pc m)
    (z : Slot) (kind : Param) (slot : slot_of place m.vars ≡ Some (z, kind))
    (read : (x : ℕ) → IsAmong rs x → IsRead (view_of code claim.origin m) x)
    (slot_kind : is_slot_kind (place_kind place) ≡ true)
  where
    abbrev n : ℕ
    n = length code.vars

    at : instr_at code pc ≡ i
    at = instr_is code pc line i there same

    pub kind_of : KindOf code place
    kind_of = record { pc = pc; line = line; is_there = there; place_is = ap place_in same ∙ access.place_is }

    bases_named : (a : Atom) → IsAmong (atoms_in place) a → All (IsAmong ks) (static_in a)
    bases_named a h = statics_named code ks claim is_code pc line i there same a (access.base_atoms a h)

    -- what is read is set, before each part
    set_at : (p : Point) (s : Shape) (names : Naming) (v : Vector) (o : View) → p.instr ≡ pc → reads i p.done ≡ rs
        → o.vars ≡ m.vars → StandsAs code ks claim p s names v o → are_set (scene_of s) rs ≡ true
    set_at p s names v o here is_rs vars stands =
        let same_reads : reads (instr_at code p.instr) p.done ≡ rs = ap (λ (k : ℕ). reads (instr_at code k) p.done) here
        ∙ ap (λ j. reads j p.done) at ∙ is_rs in
        subst (λ ys. are_set (scene_of s) ys ≡ true) same_reads
        (reads_set code ks claim p s names v o stands
        (λ x h. let r = read x (subst (λ ys. IsAmong ys x) same_reads h) in
        (r.0, ap (λ (cs : List Content). get_or cs x content.Unset) vars ∙ r.1)))

    holders_at : (p : Point) → p.instr ≡ pc → reads i p.done ≡ rs → AreHolders code p (vars_in_place place)
    holders_at p here is_rs =
        let same_reads : reads (instr_at code p.instr) p.done ≡ rs = ap (λ (k : ℕ). reads (instr_at code k) p.done) here
        ∙ ap (λ j. reads j p.done) at ∙ is_rs in
        all_among (λ x. is_holder code p x ≡ true) (vars_in_place place)
        (λ x h. reads_hold code p x (subst (λ ys. IsAmong ys x) (sym same_reads) (access.base_reads x h)))

    more_parts : (k : ℕ) → k + 1 < 3 → k + 1 < maps (instr_at code pc)
    more_parts k lt = subst (λ (q : ℕ). k + 1 < q) (sym (ap maps at ∙ access.three)) lt

    -- the object of the slot is there
    pub slot_there : IsSlotOf (length m.world.accounts) z
    slot_there =
        let s = scene_of runs.shape in
        let set = set_at (point_of pc 0 0) runs.shape runs.names runs.vector (view_of code claim.origin m) refl
        access.reads_first_part
        refl runs.stands in
        let f = finds_slot ks n runs.names runs.vector s (view_of code claim.origin m) runs.stands.scene
        runs.stands.shows place z kind
        bases_named (access.base_set s set) slot in
        by f.spot f.based f.is_slot
      where
        by : (q : Spot) → IsBaseIn (length runs.shape.made) q → slot_named runs.names q ≡ z
            → IsSlotOf (length m.world.accounts) z
        by (Global g) in_q e = subst (IsSlotOf (length m.world.accounts)) e tt
        by (Field b tag field) in_q e = subst (IsSlotOf (length m.world.accounts)) e
            (runs.stands.shows.objects b (place_live runs.shape b in_q))

    module _ (w : World) (us : List Pos) (j : ℕ) (touched : Touched claim.file m.world w z (place_kind place) j) where
      abbrev A : View
      A = view_of code claim.origin m

      -- after the first part
      first_set : are_set (scene_of runs.shape) rs ≡ true
      first_set = set_at
          (point_of pc 0 0) runs.shape runs.names runs.vector A refl access.reads_first_part refl runs.stands

      first : Sole code ks i pc place runs.shape runs.vector A
      first = slot_found code ks claim is_code pc i place runs.shape runs.names runs.vector A runs.stands
          (access.finding pc (scene_of runs.shape)) access.unwritten_first z kind bases_named
          (access.base_set (scene_of runs.shape) first_set) slot

      abbrev first_covers : Covers code ks (point_of pc 0 0) runs.shape runs.vector A (within 0)
      first_covers = case_covers code ks i pc 0 0 runs.shape runs.vector A (within 0) at
          (subst (λ ys. are_set (scene_of runs.shape) ys ≡ true) (sym access.reads_first_part) first_set) first.chosen

      pub record After (k : ℕ) (o : View) : Type 0 where
        pub shape : Shape
        pub names : Naming
        pub vector : Vector
        pub stands : StandsAs code ks claim (point_of pc k 0) shape names vector o

      pub record Middle : Type 0 where
        pub after : After 1 A
        pub sole : IsSoleSlot after.names (scene_of after.shape) place
        pub alone : IsAloneSlot after.names (scene_of after.shape) place

      middle : Middle
      middle =
          let p = point_of pc 1 0 in
          let c = first_covers in
          let r = moves_within code ks claim flow (point_of pc 0 0) runs.shape runs.names runs.vector A A 0 runs.stands
          c
          (more_parts 0 (omega arith)) in
          let live = holders_at p refl access.reads_second_part in
          record {
            after = record {
              shape = (arrive code p c.chosen.scene).shape;
              names = names_after code p c.chosen.scene c.names;
              vector = r.vector;
              stands = r.stands;
            };
            sole = sole_arrives code ks p c.chosen.scene c.names place c.scene live first.sole;
            alone = alone_arrives code ks p c.chosen.scene c.names place c.scene live m.world (holds_objects code)
                c.shows.marks first.alone;
          }

      -- after the second part
      module _ (h : Middle) where
        abbrev a : After 1 A
        a = h.after

        second_set : are_set (scene_of a.shape) rs ≡ true
        second_set = set_at (point_of pc 1 0) a.shape a.names a.vector A refl access.reads_second_part refl a.stands

        second_finds : FindsSlot a.names (scene_of a.shape) place z
        second_finds = finds_slot ks n a.names a.vector (scene_of a.shape) A a.stands.scene a.stands.shows place z kind
            bases_named (access.base_set (scene_of a.shape) second_set) slot

        abbrev q : Spot
        q = second_finds.spot

        -- the first touch of a field of a made object finds nothing
        made_holds : is_object (place_kind place) ≡ true → is_of_made a.shape q ≡ true → is_tracked a.shape q ≡ false
            → (slot_at w j).held ≡ content.Unset
        made_holds object made untracked = by q refl
          where
            none : (r : Option ℕ) → place_of m.world.slots z ≡ r
                → ((k : ℕ) → place_of m.world.slots z ≡ Some k → place_of m.world.slots z ≡ None)
                → place_of m.world.slots z ≡ None
            none None e not_some = e
            none (Some k) e not_some = not_some k e

            by : (r : Spot) → q ≡ r → (slot_at w j).held ≡ content.Unset
            by (Global g) e = no_way (ap (is_of_made a.shape) (sym e) ∙ made)
            by (Field b tag field) e =
                let is_z : slots.Field (a.names b) tag field ≡ z = ap (slot_named a.names) (sym e) ∙
                second_finds.is_slot in
                let below : b < length a.shape.made = subst (IsBaseIn (length a.shape.made)) e second_finds.based in
                let live = place_live a.shape b below in
                let marked : is_made a.shape b ≡ true = ap (is_of_made a.shape) (sym e) ∙ made in
                let marks = a.stands.shows.marks in
                let object_field = field_held code place (a.names b) tag field kind_of object
                (ap (names_slot place) is_z ∙ second_finds.named) in
                let fresh : is_fresh m.world z ≡ true = ap (is_fresh m.world) (sym is_z) ∙ marks.made b live marked in
                touched.fresh (none (place_of m.world.slots z) refl (λ k at. no_way (sym untracked
                ∙ ap (is_tracked a.shape) e ∙ among_tracked a.shape.slots (Field b tag field)
                (marks.touched b tag field k live marked object_field (ap (place_of m.world.slots) is_z ∙ at))))) fresh

        module _ (u : World) (grown : Grown m.world u z j)
            (is_seen : (u ≡ w) ⊎ IsAsNull place w u j)
            (made_so : is_object (place_kind place) ≡ true → is_of_made a.shape q ≡ true → is_tracked a.shape q ≡ false
            → (slot_at u j).held ≡ content.Unset)
            (other_so : is_object (place_kind place) ≡ true → is_of_made a.shape q ≡ false
            → IsHeldSo (length u.accounts) (place_kind place) (slot_at u j).held) where
          abbrev B : View
          B = view_of code claim.origin (moved m u us)

          second : Tracks code ks i pc place a.shape a.vector B
          second = slot_touched code ks claim is_code pc i place kind_of a.shape a.names a.vector A a.stands
              (access.touching pc (scene_of a.shape)) access.unwritten_second z second_finds h.sole h.alone refl u
              (λ o. debt u o -ℤ claim.origin.debts o) j grown made_so other_so
              (λ o. ap (λ d. d -ℤ claim.origin.debts o) (grown.debts o))

          abbrev second_covers : Covers code ks (point_of pc 1 0) a.shape a.vector B (within 0)
          second_covers = case_covers code ks i pc 1 0 a.shape a.vector B (within 0) at
              (subst (λ ys. are_set (scene_of a.shape) ys ≡ true) (sym access.reads_second_part) second_set)
              second.chosen

          last : AtSlot code ks claim i pc place m w us j z
          last =
              let p = point_of pc 2 0 in
              let c = second_covers in
              let r = moves_within code ks claim flow (point_of pc 1 0) a.shape a.names a.vector A B 0 a.stands c
              (more_parts 1 (omega arith)) in
              let s = (arrive code p c.chosen.scene).shape in
              let set = set_at p s (names_after code p c.chosen.scene c.names) r.vector B refl access.reads_third_part
              refl r.stands in
              record {
                seen = u;
                is_seen = is_seen;
                shape = s;
                names = names_after code p c.chosen.scene c.names;
                vector = r.vector;
                stands = r.stands;
                finds = finds_slot ks n (names_after code p c.chosen.scene c.names) r.vector (scene_of s) B
                    r.stands.scene
                    r.stands.shows place z kind bases_named (access.base_set (scene_of s) set) slot;
                tracked = λ object. tracked_arrives code ks p c.chosen.scene place c.scene
                    (holders_at p refl access.reads_third_part) (second.tracked object);
                set = subst (λ ys. are_set (scene_of s) ys ≡ true) (sym access.reads_third_part) set;
              }

        -- the world as it is, but where a slot of any content held nothing
        as_it_is : (is_object (place_kind place) ≡ true → is_of_made a.shape q ≡ false
            → IsHeldSo (length w.accounts) (place_kind place) (slot_at w j).held)
            → AtSlot code ks claim i pc place m w us j z
        as_it_is other = last w touched.grown (inl refl) made_holds other

        as_null : IsUntouched m.world w z j → is_of_made a.shape q ≡ false → is_object (place_kind place) ≡ true
            → AtSlot code ks claim i pc place m w us j z
        as_null u unmade object = last (put_at w j value.Null) (filled m.world w z j touched.grown u)
            (inr (record { world = refl; unset = u.unset; object = object })) (λ o made t. no_way (sym unmade ∙ made))
            (λ o f. record {
              value = value.Null;
              holds = put_here w j value.Null (placed w z j touched.grown.place).0;
              suits_kind = ap (λ b. b || is_text (place_kind place)) object;
            })

        last_by : (b c : Bool) → is_of_made a.shape q ≡ b → is_object (place_kind place) ≡ c
            → AtSlot code ks claim i pc place m w us j z
        last_by true c e f = as_it_is (λ o g. no_way (sym g ∙ e))
        last_by false false e f = as_it_is (λ o g. no_way (sym f ∙ o))
        last_by false true e f = elim touched.held [
          | inl held ↦ as_it_is (λ o g. held)
          | inr u ↦ as_null u e f
        ]

      pub at_slot : AtSlot code ks claim i pc place m w us j z
      at_slot = last_by middle (is_of_made middle.after.shape (second_finds middle).spot)
          (is_object (place_kind place)) refl refl
