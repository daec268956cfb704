-- Instructions of one part: what the run does is some case of it. Copies, and what only moves on.
--   IsReadAtom o a          an atom stands for a value
--   FreesBy i pc free to    which variable gets any number, if one does
--   Shown code ks pc i s v o to    some case of the instruction leads there, and its scene shows what is held after it
--   IsBase                  a scene shows what is held before a variable is written
--   put_case                the case in which a variable holds something else
use Rattle.std.proofs.Common.{◌≡◌, ◌≢◌, inl, inr, ℕ, ◌+◌, ◌<◌, true, false, cond, ◌||◌, List, [], ◌∷◌}
use Rattle.std.proofs.Common.{length, map, get_or, refl, sym, ap, ◌∙◌, subst, arith, Option, Some, None, pos}
use Rattle.std.specs.Prelude.{slice_get}
use Rattle.std.specs.List.{All, IsAmong}
use Rattle.std.proofs.lemmas.Bool.{false≢true, eq-eqb, ltb-true}
use Rattle.std.proofs.lemmas.Bool.Decides.{eqb_tells}
use Rattle.std.proofs.lemmas.List.Elements.{All-nil}
use Rattle.pungi_base.specs.declared.pos.Pos.{Pos}
use Rattle.pungi_base.specs.declared.value.Value.{Value}
use Rattle.pungi_base.specs.declared.value.Value.TheVariants as value
use Rattle.pungi_domain.specs.Vectors.{Vector, dot}
use Rattle.pungi_world.specs.declared.content.Content.{Content}
use Rattle.pungi_world.specs.declared.content.Content.TheVariants as content
use Rattle.pungi_world.specs.declared.world.World.{World}
use Rattle.pungi_meaning.specs.Run.{Run, Returned}
use Rattle.pungi_code.specs.declared.atom.Atom.{Atom}
use Rattle.pungi_code.specs.declared.atom.Atom.TheVariants as atom
use Rattle.pungi_code.specs.declared.atom.Var.{Var}
use Rattle.pungi_code.specs.declared.code.Code.{Code}
use Rattle.pungi_code.specs.declared.code.Line.{Line}
use Rattle.pungi_code.specs.declared.instr.Instr.{Instr}
use Rattle.pungi_code.specs.declared.instr.Instr.TheVariants.{Set, Unset, Jump, Fall}
use Rattle.pungi_code.specs.declared.instr.Label.{Label}
use Rattle.pungi_code.specs.Registers.{Regs, put, content_of, with_value}
use Rattle.pungi_code.specs.WellFormed.{var_kind, is_var, atom_is, is_sound_among}
use Rattle.pungi_shape.specs.declared.holding.Holding.{Holding}
use Rattle.pungi_shape.specs.declared.holding.Holding.TheVariants as held
use Rattle.pungi_shape.specs.declared.shape.Shape.{Shape}
use Rattle.pungi_shape.specs.Forms.{Form, zero_form}
use Rattle.pungi_shape.specs.Shapes.{is_number, width_of}
use Rattle.pungi_code.specs.WellFormed.{atoms_of}
use Rattle.pungi_shape.specs.Named.{static_in}
use Rattle.pungi_shape.specs.Parts.{vars_in, all_reads, maps, written, following}
use Rattle.pungi_shape.specs.Liveness.{is_among, instr_of, instr_at}
use Rattle.pungi_shape.specs.Scenes.{Scene, scene_of, holding_at, holding_of, form_of, with_var}
use Rattle.pungi_shape.specs.Cases.{Case, leads_to, leads, are_set}
use Rattle.pungi_shape.specs.Steps.{part_cases, cases}
use Rattle.pungi_shape.specs.Edges.{point_of, free_var}
use Rattle.pungi_shape.specs.Described.{Naming, HoldsSo}
use Rattle.pungi_shape.proofs.sound.Views.{View, Origin, view_of, IsTyped, IsObjectSpot}
use Rattle.pungi_shape.proofs.sound.Shows.{IsScene, Shows, IsLiveIn, IsOther, spot_in}
use Rattle.pungi_shape.proofs.sound.FormValues.{length_zero}
use Rattle.pungi_shape.proofs.sound.Flow.{Claim, Flow, IsCode, AreZero}
use Rattle.pungi_shape.proofs.sound.Stands.{Covers, FreesSo, done_writes, Runs, Steps}
use Rattle.pungi_shape.proofs.sound.Moves.{leads_on}
use Rattle.pungi_shape.proofs.sound.SceneVars.{atom_holds, atom_number, atom_width, atom_live, with_var_scene}
use Rattle.pungi_shape.proofs.sound.SceneVars.{with_var_shows, with_var_dead}
use Rattle.pungi_shape.proofs.sound.Atoms.{atom_set}
use Rattle.pungi_shape.proofs.sound.Liveness.{IsRead, reads_set}
use Rattle.pungi_shape.proofs.sound.Kinds.{atom_suits, put_typed}
use Rattle.pungi_shape.proofs.sound.Members.{nothing_in, first_among, one_of, among_each, all_among}
use Rattle.pungi_shape.proofs.sound.Tests.{both_true}

-- ---- reads

abbrev pub IsReadAtom : View → Atom → Type 0
IsReadAtom o a = (u : Value) × (content_of a o.vars ≡ content.Holds u)

pub atom_read : (o : View) (a : Atom) → IsReadAtom o a → (x : ℕ) → IsAmong (vars_in a) x → IsRead o x
atom_read o (atom.Var y) read x there = elim (one_of y.0 [] x there) [
  | inl e ↦ (read.0, ap (λ z. get_or o.vars z content.Unset) e ∙ read.1)
  | inr rest ↦ absurd (nothing_in x rest)
]
atom_read o (atom.Int n) read x there = absurd (nothing_in x there)
atom_read o atom.Null read x there = absurd (nothing_in x there)
atom_read o atom.Text read x there = absurd (nothing_in x there)
atom_read o (atom.Static k) read x there = absurd (nothing_in x there)

pub value_read : (c : Content) (p : Pos) (go : Value → Run) (w : World) (v : Option Value) (q : Pos) (used : List Pos)
    → (with_value c p go).end ≡ Returned w v q used
    → (u : Value) × (c ≡ content.Holds u) × ((go u).end ≡ Returned w v q used)
value_read content.Unset p go w v q used e = absurd (cc)
value_read (content.Holds u) p go w v q used e = (u, refl, e)

-- ---- instructions of one part

abbrev pub FreesBy : Instr → ℕ → Option ℕ → ℕ → Type 0
FreesBy i pc None to = Unit {0}
FreesBy i pc (Some x) to = (x ≡ free_var i) × (to ≡ pc + 1)

pub record Shown (code : Code) (ks : List ℕ) (pc : ℕ) (i : Instr) (s : Shape) (v : Vector) (o : View) (to : ℕ)
    : Type 0 where
  pub chosen : Case
  pub names : Naming
  pub is_there : IsAmong (part_cases i pc 0 0 (scene_of s)) chosen
  pub onward : chosen.onward ≡ leads_to to
  pub frees : FreesBy i pc chosen.freed to
  pub guard : AreZero chosen.guard v
  pub width : chosen.scene.width ≡ width_of s
  pub scene : IsScene ks (length code.vars) chosen.scene
  pub deads : (x : ℕ) → get_or chosen.scene.shape.vars x held.Unset ≡ held.Dead
      → (get_or s.vars x held.Unset ≡ held.Dead) × (is_among (written i) x ≡ false)
  pub kinds : All (IsObjectSpot code) (map spot_in chosen.scene.shape.slots)
  pub shows : Shows names v chosen.freed chosen.scene o

pub instr_is : (code : Code) (pc : ℕ) (line : Line) (i : Instr) → slice_get code.instrs pc ≡ Some line → line.instr ≡ i
    → instr_at code pc ≡ i
instr_is code pc line i there same = ap instr_of there ∙ same

frees_so : (code : Code) (pc : ℕ) (i : Instr) (free : Option ℕ) (to : ℕ) → instr_at code pc ≡ i → maps i ≡ 1
    → FreesBy i pc free to → FreesSo code (point_of pc 0 0) free (leads_to to)
frees_so code pc i None to e one by = tt
frees_so code pc i (Some x) to e one by =
    (by.0 ∙ ap free_var (sym e), (omega arith) ∙ sym one ∙ ap maps (sym e), ap leads_to by.1)

pub set_by : (code : Code) (ks : List ℕ) (claim : Claim) (pc : ℕ) (m : Regs) (i : Instr) → instr_at code pc ≡ i
    → (runs : Runs code ks claim pc m) → ((x : ℕ) → IsAmong (all_reads i) x → IsRead (view_of code claim.origin m) x)
    → are_set (scene_of runs.shape) (all_reads i) ≡ true
set_by code ks claim pc m i e runs read =
    subst (λ j. are_set (scene_of runs.shape) (all_reads j) ≡ true) e
    (reads_set code ks claim (point_of pc 0 0) runs.shape runs.names runs.vector (view_of code claim.origin m)
    runs.stands
    (λ x there. read x (subst (λ j. IsAmong (all_reads j) x) e there)))

covered : (code : Code) (ks : List ℕ) (pc : ℕ) (i : Instr) (s : Shape) (v : Vector) (o : View) (to : ℕ)
    → instr_at code pc ≡ i → maps i ≡ 1 → are_set (scene_of s) (all_reads i) ≡ true → Shown code ks pc i s v o to
    → Covers code ks (point_of pc 0 0) s v o (leads_to to)
covered code ks pc i s v o to e one set shown = record {
  chosen = shown.chosen;
  names = shown.names;
  is_there = subst (λ j. IsAmong (cases j pc 0 0 (scene_of s)) shown.chosen) (sym e)
      (subst (λ b. IsAmong (cond b (part_cases i pc 0 0 (scene_of s)) []) shown.chosen) (sym set) shown.is_there);
  onward = shown.onward;
  frees = frees_so code pc i shown.chosen.freed to e one shown.frees;
  guard = shown.guard;
  width = shown.width;
  scene = shown.scene;
  deads = λ x d. let both = shown.deads x d in (
    both.0,
    subst (λ ys. is_among ys x ≡ false)
        (sym (ap (λ j. done_writes j 0) e ∙ ap (λ b. cond b (written i) []) (eq-eqb 1 (maps i) (sym one)))) both.1,
  );
  kinds = shown.kinds;
  shows = shown.shows;
}

pub steps_by : (code : Code) (ks : List ℕ) (claim : Claim) → Flow code ks claim → (i : Instr) → maps i ≡ 1
    → (pc : ℕ) (m r : Regs) (to : ℕ) → instr_at code pc ≡ i → (runs : Runs code ks claim pc m)
    → IsTyped claim.file code (view_of code claim.origin r) → IsAmong (following pc i) to
    → are_set (scene_of runs.shape) (all_reads i) ≡ true
    → Shown code ks pc i runs.shape runs.vector (view_of code claim.origin r) to → Runs code ks claim to r
steps_by code ks claim flow i one pc m r to e runs typed follows set shown =
    let lands = leads_on code ks claim flow (point_of pc 0 0) runs.shape runs.names runs.vector
    (view_of code claim.origin m)
    (view_of code claim.origin r)
    to
    runs.stands (covered code ks pc i runs.shape runs.vector (view_of code claim.origin r) to e one set shown)
    ((omega arith) ∙ sym one ∙ ap maps (sym e)) (subst (λ j. IsAmong (following pc j) to) (sym e) follows) in
    record { shape = lands.shape; names = lands.names; vector = lands.vector; typed = typed; stands = lands.stands }

-- ---- what is known of an instruction

pub sound_at : (code : Code) (ks : List ℕ) (claim : Claim) → IsCode code ks claim → (pc : ℕ) (line : Line) (i : Instr)
    → slice_get code.instrs pc ≡ Some line → line.instr ≡ i → is_sound_among claim.callees code i ≡ true
sound_at code ks claim is pc line i there same =
    subst (λ j. is_sound_among claim.callees code j ≡ true) same (is.well_formed.sound pc line there)

pub statics_named : (code : Code) (ks : List ℕ) (claim : Claim) → IsCode code ks claim → (pc : ℕ) (line : Line)
    (i : Instr)
    → slice_get code.instrs pc ≡ Some line → line.instr ≡ i → (a : Atom) → IsAmong (atoms_of i) a
    → All (IsAmong ks) (static_in a)
statics_named code ks claim is pc line i there same a at =
    all_among (IsAmong ks) (static_in a)
    (λ k here. is.statics pc line k there
    (among_each static_in (atoms_of line.instr) a k (subst (λ j. IsAmong (atoms_of j) a) (sym same) at) here))

pub no_guard : (v : Vector) → AreZero [] v
no_guard v = All-nil (λ f. dot f v ≡ pos 0)

pub not_written : (x y : ℕ) → y ≢ x → is_among (x ∷ []) y ≡ false
not_written x y ne = elim (eqb_tells x y) [
  | inl t ↦ absurd (ne (sym t.1))
  | inr t ↦ ap (λ b. b || false) t.0
]

pub in_vars : (code : Code) (x : Var) → is_var code.vars x ≡ true → x.0 < length code.vars
in_vars code x e = ltb-true x.0 (length code.vars) e

-- ---- a variable is written

pub record IsBase (code : Code) (ks : List ℕ) (s : Shape) (names : Naming) (v : Vector) (o : View) (b : Scene) : Type 0
  where
    pub width : b.width ≡ width_of s
    pub scene : IsScene ks (length code.vars) b
    pub deads : (x : ℕ) → holding_at b x ≡ held.Dead → get_or s.vars x held.Unset ≡ held.Dead
    pub kinds : All (IsObjectSpot code) (map spot_in b.shape.slots)
    pub shows : Shows names v None b o

pub own_base : (code : Code) (ks : List ℕ) (claim : Claim) (pc : ℕ) (m : Regs) → (runs : Runs code ks claim pc m)
    → IsBase code ks runs.shape runs.names runs.vector (view_of code claim.origin m) (scene_of runs.shape)
own_base code ks claim pc m runs = record {
  width = refl;
  scene = runs.stands.scene;
  deads = λ x d. d;
  kinds = runs.stands.kinds;
  shows = runs.stands.shows;
}

abbrev pub put_case : List Form → ℕ → Holding → Form → Scene → Option ℕ → ℕ → Case
put_case guard x h f b free to = record { guard = guard; scene = with_var x h f b; freed = free; onward = leads_to to }

pub puts : (code : Code) (ks : List ℕ) (origin : Origin) (pc : ℕ) (m : Regs) (i : Instr) (s : Shape) (v : Vector)
    (x : Var) (h : Holding)
    (f : Form) (c : Content) (free : Option ℕ) (to : ℕ) (guard : List Form) (names : Naming) (b : Scene)
    → IsBase code ks s names v (view_of code origin m) b → length m.vars ≡ length code.vars → written i ≡ x.0 ∷ []
    → x.0 < length code.vars → IsAmong (part_cases i pc 0 0 (scene_of s)) (put_case guard x.0 h f b free to)
    → FreesBy i pc free to → AreZero guard v → length f ≡ b.width → IsLiveIn b.balances h → h ≢ held.Dead
    → HoldsSo names h c → (is_number h ≡ true → IsOther free x.0 → c ≡ content.Holds (value.Int (dot f v)))
    → Shown code ks pc i s v (view_of code origin (put x c m)) to
puts code ks origin pc m i s v x h f c free to guard names b base count writes lt there frees met wide live alive holds
    number = record {
      chosen = put_case guard x.0 h f b free to;
      names = names;
      is_there = there;
      onward = refl;
      frees = frees;
      guard = met;
      width = base.width;
      scene = with_var_scene ks (length code.vars) x.0 h f b base.scene wide live;
      deads = λ y d.
          let both = with_var_dead b x.0 h f y alive (let e = base.scene.vars in omega (arith, lt, e)) d in
          (base.deads y both.0, subst (λ ys. is_among ys y ≡ false) (sym writes) (not_written x.0 y both.1));
      kinds = base.kinds;
      shows = with_var_shows ks (length code.vars) names v free b (view_of code origin m)
          x.0 h f c base.scene base.shows
          count lt
          holds number;
    }

-- ---- copies, and what only moves on

pub steps_set : (code : Code) (ks : List ℕ) (claim : Claim) → IsCode code ks claim → Flow code ks claim → (x : Var)
    (a : Atom)
    → Steps code ks claim (Set x a)
steps_set code ks claim is flow x a choices p next pc line m w v q used there same runs e =
    let i = Set x a in
    let n = length code.vars in
    let s = runs.shape in
    let read = value_read (content_of a m.vars) p (λ u. next (pc + 1) (put x (content.Holds u) m)) w v q used e in
    let c = content.Holds read.0 in
    let at = instr_is code pc line i there same in
    let sound = both_true (is_var code.vars x) (atom_is code.vars (var_kind code.vars x) a)
    (sound_at code ks claim is pc line i there same) in
    let lt = in_vars code x sound.0 in
    let named = statics_named code ks claim is pc line i there same a (first_among a []) in
    let set = set_by code ks claim pc m i at runs (atom_read (view_of code claim.origin m) a (read.0, read.1)) in
    let scene = runs.stands.scene in
    let typed = put_typed claim.file code (view_of code claim.origin m) x.0 c runs.typed lt
    (atom_suits code ks n runs.names runs.vector None (scene_of s) (view_of code claim.origin m) runs.typed.vars scene
    runs.stands.shows a
    (var_kind code.vars x) read.0 named sound.1 read.1) in
    let shown = puts code ks claim.origin pc m i s runs.vector x (holding_of (scene_of s) a) (form_of (scene_of s) a) c
    None (pc + 1)
    []
    runs.names (scene_of s) (own_base code ks claim pc m runs) runs.typed.count refl lt
    (first_among (put_case [] x.0 (holding_of (scene_of s) a) (form_of (scene_of s) a) (scene_of s) None (pc + 1)) [])
    tt (no_guard runs.vector) (atom_width ks n (scene_of s) a scene) (atom_live ks n (scene_of s) a scene)
    (atom_set ks n (scene_of s) a scene set)
    (subst (HoldsSo runs.names (holding_of (scene_of s) a)) read.1
    (atom_holds ks n runs.names runs.vector (scene_of s) (view_of code claim.origin m) a scene runs.stands.shows named))
    (λ num other. sym read.1
    ∙ atom_number ks n runs.names runs.vector (scene_of s) (view_of code claim.origin m) a scene runs.stands.shows
    num) in
    record {
      pc = pc + 1;
      regs = put x c m;
      runs = steps_by code ks claim flow i refl pc m (put x c m) (pc + 1) at runs typed (first_among (pc + 1) []) set
          shown;
      ends = read.2;
    }

pub steps_unset : (code : Code) (ks : List ℕ) (claim : Claim) → IsCode code ks claim → Flow code ks claim → (x : Var)
    → Steps code ks claim (Unset x)
steps_unset code ks claim is flow x choices p next pc line m w v q used there same runs e =
    let i = Unset x in
    let s = runs.shape in
    let w0 = zero_form (width_of s) in
    let at = instr_is code pc line i there same in
    let lt = in_vars code x (sound_at code ks claim is pc line i there same) in
    let typed = put_typed claim.file code (view_of code claim.origin m) x.0 content.Unset runs.typed lt tt in
    let shown = puts code ks claim.origin pc m i s runs.vector x held.Unset w0 content.Unset None (pc + 1) [] runs.names
    (scene_of s)
    (own_base code ks claim pc m runs) runs.typed.count refl lt
    (first_among (put_case [] x.0 held.Unset w0 (scene_of s) None (pc + 1)) []) tt (no_guard runs.vector)
    (length_zero (width_of s)) tt (λ d. cc) refl (λ num other. absurd (false≢true num)) in
    record {
      pc = pc + 1;
      regs = put x content.Unset m;
      runs = steps_by code ks claim flow i refl pc m (put x content.Unset m) (pc + 1) at runs typed
          (first_among (pc + 1) []) refl shown;
      ends = e;
    }

-- a case that leaves all as it is
pub moves_only : (code : Code) (ks : List ℕ) (claim : Claim) (pc : ℕ) (m : Regs) (i : Instr) (to : ℕ)
    (guard : List Form)
    → (runs : Runs code ks claim pc m) → written i ≡ []
    → IsAmong (part_cases i pc 0 0 (scene_of runs.shape))
    (record { guard = guard; scene = scene_of runs.shape; freed = None; onward = leads_to to })
    → AreZero guard runs.vector → Shown code ks pc i runs.shape runs.vector (view_of code claim.origin m) to
moves_only code ks claim pc m i to guard runs writes there met = record {
  chosen = record { guard = guard; scene = scene_of runs.shape; freed = None; onward = leads_to to };
  names = runs.names;
  is_there = there;
  onward = refl;
  frees = tt;
  guard = met;
  width = refl;
  scene = runs.stands.scene;
  deads = λ x d. (d, ap (λ ys. is_among ys x) writes);
  kinds = runs.stands.kinds;
  shows = runs.stands.shows;
}

pub steps_jump : (code : Code) (ks : List ℕ) (claim : Claim) → IsCode code ks claim → Flow code ks claim → (to : Label)
    → Steps code ks claim (Jump to)
steps_jump code ks claim is flow to choices p next pc line m w v q used there same runs e =
    let i = Jump to in
    record {
      pc = to.0;
      regs = m;
      runs = steps_by code ks claim flow i refl pc m m to.0 (instr_is code pc line i there same) runs runs.typed
          (first_among to.0 []) refl
          (moves_only code ks claim pc m i to.0 [] runs refl (first_among (leads to.0 (scene_of runs.shape)) [])
          (no_guard runs.vector));
      ends = e;
    }

pub steps_fall : (code : Code) (ks : List ℕ) (claim : Claim) → Steps code ks claim Fall
steps_fall code ks claim choices p next pc line m w v q used there same runs e = absurd (cc)
