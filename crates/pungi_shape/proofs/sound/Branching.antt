-- Conditions.
--   stays_as_is guard to s  the case that leads on so, where these forms are 0
--   Branches                some case of a branch leads on so, and leaves all as it is
use Rattle.std.proofs.Common.{◌≡◌, inl, inr, ℕ, Bool, true, false, cond, ◌&&◌, ◌||◌, not, List, [], ◌∷◌, map, refl, sym}
use Rattle.std.proofs.Common.{ap, ◌∙◌, subst, Option, Some, None, ℤ, pos}
use Rattle.std.specs.List.{All, IsAmong}
use Rattle.std.specs.Ordering.{int_cmp}
use Rattle.std.specs.declared.cmp.Ordering.{Ordering}
use Rattle.std.specs.declared.cmp.Ordering.TheVariants.{Less, Equal, Greater}
use Rattle.std.proofs.lemmas.Bool.{false≢true}
use Rattle.std.proofs.lemmas.List.Elements.{All-cons}
use Rattle.pungi_base.specs.declared.value.Value.{Value}
use Rattle.pungi_base.specs.declared.value.Value.TheVariants as value
use Rattle.pungi_api.specs.declared.param.Param.TheVariants as param
use Rattle.pungi_domain.specs.Vectors.{Vector, dot}
use Rattle.pungi_world.specs.declared.content.Content.TheVariants as content
use Rattle.pungi_meaning.specs.Values.{number_of, is_true}
use Rattle.pungi_code.specs.declared.atom.Atom.{Atom}
use Rattle.pungi_code.specs.declared.code.Code.{Code}
use Rattle.pungi_code.specs.declared.instr.Instr.TheVariants.{Branch}
use Rattle.pungi_code.specs.declared.instr.Label.{Label}
use Rattle.pungi_code.specs.Registers.{Regs, content_of}
use Rattle.pungi_code.specs.WellFormed.{is_label, is_condition, is_number as is_number_atom, atom_is}
use Rattle.pungi_shape.specs.declared.holding.Holding.{Holding}
use Rattle.pungi_shape.specs.declared.holding.Holding.TheVariants as held
use Rattle.pungi_shape.specs.Forms.{Form}
use Rattle.pungi_shape.specs.Shapes.{is_number}
use Rattle.pungi_shape.specs.Named.{static_in}
use Rattle.pungi_shape.specs.Parts.{vars_in}
use Rattle.pungi_shape.specs.Scenes.{Scene, scene_of, holding_of, form_of}
use Rattle.pungi_shape.specs.Cases.{Case, leads_to, leads, are_set}
use Rattle.pungi_shape.specs.Numbers.{value_by}
use Rattle.pungi_shape.specs.Comparisons.{orders, order_number, branch, order_branch, branch_on, branch_cases}
use Rattle.pungi_shape.specs.Described.{Naming}
use Rattle.pungi_shape.proofs.sound.Views.{View, view_of}
use Rattle.pungi_shape.proofs.sound.Flow.{Claim, Flow, IsCode, AreZero}
use Rattle.pungi_shape.proofs.sound.Stands.{Runs, Steps}
use Rattle.pungi_shape.proofs.sound.Simple.{atom_read, value_read, instr_is}
use Rattle.pungi_shape.proofs.sound.Simple.{set_by, sound_at, statics_named, no_guard, moves_only, steps_by}
use Rattle.pungi_shape.proofs.sound.Arithmetic.{IsConstant, IsNumberAt, number_at}
use Rattle.pungi_shape.proofs.sound.Orders.{ordered, orders_have, value_is, lt_not_eq, gt_not_eq}
use Rattle.pungi_shape.proofs.sound.Comparing.{IsPointer, null, text, token, IsPointerAt, pointer_at, either_so}
use Rattle.pungi_shape.proofs.sound.Members.{first_among, later_among, among_map}
use Rattle.pungi_shape.proofs.sound.Tests.{both_true}

abbrev stays_as_is : List Form → ℕ → Scene → Case
stays_as_is guard to s = record { guard = guard; scene = s; freed = None; onward = leads_to to }

record Branches (s : Scene) (v : Vector) (a : Atom) (this other to : ℕ) : Type 0 where
  guard : List Form
  met : AreZero guard v
  is_there : IsAmong (branch_cases a this other s) (stays_as_is guard to s)

number_branches : (h : Holding) (f : Form) (n : Option ℤ) (this other : ℕ) (s : Scene) → is_number h ≡ true
    → branch_on h f n this other s ≡ map (order_branch f this other s) (orders n (Some (pos 0)))
number_branches held.Dead f n this other s e = absurd (false≢true e)
number_branches held.Unset f n this other s e = absurd (false≢true e)
number_branches held.Null f n this other s e = absurd (false≢true e)
number_branches held.Text f n this other s e = absurd (false≢true e)
number_branches (held.Known i) f n this other s e = refl
number_branches held.Number f n this other s e = refl
number_branches (held.Token t) f n this other s e = absurd (false≢true e)

zero_is : IsConstant (Some (pos 0)) (pos 0)
zero_is m e = cc

true_so : (i : ℤ) (o : Ordering) → int_cmp i (pos 0) ≡ o → is_true (value.Int i) ≡ is_true (value.Int (order_number o))
true_so i Less e = ap not (lt_not_eq i (pos 0) (ordered i (pos 0) Less e))
true_so i Equal e = ap (λ z. is_true (value.Int z)) (ordered i (pos 0) Equal e)
true_so i Greater e = ap not (gt_not_eq (pos 0) i (ordered i (pos 0) Greater e))

order_branches : (s : Scene) (names : Naming) (v : Vector) (o : View) (a : Atom) (i : ℤ) (this other : ℕ) (r : Ordering)
    → IsNumberAt s names v o a i → int_cmp i (pos 0) ≡ r
    → IsAmong (branch_cases a this other s) (order_branch (form_of s a) this other s r)
    → Branches s v a this other (branch (is_true (value.Int (order_number r))) this other)
order_branches s names v o a i this other Less at e there = record { guard = []; met = no_guard v; is_there = there }
order_branches s names v o a i this other Equal at e there = record {
  guard = form_of s a ∷ [];
  met = All-cons (λ f. dot f v ≡ pos 0) (form_of s a) [] (at.value.1 ∙ ordered i (pos 0) Equal e) (no_guard v);
  is_there = there;
}
order_branches s names v o a i this other Greater at e there = record { guard = []; met = no_guard v; is_there = there }

numbers_branch : (s : Scene) (names : Naming) (v : Vector) (o : View) (a : Atom) (i : ℤ) (this other : ℕ)
    → IsNumberAt s names v o a i → Branches s v a this other (branch (is_true (value.Int i)) this other)
numbers_branch s names v o a i this other at =
    let r = int_cmp i (pos 0) in
    let f = form_of s a in
    let n = value_by s a in
    subst (λ b. Branches s v a this other (branch b this other)) (sym (true_so i r refl))
    (order_branches s names v o a i this other r at refl
    (subst (λ cs. IsAmong cs (order_branch f this other s r))
    (sym (number_branches (holding_of s a) f n this other s at.number))
    (among_map (order_branch f this other s) (orders n (Some (pos 0))) r
    (orders_have n (Some (pos 0)) i (pos 0) (value_is s names v o a i at) zero_is))))

pointer_branches : (s : Scene) (names : Naming) (v : Vector) (a : Atom) (h : Holding) (u : Value) (this other : ℕ)
    → IsPointer names h u
    → IsAmong (branch_on h (form_of s a) (value_by s a) this other s) (stays_as_is [] (branch (is_true u) this other) s)
pointer_branches s names v a h u this other null = first_among (leads other s) []
pointer_branches s names v a h u this other text = first_among (leads this s) []
pointer_branches s names v a h u this other (token t) = first_among (leads this s) []

pointers_branch : (s : Scene) (names : Naming) (v : Vector) (a : Atom) (u : Value) (this other : ℕ)
    → IsPointerAt s names a u → Branches s v a this other (branch (is_true u) this other)
pointers_branch s names v a u this other at = record {
  guard = [];
  met = no_guard v;
  is_there = pointer_branches s names v a (holding_of s a) u this other at.pointer;
}

goes_either : (b : Bool) (this other : ℕ) → IsAmong (this ∷ other ∷ []) (branch b this other)
goes_either true this other = first_among this (other ∷ [])
goes_either false this other = later_among this (other ∷ []) other (first_among other [])

branches : (code : Code) (ks : List ℕ) (claim : Claim) (pc : ℕ) (m : Regs) (a : Atom) (u : Value) (this other : ℕ)
    → (runs : Runs code ks claim pc m) → All (IsAmong ks) (static_in a)
    → are_set (scene_of runs.shape) (vars_in a) ≡ true
    → is_condition code.vars a ≡ true → content_of a m.vars ≡ content.Holds u
    → Branches (scene_of runs.shape) runs.vector a this other (branch (is_true u) this other)
branches code ks claim pc m a u this other runs named set fit e =
    let s = scene_of runs.shape in
    let o = view_of code claim.origin m in
    let objects = atom_is code.vars param.ObjectOrNull a in
    let texts = atom_is code.vars param.TextOrNull a in
    elim (either_so (is_number_atom code.vars a) (objects || texts) fit) [
      | inl t ↦
          let at = number_at code ks runs.names runs.vector s o a u runs.typed.vars runs.stands.scene
          runs.stands.shows named
          set
          t e in
          subst (λ z. Branches s runs.vector a this other (branch (is_true z) this other))
          (same_value (value.Int (number_of u)) u (sym at.read ∙ e))
          (numbers_branch s runs.names runs.vector o a (number_of u) this other at)
      | inr t ↦ elim (either_so objects texts t) [
        | inl r ↦ pointers_branch s runs.names runs.vector a u this other
            (pointer_at code ks runs.names runs.vector s o a param.ObjectOrNull u runs.typed.vars runs.stands.scene
            runs.stands.shows named set refl r e)
        | inr r ↦ pointers_branch s runs.names runs.vector a u this other
            (pointer_at code ks runs.names runs.vector s o a param.TextOrNull u runs.typed.vars runs.stands.scene
            runs.stands.shows named set refl r e)
      ]
    ]
  where
    same_value : (x y : Value) → content.Holds x ≡ content.Holds y → x ≡ y
    same_value x y h = cc

pub steps_branch : (code : Code) (ks : List ℕ) (claim : Claim) → IsCode code ks claim → Flow code ks claim → (a : Atom)
    (this other : Label) → Steps code ks claim (Branch a this other)
steps_branch code ks claim is flow a this other choices p next pc line m w v q used there same runs e =
    let i = Branch a this other in
    let s = scene_of runs.shape in
    let read = value_read (content_of a m.vars) p (λ u. next (cond (is_true u) this.0 other.0) m) w v q used e in
    let to = branch (is_true read.0) this.0 other.0 in
    let at = instr_is code pc line i there same in
    let sound = both_true (is_condition code.vars a) (is_label code this && is_label code other)
    (sound_at code ks claim is pc line i there same) in
    let set = set_by code ks claim pc m i at runs (atom_read (view_of code claim.origin m) a (read.0, read.1)) in
    let named = statics_named code ks claim is pc line i there same a (first_among a []) in
    let goes = branches code ks claim pc m a read.0 this.0 other.0 runs named set sound.0 read.1 in
    record {
      pc = to;
      regs = m;
      runs = steps_by code ks claim flow i refl pc m m to at runs runs.typed
          (goes_either (is_true read.0) this.0 other.0) set
          (moves_only code ks claim pc m i to goes.guard runs refl goes.is_there goes.met);
      ends = read.2;
    }
