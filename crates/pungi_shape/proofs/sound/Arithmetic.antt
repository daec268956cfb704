-- Arithmetic and conversions.
--   IsConstant o i          a number that is known, if one is, is this
--   IsValue w v f n         a form over w coordinates is this number at a vector
--   IsNumberAt              an atom is read as this number, and the scene shows it
--   IsResult                arithmetic on what two atoms are read as has this result
use Rattle.std.proofs.Common.{◌≡◌, ◌≢◌, ℕ, ◌+◌, ◌-◌, ◌^◌, ◌<◌, Bool, true, false, cond, ◌&&◌, not, List, [], ◌∷◌, ◌++◌}
use Rattle.std.proofs.Common.{length, inl, inr, refl, sym, ap, ◌∙◌, subst, Option, Some, None, ℤ, pos, negsuc, ◌+ℤ◌}
use Rattle.std.proofs.Common.{◌-ℤ◌, ◌*ℤ◌}
use Rattle.std.specs.Prelude.{is_none}
use Rattle.std.specs.List.{All, IsAmong}
use Rattle.std.proofs.lemmas.Bool.{false≢true}
use Rattle.std.proofs.lemmas.List.Folds.{list_all-append}
use Rattle.pungi_base.specs.declared.pos.Pos.{Pos}
use Rattle.pungi_base.specs.declared.value.Value.{Value}
use Rattle.pungi_base.specs.declared.value.Value.TheVariants as value
use Rattle.pungi_api.specs.declared.param.Param.{Param}
use Rattle.pungi_api.specs.declared.param.Param.TheVariants as param
use Rattle.pungi_types.specs.declared.kind.ValueKind.{ValueKind}
use Rattle.pungi_types.specs.declared.kind.ValueKind.TheVariants as kinds
use Rattle.pungi_domain.specs.Ring.{mul_comm}
use Rattle.pungi_domain.specs.Vectors.{Vector, dot}
use Rattle.pungi_world.specs.declared.content.Content.TheVariants as content
use Rattle.pungi_world.specs.declared.world.World.{World}
use Rattle.pungi_world.specs.Choices.{is_between}
use Rattle.pungi_meaning.specs.declared.op.Op.{Op}
use Rattle.pungi_meaning.specs.declared.op.Op.TheVariants.{Add, Sub, Mul, Div, Rem}
use Rattle.pungi_meaning.specs.Run.{Run, Returned, Stopped, end_at_once, with_operations}
use Rattle.pungi_meaning.specs.Todo.{Computed, Fitted}
use Rattle.pungi_meaning.specs.Values.{arithmetic, fits, number_of}
use Rattle.pungi_code.specs.declared.atom.Atom.{Atom}
use Rattle.pungi_code.specs.declared.atom.Atom.TheVariants as atom
use Rattle.pungi_code.specs.declared.atom.Var.{Var}
use Rattle.pungi_code.specs.declared.code.Code.{Code}
use Rattle.pungi_code.specs.declared.instr.Instr.{Instr}
use Rattle.pungi_code.specs.declared.instr.Instr.TheVariants.{Arith, Fit}
use Rattle.pungi_code.specs.Perform.{with_number}
use Rattle.pungi_code.specs.Registers.{Regs, put, content_of, with_value}
use Rattle.pungi_code.specs.WellFormed.{var_kind, is_var, is_integer, is_number as is_number_atom, counts_in, is_wide}
use Rattle.pungi_shape.specs.declared.holding.Holding.{Holding}
use Rattle.pungi_shape.specs.declared.holding.Holding.TheVariants as held
use Rattle.pungi_shape.specs.Forms.{Form, zero_form, plus, minus, times}
use Rattle.pungi_shape.specs.Shapes.{is_number}
use Rattle.pungi_shape.specs.Named.{static_in}
use Rattle.pungi_shape.specs.Parts.{vars_in, all_reads}
use Rattle.pungi_shape.specs.Scenes.{Scene, scene_of, holding_of, form_of}
use Rattle.pungi_shape.specs.Liveness.{instr_at}
use Rattle.pungi_shape.specs.Cases.{is_set, are_set}
use Rattle.pungi_shape.specs.Numbers.{constant_of, known_of, known_by, if_small, small_constant, product, linear}
use Rattle.pungi_shape.specs.Numbers.{stays_out, holding_or_number, result_holding, arithmetic_as, does_not_fit}
use Rattle.pungi_shape.specs.Described.{Naming, HoldsSo}
use Rattle.pungi_shape.proofs.sound.Views.{View, view_of, suits}
use Rattle.pungi_shape.proofs.sound.Shows.{IsScene, Shows, IsLiveIn}
use Rattle.pungi_shape.proofs.sound.FormValues.{length_zero, length_plus, length_minus, length_times, dot_plus}
use Rattle.pungi_shape.proofs.sound.FormValues.{dot_minus, dot_times}
use Rattle.pungi_shape.proofs.sound.Flow.{Claim, Flow, IsCode}
use Rattle.pungi_shape.proofs.sound.Stands.{Runs, Steps}
use Rattle.pungi_shape.proofs.sound.SceneVars.{atom_holds, atom_number, atom_width, atom_live, number_holds}
use Rattle.pungi_shape.proofs.sound.Kinds.{AreSuited, atom_suits, put_typed}
use Rattle.pungi_shape.proofs.sound.Atoms.{atom_set}
use Rattle.pungi_shape.proofs.sound.Simple.{IsReadAtom, atom_read, value_read}
use Rattle.pungi_shape.proofs.sound.Simple.{instr_is, set_by, sound_at, statics_named, no_guard, in_vars, Shown}
use Rattle.pungi_shape.proofs.sound.Simple.{own_base, put_case, puts, steps_by}
use Rattle.pungi_shape.proofs.sound.Members.{first_among, later_among, among_append}
use Rattle.pungi_shape.proofs.sound.Tests.{both_true}

-- ---- numbers

abbrev pub IsConstant : Option ℤ → ℤ → Type 0
IsConstant o i = (m : ℤ) → o ≡ Some m → i ≡ m

some_is : {X : Type 0} (x y : X) → Some x ≡ Some y → x ≡ y
some_is x y e = cc

none_is_not : {X : Type 0} (x : X) → None ≡ Some x → ⊥
none_is_not x e = cc

pub number_value : (n : ℕ) (u : Value) → suits n param.Long u ≡ true → u ≡ value.Int (number_of u)
number_value n (value.Int i) e = refl
number_value n value.Null e = absurd (false≢true e)
number_value n value.Text e = absurd (false≢true e)
number_value n (value.Object o) e = absurd (false≢true e)

-- a number is held as one
pub number_held : (names : Naming) (h : Holding) (i : ℤ) → h ≢ held.Dead → HoldsSo names h (content.Holds (value.Int i))
    → is_number h ≡ true
number_held names held.Dead i alive e = absurd (alive refl)
number_held names held.Unset i alive e = absurd (cc)
number_held names held.Null i alive e = absurd (cc)
number_held names held.Text i alive e = absurd (cc)
number_held names (held.Known n) i alive e = refl
number_held names held.Number i alive e = refl
number_held names (held.Token t) i alive e = absurd (cc)

pub known_is : (names : Naming) (h : Holding) (i : ℤ) → HoldsSo names h (content.Holds (value.Int i))
    → IsConstant (known_of h) i
known_is names held.Dead i holds m e = absurd (none_is_not m e)
known_is names held.Unset i holds m e = absurd (none_is_not m e)
known_is names held.Null i holds m e = absurd (none_is_not m e)
known_is names held.Text i holds m e = absurd (none_is_not m e)
known_is names (held.Known n) i holds m e = cc
known_is names held.Number i holds m e = absurd (none_is_not m e)
known_is names (held.Token t) i holds m e = absurd (none_is_not m e)

pub constant_is : (o : View) (a : Atom) (i : ℤ) → content_of a o.vars ≡ content.Holds (value.Int i)
    → IsConstant (constant_of a) i
constant_is o (atom.Var x) i read m e = absurd (none_is_not m e)
constant_is o (atom.Int n) i read m e = cc
constant_is o atom.Null i read m e = absurd (none_is_not m e)
constant_is o atom.Text i read m e = absurd (none_is_not m e)
constant_is o (atom.Static k) i read m e = absurd (none_is_not m e)

small_is : (b : Bool) (n m : ℤ) → cond b (Some n) None ≡ Some m → n ≡ m
small_is true n m e = cc
small_is false n m e = absurd (none_is_not m e)

small_constant_is : (o : Option ℤ) (i : ℤ) → IsConstant o i → IsConstant (if_small o) i
small_constant_is None i is m e = absurd (none_is_not m e)
small_constant_is (Some n) i is m e = is n refl ∙ small_is (is_between (negsuc (2 ^ 20 - 1)) (pos (2 ^ 20)) n) n m e

-- ---- results

in_range_is : (b : Bool) (r n : ℤ) → cond b (Some r) None ≡ Some n → r ≡ n
in_range_is true r n e = cc
in_range_is false r n e = absurd (none_is_not n e)

result_holds : (names : Naming) (o : Op) (kind : ValueKind) (p q : Option ℤ) (i j n : ℤ) → IsConstant p i
    → IsConstant q j
    → arithmetic o kind i j ≡ Some n → HoldsSo names (result_holding o kind p q) (content.Holds (value.Int n))
result_holds names o kind None q i j n is js e = (n, refl)
result_holds names o kind (Some p) None i j n is js e = (n, refl)
result_holds names o kind (Some p) (Some q) i j n is js e =
    subst (λ r. HoldsSo names (holding_or_number r) (content.Holds (value.Int n)))
    (sym e ∙ ap (λ z. arithmetic o kind z j) (is p refl) ∙ ap (λ z. arithmetic o kind p z) (js q refl))
    (number_holds names n)

number_alive : (b : Bool) (n : ℤ) → cond b (held.Known n) held.Number ≢ held.Dead
number_alive true n e = cc
number_alive false n e = cc

known_live : (b : Bool) (n : ℤ) (bs : List (Option Form)) → IsLiveIn bs (cond b (held.Known n) held.Number)
known_live true n bs = tt
known_live false n bs = tt

option_live : (r : Option ℤ) (bs : List (Option Form)) → IsLiveIn bs (holding_or_number r)
option_live None bs = tt
option_live (Some n) bs = known_live (is_between (negsuc 0) (pos 1) n) n bs

option_alive : (r : Option ℤ) → holding_or_number r ≢ held.Dead
option_alive None e = cc
option_alive (Some n) e = number_alive (is_between (negsuc 0) (pos 1) n) n e

result_live : (o : Op) (kind : ValueKind) (p q : Option ℤ) (bs : List (Option Form))
    → IsLiveIn bs (result_holding o kind p q)
result_live o kind None q bs = tt
result_live o kind (Some p) None bs = tt
result_live o kind (Some p) (Some q) bs = option_live (arithmetic o kind p q) bs

result_alive : (o : Op) (kind : ValueKind) (p q : Option ℤ) → result_holding o kind p q ≢ held.Dead
result_alive o kind None q e = cc
result_alive o kind (Some p) None e = cc
result_alive o kind (Some p) (Some q) e = option_alive (arithmetic o kind p q) e

stays_in : (o : Op) (kind : ValueKind) (p q : Option ℤ) (i j n : ℤ) → IsConstant p i → IsConstant q j
    → arithmetic o kind i j ≡ Some n → stays_out o kind p q ≡ false
stays_in o kind None q i j n is js e = refl
stays_in o kind (Some p) None i j n is js e = refl
stays_in o kind (Some p) (Some q) i j n is js e =
    ap is_none (ap (λ z. arithmetic o kind p z) (sym (js q refl)) ∙ ap (λ z. arithmetic o kind z j) (sym (is p refl)) ∙
    e)

-- ---- linear results

abbrev pub IsValue : ℕ → Vector → Form → ℤ → Type 0
IsValue w v f n = (length f ≡ w) × (dot f v ≡ n)

product_value : (p q : Option ℤ) (f g h : Form) (w : ℕ) (v : Vector) (i j : ℤ) → product p q f g ≡ Some h
    → IsValue w v f i → IsValue w v g j → IsConstant p i → IsConstant q j → IsValue w v h (i *ℤ j)
product_value (Some m) q f g h w v i j e fi gj is js =
    subst (λ k. IsValue w v k (i *ℤ j)) (some_is (times m g) h e) (
      length_times m g ∙ gj.0,
      dot_times m g v ∙ ap (λ z. z *ℤ dot g v) (sym (is m refl)) ∙ ap (λ z. i *ℤ z) gj.1,
    )
product_value None (Some m) f g h w v i j e fi gj is js =
    subst (λ k. IsValue w v k (i *ℤ j)) (some_is (times m f) h e) (
      length_times m f ∙ fi.0,
      dot_times m f v ∙ ap (λ z. z *ℤ dot f v) (sym (js m refl)) ∙ ap (λ z. j *ℤ z) fi.1 ∙ mul_comm j i,
    )
product_value None None f g h w v i j e fi gj is js = absurd (none_is_not h e)

linear_value : (o : Op) (kind : ValueKind) (s : Scene) (a b : Atom) (w : ℕ) (v : Vector) (i j n : ℤ) (h : Form)
    → linear o s a b ≡ Some h → IsValue w v (form_of s a) i → IsValue w v (form_of s b) j → IsConstant (constant_of a) i
    → IsConstant (constant_of b) j → arithmetic o kind i j ≡ Some n → IsValue w v h n
linear_value Add kind s a b w v i j n h e fi gj is js r =
    let f = form_of s a in
    let g = form_of s b in
    let same = fi.0 ∙ sym gj.0 in
    let result = in_range_is (fits kind (i +ℤ j)) (i +ℤ j) n r in
    subst (λ k. IsValue w v k n) (some_is (plus f g) h e) (
      length_plus f g same ∙ fi.0,
      dot_plus f g v same ∙ ap (λ z. z +ℤ dot g v) fi.1 ∙ ap (λ z. i +ℤ z) gj.1 ∙ result,
    )
linear_value Sub kind s a b w v i j n h e fi gj is js r =
    let f = form_of s a in
    let g = form_of s b in
    let same = fi.0 ∙ sym gj.0 in
    let result = in_range_is (fits kind (i -ℤ j)) (i -ℤ j) n r in
    subst (λ k. IsValue w v k n) (some_is (minus f g) h e) (
      length_minus f g same ∙ fi.0,
      dot_minus f g v same ∙ ap (λ z. z -ℤ dot g v) fi.1 ∙ ap (λ z. i -ℤ z) gj.1 ∙ result,
    )
linear_value Mul kind s a b w v i j n h e fi gj is js r =
    let f = form_of s a in
    let g = form_of s b in
    subst (IsValue w v h) (in_range_is (fits kind (i *ℤ j)) (i *ℤ j) n r)
    (product_value (small_constant a) (small_constant b) f g h w v i j e fi gj
    (small_constant_is (constant_of a) i is) (small_constant_is (constant_of b) j js))
linear_value Div kind s a b w v i j n h e fi gj is js r = absurd (none_is_not h e)
linear_value Rem kind s a b w v i j n h e fi gj is js r = absurd (none_is_not h e)

-- ---- runs

number_read : (o : Option ℤ) (p : Pos) (go : ℤ → Run) (w : World) (v : Option Value) (q : Pos) (used : List Pos)
    → (with_number p o go).end ≡ Returned w v q used → (n : ℤ) × (o ≡ Some n) × ((go n).end ≡ Returned w v q used)
number_read None p go w v q used e = absurd (cc)
number_read (Some n) p go w v q used e = (n, refl, e)

counts_integer : (v : ValueKind) (k : Param) → counts_in v k ≡ true → is_integer k ≡ true
counts_integer kinds.Int param.Int e = refl
counts_integer kinds.Int param.Long e = refl
counts_integer kinds.Int param.Size e = refl
counts_integer kinds.Int k e = absurd (false≢true e)
counts_integer kinds.Long k e = (both_true (is_integer k) (not (is_wide k param.Int)) e).0
counts_integer kinds.Size k e = (both_true (is_integer k) (not (is_wide k param.Int)) e).0
counts_integer v k e = absurd (false≢true e)

-- the number of an atom that is read as one
pub record IsNumberAt (s : Scene) (names : Naming) (v : Vector) (o : View) (a : Atom) (i : ℤ) : Type 0 where
  pub read : content_of a o.vars ≡ content.Holds (value.Int i)
  pub holds : HoldsSo names (holding_of s a) (content.Holds (value.Int i))
  pub alive : holding_of s a ≢ held.Dead
  pub number : is_number (holding_of s a) ≡ true
  pub value : IsValue s.width v (form_of s a) i

pub number_at : (code : Code) (ks : List ℕ) (names : Naming) (v : Vector) (s : Scene) (o : View) (a : Atom) (u : Value)
    → AreSuited code o → IsScene ks (length code.vars) s → Shows names v None s o → All (IsAmong ks) (static_in a)
    → are_set s (vars_in a) ≡ true → is_number_atom code.vars a ≡ true → content_of a o.vars ≡ content.Holds u
    → IsNumberAt s names v o a (number_of u)
number_at code ks names v s o a u suited is shows named set fit e =
    let n = length code.vars in
    let i = number_of u in
    let same = number_value (length o.world.accounts) u
    (atom_suits code ks n names v None s o suited is shows a param.Long u named fit e) in
    let read = e ∙ ap content.Holds same in
    let holds = subst (HoldsSo names (holding_of s a)) read (atom_holds ks n names v s o a is shows named) in
    let alive = atom_set ks n s a is set in
    let number = number_held names (holding_of s a) i alive holds in
    let shown = atom_number ks n names v s o a is shows number in
    let same_number : dot (form_of s a) v ≡ i = int_of (dot (form_of s a) v) i (sym shown ∙ read) in
    record {
      read = read;
      holds = holds;
      alive = alive;
      number = number;
      value = (atom_width ks n s a is, same_number);
    }
  where
    int_of : (x y : ℤ) → content.Holds (value.Int x) ≡ content.Holds (value.Int y) → x ≡ y
    int_of x y e = cc

-- what is known of both operands and of the result
record IsResult (s : Scene) (names : Naming) (v : Vector) (o : View) (op : Op) (kind : ValueKind) (a b : Atom) (n : ℤ)
    : Type 0 where
  left : ℤ
  right : ℤ
  left_at : IsNumberAt s names v o a left
  right_at : IsNumberAt s names v o b right
  result : arithmetic op kind left right ≡ Some n

arith_shown : (code : Code) (ks : List ℕ) (claim : Claim) (pc : ℕ) (m : Regs) (x : Var) (kind : ValueKind) (op : Op)
    (a b : Atom) (n : ℤ) (g : Option Form) → (runs : Runs code ks claim pc m)
    → IsResult (scene_of runs.shape) runs.names runs.vector (view_of code claim.origin m) op kind a b n
    → x.0 < length code.vars
    → linear op (scene_of runs.shape) a b ≡ g
    → Shown code ks pc (Arith x kind op a b) runs.shape runs.vector
    (view_of code claim.origin (put x (content.Holds (value.Int n))
    m))
    (pc + 1)
arith_shown code ks claim pc m x kind op a b n None runs is lt e =
    let s = scene_of runs.shape in
    let p = known_by s a in
    let q = known_by s b in
    let h = result_holding op kind p q in
    let out = stays_out op kind (constant_of a) (constant_of b) in
    let c = put_case [] x.0 h (zero_form s.width) s (Some x.0) (pc + 1) in
    puts code ks claim.origin pc m (Arith x kind op a b) runs.shape runs.vector x h (zero_form s.width)
    (content.Holds (value.Int n))
    (Some x.0) (pc + 1) [] runs.names s (own_base code ks claim pc m runs) runs.typed.count refl lt
    (subst (λ r. IsAmong (arithmetic_as r h out x.0 (pc + 1) s) c) (sym e) (first_among c []))
    (refl, refl) (no_guard runs.vector) (length_zero s.width) (result_live op kind p q s.balances)
    (result_alive op kind p q)
    (result_holds runs.names op kind p q is.left is.right n
    (known_is runs.names (holding_of s a) is.left is.left_at.holds)
    (known_is runs.names (holding_of s b) is.right is.right_at.holds) is.result)
    (λ num other. absurd (other refl))
arith_shown code ks claim pc m x kind op a b n (Some f) runs is lt e =
    let s = scene_of runs.shape in
    let p = known_by s a in
    let q = known_by s b in
    let h = result_holding op kind p q in
    let c = put_case [] x.0 h f s None (pc + 1) in
    let left = constant_is (view_of code claim.origin m) a is.left is.left_at.read in
    let right = constant_is (view_of code claim.origin m) b is.right is.right_at.read in
    let worth = linear_value op kind s a b s.width runs.vector is.left is.right n f e is.left_at.value is.right_at.value
    left
    right is.result in
    puts code ks claim.origin pc m (Arith x kind op a b) runs.shape runs.vector x h f (content.Holds (value.Int n))
    None (pc + 1) [] runs.names s (own_base code ks claim pc m runs) runs.typed.count refl lt
    (subst (λ r. IsAmong (arithmetic_as r h (stays_out op kind (constant_of a) (constant_of b)) x.0 (pc + 1) s) c)
    (sym e)
    (subst (λ out. IsAmong (arithmetic_as (Some f) h out x.0 (pc + 1) s) c)
    (sym (stays_in op kind (constant_of a) (constant_of b) is.left is.right n left right is.result))
    (first_among c [])))
    tt (no_guard runs.vector) worth.0 (result_live op kind p q s.balances) (result_alive op kind p q)
    (result_holds runs.names op kind p q is.left is.right n
    (known_is runs.names (holding_of s a) is.left is.left_at.holds)
    (known_is runs.names (holding_of s b) is.right is.right_at.holds) is.result)
    (λ num other. ap (λ z. content.Holds (value.Int z)) (sym worth.1))

-- two atoms that are read
pub set_both : (code : Code) (ks : List ℕ) (claim : Claim) (pc : ℕ) (m : Regs) (i : Instr) (a b : Atom)
    → instr_at code pc ≡ i → all_reads i ≡ vars_in a ++ vars_in b → (runs : Runs code ks claim pc m)
    → IsReadAtom (view_of code claim.origin m) a → IsReadAtom (view_of code claim.origin m) b
    → (are_set (scene_of runs.shape) (all_reads i) ≡ true) × (are_set (scene_of runs.shape) (vars_in a) ≡ true)
    × (are_set (scene_of runs.shape) (vars_in b) ≡ true)
set_both code ks claim pc m i a b at reads runs left right =
    let s = scene_of runs.shape in
    let all = set_by code ks claim pc m i at runs
    (λ x there. elim (among_append (vars_in a) (vars_in b) x (subst (λ rs. IsAmong rs x) reads there)) [
      | inl t ↦ atom_read (view_of code claim.origin m) a left x t
      | inr t ↦ atom_read (view_of code claim.origin m) b right x t
    ]) in
    let parts = both_true (are_set s (vars_in a)) (are_set s (vars_in b))
    (sym (list_all-append (is_set s) (vars_in a) (vars_in b)) ∙ subst (λ rs. are_set s rs ≡ true) reads all) in
    (all, parts.0, parts.1)

pub steps_arith : (code : Code) (ks : List ℕ) (claim : Claim) → IsCode code ks claim → Flow code ks claim → (x : Var)
    (kind : ValueKind) (op : Op) (a b : Atom) → Steps code ks claim (Arith x kind op a b)
steps_arith code ks claim is flow x kind op a b choices p next pc line m w v q used there same runs e =
    let i = Arith x kind op a b in
    let o = view_of code claim.origin m in
    let s = scene_of runs.shape in
    let left = value_read (content_of a m.vars) p (λ y. with_value (content_of b m.vars) p
    (λ z. with_number p (arithmetic op kind (number_of y) (number_of z)) (λ n. with_operations
    (Computed p op kind y z ∷ []) (next (pc
    + 1) (put x (content.Holds (value.Int n)) m))))) w v q used e in
    let y = left.0 in
    let right = value_read (content_of b m.vars) p
    (λ z. with_number p (arithmetic op kind (number_of y) (number_of z)) (λ n. with_operations
    (Computed p op kind y z ∷ []) (next (pc
    + 1) (put x (content.Holds (value.Int n)) m)))) w v q used left.2 in
    let z = right.0 in
    let done = number_read (arithmetic op kind (number_of y) (number_of z)) p (λ n. with_operations
    (Computed p op kind y z ∷ []) (next (pc
    + 1) (put x (content.Holds (value.Int n)) m))) w v q used right.2 in
    let n = done.0 in
    let c = content.Holds (value.Int n) in
    let at = instr_is code pc line i there same in
    let k = var_kind code.vars x in
    let sound = both_true (is_var code.vars x)
    (counts_in kind k && (is_number_atom code.vars a && is_number_atom code.vars b))
    (sound_at code ks claim is pc line i there same) in
    let counts = both_true (counts_in kind k) (is_number_atom code.vars a && is_number_atom code.vars b) sound.1 in
    let kinds_of = both_true (is_number_atom code.vars a) (is_number_atom code.vars b) counts.1 in
    let lt = in_vars code x sound.0 in
    let set = set_both code ks claim pc m i a b at refl runs (y, left.1) (z, right.1) in
    let named_a = statics_named code ks claim is pc line i there same a (first_among a (b ∷ [])) in
    let named_b = statics_named code ks claim is pc line i there same b (later_among a (b ∷ []) b (first_among b [])) in
    let typed = put_typed claim.file code o x.0 c runs.typed lt (counts_integer kind k counts.0) in
    let shown = arith_shown code ks claim pc m x kind op a b n (linear op s a b) runs (record {
      left = number_of y;
      right = number_of z;
      left_at = number_at code ks runs.names runs.vector s o a y runs.typed.vars runs.stands.scene runs.stands.shows
          named_a
          set.1 kinds_of.0 left.1;
      right_at = number_at code ks runs.names runs.vector s o b z runs.typed.vars runs.stands.scene runs.stands.shows
          named_b
          set.2 kinds_of.1 right.1;
      result = done.1;
    }) lt refl in
    record {
      pc = pc + 1;
      regs = put x c m;
      runs = steps_by code ks claim flow i refl pc m (put x c m) (pc + 1) at runs typed (first_among (pc + 1) []) set.0
          shown;
      ends = done.2;
    }

-- ---- conversions

fits_read : (b : Bool) (p : Pos) (r : Run) (w : World) (v : Option Value) (q : Pos) (used : List Pos)
    → (cond b r (end_at_once (Stopped p))).end ≡ Returned w v q used → (b ≡ true) × (r.end ≡ Returned w v q used)
fits_read true p r w v q used e = (refl, e)
fits_read false p r w v q used e = absurd (cc)

fits_so : (kind : ValueKind) (o : Option ℤ) (i : ℤ) → IsConstant o i → fits kind i ≡ true → does_not_fit kind o ≡ false
fits_so kind None i is e = refl
fits_so kind (Some n) i is e = ap (λ z. not (fits kind z)) (sym (is n refl)) ∙ ap not e

pub steps_fit : (code : Code) (ks : List ℕ) (claim : Claim) → IsCode code ks claim → Flow code ks claim → (x : Var)
    (kind : ValueKind) (a : Atom) → Steps code ks claim (Fit x kind a)
steps_fit code ks claim is flow x kind a choices p next pc line m w v q used there same runs e =
    let i = Fit x kind a in
    let o = view_of code claim.origin m in
    let s = scene_of runs.shape in
    let h = holding_of s a in
    let f = form_of s a in
    let after = λ (u : Value). with_operations (Fitted p kind u ∷ [])
    (next (pc + 1) (put x (content.Holds (value.Int (number_of u))) m)) in
    let read = value_read (content_of a m.vars) p
    (λ u. cond (fits kind (number_of u)) (after u) (end_at_once (Stopped p))) w v q used e in
    let u = read.0 in
    let n = number_of u in
    let done = fits_read (fits kind n) p (after u) w v q used read.2 in
    let c = content.Holds (value.Int n) in
    let at = instr_is code pc line i there same in
    let k = var_kind code.vars x in
    let sound = both_true (is_var code.vars x) (counts_in kind k && is_number_atom code.vars a)
    (sound_at code ks claim is pc line i there same) in
    let counts = both_true (counts_in kind k) (is_number_atom code.vars a) sound.1 in
    let lt = in_vars code x sound.0 in
    let set = set_by code ks claim pc m i at runs (atom_read o a (u, read.1)) in
    let named = statics_named code ks claim is pc line i there same a (first_among a []) in
    let typed = put_typed claim.file code o x.0 c runs.typed lt (counts_integer kind k counts.0) in
    let number = number_at code ks runs.names runs.vector s o a u runs.typed.vars runs.stands.scene runs.stands.shows
    named
    set
    counts.1 read.1 in
    let case = put_case [] x.0 h f s None (pc + 1) in
    let shown = puts code ks claim.origin pc m i runs.shape runs.vector x h f c None (pc + 1) [] runs.names s
    (own_base code ks claim pc m runs) runs.typed.count refl lt
    (subst (λ b. IsAmong (cond b [] (case ∷ [])) case)
    (sym (fits_so kind (constant_of a) n (constant_is o a n number.read) done.0)) (first_among case []))
    tt (no_guard runs.vector) number.value.0 (atom_live ks (length code.vars) s a runs.stands.scene) number.alive
    number.holds
    (λ num other. ap (λ z. content.Holds (value.Int z)) (sym number.value.1)) in
    record {
      pc = pc + 1;
      regs = put x c m;
      runs = steps_by code ks claim flow i refl pc m (put x c m) (pc + 1) at runs typed (first_among (pc + 1) []) set
          shown;
      ends = done.1;
    }
