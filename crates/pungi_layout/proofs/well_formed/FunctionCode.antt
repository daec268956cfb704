-- The code of a function whose parts are of the kinds that they need is well-formed.
use Rattle.std.proofs.Common.{◌≡◌, ◌∙◌, ℕ, zero, suc, ◌+◌, ◌*◌, ◌<◌, ◌≤◌, arith, Bool, true, false, List, [], ◌∷◌, ◌++◌}
use Rattle.std.proofs.Common.{length, length-append, append_assoc, map, get_or, Option, Some, None, refl, sym, ap}
use Rattle.std.proofs.Common.{subst}
use Rattle.std.specs.Prelude.{◌&&◌, ◌||◌, ◌==◌, nat_lt, nat_le, slice_get, is_some, is_none}
use Rattle.std.specs.List.{list_any, list_all}
use Rattle.std.proofs.lemmas.List.{get_or-append-add}
use Rattle.std.proofs.lemmas.Bool.Decides.{nat_tests}
use Rattle.pungi_base.specs.declared.pos.Pos.{Pos}
use Rattle.pungi_tree.specs.Syntax.{Item}
use Rattle.pungi_api.specs.declared.param.Param.{Param}
use Rattle.pungi_api.specs.declared.param.Param.TheVariants as param
use Rattle.pungi_types.specs.declared.kind.ValueKind.{ValueKind}
use Rattle.pungi_types.specs.Operators.{is_void}
use Rattle.pungi_resolved.specs.Functions.{ResolvedFunction}
use Rattle.pungi_meaning.specs.Run.{closing_brace}
use Rattle.pungi_code.specs.declared.code.Code.{Code}
use Rattle.pungi_code.specs.declared.code.Head.{Head}
use Rattle.pungi_code.specs.declared.code.Line.{Line}
use Rattle.pungi_code.specs.declared.instr.Instr.{Instr}
use Rattle.pungi_code.specs.declared.instr.Instr.TheVariants.{Jump, Branch, Return, Fall}
use Rattle.pungi_code.specs.declared.instr.Label.{Label}
use Rattle.pungi_code.specs.WellFormed.{CallKinds, atoms_of, is_there, leads_on, targets, is_head, goes_back}
use Rattle.pungi_layout.specs.declared.mark.Mark.{Mark}
use Rattle.pungi_layout.specs.code.Heads.{head_at, stmt_marks, loop_pos, label_pos, names, leads_back, back_pos}
use Rattle.pungi_layout.specs.code.Heads.{head_pos, found_head, heads_below, heads_of}
use Rattle.pungi_layout.specs.code.Sizes.{stmt_size}
use Rattle.pungi_layout.specs.code.Temporaries.{temp}
use Rattle.pungi_layout.specs.code.ExprCode.{line, at_label}
use Rattle.pungi_layout.specs.code.Scopes.{everywhere}
use Rattle.pungi_layout.specs.code.StmtCode.{stmt_code, end_code, body_code}
use Rattle.pungi_layout.specs.code.Sound.{stmt_nodes}
use Rattle.pungi_layout.specs.code.Levels.{stmt_levels}
use Rattle.pungi_layout.specs.kinds.Typed.{Known, IsHeld, IsStmtTyped}
use Rattle.pungi_layout.specs.kinds.Laws.{known, IsWellFormedIfTyped}
use Rattle.pungi_layout.specs.code.CallKinds.{held_kind, returned_kind}
use Rattle.pungi_layout.specs.code.FunctionCode.{code_of, HasLocals}
use Rattle.pungi_layout.specs.code.VarKinds.{kind_held, stmt_declared, temp_kinds, var_kinds}
use Rattle.pungi_layout.proofs.well_formed.Instructions.{column_kind, IsInstrFine, AreFine, fine_append, le_true}
use Rattle.pungi_layout.proofs.well_formed.Instructions.{or_true_left, or_true_right}
use Rattle.pungi_layout.proofs.well_formed.Both.{and_true}
use Rattle.pungi_layout.proofs.well_formed.Columns.{void_returned}
use Rattle.pungi_layout.proofs.well_formed.Stmts.{stmt_fine}
use Rattle.pungi_layout.proofs.well_formed.Variables.{var_slots}
use Rattle.pungi_layout.proofs.code.StmtLengths.{end-long, body-long}
use Rattle.pungi_layout.proofs.code.LevelLemmas.{stmt_few}
use Rattle.pungi_layout.proofs.code.VarLengths.{map_long, vars_long}

-- .. variables
-- the variables of a level stand after those of the levels below it
temp_in : (n d c : ℕ) → d < n → c ≤ 4 → get_or (temp_kinds n) (5 * d + c) param.ModuleDef ≡ column_kind c
temp_in zero d c h k = absurd (omega (arith, h))
temp_in (suc n) zero zero h k = refl
temp_in (suc n) zero (suc zero) h k = refl
temp_in (suc n) zero (suc (suc zero)) h k = refl
temp_in (suc n) zero (suc (suc (suc zero))) h k = refl
temp_in (suc n) zero (suc (suc (suc (suc zero)))) h k = refl
temp_in (suc n) zero (suc (suc (suc (suc (suc c))))) h k = absurd (omega (arith, k))
temp_in (suc n) (suc d) c h k =
    let e : 5 * suc d + c ≡ suc (suc (suc (suc (suc (5 * d + c))))) = omega arith in
    ap (λ (i : ℕ). get_or (temp_kinds (suc n)) i param.ModuleDef) e ∙ temp_in n d c (omega (arith, h)) k

-- what stands in front of the temporaries
front : ResolvedFunction → List Param
front f = map held_kind f.params ++ map kind_held (stmt_declared f.body)

front_long : (f : ResolvedFunction) → HasLocals f → length (front f) ≡ f.locals
unfolding front
front_long f h =
    let a = length-append (map held_kind f.params) (map kind_held (stmt_declared f.body)) in
    let b = map_long held_kind f.params in
    let c = map_long kind_held (stmt_declared f.body) in
    omega (arith, a, b, c, h)

vars_are : (f : ResolvedFunction) → var_kinds f ≡ front f ++ temp_kinds (stmt_levels f.body)
unfolding front
vars_are f =
    sym (append_assoc (map held_kind f.params) (map kind_held (stmt_declared f.body))
    (temp_kinds (stmt_levels f.body)))

temp_held : (f : ResolvedFunction) → HasLocals f → (d c : ℕ) → d < stmt_levels f.body → c ≤ 4
    → IsHeld (var_kinds f) (temp f.locals d c) (column_kind c)
temp_held f h d c lt le =
    let l = vars_long f h in
    let e : temp f.locals d c ≡ length (front f) + (5 * d + c) = let g = front_long f h in omega (arith, g) in
    let at : get_or (front f ++ temp_kinds (stmt_levels f.body)) (length (front f) + (5 * d + c)) param.ModuleDef
    ≡ column_kind c =
    get_or-append-add (front f) (temp_kinds (stmt_levels f.body)) (5 * d + c) param.ModuleDef
    ∙ temp_in (stmt_levels f.body) d c lt le in (
      omega (arith, l, lt, le),
      ap (λ (i : ℕ). get_or (var_kinds f) i param.ModuleDef) e
          ∙ ap (λ (vs : List Param). get_or vs (length (front f) + (5 * d + c)) param.ModuleDef) (vars_are f) ∙ at,
    )

-- .. instructions
at_fine : (file : Known) (code : Code) (ls : List Line) → AreFine file code ls → (i : ℕ) (l : Line)
    → slice_get ls i ≡ Some l → IsInstrFine file code l.instr
at_fine file code [] h i l e = absurd (cc)
at_fine file code (x ∷ ls) h zero l e =
    let same : x ≡ l = cc in subst (λ (y : Line). IsInstrFine file code y.instr) same h.0
at_fine file code (x ∷ ls) h (suc i) l e = at_fine file code ls h.1 i l e

statics_there : (file : Known) (code : Code) (ls : List Line) → AreFine file code ls
    → list_all (λ (l : Line). list_all (is_there file.statics) (atoms_of l.instr)) ls ≡ true
statics_there file code [] h = refl
statics_there file code (l ∷ ls) h = and_true _ _ h.0.2 (statics_there file code ls h.1)

-- a void function returns nothing at its end
end_fine : (file : Known) (code : Code) (p : Pos) (r : Option ValueKind) → code.result ≡ returned_kind r
    → AreFine file code (end_code p (is_void r))
end_fine file code p r e = elim (is_void r) as (λ b. (is_void r ≡ b) → AreFine file code (end_code p b)) [
  | true ↦ λ h. ((refl, ap is_none e ∙ void_returned r h, refl), tt)
  | false ↦ λ h. ((refl, refl, refl), tt)
] refl

-- only the last instruction has none after it
line_in : (ls : List Line) (i : ℕ) (l : Line) → slice_get ls i ≡ Some l → i < length ls
line_in [] i l e = absurd (cc)
line_in (x ∷ ls) zero l e = omega arith
line_in (x ∷ ls) (suc i) l e = let h = line_in ls i l e in omega (arith, h)

seam : (a b : List Line) → slice_get (a ++ b) (length a) ≡ slice_get b 0
seam [] b = refl
seam (x ∷ a) b = seam a b

end_leads : (p : Pos) (v : Bool) (l : Line) → slice_get (end_code p v) 0 ≡ Some l → leads_on l.instr ≡ false
end_leads p true l e =
    let same : line p (Return None) ≡ l = cc in subst (λ (y : Line). leads_on y.instr ≡ false) same refl
end_leads p false l e = let same : line p Fall ≡ l = cc in subst (λ (y : Line). leads_on y.instr ≡ false) same refl

pub less : (m n : ℕ) → nat_lt m n ≡ true → m < n
less m n h = grind (arith, nat_tests)

not_less : (m n : ℕ) → nat_lt m n ≡ false → n ≤ m
not_less m n h = grind (arith, nat_tests)

last_ends : (a : List Line) (p : Pos) (v : Bool) (i : ℕ) (l : Line) → slice_get (a ++ end_code p v) i ≡ Some l
    → leads_on l.instr ≡ true → i + 1 < length (a ++ end_code p v)
last_ends a p v i l e h =
    let long = length-append a (end_code p v) in
    let one = end-long p v in
    let within = line_in (a ++ end_code p v) i l e in
    elim (nat_lt i (length a)) as (λ b. (nat_lt i (length a) ≡ b) → i + 1 < length (a ++ end_code p v)) [
      | true ↦ λ t. let k = less i (length a) t in omega (arith, long, one, k)
      | false ↦ λ t.
          let k = not_less i (length a) t in
          let there : i ≡ length a = omega (arith, long, one, within, k) in
          let g : slice_get (end_code p v) 0 ≡ Some l = sym (seam a (end_code p v))
          ∙ ap (λ (j : ℕ). slice_get (a ++ end_code p v) j) (sym there) ∙ e in
          let n = end_leads p v l g in
          absurd (cc)
    ] refl

-- .. heads
same_nat : (n : ℕ) → (n == n) ≡ true
same_nat n = grind (arith, nat_tests)

-- labels that are among these
Among : List Label → List Label → Type 0
Among all [] = Unit {0}
Among all (l ∷ ls) = (names l.0 all ≡ true) × Among all ls

own_names : (i : Instr) → Among (targets i) (targets i)
unfolding Among
own_names (Jump to) = (or_true_left (to.0 == to.0) false (same_nat to.0), tt)
own_names (Branch a this other) = (
  or_true_left (this.0 == this.0) _ (same_nat this.0),
  (or_true_right (this.0 == other.0) _ (or_true_left (other.0 == other.0) false (same_nat other.0)), tt),
)
own_names _ = tt

-- an instruction that leads back to a place is found
found_back : (ls : List Line) (i m k : ℕ) (l : Line) → slice_get ls i ≡ Some l → m ≤ k + i
    → names m (targets l.instr) ≡ true → leads_back m k ls ≡ true
found_back [] i m k l e le h = absurd (cc)
found_back (x ∷ ls) zero m k l e le h =
    let same : l ≡ x = cc in
    let n : names m (targets x.instr) ≡ true = subst (λ (y : Line). names m (targets y.instr) ≡ true) same h in
    or_true_left _ _ (and_true _ _ (le_true m k (omega (arith, le))) n)
found_back (x ∷ ls) (suc i) m k l e le h =
    or_true_right (nat_le m k && names m (targets x.instr)) _ (found_back ls i m (k + 1) l e (omega (arith, le)) h)

any_append : (p : Head → Bool) (a b : List Head) → list_any p b ≡ true → list_any p (a ++ b) ≡ true
any_append p [] b h = h
any_append p (x ∷ a) b h = or_true_right (p x) _ (any_append p a b h)

any_front : (p : Head → Bool) (a b : List Head) → list_any p a ≡ true → list_any p (a ++ b) ≡ true
any_front p [] b h = absurd (cc)
any_front p (x ∷ a) b h = elim (p x) as (λ c. (c || list_any p a) ≡ true → (c || list_any p (a ++ b)) ≡ true) [
  | true ↦ λ k. refl
  | false ↦ λ k. any_front p a b k
] h

own_head : (n m : ℕ) (p : Pos) → m ≡ n → is_head (head_at n p ∷ []) (at_label m) ≡ true
own_head n m p e = or_true_left _ false (and_true _ _ (le_true n m (omega (arith, e))) (le_true m n (omega (arith, e))))

found : (n m : ℕ) (o : Option Pos) → is_some o ≡ true → m ≡ n → is_head (found_head n o) (at_label m) ≡ true
found n m None h e = absurd (cc)
found n m (Some p) h e = own_head n m p e

-- each head in front of a place is among those below it
in_below : (ms : List Mark) (code : List Line) (n m : ℕ) → m < n → is_some (head_pos ms code m) ≡ true
    → is_head (heads_below ms code n) (at_label m) ≡ true
in_below ms code zero m lt h = absurd (omega (arith, lt))
in_below ms code (suc n) m lt h =
    elim (nat_lt m n) as (λ b. (nat_lt m n ≡ b) → is_head (heads_below ms code (suc n)) (at_label m) ≡ true) [
      | true ↦ λ t. any_front _ (heads_below ms code n) _ (in_below ms code n m (less m n t) h)
      | false ↦ λ t.
          let k = not_less m n t in
          let e : m ≡ n = omega (arith, lt, k) in
          let g : is_some (head_pos ms code n) ≡ true = subst (λ (i : ℕ). is_some (head_pos ms code i) ≡ true) e h in
          any_append _ (heads_below ms code n) (found_head n (head_pos ms code n)) (found n m (head_pos ms code n) g e)
    ] refl

back_some : (o : Option Pos) (b : Bool) (u : Option Pos) → b ≡ true → is_some (back_pos o b u) ≡ true
back_some (Some p) b u h = refl
back_some None true u h = refl
back_some None false u h = absurd (cc)

all_back : (heads : List Head) (place : ℕ) (all ls : List Label) → Among all ls
    → ((m : ℕ) → names m all ≡ true → m ≤ place → is_head heads (at_label m) ≡ true)
    → list_all (λ l. nat_lt place l.0 || is_head heads l) ls ≡ true
unfolding Among
all_back heads place all [] h f = refl
all_back heads place all (l ∷ ls) h f =
    let one : (nat_lt place l.0 || is_head heads l) ≡ true =
    elim (nat_lt place l.0) as (λ b. (nat_lt place l.0 ≡ b) → (b || is_head heads l) ≡ true) [
      | true ↦ λ t. refl
      | false ↦ λ t. f l.0 h.0 (not_less place l.0 t)
    ] refl in
    and_true _ _ one (all_back heads place all ls h.1 f)

back_fine : (f : ResolvedFunction) (place : ℕ) (l : Line) → slice_get (body_code f) place ≡ Some l
    → goes_back (heads_of f) place l.instr ≡ true
back_fine f place l e =
    all_back (heads_of f) place (targets l.instr) (targets l.instr) (own_names l.instr) (λ m n le.
    let b = found_back (body_code f) place m 0 l e (omega (arith, le)) n in
    let within = line_in (body_code f) place l e in
    in_below (stmt_marks 0 f.body) (body_code f) (length (body_code f)) m (omega (arith, le, within))
    (back_some (loop_pos m (stmt_marks 0 f.body)) (leads_back m 0 (body_code f)) (label_pos m (stmt_marks 0 f.body)) b))

-- .. the whole
body_fine : (items : List Item) (statics : ℕ) (callees : ℕ → CallKinds) (f : ResolvedFunction) → HasLocals f
    → IsStmtTyped (known items statics callees f) (var_kinds f) f.body → stmt_nodes f.body ≤ 12288
    → AreFine (known items statics callees f) (code_of f) (body_code f)
body_fine items statics callees f h t n =
    let file = known items statics callees f in
    let size = stmt_size f.body in
    let l = body-long f in
    fine_append file (code_of f) (stmt_code f.locals (everywhere size) 0 f.body)
    (end_code (closing_brace f.body) (is_void f.result))
    (stmt_fine file (code_of f) f.locals (stmt_levels f.body) (temp_held f h) (omega (arith, n, stmt_few f.body)) refl
    f.body (everywhere size) 0 (omega arith) (omega (arith, l))
    (record { breaks = omega (arith, l); continues = omega (arith, l); labels = λ x. omega (arith, l) }) t)
    (end_fine file (code_of f) (closing_brace f.body) f.result refl)

-- a function whose parts are of the kinds that they need, and that is within the limits, has well-formed code, which
-- returns what its result is and names only static objects that are there
pub well-formed : (f : ResolvedFunction) → IsWellFormedIfTyped f
well-formed f items statics callees h p t locals n size =
    let l = body-long f in
    let v = vars_long f h in
    let file = known items statics callees f in
    let all = body_fine items statics callees f h t n in
    let fine = at_fine file (code_of f) (body_code f) all in (
      record {
        params = omega (arith, h, locals);
        among = omega (arith, h);
        locals = omega (arith, v);
        vars = omega (arith, v, locals, n, stmt_few f.body);
        few = omega (arith, l, size);
        kinds = var_slots file f p t;
        sound = λ i x e. (fine i x e).0;
        last = λ i x e k. last_ends (stmt_code f.locals (everywhere (stmt_size f.body)) 0 f.body)
            (closing_brace f.body) (is_void f.result) i x e k;
        back = λ i x e. back_fine f i x e;
      },
      (λ i x e. (fine i x e).1, statics_there file (code_of f) (body_code f) all),
    )
