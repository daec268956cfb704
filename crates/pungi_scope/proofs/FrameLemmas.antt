-- A statement only adds locals, and counts those that it declares; what is left after it is what was there before.
use Rattle.std.proofs.Common.{◌≡◌, ℕ, ◌+◌, ◌-◌, List, [], ◌∷◌, ◌++◌, length, drop, refl, sym, ap, ◌∙◌, append_assoc}
use Rattle.std.proofs.Common.{add_assoc, add-zero, arith, length-append, Option, Some, None, suc, subst, Bool, true}
use Rattle.std.proofs.Common.{false, Result, Ok, Err, OnOk}
use Rattle.pungi_tree.specs.Syntax.{Spec, VarDecl, var_decl, Decl, decl, ForStart, start_decl, start_expr, Expr, Stmt}
use Rattle.pungi_tree.specs.Syntax.{declare, for, Stmts, no_stmts, stmt_and, Params, params, ParamDecl, param_decl}
use Rattle.pungi_tree.specs.Syntax.{ParamDecls, no_params, param_and, named, bare, unused}
use Rattle.std.specs.declared.alloc.Global.{Global}
use Rattle.pungi_types.specs.Files.{Definition, declr_name}
use Rattle.pungi_types.specs.Functions.{after_param, after_params, params_frame, params_count, result_kind, first_frame}
use Rattle.pungi_base.specs.declared.pos.Pos.{Pos}
use Rattle.pungi_scope.specs.declared.labels.Labels.TheVariants.{Outside}
use Rattle.pungi_types.specs.Kinds.{declared_kind}
use Rattle.pungi_types.specs.Names.{Env}
use Rattle.pungi_types.specs.Labels.{stmt_locals, stmts_locals, start_locals, block_labels, param_count}
use Rattle.pungi_types.specs.Stmts.{Frame, in_block, after_decl, decl_findings, stmt_findings, stmts_findings}
use Rattle.pungi_types.specs.Stmts.{after_var, after_vars, after_stmt, after_stmts, start_frame, in_loop}
use Rattle.pungi_types.specs.Stmts.{start_findings, option_condition, option_findings}
use Rattle.pungi_types.specs.declared.local.Local.{Local}
use Rattle.pungi_types.specs.Findings.{Findings, least_from, ◌and◌}
use Rattle.pungi_types.specs.declared.finding.Finding.{Finding}
use Rattle.pungi_scope.specs.Frames.{frame_of, labels_of, declaration_of}
use Rattle.pungi_scope.specs.ScopeEnv.{inner_env}
use Rattle.pungi_types.specs.declared.kind.ValueKind.{ValueKind}
use Rattle.pungi_scope.specs.declared.walk.Around.{Around}
use Rattle.pungi_scope.specs.declared.walk.Walk.{Walk}
use Rattle.pungi_scope.proofs.DropLemmas.{drop-back}

-- locals before those of a frame, and so many more counted
pub record Adds (f g : Frame) (n : ℕ) : Type 0 where
  pub more : List Local
  pub locals : g.env.locals ≡ more ++ f.env.locals
  pub next : g.next ≡ f.next + n

adds-nothing : (f : Frame) → Adds f f 0
adds-nothing f = record { more = []; locals = refl; next = sym (add-zero f.next) }

one_more : (f : Frame) (s : Spec) (v : VarDecl) → Adds f (after_var f s v) 1
one_more f s (var_decl d i) =
    record {
      more = record { name = declr_name d; number = f.next; kind = declared_kind f.env.file.items s d }
          ∷ [];
      locals = refl;
      next = refl;
    }

pub adds-both : (f g h : Frame) (m n : ℕ) → Adds f g m → Adds g h n → Adds f h (m + n)
adds-both f g h m n a b = record {
  more = b.more ++ a.more;
  locals = b.locals ∙ ap (λ ls. b.more ++ ls) a.locals ∙ sym (append_assoc b.more a.more f.env.locals);
  next = b.next ∙ ap (λ k. k + n) a.next ∙ add_assoc f.next m n;
}

same_count : (f g : Frame) (m n : ℕ) → m ≡ n → Adds f g m → Adds f g n
same_count f g m n e a = record { more = a.more; locals = a.locals; next = a.next ∙ ap (λ k. f.next + k) e }

adds-vars : (f : Frame) (s : Spec) (vs : List VarDecl) → Adds f (after_vars f s vs) (length vs)
adds-vars f s [] = adds-nothing f
adds-vars f s (v ∷ vs) =
    let e : 1 + length vs ≡ suc (length vs) = omega arith in
    same_count f (after_vars (after_var f s v) s vs) (1 + length vs) (suc (length vs)) e
    (adds-both f (after_var f s v) (after_vars (after_var f s v) s vs) 1 (length vs) (one_more f s v)
    (adds-vars (after_var f s v) s vs))

adds-count : (f : Frame) (n : ℕ) → Adds f (record f { next = f.next + n }) n
adds-count f n = record { more = []; locals = refl; next = refl }

pub adds-stmt : (f : Frame) (s : Stmt) → Adds f (after_stmt f s) (stmt_locals s)
adds-stmt f (declare p (decl qs s vs)) = adds-vars f s vs
adds-stmt f s = adds-count f (stmt_locals s)

pub adds-stmts : (f : Frame) (ss : Stmts) → Adds f (after_stmts f ss) (stmts_locals ss)
adds-stmts f no_stmts = adds-nothing f
adds-stmts f (stmt_and s ss) =
    adds-both f (after_stmt f s) (after_stmts (after_stmt f s) ss) (stmt_locals s) (stmts_locals ss) (adds-stmt f s)
    (adds-stmts (after_stmt f s) ss)

pub adds-start : (f : Frame) (a : ForStart) → Adds f (start_frame f a) (start_locals a)
adds-start f (start_decl (decl qs s vs)) =
    let a = adds-vars (record f { block = [] }) s vs in
    record { more = a.more; locals = a.locals; next = a.next }
adds-start f (start_expr e) = record { more = []; locals = refl; next = sym (add-zero f.next) }

append-cancel : {A : Type 0} (xs ys zs : List A) → xs ++ zs ≡ ys ++ zs → xs ≡ ys
append-cancel [] [] zs e = refl
append-cancel [] (y ∷ ys) zs e =
    let short : length zs ≡ suc (length (ys ++ zs)) = ap length e in
    absurd (omega (arith, length-append ys zs))
append-cancel (x ∷ xs) [] zs e =
    let short : suc (length (xs ++ zs)) ≡ length zs = ap length e in
    absurd (omega (arith, length-append xs zs))
append-cancel {A} (x ∷ xs) (y ∷ ys) zs e =
    let tails : xs ++ zs ≡ ys ++ zs = cc in
    let heads : x ≡ y = cc in
    ap (λ (t : List A). x ∷ t) (append-cancel xs ys zs tails) ∙ ap (λ h. h ∷ ys) heads

made : List Local → ℕ → Option Finding → Walk
made l n x = record { locals = l; next = n; first = x }

-- the locals that were added are left, and their count stays
pub left : (env : Env) (old new : Walk) (b c : List ℕ) (around inner : Around) (n : ℕ) (x : Option Finding)
    → Adds (frame_of env old b around) (frame_of env new c inner) n → new.first ≡ x
    → record new { locals = drop (length new.locals - length old.locals) new.locals }
    ≡ record old { first = x; next = old.next + n }
unfolding made
left env old new b c around inner n x a e =
    let split : new.locals ≡ a.more ++ old.locals =
    append-cancel new.locals (a.more ++ old.locals) env.locals (a.locals
    ∙ sym (append_assoc a.more old.locals env.locals))
    in
    let back : drop (length new.locals - length old.locals) new.locals ≡ old.locals =
    ap (λ ls. drop (length ls - length old.locals) ls) split ∙ drop-back a.more old.locals
    in
    ap (λ l. made l new.next new.first) back ∙ ap (λ k. made old.locals k new.first) a.next
    ∙ ap (λ y. made old.locals (old.next + n) y) e

-- after a statement that is part of another
pub left_part : {T E : Type 0} (r : Result T E) (env : Env) (old new final : Walk) (b c : List ℕ) (around : Around)
    (s : Stmt) (k : ℕ) → b ≡ [] → k ≡ length old.locals
    → OnOk r (frame_of env new c around ≡ after_stmt (frame_of env old b around) s)
    → OnOk r (new.first ≡ least_from old.first (stmt_findings (frame_of env old b around) s))
    → final ≡ record new { locals = drop (length new.locals - k) new.locals }
    → OnOk r (final ≡ record old {
      first = least_from old.first (stmt_findings (frame_of env old [] around) s);
      next
          = old.next + stmt_locals s;
    })
left_part (Err x) env old new final b c around s k none kept frame found e = tt
left_part (Ok x) env old new final b c around s k none kept frame found e =
    let F = frame_of env old b around in
    let P : Frame → Type 0 = λ g. Adds F g (stmt_locals s) in
    let adds : Adds F (frame_of env new c around) (stmt_locals s) = subst P (sym frame) (adds-stmt F s) in
    e ∙ ap (λ (n : ℕ). record new { locals = drop (length new.locals - n) new.locals }) kept
    ∙ left env old new b c around around (stmt_locals s) (least_from old.first (stmt_findings F s)) adds found
    ∙ ap (λ (ws : List ℕ). record old {
      first = least_from old.first (stmt_findings (frame_of env old ws around) s);
      next = old.next + stmt_locals s;
    }) none

-- after the statements of a block
pub left_list : {T E : Type 0} (r : Result T E) (env : Env) (old new final : Walk) (b c : List ℕ) (around : Around)
    (ss : Stmts) (k : ℕ) → b ≡ [] → k ≡ length old.locals
    → OnOk r (frame_of env new c around ≡ after_stmts (frame_of env old b around) ss)
    → OnOk r (new.first ≡ least_from old.first (stmts_findings (frame_of env old b around) ss))
    → final ≡ record new { locals = drop (length new.locals - k) new.locals }
    → OnOk r (final ≡ record old {
      first = least_from old.first (stmts_findings (frame_of env old [] around) ss);
      next = old.next + stmts_locals ss;
    })
left_list (Err x) env old new final b c around ss k none kept frame found e = tt
left_list (Ok x) env old new final b c around ss k none kept frame found e =
    let F = frame_of env old b around in
    let P : Frame → Type 0 = λ g. Adds F g (stmts_locals ss) in
    let adds : Adds F (frame_of env new c around) (stmts_locals ss) = subst P (sym frame) (adds-stmts F ss) in
    e ∙ ap (λ (n : ℕ). record new { locals = drop (length new.locals - n) new.locals }) kept
    ∙ left env old new b c around around (stmts_locals ss) (least_from old.first (stmts_findings F ss)) adds found
    ∙ ap (λ (vs : List ℕ). record old {
      first = least_from old.first (stmts_findings (frame_of env old vs around)
          ss);
      next = old.next + stmts_locals ss;
    }) none

of_parts : Env → List ℕ → ℕ → Option ValueKind → List ℕ → Bool → Bool → Bool → Bool → Frame
of_parts env b n r ls t u v w =
    record {
      env = env;
      block = b;
      next = n;
      result = r;
      labels = ls;
      breaks = t;
      continues = u;
      cases = v;
      switched
          = w;
    }

-- as a block is entered, of which these names are declared
pub entered_block : (env : Env) (old : Walk) (around inner : Around) (ls bs : List ℕ) (ss : Stmts)
    → ls ≡ block_labels [] ss
    → inner.result ≡ around.result → labels_of inner.labels ≡ ls ++ labels_of around.labels
    → inner.breaks ≡ around.breaks → inner.continues ≡ around.continues
    → inner.cases ≡ around.switched → inner.switched ≡ false
    → frame_of env old bs inner ≡ record (in_block (frame_of env old [] around) ss) { block = bs }
unfolding of_parts
entered_block env old around inner ls bs ss known r l t u v w =
    let e = inner_env env old.locals in
    ap (λ x. of_parts e bs old.next x (labels_of inner.labels) inner.breaks inner.continues inner.cases
    inner.switched) r
    ∙ ap (λ x. of_parts e bs old.next around.result x inner.breaks inner.continues inner.cases inner.switched)
    (l ∙ ap (λ y. y ++ labels_of around.labels) known)
    ∙ ap (λ x. of_parts e bs old.next around.result (block_labels [] ss ++ labels_of around.labels) x
    inner.continues inner.cases inner.switched) t
    ∙ ap (λ x. of_parts e bs old.next around.result (block_labels [] ss ++ labels_of around.labels) around.breaks x
    inner.cases inner.switched) u
    ∙ ap (λ x. of_parts e bs old.next around.result (block_labels [] ss ++ labels_of around.labels) around.breaks
    around.continues x inner.switched) v
    ∙ ap (λ x. of_parts e bs old.next around.result (block_labels [] ss ++ labels_of around.labels) around.breaks
    around.continues around.switched x) w

-- the frame after a statement, and what it finds, by the declaration that it is
abbrev pub after_of : Frame → ℕ → Option Decl → Frame
after_of f n (Some d) = after_decl f d
after_of f n None = record f { next = f.next + n }

pub after_split : (f : Frame) (s : Stmt) → after_of f (stmt_locals s) (declaration_of s) ≡ after_stmt f s
after_split f (declare p d) = refl
after_split f s = refl

abbrev pub findings_of : Frame → Stmt → Option Decl → Findings
findings_of f s (Some d) = decl_findings f d
findings_of f s None = stmt_findings (record f { block = [] }) s

pub findings_split : (f : Frame) (s : Stmt) → findings_of f s (declaration_of s) ≡ stmt_findings f s
findings_split f (declare p d) = refl
findings_split f (for p (start_decl d) b c s) = refl
findings_split f (for p (start_expr e) b c s) = refl
findings_split f s = refl

adds-head : (f : Frame) (a : ForStart) → Adds f (record (start_frame f a) { block = [] }) (start_locals a)
adds-head f a = let s = adds-start f a in record { more = s.more; locals = s.locals; next = s.next }

-- after a `for`
pub left_for : {T E : Type 0} (r : Result T E) (env : Env) (old one two final : Walk) (around loop : Around)
    (p : Pos) (a : ForStart) (b c : Option Expr) (s : Stmt) (k : ℕ)
    → k ≡ length old.locals
    → one.first ≡ least_from old.first (start_findings (frame_of env old [] around) a
    and (option_condition (start_frame (frame_of env old [] around) a).env p b
    and option_findings (start_frame (frame_of env old [] around) a).env c))
    → frame_of env one [] around ≡ record (start_frame (frame_of env old [] around) a) { block = [] }
    → loop ≡ record around { breaks = true; continues = true; cases = false; switched = false }
    → OnOk r (two ≡ record one {
      first = least_from one.first (stmt_findings (frame_of env one [] loop) s);
      next
          = one.next + stmt_locals s;
    })
    → final ≡ record two { locals = drop (length two.locals - k) two.locals }
    → OnOk r (final ≡ record old {
      first = least_from old.first (stmt_findings (frame_of env old [] around)
          (for p a b c s));
      next = old.next + (start_locals a + stmt_locals s);
    })
left_for (Err v) env old one two final around loop p a b c s k kept first frame is_loop part e = tt
left_for (Ok v) env old one two final around loop p a b c s k kept first frame is_loop part e =
    let F = frame_of env old [] around in
    let n = stmt_locals s in
    let x : Option Finding = least_from one.first (stmt_findings (frame_of env one [] loop) s) in
    let P : Frame → Type 0 = λ g. Adds F g (start_locals a) in
    let adds : Adds F (frame_of env one [] around) (start_locals a) = subst P (sym frame) (adds-head F a) in
    let there : Adds F (frame_of env (record one { first = x; next = one.next + n }) [] around) (start_locals a + n) =
    adds-both F (frame_of env one [] around) (frame_of env (record one { first = x; next = one.next + n }) []
    around) (start_locals a) n adds
    (adds-count (frame_of env one [] around) n)
    in
    let found : x ≡ least_from old.first (stmt_findings F (for p a b c s)) =
    ap (λ (l : Around). least_from one.first (stmt_findings (frame_of env one [] l) s)) is_loop
    ∙ ap (λ (g : Frame). least_from one.first (stmt_findings (in_loop g) s)) frame
    ∙ ap (λ (y : Option Finding). least_from y (stmt_findings (in_loop (start_frame F a)) s)) first
    in
    e ∙ ap (λ (m : ℕ). record two { locals = drop (length two.locals - m) two.locals }) kept
    ∙ ap (λ (w : Walk). record w { locals = drop (length w.locals - length old.locals) w.locals }) part
    ∙ left env old (record one { first = x; next = one.next + n }) [] [] around around (start_locals a + n) x there refl
    ∙ ap (λ (y : Option Finding). record old { first = y; next = old.next + (start_locals a + n) }) found

-- how many locals are counted after the statements of a block
pub counted : {T E : Type 0} (r : Result T E) (env : Env) (old new : Walk) (b c : List ℕ) (inner : Around) (ss : Stmts)
    → OnOk r (frame_of env new c inner ≡ after_stmts (frame_of env old b inner) ss)
    → OnOk r (new.next ≡ old.next + stmts_locals ss)
counted (Err x) env old new b c inner ss frame = tt
counted (Ok x) env old new b c inner ss frame =
    ap (λ (f : Frame). f.next) frame ∙ (adds-stmts (frame_of env old b inner) ss).next

param_added : (f : Frame) (d : ParamDecl) → (after_param f d).next ≡ f.next + 1
param_added f (param_decl qs s (named d)) = refl
param_added f (param_decl qs s (bare stars)) = refl
param_added f (param_decl qs s (unused stars n p)) = refl

param_counted : (f : Frame) (ds : ParamDecls) → (after_params f ds).next ≡ f.next + param_count ds
param_counted f no_params = sym (add-zero f.next)
param_counted f (param_and d ds) =
    let rest = param_counted (after_param f d) ds in
    let one = param_added f d in
    omega arith

-- how many locals are counted after the parameters
pub params_counted : (f : Frame) (ps : Params) → (params_frame f ps).next ≡ f.next + params_count ps
params_counted f (params ds v dots) = param_counted f ds

-- the frame in front of the first parameter
pub begins : (env : Env) (d : Definition) (alloc : Global) (ls : List Local) (n : ℕ) (bs : List ℕ) (x : Option Finding)
    (k : Option ValueKind)
    → ls ≡ [] → n ≡ 0 → bs ≡ [] → k ≡ result_kind env d
    → frame_of env (record { locals = ls; next = n; first = x }) bs (record {
      alloc = alloc;
      result = k;
      labels = Outside;
      breaks = false;
      continues = false;
      cases = false;
      switched
          = false;
    })
    ≡ first_frame env d
unfolding of_parts
begins env d alloc ls n bs x k none first empty kind =
    ap (λ vs. of_parts (inner_env env vs) bs n k [] false false false false) none
    ∙ ap (λ m. of_parts env bs m k [] false false false false) first
    ∙ ap (λ ws. of_parts env ws 0 k [] false false false false) empty
    ∙ ap (λ y. of_parts env [] 0 y [] false false false false) kind
