-- A statement in which no rule holds is sound once it is resolved.
use Rattle.std.proofs.Common.{◌≡◌, ◌∙◌, true, false, List, [], ◌∷◌, Option, Some, None, refl, subst}
use Rattle.std.specs.Prelude.{◌&&◌, ◌||◌, not, is_none}
use Rattle.pungi_base.specs.declared.key.Key.{Key}
use Rattle.pungi_base.specs.declared.pos.Pos.{Pos}
use Rattle.pungi_tree.specs.Syntax.{Expr, Spec, Declr, Init, value, table, VarDecl, var_decl, decl, ForStart}
use Rattle.pungi_tree.specs.Syntax.{start_decl, start_expr, Stmt, block, declare, do_expr, if_only, if_else, while}
use Rattle.pungi_tree.specs.Syntax.{do_while, for, switch, case, default, label, goto, break, continue, return, Stmts}
use Rattle.pungi_tree.specs.Syntax.{no_stmts, stmt_and}
use Rattle.pungi_types.specs.declared.kind.ValueKind.{ValueKind}
use Rattle.pungi_types.specs.Files.{declr_name, declr_pos}
use Rattle.pungi_types.specs.Kinds.{declared_kind}
use Rattle.pungi_types.specs.Names.{Env}
use Rattle.pungi_types.specs.Operators.{is_void}
use Rattle.pungi_types.specs.Exprs.{kind_of, expr_findings}
use Rattle.pungi_types.specs.Findings.{when}
use Rattle.pungi_types.specs.Labels.{constant_of, switch_findings}
use Rattle.pungi_resolve.specs.Exprs.{resolve}
use Rattle.pungi_resolve.specs.Stmts.{Site, with_vars, with_start, site_after, initial_value, declared_locals}
use Rattle.pungi_resolve.specs.Stmts.{start_declared, start_value, option_value, return_value, action, actions}
use Rattle.pungi_resolve.specs.Sound.{is_sound, is_sound_option, are_sound_locals, is_sound_action, are_sound_actions}
use Rattle.pungi_types.specs.Stmts.{Frame, spec_pos, has_file_storage, declared_n1, declared_n8, first_value_findings}
use Rattle.pungi_types.specs.Stmts.{after_var, after_vars, var_findings, vars_findings, condition_findings}
use Rattle.pungi_types.specs.Stmts.{option_findings, option_condition, return_findings, switched_findings, in_part}
use Rattle.pungi_types.specs.Stmts.{in_loop, in_switch, in_block, in_label, start_frame, after_part, after_stmt}
use Rattle.pungi_types.specs.Stmts.{start_findings, stmt_findings, stmts_findings}
use Rattle.pungi_resolve.proofs.Clean.{Clean, left, right, not_when, or_left, and_true}
use Rattle.pungi_resolve.proofs.Known.{HasKinds, one_more, is_value_kind, declared-not_void}
use Rattle.pungi_resolve.proofs.SoundParts.{convert-same}
use Rattle.pungi_resolve.proofs.SoundExprs.{expr-good}
use Rattle.pungi_resolve.proofs.CaseConstants.{case-long}

-- the site at which a frame is
abbrev pub site : Frame → Site
site f = record { env = f.env; next = f.next; result = f.result }

pub value_kind : (k : Option ValueKind) → is_none k ≡ false → is_void k ≡ false → is_value_kind k ≡ true
value_kind None a b = absurd (cc)
value_kind (Some k) a b = rw b refl

-- .. declarations
initial-sound : (f : Frame) (s : Spec) (d : Declr) (i : Option Init) → HasKinds (after_var f s (var_decl d i)).env
    → Clean (first_value_findings (after_var f s (var_decl d i)).env (declared_kind f.env.file.items s d)
    (declr_pos d) i) → is_sound_option (initial_value (site f) s (var_decl d i)) ≡ true
initial-sound f s d None h c = refl
initial-sound f s d (Some (table ts)) h c = refl
initial-sound f s d (Some (value e)) h c =
    let env = (after_var f s (var_decl d None)).env in
    convert-same (declr_pos d) (declared_kind f.env.file.items s d) (kind_of env e) (resolve env e)
    ∙ (expr-good env h e (left (expr_findings env e) _ c)).sound

-- variables, and the names after them
pub record Declared (f : Frame) (s : Spec) (vs : List VarDecl) : Type 0 where
  pub names : HasKinds (after_vars f s vs).env
  pub sound : are_sound_locals (declared_locals (site f) s vs) ≡ true

pub vars-sound : (f : Frame) (qs : List Key) (s : Spec) (vs : List VarDecl) → HasKinds f.env
    → Clean (vars_findings f qs s vs) → Declared f s vs
vars-sound f qs s [] h c = record { names = h; sound = refl }
vars-sound f qs s (var_decl d i ∷ vs) h c =
    let one = left (var_findings f qs s (var_decl d i)) _ c in
    let n1 = not_when _ (spec_pos s) 1 (left (declared_n1 qs s (declared_kind f.env.file.items s d)) _ one) in
    let k = value_kind (declared_kind f.env.file.items s d) (or_left _ (has_file_storage qs) n1)
    (declared-not_void f.env.file.items s d) in
    let g = one_more f.env (record {
      name = declr_name d;
      number = f.next;
      kind = declared_kind f.env.file.items s d;
    }) k h in
    let rest = vars-sound (after_var f s (var_decl d i)) qs s vs g (right (var_findings f qs s (var_decl d i)) _ c) in
    let two = right (declared_n8 f.env f.block (declr_name d) (declr_pos d)) _
    (right (declared_n1 qs s (declared_kind f.env.file.items s d)) _ one) in
    record { names = rest.names; sound = and_true _ _ (initial-sound f s d i g two) rest.sound }

-- .. the sites after what declares
vars-site : (f : Frame) (s : Spec) (vs : List VarDecl) → site (after_vars f s vs) ≡ with_vars (site f) s vs
vars-site f s [] = refl
vars-site f s (var_decl d i ∷ vs) = vars-site (after_var f s (var_decl d i)) s vs

pub start-site : (f : Frame) (a : ForStart) → site (start_frame f a) ≡ with_start (site f) a
start-site f (start_decl (decl qs s vs)) = vars-site (record f { block = [] }) s vs
start-site f (start_expr e) = refl

pub stmt-site : (f : Frame) (s : Stmt) → site (after_stmt f s) ≡ site_after (site f) s
stmt-site f (declare p (decl qs s vs)) = vars-site f s vs
stmt-site f _ = refl

-- .. expressions of a statement
condition-sound : (env : Env) → HasKinds env → (p : Pos) (e : Expr) → Clean (condition_findings env p e)
    → is_sound (resolve env e) ≡ true
condition-sound env h p e c = (expr-good env h e (left (expr_findings env e) _ c)).sound

option-sound : (env : Env) → HasKinds env → (e : Option Expr) → Clean (option_findings env e)
    → is_sound_option (option_value env e) ≡ true
option-sound env h None c = refl
option-sound env h (Some e) c = (expr-good env h e c).sound

option_condition-sound : (env : Env) → HasKinds env → (p : Pos) (e : Option Expr) → Clean (option_condition env p e)
    → is_sound_option (option_value env e) ≡ true
option_condition-sound env h p None c = refl
option_condition-sound env h p (Some e) c = condition-sound env h p e c

return-sound : (f : Frame) → HasKinds f.env → (p : Pos) (e : Option Expr)
    → Clean (return_findings f.env f.result p e) → is_sound_option (return_value (site f) p e) ≡ true
return-sound f h p None c = refl
return-sound f h p (Some e) c =
    convert-same p f.result (kind_of f.env e) (resolve f.env e)
    ∙ (expr-good f.env h e (left (expr_findings f.env e) _ c)).sound

switched-sound : (env : Env) → HasKinds env → (p : Pos) (e : Expr) → Clean (switched_findings env p e)
    → is_sound (resolve env e) ≡ true
switched-sound env h p e c = (expr-good env h e (left (expr_findings env e) _ c)).sound

-- what begins a `for`, and the names after it
record Started (f : Frame) (a : ForStart) : Type 0 where
  names : HasKinds (start_frame f a).env
  locals : are_sound_locals (start_declared (site f) a) ≡ true
  first : is_sound_option (start_value f.env a) ≡ true

start-sound : (f : Frame) → HasKinds f.env → (a : ForStart) → Clean (start_findings f a) → Started f a
start-sound f h (start_decl (decl qs s vs)) c =
    let d = vars-sound (record f { block = [] }) qs s vs h c in
    record { names = d.names; locals = d.sound; first = refl }
start-sound f h (start_expr e) c = record { names = h; locals = refl; first = option-sound f.env h e c }

-- .. statements
-- the names after a statement in which no rule holds
pub names-behind : (f : Frame) → HasKinds f.env → (s : Stmt) → Clean (stmt_findings f s) → HasKinds (after_stmt f s).env
names-behind f h (declare p (decl qs s vs)) c = (vars-sound f qs s vs h c).names
names-behind f h _ c = h

mutual
  pub stmt-sound : (f : Frame) → HasKinds f.env → (s : Stmt) → Clean (stmt_findings f s)
      → is_sound_action (action (site f) s) ≡ true
  stmt-sound f h (block p ss q) c = stmts-sound (in_block f ss) h ss c
  stmt-sound f h (declare p (decl qs s vs)) c = (vars-sound f qs s vs h c).sound
  stmt-sound f h (do_expr p e) c = option-sound f.env h e c
  stmt-sound f h (if_only p e s) c =
      and_true _ _ (condition-sound f.env h p e (left (condition_findings f.env p e) _ c))
      (stmt-sound (in_part f) h s (right (condition_findings f.env p e) _ c))
  stmt-sound f h (if_else p e s t) c =
      let rest = right (condition_findings f.env p e) _ c in
      and_true _ _ (condition-sound f.env h p e (left (condition_findings f.env p e) _ c))
      (and_true _ _ (stmt-sound (in_part f) h s (left (stmt_findings (in_part f) s) _ rest))
      (stmt-sound (after_part (in_part f) s) h t (right (stmt_findings (in_part f) s) _ rest)))
  stmt-sound f h (while p e s) c =
      and_true _ _ (condition-sound f.env h p e (left (condition_findings f.env p e) _ c))
      (stmt-sound (in_loop f) h s (right (condition_findings f.env p e) _ c))
  stmt-sound f h (do_while p s e) c =
      and_true _ _ (stmt-sound (in_loop f) h s (left (stmt_findings (in_loop f) s) _ c))
      (condition-sound f.env h p e (right (stmt_findings (in_loop f) s) _ c))
  stmt-sound f h (for p a b d s) c =
      let g = start_frame f a in
      let i = start-sound f h a (left (start_findings f a) _ c) in
      let two = right (start_findings f a) _ c in
      let three = right (option_condition g.env p b) _ two in
      let P : Site → Type 0 = λ x. (is_sound_option (option_value x.env b)
      && (is_sound_option (option_value x.env d) && is_sound_action (action x s))) ≡ true in
      and_true _ _ i.locals (and_true _ _ i.first (subst P (start-site f a)
      (and_true _ _ (option_condition-sound g.env i.names p b (left (option_condition g.env p b) _ two))
      (and_true _ _ (option-sound g.env i.names d (left (option_findings g.env d) _ three))
      (stmt-sound (in_loop g) i.names s (right (option_findings g.env d) _ three))))))
  stmt-sound f h (switch p e s) c =
      and_true _ _ (switched-sound f.env h p e (left (switched_findings f.env p e) _ c))
      (stmt-sound (in_switch f) h s (right (switch_findings s) _ (right (switched_findings f.env p e) _ c)))
  stmt-sound f h (case p e s) c =
      let parts = right (when (not f.cases || is_none (constant_of e)) p 7) _ c in
      and_true _ _ (case-long f.env e (left (expr_findings f.env e) _ parts))
      (stmt-sound (in_label f) h s (right (expr_findings f.env e) _ parts))
  stmt-sound f h (default p s) c = stmt-sound (in_label f) h s (right _ _ c)
  stmt-sound f h (label p n s) c = stmt-sound (in_label f) h s c
  stmt-sound f h (goto p n q) c = refl
  stmt-sound f h (break p) c = refl
  stmt-sound f h (continue p) c = refl
  stmt-sound f h (return p e) c = return-sound f h p e c

  pub stmts-sound : (f : Frame) → HasKinds f.env → (ss : Stmts) → Clean (stmts_findings f ss)
      → are_sound_actions (actions (site f) ss) ≡ true
  stmts-sound f h no_stmts c = refl
  stmts-sound f h (stmt_and s ss) c =
      let one = left (stmt_findings f s) _ c in
      let P : Site → Type 0 = λ x. are_sound_actions (actions x ss) ≡ true in
      and_true _ _ (stmt-sound f h s one) (subst P (stmt-site f s) (stmts-sound (after_stmt f s)
      (names-behind f h s one) ss (right (stmt_findings f s) _ c)))
