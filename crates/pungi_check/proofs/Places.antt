-- Places in a function that differ in the set of refused functions alone.
use Rattle.std.proofs.Common.{◌≡◌, ℕ, Bool, List, [], ◌∷◌, refl}
use Rattle.std.specs.Prelude.{◌==◌, ◌&&◌, not}
use Rattle.pungi_tree.specs.Syntax.{Spec, VarDecl, var_decl, Decl, decl, ForStart, start_decl, start_expr, Stmt}
use Rattle.pungi_tree.specs.Syntax.{declare, block, do_expr, if_only, if_else, while, do_while, for, switch, case}
use Rattle.pungi_tree.specs.Syntax.{default, label, goto, break, continue, return, ParamDecl, param_decl, ParamDecls}
use Rattle.pungi_tree.specs.Syntax.{no_params, param_and, Params, params, named, bare, unused}
use Rattle.pungi_types.specs.Files.{SourceFile, definitions, definition_in}
use Rattle.pungi_types.specs.Names.{Env, is_among, is_some_definition}
use Rattle.pungi_types.specs.declared.local.Local.{Local}
use Rattle.pungi_types.specs.Stmts.{Frame, after_var, after_vars, after_decl, after_stmt, start_frame}
use Rattle.pungi_types.specs.Functions.{after_param, after_params, params_frame}

-- a function of a file
pub record World : Type 0 where
  pub file : SourceFile
  pub self : ℕ

abbrev pub env_at : World → List ℕ → List Local → Env
env_at x s ls = record { file = x.file; self = x.self; refused = s; locals = ls }

abbrev pub place : World → List ℕ → Frame → Frame
place x s f = record f { env = env_at x s f.env.locals }

-- the word is the name of another function, and in the set
abbrev pub other_in : World → List ℕ → ℕ → Bool
other_in x s w = not (w == x.self) && is_among s w

abbrev pub refused_call : World → List ℕ → ℕ → Bool
refused_call x s w = is_some_definition (definition_in (definitions x.file.items) w) && other_in x s w

pub after_vars-place : (x : World) (s : List ℕ) (f : Frame) (sp : Spec) (vs : List VarDecl)
    → after_vars (place x s f) sp vs ≡ place x s (after_vars (place x [] f) sp vs)
after_vars-place x s f sp [] = refl
after_vars-place x s f sp (var_decl d v ∷ vs) = after_vars-place x s (after_var (place x [] f) sp (var_decl d v)) sp vs

pub after_decl-place : (x : World) (s : List ℕ) (f : Frame) (d : Decl)
    → after_decl (place x s f) d ≡ place x s (after_decl (place x [] f) d)
after_decl-place x s f (decl qs sp vs) = after_vars-place x s f sp vs

pub after_stmt-place : (x : World) (s : List ℕ) (f : Frame) (st : Stmt)
    → after_stmt (place x s f) st ≡ place x s (after_stmt (place x [] f) st)
after_stmt-place x s f (declare p d) = after_decl-place x s f d
after_stmt-place x s f (block p ss q) = refl
after_stmt-place x s f (do_expr p e) = refl
after_stmt-place x s f (if_only p e a) = refl
after_stmt-place x s f (if_else p e a b) = refl
after_stmt-place x s f (while p e a) = refl
after_stmt-place x s f (do_while p a e) = refl
after_stmt-place x s f (for p a b c d) = refl
after_stmt-place x s f (switch p e a) = refl
after_stmt-place x s f (case p e a) = refl
after_stmt-place x s f (default p a) = refl
after_stmt-place x s f (label p n a) = refl
after_stmt-place x s f (goto p n q) = refl
after_stmt-place x s f (break p) = refl
after_stmt-place x s f (continue p) = refl
after_stmt-place x s f (return p e) = refl

pub start_frame-place : (x : World) (s : List ℕ) (f : Frame) (a : ForStart)
    → start_frame (place x s f) a ≡ place x s (start_frame (place x [] f) a)
start_frame-place x s f (start_decl d) = after_decl-place x s (record f { block = [] }) d
start_frame-place x s f (start_expr e) = refl

pub after_param-place : (x : World) (s : List ℕ) (f : Frame) (d : ParamDecl)
    → after_param (place x s f) d ≡ place x s (after_param (place x [] f) d)
after_param-place x s f (param_decl qs sp (named d)) = refl
after_param-place x s f (param_decl qs sp (bare stars)) = refl
after_param-place x s f (param_decl qs sp (unused stars n p)) = refl

pub after_params-place : (x : World) (s : List ℕ) (f : Frame) (ds : ParamDecls)
    → after_params (place x s f) ds ≡ place x s (after_params (place x [] f) ds)
after_params-place x s f no_params = refl
after_params-place x s f (param_and (param_decl qs sp (named d)) ds) =
    after_params-place x s (after_param (place x [] f) (param_decl qs sp (named d))) ds
after_params-place x s f (param_and (param_decl qs sp (bare stars)) ds) =
    after_params-place x s (after_param (place x [] f) (param_decl qs sp (bare stars))) ds
after_params-place x s f (param_and (param_decl qs sp (unused stars n p)) ds) =
    after_params-place x s (after_param (place x [] f) (param_decl qs sp (unused stars n p))) ds

pub params_frame-place : (x : World) (s : List ℕ) (f : Frame) (ps : Params)
    → params_frame (place x s f) ps ≡ place x s (params_frame (place x [] f) ps)
params_frame-place x s f (params ds v dots) = after_params-place x s f ds
