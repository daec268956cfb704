-- A function is refused alike under two sets of refused functions that agree on the words that it calls.
use Rattle.std.proofs.Common.{◌≡◌, ℕ, List, [], refl, ap}
use Rattle.pungi_tree.specs.Syntax.{Params, params, param_decl, ParamDecls, no_params, param_and, named, bare, unused}
use Rattle.pungi_tree.specs.Syntax.{Stmt, block}
use Rattle.pungi_types.specs.Files.{SourceFile, Definition}
use Rattle.pungi_types.specs.Findings.{Findings, least}
use Rattle.pungi_types.specs.Stmts.{Frame, in_block}
use Rattle.pungi_types.specs.Functions.{file_env, first_frame, after_param, param_findings, params_findings}
use Rattle.pungi_types.specs.Functions.{params_frame, body_findings, text_findings, or_whole, refusal}
use Rattle.pungi_check.specs.Calls.{body_calls, called_words}
use Rattle.pungi_check.proofs.Places.{World, env_at, place, params_frame-place}
use Rattle.pungi_check.proofs.Agreement.{Agree}
use Rattle.pungi_check.proofs.SameStmts.{ands-same, stmts-same}

-- a function of a file as a place
abbrev pub world_of : SourceFile → Definition → World
world_of file d = record { file = file; self = d.name.0 }

param-same : (x : World) (s t : List ℕ) (f : Frame) (ds : ParamDecls)
    → param_findings (place x s f) ds ≡ param_findings (place x t f) ds
param-same x s t f no_params = refl
param-same x s t f (param_and (param_decl qs sp (named d)) ds) =
    ands-same _ _ _ _ refl (ands-same _ _ _ _ refl (param-same x s t (after_param (place x [] f)
    (param_decl qs sp (named d))) ds))
param-same x s t f (param_and (param_decl qs sp (bare stars)) ds) =
    ands-same _ _ _ _ refl (ands-same _ _ _ _ refl (param-same x s t (after_param (place x [] f)
    (param_decl qs sp (bare stars))) ds))
param-same x s t f (param_and (param_decl qs sp (unused stars n p)) ds) =
    ands-same _ _ _ _ refl (ands-same _ _ _ _ refl (param-same x s t (after_param (place x [] f)
    (param_decl qs sp (unused stars n p))) ds))

params-same : (x : World) (s t : List ℕ) (f : Frame) (ps : Params)
    → params_findings (place x s f) ps ≡ params_findings (place x t f) ps
params-same x s t f (params ds v dots) = ands-same _ _ _ _ refl (param-same x s t f ds)

body-same : (x : World) (s t : List ℕ) (f : Frame) (a : Stmt) → Agree x s t (body_calls a)
    → body_findings (place x s f) a ≡ body_findings (place x t f) a
body-same x s t f (block p ss q) h = stmts-same x s t (record (in_block f ss) { block = f.block }) ss h
body-same x s t f _ h = refl

body-in-same : (x : World) (s t : List ℕ) (f : Frame) (d : Definition) → Agree x s t (called_words d)
    → body_findings (params_frame (place x s f) d.params) d.body
    ≡ body_findings (params_frame (place x t f) d.params) d.body
body-in-same x s t f d h =
    rw (params_frame-place x s f d.params, params_frame-place x t f d.params)
    (body-same x s t (params_frame (place x [] f) d.params) d.body h)

text-same : (file : SourceFile) (s t : List ℕ) (d : Definition) → Agree (world_of file d) s t (called_words d)
    → text_findings (file_env file s d.name.0) d ≡ text_findings (file_env file t d.name.0) d
text-same file s t d h =
    let x = world_of file d in
    let f = first_frame (env_at x [] []) d in
    ands-same _ _ _ _ refl (ands-same _ _ _ _ (params-same x s t f d.params)
    (ands-same _ _ _ _ refl (body-in-same x s t f d h)))

pub refusal-same : (file : SourceFile) (s t : List ℕ) (d : Definition)
    → Agree (world_of file d) s t (called_words d) → refusal file s d ≡ refusal file t d
refusal-same file s t d h =
    let env = file_env file s d.name.0 in
    ap (λ (fs : Findings). least (or_whole env d fs (least fs))) (text-same file s t d h)
