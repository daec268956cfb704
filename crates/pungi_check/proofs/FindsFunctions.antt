-- A function that calls a function of the set is refused.
use Rattle.std.proofs.Common.{◌≡◌, ℕ, true, List, [], Option, Some, None, refl}
use Rattle.std.specs.Prelude.{is_some}
use Rattle.std.specs.List.{list_any}
use Rattle.pungi_tree.specs.Syntax.{Stmt, block}
use Rattle.pungi_types.specs.declared.finding.Finding.{Finding}
use Rattle.pungi_types.specs.Files.{SourceFile, Definition}
use Rattle.pungi_types.specs.Findings.{Findings, least}
use Rattle.pungi_types.specs.Names.{Env}
use Rattle.pungi_types.specs.Stmts.{Frame, in_block}
use Rattle.pungi_types.specs.Functions.{file_env, first_frame, params_frame, body_findings, text_findings, or_whole}
use Rattle.pungi_types.specs.Functions.{refusal}
use Rattle.pungi_check.specs.Calls.{body_calls, called_words}
use Rattle.pungi_check.proofs.Places.{World, env_at, place, refused_call, params_frame-place}
use Rattle.pungi_check.proofs.Agreement.{told, Finds, none, second}
use Rattle.pungi_check.proofs.SameFunctions.{world_of}
use Rattle.pungi_check.proofs.FindsStmts.{stmts-finds}

body-finds : (x : World) (t : List ℕ) (f : Frame) (a : Stmt)
    → Finds (refused_call x t) (body_calls a) (body_findings (place x t f) a)
body-finds x t f (block p ss q) = stmts-finds x t (record (in_block f ss) { block = f.block }) ss
body-finds x t f _ = none (refused_call x t) _

text-finds : (file : SourceFile) (t : List ℕ) (d : Definition)
    → Finds (refused_call (world_of file d) t) (called_words d) (text_findings (file_env file t d.name.0) d)
text-finds file t d =
    let x = world_of file d in
    let q = refused_call x t in
    let f = first_frame (env_at x [] []) d in
    second q _ _ _ (second q _ _ _ (second q _ _ _ (rw (params_frame-place x t f d.params)
    (body-finds x t (params_frame (place x [] f) d.params) d.body))))

-- a function is examined as a whole only where nothing else is found
or_whole-told : (env : Env) (d : Definition) (fs : Findings) (o : Option Finding) → o ≡ least fs → is_some o ≡ true
    → is_some (least (or_whole env d fs o)) ≡ true
or_whole-told env d fs None e h = absurd (cc)
or_whole-told env d fs (Some f) e h = rw (← e) refl

pub refusal-finds : (file : SourceFile) (t : List ℕ) (d : Definition)
    → list_any (refused_call (world_of file d) t) (called_words d) ≡ true → is_some (refusal file t d) ≡ true
refusal-finds file t d h =
    let env = file_env file t d.name.0 in
    let fs = text_findings env d in
    or_whole-told env d fs (least fs) refl (told fs None ((text-finds file t d).found h))
