-- A function in which no rule holds is sound once it is resolved.
use Rattle.std.proofs.Common.{◌≡◌, ◌∙◌, ℕ, suc, arith, Bool, true, false, List, [], ◌∷◌, Option, Some, None, refl, sym}
use Rattle.std.proofs.Common.{ap, subst}
use Rattle.std.specs.Prelude.{IsTrue, ◌==◌, ◌&&◌, ◌||◌, not, is_some, is_none, slice_get, if◌then◌else◌}
use Rattle.std.proofs.lemmas.Bool.Decides.{nat_tests}
use Rattle.pungi_base.specs.declared.key.Key.{Key}
use Rattle.pungi_base.specs.declared.pos.Pos.{Pos}
use Rattle.pungi_tree.specs.Syntax.{Spec, Params, params, ParamDecl, param_decl, ParamDecls, no_params, param_and}
use Rattle.pungi_tree.specs.Syntax.{ParamDeclr, named, bare, unused, Stmt, block, Item}
use Rattle.pungi_api.specs.Rows.{row_in}
use Rattle.pungi_api.specs.declared.row.Row.{Row}
use Rattle.pungi_types.specs.declared.finding.Finding.{Finding}
use Rattle.pungi_types.specs.Files.{Definition, definitions, definition_in, declr_name}
use Rattle.pungi_types.specs.Kinds.{type_kind, spec_base}
use Rattle.pungi_types.specs.Names.{Env, is_among, local_in, global_kind, is_own_static}
use Rattle.pungi_types.specs.Findings.{Findings, least}
use Rattle.pungi_types.specs.Operators.{is_void}
use Rattle.pungi_types.specs.Calls.{param_kind, defined_or, row_or, a_value, no_function}
use Rattle.pungi_types.specs.Functions.{file_env, result_kind, first_frame, after_param, after_params, params_frame}
use Rattle.pungi_types.specs.Functions.{name_findings, param_findings, params_findings, dots_findings, body_findings}
use Rattle.pungi_types.specs.Functions.{result_findings, parts_findings, text_findings, or_whole, refusal_in, refusal}
use Rattle.pungi_types.specs.Labels.{label_findings}
use Rattle.pungi_resolve.specs.Functions.{resolved_in}
use Rattle.pungi_resolve.specs.Stmts.{Site, with_param, with_params, params_site, body_action}
use Rattle.pungi_resolve.specs.Sound.{is_sound_action}
use Rattle.pungi_types.specs.Stmts.{Frame, spec_pos, has_file_storage, declared_n1, in_block}
use Rattle.pungi_resolve.specs.Passed.{IsPassed}
use Rattle.pungi_resolve.proofs.Clean.{Clean, clean, left, right, not_when, is_there, or_left}
use Rattle.pungi_resolve.proofs.Known.{HasKinds, one_more, answers, plain-not_void, declared-not_void}
use Rattle.pungi_resolve.proofs.SoundStmts.{site, value_kind, stmts-sound}

-- .. parameters
param-not_void : (file : List Item) (s : Spec) (d : ParamDeclr) → is_void (param_kind file s d) ≡ false
param-not_void file s (named d) = declared-not_void file s d
param-not_void file s (bare stars) = plain-not_void file s _
param-not_void file s (unused stars n p) = plain-not_void file s _

param-names : (f : Frame) → HasKinds f.env → (qs : List Key) (s : Spec) (d : ParamDeclr)
    → is_none (param_kind f.env.file.items s d) ≡ false → HasKinds (after_param f (param_decl qs s d)).env
param-names f h qs s (named d) k =
    one_more f.env (record { name = declr_name d; number = f.next; kind = param_kind f.env.file.items s (named d) })
    (value_kind (param_kind f.env.file.items s (named d)) k (param-not_void f.env.file.items s (named d))) h
param-names f h qs s (bare stars) k = h
param-names f h qs s (unused stars n p) k = h

pub params-names : (f : Frame) → HasKinds f.env → (ds : ParamDecls) → Clean (param_findings f ds)
    → HasKinds (after_params f ds).env
params-names f h no_params c = h
params-names f h (param_and (param_decl qs s d) ds) c =
    let n1 = not_when _ (spec_pos s) 1 (left (declared_n1 qs s (param_kind f.env.file.items s d)) _ c) in
    let k = or_left (is_none (param_kind f.env.file.items s d)) (has_file_storage qs) n1 in
    params-names (after_param f (param_decl qs s d)) (param-names f h qs s d k) ds
    (right (name_findings f d) _ (right (declared_n1 qs s (param_kind f.env.file.items s d)) _ c))

param-site : (f : Frame) (d : ParamDecl) → site (after_param f d) ≡ with_param (site f) d
param-site f (param_decl qs s (named d)) = refl
param-site f (param_decl qs s (bare stars)) = refl
param-site f (param_decl qs s (unused stars n p)) = refl

pub params-site : (f : Frame) (ds : ParamDecls) → site (after_params f ds) ≡ with_params (site f) ds
params-site f no_params = refl
params-site f (param_and d ds) = params-site (after_param f d) ds ∙ ap (λ g. with_params g ds) (param-site f d)

-- .. the body
body-sound : (p : Pos) (f : Frame) → HasKinds f.env → (s : Stmt) → Clean (body_findings f s)
    → is_sound_action (body_action p (site f) s) ≡ true
body-sound p f h (block q ss r) c = stmts-sound (record (in_block f ss) { block = f.block }) h ss c
body-sound p f h _ c = refl

of_params : (f : Frame) (p : Pos) (s : Stmt) (ps : Params) → HasKinds f.env → Clean (params_findings f ps)
    → Clean (body_findings (params_frame f ps) s)
    → is_sound_action (body_action p (params_site (site f) ps) s) ≡ true
of_params f p s (params ds v dots) h c b =
    let P : Site → Type 0 = λ g. is_sound_action (body_action p g s) ≡ true in
    subst P (params-site f ds) (body-sound p (after_params f ds) (params-names f h ds
    (right (dots_findings dots) _ c)) s b)

parts-sound : (f : Frame) (d : Definition) → HasKinds f.env → Clean (parts_findings f d)
    → is_sound_action (body_action d.pos (params_site (site f) d.params) d.body) ≡ true
parts-sound f d h c =
    of_params f d.pos d.body d.params h (left (params_findings f d.params) _ c)
    (right (label_findings [] d.body) _ (right (params_findings f d.params) _ c))

-- .. the rules that are reported
none-told : (env : Env) (d : Definition) (fs : Findings) → least (or_whole env d fs (least fs)) ≡ None
    → least fs ≡ None
none-told env d fs h = elim (least fs) as (λ o. (least fs ≡ o) → least (or_whole env d fs o) ≡ None
    → least fs ≡ None) [
      | Some x ↦ λ e k. k
      | None ↦ λ e k. e
    ] refl h

pub text-clean : (env : Env) (d : Definition) → refusal_in env d ≡ None → Clean (text_findings env d)
text-clean env d h = clean (text_findings env d) (none-told env d (text_findings env d) h)

pub result-known : (env : Env) (d : Definition) → refusal_in env d ≡ None → is_some (result_kind env d) ≡ true
result-known env d h =
    is_there (result_kind env d) (not_when _ (spec_pos d.result) 1 (left (result_findings env d) _
    (text-clean env d h)))

-- .. the functions that are called
-- a definition that is found by its name is in the list
record Listed (ds : List Definition) (w : ℕ) (d : Definition) : Type 0 where
  place : ℕ
  there : slice_get ds place ≡ Some d
  named : (d.name.0 == w) ≡ true

listed : (ds : List Definition) (w : ℕ) (d : Definition) → definition_in ds w ≡ Some d → Listed ds w d
listed [] w d e = absurd (cc)
listed (x ∷ ds) w d e =
    elim (x.name.0 == w) as (λ b. ((x.name.0 == w) ≡ b) → (if b then Some x else definition_in ds w) ≡ Some d
    → Listed (x ∷ ds) w d) [
      | true ↦ λ t k.
          let same : x ≡ d = cc in
          let P : Definition → Type 0 = λ y. Listed (x ∷ ds) w y in
          subst P same (record { place = 0; there = refl; named = t })
      | false ↦ λ t k. let l = listed ds w d k in record { place = suc l.place; there = l.there; named = l.named }
    ] refl e

same_number : (a b : ℕ) → (a == b) ≡ true → a ≡ b
same_number a b h = grind (arith, nat_tests)

some_told : (o : Option Finding) → (IsTrue (is_some o) → ⊥) → o ≡ None
some_told None f = refl
some_told (Some x) f = absurd (f refl)

not_true : (b : Bool) → b ≡ false → IsTrue b → ⊥
not_true true e t = cc
not_true false e t = cc

-- another function, whether it is refused or not
other-answers : (env : Env) (d x : Definition) (own among : Bool) → IsPassed env d → (x.name.0 == env.self) ≡ own
    → is_among env.refused x.name.0 ≡ among → definition_in (definitions env.file.items) x.name.0 ≡ Some x
    → (l : Listed (definitions env.file.items) x.name.0 x)
    → ((not own && among) || is_some (type_kind env.file.items (spec_base x.result) x.stars)) ≡ true
other-answers env d x false true h e a k l = refl
other-answers env d x true among h e a k l =
    let n : x.name.0 ≡ env.self = same_number x.name.0 env.self e in
    let f : definition_in (definitions env.file.items) x.name.0
    ≡ definition_in (definitions env.file.items) env.self = ap (definition_in (definitions env.file.items)) n in
    let o = h.own in
    let same : d ≡ x = cc in
    let P : Definition → Type 0 = λ y. is_some (type_kind env.file.items (spec_base y.result) y.stars) ≡ true in
    subst P same (result-known env d h.passed)
other-answers env d x false false h e a k l =
    let none = some_told (refusal env.file env.refused x) (λ t. not_true (is_among env.refused x.name.0) a
    (h.others l.place x l.there t)) in
    result-known (file_env env.file env.refused x.name.0) x none

row-answers : (env : Env) (w : ℕ) (r : Option Row) → answers env (row_or env.file.items w r) ≡ true
row-answers env w (Some r) = refl
row-answers env w None =
    elim (is_some (global_kind env.file.items w) || is_own_static env.file.items w) as
    (λ b. answers env (if b then a_value else no_function) ≡ true) [ true ↦ refl | false ↦ refl ]

found-answers : (env : Env) (d : Definition) → IsPassed env d → (w : ℕ) (o : Option Definition)
    → definition_in (definitions env.file.items) w ≡ o → answers env (defined_or env w o) ≡ true
found-answers env d h w (Some x) e =
    let l = listed (definitions env.file.items) w x e in
    let n : x.name.0 ≡ w = same_number x.name.0 w l.named in
    let P : ℕ → Type 0 = λ v. definition_in (definitions env.file.items) v ≡ Some x in
    let k = subst P (sym n) e in
    other-answers env d x (x.name.0 == env.self) (is_among env.refused x.name.0) h refl refl k
    (listed (definitions env.file.items) x.name.0 x k)
found-answers env d h w None e = row-answers env w (row_in env.file.rows w)

none-hidden : (env : Env) (w : ℕ) → env.locals ≡ [] → local_in env.locals w ≡ None
none-hidden env w e = ap (λ ls. local_in ls w) e

pub names-passed : (env : Env) (d : Definition) → IsPassed env d → HasKinds env
names-passed env d h = record {
  locals = λ w. rw (none-hidden env w h.outside) refl;
  calls = λ w. rw (none-hidden env w h.outside) (found-answers env d h w
      (definition_in (definitions env.file.items) w) refl);
}

pub function-sound : (env : Env) (d : Definition) → IsPassed env d → is_sound_action (resolved_in env d).body ≡ true
function-sound env d h =
    parts-sound (first_frame env d) d (names-passed env d h) (right (result_findings env d) _
    (text-clean env d h.passed))
