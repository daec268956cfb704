-- A function from the walk through its parameters and its body.
use Rattle.std.proofs.Common.{◌≡◌, ◌∙◌, ℕ, ◌+◌, true, List, [], Option, refl, sym, ap, subst, add-zero, arith}
use Rattle.pungi_base.specs.declared.names.Name.{Name}
use Rattle.pungi_base.specs.declared.pos.Pos.{Pos}
use Rattle.pungi_api.specs.Terms.{terms_of}
use Rattle.pungi_api.specs.declared.terms.Terms.{Terms}
use Rattle.pungi_tree.specs.ExprView.{params_view}
use Rattle.pungi_tree.specs.StmtView.{stmt_view}
use Rattle.pungi_tree.specs.Syntax.{Params, params, ParamDecl, ParamDecls, no_params, param_and, param_decl, named}
use Rattle.pungi_tree.specs.Syntax.{bare, unused}
use Rattle.pungi_tree.specs.declared.item.FunctionDef.{FunctionDef}
use Rattle.pungi_types.specs.Functions.{result_kind, params_count, body_locals}
use Rattle.pungi_types.specs.Labels.{param_count}
use Rattle.pungi_types.specs.Names.{Env}
use Rattle.pungi_resolve.specs.Functions.{first_site, params_kinds, resolved_in}
use Rattle.pungi_resolve.specs.Stmts.{Site, body_action, with_param, with_params, params_site}
use Rattle.pungi_resolved.specs.Actions.{Action}
use Rattle.pungi_resolved.specs.Functions.{ResolvedFunction}
use Rattle.pungi_resolve.specs.Sound.{is_sound_action}
use Rattle.pungi_types.specs.TypesView.{definition_view}
use Rattle.pungi_types.specs.declared.kind.ValueKind.{ValueKind}
use Rattle.pungi_types.specs.declared.local.Local.{Local}
use Rattle.pungi_resolve.specs.Passed.{IsPassed}
use Rattle.pungi_resolve.specs.Sites.{site_of}
use Rattle.pungi_resolve.specs.SoundActions.{IsSoundAction}
use Rattle.pungi_resolve.specs.declared.walk.Walk.{Walk}
use Rattle.pungi_resolve.proofs.SiteLemmas.{begins}
use Rattle.pungi_resolve.proofs.SoundActionLemmas.{action-holds}
use Rattle.pungi_resolve.proofs.SoundFunctions.{function-sound}

start : List Local → Walk
start ls = record { locals = ls; next = 0 }

-- the site in front of the body
before_body : (env : Env) (f : FunctionDef) (w v : Walk) (k : Option ValueKind) → w.locals ≡ [] → w.next ≡ 0
    → k ≡ result_kind env (definition_view f)
    → site_of env v k ≡ params_site (site_of env w k) (params_view f.params)
    → site_of env v k ≡ params_site (first_site env (definition_view f)) (params_view f.params)
unfolding start
before_body env f w v k none zero kind after =
    let e : w ≡ start w.locals = ap (λ n. record { locals = w.locals; next = n }) zero in
    let s : site_of env w k ≡ first_site env (definition_view f) = ap (λ (x : Walk). site_of env x k) e
    ∙ begins env (definition_view f) w.locals k none kind in
    after ∙ ap (λ (g : Site). params_site g (params_view f.params)) s

-- what is sound of the body
pub body-holds : (env : Env) (f : FunctionDef) (w v : Walk) (k : Option ValueKind) → IsPassed env (definition_view f)
    → w.locals ≡ [] → w.next ≡ 0 → k ≡ result_kind env (definition_view f)
    → site_of env v k ≡ params_site (site_of env w k) (params_view f.params)
    → IsSoundAction (body_action f.pos (site_of env v k) (stmt_view f.body))
body-holds env f w v k h none zero kind after =
    let P : Site → Type 0 = λ g. IsSoundAction (body_action f.pos g (stmt_view f.body)) in
    subst P (sym (before_body env f w v k none zero kind after)) (action-holds
    (resolved_in env (definition_view f)).body (function-sound env (definition_view f) h))

-- how many locals there are in front of the body
param_counted : (f : Site) (p : ParamDecl) → (with_param f p).next ≡ f.next + 1
param_counted f (param_decl qs s (named d)) = refl
param_counted f (param_decl qs s (bare stars)) = refl
param_counted f (param_decl qs s (unused stars n p)) = refl

list_counted : (f : Site) (ds : ParamDecls) → (with_params f ds).next ≡ f.next + param_count ds
list_counted f no_params = sym (add-zero f.next)
list_counted f (param_and d ds) =
    let one = param_counted f d in
    let rest = list_counted (with_param f d) ds in
    omega (arith, one, rest)

counted : (f : Site) (ps : Params) → (params_site f ps).next ≡ f.next + params_count ps
counted f (params ds v dots) = list_counted f ds

made : Name → Pos → List (Option ValueKind) → ℕ → Option ValueKind → Terms → Action → ResolvedFunction
made n p ps m k t a = record { name = n; pos = p; params = ps; locals = m; result = k; terms = t; body = a }

-- what is returned for a function
pub whole : (env : Env) (f : FunctionDef) (w v : Walk) (k : Option ValueKind) (ps : List (Option ValueKind)) (m : ℕ)
    (t : Terms) (a : Action)
    → w.locals ≡ [] → w.next ≡ 0 → k ≡ result_kind env (definition_view f)
    → site_of env v k ≡ params_site (site_of env w k) (params_view f.params)
    → ps ≡ params_kinds env.file.items (params_view f.params) → m ≡ v.next + body_locals (stmt_view f.body)
    → a ≡ body_action f.pos (site_of env v k) (stmt_view f.body) → t ≡ terms_of env.file.terms f.name.0
    → record { name = f.name; pos = f.pos; params = ps; locals = m; result = k; terms = t; body = a }
    ≡ resolved_in env (definition_view f)
unfolding made
whole env f w v k ps m t a none zero kind after hp hm ha ht =
    let d = definition_view f in
    let s = before_body env f w v k none zero kind after in
    let none_before : 0 + params_count (params_view f.params) ≡ params_count (params_view f.params) = omega arith in
    let front : v.next ≡ params_count (params_view f.params) = ap (λ (g : Site). g.next) s
    ∙ counted (first_site env d) (params_view f.params) ∙ none_before in
    let hn : m ≡ (resolved_in env d).locals = hm ∙ ap (λ (n : ℕ). n + body_locals (stmt_view f.body)) front in
    let hb : a ≡ (resolved_in env d).body = ha ∙ ap (λ (g : Site). body_action f.pos g (stmt_view f.body)) s in
    ap (λ (x : List (Option ValueKind)). made f.name f.pos x m k t a) hp
    ∙ ap (λ (x : ℕ). made f.name f.pos (params_kinds env.file.items (params_view f.params)) x k t a) hn
    ∙ ap (λ (x : Option ValueKind). made f.name f.pos (params_kinds env.file.items (params_view f.params))
    (resolved_in env d).locals x t a) kind
    ∙ ap (λ (x : Terms). made f.name f.pos (params_kinds env.file.items (params_view f.params))
    (resolved_in env d).locals (result_kind env d) x a) ht
    ∙ ap (λ (x : Action). made f.name f.pos (params_kinds env.file.items (params_view f.params))
    (resolved_in env d).locals (result_kind env d) (terms_of env.file.terms f.name.0) x) hb

pub sound-body : (env : Env) (f : FunctionDef) (r : ResolvedFunction) → IsPassed env (definition_view f)
    → r ≡ resolved_in env (definition_view f) → is_sound_action r.body ≡ true
sound-body env f r h e =
    ap (λ (x : ResolvedFunction). is_sound_action x.body) e ∙ function-sound env (definition_view f) h
