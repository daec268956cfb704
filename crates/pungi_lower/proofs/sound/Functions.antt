-- A function in which no rule holds is sound for the layout, and its tree and its code are within the limits.
use Rattle.std.proofs.Common.{◌≡◌, ◌∙◌, ℕ, ◌+◌, ◌*◌, ◌<◌, ◌≤◌, arith, true, false, List, [], length, Some, None, refl}
use Rattle.std.proofs.Common.{sym, ap, subst}
use Rattle.std.specs.Prelude.{nat_lt, is_some}
use Rattle.std.proofs.lemmas.Bool.Decides.{nat_tests}
use Rattle.pungi_base.specs.declared.pos.Pos.{Pos}
use Rattle.pungi_tree.specs.Syntax.{Params, params, ParamDecl, param_decl, ParamDecls, no_params, param_and, named}
use Rattle.pungi_tree.specs.Syntax.{bare, unused, Stmt, block, Item}
use Rattle.pungi_types.specs.declared.local.Local.{Local}
use Rattle.pungi_types.specs.Files.{Definition, declr_name}
use Rattle.pungi_types.specs.Findings.{Findings, least, when}
use Rattle.pungi_types.specs.Names.{Env, local_in}
use Rattle.pungi_types.specs.Nodes as written
use Rattle.pungi_types.specs.Calls.{param_kind}
use Rattle.pungi_types.specs.Functions.{first_frame, after_param, after_params, params_frame, params_findings}
use Rattle.pungi_types.specs.Functions.{dots_findings, body_findings, result_findings, text_findings, size_findings}
use Rattle.pungi_types.specs.Functions.{convention_findings, whole_findings, or_whole, refusal_in, params_count}
use Rattle.pungi_types.specs.Functions.{body_locals}
use Rattle.pungi_types.specs.Labels.{label_findings, param_count}
use Rattle.pungi_resolve.specs.Functions.{params_kinds, param_kinds, first_site, resolved_in}
use Rattle.pungi_resolve.specs.Stmts.{Site, params_site, body_action}
use Rattle.pungi_resolved.specs.Actions.{Action}
use Rattle.pungi_resolved.specs.Functions.{ResolvedFunction}
use Rattle.pungi_types.specs.Stmts.{Frame, in_block}
use Rattle.pungi_resolve.specs.Passed.{IsPassed}
use Rattle.pungi_resolve.proofs.Clean.{Clean, clean, left, right, not_when}
use Rattle.pungi_resolve.proofs.Known.{HasKinds}
use Rattle.pungi_resolve.proofs.SoundStmts.{site}
use Rattle.pungi_resolve.proofs.SoundFunctions.{text-clean, result-known, names-passed, params-names, params-site}
use Rattle.pungi_layout.specs.code.Sound.{IsStmtSound, stmt_nodes}
use Rattle.pungi_layout.specs.code.Sizes.{stmt_size}
use Rattle.pungi_lower.proofs.sound.Parts.{IsBelow, HasNumbers}
use Rattle.pungi_lower.proofs.sound.Stmts.{one_more-numbered, stmts-work}
use Rattle.pungi_lower.proofs.nodes.Stmts.{stmts-few}

-- .. sizes
whole-told : (env : Env) (d : Definition) (fs : Findings) → least (or_whole env d fs (least fs)) ≡ None
    → least (whole_findings env d) ≡ None
whole-told env d fs h =
    elim (least fs) as (λ o. (least fs ≡ o) → least (or_whole env d fs o) ≡ None
    → least (whole_findings env d) ≡ None) [
      | Some x ↦ λ e k. absurd (cc)
      | None ↦ λ e k. k
    ] refl h

not_less : (m n : ℕ) → nat_lt m n ≡ false → n ≤ m
not_less m n h = grind (arith, nat_tests)

pub record WithinLimits (d : Definition) : Type 0 where
  pub locals : params_count d.params + body_locals d.body ≤ 32
  pub nodes : written.function_nodes d ≤ 4096

pub within-limits : (env : Env) (d : Definition) → refusal_in env d ≡ None → WithinLimits d
within-limits env d h =
    let whole = clean (whole_findings env d) (whole-told env d (text_findings env d) h) in
    let c = left (size_findings d) (convention_findings env d) whole in
    record {
      locals = not_less 32 (params_count d.params + body_locals d.body) (not_when _ d.pos 15 (left _ _ c));
      nodes = not_less 4096 (written.function_nodes d) (not_when _ d.pos 16 (right
          (when (nat_lt 32 (params_count d.params + body_locals d.body)) d.pos 15) _ c));
    }

-- .. parameters
-- the names after a parameter, and how many locals there are
record Counted (n : ℕ) (f g : Frame) (m : ℕ) : Type 0 where
  names : HasNumbers n g.env
  next : g.next ≡ f.next + m
  result : g.result ≡ f.result

param-numbers : (n : ℕ) (f : Frame) → HasNumbers n f.env → f.next < n → (d : ParamDecl)
    → Counted n f (after_param f d) 1
param-numbers n f b lt (param_decl qs s (named d)) = record {
  names = one_more-numbered n f.env (record {
    name = declr_name d;
    number = f.next;
    kind = param_kind
        f.env.file.items s (named d);
  }) lt b;
  next = refl;
  result = refl;
}
param-numbers n f b lt (param_decl qs s (bare stars)) = record { names = b; next = refl; result = refl }
param-numbers n f b lt (param_decl qs s (unused stars w p)) = record { names = b; next = refl; result = refl }

params-numbers : (n : ℕ) (f : Frame) → HasNumbers n f.env → (ds : ParamDecls) → f.next + param_count ds ≤ n
    → Counted n f (after_params f ds) (param_count ds)
params-numbers n f b no_params le = record { names = b; next = omega arith; result = refl }
params-numbers n f b (param_and d ds) le =
    let one = param-numbers n f b (omega (arith, le)) d in
    let rest = params-numbers n (after_param f d) one.names ds (omega (arith, le, one.next)) in
    record { names = rest.names; next = omega (arith, rest.next, one.next); result = rest.result ∙ one.result }

-- .. the body
body-works : (n : ℕ) (p : Pos) (f : Frame) → HasKinds f.env → HasNumbers n f.env → is_some f.result ≡ true
    → (s : Stmt) → f.next + body_locals s ≤ n → Clean (body_findings f s) → IsStmtSound n (body_action p (site f) s)
body-works n p f h b r (block q ss t) le c = stmts-work n (record (in_block f ss) { block = f.block }) h b r ss le c
body-works n p f h b r _ le c = tt

of_params : (n : ℕ) (f : Frame) (p : Pos) (s : Stmt) (ps : Params) → HasKinds f.env → HasNumbers n f.env
    → is_some f.result ≡ true → f.next + params_count ps + body_locals s ≤ n
    → Clean (params_findings f ps) → Clean (body_findings (params_frame f ps) s)
    → IsStmtSound n (body_action p (params_site (site f) ps) s)
of_params n f p s (params ds v dots) h b r le c d =
    let P : Site → Type 0 = λ g. IsStmtSound n (body_action p g s) in
    let k = params-names f h ds (right (dots_findings dots) _ c) in
    let m = params-numbers n f b ds (omega (arith, le)) in
    subst P (params-site f ds) (body-works n p (after_params f ds) k m.names (ap is_some m.result ∙ r) s
    (omega (arith, le, m.next)) d)

none-below : (n : ℕ) (env : Env) → env.locals ≡ [] → HasNumbers n env
none-below n env e = record { locals = λ w. subst (λ (ls : List Local). IsBelow n (local_in ls w)) (sym e) tt }

-- a function in which no rule holds is sound for the layout
pub function-works : (env : Env) (d : Definition) → IsPassed env d
    → IsStmtSound (resolved_in env d).locals (resolved_in env d).body
function-works env d h =
    let c = right (result_findings env d) _ (text-clean env d h.passed) in
    let f = first_frame env d in
    of_params (params_count d.params + body_locals d.body) f d.pos d.body d.params (names-passed env d h)
    (none-below _ env h.outside) (result-known env d h.passed) (omega arith)
    (left (params_findings f d.params) _ c) (right (label_findings [] d.body) _
    (right (params_findings f d.params) _ c))

-- the first locals are the parameters
kinds-long : (file : List Item) (ds : ParamDecls) → length (param_kinds file ds) ≡ param_count ds
kinds-long file no_params = refl
kinds-long file (param_and (param_decl qs s d) ds) = let h = kinds-long file ds in omega (arith, h)

all_kinds-long : (file : List Item) (ps : Params) → length (params_kinds file ps) ≡ params_count ps
all_kinds-long file (params ds v dots) = kinds-long file ds

pub params-long : (env : Env) (d : Definition) → length (resolved_in env d).params ≡ params_count d.params
params-long env d = all_kinds-long env.file.items d.params

pub params-among : (env : Env) (d : Definition) → length (resolved_in env d).params ≤ (resolved_in env d).locals
params-among env d = let h = params-long env d in omega (arith, h)

-- .. how large it is
-- a body of the text and of the tree, with the end of the code
record FewBody (a : Action) (n : ℕ) : Type 0 where
  nodes : stmt_nodes a ≤ 3 * n
  size : stmt_size a + 1 ≤ 4 * n

body-few : (p : Pos) (f : Site) (s : Stmt) → FewBody (body_action p f s) (written.stmt_nodes s)
body-few p f (block q ss r) =
    let h = stmts-few f ss in record { nodes = omega (arith, h.nodes); size = omega (arith, h.size) }
body-few p f _ = record { nodes = omega arith; size = omega arith }

-- a function as a tree and as code: three nodes for a node of the text, and four instructions
pub record IsSmall (f : ResolvedFunction) (d : Definition) : Type 0 where
  pub nodes : stmt_nodes f.body ≤ 3 * written.function_nodes d
  pub size : stmt_size f.body + 1 ≤ 4 * written.function_nodes d

pub function-small : (env : Env) (d : Definition) → IsSmall (resolved_in env d) d
function-small env d =
    let h = body-few d.pos (params_site (first_site env d) d.params) d.body in
    record { nodes = omega (arith, h.nodes); size = omega (arith, h.size) }

-- .. so the steps of the tree and the variables of the code are within their limits
pub nodes-bounded : (env : Env) (d : Definition) → IsPassed env d → stmt_nodes (resolved_in env d).body ≤ 12288
nodes-bounded env d h =
    let s = function-small env d in
    let l = within-limits env d h.passed in
    omega (arith, s.nodes, l.nodes)

pub size-bounded : (env : Env) (d : Definition) → IsPassed env d → stmt_size (resolved_in env d).body + 1 ≤ 16384
size-bounded env d h =
    let s = function-small env d in
    let l = within-limits env d h.passed in
    omega (arith, s.size, l.nodes)
