-- A statement only adds locals, and counts those that it declares; what is left after it is what was there before.
use Rattle.std.proofs.Common.{◌≡◌, ℕ, ◌+◌, ◌-◌, List, [], ◌∷◌, ◌++◌, length, drop, refl, sym, ap, ◌∙◌, append_assoc}
use Rattle.std.proofs.Common.{add_assoc, add-zero, arith, length-append, Option, suc, subst}
use Rattle.pungi_tree.specs.Syntax.{Spec, VarDecl, var_decl, decl, ForStart, start_decl, start_expr, Stmt, declare}
use Rattle.pungi_tree.specs.Syntax.{Stmts, no_stmts, stmt_and}
use Rattle.pungi_types.specs.Files.{Definition, declr_name}
use Rattle.pungi_types.specs.Functions.{result_kind}
use Rattle.pungi_types.specs.Kinds.{declared_kind}
use Rattle.pungi_types.specs.Names.{Env}
use Rattle.pungi_types.specs.Labels.{stmt_locals, stmts_locals, start_locals}
use Rattle.pungi_resolve.specs.Functions.{first_site}
use Rattle.pungi_resolve.specs.Stmts.{Site, with_var, with_vars, with_start, site_after}
use Rattle.pungi_types.specs.declared.kind.ValueKind.{ValueKind}
use Rattle.pungi_types.specs.declared.local.Local.{Local}
use Rattle.pungi_scope.specs.ScopeEnv.{inner_env}
use Rattle.pungi_resolve.specs.Sites.{site_of, after_all}
use Rattle.pungi_resolve.specs.declared.walk.Walk.{Walk}

-- locals before those of a site, and so many more counted
record Adds (f g : Site) (n : ℕ) : Type 0 where
  more : List Local
  locals : g.env.locals ≡ more ++ f.env.locals
  next : g.next ≡ f.next + n

adds-nothing : (f : Site) → Adds f f 0
adds-nothing f = record { more = []; locals = refl; next = sym (add-zero f.next) }

one_more : (f : Site) (s : Spec) (v : VarDecl) → Adds f (with_var f s v) 1
one_more f s (var_decl d i) =
    record {
      more = record { name = declr_name d; number = f.next; kind = declared_kind f.env.file.items s d }
          ∷ [];
      locals = refl;
      next = refl;
    }

adds-both : (f g h : Site) (m n : ℕ) → Adds f g m → Adds g h n → Adds f h (m + n)
adds-both f g h m n a b = record {
  more = b.more ++ a.more;
  locals = b.locals ∙ ap (λ ls. b.more ++ ls) a.locals ∙ sym (append_assoc b.more a.more f.env.locals);
  next = b.next ∙ ap (λ k. k + n) a.next ∙ add_assoc f.next m n;
}

same_count : (f g : Site) (m n : ℕ) → m ≡ n → Adds f g m → Adds f g n
same_count f g m n e a = record { more = a.more; locals = a.locals; next = a.next ∙ ap (λ k. f.next + k) e }

adds-vars : (f : Site) (s : Spec) (vs : List VarDecl) → Adds f (with_vars f s vs) (length vs)
adds-vars f s [] = adds-nothing f
adds-vars f s (v ∷ vs) =
    let e : 1 + length vs ≡ suc (length vs) = omega arith in
    same_count f (with_vars (with_var f s v) s vs) (1 + length vs) (suc (length vs)) e
    (adds-both f (with_var f s v) (with_vars (with_var f s v) s vs) 1 (length vs) (one_more f s v)
    (adds-vars (with_var f s v) s vs))

adds-count : (f : Site) (n : ℕ) → Adds f (record f { next = f.next + n }) n
adds-count f n = record { more = []; locals = refl; next = refl }

adds-stmt : (f : Site) (s : Stmt) → Adds f (site_after f s) (stmt_locals s)
adds-stmt f (declare p (decl qs s vs)) = adds-vars f s vs
adds-stmt f s = adds-count f (stmt_locals s)

adds-stmts : (f : Site) (ss : Stmts) → Adds f (after_all f ss) (stmts_locals ss)
adds-stmts f no_stmts = adds-nothing f
adds-stmts f (stmt_and s ss) =
    adds-both f (site_after f s) (after_all (site_after f s) ss) (stmt_locals s) (stmts_locals ss) (adds-stmt f s)
    (adds-stmts (site_after f s) ss)

adds-start : (f : Site) (a : ForStart) → Adds f (with_start f a) (start_locals a)
adds-start f (start_decl (decl qs s vs)) = adds-vars f s vs
adds-start f (start_expr e) = adds-nothing f

append-cancel : {A : Type 0} (xs ys zs : List A) → xs ++ zs ≡ ys ++ zs → xs ≡ ys
append-cancel [] [] zs e = refl
append-cancel [] (y ∷ ys) zs e =
    let short : length zs ≡ suc (length (ys ++ zs)) = ap length e in
    absurd (omega (arith, length-append ys zs))
append-cancel (x ∷ xs) [] zs e =
    let short : suc (length (xs ++ zs)) ≡ length zs = ap length e in
    absurd (omega (arith, length-append xs zs))
append-cancel {A} (x ∷ xs) (y ∷ ys) zs e =
    let tails : xs ++ zs ≡ ys ++ zs = cc in
    let heads : x ≡ y = cc in
    ap (λ (t : List A). x ∷ t) (append-cancel xs ys zs tails) ∙ ap (λ h. h ∷ ys) heads

dropped : {A : Type 0} (more old : List A) → drop (length more) (more ++ old) ≡ old
dropped [] old = refl
dropped (x ∷ more) old = dropped more old

-- without what was put before
drop-back : {A : Type 0} (more old : List A) → drop (length (more ++ old) - length old) (more ++ old) ≡ old
drop-back more old =
    let same : length (more ++ old) - length old ≡ length more = omega (arith, length-append more old) in
    ap (λ k. drop k (more ++ old)) same ∙ dropped more old

made : List Local → ℕ → Walk
made ls n = record { locals = ls; next = n }

-- the locals that were added are left, and their count stays
left : (env : Env) (old new : Walk) (r : Option ValueKind) (n : ℕ) → Adds (site_of env old r) (site_of env new r) n
    → record new { locals = drop (length new.locals - length old.locals) new.locals }
    ≡ record old { next = old.next + n }
unfolding made
left env old new r n a =
    let split : new.locals ≡ a.more ++ old.locals =
    append-cancel new.locals (a.more ++ old.locals) env.locals (a.locals
    ∙ sym (append_assoc a.more old.locals env.locals))
    in
    let back : drop (length new.locals - length old.locals) new.locals ≡ old.locals =
    ap (λ ls. drop (length ls - length old.locals) ls) split ∙ drop-back a.more old.locals
    in
    ap (λ l. made l new.next) back ∙ ap (λ k. made old.locals k) a.next

-- after a statement that is part of another
pub left_part : (env : Env) (old new final : Walk) (r : Option ValueKind) (s : Stmt) (k : ℕ) → k ≡ length old.locals
    → site_of env new r ≡ site_after (site_of env old r) s
    → final ≡ record new { locals = drop (length new.locals - k) new.locals }
    → final ≡ record old { next = old.next + stmt_locals s }
left_part env old new final r s k kept site e =
    let F = site_of env old r in
    let P : Site → Type 0 = λ g. Adds F g (stmt_locals s) in
    let adds : Adds F (site_of env new r) (stmt_locals s) = subst P (sym site) (adds-stmt F s) in
    e ∙ ap (λ (n : ℕ). record new { locals = drop (length new.locals - n) new.locals }) kept
    ∙ left env old new r (stmt_locals s) adds

-- after a block
pub left_block : (env : Env) (old new final : Walk) (r : Option ValueKind) (ss : Stmts) (k : ℕ) → k ≡ length old.locals
    → site_of env new r ≡ after_all (site_of env old r) ss
    → final ≡ record new { locals = drop (length new.locals - k) new.locals }
    → final ≡ record old { next = old.next + stmts_locals ss }
left_block env old new final r ss k kept site e =
    let F = site_of env old r in
    let P : Site → Type 0 = λ g. Adds F g (stmts_locals ss) in
    let adds : Adds F (site_of env new r) (stmts_locals ss) = subst P (sym site) (adds-stmts F ss) in
    e ∙ ap (λ (n : ℕ). record new { locals = drop (length new.locals - n) new.locals }) kept
    ∙ left env old new r (stmts_locals ss) adds

-- after a `for`
pub left_for : (env : Env) (old one two final : Walk) (r : Option ValueKind) (a : ForStart) (n k : ℕ)
    → k ≡ length old.locals
    → site_of env one r ≡ with_start (site_of env old r) a → two ≡ record one { next = one.next + n }
    → final ≡ record two { locals = drop (length two.locals - k) two.locals }
    → final ≡ record old { next = old.next + (start_locals a + n) }
left_for env old one two final r a n k kept site part e =
    let F = site_of env old r in
    let P : Site → Type 0 = λ g. Adds F g (start_locals a) in
    let adds : Adds F (site_of env one r) (start_locals a) = subst P (sym site) (adds-start F a) in
    let there : Adds F (site_of env (record one { next = one.next + n }) r) (start_locals a + n) =
    adds-both F (site_of env one r) (site_of env (record one { next = one.next + n }) r) (start_locals a) n adds
    (adds-count (site_of env one r) n)
    in
    e ∙ ap (λ (m : ℕ). record two { locals = drop (length two.locals - m) two.locals }) kept
    ∙ ap (λ (w : Walk). record w { locals = drop (length w.locals - length old.locals) w.locals }) part
    ∙ left env old (record one { next = one.next + n }) r (start_locals a + n) there

sited : Env → ℕ → Option ValueKind → Site
sited env n r = record { env = env; next = n; result = r }

-- the site in front of the first parameter
pub begins : (env : Env) (d : Definition) (ls : List Local) (k : Option ValueKind) → ls ≡ [] → k ≡ result_kind env d
    → site_of env (record { locals = ls; next = 0 }) k ≡ first_site env d
unfolding sited
begins env d ls k none kind = ap (λ vs. sited (inner_env env vs) 0 k) none ∙ ap (λ y. sited env 0 y) kind
