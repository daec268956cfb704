-- Instructions of declared locals, one after another.
use Rattle.std.proofs.Common.{◌≡◌, ℕ, ◌+◌, List, [], ◌∷◌, ◌++◌, length, refl, sym, ap, ◌∙◌, arith}
use Rattle.std.proofs.Common.{append_assoc}
use Rattle.pungi_base.specs.declared.pos.Pos.{Pos}
use Rattle.pungi_resolved.specs.Values as expr
use Rattle.pungi_resolved.specs.Actions as stmt
use Rattle.pungi_code.specs.declared.code.Line.{Line}
use Rattle.pungi_code.specs.declared.instr.Instr.TheVariants.{Unset, Branch}
use Rattle.pungi_layout.specs.code.FirstTokens.{first_token}
use Rattle.pungi_layout.specs.code.Sizes.{expr_size, option_size}
use Rattle.pungi_layout.specs.code.Temporaries.{temp_of}
use Rattle.pungi_layout.specs.code.ExprCode.{line, to_var, var, at_label}
use Rattle.pungi_layout.specs.code.StmtCode.{unset_code, value_code, bind_code, declare_code, test_code}
use Rattle.pungi_layout.proofs.code.StmtLengths.{bind_long, value_long}
use Rattle.pungi_emit.proofs.expr.ExprCode.{glued, grown, moved}

pub bind_laid : (nl : ℕ) (r : stmt.DeclaredLocal) (rs : List stmt.DeclaredLocal) (c0 c1 : List Line) →
    c1 ≡ c0 ++ bind_code nl (length c0) r.at r.number r.kind r.value →
    c0 ++ declare_code nl (length c0) (r ∷ rs) ≡ c1 ++ declare_code nl (length c1) rs
bind_laid nl r rs c0 c1 e =
    let bind = bind_code nl (length c0) r.at r.number r.kind r.value in
    let n = grown c0 c1 bind (option_size r.value + 1) e (bind_long r.value nl (length c0) r.number r.at r.kind) in
    let at = length c0 + option_size r.value + 1 in
    let n' : length c1 ≡ at = omega (arith, n) in
    sym (glued c0 c1 (c1 ++ declare_code nl (length c1) rs) bind (declare_code nl at rs) e
    (moved (λ m. declare_code nl m rs) c1 (c1 ++ declare_code nl (length c1) rs) at n' refl))

pub unset_append : (p : Pos) (rs qs : List stmt.DeclaredLocal)
    → unset_code p (rs ++ qs) ≡ unset_code p rs ++ unset_code p qs
unset_append p [] qs = refl
unset_append p (r ∷ rs) qs = ap (λ c. line p (Unset (to_var r.number)) ∷ c) (unset_append p rs qs)

pub unset_laid : (p : Pos) (rs qs : List stmt.DeclaredLocal) (c0 c1 : List Line) → c1 ≡ c0 ++ unset_code p rs
    → c0 ++ unset_code p (rs ++ qs) ≡ c1 ++ unset_code p qs
unset_laid p rs qs c0 c1 e =
    ap (λ c. c0 ++ c) (unset_append p rs qs) ∙ sym (append_assoc c0 (unset_code p rs) (unset_code p qs))
    ∙ ap (λ c. c ++ unset_code p qs) (sym e)

pub test_laid : (nl go place other : ℕ) (v : expr.Value) (c0 c1 c2 : List Line) →
    c1 ≡ c0 ++ value_code nl (length c0) v →
    place ≡ length c1 →
    go ≡ place + 1 →
    c2 ≡ c1 ++ line (first_token v) (Branch (var (temp_of nl 0 v)) (at_label go) (at_label other)) ∷ [] →
    c2 ≡ c0 ++ test_code nl (length c0) v (length c0 + expr_size v + 1) other
test_laid nl go place other v c0 c1 c2 e f g h =
    let value = value_code nl (length c0) v in
    let n = grown c0 c1 value (expr_size v) e (value_long v nl (length c0)) in
    let go' : go ≡ length c0 + expr_size v + 1 = omega (arith, n, f, g) in
    let branch = λ (i : ℕ). line (first_token v) (Branch (var (temp_of nl 0 v)) (at_label i) (at_label other)) in
    glued c0 c1 c2 value (branch (length c0 + expr_size v + 1) ∷ []) e (h ∙ ap (λ i. c1 ++ branch i ∷ []) go')

pub bind_grown : (nl : ℕ) (r : stmt.DeclaredLocal) (c0 c1 : List Line)
    → c1 ≡ c0 ++ bind_code nl (length c0) r.at r.number r.kind r.value
    → length c1 ≡ length c0 + (option_size r.value + 1)
bind_grown nl r c0 c1 e =
    grown c0 c1 (bind_code nl (length c0) r.at r.number r.kind r.value) (option_size r.value + 1) e
    (bind_long r.value nl (length c0) r.number r.at r.kind)

pub alone_grown : (nl : ℕ) (v : expr.Value) (c0 c1 : List Line) → c1 ≡ c0 ++ value_code nl (length c0) v
    → length c1 ≡ length c0 + expr_size v
alone_grown nl v c0 c1 e = grown c0 c1 (value_code nl (length c0) v) (expr_size v) e (value_long v nl (length c0))
