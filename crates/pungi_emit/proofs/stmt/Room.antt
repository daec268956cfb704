-- The parts of a statement are within the limits that the statement is within.
use Rattle.std.proofs.Common.{◌≡◌, ℕ, ◌+◌, ◌*◌, ◌<◌, ◌≤◌, ◌^◌, List, ◌++◌, length, Option, Some, None, false, ap, ◌∙◌}
use Rattle.std.proofs.Common.{refl}
use Rattle.pungi_base.specs.declared.pos.Pos.{Pos}
use Rattle.pungi_resolved.specs.ActionView.{actions_of}
use Rattle.pungi_resolved.specs.Actions as stmt
use Rattle.pungi_resolved.specs.Values as expr
use Rattle.pungi_meaning.specs.Stmts.{block_cases}
use Rattle.pungi_meaning.specs.Work.{block_locals}
use Rattle.pungi_code.specs.declared.code.Line.{Line}
use Rattle.pungi_code.specs.Limits.{most_instructions}
use Rattle.pungi_layout.specs.code.Sound.{IsOptionSound, IsOptionWanted, IsStmtSound, stmt_nodes}
use Rattle.pungi_layout.specs.code.Sizes.{expr_size, option_size, declare_size, stmt_size, stmts_size}
use Rattle.pungi_layout.specs.code.Sizes.{switch_size}
use Rattle.pungi_layout.specs.code.StmtCode.{unset_code, option_code, declare_code}
use Rattle.pungi_emit.specs.planning.LabelPlaces.{list_starts}
use Rattle.pungi_emit.specs.stmt.Cases.{cases_at, is_block}
use Rattle.pungi_layout.proofs.code.StmtLengths.{unset_long, option_long, declare_long, cases_long}
use Rattle.pungi_emit.proofs.expr.ExprCode.{grown}
use Rattle.pungi_emit.proofs.stmt.Cases.{cases_placed}
use Rattle.pungi_emit.proofs.stmt.StmtCode.{as_actions}

-- what an emitter of a statement requires
abbrev pub Room : ℕ → ℕ → stmt.Action → Type 0
Room nl pc a = IsStmtSound nl a × (stmt_nodes a < 2 ^ 16) × (pc + stmt_size a ≤ most_instructions)

pub block_is : (p q : Pos) (list : List stmt.Action)
    → stmt_size (stmt.block p (actions_of list) q) ≡ length (block_locals list) + stmts_size (actions_of list)
block_is p q list = ap (λ l. length (block_locals l) + stmts_size (actions_of list)) (as_actions list)

pub switch_is : (p r q : Pos) (v : expr.Value) (list : List stmt.Action)
    → stmt_size (stmt.switch p v (stmt.block r (actions_of list) q)) ≡ expr_size v + (length (block_locals list)
    + 2 * length (block_cases list) + 1 + stmts_size (actions_of list))
switch_is p r q v list =
    ap (λ l. expr_size v + (length (block_locals l) + 2 * length (block_cases l) + 1 + stmts_size (actions_of list)))
    (as_actions list)

pub switched_is : (r q : Pos) (list : List stmt.Action) → switch_size (stmt.block r (actions_of list) q)
    ≡ length (block_locals list) + 2 * length (block_cases list) + 1 + stmts_size (actions_of list)
switched_is r q list =
    ap (λ l. length (block_locals l) + 2 * length (block_cases l) + 1 + stmts_size (actions_of list)) (as_actions list)

pub cases_are : (list : List stmt.Action) (pc : ℕ) (starts : List ℕ) → starts ≡ list_starts pc list
    → length (cases_at list starts) ≡ length (block_cases list)
cases_are list pc starts h =
    ap (λ l. length (cases_at list l)) h ∙ ap length (cases_placed list pc) ∙ cases_long list pc

pub skipped_size : (p : Pos) (v : expr.Value) (a : stmt.Action) → is_block a ≡ false
    → stmt_size (stmt.switch p v a) ≡ expr_size v + (1 + stmt_size a)
skipped_size p v (stmt.block r ss q) h = absurd cc
skipped_size p v (stmt.declare p' rs) h = refl
skipped_size p v (stmt.do_expr p' u) h = refl
skipped_size p v (stmt.if_only p' c a) h = refl
skipped_size p v (stmt.if_else p' c a b) h = refl
skipped_size p v (stmt.while p' c a) h = refl
skipped_size p v (stmt.do_while p' a c) h = refl
skipped_size p v (stmt.for p' rs u c w a) h = refl
skipped_size p v (stmt.switch p' u a) h = refl
skipped_size p v (stmt.case p' n a) h = refl
skipped_size p v (stmt.default p' a) h = refl
skipped_size p v (stmt.label p' l a) h = refl
skipped_size p v (stmt.goto p' l) h = refl
skipped_size p v (stmt.break p') h = refl
skipped_size p v (stmt.continue p') h = refl
skipped_size p v (stmt.return p' k u) h = refl

-- ---- how far instructions reach

pub unset_grown : (p : Pos) (rs : List stmt.DeclaredLocal) (c0 c1 : List Line) → c1 ≡ c0 ++ unset_code p rs
    → length c1 ≡ length c0 + length rs
unset_grown p rs c0 c1 e = grown c0 c1 (unset_code p rs) (length rs) e (unset_long rs p)

pub declare_grown : (nl : ℕ) (rs : List stmt.DeclaredLocal) (c0 c1 : List Line)
    → c1 ≡ c0 ++ declare_code nl (length c0) rs → length c1 ≡ length c0 + declare_size rs
declare_grown nl rs c0 c1 e = grown c0 c1 (declare_code nl (length c0) rs) (declare_size rs) e
    (declare_long rs nl (length c0))

pub option_grown : (nl : ℕ) (o : Option expr.Value) (c0 c1 : List Line) → c1 ≡ c0 ++ option_code nl (length c0) o
    → length c1 ≡ length c0 + option_size o
option_grown nl o c0 c1 e = grown c0 c1 (option_code nl (length c0) o) (option_size o) e (option_long o nl (length c0))

pub wanted_sound : (nl : ℕ) (o : Option expr.Value) → IsOptionWanted nl o → IsOptionSound nl o
wanted_sound nl None h = tt
wanted_sound nl (Some v) h = h.1
