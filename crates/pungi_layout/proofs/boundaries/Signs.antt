-- An instruction of a sign leads to one of the same statement, further on, or to where no temporary is kept.
use Rattle.std.proofs.Common.{◌≡◌, ℕ, ◌+◌, List, [], ◌++◌, length, refl, arith, Bool, true, false, pos}
use Rattle.pungi_base.specs.declared.pos.Pos.{Pos}
use Rattle.pungi_types.specs.declared.kind.ValueKind.{ValueKind}
use Rattle.pungi_resolved.specs.Values as expr
use Rattle.pungi_resolved.specs.Actions as stmt
use Rattle.pungi_meaning.specs.declared.op.Op.TheVariants as ops
use Rattle.pungi_code.specs.declared.atom.Atom.TheVariants as atom
use Rattle.pungi_code.specs.declared.code.Line.{Line}
use Rattle.pungi_code.specs.declared.instr.Instr.TheVariants.{Arith}
use Rattle.pungi_layout.specs.code.Sizes.{expr_size, sign_size}
use Rattle.pungi_layout.specs.code.Temporaries.{temp_of}
use Rattle.pungi_layout.specs.code.ExprCode.{to_var, var, sign_code, sign_var, expr_code}
use Rattle.pungi_layout.specs.liveness.Boundaries.{own, IsAmong, IsPart}
use Rattle.pungi_layout.proofs.relation.Standing.{HasAt, has_front, has_cut}
use Rattle.pungi_layout.proofs.boundaries.Places.{AllFine, all_append, Exit, exit_at, here, one_fine}

module _ (code : List Line) (nl : ℕ) (all : List stmt.Action) where
  module _ (a : stmt.Action) (part : IsPart a all) where
    pub signed_enters : (minus : Bool) (p : Pos) (kind : ValueKind) (v : expr.Value) (d t pc : ℕ)
        → ((t' : ℕ) → length (expr_code nl d t' pc v) ≡ expr_size v)
        → ((t' : ℕ) → HasAt code pc (expr_code nl d t' pc v) → Exit code nl all a part pc)
        → HasAt code pc (expr_code nl d (sign_var minus t (temp_of nl d v)) pc v
        ++ sign_code minus p kind t (temp_of nl d v)) → Exit code nl all a part pc
    signed_enters true p kind v d t pc long part' h = part' (temp_of nl d v)
        (has_cut code pc (expr_size v) (expr_code nl d (temp_of nl d v) pc v) _ (long (temp_of nl d v)) h).0
    signed_enters false p kind v d t pc long part' h = part' t (has_front code pc (expr_code nl d t pc v) [] h)

    pub signed_fine : (minus : Bool) (p : Pos) (kind : ValueKind) (v : expr.Value) (d t pc : ℕ) → IsAmong p (own a)
        → ((t' : ℕ) → length (expr_code nl d t' pc v) ≡ expr_size v)
        → ((t' : ℕ) → HasAt code pc (expr_code nl d t' pc v) → Exit code nl all a part (pc + expr_size v)
        → AllFine code nl all pc (expr_code nl d t' pc v))
        → HasAt code pc (expr_code nl d (sign_var minus t (temp_of nl d v)) pc
        v ++ sign_code minus p kind t (temp_of nl d v)) → Exit code nl all a part (pc + (expr_size v + sign_size minus))
        → AllFine code nl all pc (expr_code nl d (sign_var minus t (temp_of nl d v)) pc v
        ++ sign_code minus p kind t (temp_of nl d v))
    signed_fine true p kind v d t pc m long part' h next =
        let x = temp_of nl d v in
        let g = has_cut code pc (expr_size v) (expr_code nl d x pc v) _ (long x) h in
        let e : pc + (expr_size v + 1) ≡ pc + expr_size v + 1 = omega arith in
        all_append code nl all pc (expr_size v) (expr_code nl d x pc v) _ (long x) (part' x g.0
        (here code nl all a part (pc + expr_size v) p _ g.1.0 m)) (one_fine code nl all a part (pc
        + expr_size v) p (Arith (to_var t) kind ops.Sub (atom.Int (pos 0)) (var x)) refl m
        (exit_at code nl all a part _ _ e next))
    signed_fine false p kind v d t pc m long part' h next =
        let e : pc + (expr_size v + 0) ≡ pc + expr_size v = omega arith in
        all_append code nl all pc (expr_size v) (expr_code nl d t pc v) [] (long t) (part' t
        (has_front code pc (expr_code nl d t pc v) [] h) (exit_at code nl all a part _ _ e next)) tt
