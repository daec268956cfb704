-- Where a value that stands alone begins, a declared local, or a test, no path reads a temporary before it writes it.
use Rattle.std.proofs.Common.{◌≡◌, inl, inr, ℕ, zero, suc, ◌+◌, List, [], ◌∷◌, length, Option, Some, None, refl, sym}
use Rattle.std.proofs.Common.{subst, arith, Bool, true, false}
use Rattle.std.specs.Prelude.{slice_get}
use Rattle.pungi_base.specs.declared.names.Name.{Name}
use Rattle.pungi_base.specs.declared.pos.Pos.{Pos}
use Rattle.pungi_types.specs.declared.kind.ValueKind.{ValueKind}
use Rattle.pungi_resolved.specs.Values as expr
use Rattle.pungi_resolved.specs.Actions as stmt
use Rattle.pungi_code.specs.declared.code.Line.{Line}
use Rattle.pungi_code.specs.declared.instr.Instr.TheVariants.{Jump}
use Rattle.pungi_layout.specs.code.Parts.{gives}
use Rattle.pungi_layout.specs.code.Sizes.{expr_size, option_size, declare_size, test_size}
use Rattle.pungi_layout.specs.code.Temporaries.{temp_of, operand, local_column}
use Rattle.pungi_layout.specs.code.ExprCode.{line, at_label, expr_code}
use Rattle.pungi_layout.specs.code.Scopes.{Env, in_loop, in_switch}
use Rattle.pungi_layout.specs.code.StmtCode.{unset_code, value_code, option_code, bind_code, declare_code, test_code}
use Rattle.pungi_layout.specs.code.StmtCode.{tested_code}
use Rattle.pungi_layout.specs.code.Sound.{IsWanted, IsOptionSound, IsOptionWanted, AreDeclared}
use Rattle.pungi_layout.specs.liveness.Liveness.{WritesFirst}
use Rattle.pungi_layout.proofs.code.ExprLengths.{expr_long}
use Rattle.pungi_layout.proofs.code.StmtLengths.{value_long, bind_long}
use Rattle.pungi_layout.proofs.relation.Standing.{HasAt, has_cut}
use Rattle.pungi_layout.proofs.liveness.Paths.{shorter, by_line, by_last}
use Rattle.pungi_layout.proofs.liveness.Places.{one_more, moved}
use Rattle.pungi_layout.proofs.liveness.Calls.{left}
use Rattle.pungi_layout.proofs.liveness.Exprs.{given, expr_first}

module _ (code : List Line) (nl : ℕ) where
  abbrev pub Dead : ℕ → ℕ → Type 0
  Dead n pc = WritesFirst code nl n pc []

  abbrev pub EnvDead : ℕ → Env → Type 0
  EnvDead n env = Dead n env.breaks × Dead n env.continues × ((l : Name) → Dead n (env.labels l))

  -- a jump is an instruction, so that what is after it is shorter
  abbrev pub EnvBelow : ℕ → Env → Type 0
  EnvBelow zero env = Unit {0}
  EnvBelow (suc n) env = EnvDead n env

  pub dead_at : (n a b : ℕ) → a ≡ b → Dead n a → Dead n b
  dead_at n a b e h = moved code nl n a b [] e h

  env_shorter : (n : ℕ) (env : Env) → EnvDead (suc n) env → EnvDead n env
  env_shorter n env h = (
    shorter code nl n env.breaks [] h.0,
    shorter code nl n env.continues [] h.1,
    λ l. shorter
        code nl n (env.labels l) [] (h.2 l),
  )

  pub below_shorter : (n : ℕ) (env : Env) → EnvBelow (suc n) env → EnvBelow n env
  below_shorter zero env h = tt
  below_shorter (suc n) env h = env_shorter n env h

  pub loop_below : (n : ℕ) (env : Env) (continues end : ℕ) → EnvBelow n env → Dead n end → Dead n continues
      → EnvBelow n (in_loop env continues end)
  loop_below zero env continues end h e c = tt
  loop_below (suc n) env continues end h e c = (shorter code nl n end [] e, shorter code nl n continues [] c, h.2)

  pub switch_below : (n : ℕ) (env : Env) (end : ℕ) → EnvBelow n env → Dead n end → EnvBelow n (in_switch env end)
  switch_below zero env end h e = tt
  switch_below (suc n) env end h e = (shorter code nl n end [] e, h.1, h.2)

  -- ---- values

  left_dead : (b : Bool) (n pc t : ℕ) → Dead n pc → WritesFirst code nl n pc (left b t [])
  left_dead true n pc t h = one_more code nl n pc [] t h
  left_dead false n pc t h = h

  pub option_dead : (o : Option expr.Value) (pc n : ℕ) → IsOptionSound nl o → HasAt code pc (option_code nl pc o)
      → Dead n (pc + option_size o) → Dead n pc
  option_dead None pc n s h next = let e : pc + 0 ≡ pc = omega arith in dead_at n _ _ e next
  option_dead (Some v) pc n s h next = expr_first code nl v 0 (temp_of nl 0 v) pc n [] s h
      (left_dead (gives v) n (pc + expr_size v) (temp_of nl 0 v) next)

  pub wanted_first : (v : expr.Value) (x pc n : ℕ) → IsWanted nl v → HasAt code pc (expr_code nl 0 x pc v)
      → WritesFirst code nl n (pc + expr_size v) (x ∷ []) → Dead n pc
  wanted_first v x pc n s h next = expr_first code nl v 0 x pc n [] s.1 h
      (given code nl (gives v) n (pc + expr_size v) x [] s.0 next)

  pub unset_first : (rs : List stmt.DeclaredLocal) (p : Pos) (pc n : ℕ) (ws : List ℕ)
      → HasAt code pc (unset_code p rs) → WritesFirst code nl n (pc + length rs) ws → WritesFirst code nl n pc ws
  unset_first [] p pc n ws h next = let e : pc + 0 ≡ pc = omega arith in moved code nl n _ _ ws e next
  unset_first (r ∷ rs) p pc n ws h next =
      let e : pc + suc (length rs) ≡ pc + 1 + length rs = omega arith in
      by_line code nl n pc ws _ h.0 tt (
        one_more code nl n (pc + 1) ws r.number
            (unset_first rs p (pc + 1) n ws h.1 (moved code nl n _ _ ws e next)),
        tt,
      )

  bind_dead : (o : Option expr.Value) (pc n x : ℕ) (p : Pos) (kind : Option ValueKind) → IsOptionWanted nl o
      → HasAt code pc (bind_code nl pc p x kind o) → Dead n (pc + (option_size o + 1)) → Dead n pc
  bind_dead None pc n x p kind s h next = by_line code nl n pc [] _ h.0 tt (one_more code nl n (pc + 1) [] x next, tt)
  bind_dead (Some v) pc n x p kind s h next =
      let y = operand nl 0 (local_column kind) v in
      let g = has_cut code pc (expr_size v) (expr_code nl 0 y pc v) _ (expr_long v nl 0 y pc) h in
      let e : pc + (expr_size v + 1) ≡ pc + expr_size v + 1 = omega arith in
      wanted_first v y pc n s g.0
      (by_line code nl n (pc + expr_size v) (y ∷ []) _ g.1.0 (inr (inl refl), tt)
      (one_more code nl n _ (y ∷ []) x (one_more code nl n _ [] y (dead_at n _ _ e next)), tt))

  pub declare_dead : (rs : List stmt.DeclaredLocal) (pc n : ℕ) → AreDeclared nl rs
      → HasAt code pc (declare_code nl pc rs) → Dead n (pc + declare_size rs) → Dead n pc
  declare_dead [] pc n s h next = let e : pc + 0 ≡ pc = omega arith in dead_at n _ _ e next
  declare_dead (r ∷ rs) pc n s h next =
      let q = pc + option_size r.value + 1 in
      let f : pc + (option_size r.value + 1) ≡ q = omega arith in
      let e : pc + (option_size r.value + 1 + declare_size rs) ≡ q + declare_size rs = omega arith in
      let g = has_cut code pc (option_size r.value + 1) (bind_code nl pc r.at r.number r.kind r.value) _
      (bind_long r.value nl pc r.number r.at r.kind) h in
      let rest = declare_dead rs q n s.2 (subst (λ x. HasAt code x (declare_code nl q rs)) f g.1)
      (dead_at n _ _ e next) in
      bind_dead r.value pc n r.number r.at r.kind s.1 g.0 (dead_at n _ _ (sym f) rest)

  pub test_dead : (c : expr.Value) (pc go other n : ℕ) → IsWanted nl c
      → HasAt code pc (test_code nl pc c go other) → Dead n go → Dead n other → Dead n pc
  test_dead c pc go other n s h this that =
      let x = temp_of nl 0 c in
      let g = has_cut code pc (expr_size c) (value_code nl pc c) _ (value_long c nl pc) h in
      wanted_first c x pc n s g.0
      (by_line code nl n (pc + expr_size c) (x ∷ []) _ g.1.0 (inr (inl refl), tt)
      (one_more code nl n go [] x this, (one_more code nl n other [] x that, tt)))

  -- a loop's test, where there is one, and else its body
  pub tested_dead : (o : Option expr.Value) (pc other n : ℕ) → IsOptionWanted nl o
      → HasAt code pc (tested_code nl pc o (pc + test_size o) other) → Dead n (pc + test_size o) → Dead n other
      → Dead n pc
  tested_dead None pc other n s h this that = let e : pc + 0 ≡ pc = omega arith in dead_at n _ _ e this
  tested_dead (Some c) pc other n s h this that = test_dead c pc (pc + (expr_size c + 1)) other n s h this that

  pub jump_dead : (n pc to : ℕ) (p : Pos) → slice_get code pc ≡ Some (line p (Jump (at_label to))) → Dead n to
      → Dead n pc
  jump_dead n pc to p here next = by_line code nl n pc [] _ here tt (next, tt)

  -- what is after a jump is shorter
  pub far_jump_dead : (n pc to : ℕ) (p : Pos) → slice_get code pc ≡ Some (line p (Jump (at_label to)))
      → ((m : ℕ) → n ≡ suc m → Dead m to) → Dead n pc
  far_jump_dead zero pc to p here next = tt
  far_jump_dead (suc n) pc to p here next = by_last code nl n pc [] _ here tt (next n refl, tt)
