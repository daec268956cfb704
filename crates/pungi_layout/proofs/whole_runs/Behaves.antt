-- The code of a function behaves as the function.
use Rattle.std.proofs.Common.{◌≡◌, ℕ, zero, suc, ◌+◌, ◌-◌, ◌≤◌, List, [], ◌∷◌, ◌++◌, length, map, replicate, refl, sym}
use Rattle.std.proofs.Common.{ap, ◌∙◌, subst, arith, length-append, Bool, true, false, Option, Some}
use Rattle.pungi_base.specs.declared.pos.Pos.{Pos}
use Rattle.pungi_base.specs.declared.value.Value.{Value}
use Rattle.pungi_types.specs.Operators.{is_void}
use Rattle.pungi_resolved.specs.Functions.{ResolvedFunction}
use Rattle.pungi_world.specs.declared.content.Content.{Content}
use Rattle.pungi_world.specs.declared.content.Content.TheVariants.{Unset, Holds}
use Rattle.pungi_meaning.specs.Todo.{State, ToEnd}
use Rattle.pungi_meaning.specs.Frames.{numbered}
use Rattle.pungi_meaning.specs.Frames as meant
use Rattle.pungi_meaning.specs.Run.{closing_brace, body_of}
use Rattle.pungi_meaning.specs.Run as meant_run
use Rattle.pungi_meaning.specs.Work.{content_at}
use Rattle.pungi_code.specs.declared.code.Code.{Code}
use Rattle.pungi_code.specs.declared.code.Line.{Line}
use Rattle.pungi_code.specs.Frames.{code_numbered, with_params}
use Rattle.pungi_code.specs.Registers.{Regs}
use Rattle.pungi_code.specs.Run.{among, start}
use Rattle.pungi_code.proofs.Simulation.{Begins, Begin, alike_by}
use Rattle.pungi_layout.specs.code.Sizes.{stmt_size}
use Rattle.pungi_layout.specs.code.Scopes.{everywhere}
use Rattle.pungi_layout.specs.code.StmtCode.{stmt_code, end_code, body_code}
use Rattle.pungi_layout.specs.code.VarKinds.{var_kinds}
use Rattle.pungi_layout.specs.code.FunctionCode.{code_of}
use Rattle.pungi_layout.specs.alike.Weights.{weight}
use Rattle.pungi_layout.specs.alike.Correct.{IsSoundFunction, HasCode, CallsThere, AreLaidOut, Behaves}
use Rattle.pungi_layout.specs.alike.Correct.{IsAlikeIfLaidOut}
use Rattle.pungi_layout.proofs.relation.Relation.{EndAt}
use Rattle.pungi_layout.proofs.relation.Remaining.{at_once}
use Rattle.pungi_layout.proofs.whole_runs.WholeRuns.{IsReached, simulates}
use Rattle.pungi_layout.proofs.whole_runs.WeightCounts.{stmt_light}
use Rattle.pungi_layout.proofs.relation.Standing.{HasAt, has_all, has_cut}
use Rattle.pungi_layout.proofs.code.StmtLengths.{stmt_long}
use Rattle.pungi_layout.proofs.code.VarLengths.{map_long}
use Rattle.pungi_layout.proofs.code.VarLengths as code_vars
use Rattle.pungi_layout.proofs.relation.PlacedStmts.{stmt_placed}

end_placed : (v : Bool) (code : List Line) (nl room pc : ℕ) (p : Pos) → HasAt code pc (end_code p v)
    → EndAt code nl room v p pc
end_placed true code nl room pc p h = h.0
end_placed false code nl room pc p h = h.0

unset_long : (n : ℕ) → length (replicate n Unset) ≡ n
unset_long zero = refl
unset_long (suc n) = ap suc (unset_long n)

-- unset variables after the same ones
same_unset : (m n x : ℕ) → content_at (replicate m Unset) x ≡ content_at (replicate n Unset) x
same_unset m n x = is_unset m x ∙ sym (is_unset n x)
  where
    is_unset : (n x : ℕ) → content_at (replicate n Unset) x ≡ Unset
    is_unset zero zero = refl
    is_unset zero (suc x) = refl
    is_unset (suc n) zero = refl
    is_unset (suc n) (suc x) = is_unset n x

same_behind : (as' : List Content) (m n x : ℕ)
    → content_at (as' ++ replicate m Unset) x ≡ content_at (as' ++ replicate n Unset) x
same_behind [] m n x = same_unset m n x
same_behind (a ∷ as') m n zero = refl
same_behind (a ∷ as') m n (suc x) = same_behind as' m n x

vars_long : (vs : List Value) (n : ℕ) → length vs ≤ n → length (map Holds vs ++ replicate (n - length vs) Unset) ≡ n
vars_long vs n le =
    let e = length-append (map Holds vs) (replicate (n - length vs) Unset) in
    let m = map_long Holds vs in
    let u = unset_long (n - length vs) in
    omega (arith, e, m, u, le)

module _ (most : ℕ) (Kept : List Line → Type 0) where
  small : (f : ResolvedFunction) → IsSoundFunction f most → weight (body_of f) ≤ most
  small f so = let a = stmt_light f.body in let n = so.nodes in omega (arith, a, n)

  -- a function stands in its code, with its arguments in its first variables
  stands : (f : ResolvedFunction) → IsSoundFunction f most → Kept (code_of f).instrs → (args : List Value) (s : State)
      (m : Regs) → length args ≤ f.locals → m.world ≡ s.world → m.used ≡ s.used
      → IsReached most Kept (code_of f).instrs (body_of f) (meant.with_params f args s) 0
      (with_params (code_of f) args m)
  stands f so q args s m le ew eu =
      let nl = f.locals in
      let room = length (var_kinds f) in
      let wide = code_vars.vars_long f so.locals in
      let code = body_code f in
      let size = stmt_size f.body in
      let body = stmt_code nl (everywhere size) 0 f.body in
      let h = has_all code [] in
      let g = has_cut code 0 size body (end_code (closing_brace f.body) (is_void f.result))
      (stmt_long f.body nl (everywhere size) 0) h in
      let z : 0 + size ≡ size = omega arith in
      let e : size ≡ 0 + size = omega arith in
      let light = small f so in (
        nl,
        room,
        (
          everywhere size,
          [],
          at_once code nl room (everywhere size) (body_of f) 0 [] (
            refl,
            stmt_placed code nl room f.body (everywhere size) 0 (omega (arith, wide)) so.sound g.0,
            at_once code nl room (everywhere size) (ToEnd (closing_brace f.body) (is_void f.result) ∷ []) (0 + size) []
                (refl, e, e, λ l. e, end_placed (is_void f.result) code nl room (0 + size) (closing_brace f.body) g.1),
          ),
          record {
            world = ew;
            used = eu;
            locals = λ x lt. same_behind (map Holds args) (room - length args) (nl - length args) x;
            stack = tt;
            long = vars_long args room (omega (arith, le, wide));
            few = vars_long args nl le;
            enough = omega (arith, wide);
          },
        ),
        (omega (arith, light), (tt, tt)),
        q,
      )

  begins : (f : ResolvedFunction) → IsSoundFunction f most → Kept (code_of f).instrs
      → Begins (IsReached most Kept) weight most f (code_of f)
  begins f so q = record {
    params = refl;
    small = small f so;
    stands = λ args s m long ew eu.
        let locals = so.locals in stands f so q args s m (omega (arith, long, locals)) ew eu;
  }

module _ (most : ℕ) (fs : List (Option ResolvedFunction)) (codes : List (Option Code)) where
  begin_at : AreLaidOut fs codes most → (n : ℕ) → HasCode codes n
      → Begin (IsReached most (CallsThere codes)) weight most (numbered fs n) (code_numbered codes n)
  begin_at all n has =
      let h = all n has.0 has.1 in
      let f = h.function in
      let q : CallsThere codes (code_of f).instrs = subst (λ (c : Code). CallsThere codes c.instrs) h.is h.calls in
      let coded : code_numbered codes n ≡ Some (code_of f) = has.1 ∙ ap (λ (c : Code). Some c) h.is in
      subst (λ (g : Option ResolvedFunction). Begin (IsReached most (CallsThere codes)) weight most g
      (code_numbered codes n)) (sym h.there) (subst (λ (c : Option Code). Begin
      (IsReached most (CallsThere codes)) weight most (Some f) c) (sym coded) (begins most (CallsThere codes) f h.sound
      q))

  pub behaves : (f : ResolvedFunction) → 1 ≤ most → AreLaidOut fs codes most → IsSoundFunction f most
      → CallsThere codes (code_of f).instrs → Behaves fs codes f (code_of f) most
  behaves f some all so q = record {
    alike = λ entry choices le.
        alike_by (IsReached most (CallsThere codes)) weight most fs codes choices (HasCode codes) (begin_at all) some
        (λ code k s pc m h place p x n as' at. h.4 place p x n as' at)
        (λ below code k s pc m h. simulates most (CallsThere codes) some (among codes choices below) code k s pc m h)
        (code_of f).instrs (body_of f) (meant_run.start f entry) 0 (start (code_of f) entry)
        (stands most (CallsThere codes) f so q entry.args (meant_run.start f entry) (start (code_of f) entry) le refl
        refl) (small most (CallsThere codes) f so);
  }

-- .. with the bound that five steps a node give
pub laid_out : (f : ResolvedFunction) → IsAlikeIfLaidOut f
laid_out f fs codes all so q = behaves 65536 fs codes f (omega arith) all so q
