-- The instructions that read or write a place read no temporary that they did not write before.
use Rattle.std.proofs.Common.{◌≡◌, inl, inr, ℕ, ◌+◌, List, [], ◌∷◌, ◌++◌, Some, refl, subst}
use Rattle.std.proofs.Common.{arith, Bool, true, false, if◌then◌else◌}
use Rattle.std.specs.Prelude.{slice_get}
use Rattle.pungi_base.specs.declared.kind.Kind.{Kind}
use Rattle.pungi_base.specs.declared.pos.Pos.{Pos}
use Rattle.pungi_types.specs.declared.kind.ValueKind.{ValueKind}
use Rattle.pungi_resolved.specs.Values as expr
use Rattle.pungi_meaning.specs.Values.{wide}
use Rattle.pungi_code.specs.declared.atom.Atom.{Atom}
use Rattle.pungi_code.specs.declared.code.Line.{Line}
use Rattle.pungi_code.specs.declared.instr.Instr.TheVariants.{Set, Fit}
use Rattle.pungi_layout.specs.code.Sizes.{fit_size, store_size}
use Rattle.pungi_layout.specs.code.Temporaries.{column, temp}
use Rattle.pungi_layout.specs.code.ExprCode.{line, to_var, var, fit_code, old_code, store_code, above}
use Rattle.pungi_layout.specs.code.ExprCode.{stored_var, counted_var, base_var, step_code}
use Rattle.pungi_layout.specs.code.Sound.{IsPlaceSound}
use Rattle.pungi_layout.specs.liveness.Liveness.{atom_vars, Among, AreKnown, WritesFirst}
use Rattle.pungi_layout.proofs.relation.Waiting.{is_same}
use Rattle.pungi_layout.proofs.code.ExprLengths.{fit_long}
use Rattle.pungi_layout.proofs.relation.Standing.{HasAt, has_cut}
use Rattle.pungi_layout.proofs.liveness.Paths.{Within, within_all, within_more, within_both, more, by_line}

-- the base of a field stands in its variable
abbrev pub HasBase : expr.Place → ℕ → List ℕ → Type 0
HasBase (expr.field_place p base tag field) b ws = Among b ws
HasBase place b ws = Unit {0}

abbrev pub based : expr.Place → ℕ → List ℕ → List ℕ
based (expr.field_place p base tag field) b ws = b ∷ ws
based place b ws = ws

pub has_based : (place : expr.Place) (b : ℕ) (ws : List ℕ) → HasBase place b (based place b ws)
has_based (expr.field_place p base tag field) b ws = inl refl
has_based (expr.local_place p x) b ws = tt
has_based (expr.global_place p n) b ws = tt
has_based expr.no_place b ws = tt

pub base_more : (place : expr.Place) (b a : ℕ) (ws : List ℕ) → HasBase place b ws → HasBase place b (a ∷ ws)
base_more (expr.field_place p base tag field) b a ws h = inr h
base_more (expr.local_place p x) b a ws h = tt
base_more (expr.global_place p n) b a ws h = tt
base_more expr.no_place b a ws h = tt

pub within_based : (place : expr.Place) (b : ℕ) (ws : List ℕ) → Within ws (based place b ws)
within_based (expr.field_place p base tag field) b ws = within_more ws ws b (within_all ws)
within_based (expr.local_place p x) b ws = within_all ws
within_based (expr.global_place p n) b ws = within_all ws
within_based expr.no_place b ws = within_all ws

-- a conversion, where there is one, writes its target
abbrev fitted : Bool → ℕ → List ℕ → List ℕ
fitted true s ws = ws
fitted false s ws = s ∷ ws

within_fitted : (same : Bool) (s : ℕ) (ws : List ℕ) → Within ws (fitted same s ws)
within_fitted true s ws = within_all ws
within_fitted false s ws = within_more ws ws s (within_all ws)

base_fitted : (place : expr.Place) (b : ℕ) (same : Bool) (s : ℕ) (ws : List ℕ) → HasBase place b ws
    → HasBase place b (fitted same s ws)
base_fitted place b true s ws h = h
base_fitted place b false s ws h = base_more place b s ws h

among_fitted : (same : Bool) (s x : ℕ) (ws : List ℕ) → Among (if same then s else x) ws → Among s (fitted same s ws)
among_fitted true s x ws m = m
among_fitted false s x ws m = inl refl

module _ (code : List Line) (nl : ℕ) where
  pub one_more : (n pc : ℕ) (ws : List ℕ) (a : ℕ) → WritesFirst code nl n pc ws → WritesFirst code nl n pc (a ∷ ws)
  one_more n pc ws a h = more code nl n pc ws (a ∷ ws) (within_more ws ws a (within_all ws)) h

  -- after another that was written
  pub under : (n pc : ℕ) (ws : List ℕ) (t a : ℕ) → WritesFirst code nl n pc (t ∷ ws)
      → WritesFirst code nl n pc (t ∷ a ∷ ws)
  under n pc ws t a h = more code nl n pc (t ∷ ws) (t ∷ a
      ∷ ws) (within_both ws (a ∷ ws) t (within_more ws ws a (within_all ws))) h

  pub moved : (n a b : ℕ) (ws : List ℕ) → a ≡ b → WritesFirst code nl n a ws → WritesFirst code nl n b ws
  moved n a b ws e h = subst (λ x. WritesFirst code nl n x ws) e h

  pub set_first : (n pc : ℕ) (ws : List ℕ) (p : Pos) (t : ℕ) (a : Atom)
      → slice_get code pc ≡ Some (line p (Set (to_var t) a)) → AreKnown nl ws (atom_vars a)
      → WritesFirst code nl n (pc + 1) (t ∷ ws) → WritesFirst code nl n pc ws
  set_first n pc ws p t a here known next = by_line code nl n pc ws (line p (Set (to_var t) a)) here known (next, tt)

  pub old_first : (n pc : ℕ) (ws : List ℕ) (kind : ValueKind) (place : expr.Place) (t b : ℕ) → IsPlaceSound nl place
      → HasBase place b ws → HasAt code pc (old_code kind place t b) → WritesFirst code nl n (pc + 1) (t ∷ ws)
      → WritesFirst code nl n pc ws
  old_first n pc ws kind (expr.local_place p x) t b s k h next = by_line code nl n pc ws _ h.0 (inl s, tt) (next, tt)
  old_first n pc ws kind (expr.global_place p m) t b s k h next = by_line code nl n pc ws _ h.0 tt (next, tt)
  old_first n pc ws kind (expr.field_place p base tag field) t b s k h next = by_line code nl n pc ws _ h.0
      (inr k, tt) (next, tt)
  old_first n pc ws kind expr.no_place t b s k h next = absurd s

  -- a stored value stands in the variable of the whole afterwards
  copy_first : (n pc : ℕ) (ws : List ℕ) (p : Pos) (t v : ℕ) → Among v ws
      → slice_get code (pc + 1) ≡ Some (line p (Set (to_var t) (var v))) → WritesFirst code nl n (pc + 2) (t ∷ ws)
      → WritesFirst code nl n (pc + 1) ws
  copy_first n pc ws p t v m here next =
      let e : pc + 2 ≡ pc + 1 + 1 = omega arith in
      set_first n (pc + 1) ws p t (var v) here (inr m, tt) (moved n (pc + 2) (pc + 1 + 1) (t ∷ ws) e next)

  pub store_first : (n pc : ℕ) (ws : List ℕ) (kind : ValueKind) (place : expr.Place) (t b v : ℕ) → IsPlaceSound nl place
      → HasBase place b ws → Among v ws → HasAt code pc (store_code kind place t b v)
      → WritesFirst code nl n (pc + store_size) (t ∷ ws) → WritesFirst code nl n pc ws
  store_first n pc ws kind (expr.local_place p x) t b v s k m h next =
      by_line code nl n pc ws _ h.0 (inr m, tt) (one_more n (pc + 1) ws x (copy_first n pc ws p t v m h.1.0 next), tt)
  store_first n pc ws kind (expr.global_place p g) t b v s k m h next =
      by_line code nl n pc ws _ h.0 (inr m, tt) (copy_first n pc ws p t v m h.1.0 next, tt)
  store_first n pc ws kind (expr.field_place p base tag field) t b v s k m h next =
      by_line code nl n pc ws _ h.0 (inr k, (inr m, tt)) (copy_first n pc ws p t v m h.1.0 next, tt)
  store_first n pc ws kind expr.no_place t b v s k m h next = absurd s

  fit_first : (same : Bool) (n pc : ℕ) (ws : List ℕ) (p : Pos) (kind : ValueKind) (s x : ℕ)
      → Among (if same then s else x) ws → HasAt code pc (if same then [] else line p
      (Fit (to_var s) kind (var (if same then s else x))) ∷ [])
      → WritesFirst code nl n (pc + (if same then 0 else 1)) (fitted same s ws) → WritesFirst code nl n pc ws
  fit_first true n pc ws p kind s x m h next = let e : pc + 0 ≡ pc = omega arith in moved n (pc + 0) pc ws e next
  fit_first false n pc ws p kind s x m h next = by_line code nl n pc ws _ h.0 (inr m, tt) (next, tt)

  pub put_first : (n pc : ℕ) (ws : List ℕ) (p : Pos) (kind counted : ValueKind) (place : expr.Place) (d t b : ℕ)
      → IsPlaceSound nl place → HasBase place b ws → Among (counted_var nl place d kind counted) ws
      → HasAt code pc (fit_code p kind counted (stored_var nl place d kind) (counted_var nl place d kind counted)
      ++ store_code kind place t b (stored_var nl place d kind))
      → WritesFirst code nl n (pc + (fit_size kind counted + store_size)) (t ∷ ws) → WritesFirst code nl n pc ws
  put_first n pc ws p kind counted place d t b s k m h next =
      let same = is_same kind counted in
      let v = stored_var nl place d kind in
      let x = temp nl (above place d) (column counted) in
      let g = has_cut code pc (fit_size kind counted) (fit_code p kind counted v
      (counted_var nl place d kind counted)) (store_code kind place t b v) (fit_long same
      (line p (Fit (to_var v) kind (var (counted_var nl place d kind counted))))) h in
      let e : pc + (fit_size kind counted + store_size) ≡ pc + fit_size kind counted + store_size = omega arith in
      let next' = more code nl n _ (t ∷ ws) (t ∷ fitted same v ws) (within_both ws (fitted same v ws) t
      (within_fitted same v ws)) (moved n _ _ (t ∷ ws) e next) in
      fit_first same n pc ws p kind v x m g.0 (store_first n (pc + fit_size kind counted) (fitted same v ws) kind
      place t b v s (base_fitted place b same v ws k) (among_fitted same v x ws m) g.1 next')

  -- `++` and `--`, once the old content is there
  pub step_first : (n pc : ℕ) (ws : List ℕ) (p : Pos) (m : Kind) (kind : ValueKind) (place : expr.Place) (d t : ℕ)
      → IsPlaceSound nl place → HasBase place (base_var nl place d) ws
      → Among (temp nl (above place d) (column kind)) ws → HasAt code pc (step_code nl d t p m kind place)
      → WritesFirst code nl n (pc + 1 + (fit_size kind (wide kind) + store_size)) (t ∷ ws)
      → WritesFirst code nl n pc ws
  step_first n pc ws p m kind place d t s k o h next =
      let c = counted_var nl place d kind (wide kind) in
      by_line code nl n pc ws _ h.0 (inr o, tt) (
        put_first n (pc + 1) (c ∷ ws) p kind (wide kind) place d t (base_var nl place d) s
            (base_more place (base_var nl place d) c ws k) (inl refl) h.1 (under n _ ws t c next),
        tt,
      )
