-- An instruction that reads or writes a place leads to one of the same statement, further on, or to where no temporary
-- is kept.
use Rattle.std.proofs.Common.{◌≡◌, ◌⊎◌, inl, inr, ℕ, ◌+◌, ◌<◌, List, [], ◌∷◌, ◌++◌, length, Some, refl, sym, subst}
use Rattle.std.proofs.Common.{arith, Bool, true, false, if◌then◌else◌}
use Rattle.std.specs.Prelude.{slice_get}
use Rattle.pungi_base.specs.declared.kind.Kind.{Kind}
use Rattle.pungi_base.specs.declared.pos.Pos.{Pos}
use Rattle.pungi_types.specs.declared.kind.ValueKind.{ValueKind}
use Rattle.pungi_resolved.specs.Values as expr
use Rattle.pungi_resolved.specs.Actions as stmt
use Rattle.pungi_meaning.specs.Values.{wide, slot_kind}
use Rattle.pungi_code.specs.declared.code.Line.{Line}
use Rattle.pungi_code.specs.declared.instr.Instr.{Instr}
use Rattle.pungi_code.specs.declared.instr.Instr.TheVariants.{Set, Store}
use Rattle.pungi_code.specs.declared.place.Place.TheVariants.{Global, Field}
use Rattle.pungi_layout.specs.code.Sizes.{fit_size, store_size}
use Rattle.pungi_layout.specs.code.ExprCode.{line, to_var, var, branch_on, fit_code, old_code, store_code, stored_var}
use Rattle.pungi_layout.specs.code.ExprCode.{counted_var, base_var, step_code}
use Rattle.pungi_layout.specs.code.Sound.{IsPlaceSound}
use Rattle.pungi_layout.specs.liveness.Liveness.{following, AreDead}
use Rattle.pungi_layout.specs.liveness.Boundaries.{place_positions, own, IsAmong, IsPart}
use Rattle.pungi_layout.proofs.relation.Waiting.{is_same}
use Rattle.pungi_layout.proofs.code.ExprLengths.{fit_long}
use Rattle.pungi_layout.proofs.relation.Standing.{HasAt, has_cut}

abbrev pub Covers : List Pos → List Pos → Type 0
Covers ps qs = (p : Pos) → IsAmong p ps → IsAmong p qs

pub covers_front : (ps qs rs : List Pos) → Covers (ps ++ qs) rs → Covers ps rs
covers_front [] qs rs h p m = absurd m
covers_front (a ∷ ps) qs rs h p (inl e) = h p (inl e)
covers_front (a ∷ ps) qs rs h p (inr m) = covers_front ps qs rs (λ x k. h x (inr k)) p m

pub covers_back : (ps qs rs : List Pos) → Covers (ps ++ qs) rs → Covers qs rs
covers_back [] qs rs h p m = h p m
covers_back (a ∷ ps) qs rs h p m = covers_back ps qs rs (λ x k. h x (inr k)) p m

module _ (code : List Line) (nl : ℕ) (all : List stmt.Action) where
  -- an instruction of a statement's own nodes stands there
  abbrev pub Inside : stmt.Action → ℕ → Type 0
  Inside a q = (l : Line) × (slice_get code q ≡ Some l) × IsAmong l.pos (own a)

  abbrev pub Fine : ℕ → Pos → ℕ → Type 0
  Fine i p q = AreDead code nl q ⊎ ((i < q) × (a : stmt.Action) × IsPart a all × IsAmong p (own a) × Inside a q)

  abbrev pub EachFine : ℕ → Pos → List ℕ → Type 0
  EachFine i p [] = Unit {0}
  EachFine i p (q ∷ qs) = Fine i p q × EachFine i p qs

  abbrev pub AllFine : ℕ → List Line → Type 0
  AllFine pc [] = Unit {0}
  AllFine pc (l ∷ ls) = EachFine pc l.pos (following pc l.instr) × AllFine (pc + 1) ls

  pub all_append : (pc n : ℕ) (ls ks : List Line) → length ls ≡ n → AllFine pc ls → AllFine (pc + n) ks
      → AllFine pc (ls ++ ks)
  all_append pc n [] ks e h g = let z : pc + n ≡ pc = omega (arith, e) in subst (λ x. AllFine x ks) z g
  all_append pc n (l ∷ ls) ks e h g =
      let z : pc + n ≡ pc + 1 + length ls = omega (arith, e) in
      (h.0, all_append (pc + 1) (length ls) ls ks refl h.1 (subst (λ x. AllFine x ks) z g))

  pub fine_at : (a b : ℕ) (ls : List Line) → a ≡ b → AllFine a ls → AllFine b ls
  fine_at a b ls e h = subst (λ x. AllFine x ls) e h

  module _ (a : stmt.Action) (part : IsPart a all) where
    -- where a part of a statement may end
    abbrev pub Exit : ℕ → Type 0
    Exit q = AreDead code nl q ⊎ Inside a q

    pub exit_at : (q r : ℕ) → q ≡ r → Exit q → Exit r
    exit_at q r e h = subst Exit e h

    pub leap : (i q : ℕ) (p : Pos) → IsAmong p (own a) → i < q → Exit q → Fine i p q
    leap i q p m lt (inl dead) = inl dead
    leap i q p m lt (inr inside) = inr (lt, a, part, m, inside)

    pub step : (i : ℕ) (p : Pos) → IsAmong p (own a) → Exit (i + 1) → Fine i p (i + 1)
    step i p m exit = leap i (i + 1) p m (omega arith) exit

    -- one instruction that leads to the next
    pub here : (q : ℕ) (p : Pos) (i : Instr) → slice_get code q ≡ Some (line p i) → IsAmong p (own a) → Exit q
    here q p i e m = inr (line p i, e, m)

    pub one_fine : (pc : ℕ) (p : Pos) (i : Instr) → following pc i ≡ (pc + 1) ∷ [] → IsAmong p (own a)
        → Exit (pc + 1) → AllFine pc (line p i ∷ [])
    one_fine pc p i e m next = (subst (EachFine pc p) (sym e) (step pc p m next, tt), tt)

    -- ---- places

    pub old_enters : (pc : ℕ) (kind : ValueKind) (place : expr.Place) (t b : ℕ) → IsPlaceSound nl place
        → Covers (place_positions place) (own a) → HasAt code pc (old_code kind place t b) → Exit pc
    old_enters pc kind (expr.local_place p x) t b s c h = here pc p _ h.0 (c p (inl refl))
    old_enters pc kind (expr.global_place p n) t b s c h = here pc p _ h.0 (c p (inl refl))
    old_enters pc kind (expr.field_place p base tag field) t b s c h = here pc p _ h.0 (c p (inl refl))
    old_enters pc kind expr.no_place t b s c h = absurd s

    pub old_fine : (pc : ℕ) (kind : ValueKind) (place : expr.Place) (t b : ℕ) → IsPlaceSound nl place
        → Covers (place_positions place) (own a) → Exit (pc + 1) → AllFine pc (old_code kind place t b)
    old_fine pc kind (expr.local_place p x) t b s c next = ((step pc p (c p (inl refl)) next, tt), tt)
    old_fine pc kind (expr.global_place p n) t b s c next = ((step pc p (c p (inl refl)) next, tt), tt)
    old_fine pc kind (expr.field_place p base tag field) t b s c next = ((step pc p (c p (inl refl)) next, tt), tt)
    old_fine pc kind expr.no_place t b s c next = absurd s

    pub store_enters : (pc : ℕ) (kind : ValueKind) (place : expr.Place) (t b v : ℕ) → IsPlaceSound nl place
        → Covers (place_positions place) (own a) → HasAt code pc (store_code kind place t b v) → Exit pc
    store_enters pc kind (expr.local_place p x) t b v s c h = here pc p _ h.0 (c p (inl refl))
    store_enters pc kind (expr.global_place p n) t b v s c h = here pc p _ h.0 (c p (inl refl))
    store_enters pc kind (expr.field_place p base tag field) t b v s c h = here pc p _ h.0 (c p (inl refl))
    store_enters pc kind expr.no_place t b v s c h = absurd s

    two_fine : (pc : ℕ) (p : Pos) (i j : Instr) → following pc i ≡ (pc + 1) ∷ []
        → following (pc + 1) j ≡ (pc + 1 + 1) ∷ [] → IsAmong p (own a) → slice_get code (pc + 1) ≡ Some (line p j)
        → Exit (pc + 2) → AllFine pc (line p i ∷ line p j ∷ [])
    two_fine pc p i j ei ej m h next =
        let e : pc + 2 ≡ pc + 1 + 1 = omega arith in (
          subst (EachFine pc p) (sym ei) (step pc p m (here (pc + 1) p j h m), tt),
          (subst (EachFine (pc + 1) p) (sym ej) (step (pc + 1) p m (exit_at (pc + 2) (pc + 1 + 1) e next), tt), tt),
        )

    pub store_fine : (pc : ℕ) (kind : ValueKind) (place : expr.Place) (t b v : ℕ) → IsPlaceSound nl place
        → Covers (place_positions place) (own a) → HasAt code pc (store_code kind place t b v)
        → Exit (pc + store_size) → AllFine pc (store_code kind place t b v)
    store_fine pc kind (expr.local_place p x) t b v s c h next = two_fine pc p (Set (to_var x) (var v))
        (Set (to_var t) (var v)) refl refl (c p (inl refl)) h.1.0 next
    store_fine pc kind (expr.global_place p n) t b v s c h next = two_fine pc p
        (Store (Global n (slot_kind kind)) (var v)) (Set (to_var t) (var v)) refl refl (c p (inl refl)) h.1.0 next
    store_fine pc kind (expr.field_place p base tag field) t b v s c h next =
        two_fine pc p (Store (Field (var b) tag field (slot_kind kind)) (var v)) (Set (to_var t) (var v)) refl refl
        (c p (inl refl)) h.1.0 next
    store_fine pc kind expr.no_place t b v s c h next = absurd s

    fit_enters : (same : Bool) (pc : ℕ) (p : Pos) (i : Instr) → IsAmong p (own a)
        → HasAt code pc (if same then [] else line p i ∷ []) → Exit (pc + (if same then 0 else 1)) → Exit pc
    fit_enters true pc p i m h next = let e : pc + 0 ≡ pc = omega arith in exit_at _ _ e next
    fit_enters false pc p i m h next = here pc p i h.0 m

    fit_fine : (same : Bool) (pc : ℕ) (p : Pos) (i : Instr) → following pc i ≡ (pc + 1) ∷ [] → IsAmong p (own a)
        → Exit (pc + (if same then 0 else 1)) → AllFine pc (if same then [] else line p i ∷ [])
    fit_fine true pc p i e m next = tt
    fit_fine false pc p i e m next = (subst (EachFine pc p) (sym e) (step pc p m next, tt), tt)

    module _ (p : Pos) (m : IsAmong p (own a)) (kind counted : ValueKind) (place : expr.Place) (d t b : ℕ)
        (s : IsPlaceSound nl place) (c : Covers (place_positions place) (own a)) where
      abbrev put_code : List Line
      put_code = fit_code p kind counted (stored_var nl place d kind) (counted_var nl place d kind counted)
          ++ store_code kind place t b (stored_var nl place d kind)

      put_cut : (pc : ℕ) → HasAt code pc put_code
          → HasAt code pc (fit_code p kind counted (stored_var nl place d kind) (counted_var nl place d kind counted))
          × HasAt code (pc + fit_size kind counted) (store_code kind place t b (stored_var nl place d kind))
      put_cut pc h = has_cut code pc (fit_size kind counted) (fit_code p kind counted (stored_var nl place d kind)
          (counted_var nl place d kind counted)) _ (fit_long (is_same kind counted) _) h

      pub put_enters : (pc : ℕ) → HasAt code pc put_code → Exit pc
      put_enters pc h =
          let g = put_cut pc h in
          fit_enters (is_same kind counted) pc p _ m g.0 (store_enters (pc + fit_size kind counted) kind place t b
          (stored_var nl place d kind) s c g.1)

      pub put_fine : (pc : ℕ) → HasAt code pc put_code → Exit (pc + (fit_size kind counted + store_size))
          → AllFine pc put_code
      put_fine pc h next =
          let g = put_cut pc h in
          let q = pc + fit_size kind counted in
          let e : pc + (fit_size kind counted + store_size) ≡ q + store_size = omega arith in
          let v = stored_var nl place d kind in
          all_append pc (fit_size kind counted) _ _ (fit_long (is_same kind counted) _)
          (fit_fine (is_same kind counted) pc p _ refl m (store_enters q kind place t b v s c g.1))
          (store_fine q kind place t b v s c g.1 (exit_at _ _ e next))

    pub step_fine : (pc : ℕ) (p : Pos) (m : Kind) (kind : ValueKind) (place : expr.Place) (d t : ℕ) → IsAmong p (own a)
        → IsPlaceSound nl place → Covers (place_positions place) (own a)
        → HasAt code pc (step_code nl d t p m kind place) → Exit (pc + 1 + (fit_size kind (wide kind) + store_size))
        → AllFine pc (step_code nl d t p m kind place)
    step_fine pc p m kind place d t k s c h next = (
      (step pc p k (put_enters p k kind (wide kind) place d t (base_var nl place d) s c (pc + 1) h.1), tt),
      put_fine p k kind (wide kind) place d t (base_var nl place d) s c (pc + 1) h.1 next,
    )

    pub branch_fine : (on : Bool) (pc : ℕ) (p : Pos) (x go other : ℕ) → IsAmong p (own a) → pc < go → pc < other
        → Exit go → Exit other → EachFine pc p (following pc (branch_on on x go other))
    branch_fine true pc p x go other m l k this that = (leap pc go p m l this, (leap pc other p m k that, tt))
    branch_fine false pc p x go other m l k this that = (leap pc other p m k that, (leap pc go p m l this, tt))
