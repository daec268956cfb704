-- The values of a run of a function, in the variables of its code.
use Rattle.std.proofs.Common.{◌≡◌, ◌≢◌, ℕ, zero, suc, ◌+◌, ◌*◌, ◌<◌, ◌≤◌, ◌⊎◌, List, [], ◌∷◌, ◌++◌, length, replicate}
use Rattle.std.proofs.Common.{refl, sym, ap, ◌∙◌, subst, arith, inl, inr}
use Rattle.std.specs.Prelude.{slice_set}
use Rattle.std.proofs.lemmas.Bool.{cases_eq}
use Rattle.pungi_base.specs.declared.pos.Pos.{Pos}
use Rattle.pungi_base.specs.declared.value.Value.{Value}
use Rattle.pungi_world.specs.declared.content.Content.{Content}
use Rattle.pungi_world.specs.declared.content.Content.TheVariants.{Holds}
use Rattle.pungi_world.specs.declared.world.World.{World}
use Rattle.pungi_meaning.specs.Todo.{State}
use Rattle.pungi_meaning.specs.Work.{content_at}
use Rattle.pungi_code.specs.declared.code.Line.{Line}
use Rattle.pungi_code.specs.Registers.{Regs, put}
use Rattle.pungi_layout.specs.code.ExprCode.{to_var}
use Rattle.pungi_layout.proofs.relation.Waiting.{Waiting, w, hidden}
use Rattle.pungi_layout.proofs.relation.Relation.{IsTemp}

-- ---- a variable after a write

pub set_same : (vars : List Content) (x : ℕ) (c : Content) → x < length vars → content_at (slice_set vars x c) x ≡ c
set_same [] x c h = absurd (omega arith)
set_same (v ∷ vars) zero c h = refl
set_same (v ∷ vars) (suc x) c h = set_same vars x c (omega arith)

pub set_other : (vars : List Content) (x y : ℕ) (c : Content) → x ≢ y
    → content_at (slice_set vars x c) y ≡ content_at vars y
set_other [] x y c h = refl
set_other (v ∷ vars) zero zero c h = absurd (h refl)
set_other (v ∷ vars) zero (suc y) c h = refl
set_other (v ∷ vars) (suc x) zero c h = refl
set_other (v ∷ vars) (suc x) (suc y) c h = set_other vars x y c (λ e. h (ap suc e))

pub set_long : (vars : List Content) (x : ℕ) (c : Content) → length (slice_set vars x c) ≡ length vars
set_long [] x c = refl
set_long (v ∷ vars) zero c = refl
set_long (v ∷ vars) (suc x) c = ap suc (set_long vars x c)

-- the newest value, and the others
abbrev pub OfTop : List Value → (Value → List Value → Type 0) → Type 0
OfTop [] P = ⊥
OfTop (v ∷ vs) P = P v vs

abbrev pub AreNone : List Value → Type 0
AreNone [] = Unit {0}
AreNone (v ∷ vs) = ⊥

module _ (code : List Line) (nl room : ℕ) where
  -- the values that wait stand in their variables, and so do those that are no part of the state
  abbrev pub Stack : List Content → List Value → List Waiting → Type 0
  Stack vars vs [] = AreNone vs
  Stack vars vs (w t ∷ ks) =
      OfTop vs (λ v others. (content_at vars t ≡ Holds v) × IsTemp code nl room (length ks) t × Stack vars others ks)
  Stack vars vs (hidden t v ∷ ks) =
      (content_at vars t ≡ Holds v) × IsTemp code nl room (length ks) t × Stack vars vs ks

  pub record Match (ks : List Waiting) (s : State) (m : Regs) : Type 0 where
    pub world : m.world ≡ s.world
    pub used : m.used ≡ s.used
    pub locals : (x : ℕ) → x < nl → content_at m.vars x ≡ content_at s.locals x
    pub stack : Stack m.vars s.values ks
    pub long : length m.vars ≡ room
    pub few : length s.locals ≡ nl
    pub enough : nl ≤ room

  -- a write elsewhere leaves them
  pub stack_above : (vars : List Content) (vs : List Value) (ks : List Waiting) (x : ℕ) (c : Content)
      → nl + 5 * length ks ≤ x → Stack vars vs ks → Stack (slice_set vars x c) vs ks
  stack_above vars vs [] x c h k = k
  stack_above vars [] (w t ∷ ks) x c h k = absurd k
  stack_above vars (v ∷ vs) (w t ∷ ks) x c h k =
      let up : t < nl + 5 * suc (length ks) = k.1.1 in
      let ne : x ≢ t = omega (arith, h, up) in
      (set_other vars x t c ne ∙ k.0, k.1, stack_above vars vs ks x c (omega (arith, h)) k.2)
  stack_above vars vs (hidden t v ∷ ks) x c h k =
      let up : t < nl + 5 * suc (length ks) = k.1.1 in
      let ne : x ≢ t = omega (arith, h, up) in
      (set_other vars x t c ne ∙ k.0, k.1, stack_above vars vs ks x c (omega (arith, h)) k.2)

  pub stack_below : (vars : List Content) (vs : List Value) (ks : List Waiting) (x : ℕ) (c : Content) → x < nl
      → Stack vars vs ks → Stack (slice_set vars x c) vs ks
  stack_below vars vs [] x c h k = k
  stack_below vars [] (w t ∷ ks) x c h k = absurd k
  stack_below vars (v ∷ vs) (w t ∷ ks) x c h k =
      let low : nl + 5 * length ks ≤ t = k.1.0 in
      let ne : x ≢ t = omega (arith, h, low) in
      (set_other vars x t c ne ∙ k.0, k.1, stack_below vars vs ks x c h k.2)
  stack_below vars vs (hidden t v ∷ ks) x c h k =
      let low : nl + 5 * length ks ≤ t = k.1.0 in
      let ne : x ≢ t = omega (arith, h, low) in
      (set_other vars x t c ne ∙ k.0, k.1, stack_below vars vs ks x c h k.2)

  -- a value that was computed stands above the values vs
  pub pushed : (ls : List Waiting) (s : State) (m : Regs) (vs : List Value) (ks : List Waiting) (t : ℕ) (v : Value)
      → IsTemp code nl room (length ks) t → Match ls s m → Stack m.vars vs ks
      → Match (w t ∷ ks) (record s { values = v ∷ vs }) (put (to_var t) (Holds v) m)
  pushed ls s m vs ks t v at h k =
      let long : length m.vars ≡ room = h.long in
      let low : nl + 5 * length ks ≤ t = at.0 in
      let in' : t < room = at.2 in
      record {
        world = h.world;
        used = h.used;
        locals = λ x lt.
            let ne : t ≢ x = omega (arith, lt, low) in
            set_other m.vars t x (Holds v) ne ∙ h.locals x lt;
        stack = (
          set_same m.vars t (Holds v) (omega (arith, in', long)),
          at,
          stack_above m.vars vs ks t (Holds v) low k,
        );
        long = set_long m.vars t (Holds v) ∙ h.long;
        few = h.few;
        enough = h.enough;
      }

  -- .. or, where it is no part of the state, above what waits
  pub reserved : (ks : List Waiting) (s : State) (m : Regs) (t : ℕ) (v : Value)
      → IsTemp code nl room (length ks) t → Match ks s m → Match (hidden t v ∷ ks) s (put (to_var t) (Holds v) m)
  reserved ks s m t v at h =
      let p = pushed ks s m s.values ks t v at h h.stack in record {
        world = p.world;
        used = p.used;
        locals = p.locals;
        stack = p.stack;
        long = p.long;
        few = p.few;
        enough = p.enough;
      }

  -- fewer values
  pub popped : (ls : List Waiting) (s : State) (m : Regs) (vs : List Value) (ks : List Waiting) → Match ls s m
      → Stack m.vars vs ks → Match ks (record s { values = vs }) m
  popped ls s m vs ks h k = record {
    world = h.world;
    used = h.used;
    locals = h.locals;
    stack = k;
    long = h.long;
    few = h.few;
    enough = h.enough;
  }

  -- a local that was written
  assigned_local : (locals vars : List Content) (x y : ℕ) (c : Content) → x < length locals → x < length vars
      → (x ≡ y) ⊎ (x ≢ y) → content_at vars y ≡ content_at locals y
      → content_at (slice_set vars x c) y ≡ content_at (slice_set locals x c) y
  assigned_local locals vars x y c a b (inl e) h =
      subst (λ z. content_at (slice_set vars x c) z ≡ content_at (slice_set locals x c) z) e
      (set_same vars x c b ∙ sym (set_same locals x c a))
  assigned_local locals vars x y c a b (inr ne) h = set_other vars x y c ne ∙ h ∙ sym (set_other locals x y c ne)

  pub assigned : (ks : List Waiting) (s : State) (m : Regs) (x : ℕ) (c : Content) → x < nl → Match ks s m
      → Match ks (record s { locals = slice_set s.locals x c }) (put (to_var x) c m)
  assigned ks s m x c lt h =
      let few : length s.locals ≡ nl = h.few in
      let long : length m.vars ≡ room = h.long in
      let enough : nl ≤ room = h.enough in
      record {
        world = h.world;
        used = h.used;
        locals = λ y in'. assigned_local s.locals m.vars x y c (omega (arith, lt, few))
            (omega (arith, lt, long, enough)) (cases_eq x y) (h.locals y in');
        stack = stack_below m.vars s.values ks x c lt h.stack;
        long = set_long m.vars x c ∙ h.long;
        few = set_long s.locals x c ∙ h.few;
        enough = h.enough;
      }

  -- a write above what waits
  pub written_above : (ks : List Waiting) (s : State) (m : Regs) (t : ℕ) (c : Content)
      → IsTemp code nl room (length ks) t → Match ks s m → Match ks s (put (to_var t) c m)
  written_above ks s m t c at h =
      let low : nl + 5 * length ks ≤ t = at.0 in
      record {
        world = h.world;
        used = h.used;
        locals = λ x lt.
            let ne : t ≢ x = omega (arith, lt, low) in
            set_other m.vars t x c ne ∙ h.locals x lt;
        stack = stack_above m.vars s.values ks t c low h.stack;
        long = set_long m.vars t c ∙ h.long;
        few = h.few;
        enough = h.enough;
      }

  -- in another world
  pub elsewhere : (ks : List Waiting) (s : State) (m : Regs) (x : World) (u : List Pos) → Match ks s m
      → Match ks (record s { world = x; used = u }) (record m { world = x; used = u })
  elsewhere ks s m x u h = record {
    world = refl;
    used = refl;
    locals = h.locals;
    stack = h.stack;
    long = h.long;
    few = h.few;
    enough = h.enough;
  }

  -- what the world returned
  pub reacted : (ks : List Waiting) (s : State) (m : Regs) (x : World) (n : ℕ) (p : Pos) → Match ks s m
      → Match ks (record s { world = x; used = s.used ++ replicate n p }) (record m
      { world = x; used = m.used ++ replicate n p })
  reacted ks s m x n p h = record {
    world = refl;
    used = ap (λ u. u ++ replicate n p) h.used;
    locals = h.locals;
    stack = h.stack;
    long = h.long;
    few = h.few;
    enough = h.enough;
  }

  -- a value that is no part of the state is written, below the newest value and the base of a field
  pub hidden_below : (s : State) (m : Regs) (o v : Value) (vs : List Value) (x z : ℕ) (ks : List Waiting)
      → Match (w x ∷ hidden z v ∷ ks) s m → Stack m.vars (o ∷ vs) (w x ∷ hidden z v ∷ ks)
      → Match (w x ∷ hidden z o ∷ ks) (record s { values = o ∷ vs }) (put (to_var z) (Holds o) m)
  hidden_below s m o v vs x z ks h k =
      let long : length m.vars ≡ room = h.long in
      let zlow : nl + 5 * length ks ≤ z = k.2.1.0 in
      let zup : z < nl + 5 * suc (length ks) = k.2.1.1 in
      let zin : z < room = k.2.1.2 in
      let xlow : nl + 5 * suc (length ks) ≤ x = k.1.0 in
      let ne : z ≢ x = omega (arith, zup, xlow) in
      record {
        world = h.world;
        used = h.used;
        locals = λ y lt.
            let ne' : z ≢ y = omega (arith, lt, zlow) in
            set_other m.vars z y (Holds o) ne' ∙ h.locals y lt;
        stack = (
          set_other m.vars z x (Holds o) ne ∙ k.0,
          k.1,
          (
            set_same m.vars z (Holds o) (omega (arith, zin, long)),
            k.2.1,
            stack_above m.vars vs ks z (Holds o) zlow k.2.2,
          ),
        );
        long = set_long m.vars z (Holds o) ∙ h.long;
        few = h.few;
        enough = h.enough;
      }

  pub hidden_under : (s : State) (m : Regs) (o b v : Value) (vs : List Value) (x y z : ℕ) (ks : List Waiting)
      → Match (w x ∷ w y ∷ hidden z v ∷ ks) s m → Stack m.vars (o ∷ b ∷ vs) (w x ∷ w y ∷ hidden z v ∷ ks)
      → Match (w x ∷ w y ∷ hidden z o ∷ ks) (record s { values = o ∷ b ∷ vs }) (put (to_var z) (Holds o) m)
  hidden_under s m o b v vs x y z ks h k =
      let long : length m.vars ≡ room = h.long in
      let zlow : nl + 5 * length ks ≤ z = k.2.2.1.0 in
      let zup : z < nl + 5 * suc (length ks) = k.2.2.1.1 in
      let zin : z < room = k.2.2.1.2 in
      let ylow : nl + 5 * suc (length ks) ≤ y = k.2.1.0 in
      let xlow : nl + 5 * suc (suc (length ks)) ≤ x = k.1.0 in
      let ney : z ≢ y = omega (arith, zup, ylow) in
      let nex : z ≢ x = omega (arith, zup, xlow) in
      record {
        world = h.world;
        used = h.used;
        locals = λ i lt.
            let ne' : z ≢ i = omega (arith, lt, zlow) in
            set_other m.vars z i (Holds o) ne' ∙ h.locals i lt;
        stack = (
          set_other m.vars z x (Holds o) nex ∙ k.0,
          k.1,
          (
            set_other m.vars z y (Holds o) ney ∙ k.2.0,
            k.2.1,
            (
              set_same m.vars z (Holds o) (omega (arith, zin, long)),
              k.2.2.1,
              stack_above m.vars vs ks z (Holds o) zlow k.2.2.2,
            ),
          ),
        );
        long = set_long m.vars z (Holds o) ∙ h.long;
        few = h.few;
        enough = h.enough;
      }
