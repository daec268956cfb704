-- Entries of a code and of its idle code that stand for each other.
--   Likes kept x vs us        two lists of values, from the x-th variable on, are the same where a variable is kept
use Rattle.std.proofs.Common.{◌≡◌, ℕ, zero, suc, ◌+◌, ◌-◌, Bool, true, false, ◌&&◌, List, [], ◌∷◌, ◌++◌, length, map}
use Rattle.std.proofs.Common.{refl, sym, ap, ap₂, ◌∙◌, subst, take, replicate, arith, pos}
use Rattle.std.specs.Prelude.{nat_lt, slice_get, Some, if◌then◌else◌}
use Rattle.std.proofs.lemmas.Bool.{and_parts}
use Rattle.pungi_base.specs.declared.value.Value.{Value}
use Rattle.pungi_base.specs.declared.value.Value.TheVariants as value
use Rattle.pungi_api.specs.declared.param.Param.{Param}
use Rattle.pungi_api.specs.declared.param.Param.TheVariants as param
use Rattle.pungi_world.specs.declared.content.Content.{Content}
use Rattle.pungi_world.specs.declared.content.Content.TheVariants as content
use Rattle.pungi_meaning.specs.Work.{content_at}
use Rattle.pungi_code.specs.declared.code.Code.{Code}
use Rattle.pungi_code.specs.declared.code.Line.{Line}
use Rattle.pungi_code.specs.Entries.{holds_value, hold_values}
use Rattle.pungi_code.specs.Frames.{param_vars}
use Rattle.pungi_idle.specs.IdleCode.{idle_kind, idle_kinds, is_kept, idle}
use Rattle.pungi_idle.specs.RestoredRun.{restored_value, restored_values}
use Rattle.pungi_idle.proofs.Naming.{from_none, no_further, shifted}
use Rattle.pungi_idle.proofs.Runs.{Same}

pub both : (a b : Bool) → a ≡ true → b ≡ true → (a && b) ≡ true
both a b x y = ap (λ (c : Bool). c && b) x ∙ y

abbrev pub Likes : (ℕ → Bool) → ℕ → List Value → List Value → Type 0
Likes kept x [] [] = Unit {0}
Likes kept x [] (u ∷ us) = ⊥
Likes kept x (v ∷ vs) [] = ⊥
Likes kept x (v ∷ vs) (u ∷ us) = (kept x ≡ true → v ≡ u) × Likes kept (x + 1) vs us

pub likes_long : (kept : ℕ → Bool) (x : ℕ) (vs us : List Value) → Likes kept x vs us → length vs ≡ length us
likes_long kept x [] [] h = refl
likes_long kept x [] (u ∷ us) h = absurd h
likes_long kept x (v ∷ vs) [] h = absurd h
likes_long kept x (v ∷ vs) (u ∷ us) h = ap suc (likes_long kept (x + 1) vs us h.1)

held_long : (vs us : List Value) (rest : List Content) → length vs ≡ length us
    → length (map content.Holds vs ++ rest) ≡ length (map content.Holds us ++ rest)
held_long [] [] rest e = refl
held_long [] (u ∷ us) rest e = absurd (omega (arith, e))
held_long (v ∷ vs) [] rest e = absurd (omega (arith, e))
held_long (v ∷ vs) (u ∷ us) rest e =
    let less : length vs ≡ length us = omega (arith, e) in ap suc (held_long vs us rest less)

held_at : (kept : ℕ → Bool) (x : ℕ) (vs us : List Value) (rest : List Content) → Likes kept x vs us → (y : ℕ)
    → kept (x + y) ≡ true
    → content_at (map content.Holds vs ++ rest) y ≡ content_at (map content.Holds us ++ rest) y
held_at kept x [] [] rest h y k = refl
held_at kept x [] (u ∷ us) rest h y k = absurd h
held_at kept x (v ∷ vs) [] rest h y k = absurd h
held_at kept x (v ∷ vs) (u ∷ us) rest h zero k =
    ap content.Holds (h.0 (subst (λ n. kept n ≡ true) (no_further x) k))
held_at kept x (v ∷ vs) (u ∷ us) rest h (suc y) k =
    held_at kept (x + 1) vs us rest h.1 y (subst (λ n. kept n ≡ true) (shifted x y) k)

-- an argument that is kept is the same
pub argument_at : (kept : ℕ → Bool) (x : ℕ) (vs us : List Value) → Likes kept x vs us → (y : ℕ) → kept (x + y) ≡ true
    → slice_get vs y ≡ slice_get us y
argument_at kept x [] [] h y k = refl
argument_at kept x [] (u ∷ us) h y k = absurd h
argument_at kept x (v ∷ vs) [] h y k = absurd h
argument_at kept x (v ∷ vs) (u ∷ us) h zero k = ap Some (h.0 (subst (λ n. kept n ≡ true) (no_further x) k))
argument_at kept x (v ∷ vs) (u ∷ us) h (suc y) k =
    argument_at kept (x + 1) vs us h.1 y (subst (λ n. kept n ≡ true) (shifted x y) k)

pub kinds_long : (ls : List Line) (taken : List ℕ) (n x : ℕ) (ks : List Param)
    → length (idle_kinds ls taken n x ks) ≡ length ks
kinds_long ls taken n x [] = refl
kinds_long ls taken n x (k ∷ ks) = ap suc (kinds_long ls taken n (x + 1) ks)

-- which variables of a code are kept
abbrev pub kept_in : Code → ℕ → Bool
kept_in c x = is_kept c.instrs c.terms.convention.taken c.params x

-- what is held at the start
pub starts : (c : Code) (vs us : List Value) → Likes (kept_in c) 0 vs us
    → Same (λ x. kept_in c x ≡ true) (param_vars c vs) (param_vars (idle c) us)
starts c vs us h =
    let long = likes_long (kept_in c) 0 vs us h in
    let kinds = kinds_long c.instrs c.terms.convention.taken c.params 0 c.vars in
    let left = replicate (length c.vars - length vs) content.Unset in
    let same : left ≡ replicate (length (idle c).vars - length us) content.Unset =
    ap₂ (λ (a b : ℕ). replicate (a - b) content.Unset) (sym kinds) long in
    subst (λ (r : List Content). Same (λ x. kept_in c x ≡ true) (map content.Holds vs ++ left)
    (map content.Holds us ++ r)) same (record {
      long = held_long vs us left long;
      at = λ x k. held_at (kept_in c) 0 vs us left h x (subst (λ n. kept_in c n ≡ true) (from_none x) k);
    })

-- ---- an entry of the idle code

any_fits : (n o : ℕ) (b : Bool) → nat_lt o n ≡ b
    → holds_value n param.ObjectOrNull (if b then value.Object o else value.Null) ≡ true
any_fits n o true e = e
any_fits n o false e = refl

value_fits : (n o : ℕ) (b : Bool) (k : Param) (v : Value) → holds_value n (idle_kind b k) v ≡ true
    → holds_value n k (restored_value n o k v) ≡ true
value_fits n o true param.ObjectOrNull value.Null e = e
value_fits n o true param.ObjectOrNull (value.Object j) e = e
value_fits n o true param.ObjectOrNull (value.Int i) e = any_fits n o (nat_lt o n) refl
value_fits n o true param.ObjectOrNull value.Text e = e
value_fits n o true param.TextOrNull value.Null e = e
value_fits n o true param.TextOrNull (value.Object j) e = e
value_fits n o true param.TextOrNull (value.Int i) e = refl
value_fits n o true param.TextOrNull value.Text e = e
value_fits n o false param.ObjectOrNull value.Null e = refl
value_fits n o false param.ObjectOrNull (value.Object j) e = absurd (cc)
value_fits n o false param.ObjectOrNull (value.Int i) e = any_fits n o (nat_lt o n) refl
value_fits n o false param.ObjectOrNull value.Text e = absurd (cc)
value_fits n o false param.TextOrNull value.Null e = refl
value_fits n o false param.TextOrNull (value.Object j) e = absurd (cc)
value_fits n o false param.TextOrNull (value.Int i) e = refl
value_fits n o false param.TextOrNull value.Text e = refl
value_fits n o true param.Object v e = e
value_fits n o true param.Text v e = e
value_fits n o true param.Int v e = e
value_fits n o true param.Long v e = e
value_fits n o true param.Size v e = e
value_fits n o true param.ModuleDef v e = e
value_fits n o false param.Object v e = e
value_fits n o false param.Text v e = e
value_fits n o false param.Int v e = e
value_fits n o false param.Long v e = e
value_fits n o false param.Size v e = e
value_fits n o false param.ModuleDef v e = e

value_stays : (n o : ℕ) (b : Bool) (k : Param) (v : Value) → holds_value n (idle_kind b k) v ≡ true → b ≡ true
    → restored_value n o k v ≡ v
value_stays n o false k v e kept = absurd (cc)
value_stays n o true param.ObjectOrNull value.Null e kept = refl
value_stays n o true param.ObjectOrNull (value.Object j) e kept = refl
value_stays n o true param.ObjectOrNull (value.Int i) e kept = absurd (cc)
value_stays n o true param.ObjectOrNull value.Text e kept = refl
value_stays n o true param.TextOrNull value.Null e kept = refl
value_stays n o true param.TextOrNull (value.Object j) e kept = refl
value_stays n o true param.TextOrNull (value.Int i) e kept = absurd (cc)
value_stays n o true param.TextOrNull value.Text e kept = refl
value_stays n o true param.Object v e kept = refl
value_stays n o true param.Text v e kept = refl
value_stays n o true param.Int v e kept = refl
value_stays n o true param.Long v e kept = refl
value_stays n o true param.Size v e kept = refl
value_stays n o true param.ModuleDef v e kept = refl

module _ (objects : ℕ) (ls : List Line) (taken : List ℕ) (n : ℕ) where
  pub restored_fits : (x m o : ℕ) (ks : List Param) (vs : List Value)
      → hold_values objects (take m (idle_kinds ls taken n x ks)) vs ≡ true
      → (hold_values objects (take m ks) (restored_values objects o (take m ks) vs) ≡ true)
      × Likes (is_kept ls taken n) x (restored_values objects o (take m ks) vs) vs
  restored_fits x zero o ks [] e = (refl, tt)
  restored_fits x zero o ks (v ∷ vs) e = absurd (cc)
  restored_fits x (suc m) o [] [] e = (refl, tt)
  restored_fits x (suc m) o [] (v ∷ vs) e = absurd (cc)
  restored_fits x (suc m) o (k ∷ ks) [] e = absurd (cc)
  restored_fits x (suc m) o (k ∷ ks) (v ∷ vs) e =
      let kept = is_kept ls taken n x in
      let h = and_parts (holds_value objects (idle_kind kept k) v)
      (hold_values objects (take m (idle_kinds ls taken n (x + 1) ks)) vs) e in
      let rest = restored_fits (x + 1) m (o + 1) ks vs h.1 in (
        both (holds_value objects k (restored_value objects o k v))
            (hold_values objects (take m ks) (restored_values objects (o + 1) (take m ks) vs))
            (value_fits objects o kept k v h.0) rest.0,
        (value_stays objects o kept k v h.0, rest.1),
      )

-- ---- an entry of the code

abbrev idled_value : Bool → Param → Value → Value
idled_value false param.ObjectOrNull v = value.Int (pos 0)
idled_value false param.TextOrNull v = value.Int (pos 0)
idled_value kept k v = v

idled_fits : (n : ℕ) (b : Bool) (k : Param) (v : Value) → holds_value n k v ≡ true
    → holds_value n (idle_kind b k) (idled_value b k v) ≡ true
idled_fits n true k v e = e
idled_fits n false param.ObjectOrNull v e = refl
idled_fits n false param.TextOrNull v e = refl
idled_fits n false param.Object v e = e
idled_fits n false param.Text v e = e
idled_fits n false param.Int v e = e
idled_fits n false param.Long v e = e
idled_fits n false param.Size v e = e
idled_fits n false param.ModuleDef v e = e

idled_stays : (b : Bool) (k : Param) (v : Value) → b ≡ true → v ≡ idled_value b k v
idled_stays true k v kept = refl
idled_stays false k v kept = absurd (cc)

module _ (objects : ℕ) (ls : List Line) (taken : List ℕ) (n : ℕ) where
  pub idled : (x m : ℕ) (ks : List Param) (vs : List Value) → hold_values objects (take m ks) vs ≡ true
      → (us : List Value) × ((hold_values objects (take m (idle_kinds ls taken n x ks)) us ≡ true)
      × Likes (is_kept ls taken n) x vs us)
  idled x zero ks [] e = ([], (refl, tt))
  idled x zero ks (v ∷ vs) e = absurd (cc)
  idled x (suc m) [] [] e = ([], (refl, tt))
  idled x (suc m) [] (v ∷ vs) e = absurd (cc)
  idled x (suc m) (k ∷ ks) [] e = absurd (cc)
  idled x (suc m) (k ∷ ks) (v ∷ vs) e =
      let kept = is_kept ls taken n x in
      let h = and_parts (holds_value objects k v) (hold_values objects (take m ks) vs) e in
      let rest = idled (x + 1) m ks vs h.1 in (
        idled_value kept k v ∷ rest.0,
        (
          both (holds_value objects (idle_kind kept k) (idled_value kept k v))
              (hold_values objects (take m (idle_kinds ls taken n (x + 1) ks)) rest.0)
              (idled_fits objects kept k v h.0) rest.1.0,
          (idled_stays kept k v, rest.1.1),
        ),
      )
