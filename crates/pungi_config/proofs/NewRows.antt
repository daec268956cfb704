-- The rows and conventions of a configuration are new: each name has a number of its own, since the names ascend.
use Rattle.std.proofs.Common.{◌≡◌, ℕ, ◌==◌, Bool, true, false, cond, List, [], ◌∷◌, ◌++◌, Option, Some, None, refl, sym}
use Rattle.std.proofs.Common.{subst, ◌∙◌, is_none, String, Global, string_bytes, string_cmp, Less, Equal}
use Rattle.std.proofs.Common.{eqb-true, nat_cmp}
use Rattle.std.specs.Prelude.{slice_get}
use Rattle.std.specs.List.{AllByRecursion}
use Rattle.std.specs.Map.{lookup}
use Rattle.std.specs.Cmp.{tied_itself}
use Rattle.std.specs.Cmp.Lexicographic.{slice_cmp}
use Rattle.std.proofs.lemmas.Cmp.{nat_list_cmp_total}
use Rattle.pungi_api.specs.declared.row.Row.{Row}
use Rattle.pungi_api.specs.Rows.{row_in, are_new}
use Rattle.pungi_base.specs.Names.{Extends}
use Rattle.pungi_config.proofs.Numbers.{at_extended}
use Rattle.pungi_config.proofs.Parts.{both, left_of, right_of, some_same}

-- the number is that of a name before all of these
abbrev pub StandsBefore : List (List ℕ) → List (String Global) → ℕ → Type 0
StandsBefore names keys n =
    (t : String Global) × (slice_get names n ≡ Some (string_bytes t))
    × AllByRecursion (λ k. string_cmp t k ≡ Less) keys

abbrev pub AreBefore : {A : Type 0} → List (List ℕ) → List (String Global) → List (ℕ × A) → Type 0
AreBefore names keys rows = AllByRecursion (λ r. StandsBefore names keys r.0) rows

-- the entry of a number, which is that of `row_in` and of `declared_in`
abbrev pub entry_in : {A : Type 0} → List (ℕ × A) → ℕ → Option A
entry_in entries n = lookup (λ other. n == other) entries

pub before_on : {A : Type 0} (names new : List (List ℕ)) (k : String Global) (keys : List (String Global))
    (rows : List (ℕ × A))
    → Extends names new → AreBefore names (k ∷ keys) rows → AreBefore new keys rows
before_on names new k keys [] grown h = tt
before_on names new k keys (r ∷ rows) grown h = (
  (h.0.0, at_extended names new r.0 (string_bytes h.0.0) grown h.0.1, h.0.2.1),
  before_on names new k keys rows
      grown h.1,
)

pub before_push : {A : Type 0} (names : List (List ℕ)) (k : String Global) (keys : List (String Global))
    (rows : List (ℕ × A)) (n : ℕ) (row : A)
    → slice_get names n ≡ Some (string_bytes k) → AllByRecursion (λ y. string_cmp k y ≡ Less) keys
    → AreBefore names keys rows
    → AreBefore names keys (rows ++ (n, row) ∷ [])
before_push names k keys [] n row at less h = ((k, at, less), tt)
before_push names k keys (r ∷ rows) n row at less h = (h.0, before_push names k keys rows n row at less h.1)

-- two names of one number are one name, which isn't before itself
not_before : (new : List (List ℕ)) (t k : String Global) (n : ℕ) → slice_get new n ≡ Some (string_bytes t)
    → slice_get new n ≡ Some (string_bytes k) → string_cmp t k ≡ Less → ⊥
not_before new t k n a b less =
    let same : string_bytes t ≡ string_bytes k = some_same _ _ (sym a ∙ b) in
    let tied : slice_cmp nat_cmp (string_bytes t) (string_bytes k) ≡ Equal =
    subst (λ l. slice_cmp nat_cmp (string_bytes t) l ≡ Equal) same (tied_itself nat_list_cmp_total (string_bytes t)) in
    absurd (less_not_equal (sym less ∙ tied))
  where
    less_not_equal : Less ≡ Equal → ⊥
    less_not_equal e = absurd cc

pub none_before
    : {A : Type 0} (names new : List (List ℕ)) (k : String Global) (keys : List (String Global)) (rows : List (ℕ × A))
    (n : ℕ)
    → Extends names new → slice_get new n ≡ Some (string_bytes k) → AreBefore names (k ∷ keys) rows
    → entry_in rows n ≡ None
none_before names new k keys [] n grown at h = refl
none_before names new k keys (r ∷ rows) n grown at h =
    go (n == r.0) refl (none_before names new k keys rows n grown at h.1)
  where
    go : (t : Bool) → (n == r.0) ≡ t → entry_in rows n ≡ None → entry_in (r ∷ rows) n ≡ None
    go false e later = rw e later
    go true e later =
        let there : slice_get new r.0 ≡ Some (string_bytes h.0.0)
        = at_extended names new r.0 (string_bytes h.0.0) grown h.0.1 in
        let same : n ≡ r.0 = eqb-true n r.0 e in
        absurd (not_before new h.0.0 k n (subst (λ m. slice_get new m ≡ Some (string_bytes h.0.0)) (sym same) there) at
        h.0.2.0)

in_last : (rows : List (ℕ × Row)) (r : ℕ × Row) (n : ℕ) → row_in rows n ≡ None → (n == r.0) ≡ false
    → row_in (rows ++ r ∷ []) n ≡ None
in_last [] r n a b = rw b refl
in_last (x ∷ rows) r n a b = go (n == x.0) refl a (λ f. in_last rows r n f b)
  where
    go : (t : Bool) → (n == x.0) ≡ t → cond t (Some x.1) (row_in rows n) ≡ None
        → (row_in rows n ≡ None → row_in (rows ++ r ∷ []) n ≡ None) → row_in (x ∷ rows ++ r ∷ []) n ≡ None
    go true e f later = absurd cc
    go false e f later = rw e (later f)

pub is_none_from : {A : Type 0} (o : Option A) → o ≡ None → is_none o ≡ true
is_none_from o e = rw e refl

none_from : {A : Type 0} (o : Option A) → is_none o ≡ true → o ≡ None
none_from None h = refl
none_from (Some x) h = absurd cc

new_from : (rows more : List (ℕ × Row)) (n : ℕ) (row : Row) → are_new rows more ≡ true → row_in rows n ≡ None
    → row_in more n ≡ None → are_new rows (more ++ (n, row) ∷ []) ≡ true
new_from rows [] n row h a b = both _ _ (is_none_from _ a) refl
new_from rows (r ∷ more) n row h a b =
    go (n == r.0) refl b (λ e f. new_from (rows ++ r ∷ []) more n row (right_of _ _ h) (in_last rows r n a e) f)
  where
    go : (t : Bool) → (n == r.0) ≡ t → cond t (Some r.1) (row_in more n) ≡ None
        → ((n == r.0) ≡ false → row_in more n ≡ None → are_new (rows ++ r ∷ []) (more ++ (n, row) ∷ []) ≡ true)
        → are_new rows (r ∷ more ++ (n, row) ∷ []) ≡ true
    go true e f later = absurd cc
    go false e f later = both _ _ (left_of _ _ h) (later e f)

pub new_push : (rows more : List (ℕ × Row)) (n : ℕ) (row : Row) → are_new rows more ≡ true
    → is_none (row_in rows n) ≡ true
    → row_in more n ≡ None → are_new rows (more ++ (n, row) ∷ []) ≡ true
new_push rows more n row h a b = new_from rows more n row h (none_from _ a) b
