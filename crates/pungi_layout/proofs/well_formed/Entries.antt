-- An entry fits the code of a function exactly where it fits the function.
use Rattle.std.proofs.Common.{◌≡◌, ℕ, suc, List, [], ◌∷◌, ◌++◌, length, map, take, Option, Some, None, refl, ap, ◌∙◌}
use Rattle.std.proofs.Common.{Bool, true, false, ◌&&◌}
use Rattle.std.specs.Prelude.{nat_lt, nat_le, ◌^◌}
use Rattle.pungi_base.specs.declared.entry.Entry.{Entry}
use Rattle.pungi_base.specs.declared.value.Value.{Value}
use Rattle.pungi_base.specs.declared.value.Value.TheVariants as value
use Rattle.pungi_api.specs.declared.param.Param.{Param}
use Rattle.pungi_types.specs.declared.kind.ValueKind.{ValueKind}
use Rattle.pungi_types.specs.declared.kind.ValueKind.TheVariants as kinds
use Rattle.pungi_meaning.specs.Entries.{fits_param, fit_params, entry_fits}
use Rattle.pungi_code.specs.Entries.{holds_value, hold_values}
use Rattle.pungi_layout.specs.code.CallKinds.{held_kind}

held_alike : (n : ℕ) (k : Option ValueKind) (v : Value) → holds_value n (held_kind k) v ≡ fits_param n k v
held_alike n None v = refl
held_alike n (Some kinds.Int) (value.Int i) = refl
held_alike n (Some kinds.Int) (value.Object o) = refl
held_alike n (Some kinds.Int) value.Null = refl
held_alike n (Some kinds.Int) value.Text = refl
held_alike n (Some kinds.Long) (value.Int i) = refl
held_alike n (Some kinds.Long) (value.Object o) = refl
held_alike n (Some kinds.Long) value.Null = refl
held_alike n (Some kinds.Long) value.Text = refl
held_alike n (Some kinds.Size) (value.Int i) = refl
held_alike n (Some kinds.Size) (value.Object o) = refl
held_alike n (Some kinds.Size) value.Null = refl
held_alike n (Some kinds.Size) value.Text = refl
held_alike n (Some kinds.Text) (value.Int i) = refl
held_alike n (Some kinds.Text) (value.Object o) = refl
held_alike n (Some kinds.Text) value.Null = refl
held_alike n (Some kinds.Text) value.Text = refl
held_alike n (Some (kinds.Object tag)) (value.Int i) = refl
held_alike n (Some (kinds.Object tag)) (value.Object o) = refl
held_alike n (Some (kinds.Object tag)) value.Null = refl
held_alike n (Some (kinds.Object tag)) value.Text = refl
held_alike n (Some kinds.Null) (value.Int i) = refl
held_alike n (Some kinds.Null) (value.Object o) = refl
held_alike n (Some kinds.Null) value.Null = refl
held_alike n (Some kinds.Null) value.Text = refl
held_alike n (Some kinds.Void) (value.Int i) = refl
held_alike n (Some kinds.Void) (value.Object o) = refl
held_alike n (Some kinds.Void) value.Null = refl
held_alike n (Some kinds.Void) value.Text = refl

all_alike : (n : ℕ) (ks : List (Option ValueKind)) (vs : List Value)
    → hold_values n (map held_kind ks) vs ≡ fit_params n ks vs
all_alike n [] [] = refl
all_alike n [] (v ∷ vs) = refl
all_alike n (k ∷ ks) [] = refl
all_alike n (k ∷ ks) (v ∷ vs) =
    ap (λ b. b && hold_values n (map held_kind ks) vs) (held_alike n k v)
    ∙ ap (λ b. fits_param n k v && b) (all_alike n ks vs)

front_kinds : (ks : List (Option ValueKind)) (rest : List Param)
    → take (length ks) (map held_kind ks ++ rest) ≡ map held_kind ks
front_kinds [] rest = refl
front_kinds (k ∷ ks) rest = ap (λ l. held_kind k ∷ l) (front_kinds ks rest)

-- the parameters are the first variables
pub entries_alike : (statics : ℕ) (ks : List (Option ValueKind)) (rest : List Param) (entry : Entry) →
    (nat_le statics entry.objects && (nat_lt entry.objects (2 ^ 31)
    && hold_values entry.objects (take (length ks) (map held_kind ks ++ rest)) entry.args))
    ≡ entry_fits ks statics entry
entries_alike statics ks rest entry =
    ap (λ l. nat_le statics entry.objects && (nat_lt entry.objects (2 ^ 31)
    && hold_values entry.objects l entry.args)) (front_kinds ks rest)
    ∙ ap (λ b. nat_le statics entry.objects && (nat_lt entry.objects (2 ^ 31) && b))
    (all_alike entry.objects ks entry.args)

-- ---- how many arguments there are

both : (a b : Bool) → a && b ≡ true → (a ≡ true) × (b ≡ true)
both false b e = absurd (cc)
both true b e = (refl, e)

fit-length : (n : ℕ) (ks : List (Option ValueKind)) (vs : List Value) → fit_params n ks vs ≡ true
    → length vs ≡ length ks
fit-length n [] [] e = refl
fit-length n [] (v ∷ vs) e = absurd (cc)
fit-length n (k ∷ ks) [] e = absurd (cc)
fit-length n (k ∷ ks) (v ∷ vs) e = ap suc (fit-length n ks vs (both (fits_param n k v) (fit_params n ks vs) e).1)

pub fit-count : (statics : ℕ) (ks : List (Option ValueKind)) (entry : Entry) → entry_fits ks statics entry ≡ true
    → length entry.args ≡ length ks
fit-count statics ks entry e =
    let rest = both (nat_le statics entry.objects) (nat_lt entry.objects (2 ^ 31)
    && fit_params entry.objects ks entry.args) e in
    fit-length entry.objects ks entry.args (both (nat_lt entry.objects (2 ^ 31))
    (fit_params entry.objects ks entry.args) rest.1).1
