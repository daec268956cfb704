-- A function of the judged form has a meaning: its parameters are pointers and integers, so there is an entry with
-- NULL or 0 for each.
use Rattle.std.proofs.Common.{◌≡◌, ℕ, ◌+◌, ◌≤◌, ◌^◌, Bool, true, List, [], ◌∷◌, map, take, refl, sym, ap}
use Rattle.std.proofs.Common.{◌∙◌, arith}
use Rattle.std.specs.Prelude.{nat_le, nat_lt, ◌&&◌, pos}
use Rattle.std.specs.List.{list_all}
use Rattle.std.proofs.lemmas.Bool.Decides.{nat_tests}
use Rattle.pungi_base.specs.declared.entry.Entry.{Entry}
use Rattle.pungi_base.specs.declared.value.Value.{Value}
use Rattle.pungi_base.specs.declared.value.Value.TheVariants as value
use Rattle.pungi_api.specs.declared.param.Param.{Param}
use Rattle.pungi_api.specs.declared.param.Param.TheVariants as param
use Rattle.pungi_resolve.specs.Sound.{is_sound_action}
use Rattle.pungi_resolved.specs.Functions.{ResolvedFunction}
use Rattle.pungi_code.specs.declared.code.Code.{Code}
use Rattle.pungi_meaning.specs.Entries.{entry_fits}
use Rattle.pungi_code.specs.Entries.{code_fits, holds_value, hold_values}
use Rattle.pungi_code.specs.WellFormed.{is_slot_kind}
use Rattle.pungi_symbol.specs.runs.JudgedForm.{has_judged_form}
use Rattle.pungi_verdict.specs.Sound.{HasMeaning}
use Rattle.pungi_verdict.proofs.Forms.{and-left, and-right, parameters}

-- NULL or 0 for a parameter
abbrev least : Param → Value
least param.Object = value.Null
least param.ObjectOrNull = value.Null
least param.Text = value.Null
least param.TextOrNull = value.Null
least param.Int = value.Int (pos 0)
least param.Long = value.Int (pos 0)
least param.Size = value.Int (pos 0)
least param.ModuleDef = value.Null

both : (a b : Bool) → a ≡ true → b ≡ true → (a && b) ≡ true
both a b x y = ap (λ (c : Bool). c && b) x ∙ y

holds-least : (n : ℕ) (k : Param) → is_slot_kind k ≡ true → holds_value n k (least k) ≡ true
holds-least n param.ObjectOrNull e = refl
holds-least n param.TextOrNull e = refl
holds-least n param.Int e = refl
holds-least n param.Long e = refl
holds-least n param.Size e = refl
holds-least n param.Object e = absurd (cc)
holds-least n param.Text e = absurd (cc)
holds-least n param.ModuleDef e = absurd (cc)

hold-least : (n : ℕ) (ks : List Param) → list_all is_slot_kind ks ≡ true → hold_values n ks (map least ks) ≡ true
hold-least n [] e = refl
hold-least n (k ∷ ks) e =
    both (holds_value n k (least k)) (hold_values n ks (map least ks)) (holds-least n k
    (and-left (is_slot_kind k) (list_all is_slot_kind ks) e))
    (hold-least n ks (and-right (is_slot_kind k) (list_all is_slot_kind ks) e))

at-most : (n : ℕ) → nat_le n n ≡ true
at-most n = grind (arith, nat_tests)

below : (n : ℕ) → n ≤ 2 ^ 30 + 24 → nat_lt n (2 ^ 31) ≡ true
below n few = grind (arith, nat_tests, few)

pub has-meaning : (n : ℕ) (f : ResolvedFunction) (code : Code)
    → ((entry : Entry) → code_fits n code entry ≡ entry_fits f.params n entry)
    → has_judged_form n code ≡ true → is_sound_action f.body ≡ true → n ≤ 2 ^ 30 + 24
    → HasMeaning n f
has-meaning n f code fits judged words few =
    let params = take code.params code.vars in
    let entry : Entry = record { objects = n; args = map least params } in
    let rest = both (nat_lt n (2 ^ 31)) (hold_values n params (map least params)) (below n few)
    (hold-least n params (parameters n code judged)) in
    record {
      words = words;
      entry = entry;
      fits = sym (fits entry) ∙ both (nat_le n n) (nat_lt n (2 ^ 31) && hold_values n params (map least params))
          (at-most n) rest;
    }
