-- Scenes that come of others.
--   IsAfter j s t           a scene that comes of s: it fits, over the same coordinates and with as many values; and
--                           its balances are at most j. At most one token came to it
use Rattle.std.proofs.Common.{◌≡◌, ◌∙◌, ℕ, ◌+◌, ◌==◌, ◌<◌, ◌≤◌, Bool, true, false, ℤ, pos, List, [], ◌∷◌, ◌++◌}
use Rattle.std.proofs.Common.{length, map, Option, None, Some, if◌then◌else◌, refl, sym, ap, subst, inl, inr}
use Rattle.std.proofs.Common.{arith}
use Rattle.std.specs.Prelude.{◌||◌, slice_set}
use Rattle.std.specs.List.{All, slice_index_or}
use Rattle.std.proofs.lemmas.Int.{ints}
use Rattle.std.proofs.lemmas.Bool.{cases_lt}
use Rattle.std.proofs.lemmas.List.{length-append, length-map, length-replicate}
use Rattle.std.proofs.lemmas.List.Elements.{All-append, All-cons, All-map, All-nil, All-set}
use Rattle.std.proofs.Math.ListN.{get_or-eq_default, length-set}
use Rattle.pungi_domain.specs.Vectors.{IsWithin}
use Rattle.pungi_shape.specs.declared.holding.Holding.{Holding}
use Rattle.pungi_shape.specs.declared.holding.Holding.TheVariants.{Dead, Unset, Null, Text, Known, Number, Token}
use Rattle.pungi_shape.specs.declared.shape.Shape.{Shape}
use Rattle.pungi_shape.specs.declared.tracked.Spot.{Spot}
use Rattle.pungi_shape.specs.declared.tracked.Spot.TheVariants.{Global, Field}
use Rattle.pungi_shape.specs.declared.tracked.Tracked.{Tracked}
use Rattle.pungi_shape.specs.Bounds.{AreTokens, HasBalances, HasWidth, IsBelow, IsPlain, IsHeld, IsScene}
use Rattle.pungi_shape.specs.Forms.{Form, plus}
use Rattle.pungi_shape.specs.Scenes.{Scene, add_to_holding, balance_at, form_or, merge, redirect, shape_of_merge}
use Rattle.pungi_shape.specs.Scenes.{with_token, with_var, new_token, is_made}
use Rattle.pungi_shape.specs.Shapes.{rename_holding, rename_spot, rename_tracked}
use Rattle.pungi_shape.specs.Slots.{no_slot, put_slot, track, tracked_at}
use Rattle.pungi_shape.specs.Steps.{forget, forget_slots}
use Rattle.pungi_shape.proofs.BalanceLemmas.{add_to_holding-balances, add_to_holding-scene, add_to_holding-shape}
use Rattle.pungi_shape.proofs.BalanceLemmas.{add_to_holding-width, balance_at-width, merged-within}
use Rattle.pungi_shape.proofs.BalanceLemmas.{zero_within}
use Rattle.pungi_shape.proofs.FormBounds.{length-plus}
use Rattle.pungi_shape.proofs.TokenLemmas.{HasTokens, IsSpotBelow, IsTrackedBelow, tokens-apart, tokens-together}

pub record IsAfter (j : ℕ) (s t : Scene) : Type 0 where
  pub scene : IsScene t
  pub width : t.width ≡ s.width
  pub vars : length t.shape.vars ≡ length s.shape.vars
  pub entry : length t.shape.entry ≡ length s.shape.entry
  pub balances : HasBalances j t
  pub few : length s.shape.made ≤ 256 → length t.shape.made ≤ 257

pub after-none : (s : Scene) → IsScene s → IsPlain s → IsAfter 1 s s
after-none s h fresh = record {
  scene = h;
  width = refl;
  vars = refl;
  entry = refl;
  balances = fresh.balances;
  few = λ l. omega (arith, l);
}

loose_all : (j k : ℕ) (f : Form) → j ≤ k → All (IsWithin j) f → All (IsWithin k) f
loose_all j k f le h = λ i d below. (
    let a = h i d below in
    (omega (arith, ints, a.0, le), omega (arith, ints, a.1, le))
    )

pub loose-balances : (j k : ℕ) (s : Scene) → j ≤ k → HasBalances j s → HasBalances k s
loose-balances j k s le h =
    λ i d below. loose_all j k (form_or s.width (slice_index_or s.balances i d)) le (h i d below)

pub after-loose : (j k : ℕ) (s t : Scene) → j ≤ k → IsAfter j s t → IsAfter k s t
after-loose j k s t le h = record {
  scene = h.scene;
  width = h.width;
  vars = h.vars;
  entry = h.entry;
  balances = loose-balances j k t le h.balances;
  few = h.few;
}

-- ---- a variable

var_scene : (x : ℕ) (h : Holding) (f : Form) (s : Scene) → IsScene s → IsHeld s h → HasWidth s.width f
    → IsScene (with_var x h f s)
var_scene x h f s k held w =
    let n = length s.shape.made in
    let ts = tokens-apart n s.shape k.tokens in
    record {
      vars = length-set s.vars x f ∙ k.vars ∙ sym (length-set s.shape.vars x h);
      entry = k.entry;
      balances = k.balances;
      var_widths = All-set (λ (g : Form). HasWidth s.width g) s.vars x f w k.var_widths;
      returned_width = k.returned_width;
      entry_widths = k.entry_widths;
      balance_widths = k.balance_widths;
      tokens = tokens-together n (with_var x h f s).shape (record {
        entry = ts.entry;
        vars = All-set (IsBelow n) s.shape.vars x h held ts.vars;
        statics = ts.statics;
        returned = ts.returned;
        slots = ts.slots;
      });
    }

pub after-var : (j x : ℕ) (h : Holding) (f : Form) (s t : Scene) → IsAfter j s t → IsHeld t h → HasWidth t.width f
    → IsAfter j s (with_var x h f t)
after-var j x h f s t k held w = record {
  few = k.few;
  scene = var_scene x h f t k.scene held w;
  width = k.width;
  vars = length-set t.shape.vars x h ∙ k.vars;
  entry = k.entry;
  balances = k.balances;
}

-- ---- balances

pub after-add : (j : ℕ) (h : Holding) (n : ℤ) (s t : Scene) → IsAfter j s t → IsWithin 1 n
    → IsAfter (j + 1) s (add_to_holding h n t)
after-add j h n s t k hn = record {
  few = λ c. (
      let e = ap (λ (p : Shape). length p.made) (add_to_holding-shape h n t) in
      let l = k.few c in
      omega (arith, e, l)
      );
  scene = add_to_holding-scene h n t k.scene;
  width = add_to_holding-width h n t ∙ k.width;
  vars = ap (λ (p : Shape). length p.vars) (add_to_holding-shape h n t) ∙ k.vars;
  entry = ap (λ (p : Shape). length p.entry) (add_to_holding-shape h n t) ∙ k.entry;
  balances = add_to_holding-balances h n j t k.scene hn k.balances;
}

-- ---- tokens

more_tokens : (m n : ℕ) (s : Shape) → m ≤ n → AreTokens m s → AreTokens n s
more_tokens m n s le h = λ i d below. (let a = h i d below in omega (arith, a, le))

token_scene : (f : Form) (made : Bool) (s : Scene) → IsScene s → HasWidth s.width f → IsScene (with_token f made s)
token_scene f made s k w = record {
  vars = k.vars;
  entry = k.entry;
  balances = length-append s.balances (Some f ∷ []) ∙ ap (λ n. n + 1) k.balances
      ∙ sym (length-append s.shape.made (made ∷ []));
  var_widths = k.var_widths;
  returned_width = k.returned_width;
  entry_widths = k.entry_widths;
  balance_widths = All-append (λ o. HasWidth s.width (form_or s.width o)) s.balances (Some f ∷ []) k.balance_widths
      (All-cons (λ o. HasWidth s.width (form_or s.width o)) (Some f) [] w
      (All-nil (λ o. HasWidth s.width (form_or s.width o))));
  tokens = more_tokens (length s.shape.made) (length (s.shape.made ++ made ∷ [])) (with_token f made s).shape
      (omega (arith, length-append s.shape.made (made ∷ []))) k.tokens;
}

pub after-token : (j : ℕ) (f : Form) (made : Bool) (s t : Scene) → IsAfter j s t → HasWidth t.width f
    → All (IsWithin j) f → (length s.shape.made ≤ 256 → length t.shape.made ≤ 256) → IsAfter j s (with_token f made t)
after-token j f made s t k w small few = record {
  few = λ c. (let l = few c in omega (arith, l, length-append t.shape.made (made ∷ [])));
  scene = token_scene f made t k.scene w;
  width = k.width;
  vars = k.vars;
  entry = k.entry;
  balances = All-append (λ o. All (IsWithin j) (form_or t.width o)) t.balances (Some f ∷ []) k.balances
      (All-cons (λ o. All (IsWithin j) (form_or t.width o)) (Some f) [] small
      (All-nil (λ o. All (IsWithin j) (form_or t.width o))));
}

pub new-below : (f : Form) (made : Bool) (s : Scene) → IsHeld (with_token f made s) (Token (new_token s))
new-below f made s = omega (arith, length-append s.shape.made (made ∷ []))

-- ---- merges

redirect_below : (t u v n : ℕ) → t < n → v < n → redirect t u v < n
redirect_below t u v n ht hv = chosen (v == u)
  where
    chosen : (b : Bool) → (if b then t else v) < n
    chosen true = ht
    chosen false = hv

holding_below : (t u n : ℕ) (h : Holding) → t < n → IsBelow n h → IsBelow n (rename_holding (redirect t u) h)
holding_below t u n (Token v) ht k = redirect_below t u v n ht k
holding_below t u n Dead ht k = tt
holding_below t u n Unset ht k = tt
holding_below t u n Null ht k = tt
holding_below t u n Text ht k = tt
holding_below t u n (Known m) ht k = tt
holding_below t u n Number ht k = tt

base_below : (t u n : ℕ) (p : Spot) → t < n → IsSpotBelow n p → IsSpotBelow n (rename_spot (redirect t u) p)
base_below t u n (Global name) ht k = tt
base_below t u n (Field b tag field) ht k = redirect_below t u b n ht k

shape_below : (t u n : ℕ) (s : Shape) → t < n → HasTokens n s → HasTokens n (shape_of_merge t u s)
shape_below t u n s ht h =
    let g = redirect t u in
    record {
      entry = All-map (IsBelow n) (rename_holding g) s.entry
          (λ i d below. holding_below t u n (slice_index_or s.entry i d) ht (h.entry i d below));
      vars = All-map (IsBelow n) (rename_holding g) s.vars
          (λ i d below. holding_below t u n (slice_index_or s.vars i d) ht (h.vars i d below));
      statics = All-map (λ (k : ℕ × Holding). IsBelow n k.1) (λ (k : ℕ × Holding). (k.0, rename_holding g k.1))
          s.statics
          (λ i d below. holding_below t u n (slice_index_or s.statics i d).1 ht (h.statics i d below));
      returned = holding_below t u n s.returned ht h.returned;
      slots = All-map (IsTrackedBelow n) (rename_tracked g) s.slots (λ i d below. (
          let r = h.slots i d below in
          record {
            held = holding_below t u n (slice_index_or s.slots i d).held ht r.held;
            base = base_below t u n (slice_index_or s.slots i d).spot ht r.base;
          }));
    }

pub merge_scene : (t u : ℕ) (s : Scene) → IsScene s → t < length s.shape.made → IsScene (merge t u s)
merge_scene t u s k ht =
    let n = length s.shape.made in
    let P : Option Form → Type 0 = λ o. HasWidth s.width (form_or s.width o) in
    let m : length (shape_of_merge t u s.shape).made ≡ n =
    length-set s.shape.made t (is_made s.shape t || is_made s.shape u) in
    let sum = plus (balance_at s t) (balance_at s u) in
    record {
      vars = k.vars ∙ sym (length-map s.shape.vars (rename_holding (redirect t u)));
      entry = k.entry ∙ sym (length-map s.shape.entry (rename_holding (redirect t u)));
      balances = length-set (slice_set s.balances t (Some sum)) u None ∙ length-set s.balances t (Some sum)
          ∙ k.balances ∙ sym m;
      var_widths = k.var_widths;
      returned_width = k.returned_width;
      entry_widths = k.entry_widths;
      balance_widths = All-set P (slice_set s.balances t (Some sum)) u None (length-replicate s.width (pos 0))
          (All-set P s.balances t (Some sum)
          (length-plus (balance_at s t) (balance_at s u) (balance_at-width s t k ∙ sym (balance_at-width s u k))
          ∙ balance_at-width s t k) k.balance_widths);
      tokens = subst (λ l. AreTokens l (shape_of_merge t u s.shape)) (sym m)
          (tokens-together n (shape_of_merge t u s.shape)
          (shape_below t u n s.shape ht (tokens-apart n s.shape k.tokens)));
    }

pub after-merge : (j t u : ℕ) (s s' : Scene) → IsAfter j s s' → t < length s'.shape.made
    → IsAfter (j + j) s (merge t u s')
after-merge j t u s s' k ht =
    let P : Option Form → Type 0 = λ o. All (IsWithin (j + j)) (form_or s'.width o) in
    let sum = plus (balance_at s' t) (balance_at s' u) in
    record {
      scene = merge_scene t u s' k.scene ht;
      width = k.width;
      vars = length-map s'.shape.vars (rename_holding (redirect t u)) ∙ k.vars;
      entry = length-map s'.shape.entry (rename_holding (redirect t u)) ∙ k.entry;
      balances = All-set P (slice_set s'.balances t (Some sum)) u None (zero_within s'.width (j + j))
          (All-set P s'.balances t (Some sum) (merged-within s' t u j k.scene k.balances)
          (loose-balances j (j + j) s' (omega arith) k.balances));
      few = λ c. (
          let e = length-set s'.shape.made t (is_made s'.shape t || is_made s'.shape u) in
          let l = k.few c in
          omega (arith, e, l)
          );
    }

-- ---- slots

slots_scene : (rs : List Tracked) (s : Scene) → IsScene s → All (IsTrackedBelow (length s.shape.made)) rs
    → IsScene (record s { shape = record s.shape { slots = rs } })
slots_scene rs s k h =
    let n = length s.shape.made in
    let ts = tokens-apart n s.shape k.tokens in
    record {
      vars = k.vars;
      entry = k.entry;
      balances = k.balances;
      var_widths = k.var_widths;
      returned_width = k.returned_width;
      entry_widths = k.entry_widths;
      balance_widths = k.balance_widths;
      tokens = tokens-together n (record s.shape { slots = rs }) (record {
        entry = ts.entry;
        vars = ts.vars;
        statics = ts.statics;
        returned = ts.returned;
        slots = h;
      });
    }

pub after-slots : (j : ℕ) (rs : List Tracked) (s t : Scene) → IsAfter j s t
    → All (IsTrackedBelow (length t.shape.made)) rs
    → IsAfter j s (record t { shape = record t.shape { slots = rs } })
after-slots j rs s t k h = record {
  few = k.few;
  scene = slots_scene rs t k.scene h;
  width = k.width;
  vars = k.vars;
  entry = k.entry;
  balances = k.balances;
}

tracked_below : (s : Scene) → IsScene s → All (IsTrackedBelow (length s.shape.made)) s.shape.slots
tracked_below s k = (tokens-apart (length s.shape.made) s.shape k.tokens).slots

pub after-track : (j : ℕ) (p : Spot) (h : Holding) (s t : Scene) → IsAfter j s t
    → IsSpotBelow (length t.shape.made) p → IsHeld t h → IsAfter j s (track p h t)
after-track j p h s t k hp held =
    let P : Tracked → Type 0 = IsTrackedBelow (length t.shape.made) in
    let r : Tracked = record { spot = p; held = h } in
    after-slots j (t.shape.slots ++ r ∷ []) s t k
    (All-append P t.shape.slots (r ∷ []) (tracked_below t k.scene)
    (All-cons P r [] (record { held = held; base = hp }) (All-nil P)))

base_at : (s : Scene) (i : ℕ) → IsScene s → IsSpotBelow (length s.shape.made) (tracked_at s.shape i).spot
base_at s i k =
    let P : Tracked → Type 0 = λ r. IsSpotBelow (length s.shape.made) r.spot in
    elim (cases_lt i (length s.shape.slots)) [
      | inl lt ↦ (tracked_below s k i no_slot lt).base
      | inr le ↦ subst P (sym (get_or-eq_default s.shape.slots no_slot le)) tt
    ]

-- what a slot holds
pub held_at : (s : Scene) (i : ℕ) → IsScene s → IsHeld s (tracked_at s.shape i).held
held_at s i k =
    let P : Tracked → Type 0 = λ r. IsHeld s r.held in
    elim (cases_lt i (length s.shape.slots)) [
      | inl lt ↦ (tracked_below s k i no_slot lt).held
      | inr le ↦ subst P (sym (get_or-eq_default s.shape.slots no_slot le)) tt
    ]

pub after-slot : (j : ℕ) (h : Holding) (o : Option ℕ) (s t : Scene) → IsAfter j s t → IsHeld t h
    → IsAfter j s (put_slot h o t)
after-slot j h None s t k held = k
after-slot j h (Some i) s t k held =
    let P : Tracked → Type 0 = IsTrackedBelow (length t.shape.made) in
    after-slots j (slice_set t.shape.slots i (record (tracked_at t.shape i) { held = h })) s t k
    (All-set P t.shape.slots i (record (tracked_at t.shape i) { held = h })
    (record { held = held; base = base_at t i k.scene }) (tracked_below t k.scene))

-- ---- what is forgotten

unset_below : (n : ℕ) (hs : List Holding) → All (IsBelow n) (map (λ _. Unset) hs)
unset_below n hs = All-map (IsBelow n) (λ _. Unset) hs (λ i d below. tt)

forget_scene : (h : Holding) (f : Form) (s : Scene) → IsScene s → IsHeld s h → HasWidth s.width f
    → IsScene (forget h f s)
forget_scene h f s k held w =
    let n = length s.shape.made in
    let ts = tokens-apart n s.shape k.tokens in
    record {
      vars = k.vars ∙ sym (length-map s.shape.vars (λ _. Unset));
      entry = k.entry;
      balances = k.balances;
      var_widths = k.var_widths;
      returned_width = w;
      entry_widths = k.entry_widths;
      balance_widths = k.balance_widths;
      tokens = tokens-together n (forget h f s).shape (record {
        entry = ts.entry;
        vars = unset_below n s.shape.vars;
        statics = ts.statics;
        returned = held;
        slots = All-nil (IsTrackedBelow n);
      });
    }

pub after-forget : (j : ℕ) (h : Holding) (f : Form) (s t : Scene) → IsAfter j s t → IsHeld t h → HasWidth t.width f
    → IsAfter j s (forget h f t)
after-forget j h f s t k held w = record {
  few = k.few;
  scene = forget_scene h f t k.scene held w;
  width = k.width;
  vars = length-map t.shape.vars (λ _. Unset) ∙ k.vars;
  entry = k.entry;
  balances = k.balances;
}

forget_slots_scene : (s : Scene) → IsScene s → IsScene (forget_slots s)
forget_slots_scene s k =
    let n = length s.shape.made in
    let ts = tokens-apart n s.shape k.tokens in
    let m : length (forget_slots s).shape.made ≡ n = length-map s.shape.made (λ _. false) in
    record {
      vars = k.vars;
      entry = k.entry;
      balances = k.balances ∙ sym m;
      var_widths = k.var_widths;
      returned_width = k.returned_width;
      entry_widths = k.entry_widths;
      balance_widths = k.balance_widths;
      tokens = subst (λ l. AreTokens l (forget_slots s).shape) (sym m)
          (tokens-together n (forget_slots s).shape (record {
            entry = ts.entry;
            vars = ts.vars;
            statics = ts.statics;
            returned = ts.returned;
            slots = All-nil (IsTrackedBelow n);
          }));
    }

pub after-forget_slots : (j : ℕ) (s t : Scene) → IsAfter j s t → IsAfter j s (forget_slots t)
after-forget_slots j s t k = record {
  few = λ c. (let e = length-map t.shape.made (λ _. false) in let l = k.few c in omega (arith, e, l));
  scene = forget_slots_scene t k.scene;
  width = k.width;
  vars = k.vars;
  entry = k.entry;
  balances = k.balances;
}
