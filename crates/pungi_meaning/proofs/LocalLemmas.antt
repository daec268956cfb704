-- Locals that are unset one after another, and parameters that are taken so.
use Rattle.std.proofs.Common.{◌≡◌, ◌≢◌, ℕ, suc, ◌+◌, ◌<◌, ◌≤◌, Bool, true, false, ◌&&◌, List, [], ◌∷◌, ◌++◌}
use Rattle.std.proofs.Common.{length, drop, map, get_or, slice_set, Option, refl, ap, ◌∙◌, arith}
use Rattle.std.proofs.lemmas.List.{drop_all}
use Rattle.std.proofs.Math.Seq.{drop-cons}
use Rattle.pungi_base.specs.declared.value.Value.{Value}
use Rattle.pungi_resolved.specs.Actions.{DeclaredLocal}
use Rattle.pungi_types.specs.declared.kind.ValueKind.{ValueKind}
use Rattle.pungi_resolved.specs.ActionView.{action_view}
use Rattle.pungi_resolved.specs.declared.action.Action.{Action}
use Rattle.pungi_world.specs.declared.content.Content.{Content}
use Rattle.pungi_world.specs.declared.content.Content.TheVariants.{Unset}
use Rattle.pungi_meaning.specs.Entries.{fits_param, fit_params}
use Rattle.pungi_meaning.specs.Work.{action_locals, block_locals, unset_locals}

unset_both : (rs qs : List DeclaredLocal) (locals : List Content)
    → unset_locals (rs ++ qs) locals ≡ unset_locals qs (unset_locals rs locals)
unset_both [] qs locals = refl
unset_both (r ∷ rs) qs locals = unset_both rs qs (slice_set locals r.number Unset)

-- one statement of a block after another
pub declared_step : (list : List Action) (i : ℕ) (x : Action) (locals : List Content) → i < length list →
    unset_locals (block_locals (map action_view (drop i list))) locals
    ≡ unset_locals (block_locals (map action_view (drop (i + 1) list))) (unset_locals
    (action_locals (action_view (get_or list i x))) locals)
declared_step list i x locals h =
    let f : suc i ≡ i + 1 = omega arith in
    ap (λ l. unset_locals (block_locals (map action_view l)) locals) (drop-cons list i x h)
    ∙ unset_both (action_locals (action_view (get_or list i x))) (block_locals
    (map action_view (drop (suc i) list))) locals
    ∙ ap (λ n. unset_locals (block_locals (map action_view (drop n list)))
    (unset_locals (action_locals (action_view (get_or list i x))) locals)) f

pub fit_step : (objects i : ℕ) (ks : List (Option ValueKind)) (vs : List Value) (k : Option ValueKind) (v : Value)
    → i < length ks → i < length vs → fit_params objects (drop i ks) (drop i vs)
    ≡ (fits_param objects (get_or ks i k) (get_or vs i v) && fit_params objects (drop (i + 1) ks) (drop (i + 1) vs))
fit_step objects i ks vs k v a b =
    let f : suc i ≡ i + 1 = omega arith in
    ap (λ x. fit_params objects x (drop i vs)) (drop-cons ks i k a)
    ∙ ap (λ y. fit_params objects (get_or ks i k ∷ drop (suc i) ks) y) (drop-cons vs i v b)
    ∙ ap (λ n. fits_param objects (get_or ks i k) (get_or vs i v) && fit_params objects (drop n ks) (drop n vs)) f

-- each parameter has a value, and each value a parameter
pub fit_lengths : (objects : ℕ) (ks : List (Option ValueKind)) (vs : List Value) → length ks ≢ length vs
    → fit_params objects ks vs ≡ false
fit_lengths objects [] [] h = absurd (h refl)
fit_lengths objects [] (v ∷ vs) h = refl
fit_lengths objects (k ∷ ks) [] h = refl
fit_lengths objects (k ∷ ks) (v ∷ vs) h =
    ap (λ b. fits_param objects k v && b) (fit_lengths objects ks vs (λ e. h (ap suc e)))
    ∙ and_false (fits_param objects k v)
  where
    and_false : (b : Bool) → (b && false) ≡ false
    and_false true = refl
    and_false false = refl

pub fit_end : (objects i : ℕ) (ks : List (Option ValueKind)) (vs : List Value) → length ks ≤ i → length vs ≤ i
    → fit_params objects (drop i ks) (drop i vs) ≡ true
fit_end objects i ks vs a b =
    ap (λ x. fit_params objects x (drop i vs)) (drop_all i ks a)
    ∙ ap (λ y. fit_params objects [] y) (drop_all i vs b)
