-- The balances after a call took over some of its arguments, one after another.
use Rattle.std.proofs.Common.{◌≡◌, ℕ, ◌+◌, ◌<◌, ℤ, negsuc, List, [], ◌∷◌, length, get_or, Bool, true, false, refl, sym}
use Rattle.std.proofs.Common.{ap, ◌∙◌, arith, min, cond}
use Rattle.std.specs.Prelude.{drop}
use Rattle.pungi_api.specs.declared.take.Take.{Take}
use Rattle.pungi_world.specs.Calls.{is_taken}
use Rattle.pungi_code.specs.declared.atom.Atom.{Atom}
use Rattle.pungi_symbol.specs.declared.states.known.Known.{Known}
use Rattle.pungi_symbol.specs.declared.states.state.State.{State}
use Rattle.pungi_symbol.specs.declared.states.term.Term.{Term}
use Rattle.pungi_symbol.specs.states.Known.{term_of}
use Rattle.pungi_symbol.specs.questions.NextQuestion.{terms_of}
use Rattle.pungi_symbol.specs.answers.SymbolicState.{add_term, lower, taken_terms}
use Rattle.pungi_symbol.proofs.questions.Arguments.{drop_here, none_left}

-- the state after the arguments from a place on were taken over too
abbrev pub Lowered : Bool → List Take → List Atom → ℕ → State → State
Lowered success ts as' i s =
    record s {
      balances = lower s.classes s.known (taken_terms success (drop i ts) (terms_of s.known (drop i as')))
          s.balances;
    }

abbrev pub Less : Bool → Term → State → State
Less b x s = record s { balances = cond b (add_term s.classes s.known x (negsuc 0) s.balances) s.balances }

module _ (success : Bool) (ts : List Take) (as' : List Atom) where
  one_less : (cs : List ℕ) (k : Known) (b : Bool) (x : Term) (xs : List Term) (balances : List ℤ)
      → lower cs k xs (cond b (add_term cs k x (negsuc 0) balances) balances) ≡ lower cs k (cond b (x ∷ xs) xs) balances
  one_less cs k true x xs balances = refl
  one_less cs k false x xs balances = refl

  pub lowered_step : (s : State) (i : ℕ) (t : Take) (d : Atom) → i < length ts → i < length as'
      → Lowered success ts as' (i + 1) (Less (is_taken success (get_or ts i t)) (term_of s.known (get_or as' i d))
      s) ≡ Lowered success ts as' i s
  lowered_step s i t d h g =
      ap (λ b. record s { balances = b }) (
      one_less s.classes s.known (is_taken success (get_or ts i t)) (term_of s.known (get_or as' i d))
      (taken_terms success (drop (i + 1) ts) (terms_of s.known (drop (i + 1) as'))) s.balances
      ∙ sym (
      ap (λ l. lower s.classes s.known (taken_terms success l (terms_of s.known (drop i as'))) s.balances)
      (drop_here ts i t h)
      ∙ ap (λ l. lower s.classes s.known (taken_terms success (get_or ts i t ∷ drop (i + 1) ts)
      (terms_of s.known l)) s.balances) (drop_here as' i d g))
      )

  none_taken : (k : Known) (ts : List Take) (bs : List Atom) → min (length ts) (length bs) ≡ 0
      → taken_terms success ts (terms_of k bs) ≡ []
  none_taken k [] bs e = refl
  none_taken k (t ∷ ts) [] e = refl
  none_taken k (t ∷ ts) (b ∷ bs) e = absurd (omega (arith, e))

  pub lowered_end : (s : State) (n : ℕ) → n ≡ min (length ts) (length as') → Lowered success ts as' n s ≡ s
  lowered_end s n e = ap (λ xs. record s { balances = lower s.classes s.known xs s.balances })
      (none_taken s.known (drop n ts) (drop n as') (none_left ts as' n e))
