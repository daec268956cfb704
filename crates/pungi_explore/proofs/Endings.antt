-- What is seen at a state, from how it ends.
use Rattle.std.proofs.Common.{◌≡◌, List, [], ◌∷◌, ◌++◌, refl, sym, ap, ◌∙◌, subst, ◌⊎◌, inl, inr}
use Rattle.std.proofs.lemmas.List.{append-nil}
use Rattle.std.proofs.Common.{append_assoc}
use Rattle.std.specs.Prelude.{Option, Some, IfSome}
use Rattle.pungi_base.specs.declared.pos.Pos.{Pos}
use Rattle.pungi_base.specs.declared.witness.Witness.{Witness}
use Rattle.pungi_code.specs.declared.code.Codes.{Codes}
use Rattle.pungi_symbol.specs.declared.states.known.Status.{Status}
use Rattle.pungi_symbol.specs.declared.states.known.Status.TheVariants as status
use Rattle.pungi_symbol.specs.declared.states.obstacle.Obstacle.{Obstacle}
use Rattle.pungi_symbol.specs.declared.states.state.State.{State}
use Rattle.pungi_symbol.specs.declared.states.sym_end.SymEnd.TheVariants as ends
use Rattle.pungi_symbol.specs.runs.Paths.{end_of}
use Rattle.pungi_explore.specs.declared.visited.Visited.{Visited}
use Rattle.pungi_explore.specs.declared.visited.Visited.TheVariants.{Goes, Ends, Open, Gone, Unbalanced}
use Rattle.pungi_explore.specs.Traces.{HasEnded}
use Rattle.pungi_explore.specs.Visits.{IsEnd, IsAtBlock, IsFollowed, LeadsNowhere, Keeps, keeps_none, keeps_one}
use Rattle.pungi_explore.specs.Visits.{leaves_out, Puts, Visits}

-- ---- how a state ends

pub blocked_status : (z : Status) (o : Obstacle) (p : Pos) → end_of z ≡ ends.Blocked o p → z ≡ status.Blocked o p
blocked_status status.Going o p e = absurd (cc)
blocked_status (status.Returned q x) o p e = absurd (cc)
blocked_status (status.Stopped q) o p e = absurd (cc)
blocked_status (status.Blocked u q) o p e = cc

pub going_status : (z : Status) → end_of z ≡ ends.Going → z ≡ status.Going
going_status status.Going e = refl
going_status (status.Returned q x) e = absurd (cc)
going_status (status.Stopped q) e = absurd (cc)
going_status (status.Blocked o q) e = absurd (cc)

pub returned_over : (z : Status) (p : Pos) → end_of z ≡ ends.Returned p → z ≡ status.Going → ⊥
returned_over z p e going = let bad : ends.Going ≡ ends.Returned p = sym (ap end_of going) ∙ e in cc

pub stopped_over : (z : Status) (p : Pos) → end_of z ≡ ends.Stopped p → z ≡ status.Going → ⊥
stopped_over z p e going = let bad : ends.Going ≡ ends.Stopped p = sym (ap end_of going) ∙ e in cc

pub blocked_over : (z : Status) (o : Obstacle) (p : Pos) → end_of z ≡ ends.Blocked o p → z ≡ status.Going → ⊥
blocked_over z o p e going = let bad : ends.Going ≡ ends.Blocked o p = sym (ap end_of going) ∙ e in cc

pub returned_followed : (z : Status) (p : Pos) → end_of z ≡ ends.Returned p → (o : Obstacle) (q : Pos)
    → z ≡ status.Blocked o q → ⊥
returned_followed z p e o q blocked =
    let bad : ends.Blocked o q ≡ ends.Returned p = sym (ap end_of blocked) ∙ e in cc

pub stopped_followed : (z : Status) (p : Pos) → end_of z ≡ ends.Stopped p → (o : Obstacle) (q : Pos)
    → z ≡ status.Blocked o q → ⊥
stopped_followed z p e o q blocked = let bad : ends.Blocked o q ≡ ends.Stopped p = sym (ap end_of blocked) ∙ e in cc

pub ended_visit : (codes : Codes) (s : State) (old new : List State) (seen : Visited) → HasEnded s → IsFollowed s
    → new ≡ old → IsEnd codes s seen → Visits codes s old new seen
ended_visit codes s old new Goes over followed same h = absurd h
ended_visit codes s old new Ends over followed same h = (over, (followed, (h, same)))
ended_visit codes s old new (Open o p) over followed same h = (h, same)
ended_visit codes s old new Gone over followed same h = (over, (h, same))
ended_visit codes s old new (Unbalanced w) over followed same h = h

pub blocked_visit : (codes : Codes) (s : State) (old new : List State) (seen : Visited) → HasEnded s → new ≡ old
    → IsAtBlock codes s seen → Visits codes s old new seen
blocked_visit codes s old new Goes over same h = absurd h
blocked_visit codes s old new Ends over same h = absurd h
blocked_visit codes s old new (Open o p) over same h = (h, same)
blocked_visit codes s old new Gone over same h = (over, (h, same))
blocked_visit codes s old new (Unbalanced w) over same h = absurd h

-- what holds of a witness that is there
pub of_some : (P : Witness → Type 0) (o : Option Witness) (w : Witness) → o ≡ Some w → IfSome o P → P w
of_some P o w e h = subst (λ x. IfSome x P) e h

-- ---- states that are put one after another

keep_last : (s : State) (ss ts : List State) → Keeps ss ts → Keeps (ss ++ s ∷ []) (ts ++ s ∷ [])
keep_last s _ _ keeps_none = keeps_one s [] [] keeps_none
keep_last s _ _ (keeps_one t ss ts k) = keeps_one t (ss ++ s ∷ []) (ts ++ s ∷ []) (keep_last s ss ts k)
keep_last s _ _ (leaves_out t ss ts nowhere k) =
    leaves_out t (ss ++ s ∷ []) (ts ++ s ∷ []) nowhere (keep_last s ss ts k)

leave_last : (s : State) (ss ts : List State) → LeadsNowhere s → Keeps ss ts → Keeps (ss ++ s ∷ []) ts
leave_last s _ _ nowhere keeps_none = leaves_out s [] [] nowhere keeps_none
leave_last s _ _ nowhere (keeps_one t ss ts k) = keeps_one t (ss ++ s ∷ []) ts (leave_last s ss ts nowhere k)
leave_last s _ _ nowhere (leaves_out t ss ts gone k) =
    leaves_out t (ss ++ s ∷ []) ts gone (leave_last s ss ts nowhere k)

pub puts_none : (old : List State) → Puts [] old old
puts_none old = ([], (keeps_none, sym (append-nil old)))

pub puts_more : (ss old now new : List State) (s : State) → Puts ss old now
    → (new ≡ now ++ s ∷ []) ⊎ (LeadsNowhere s × (new ≡ now)) → Puts (ss ++ s ∷ []) old new
puts_more ss old now new s before (inl e) = (
  before.0 ++ s ∷ [],
  (
    keep_last s ss before.0 before.1.0,
    e ∙ ap (λ l. l ++ s ∷ []) before.1.1 ∙ append_assoc old before.0 (s ∷ []),
  ),
)
puts_more ss old now new s before (inr h) =
    (before.0, (leave_last s ss before.0 h.0 before.1.0, h.1 ∙ before.1.1))
