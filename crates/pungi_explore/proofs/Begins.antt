-- How a path begins: it ends where it began, or goes by an answer to a next state and on from there. So what holds of
-- the states that the paths from all next states lead to holds of those that the paths from a state lead to.
use Rattle.std.proofs.Common.{◌≡◌, ℕ, List, [], ◌∷◌, ◌++◌, true, false, refl, sym, ◌∙◌, subst, ◌⊎◌, inl}
use Rattle.std.specs.Prelude.{slice_get, Option}
use Rattle.std.specs.List.{flat_map}
use Rattle.pungi_base.specs.declared.pos.Pos.{Pos}
use Rattle.pungi_code.specs.declared.code.Code.{Code}
use Rattle.pungi_code.specs.declared.code.Codes.{Codes}
use Rattle.pungi_code.specs.declared.code.Line.{Line}
use Rattle.pungi_symbol.specs.declared.answers.decision.Decision.{Decision}
use Rattle.pungi_symbol.specs.declared.states.known.Status.{Status}
use Rattle.pungi_symbol.specs.declared.states.known.Status.TheVariants as status
use Rattle.pungi_symbol.specs.declared.questions.question.Question.{Question}
use Rattle.pungi_symbol.specs.declared.states.state.State.{State}
use Rattle.pungi_symbol.specs.declared.states.term.Term.{Term}
use Rattle.pungi_symbol.specs.questions.NextQuestion.{ask, asks_line, asks_turn, ask_while}
use Rattle.pungi_symbol.specs.answers.SymbolicState.{can, apply, answers_of, after_if, successors}
use Rattle.pungi_symbol.specs.runs.Paths.{table_of, Path, path_here, path_on, HasNoTable}
use Rattle.pungi_symbol.specs.runs.AtZero.{HasNoZeroTable}
use Rattle.pungi_symbol.specs.Promises.{AllLevel, OffBy}
use Rattle.pungi_explore.specs.Explored.{IsOffAt}
use Rattle.pungi_explore.specs.Traces.{HasEnded, states_after}
use Rattle.pungi_explore.proofs.Each.{Each}
use Rattle.pungi_explore.proofs.Listed.{after_each}
use Rattle.pungi_explore.proofs.Trees.{IsGone}

-- the decisions of a path, the newest first, with Quiet
abbrev pub Told : Type 0
Told = List Decision

pub data Begins (code : List Line) (s : State) : Told → State → Type 0 where
  stays : Begins code s [] s
  answers : (d : Decision) (ds : Told) (last : State) → can s (ask code s.known) d ≡ true
      → Path code (apply (slice_get code s.known.pc) (ask code s.known) d s) ds last
      → Begins code s (ds ++ d ∷ []) last

module _ (code : List Line) (s : State) where
  one_more : (ds : Told) (t : State) (d : Decision) → Begins code s ds t → can t (ask code t.known) d ≡ true
      → Begins code s (d ∷ ds) (apply (slice_get code t.known.pc) (ask code t.known) d t)
  one_more _ _ d stays c = answers d [] _ c path_here
  one_more _ _ d (answers e es t c' p) c = answers e (d ∷ es) _ c' (path_on es t d p c)

  pub begins : (ds : Told) (last : State) → Path code s ds last → Begins code s ds last
  begins _ _ path_here = stays
  begins _ _ (path_on ds t d p c) = one_more ds t d (begins ds t p) c

  -- and back
  pub began : (d : Decision) (ds : Told) (last : State) → can s (ask code s.known) d ≡ true
      → Path code (apply (slice_get code s.known.pc) (ask code s.known) d s) ds last → Path code s (ds ++ d ∷ []) last
  began d _ _ c path_here = path_on [] s d path_here c
  began d _ _ c (path_on ds t e p c') = path_on (ds ++ d ∷ []) t e (began d ds t c p) c'

asked_going : (s : State) (q : Question) (d : Decision) (z : Status) → can s (ask_while z q) d ≡ true
    → (z ≡ status.Going → ⊥) → ⊥
asked_going s q d status.Going c ended = ended refl
asked_going s q d (status.Returned p x) c ended = let bad : false ≡ true = c in cc
asked_going s q d (status.Stopped p) c ended = let bad : false ≡ true = c in cc
asked_going s q d (status.Blocked o p) c ended = let bad : false ≡ true = c in cc

-- a state that has ended asks nothing more
pub ended_asks : (code : List Line) (s : State) (d : Decision) → HasEnded s → can s (ask code s.known) d ≡ true → ⊥
ended_asks code s d ended c =
    asked_going s (asks_turn s.known (asks_line s.known (slice_get code s.known.pc))) d s.known.status c ended

-- one that has a next state hasn't ended
none_next : (code : List Line) (s : State) (q : Question) (z : Status) (p : Decision × State)
    (ps : List (Decision × State))
    → flat_map (after_if (slice_get code s.known.pc) (ask_while z q) s) (answers_of (ask_while z q)) ≡ p ∷ ps
    → z ≡ status.Going
none_next code s q status.Going p ps e = refl
none_next code s q (status.Returned r x) p ps e = let bad : [] ≡ p ∷ ps = e in absurd (cc)
none_next code s q (status.Stopped r) p ps e = let bad : [] ≡ p ∷ ps = e in absurd (cc)
none_next code s q (status.Blocked o r) p ps e = let bad : [] ≡ p ∷ ps = e in absurd (cc)

pub next_going : (code : List Line) (s : State) (p : Decision × State) (ps : List (Decision × State))
    → successors code s ≡ p ∷ ps → s.known.status ≡ status.Going
next_going code s p ps e =
    none_next code s (asks_turn s.known (asks_line s.known (slice_get code s.known.pc))) s.known.status p ps e

module _ (code : List Line) (s : State) where
  ended_begins : HasEnded s → (ds : Told) (last : State) → Begins code s ds last → ds ≡ []
  ended_begins ended _ _ stays = refl
  ended_begins ended _ _ (answers d ds last c p) = absurd (ended_asks code s d ended c)

  -- no run is in a state that has ended and has no values of its tokens
  gone_begins : HasEnded s → HasNoTable s → (ds : Told) (last : State) → Begins code s ds last → HasNoTable last
  gone_begins ended none _ _ stays = none
  gone_begins ended none _ _ (answers d ds last c p) = absurd (ended_asks code s d ended c)

  pub ended_gone : HasEnded s → HasNoTable s → IsGone code s
  ended_gone ended none ds last p = gone_begins ended none ds last (begins code s ds last p)

  -- where a state has ended, no answer leads on
  pub ended_here : HasEnded s → (ds : Told) (last : State) → Path code s ds last → ds ≡ []
  ended_here ended ds last p = ended_begins ended ds last (begins code s ds last p)

-- each run to a state is balanced, or the state is reported as off at a place; where it is off, no values of the tokens
-- fit it by which it computes with zeros
pub record IsLevelOrOff (codes : Codes) (code : Code) (s : State) : Type 0 where
  pub level : AllLevel codes s ⊎ ((p : Pos) × IsOffAt code p s)
  pub at_zero : (t : ℕ) → OffBy code s s.known.status t → HasNoZeroTable s

abbrev pub AreLevelFrom : Codes → Code → State → Type 0
AreLevelFrom codes code s =
    (ds : List Decision) (last : State) → Path code.instrs s ds last → IsLevelOrOff codes code last

module _ (codes : Codes) (code : Code) (s : State) where
  ended_last : HasEnded s → IsLevelOrOff codes code s → (ds : Told) (last : State) → Begins code.instrs s ds last
      → IsLevelOrOff codes code last
  ended_last ended level _ _ stays = level
  ended_last ended level _ _ (answers d ds last c p) = absurd (ended_asks code.instrs s d ended c)

  -- where no run is in it, each is level
  pub gone_level : IsGone code.instrs s → AreLevelFrom codes code s
  gone_level gone ds last path = record {
    level = inl (λ code' entry choices n es p x has immortals h fits r. absurd (gone ds last path
        (table_of codes.statics entry choices r.computed) r.lies.fits));
    at_zero = λ t off table f zero. gone ds last path table f;
  }

  -- where a state has ended, no path leads on
  pub ended_level : HasEnded s → IsLevelOrOff codes code s → AreLevelFrom codes code s
  ended_level ended level ds last p = ended_last ended level ds last (begins code.instrs s ds last p)

  going_not_returned : s.known.status ≡ status.Going → (p : Pos) (x : Option Term)
      → s.known.status ≡ status.Returned p x → ⊥
  going_not_returned e p x h = let bad : status.Going ≡ status.Returned p x = sym e ∙ h in cc

  going_itself : s.known.status ≡ status.Going → IsLevelOrOff codes code s
  going_itself e = record {
    level = inl (λ code' entry choices n ds p x has immortals h fits r. absurd (going_not_returned e p x h));
    at_zero = λ t off. absurd (subst (λ z. OffBy code s z t) e off);
  }

  going_last : s.known.status ≡ status.Going → Each (AreLevelFrom codes code) (states_after code.instrs s)
      → (ds : Told) (last : State) → Begins code.instrs s ds last → IsLevelOrOff codes code last
  going_last e all _ _ stays = going_itself e
  going_last e all _ _ (answers d ds last c p) = after_each (AreLevelFrom codes code) code.instrs s all d c ds last p

  pub going_level : s.known.status ≡ status.Going → Each (AreLevelFrom codes code) (states_after code.instrs s)
      → AreLevelFrom codes code s
  going_level e all ds last p = going_last e all ds last (begins code.instrs s ds last p)
