-- All states of a path are of one function.
use Rattle.std.proofs.Common.{◌≡◌, ℕ, List, refl, ◌∙◌, Option, None, Some, Bool, true, false, cond}
use Rattle.std.specs.Prelude.{◌==◌, ◌||◌, slice_get}
use Rattle.std.specs.declared.cmp.Ordering.{Ordering}
use Rattle.pungi_base.specs.declared.pos.Pos.{Pos}
use Rattle.pungi_code.specs.declared.atom.Var.{Var}
use Rattle.pungi_code.specs.declared.code.Line.{Line}
use Rattle.pungi_code.specs.declared.instr.Instr.{Instr}
use Rattle.pungi_code.specs.declared.instr.Instr.TheVariants.{Set, Arith, Fit, Compare, Load, Store, Api, Call}
use Rattle.pungi_code.specs.declared.instr.Instr.TheVariants.{Unset as Forget, Jump, Branch, Return, Fall}
use Rattle.pungi_symbol.specs.declared.answers.decision.Decision.{Decision}
use Rattle.pungi_symbol.specs.declared.states.known.Known.{Known}
use Rattle.pungi_symbol.specs.declared.states.mark.Mark.{Mark}
use Rattle.pungi_symbol.specs.declared.questions.question.Question.{Question}
use Rattle.pungi_symbol.specs.declared.questions.question.Question.TheVariants.{Does, Touches, Overwrites}
use Rattle.pungi_symbol.specs.declared.questions.question.Question.TheVariants.{Null as AsksNull, Base, Answers, Same}
use Rattle.pungi_symbol.specs.declared.questions.question.Question.TheVariants.{Orders, Range, Computes, Unplain, Turn}
use Rattle.pungi_symbol.specs.declared.questions.question.Question.TheVariants.{Returns, Stops, Over}
use Rattle.pungi_symbol.specs.declared.states.known.Status.TheVariants as status
use Rattle.pungi_symbol.specs.declared.states.state.State.{State}
use Rattle.pungi_symbol.specs.declared.states.sum.Sum.{Sum}
use Rattle.pungi_symbol.specs.declared.states.term.Term.{Term}
use Rattle.pungi_symbol.specs.states.NumberPlaces.{with_compared}
use Rattle.pungi_symbol.specs.states.Terms.{is_computed, mark_at, outcomes_of_answer}
use Rattle.pungi_symbol.specs.states.Turns.{blocked_at}
use Rattle.pungi_symbol.specs.questions.NextQuestion.{ask}
use Rattle.pungi_symbol.specs.answers.KnownAfter.{put_answer, arrive_answer, call_var, does, instr_of, load_first, go_on}
use Rattle.pungi_symbol.specs.answers.KnownAfter.{store_first, perform_line, ordered, computed, says_order, go}
use Rattle.pungi_symbol.specs.answers.KnownAfter.{number_of_outcome, place_of_line, turned, with_comparison, ranged}
use Rattle.pungi_symbol.specs.answers.KnownAfter.{next_computed, with_computation}
use Rattle.pungi_symbol.specs.runs.Paths.{Path, path_here, path_on}

answered_function : (k : Known) (x : Option Var) (o : Option Term) → (go_on (put_answer x o k)).function ≡ k.function
answered_function k None o = refl
answered_function k (Some x) None = refl
answered_function k (Some x) (Some c) = refl

does_function : (k : Known) (i : Instr) → (does k i).function ≡ k.function
does_function k (Set x a) = refl
does_function k (Arith x kind o a b) = refl
does_function k (Fit x kind a) = refl
does_function k (Compare x c a b) = refl
does_function k (Load x place) = refl
does_function k (Store place a) = refl
does_function k (Api x shape as') = answered_function k x _
does_function k (Call x f as') = refl
does_function k (Forget x) = refl
does_function k (Jump to) = refl
does_function k (Branch a this other) = refl
does_function k (Return o) = refl
does_function k Fall = refl

line_function : (k : Known) (o : Option Line) → (perform_line o (λ i. does k i) k).function ≡ k.function
line_function k None = refl
line_function k (Some line) = does_function k line.instr

load_function : (i : Instr) (m : Mark) (k : Known) → (load_first i m k).function ≡ k.function
load_function (Set x a) m k = refl
load_function (Arith x kind o a b) m k = refl
load_function (Fit x kind a) m k = refl
load_function (Compare x c a b) m k = refl
load_function (Load x place) m k = refl
load_function (Store place a) m k = refl
load_function (Api x shape as') m k = refl
load_function (Call x f as') m k = refl
load_function (Forget x) m k = refl
load_function (Jump to) m k = refl
load_function (Branch a this other) m k = refl
load_function (Return o) m k = refl
load_function Fall m k = refl

store_function : (i : Instr) (m : Mark) (k : Known) → (store_first i m k).function ≡ k.function
store_function (Set x a) m k = refl
store_function (Arith x kind o a b) m k = refl
store_function (Fit x kind a) m k = refl
store_function (Compare x c a b) m k = refl
store_function (Load x place) m k = refl
store_function (Store place a) m k = refl
store_function (Api x shape as') m k = refl
store_function (Call x f as') m k = refl
store_function (Forget x) m k = refl
store_function (Jump to) m k = refl
store_function (Branch a this other) m k = refl
store_function (Return o) m k = refl
store_function Fall m k = refl

ordered_function : (i : Instr) (o : Ordering) (k : Known) → (ordered i o k).function ≡ k.function
ordered_function (Set x a) o k = refl
ordered_function (Arith x kind op a b) o k = refl
ordered_function (Fit x kind a) o k = refl
ordered_function (Compare x c a b) o k = refl
ordered_function (Load x place) o k = refl
ordered_function (Store place a) o k = refl
ordered_function (Api x shape as') o k = refl
ordered_function (Call x f as') o k = refl
ordered_function (Forget x) o k = refl
ordered_function (Jump to) o k = refl
ordered_function (Branch a this other) o k = refl
ordered_function (Return a) o k = refl
ordered_function Fall o k = refl

computed_function : (i : Instr) (s : Sum) (k : Known) → (computed i s k).function ≡ k.function
computed_function (Set x a) s k = refl
computed_function (Arith x kind op a b) s k = refl
computed_function (Fit x kind a) s k = refl
computed_function (Compare x c a b) s k = refl
computed_function (Load x place) s k = refl
computed_function (Store place a) s k = refl
computed_function (Api x shape as') s k = refl
computed_function (Call x f as') s k = refl
computed_function (Forget x) s k = refl
computed_function (Jump to) s k = refl
computed_function (Branch a this other) s k = refl
computed_function (Return a) s k = refl
computed_function Fall s k = refl

ranged_if : (within : Bool) (i : Instr) (s : Sum) (k : Known) (p : Pos)
    → (cond within (computed i s k) (record k { status = status.Stopped p })).function ≡ k.function
ranged_if true i s k p = computed_function i s k
ranged_if false i s k p = refl

ranged_function : (o : Option Line) (s : Sum) (n : ℕ) (k : Known) → (ranged o s n k).function ≡ k.function
ranged_function o s n k = ranged_if (n == 1) (instr_of o) s k (place_of_line o)

compared_if : (yes : Bool) (p : Pos) (k : Known)
    → (cond yes (record k { places = with_compared k.places p }) k).function ≡ k.function
compared_if true p k = refl
compared_if false p k = refl

compared_function : (p : Pos) (a b : Sum) (k : Known) → (with_comparison p a b k).function ≡ k.function
compared_function p a b k = compared_if (is_computed a.node || is_computed b.node) p k

turned_function : (o : Option Pos) (k : Known) → (turned o k).function ≡ k.function
turned_function None k = refl
turned_function (Some p) k = refl

go_function : (o : Option Line) (k : Known) (q : Question) (d : Decision) → (go o k q d).function ≡ k.function
go_function o k (Does d') d = line_function k o
go_function o k (Touches m) d = load_function (instr_of o) m k
go_function o k (Overwrites m) d = store_function (instr_of o) _ k
go_function o k (AsksNull t) d = refl
go_function o k (Base t u i) d = refl
go_function o k (Answers a) d =
    answered_function (arrive_answer a (mark_at (outcomes_of_answer a) (number_of_outcome d)) k)
    (call_var (instr_of o)) _
go_function o k (Same t u) d = refl
go_function o k (Orders a b) d =
    ordered_function (instr_of o) (says_order d) (with_comparison (place_of_line o) a b k)
    ∙ compared_function (place_of_line o) a b k
go_function o k (Range kind a) d = ranged_function o a (number_of_outcome d) k
go_function o k (Computes kind op a b) d =
    ranged_function o (next_computed k) (number_of_outcome d) (with_computation (place_of_line o)
    (record { kind = kind; op = op; a = a; b = b }) k)
go_function o k Unplain d = refl
go_function o k Turn d = turned_function (blocked_at k.turns k.pc) k
go_function o k (Returns x) d = refl
go_function o k (Stops d') d = refl
go_function o k Over d = refl

pub path_function : (code : List Line) (first : State) (ds : List Decision) (s : State) → Path code first ds s
    → s.known.function ≡ first.known.function
path_function code first _ _ path_here = refl
path_function code first _ _ (path_on ds s d p c) =
    go_function (slice_get code s.known.pc) s.known (ask code s.known) d ∙ path_function code first ds s p
