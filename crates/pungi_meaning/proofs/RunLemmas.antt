-- A run is one step and the rest of the run.
use Rattle.std.proofs.Common.{◌≡◌, ℕ, suc, Bool, List, Option, Result, IfOk, ap, subst}
use Rattle.pungi_base.specs.declared.choice.Choice.{Choice}
use Rattle.pungi_base.specs.declared.pos.Pos.{Pos}
use Rattle.pungi_base.specs.declared.value.Value.{Value}
use Rattle.pungi_resolved.specs.Functions.{ResolvedFunction}
use Rattle.pungi_meaning.specs.declared.machine.Ending.{Ending}
use Rattle.pungi_meaning.specs.Frames.{Frame}
use Rattle.pungi_meaning.specs.Run.{Rest, Run, act, entered, run_after, run_from}
use Rattle.pungi_meaning.specs.Todo.{Todo, State}

-- a function is entered in the same way with what is the same
pub entered_same : {E : Type 0} (r : Result (Option Ending) E) (P : (Rest → Run) → Option Ending → Type 0)
    (frames : List Frame) (p : Pos) (n : ℕ) (b : Bool) (k : List Todo) (args others : List Value) (s t : State)
    (g o : Option ResolvedFunction) → args ≡ others → s ≡ t → g ≡ o
    → IfOk r (P (λ rest. entered rest frames p n b args k s g))
    → IfOk r (P (λ rest. entered rest frames p n b others k t o))
entered_same r P frames p n b k args others s t g o a e f h =
    subst (λ x. IfOk r (P (λ rest. entered rest frames p n b others k t x))) f
    (subst (λ x. IfOk r (P (λ rest. entered rest frames p n b others k x g))) e
    (subst (λ x. IfOk r (P (λ rest. entered rest frames p n b x k s g))) a h))

pub run_more : (fs : List (Option ResolvedFunction)) (choices : List Choice) (n m : ℕ) (frames : List Frame)
    (k : List Todo) (s : State) → n ≡ suc m
    → (run_from fs choices n frames k s).end
    ≡ (run_after fs (run_from fs choices m) frames (act choices k s)).end
run_more fs choices n m frames k s e = ap (λ i. (run_from fs choices i frames k s).end) e
