-- A run in which other functions wait goes step by step with the run without them.
use Rattle.std.proofs.Common.{◌≡◌, ℕ, zero, suc, ◌+◌, ◌-◌, ◌≤◌, Bool, true, false, List, [], ◌∷◌, ◌++◌, Option, Some}
use Rattle.std.proofs.Common.{None, if◌then◌else◌, refl, sym, ap, ◌∙◌, append_assoc, add-zero, arith}
use Rattle.pungi_base.specs.declared.choice.Choice.{Choice}
use Rattle.pungi_base.specs.declared.pos.Pos.{Pos}
use Rattle.pungi_base.specs.declared.value.Value.{Value}
use Rattle.pungi_resolved.specs.Functions.{ResolvedFunction}
use Rattle.pungi_world.specs.declared.world.World.{World}
use Rattle.pungi_meaning.specs.Frames.{Frame, waiting, numbered, takes, with_params, resumed}
use Rattle.pungi_meaning.specs.Run.{End, Returned, Stopped, NeedsChoice, OutOfFuel, Run, end_at_once, with_operations}
use Rattle.pungi_meaning.specs.Run.{act, body_of, with_value, after_return, entered, run_after, run_from}
use Rattle.pungi_meaning.specs.Segments.{Next, followed_at, followed_by, AreSegments}
use Rattle.pungi_meaning.specs.Todo.{Operation, Entered, Todo, State, Step, Goes, Calls, Returns, Stops, Wants}

-- a run alone, and the same where others wait and there are more steps
record IsPart (fs : List (Option ResolvedFunction)) (choices : List Choice) (n : ℕ) (alone : Run)
    (among : List Frame → ℕ → Run) : Type 0 where
  left : ℕ
  fewer : left ≤ n - 1
  whole : (others : List Frame) (more : ℕ) → (alone.end ≡ OutOfFuel → more ≡ 0)
      → among others more ≡ followed_by alone (after_return (run_from fs choices (left + more)) others)

abbrev IsPartWhole : List (Option ResolvedFunction) → List Choice → ℕ → List Frame → List Todo → State → Type 0
IsPartWhole fs choices n frames k s =
    IsPart fs choices n (run_from fs choices n frames k s)
    (λ others more. run_from fs choices (n + more) (frames ++ others) k s)

abbrev Before : List (Option ResolvedFunction) → List Choice → ℕ → Type 0
Before fs choices n = (frames : List Frame) (k : List Todo) (s : State) → IsPartWhole fs choices n frames k s

followed_with : (e : End) (os : List Operation) (r : Run) (next : Next)
    → followed_at e (with_operations os r) next ≡ with_operations os (followed_at e r next)
followed_with (Returned w v p used) os r next =
    ap (λ l. record { end = (next w v p used).end; ops = l }) (append_assoc os r.ops (next w v p used).ops)
followed_with (Stopped p) os r next = refl
followed_with NeedsChoice os r next = refl
followed_with OutOfFuel os r next = refl

one_more : (fs : List (Option ResolvedFunction)) (choices : List Choice) (n : ℕ) → Before fs choices n
    → (os : List Operation) (frames : List Frame) (k : List Todo) (s : State)
    → IsPart fs choices (suc n) (with_operations os (run_from fs choices n frames k s))
    (λ others more. with_operations os (run_from fs choices (n + more) (frames ++ others) k s))
one_more fs choices n before os frames k s =
    let i = before frames k s in
    let r = run_from fs choices n frames k s in
    record {
      left = i.left;
      fewer = omega (arith, i.fewer);
      whole = λ others more h.
          ap (with_operations os) (i.whole others more h)
          ∙ sym (followed_with r.end os r (after_return (run_from fs choices (i.left + more)) others));
    }

stopped : (fs : List (Option ResolvedFunction)) (choices : List Choice) (n : ℕ) (p : Pos)
    → IsPart fs choices (suc n) (end_at_once (Stopped p)) (λ others more. end_at_once (Stopped p))
stopped fs choices n p = record { left = 0; fewer = omega arith; whole = λ others more h. refl }

entered_part : (fs : List (Option ResolvedFunction)) (choices : List Choice) (n : ℕ) → Before fs choices n
    → (frames : List Frame) (p : Pos) (number : ℕ) (b : Bool) (args : List Value) (k : List Todo) (s : State)
    (g : ResolvedFunction) (t : Bool) → IsPart fs choices (suc n)
    (if t then with_operations (Entered p number args ∷ [])
    (run_from fs choices n (waiting p b k s ∷ frames) (body_of g) (with_params g args s)) else end_at_once (Stopped p))
    (λ others more. if t then with_operations (Entered p number args ∷ [])
    (run_from fs choices (n + more) (waiting p b k s ∷ frames ++ others) (body_of g) (with_params g args s))
    else end_at_once (Stopped p))
entered_part fs choices n before frames p number b args k s g true =
    one_more fs choices n before (Entered p number args ∷ []) (waiting p b k s ∷ frames) (body_of g)
    (with_params g args s)
entered_part fs choices n before frames p number b args k s g false = stopped fs choices n p

called_part : (fs : List (Option ResolvedFunction)) (choices : List Choice) (n : ℕ) → Before fs choices n
    → (frames : List Frame) (p : Pos) (number : ℕ) (b : Bool) (args : List Value) (k : List Todo) (s : State)
    (o : Option ResolvedFunction) → IsPart fs choices (suc n)
    (entered (run_from fs choices n) frames p number b args k s o)
    (λ others more. entered (run_from fs choices (n + more)) (frames ++ others) p number b args k s o)
called_part fs choices n before frames p number b args k s None = stopped fs choices n p
called_part fs choices n before frames p number b args k s (Some g) =
    entered_part fs choices n before frames p number b args k s g (takes g args)

resumed_part : (fs : List (Option ResolvedFunction)) (choices : List Choice) (n : ℕ) → Before fs choices n
    → (frames : List Frame) (c : Frame) (w : World) (used : List Pos) (v : Option Value) (b : Bool)
    → IsPart fs choices (suc n)
    (if b then with_value (run_from fs choices n) frames c w used v else run_from fs choices n frames c.todos
    (resumed c w used c.values))
    (λ others more. if b then with_value (run_from fs choices (n + more)) (frames ++ others) c w used v
    else run_from fs choices (n + more) (frames ++ others) c.todos (resumed c w used c.values))
resumed_part fs choices n before frames c w used None true = stopped fs choices n c.call
resumed_part fs choices n before frames c w used (Some v) true =
    one_more fs choices n before [] frames c.todos (resumed c w used (v ∷ c.values))
resumed_part fs choices n before frames c w used v false =
    one_more fs choices n before [] frames c.todos (resumed c w used c.values)

returned_part : (fs : List (Option ResolvedFunction)) (choices : List Choice) (n : ℕ) → Before fs choices n
    → (frames : List Frame) (w : World) (v : Option Value) (p : Pos) (used : List Pos) → IsPart fs choices (suc n)
    (after_return (run_from fs choices n) frames w v p used)
    (λ others more. after_return (run_from fs choices (n + more)) (frames ++ others) w v p used)
returned_part fs choices n before [] w v p used = record {
  left = n;
  fewer = omega arith;
  whole = λ others more h. refl;
}
returned_part fs choices n before (c ∷ frames) w v p used =
    resumed_part fs choices n before frames c w used v c.has_value

step_part : (fs : List (Option ResolvedFunction)) (choices : List Choice) (n : ℕ) → Before fs choices n
    → (frames : List Frame) (st : Step) → IsPart fs choices (suc n)
    (run_after fs (run_from fs choices n) frames st)
    (λ others more. run_after fs (run_from fs choices (n + more)) (frames ++ others) st)
step_part fs choices n before frames (Goes os k s) = one_more fs choices n before os frames k s
step_part fs choices n before frames (Calls p number b args k s) =
    called_part fs choices n before frames p number b args k s (numbered fs number)
step_part fs choices n before frames (Returns w v p used) = returned_part fs choices n before frames w v p used
step_part fs choices n before frames (Stops p) = stopped fs choices n p
step_part fs choices n before frames Wants = record {
  left = 0;
  fewer = omega arith;
  whole = λ others more h. refl;
}

so_many : (fs : List (Option ResolvedFunction)) (choices : List Choice) (frames : List Frame) (k : List Todo)
    (s : State) (n m : ℕ) → n ≡ m → run_from fs choices n frames k s ≡ run_from fs choices m frames k s
so_many fs choices frames k s n m e = ap (λ i. run_from fs choices i frames k s) e

are_parts : (fs : List (Option ResolvedFunction)) (choices : List Choice) (n : ℕ) → Before fs choices n
are_parts fs choices zero frames k s = record {
  left = 0;
  fewer = omega arith;
  whole = λ others more h.
      let none : more ≡ 0 = h refl in
      so_many fs choices (frames ++ others) k s (0 + more) 0 (omega arith);
}
are_parts fs choices (suc n) frames k s =
    let part = step_part fs choices n (are_parts fs choices n) frames (act choices k s) in
    record {
      left = part.left;
      fewer = part.fewer;
      whole = λ others more h.
          so_many fs choices (frames ++ others) k s (suc n + more) (suc (n + more)) (omega arith)
          ∙ part.whole others more h;
    }

pub are_segments : AreSegments
are_segments fs choices n frames k s =
    let part = are_parts fs choices n frames k s in
    let r = run_from fs choices n frames k s in
    record {
      left = part.left;
      fewer = part.fewer;
      whole = λ others.
          so_many fs choices (frames ++ others) k s n (n + 0) (omega arith)
          ∙ part.whole others 0 (λ e. refl)
          ∙ ap (λ i. followed_by r (after_return (run_from fs choices i) others)) (add-zero part.left);
      longer = λ others more ended. part.whole others more (λ e. absurd (ended e));
    }
