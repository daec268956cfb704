-- A call among the codes of a file, in two runs that hold the same values for its arguments.
use Rattle.std.proofs.Common.{◌≡◌, ℕ, suc, ◌==◌, Bool, true, false, List, [], ◌∷◌, length, Option, Some, None, refl}
use Rattle.std.proofs.Common.{ap, ◌∙◌, if◌then◌else◌}
use Rattle.std.specs.Prelude.{slice_get}
use Rattle.pungi_base.specs.declared.choice.Choice.{Choice}
use Rattle.pungi_base.specs.declared.pos.Pos.{Pos}
use Rattle.pungi_base.specs.declared.value.Value.{Value}
use Rattle.pungi_meaning.specs.Todo.{Entered}
use Rattle.pungi_meaning.specs.Run.{Run, Stopped, end_at_once, with_operations}
use Rattle.pungi_world.specs.declared.world.World.{World}
use Rattle.pungi_code.specs.declared.atom.Atom.{Atom}
use Rattle.pungi_code.specs.declared.atom.Var.{Var}
use Rattle.pungi_code.specs.declared.code.Code.{Code}
use Rattle.pungi_code.specs.declared.code.Line.{Line}
use Rattle.pungi_code.specs.declared.instr.Instr.TheVariants.{Call}
use Rattle.pungi_code.specs.Frames.{CodeFrame, code_numbered, enter, with_params, param_vars}
use Rattle.pungi_code.specs.Registers.{Regs, all_values, with_values}
use Rattle.pungi_code.specs.Run.{calling, execute}
use Rattle.pungi_inline.specs.Moved.{line}
use Rattle.pungi_inline.proofs.Performing.{fetch_run}
use Rattle.pungi_inline.proofs.Related.{Related, Outcomes, neither, both_go}
use Rattle.pungi_inline.proofs.Running.{never_by}
use Rattle.pungi_inline.proofs.Steps.{config, run, OneStep, here, more, EndsWith}

module _ (cs : List (Option Code)) (choices : List Choice) where
  -- ---- one run

  -- a call of the code numbered f with these arguments, and where its result goes
  pub record IsCall (ls : List Line) (pc : ℕ) (m : Regs) (p : Pos) (x : Option Var) (f : ℕ)
      (vs : Option (List Value)) : Type 0 where
    pub atoms : List Atom
    pub line : slice_get ls pc ≡ Some (line p (Call x f atoms))
    pub values : all_values atoms m.vars ≡ vs

  module _ (fs : List CodeFrame) (ls : List Line) (pc : ℕ) (m : Regs) (p : Pos) (x : Option Var) (f : ℕ) where
    -- what a call does, by its values and the called code
    call_run : (vs : Option (List Value)) (o : Option Code) → IsCall ls pc m p x f vs → code_numbered cs f ≡ o
        → (n : ℕ) → (run cs choices (suc n) (config fs ls pc m)).end
        ≡ (with_values vs p
        (λ us. enter (execute cs choices n) fs (calling p ls pc x m) f us m o)).end
    call_run vs o h e n =
        ap (λ (r : Run). r.end) (fetch_run cs choices n fs ls pc m p (Call x f h.atoms) h.line)
        ∙ ap (λ q. (with_values q p
        (λ us. enter (execute cs choices n) fs (calling p ls pc x m) f us m (code_numbered cs f))).end) h.values
        ∙ ap (λ q. (with_values vs p
        (λ us. enter (execute cs choices n) fs (calling p ls pc x m) f us m q)).end) e

    -- an argument holds nothing
    pub call_unset : IsCall ls pc m p x f None → EndsWith cs choices (config fs ls pc m) (Stopped p)
    call_unset h n = call_run None (code_numbered cs f) h refl n

    -- the function has no code
    pub call_none : (vs : List Value) → IsCall ls pc m p x f (Some vs) → code_numbered cs f ≡ None
        → EndsWith cs choices (config fs ls pc m) (Stopped p)
    call_none vs h e n = call_run (Some vs) None h e n

    -- what the call does, where d says that it has as many arguments as the code parameters
    abbrev called : ℕ → List Value → Code → Bool → Run
    called n vs g d =
        if d then with_operations (Entered p f vs ∷ [])
        (execute cs choices n (calling p ls pc x m ∷ fs) g.instrs 0 (with_params g vs m)) else end_at_once (Stopped p)

    -- the code takes another number of arguments
    pub call_stops : (vs : List Value) (g : Code) → IsCall ls pc m p x f (Some vs) → code_numbered cs f ≡ Some g
        → (length vs == g.params) ≡ false → EndsWith cs choices (config fs ls pc m) (Stopped p)
    call_stops vs g h e is n = call_run (Some vs) (Some g) h e n ∙ ap (λ d. (called n vs g d).end) is

    -- the code is entered
    pub call_enters : (vs : List Value) (g : Code) → IsCall ls pc m p x f (Some vs) → code_numbered cs f ≡ Some g
        → (length vs == g.params) ≡ true → OneStep cs choices (config fs ls pc m)
        (config (calling p ls pc x m ∷ fs) g.instrs 0 (with_params g vs m))
    call_enters vs g h e is n = call_run (Some vs) (Some g) h e n ∙ ap (λ d. (called n vs g d).end) is

  -- ---- two runs

  -- what is held where a code begins depends on the values, the world and the used choices alone
  same_params : (g : Code) (vs : List Value) (m k : Regs) → k.world ≡ m.world → k.used ≡ m.used
      → with_params g vs k ≡ with_params g vs m
  same_params g vs m k world used =
      ap (λ (w : World). record { world = w; used = k.used; vars = param_vars g vs }) world
      ∙ ap (λ (u : List Pos). record { world = m.world; used = u; vars = param_vars g vs }) used

  module _ (c : Code) (fs gs : List CodeFrame) (ls ms : List Line) (pc q : ℕ) (m k : Regs) (p : Pos)
      (x y : Option Var) (f : ℕ) (world : k.world ≡ m.world) (used : k.used ≡ m.used) where
    -- wherever the code is entered, the runs are related
    abbrev pub AreRelatedIn : Type 0
    AreRelatedIn = (g : Code) (r : Regs)
        → Related cs c (config (calling p ls pc x m ∷ fs) g.instrs 0 r) (config (calling p ms q y k ∷ gs) g.instrs 0 r)

    -- both runs enter the code, or both stop
    both_enter : (vs : List Value) (g : Code) (d : Bool) → IsCall ls pc m p x f (Some vs)
        → IsCall ms q k p y f (Some vs) → code_numbered cs f ≡ Some g → (length vs == g.params) ≡ d → AreRelatedIn
        → Outcomes cs c choices (config fs ls pc m) (config gs ms q k)
    both_enter vs g true h i e is related =
        let t = config (calling p ms q y k ∷ gs) g.instrs 0 (with_params g vs m) in
        let enters : OneStep cs choices (config gs ms q k) t =
        λ n. call_enters gs ms q k p y f vs g i e is n
        ∙ ap (λ r. (execute cs choices n (calling p ms q y k ∷ gs) g.instrs 0 r).end)
        (same_params g vs m k world used) in
        both_go (config (calling p ls pc x m ∷ fs) g.instrs 0 (with_params g vs m)) t 0
        (call_enters fs ls pc m p x f vs g h e is) (more 0 (config gs ms q k) t t enters (here t))
        (related g (with_params g vs m))
    both_enter vs g false h i e is related =
        neither
        (never_by cs choices (config fs ls pc m) (Stopped p) (call_stops fs ls pc m p x f vs g h e is) (λ r. r))
        (never_by cs choices (config gs ms q k) (Stopped p) (call_stops gs ms q k p y f vs g i e is) (λ r. r))

    -- both runs enter a code that is there, or both stop
    both_call_code : (vs : List Value) (o : Option Code) → IsCall ls pc m p x f (Some vs)
        → IsCall ms q k p y f (Some vs) → code_numbered cs f ≡ o → AreRelatedIn
        → Outcomes cs c choices (config fs ls pc m) (config gs ms q k)
    both_call_code vs None h i e related =
        neither
        (never_by cs choices (config fs ls pc m) (Stopped p) (call_none fs ls pc m p x f vs h e) (λ r. r))
        (never_by cs choices (config gs ms q k) (Stopped p) (call_none gs ms q k p y f vs i e) (λ r. r))
    both_call_code vs (Some g) h i e related =
        both_enter vs g (length vs == g.params) h i e refl related

    -- both runs do the same with the call
    pub both_call : (vs : Option (List Value)) → IsCall ls pc m p x f vs → IsCall ms q k p y f vs → AreRelatedIn
        → Outcomes cs c choices (config fs ls pc m) (config gs ms q k)
    both_call None h i related =
        neither
        (never_by cs choices (config fs ls pc m) (Stopped p) (call_unset fs ls pc m p x f h) (λ r. r))
        (never_by cs choices (config gs ms q k) (Stopped p) (call_unset gs ms q k p y f i) (λ r. r))
    both_call (Some vs) h i related = both_call_code vs (code_numbered cs f) h i refl related
