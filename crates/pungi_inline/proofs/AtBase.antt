-- The code itself runs, in both runs: each instruction of it leads to related places.
use Rattle.std.proofs.Common.{◌≡◌, ℕ, zero, suc, ◌+◌, ◌<◌, ◌≤◌, ◌==◌, true, List, [], ◌∷◌, length}
use Rattle.std.proofs.Common.{Option, Some, None, refl, sym, ap, ◌∙◌, subst, arith, length-set}
use Rattle.std.specs.Prelude.{slice_get}
use Rattle.pungi_base.specs.declared.choice.Choice.{Choice}
use Rattle.pungi_base.specs.declared.pos.Pos.{Pos}
use Rattle.pungi_base.specs.declared.value.Value.{Value}
use Rattle.pungi_world.specs.declared.content.Content.{Content}
use Rattle.pungi_world.specs.declared.content.Content.TheVariants as content
use Rattle.pungi_world.specs.declared.world.World.{World}
use Rattle.pungi_meaning.specs.Run.{Returned, Stopped}
use Rattle.pungi_code.specs.declared.atom.Atom.{Atom}
use Rattle.pungi_code.specs.declared.atom.Var.{Var}
use Rattle.pungi_code.specs.declared.code.Code.{Code}
use Rattle.pungi_code.specs.declared.code.Line.{Line}
use Rattle.pungi_code.specs.declared.instr.Instr.{Instr}
use Rattle.pungi_code.specs.declared.instr.Instr.TheVariants.{Call, Return}
use Rattle.pungi_code.specs.Frames.{code_numbered, with_params}
use Rattle.pungi_code.specs.Limits.{most_variables}
use Rattle.pungi_code.specs.Registers.{Regs, put, content_of, all_values}
use Rattle.pungi_code.specs.Run.{calling, execute}
use Rattle.pungi_code.specs.WellFormed.{CallKinds, IsWellFormedAmong}
use Rattle.pungi_inline.specs.Copies.{body_label}
use Rattle.pungi_inline.specs.Inlined.{label_in}
use Rattle.pungi_inline.specs.Moved.{line, moved_var, moved_result, moved_atom, moved_atoms, moved_instr}
use Rattle.pungi_inline.specs.Sites.{Site, site}
use Rattle.pungi_inline.proofs.Arguments.{held_there, values_length}
use Rattle.pungi_inline.proofs.CalledCodes.{Called, called}
use Rattle.pungi_inline.proofs.Calling.{IsCall, both_call, call_unset, call_enters}
use Rattle.pungi_inline.proofs.CallSites.{no_site, copied_there, IsSoundCall, sound_call}
use Rattle.pungi_inline.proofs.Entering.{IsSite, enters_copy, stops_before}
use Rattle.pungi_inline.proofs.Leaving.{IsReturn, of_none, of_value, leave_run, return_unset}
use Rattle.pungi_inline.proofs.Moves.{Follows, go_on, go_to, stop, want, leads_alike}
use Rattle.pungi_inline.proofs.OneInstruction.{Outcome, leads, end_after, is_ordinary}
use Rattle.pungi_inline.proofs.Operands.{values_alike, condition_alike, put_alike}
use Rattle.pungi_inline.proofs.Performing.{leads_run}
use Rattle.pungi_inline.proofs.Placed.{HaveParams}
use Rattle.pungi_inline.proofs.Related.{target, all_vars, AtBase, Level, at_base, in_copy, ResumesAlike}
use Rattle.pungi_inline.proofs.Related.{level, above, Outcomes, both_return, neither, both_go}
use Rattle.pungi_inline.proofs.Running.{never_by}
use Rattle.pungi_inline.proofs.Standing.{base_line, after_base}
use Rattle.pungi_inline.proofs.Steps.{config, run, OneStep, here, more}
use Rattle.pungi_inline.proofs.Windows.{SameRegs}

-- within a code there is an instruction
pub there_at : (ls : List Line) (i : ℕ) → i < length ls → (l : Line) × (slice_get ls i ≡ Some l)
there_at [] i lt = absurd (omega (arith, lt))
there_at (l ∷ ls) zero lt = (l, refl)
there_at (l ∷ ls) (suc i) lt = there_at ls i (omega (arith, lt))

module _ (cs : List (Option Code)) (choices : List Choice) (c : Code) (params : HaveParams cs)
    (small : all_vars cs c ≤ most_variables) (callees : ℕ → CallKinds) (formed : IsWellFormedAmong callees c) where
  -- the code with copies is within the limits
  few_vars : (pc : ℕ) (m k : Regs) → AtBase cs c pc m k → length k.vars ≤ most_variables
  few_vars pc m k h = omega (arith, small, h.room)

  -- the code itself goes on
  base_moves : (pc to : ℕ) (m k m' k' : Regs) → AtBase cs c pc m k → to < length c.instrs → SameRegs 0 m' k'
      → length m'.vars ≡ length m.vars → length k'.vars ≡ length k.vars → AtBase cs c to m' k'
  base_moves pc to m k m' k' h lt same vars room =
      record { inside = lt; same = same; vars = vars ∙ h.vars; room = room ∙ h.room }

  module _ (pc : ℕ) (m k : Regs) (h : AtBase cs c pc m k) (p : Pos) (i : Instr)
      (at : slice_get c.instrs pc ≡ Some (line p i)) where
    abbrev Alike : Type 0
    Alike = Outcomes cs c choices (config [] c.instrs pc m) (config [] (target cs c) (label_in cs c.instrs pc) k)

    -- the line in the code with copies
    moved_there : site cs i ≡ None
        → slice_get (target cs c) (label_in cs c.instrs pc)
        ≡ Some (line p (moved_instr 0 (label_in cs c.instrs) i))
    moved_there none = base_line cs c params pc (line p i) at none

    -- ---- neither a call nor a return

    -- both runs go on alike
    follows : (o u : Outcome)
        → Follows c i 0 (label_in cs c.instrs) pc (label_in cs c.instrs pc) m k o u → site cs i ≡ None
        → ((n : ℕ) → (run cs choices (suc n) (config [] c.instrs pc m)).end
        ≡ end_after (execute cs choices n [] c.instrs) o)
        → ((n : ℕ) → (run cs choices (suc n) (config [] (target cs c) (label_in cs c.instrs pc) k)).end
        ≡ end_after (execute cs choices n [] (target cs c)) u)
        → Alike
    follows o u (go_on m' k' on same vars room outside) none one two =
        let t = config [] (target cs c) (label_in cs c.instrs pc) k in
        let t' = config [] (target cs c) (label_in cs c.instrs (pc + 1)) k' in
        let goes : OneStep cs choices t t' =
        λ n. two n ∙ ap (λ q. (execute cs choices n [] (target cs c) q k').end)
        (after_base cs c params pc (line p i) at none) in
        both_go (config [] c.instrs (pc + 1) m') t' 0 one (more 0 t t' t' goes (here t'))
        (level [] c.instrs (pc + 1) m' (label_in cs c.instrs (pc + 1)) k'
        (at_base (pc + 1) m' k'
        (base_moves pc (pc + 1) m k m' k' h (formed.last pc (line p i) at on) same vars room)))
    follows o u (go_to l m' k' lt same vars room outside) none one two =
        let t = config [] (target cs c) (label_in cs c.instrs pc) k in
        let t' = config [] (target cs c) (label_in cs c.instrs l) k' in
        both_go (config [] c.instrs l m') t' 0 one (more 0 t t' t' two (here t'))
        (level [] c.instrs l m' (label_in cs c.instrs l) k'
        (at_base l m' k' (base_moves pc l m k m' k' h lt same vars room)))
    follows o u (stop q r) none one two =
        neither (never_by cs choices (config [] c.instrs pc m) (Stopped q) one (λ x. x))
        (never_by cs choices (config [] (target cs c) (label_in cs c.instrs pc) k) (Stopped r) two (λ x. x))
    follows o u want none one two =
        neither (never_by cs choices (config [] c.instrs pc m) _ one (λ x. x))
        (never_by cs choices (config [] (target cs c) (label_in cs c.instrs pc) k) _ two (λ x. x))

    -- an instruction that neither calls a function of the file nor returns
    ordinary : is_ordinary i ≡ true → is_ordinary (moved_instr 0 (label_in cs c.instrs) i) ≡ true → Alike
    ordinary e e' =
        follows (leads choices i p pc m)
        (leads choices (moved_instr 0 (label_in cs c.instrs) i) p (label_in cs c.instrs pc) k)
        (leads_alike callees c choices i p 0 (label_in cs c.instrs) pc (label_in cs c.instrs pc) m k e
        (formed.sound pc (line p i) at) h.vars (few_vars pc m k h) h.same)
        (no_site cs i e)
        (λ n. leads_run cs choices n [] c.instrs pc m p i at e)
        (λ n. leads_run cs choices n [] (target cs c) (label_in cs c.instrs pc) k p
        (moved_instr 0 (label_in cs c.instrs) i) (moved_there (no_site cs i e)) e')

  -- ---- a return

  module _ (pc : ℕ) (m k : Regs) (h : AtBase cs c pc m k) (p : Pos) where
    abbrev Both : Type 0
    Both = Outcomes cs c choices (config [] c.instrs pc m) (config [] (target cs c) (label_in cs c.instrs pc) k)

    -- both runs return the same
    returns : (v : Option Value) → IsReturn c.instrs pc m p v
        → IsReturn (target cs c) (label_in cs c.instrs pc) k p v → Both
    returns v one two =
        both_return m.world v p m.used (leave_run cs choices [] c.instrs pc m p v one)
        (λ n. leave_run cs choices [] (target cs c) (label_in cs c.instrs pc) k p v two n
        ∙ ap (λ w. Returned w v p k.used) h.same.world
        ∙ ap (λ u. Returned m.world v p u) h.same.used)

    -- both runs return a value, or both stop where it is unset
    returns_value : (a : Atom) (d : Content) → slice_get c.instrs pc ≡ Some (line p (Return (Some a)))
        → content_of a m.vars ≡ d → content_of (moved_atom 0 a) k.vars ≡ d → Both
    returns_value a content.Unset at e e' =
        neither
        (never_by cs choices (config [] c.instrs pc m) (Stopped p)
        (return_unset cs choices [] c.instrs pc m p a at e) (λ x. x))
        (never_by cs choices (config [] (target cs c) (label_in cs c.instrs pc) k) (Stopped p)
        (return_unset cs choices [] (target cs c) (label_in cs c.instrs pc) k p (moved_atom 0 a)
        (base_line cs c params pc (line p (Return (Some a))) at refl) e') (λ x. x))
    returns_value a (content.Holds v) at e e' =
        returns (Some v) (of_value a v at e)
        (of_value (moved_atom 0 a) v (base_line cs c params pc (line p (Return (Some a))) at refl) e')

    -- a return
    returns_so : (o : Option Atom) → slice_get c.instrs pc ≡ Some (line p (Return o)) → Both
    returns_so None at =
        returns None (of_none at) (of_none (base_line cs c params pc (line p (Return None)) at refl))
    returns_so (Some a) at =
        returns_value a (content_of a m.vars) at refl
        (condition_alike c.vars a 0 m k (formed.sound pc (line p (Return (Some a))) at) h.vars (few_vars pc m k h)
        h.same)

    -- ---- a call that is not replaced

    module _ (x : Option Var) (f : ℕ) (as' : List Atom)
        (at : slice_get c.instrs pc ≡ Some (line p (Call x f as'))) where
      -- the arguments are variables that are there
      sound : IsSoundCall c.vars x as'
      sound = sound_call callees c x f as' (formed.sound pc (line p (Call x f as')) at)

      -- the place after the call
      after_call : (w : World) (used : List Pos) → site cs (Call x f as') ≡ None → (m' k' : Regs)
          → SameRegs 0 m' k' → length m'.vars ≡ length m.vars → length k'.vars ≡ length k.vars
          → Level cs c [] c.instrs (pc + 1) m' (label_in cs c.instrs pc + 1) k'
      after_call w used none m' k' same vars room =
          subst (λ q. Level cs c [] c.instrs (pc + 1) m' q k')
          (sym (after_base cs c params pc (line p (Call x f as')) at none))
          (at_base (pc + 1) m' k' (base_moves pc (pc + 1) m k m' k' h
          (formed.last pc (line p (Call x f as')) at refl) same vars room))

      -- whatever the call changes, the variables hold the same in both runs
      same_later : (w : World) (used : List Pos)
          → SameRegs 0 (record { world = w; used = used; vars = m.vars })
          (record { world = w; used = used; vars = k.vars })
      same_later w used = record { world = refl; used = refl; vars = h.same.vars; room = h.same.room }

      -- both runs go on alike after the call
      waits_so : (y : Option Var) → x ≡ y → site cs (Call x f as') ≡ None
          → ResumesAlike cs c [] (calling p c.instrs pc x m) y
          (calling p (target cs c) (label_in cs c.instrs pc) (moved_result 0 x) k) (moved_result 0 y)
      waits_so None e none =
          λ w used. after_call w used none (record { world = w; used = used; vars = m.vars })
          (record { world = w; used = used; vars = k.vars }) (same_later w used) refl refl
      waits_so (Some y) e none =
          λ w used v.
          let m1 : Regs = record { world = w; used = used; vars = m.vars } in
          let k1 : Regs = record { world = w; used = used; vars = k.vars } in
          let held : y.0 < length c.vars = sound.into y e in
          after_call w used none (put y (content.Holds v) m1) (put (moved_var 0 y) (content.Holds v) k1)
          (put_alike 0 y (content.Holds v) m1 k1 (omega (arith, held, h.vars)) (few_vars pc m k h) (same_later w used))
          (length-set m.vars y.0 (content.Holds v)) (length-set k.vars (moved_var 0 y).0 (content.Holds v))

      -- both runs call the code
      calls : site cs (Call x f as') ≡ None → Both
      calls none =
          let b = calling p (target cs c) (label_in cs c.instrs pc) (moved_result 0 x) k in
          both_call cs choices c [] [] c.instrs (target cs c) pc (label_in cs c.instrs pc) m k p x (moved_result 0 x) f
          h.same.world h.same.used (all_values as' m.vars)
          (record { atoms = as'; line = at; values = refl })
          (record {
            atoms = moved_atoms 0 as';
            line = base_line cs c params pc (line p (Call x f as')) at none;
            values = values_alike c.vars sound.kinds as' 0 m k sound.args h.vars (few_vars pc m k h) h.same;
          })
          (λ g r. above [] [] (calling p c.instrs pc x m) b g.instrs 0 r
          (record { instrs = refl; resumes = waits_so x refl none }))

      -- ---- a call that is replaced

      -- one run calls the code, and the other goes to its copy, or both stop
      replaced_enters : (s : Site) → site cs (Call x f as') ≡ Some s → Called cs (Call x f as') s
          → IsSite cs choices c params small pc (line p (Call x f as')) s m k → (o : Option (List Value))
          → all_values s.args m.vars ≡ o → IsCall cs choices c.instrs pc m p s.into f o
          → code_numbered cs f ≡ Some s.code → (length s.args == s.code.params) ≡ true → Both
      replaced_enters s is r there None e call numbered fits =
          neither
          (never_by cs choices (config [] c.instrs pc m) (Stopped p)
          (call_unset cs choices [] c.instrs pc m p s.into f call) (λ q. q))
          (stops_before cs choices c params small pc (line p (Call x f as')) s m k there e)
      replaced_enters s is r there (Some vs) e call numbered fits =
          let g = enters_copy cs choices c params small pc (line p (Call x f as')) s m k there vs e in
          let fits' : (length vs == s.code.params) ≡ true
          = ap (λ n. n == s.code.params) (values_length s.args m.vars vs e) ∙ fits in
          both_go (config (calling p c.instrs pc s.into m ∷ []) s.code.instrs 0 (with_params s.code vs m))
          (config [] (target cs c) (body_label (label_in cs c.instrs pc) s.code 0) g.0) (length s.code.vars)
          (call_enters cs choices [] c.instrs pc m p s.into f vs s.code call numbered fits') g.1
          (level (calling p c.instrs pc s.into m ∷ []) s.code.instrs 0 (with_params s.code vs m)
          (body_label (label_in cs c.instrs pc) s.code 0) g.0
          (in_copy pc (line p (Call x f as')) s 0 (with_params s.code vs m) m g.0 g.2))

      -- a call that is replaced
      replaced_so : (s : Site) → site cs (Call x f as') ≡ Some s → Both
      replaced_so s is =
          let r = called cs (Call x f as') s is in
          let into : s.into ≡ x = cc in
          let args : s.args ≡ as' = cc in
          let number : r.number ≡ f = cc in
          let copied = copied_there s.code s.args r.copied in
          let there : IsSite cs choices c params small pc (line p (Call x f as')) s m k = record {
            base = h;
            line = at;
            site = is;
            some = copied.0;
            held = λ i a e. held_there c.vars sound.kinds as' sound.args i a
                (subst (λ xs. slice_get xs i ≡ Some a) args e);
          } in
          let call : IsCall cs choices c.instrs pc m p s.into f (all_values s.args m.vars) = record {
            atoms = as';
            line = at ∙ ap (λ y. Some (line p (Call y f as'))) (sym into);
            values = ap (λ xs. all_values xs m.vars) (sym args);
          } in
          replaced_enters s is r there (all_values s.args m.vars) refl call
          (ap (code_numbered cs) (sym number) ∙ r.code) copied.1

      -- a call
      call_by : (o : Option Site) → site cs (Call x f as') ≡ o → Both
      call_by None e = calls e
      call_by (Some s) e = replaced_so s e

    -- ---- any instruction

    by_instr : (i : Instr) → slice_get c.instrs pc ≡ Some (line p i) → Both
    by_instr (Call x f as') at = call_by x f as' at (site cs (Call x f as')) refl
    by_instr (Return o) at = returns_so o at
    by_instr i at = ordinary pc m k h p i at refl refl

  -- each instruction leads to related places
  pub base_step : (pc : ℕ) (m k : Regs) → AtBase cs c pc m k
      → Outcomes cs c choices (config [] c.instrs pc m) (config [] (target cs c) (label_in cs c.instrs pc) k)
  base_step pc m k h =
      let l = there_at c.instrs pc h.inside in
      by_instr pc m k h l.0.pos l.0.instr l.1
