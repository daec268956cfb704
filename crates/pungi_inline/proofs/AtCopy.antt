-- A called code runs that was copied: each instruction of it leads to related places, and so do its returns.
use Rattle.std.proofs.Common.{◌≡◌, inl, inr, ℕ, suc, ◌+◌, ◌<◌, ◌≤◌, true, List, [], ◌∷◌}
use Rattle.std.proofs.Common.{length, Option, Some, None, refl, sym, ap, ◌∙◌, subst, arith, length-set}
use Rattle.std.specs.Prelude.{slice_get}
use Rattle.pungi_base.specs.declared.choice.Choice.{Choice}
use Rattle.pungi_base.specs.declared.pos.Pos.{Pos}
use Rattle.pungi_base.specs.declared.value.Value.{Value}
use Rattle.pungi_world.specs.declared.content.Content.{Content}
use Rattle.pungi_world.specs.declared.content.Content.TheVariants as content
use Rattle.pungi_world.specs.declared.world.World.{World}
use Rattle.pungi_meaning.specs.Run.{Stopped, NeedsChoice}
use Rattle.pungi_code.specs.declared.atom.Atom.{Atom}
use Rattle.pungi_code.specs.declared.atom.Var.{Var}
use Rattle.pungi_code.specs.declared.code.Code.{Code}
use Rattle.pungi_code.specs.declared.code.Line.{Line}
use Rattle.pungi_code.specs.declared.instr.Instr.{Instr}
use Rattle.pungi_code.specs.declared.instr.Instr.TheVariants.{Set, Call, Jump, Return}
use Rattle.pungi_code.specs.Frames.{resume}
use Rattle.pungi_code.specs.Limits.{most_variables}
use Rattle.pungi_code.specs.Registers.{Regs, put, content_of, all_values}
use Rattle.pungi_code.specs.Run.{calling, execute}
use Rattle.pungi_code.specs.WellFormed.{CallKinds, IsWellFormedAmong}
use Rattle.pungi_inline.specs.Copies.{body_label, result_var, end_place, copied_instr}
use Rattle.pungi_inline.specs.Inlined.{label_in}
use Rattle.pungi_inline.specs.Moved.{line, label_at, moved_var, moved_result, moved_atom, moved_atoms, moved_instr}
use Rattle.pungi_inline.specs.Sites.{Site, copied_size}
use Rattle.pungi_inline.proofs.AtBase.{there_at}
use Rattle.pungi_inline.proofs.Calling.{both_call}
use Rattle.pungi_inline.proofs.CallSites.{IsSoundCall, sound_call}
use Rattle.pungi_inline.proofs.Exiting.{exits}
use Rattle.pungi_inline.proofs.Filling.{put_there, put_elsewhere}
use Rattle.pungi_inline.proofs.Leaving.{IsReturn, of_none, of_value, leave_run, return_unset}
use Rattle.pungi_inline.proofs.Moves.{Follows, go_on, go_to, stop, want, leads_alike}
use Rattle.pungi_inline.proofs.OneInstruction.{Outcome, leads, end_after, is_ordinary}
use Rattle.pungi_inline.proofs.Operands.{values_alike, condition_alike, put_alike, put_outside}
use Rattle.pungi_inline.proofs.Performing.{leads_run, set_step, set_stops, jump_step}
use Rattle.pungi_inline.proofs.Placed.{HaveParams}
use Rattle.pungi_inline.proofs.Related.{target, window_at, all_vars, InCopy, Level, in_copy, ResumesAlike}
use Rattle.pungi_inline.proofs.Related.{level, above, Outcomes, neither, both_go}
use Rattle.pungi_inline.proofs.Running.{never_by}
use Rattle.pungi_inline.proofs.Standing.{window_within, body_line, after_body}
use Rattle.pungi_inline.proofs.Steps.{config, run, OneStep, here, more}
use Rattle.pungi_inline.proofs.Windows.{SameRegs, SameOutside}

module _ (cs : List (Option Code)) (choices : List Choice) (c : Code) (params : HaveParams cs)
    (small : all_vars cs c ≤ most_variables) (callees : ℕ → CallKinds) (formed : IsWellFormedAmong callees c) where
  module _ (pc : ℕ) (l : Line) (s : Site) (j : ℕ) (m a k : Regs) (h : InCopy cs c pc l s j m a.vars k)
      (good : IsWellFormedAmong callees s.code) where
    -- the code with copies is within the limits
    few_vars : length k.vars ≤ most_variables
    few_vars = omega (arith, small, h.room)

    -- the copy goes on
    copy_moves : (to : ℕ) (m' k' : Regs) → to < length s.code.instrs → SameRegs (window_at cs c pc) m' k'
        → length m'.vars ≡ length m.vars → length k'.vars ≡ length k.vars
        → SameOutside (window_at cs c pc) (length m.vars) k.vars k'.vars
        → InCopy cs c pc l s to m' a.vars k'
    copy_moves to m' k' lt same vars room outside = record {
      line = h.line;
      site = h.site;
      inside = lt;
      same = same;
      vars = vars ∙ h.vars;
      before = λ x less. outside (0 + x) (inl (omega (arith, less, h.caller))) ∙ h.before x less;
      caller = h.caller;
      unset = outside (window_at cs c pc + length s.code.vars) (inr (omega (arith, h.vars))) ∙ h.unset;
      room = room ∙ h.room;
    }

    abbrev Both : Type 0
    Both = Outcomes cs c choices (config (calling l.pos c.instrs pc s.into a ∷ []) s.code.instrs j m)
        (config [] (target cs c) (body_label (label_in cs c.instrs pc) s.code j) k)

    module _ (p : Pos) (i : Instr) (at : slice_get s.code.instrs j ≡ Some (line p i)) where
      -- the line in the copy
      moved_there : copied_size i ≡ 1
          → copied_instr (window_at cs c pc) (body_label (label_in cs c.instrs pc) s.code)
          (result_var (window_at cs c pc) s.code) (end_place (label_in cs c.instrs pc) s.code) p i
          ≡ line p (moved_instr (window_at cs c pc) (body_label (label_in cs c.instrs pc) s.code) i) ∷ []
          → slice_get (target cs c) (body_label (label_in cs c.instrs pc) s.code j)
          ≡ Some (line p (moved_instr (window_at cs c pc) (body_label (label_in cs c.instrs pc) s.code) i))
      moved_there one e =
          ap (slice_get (target cs c)) (omega arith)
          ∙ body_line cs c params pc l s h.line h.site j (line p i) 0 at (omega (arith, one))
          ∙ ap (λ ls. slice_get ls 0) e

      -- ---- neither a call nor a return

      -- both runs go on alike
      follows : (o u : Outcome)
          → Follows s.code i (window_at cs c pc) (body_label (label_in cs c.instrs pc) s.code) j
          (body_label (label_in cs c.instrs pc) s.code j) m k o u → copied_size i ≡ 1
          → ((n : ℕ) → (run cs choices (suc n)
          (config (calling l.pos c.instrs pc s.into a ∷ []) s.code.instrs j m)).end
          ≡ end_after (execute cs choices n (calling l.pos c.instrs pc s.into a ∷ []) s.code.instrs) o)
          → ((n : ℕ) → (run cs choices (suc n)
          (config [] (target cs c) (body_label (label_in cs c.instrs pc) s.code j) k)).end
          ≡ end_after (execute cs choices n [] (target cs c)) u)
          → Both
      follows o u (go_on m' k' on same vars room outside) one first second =
          let b = calling l.pos c.instrs pc s.into a in
          let t = config [] (target cs c) (body_label (label_in cs c.instrs pc) s.code j) k in
          let t' = config [] (target cs c) (body_label (label_in cs c.instrs pc) s.code (j + 1)) k' in
          let goes : OneStep cs choices t t' =
          λ n. second n ∙ ap (λ q. (execute cs choices n [] (target cs c) q k').end)
          (after_body cs c params pc l s h.line h.site j (line p i) at one) in
          both_go (config (b ∷ []) s.code.instrs (j + 1) m') t' 0 first (more 0 t t' t' goes (here t'))
          (level (b ∷ []) s.code.instrs (j + 1) m' (body_label (label_in cs c.instrs pc) s.code (j + 1)) k'
          (in_copy pc l s (j + 1) m' a k'
          (copy_moves (j + 1) m' k' (good.last j (line p i) at on) same vars room outside)))
      follows o u (go_to q m' k' lt same vars room outside) one first second =
          let b = calling l.pos c.instrs pc s.into a in
          let t = config [] (target cs c) (body_label (label_in cs c.instrs pc) s.code j) k in
          let t' = config [] (target cs c) (body_label (label_in cs c.instrs pc) s.code q) k' in
          both_go (config (b ∷ []) s.code.instrs q m') t' 0 first (more 0 t t' t' second (here t'))
          (level (b ∷ []) s.code.instrs q m' (body_label (label_in cs c.instrs pc) s.code q) k'
          (in_copy pc l s q m' a k' (copy_moves q m' k' lt same vars room outside)))
      follows o u (stop q r) one first second =
          neither
          (never_by cs choices (config (calling l.pos c.instrs pc s.into a ∷ []) s.code.instrs j m) (Stopped q) first
          (λ x. x))
          (never_by cs choices (config [] (target cs c) (body_label (label_in cs c.instrs pc) s.code j) k) (Stopped r)
          second (λ x. x))
      follows o u want one first second =
          neither
          (never_by cs choices (config (calling l.pos c.instrs pc s.into a ∷ []) s.code.instrs j m) NeedsChoice first
          (λ x. x))
          (never_by cs choices (config [] (target cs c) (body_label (label_in cs c.instrs pc) s.code j) k) NeedsChoice
          second (λ x. x))

      -- an instruction that neither calls a function of the file nor returns
      ordinary : is_ordinary i ≡ true
          → is_ordinary (moved_instr (window_at cs c pc) (body_label (label_in cs c.instrs pc) s.code) i) ≡ true
          → copied_size i ≡ 1
          → copied_instr (window_at cs c pc) (body_label (label_in cs c.instrs pc) s.code)
          (result_var (window_at cs c pc) s.code) (end_place (label_in cs c.instrs pc) s.code) p i
          ≡ line p (moved_instr (window_at cs c pc) (body_label (label_in cs c.instrs pc) s.code) i) ∷ []
          → Both
      ordinary e e' one copied =
          let to = body_label (label_in cs c.instrs pc) s.code in
          let b = calling l.pos c.instrs pc s.into a in
          follows (leads choices i p j m) (leads choices (moved_instr (window_at cs c pc) to i) p (to j) k)
          (leads_alike callees s.code choices i p (window_at cs c pc) to j (to j) m k e
          (good.sound j (line p i) at) h.vars few_vars h.same) one
          (λ n. leads_run cs choices n (b ∷ []) s.code.instrs j m p i at e)
          (λ n. leads_run cs choices n [] (target cs c) (to j) k p (moved_instr (window_at cs c pc) to i)
          (moved_there one copied) e')

    -- ---- a call

    module _ (p : Pos) (x : Option Var) (f : ℕ) (as' : List Atom)
        (at : slice_get s.code.instrs j ≡ Some (line p (Call x f as'))) where
      -- the arguments are variables that are there
      sound : IsSoundCall s.code.vars x as'
      sound = sound_call callees s.code x f as' (good.sound j (line p (Call x f as')) at)

      -- the place after the call
      after_call : (m' k' : Regs) → SameRegs (window_at cs c pc) m' k' → length m'.vars ≡ length m.vars
          → length k'.vars ≡ length k.vars → SameOutside (window_at cs c pc) (length m.vars) k.vars k'.vars
          → Level cs c (calling l.pos c.instrs pc s.into a ∷ []) s.code.instrs (j + 1) m'
          (body_label (label_in cs c.instrs pc) s.code j + 1) k'
      after_call m' k' same vars room outside =
          subst (λ q. Level cs c (calling l.pos c.instrs pc s.into a ∷ []) s.code.instrs (j + 1) m' q k')
          (sym (after_body cs c params pc l s h.line h.site j (line p (Call x f as')) at refl))
          (in_copy pc l s (j + 1) m' a k'
          (copy_moves (j + 1) m' k' (good.last j (line p (Call x f as')) at refl) same vars room outside))

      -- whatever the call changes, the variables hold the same in both runs
      same_later : (w : World) (used : List Pos)
          → SameRegs (window_at cs c pc) (record { world = w; used = used; vars = m.vars })
          (record { world = w; used = used; vars = k.vars })
      same_later w used = record { world = refl; used = refl; vars = h.same.vars; room = h.same.room }

      -- both runs go on alike after the call
      waits_so : (y : Option Var) → x ≡ y
          → ResumesAlike cs c (calling l.pos c.instrs pc s.into a ∷ []) (calling p s.code.instrs j x m) y
          (calling p (target cs c) (body_label (label_in cs c.instrs pc) s.code j)
          (moved_result (window_at cs c pc) x) k) (moved_result (window_at cs c pc) y)
      waits_so None e =
          λ w used. after_call (record { world = w; used = used; vars = m.vars })
          (record { world = w; used = used; vars = k.vars }) (same_later w used) refl refl (λ z out. refl)
      waits_so (Some y) e =
          λ w used v.
          let m1 : Regs = record { world = w; used = used; vars = m.vars } in
          let k1 : Regs = record { world = w; used = used; vars = k.vars } in
          let held : y.0 < length s.code.vars = sound.into y e in
          let lt : y.0 < length m.vars = omega (arith, held, h.vars) in
          let at_y = window_at cs c pc in
          after_call (put y (content.Holds v) m1) (put (moved_var at_y y) (content.Holds v) k1)
          (put_alike at_y y (content.Holds v) m1 k1 lt few_vars (same_later w used))
          (length-set m.vars y.0 (content.Holds v)) (length-set k.vars (moved_var at_y y).0 (content.Holds v))
          (put_outside at_y y (content.Holds v) m1 k1 lt few_vars (same_later w used))

      -- both runs call the code
      calls : Both
      calls =
          let to = body_label (label_in cs c.instrs pc) s.code in
          let b = calling p (target cs c) (to j) (moved_result (window_at cs c pc) x) k in
          both_call cs choices c (calling l.pos c.instrs pc s.into a ∷ []) [] s.code.instrs (target cs c) j (to j) m k p
          x (moved_result (window_at cs c pc) x) f h.same.world h.same.used (all_values as' m.vars)
          (record { atoms = as'; line = at; values = refl })
          (record {
            atoms = moved_atoms (window_at cs c pc) as';
            line = moved_there p (Call x f as') at refl refl;
            values = values_alike s.code.vars sound.kinds as' (window_at cs c pc) m k sound.args h.vars few_vars h.same;
          })
          (λ g r. above [] (calling l.pos c.instrs pc s.into a ∷ []) (calling p s.code.instrs j x m) b g.instrs 0 r
          (record { instrs = refl; resumes = waits_so x refl }))

    -- ---- a return

    module _ (p : Pos) where
      -- the line with this number in the copy of a line
      part_there : (i : Instr) (n : ℕ) → slice_get s.code.instrs j ≡ Some (line p i) → n < copied_size i
          → slice_get (target cs c) (body_label (label_in cs c.instrs pc) s.code j + n)
          ≡ slice_get (copied_instr (window_at cs c pc) (body_label (label_in cs c.instrs pc) s.code)
          (result_var (window_at cs c pc) s.code) (end_place (label_in cs c.instrs pc) s.code) p i) n
      part_there i n at lt = body_line cs c params pc l s h.line h.site j (line p i) n at lt

      -- the one run leaves the called code
      leaves : (v : Option Value) → IsReturn s.code.instrs j m p v → (n : ℕ)
          → (run cs choices (suc n) (config (calling l.pos c.instrs pc s.into a ∷ []) s.code.instrs j m)).end
          ≡ (resume (execute cs choices n) [] (calling l.pos c.instrs pc s.into a) m.world m.used s.into v).end
      leaves v r n = leave_run cs choices (calling l.pos c.instrs pc s.into a ∷ []) s.code.instrs j m p v r n

      -- a return without a value jumps to the end of the copy
      returns_none : slice_get s.code.instrs j ≡ Some (line p (Return None)) → Both
      returns_none at =
          let to = body_label (label_in cs c.instrs pc) s.code in
          let end = end_place (label_in cs c.instrs pc) s.code in
          let t = config [] (target cs c) (to j) k in
          let e = config [] (target cs c) end k in
          let there : slice_get (target cs c) (to j) ≡ Some (line p (Jump (label_at end)))
          = ap (slice_get (target cs c)) (omega arith) ∙ part_there (Return None) 0 at (omega arith) in
          exits cs choices c params small callees formed pc l s
          (config (calling l.pos c.instrs pc s.into a ∷ []) s.code.instrs j m) t m.world m.used a k None 0
          (more 0 t e e (jump_step cs choices [] (target cs c) (to j) k p (label_at end) there) (here e))
          (record {
            line = h.line;
            site = h.site;
            world = h.same.world;
            used = h.same.used;
            before = h.before;
            caller = h.caller;
            result = h.unset;
            room = h.room;
          })
          (leaves None (of_none at))

      -- a return with a value keeps it, and jumps there
      returns_held : (b : Atom) (v : Value) → slice_get s.code.instrs j ≡ Some (line p (Return (Some b)))
          → content_of b m.vars ≡ content.Holds v
          → content_of (moved_atom (window_at cs c pc) b) k.vars ≡ content.Holds v → Both
      returns_held b v at e e' =
          let w = window_at cs c pc in
          let to = body_label (label_in cs c.instrs pc) s.code in
          let end = end_place (label_in cs c.instrs pc) s.code in
          let r = result_var w s.code in
          let within = window_within cs c pc l s h.line h.site in
          let lt : w + length s.code.vars < length k.vars = omega (arith, within, h.room) in
          let k' = put r (content.Holds v) k in
          let t = config [] (target cs c) (to j) k in
          let t' = config [] (target cs c) (to j + 1) k' in
          let t'' = config [] (target cs c) end k' in
          let first : slice_get (target cs c) (to j) ≡ Some (line p (Set r (moved_atom w b)))
          = ap (slice_get (target cs c)) (omega arith) ∙ part_there (Return (Some b)) 0 at (omega arith) in
          let second : slice_get (target cs c) (to j + 1) ≡ Some (line p (Jump (label_at end)))
          = part_there (Return (Some b)) 1 at (omega arith) in
          exits cs choices c params small callees formed pc l s
          (config (calling l.pos c.instrs pc s.into a ∷ []) s.code.instrs j m) t m.world m.used a k' (Some v) 1
          (more 1 t t' t'' (set_step cs choices [] (target cs c) (to j) k p r (moved_atom w b) v first e')
          (more 0 t' t'' t'' (jump_step cs choices [] (target cs c) (to j + 1) k' p (label_at end) second) (here t'')))
          (record {
            line = h.line;
            site = h.site;
            world = h.same.world;
            used = h.same.used;
            before = λ x less.
                put_elsewhere w (length s.code.vars) (content.Holds v) k lt few_vars (0 + x)
                (λ q. omega (arith, q, less, h.caller)) ∙ h.before x less;
            caller = h.caller;
            result = put_there w (length s.code.vars) (content.Holds v) k lt few_vars;
            room = length-set k.vars r.0 (content.Holds v) ∙ h.room;
          })
          (leaves (Some v) (of_value b v at e))

      -- where the value is unset both runs stop
      returns_value : (b : Atom) (d : Content) → slice_get s.code.instrs j ≡ Some (line p (Return (Some b)))
          → content_of b m.vars ≡ d → content_of (moved_atom (window_at cs c pc) b) k.vars ≡ d → Both
      returns_value b content.Unset at e e' =
          let w = window_at cs c pc in
          let to = body_label (label_in cs c.instrs pc) s.code in
          neither
          (never_by cs choices (config (calling l.pos c.instrs pc s.into a ∷ []) s.code.instrs j m) (Stopped p)
          (return_unset cs choices (calling l.pos c.instrs pc s.into a ∷ []) s.code.instrs j m p b at e) (λ x. x))
          (never_by cs choices (config [] (target cs c) (to j) k) (Stopped p)
          (set_stops cs choices [] (target cs c) (to j) k p (result_var w s.code) (moved_atom w b)
          (ap (slice_get (target cs c)) (omega arith) ∙ part_there (Return (Some b)) 0 at (omega arith)) e') (λ x. x))
      returns_value b (content.Holds v) at e e' = returns_held b v at e e'

      -- ---- any instruction

      by_instr : (i : Instr) → slice_get s.code.instrs j ≡ Some (line p i) → Both
      by_instr (Call x f as') at = calls p x f as' at
      by_instr (Return None) at = returns_none at
      by_instr (Return (Some b)) at =
          returns_value b (content_of b m.vars) at refl
          (condition_alike s.code.vars b (window_at cs c pc) m k (good.sound j (line p (Return (Some b))) at) h.vars
          few_vars h.same)
      by_instr i at = ordinary p i at refl refl refl refl

    -- each instruction leads to related places
    pub copy_step : Both
    copy_step =
        let b = there_at s.code.instrs j h.inside in
        by_instr b.0.pos b.0.instr b.1
