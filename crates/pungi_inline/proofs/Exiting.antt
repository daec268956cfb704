-- The end of a copy: what comes after the copied instructions brings the result where the call wants it.
--   AtEnd      the copy of a call ends, and holds this result and what the code itself holds
use Rattle.std.proofs.Common.{◌≡◌, ℕ, suc, ◌+◌, ◌<◌, ◌≤◌, min, List, [], length, Option, Some, None, refl}
use Rattle.std.proofs.Common.{sym, ap, ◌∙◌, subst, arith, length-set, true}
use Rattle.std.specs.Prelude.{slice_get}
use Rattle.std.proofs.Math.Nat.{min-eq_left}
use Rattle.pungi_base.specs.declared.choice.Choice.{Choice}
use Rattle.pungi_base.specs.declared.pos.Pos.{Pos}
use Rattle.pungi_base.specs.declared.value.Value.{Value}
use Rattle.pungi_world.specs.declared.content.Content.{Content}
use Rattle.pungi_world.specs.declared.content.Content.TheVariants as content
use Rattle.pungi_world.specs.declared.world.World.{World}
use Rattle.pungi_meaning.specs.Run.{Stopped}
use Rattle.pungi_meaning.specs.Work.{content_at}
use Rattle.pungi_code.specs.declared.atom.Atom.TheVariants as atom
use Rattle.pungi_code.specs.declared.atom.Var.{Var}
use Rattle.pungi_code.specs.declared.code.Code.{Code}
use Rattle.pungi_code.specs.declared.code.Line.{Line}
use Rattle.pungi_code.specs.declared.instr.Instr.TheVariants.{Call}
use Rattle.pungi_code.specs.Frames.{resumed}
use Rattle.pungi_code.specs.Limits.{most_variables}
use Rattle.pungi_code.specs.Registers.{Regs, put}
use Rattle.pungi_code.specs.Run.{calling}
use Rattle.pungi_code.specs.WellFormed.{CallKinds, IsWellFormedAmong, is_sound_among, leads_on}
use Rattle.pungi_inline.specs.Copies.{result_var, end_place}
use Rattle.pungi_inline.specs.Inlined.{label_in}
use Rattle.pungi_inline.specs.Moved.{largest_number, moved_var}
use Rattle.pungi_inline.specs.Sites.{Site, site_at, exit_size}
use Rattle.pungi_inline.proofs.CalledCodes.{called}
use Rattle.pungi_inline.proofs.CallSites.{sound_call}
use Rattle.pungi_inline.proofs.Leaving.{Resumes}
use Rattle.pungi_inline.proofs.Operands.{put_alike}
use Rattle.pungi_inline.proofs.Performing.{set_step, set_stops}
use Rattle.pungi_inline.proofs.Placed.{HaveParams}
use Rattle.pungi_inline.proofs.Related.{target, window_at, all_vars, at_base, level, Outcomes}
use Rattle.pungi_inline.proofs.Related.{neither, both_go}
use Rattle.pungi_inline.proofs.Running.{never_by, never_before}
use Rattle.pungi_inline.proofs.Standing.{window_within, exit_line, after_copy}
use Rattle.pungi_inline.proofs.Steps.{Config, config, OneStep, Steps, here, more}
use Rattle.pungi_inline.proofs.Windows.{Holds, SameRegs}

-- what the variable of a result holds
abbrev pub returned : Option Value → Content
returned None = content.Unset
returned (Some v) = content.Holds v

-- a step behind so many
pub later : (cs : List (Option Code)) (choices : List Choice) (j : ℕ) (s t u : Config) → Steps cs choices j s t
    → OneStep cs choices t u → Steps cs choices (suc j) s u
later cs choices j s t u (here x) one = more 0 t u u one (here u)
later cs choices j s t u (more i s' t' x first rest) one =
    more (suc i) s' t' u first (later cs choices i t' x u rest one)

pub record AtEnd (cs : List (Option Code)) (c : Code) (pc : ℕ) (l : Line) (s : Site) (w : World) (taken : List Pos)
    (a : List Content) (v : Option Value) (k : Regs) : Type 0 where
  pub line : slice_get c.instrs pc ≡ Some l
  pub site : site_at cs l ≡ Some s
  pub world : k.world ≡ w
  pub used : k.used ≡ taken
  pub before : Holds 0 a k.vars
  pub caller : length a ≡ length c.vars
  pub result : content_at k.vars (window_at cs c pc + length s.code.vars) ≡ returned v
  pub room : length k.vars ≡ all_vars cs c

module _ (cs : List (Option Code)) (choices : List Choice) (c : Code) (params : HaveParams cs)
    (small : all_vars cs c ≤ most_variables) (callees : ℕ → CallKinds) (formed : IsWellFormedAmong callees c)
    (pc : ℕ) (l : Line) (s : Site) where
  -- where the result of the call goes is one of the code's variables
  into_there : slice_get c.instrs pc ≡ Some l → site_at cs l ≡ Some s → (x : Var) → s.into ≡ Some x
      → x.0 < length c.vars
  into_there at is x e =
      let r = called cs l.instr s is in
      let sound : is_sound_among callees c (Call s.into r.number s.args) ≡ true
      = ap (is_sound_among callees c) (sym r.is) ∙ formed.sound pc l at in
      (sound_call callees c s.into r.number s.args sound).into x e

  -- an instruction comes after the call
  next_there : slice_get c.instrs pc ≡ Some l → site_at cs l ≡ Some s → pc + 1 < length c.instrs
  next_there at is =
      let r = called cs l.instr s is in
      formed.last pc l at (ap leads_on r.is)

  module _ (source start : Config) (w : World) (used : List Pos) (a k : Regs) (v : Option Value) (j : ℕ)
      (steps : Steps cs choices (suc j) start
      (config [] (target cs c) (end_place (label_in cs c.instrs pc) s.code) k))
      (h : AtEnd cs c pc l s w used a.vars v k) where
    -- what the code itself holds then is held in both runs
    same_then : SameRegs 0 (resumed (calling l.pos c.instrs pc s.into a) w used) k
    same_then = record {
      world = h.world;
      used = h.used;
      vars = h.before;
      room = omega (arith, h.caller, h.room);
    }

    -- the result isn't wanted
    exits_unwanted : s.into ≡ None
        → OneStep cs choices source
        (config [] c.instrs (pc + 1) (resumed (calling l.pos c.instrs pc s.into a) w used))
        → Outcomes cs c choices source start
    exits_unwanted none one =
        let m = resumed (calling l.pos c.instrs pc s.into a) w used in
        let size : exit_size s.into ≡ 0 = ap exit_size none in
        let place : end_place (label_in cs c.instrs pc) s.code ≡ label_in cs c.instrs (pc + 1)
        = omega (arith, size, after_copy cs c params pc l s h.line h.site) in
        both_go (config [] c.instrs (pc + 1) m) (config [] (target cs c) (label_in cs c.instrs (pc + 1)) k) j one
        (subst (λ q. Steps cs choices (suc j) start (config [] (target cs c) q k)) place steps)
        (level [] c.instrs (pc + 1) m (label_in cs c.instrs (pc + 1)) k
        (at_base (pc + 1) m k
        (record { inside = next_there h.line h.site; same = same_then; vars = h.caller; room = h.room })))

    -- the variable of the result holds it
    result_is : content_at k.vars (result_var (window_at cs c pc) s.code).0 ≡ returned v
    result_is =
        let within = window_within cs c pc l s h.line h.site in
        let place : (result_var (window_at cs c pc) s.code).0 ≡ window_at cs c pc + length s.code.vars
        = min-eq_left (omega (arith, within, small)) in
        ap (content_at k.vars) place ∙ h.result

    -- the result is wanted, and there is one
    exits_wanted : (x : Var) (u : Value) → s.into ≡ Some x → v ≡ Some u
        → OneStep cs choices source
        (config [] c.instrs (pc + 1) (put x (content.Holds u) (resumed (calling l.pos c.instrs pc s.into a) w used)))
        → Outcomes cs c choices source start
    exits_wanted x u wanted is one =
        let m = resumed (calling l.pos c.instrs pc s.into a) w used in
        let end = end_place (label_in cs c.instrs pc) s.code in
        let size : exit_size s.into ≡ 1 = ap exit_size wanted in
        let place : end + 1 ≡ label_in cs c.instrs (pc + 1)
        = omega (arith, size, after_copy cs c params pc l s h.line h.site) in
        let lt : x.0 < length c.vars = into_there h.line h.site x wanted in
        let few : length k.vars ≤ most_variables = omega (arith, small, h.room) in
        let small_x : min (0 + x.0) largest_number ≡ 0 + x.0 = min-eq_left (omega (arith, lt, h.room, few)) in
        let here_x : min (0 + x.0) largest_number ≡ x.0 = small_x ∙ omega arith in
        let same_var : moved_var 0 x ≡ x = ap {B = Var} (λ n. record { 0 = n }) here_x in
        let k' = put x (content.Holds u) k in
        let set = set_step cs choices [] (target cs c) end k l.pos x
        (atom.Var (result_var (window_at cs c pc) s.code)) u
        (exit_line cs c params pc l s h.line h.site x wanted) (result_is ∙ ap returned is) in
        let t = config [] (target cs c) (label_in cs c.instrs (pc + 1)) k' in
        let all : Steps cs choices (suc (suc j)) start t =
        subst (λ q. Steps cs choices (suc (suc j)) start (config [] (target cs c) q k')) place
        (later cs choices (suc j) start (config [] (target cs c) end k) (config [] (target cs c) (end + 1) k')
        steps set) in
        both_go (config [] c.instrs (pc + 1) (put x (content.Holds u) m)) t (suc j) one all
        (level [] c.instrs (pc + 1) (put x (content.Holds u) m) (label_in cs c.instrs (pc + 1)) k'
        (at_base (pc + 1) (put x (content.Holds u) m) k'
        (record {
          inside = next_there h.line h.site;
          same = subst (λ y. SameRegs 0 (put x (content.Holds u) m) (put y (content.Holds u) k)) same_var
              (put_alike 0 x (content.Holds u) m k (omega (arith, lt, h.caller)) few same_then);
          vars = length-set a.vars x.0 (content.Holds u) ∙ h.caller;
          room = length-set k.vars x.0 (content.Holds u) ∙ h.room;
        })))

    -- all ways in which a copy ends
    exits_by : (into : Option Var) (o : Option Value) → s.into ≡ into → v ≡ o
        → Resumes cs choices source [] (calling l.pos c.instrs pc s.into a) w used into o
        → Outcomes cs c choices source start
    exits_by None o e f leaves = exits_unwanted e leaves
    exits_by (Some x) (Some u) e f leaves = exits_wanted x u e f leaves
    exits_by (Some x) None e f leaves =
        let end = end_place (label_in cs c.instrs pc) s.code in
        let stops = set_stops cs choices [] (target cs c) end k l.pos x
        (atom.Var (result_var (window_at cs c pc) s.code))
        (exit_line cs c params pc l s h.line h.site x e) (result_is ∙ ap returned f) in
        neither (never_by cs choices source (Stopped l.pos) leaves (λ q. q))
        (never_before cs choices (suc j) start (config [] (target cs c) end k) steps
        (never_by cs choices (config [] (target cs c) end k) (Stopped l.pos) stops (λ q. q)))

    -- both runs go on after the call, or both stop where a result is wanted and none came
    pub exits : Resumes cs choices source [] (calling l.pos c.instrs pc s.into a) w used s.into v
        → Outcomes cs c choices source start
    exits leaves = exits_by s.into v refl refl leaves
