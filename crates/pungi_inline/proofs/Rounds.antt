-- One round of copies: the run of the code with copies and that of the code return the same.
--   Starts         how the run of a code begins
--   RoundAlike     so it is from any entry and with any choices
use Rattle.std.proofs.Common.{◌≡◌, ℕ, zero, suc, ◌-◌, ◌<◌, ◌≤◌, Bool, true, false, ◌&&◌, List, [], ◌∷◌}
use Rattle.std.proofs.Common.{length, Option, Some, refl, sym, ap, ◌∙◌, subst, arith}
use Rattle.std.proofs.Common.{if◌then◌else◌, leb-true, length-append}
use Rattle.std.specs.Prelude.{nat_le}
use Rattle.std.proofs.lemmas.Bool.{and_parts}
use Rattle.pungi_base.specs.declared.choice.Choice.{Choice}
use Rattle.pungi_base.specs.declared.entry.Entry.{Entry}
use Rattle.pungi_base.specs.declared.pos.Pos.{Pos}
use Rattle.pungi_base.specs.declared.value.Value.{Value}
use Rattle.pungi_world.specs.declared.world.World.{World}
use Rattle.pungi_meaning.specs.Work.{content_at}
use Rattle.pungi_code.specs.declared.code.Code.{Code}
use Rattle.pungi_code.specs.declared.code.Line.{Line}
use Rattle.pungi_code.specs.Frames.{code_numbered, param_vars}
use Rattle.pungi_code.specs.Limits.{most_instructions, most_variables}
use Rattle.pungi_code.specs.Run.{start}
use Rattle.pungi_code.specs.WellFormed.{CallKinds, IsWellFormedAmong}
use Rattle.pungi_inline.specs.Inlined.{all_kinds, expanded, replaced}
use Rattle.pungi_inline.specs.Laws.{Returns}
use Rattle.pungi_inline.specs.Sites.{total, line_sizes, has_site, is_small}
use Rattle.pungi_inline.proofs.AddedKinds.{all_kinds_long}
use Rattle.pungi_inline.proofs.Arguments.{params_same}
use Rattle.pungi_inline.proofs.Entering.{params_length}
use Rattle.pungi_inline.proofs.Lockstep.{lockstep}
use Rattle.pungi_inline.proofs.Placed.{HaveParams}
use Rattle.pungi_inline.proofs.Related.{all_vars, at_base, Related, level, Outcomes, both_return, neither, both_go}
use Rattle.pungi_inline.proofs.Running.{IsReturned, peel, climb, longer_run}
use Rattle.pungi_inline.proofs.Steps.{Config, config, run}

-- ---- related runs

module _ (cs : List (Option Code)) (choices : List Choice) (c : Code)
    (step : (s t : Config) → Related cs c s t → Outcomes cs c choices s t) (w : World) (v : Option Value) (p : Pos)
    (used : List Pos) where
  -- what the run with copies returns within so many instructions, the other run returns
  abbrev Only : ℕ → Type 0
  Only fuel = (n : ℕ) (s t : Config) → n ≤ fuel → Related cs c s t → Returns (run cs choices n t) w v p used
      → (m : ℕ) × (m ≤ n) × Returns (run cs choices m s) w v p used

  -- one instruction, and then the rest
  only_after : (fuel : ℕ) → Only fuel → (n : ℕ) (s t : Config) → n ≤ suc fuel → Outcomes cs c choices s t
      → Returns (run cs choices n t) w v p used → (m : ℕ) × (m ≤ n) × Returns (run cs choices m s) w v p used
  only_after fuel next zero s t le o r = absurd (subst IsReturned (sym r) tt)
  only_after fuel next (suc n) s t le (both_return x y q u one two) r =
      (1, omega arith, one 0 ∙ sym (two n) ∙ r)
  only_after fuel next (suc n) s t le (neither one two) r = absurd (two (suc n) w v p used r)
  only_after fuel next (suc n) s t le (both_go s' t' k one steps related) r =
      let i = peel cs choices (suc k) (suc n) t t' w v p used steps r in
      let j = next i.0 s' t' (omega (arith, le, i.1)) related i.2 in
      (suc j.0, omega (arith, j.1, i.1), one j.0 ∙ j.2)

  -- by the instructions of the run with copies
  only_by : (fuel : ℕ) → Only fuel
  only_by zero zero s t le h r = absurd (subst IsReturned (sym r) tt)
  only_by zero (suc n) s t le h r = absurd (omega (arith, le))
  only_by (suc fuel) n s t le h r = only_after fuel (only_by fuel) n s t le (step s t h) r

  -- and the other way round, with more instructions
  abbrev All : ℕ → Type 0
  All n = (s t : Config) → Related cs c s t → Returns (run cs choices n s) w v p used
      → (m : ℕ) × Returns (run cs choices m t) w v p used

  -- one instruction, and then the rest
  all_after : (n : ℕ) → All n → (s t : Config) → Outcomes cs c choices s t
      → Returns (run cs choices (suc n) s) w v p used → (m : ℕ) × Returns (run cs choices m t) w v p used
  all_after n next s t (both_return x y q u one two) r = (1, two 0 ∙ sym (one n) ∙ r)
  all_after n next s t (neither one two) r = absurd (one (suc n) w v p used r)
  all_after n next s t (both_go s' t' k one steps related) r =
      let i = next s' t' related (sym (one n) ∙ r) in
      let j = climb cs choices (suc k) i.0 t t' steps in
      (j.0, j.1 ∙ i.1)

  -- by the instructions of the run of the code itself
  all_by : (n : ℕ) → All n
  all_by zero s t h r = absurd (subst IsReturned (sym r) tt)
  all_by (suc n) s t h r = all_after n (all_by n) s t (step s t h) r

-- ---- whole runs

abbrev pub starts : Code → Entry → Config
starts c entry = config [] c.instrs 0 (start c entry)

pub record RoundAlike (cs : List (Option Code)) (c t : Code) : Type 0 where
  pub vars : length c.vars ≤ length t.vars
  pub only : (entry : Entry) (choices : List Choice) (n : ℕ) (w : World) (v : Option Value) (p : Pos)
      (used : List Pos) → length entry.args ≤ length c.vars
      → Returns (run cs choices n (starts t entry)) w v p used
      → Returns (run cs choices n (starts c entry)) w v p used
  pub all : (entry : Entry) (choices : List Choice) (n : ℕ) (w : World) (v : Option Value) (p : Pos)
      (used : List Pos) → length entry.args ≤ length c.vars
      → Returns (run cs choices n (starts c entry)) w v p used
      → (m : ℕ) × Returns (run cs choices m (starts t entry)) w v p used

-- where a call is replaced there is a line
some_lines : (cs : List (Option Code)) (ls : List Line) → has_site cs ls ≡ true → 0 < length ls
some_lines cs [] e = absurd (cc)
some_lines cs (l ∷ ls) e = omega arith

module _ (cs : List (Option Code)) (params : HaveParams cs) (callees : ℕ → CallKinds)
    (others : (f : ℕ) (g : Code) → code_numbered cs f ≡ Some g → IsWellFormedAmong callees g) (c : Code)
    (formed : IsWellFormedAmong callees c) where
  -- the code with copies has its own variables and those of all windows
  vars_length : length (expanded cs c).vars ≡ all_vars cs c
  vars_length = length-append c.vars (all_kinds cs c.instrs) ∙ omega (arith, all_kinds_long cs c.instrs)

  module _ (small : all_vars cs c ≤ most_variables) (some : 0 < length c.instrs) where
    -- the runs are related where they begin
    related_at_start : (entry : Entry) → length entry.args ≤ length c.vars
        → Related cs c (starts c entry) (starts (expanded cs c) entry)
    related_at_start entry few =
        let source : length (param_vars c entry.args) ≡ length c.vars = params_length c entry.args few in
        let copied : length (param_vars (expanded cs c) entry.args) ≡ length (expanded cs c).vars
        = params_length (expanded cs c) entry.args (omega (arith, few, vars_length)) in
        level [] c.instrs 0 (start c entry) 0 (start (expanded cs c) entry)
        (at_base 0 (start c entry) (start (expanded cs c) entry) (record {
          inside = some;
          same = record {
            world = refl;
            used = refl;
            vars = λ x lt.
                ap (content_at (param_vars (expanded cs c) entry.args)) (omega arith)
                ∙ params_same entry.args (length (expanded cs c).vars - length entry.args)
                (length c.vars - length entry.args) x;
            room = omega (arith, source, copied, vars_length);
          };
          vars = source;
          room = copied ∙ vars_length;
        }))

    -- a code with copies runs as the code does
    expands : RoundAlike cs c (expanded cs c)
    expands = record {
      vars = omega (arith, vars_length);
      only = λ entry choices n w v p used few r.
          let m = only_by cs choices c (lockstep cs choices c params small callees formed others) w v p used n n
          (starts c entry) (starts (expanded cs c) entry) (omega arith) (related_at_start entry few) r in
          longer_run cs choices m.0 n (starts c entry) w v p used m.1 m.2;
      all = λ entry choices n w v p used few r.
          all_by cs choices c (lockstep cs choices c params small callees formed others) w v p used n
          (starts c entry) (starts (expanded cs c) entry) (related_at_start entry few) r;
    }

  -- so it is where nothing is copied
  round_by : (d : Bool) → (has_site cs c.instrs && is_small cs c) ≡ d
      → RoundAlike cs c (if d then expanded cs c else c)
  round_by true e =
      let h = and_parts (has_site cs c.instrs) (is_small cs c) e in
      let g = and_parts (nat_le (total (line_sizes cs c.instrs)) most_instructions)
      (nat_le (all_vars cs c) most_variables) h.1 in
      expands (leb-true (all_vars cs c) most_variables g.1) (some_lines cs c.instrs h.0)
  round_by false e = record {
    vars = omega arith;
    only = λ entry choices n w v p used few r. r;
    all = λ entry choices n w v p used few r. (n, r);
  }

  -- a round changes nothing of what is returned
  pub round : RoundAlike cs c (replaced cs c)
  round = round_by (has_site cs c.instrs && is_small cs c) refl
