-- One instruction leads from a point where all is of its kind to another one, or ends the run.
use Rattle.std.proofs.Common.{◌≡◌, ℕ, ◌+◌, ◌≤◌, ◌⊎◌, Bool, true, false, List, [], ◌∷◌, ◌++◌}
use Rattle.std.proofs.Common.{Option, Some, None, Result, Ok, Err, option_map, length, map, take, drop, replicate, refl}
use Rattle.std.proofs.Common.{sym}
use Rattle.std.proofs.Common.{ap, ◌∙◌, subst, inl, inr, arith}
use Rattle.std.specs.Prelude.{ℤ, ◌-◌, slice_set, if◌then◌else◌}
use Rattle.std.proofs.lemmas.List.{length-append, length-drop, length-replicate}
use Rattle.pungi_base.specs.declared.choice.Choice.{Choice}
use Rattle.pungi_base.specs.declared.pos.Pos.{Pos}
use Rattle.pungi_base.specs.declared.value.Value.{Value}
use Rattle.pungi_api.specs.declared.param.Param.{Param}
use Rattle.pungi_world.specs.declared.content.Content.{Content}
use Rattle.pungi_world.specs.declared.content.Content.TheVariants.{Unset, Holds}
use Rattle.pungi_world.specs.declared.effect.Effect.{Effect}
use Rattle.pungi_world.specs.declared.halt.Halt.{Halt}
use Rattle.pungi_world.specs.declared.halt.Halt.TheVariants as halt
use Rattle.pungi_world.specs.declared.world.World.{World}
use Rattle.pungi_meaning.specs.Run.{Run, Returned, Stopped, NeedsChoice, end_at_once, with_operations}
use Rattle.pungi_meaning.specs.Todo.{Operation, Entered}
use Rattle.pungi_code.specs.declared.atom.Var.{Var}
use Rattle.pungi_code.specs.declared.code.Code.{Code}
use Rattle.pungi_code.specs.declared.code.Codes.{Codes}
use Rattle.pungi_code.specs.Entries.{holds_value}
use Rattle.pungi_code.specs.Frames.{CodeFrame, Rest, code_numbered, flatten, leave, resume, resumed}
use Rattle.pungi_code.specs.Frames.{with_params}
use Rattle.pungi_code.specs.Perform.{with_number}
use Rattle.pungi_code.specs.Registers.{Regs, after_effect, choices_left, put, with_value, with_values}
use Rattle.pungi_code.specs.Run.{calling}
use Rattle.pungi_code.specs.WellFormed.{fits_result}
use Rattle.pungi_code.specs.WellFormed.{is_var, is_wide, kinds_of, var_kind}
use Rattle.pungi_layout.proofs.well_formed.Both.{and_right}
use Rattle.pungi_kinds.specs.Contents.{content_holds, contents_hold, gives_result, SlotsHold}
use Rattle.pungi_kinds.specs.Operations.{OperationsHold, entered_holds}
use Rattle.pungi_kinds.specs.Runs.{Point, objects_at, IsWaiting, AreWaiting, HasKinds, Ends, GoesOn, outermost}
use Rattle.pungi_kinds.proofs.ValueLemmas as lemma

-- the code of a number stands in the list
pub in_list : (o : Option (Option Code)) (c : Code) → flatten o ≡ Some c → o ≡ Some (Some c)
in_list None c e = absurd (cc)
in_list (Some None) c e = absurd (cc)
in_list (Some (Some d)) c e = ap Some e

module _ (codes : Codes) (result : Option Param) (choices : List Choice) (first : ℕ) where
  abbrev more_waiting : (n m : ℕ) (k : Option Param) (frames : List CodeFrame) → n ≤ m
      → AreWaiting codes n k frames → AreWaiting codes m k frames
  more_waiting n m k [] le h = tt
  more_waiting n m k (b ∷ frames) le h =
      let r = h.0.runs in (
        record {
          runs = record {
            number = r.number;
            code = r.code;
            there = r.there;
            instrs = r.instrs;
            vars = lemma.more_contents n m r.code.vars b.vars le r.vars;
          };
          into = h.0.into;
        },
        more_waiting n m r.code.result frames le h.1,
      )

  same_outermost : (n m : ℕ) (k : Option Param) (frames : List CodeFrame) (le : n ≤ m)
      (h : AreWaiting codes n k frames)
      → outermost codes m k frames (more_waiting n m k frames le h) ≡ outermost codes n k frames h
  same_outermost n m k [] le h = refl
  same_outermost n m k (b ∷ frames) le h = same_outermost n m h.0.runs.code.result frames le h.1

  -- an instruction does this at a point
  module _ (s : Point) (has : HasKinds codes result choices first s) where
    abbrev pub Here : Code
    Here = has.runs.code

    abbrev pub Count : ℕ
    Count = objects_at s

    abbrev pub Done : (Rest → Run) → Type 0
    Done told = Ends told result ⊎ GoesOn codes told (HasKinds codes result choices first)

    pub stopped : (told : Rest → Run) (p : Pos) → ((go : Rest) → told go ≡ end_at_once (Stopped p)) → Done told
    stopped told p e = inl (record { end = Stopped p; by = e; holds = refl })

    -- ---- the point after it

    pub moved : (pc : ℕ) (vars : List Content) → contents_hold Count Here.vars vars ≡ true
        → HasKinds codes result choices first (record s { place = pc; regs = record (s.regs) { vars = vars } })
    moved pc vars h = record {
      runs = record {
        number = has.runs.number;
        code = has.runs.code;
        there = has.runs.there;
        instrs = has.runs.instrs;
        vars = h;
      };
      waiting = has.waiting;
      outer = has.outer;
      slots = has.slots;
      statics = has.statics;
      objects = has.objects;
      used = has.used;
    }

    abbrev pub After : ℕ → Effect × World → Pos → List Content → Point
    After pc r p vars = record s {
      place = pc;
      regs = record { world = r.1; used = s.regs.used ++ replicate r.0.used p; vars = vars };
    }

    pub record IsGrown (r : Effect × World) : Type 0 where
      pub least : Count ≤ length r.1.accounts
      pub most : length r.1.accounts ≤ Count + r.0.used
      pub used : r.0.used ≤ length (choices_left choices s.regs)
      pub slots : SlotsHold codes (length r.1.accounts) r.1.slots

    pub grown : (pc : ℕ) (r : Effect × World) (p : Pos) (vars : List Content) → IsGrown r
        → contents_hold (length r.1.accounts) Here.vars vars ≡ true
        → HasKinds codes result choices first (After pc r p vars)
    grown pc r p vars g h =
        let more : length (s.regs.used ++ replicate r.0.used p)
        ≡ length s.regs.used + length (replicate r.0.used p) = length-append s.regs.used (replicate r.0.used p) in
        let count : length (replicate r.0.used p) ≡ r.0.used = length-replicate r.0.used p in
        let left : length (drop (length s.regs.used) choices)
        ≡ length choices - length s.regs.used = length-drop (length s.regs.used) choices in
        record {
          runs = record {
            number = has.runs.number;
            code = has.runs.code;
            there = has.runs.there;
            instrs = has.runs.instrs;
            vars = h;
          };
          waiting = more_waiting Count (length r.1.accounts) Here.result s.frames g.least has.waiting;
          outer = same_outermost Count (length r.1.accounts) Here.result s.frames g.least has.waiting ∙ has.outer;
          slots = g.slots;
          statics = omega (arith, has.statics, g.least);
          objects = omega (arith, has.objects, g.most, more, count);
          used = omega (arith, has.used, g.used, more, count, left);
        }

    pub grown_same : (pc : ℕ) (r : Effect × World) (p : Pos) → IsGrown r
        → HasKinds codes result choices first (After pc r p s.regs.vars)
    grown_same pc r p g =
        grown pc r p s.regs.vars g (lemma.more_contents Count (length r.1.accounts) Here.vars s.regs.vars g.least
        has.runs.vars)

    pub grown_put : (pc : ℕ) (r : Effect × World) (p : Pos) (x : Var) (v : Value) → IsGrown r
        → holds_value (length r.1.accounts) (var_kind Here.vars x) v ≡ true
        → HasKinds codes result choices first (After pc r p (slice_set s.regs.vars x.0 (Holds v)))
    grown_put pc r p x v g h =
        grown pc r p (slice_set s.regs.vars x.0 (Holds v)) g
        (lemma.content_put (length r.1.accounts) Here.vars s.regs.vars x.0 (Holds v)
        (lemma.more_contents Count (length r.1.accounts) Here.vars s.regs.vars g.least has.runs.vars) h)

    pub put_here : (x : Var) (c : Content) → content_holds Count (var_kind Here.vars x) c ≡ true
        → contents_hold Count Here.vars (slice_set s.regs.vars x.0 c) ≡ true
    put_here x c h = lemma.content_put Count Here.vars s.regs.vars x.0 c has.runs.vars h

    -- an instruction that writes a variable, with these operations
    pub writes : (ops : List Operation) (x : Var) (c : Content)
        → content_holds Count (var_kind Here.vars x) c ≡ true → OperationsHold codes Count ops
        → Done (λ go. with_operations ops (go s.frames s.instrs (s.place + 1) (put x c s.regs)))
    writes ops x c h o =
        inr (record {
          ops = ops;
          next = record s { place = s.place + 1; regs = put x c s.regs };
          by = λ go. refl;
          holds = o;
          then = moved (s.place + 1) (slice_set s.regs.vars x.0 c) (put_here x c h);
        })

    pub jumps : (pc : ℕ) → Done (λ go. go s.frames s.instrs pc s.regs)
    jumps pc =
        inr (record {
          ops = [];
          next = record s { place = pc };
          by = λ go. refl;
          holds = tt;
          then = moved pc s.regs.vars has.runs.vars;
        })

    -- ---- values that are read

    pub reads : (c : Content) (p : Pos) (f : Value → Rest → Run)
        → ((v : Value) → c ≡ Holds v → Done (f v)) → Done (λ go. with_value c p (λ v. f v go))
    reads Unset p f g = stopped (λ go. with_value Unset p (λ v. f v go)) p (λ go. refl)
    reads (Holds v) p f g = g v refl

    pub reads_all : (o : Option (List Value)) (p : Pos) (f : List Value → Rest → Run)
        → ((vs : List Value) → o ≡ Some vs → Done (f vs)) → Done (λ go. with_values o p (λ vs. f vs go))
    reads_all None p f g = stopped (λ go. with_values None p (λ vs. f vs go)) p (λ go. refl)
    reads_all (Some vs) p f g = g vs refl

    pub gives : (o : Option ℤ) (p : Pos) (f : ℤ → Rest → Run)
        → ((z : ℤ) → o ≡ Some z → Done (f z)) → Done (λ go. with_number p o (λ z. f z go))
    gives None p f g = stopped (λ go. with_number p None (λ z. f z go)) p (λ go. refl)
    gives (Some z) p f g = g z refl

    pub tests : (b : Bool) (p : Pos) (f : Rest → Run) → (b ≡ true → Done f)
        → Done (λ go. if b then f go else end_at_once (Stopped p))
    tests true p f g = g refl
    tests false p f g = stopped (λ go. end_at_once (Stopped p)) p (λ go. refl)

    pub affects : (r : Result (Effect × World) Halt) (p : Pos) (f : Effect → Regs → Rest → Run)
        → ((q : Effect × World) → r ≡ Ok q
        → Done (f q.0 (record (s.regs) { world = q.1; used = s.regs.used ++ replicate q.0.used p })))
        → Done (λ go. after_effect p r s.regs (λ e m. f e m go))
    affects (Ok q) p f g = g q refl
    affects (Err halt.Stopped) p f g =
        stopped (λ go. after_effect p (Err halt.Stopped) s.regs (λ e m. f e m go)) p (λ go. refl)
    affects (Err halt.NeedsChoice) p f g = inl (record { end = NeedsChoice; by = λ go. refl; holds = refl })
    affects (Err halt.Memory) p f g = inl (record { end = NeedsChoice; by = λ go. refl; holds = refl })

    -- ---- returns

    -- what a code that waits gets is of the kind of its variable
    resumes : (b : CodeFrame) (frames : List CodeFrame) (w : IsWaiting codes Count Here.result b)
        → (below : AreWaiting codes Count w.runs.code.result frames)
        → outermost codes Count w.runs.code.result frames below ≡ result → (into : Option Var) (v : Option Value)
        → fits_result w.runs.code.vars Here.result into ≡ true
        → gives_result Count Here.result (option_map Holds v) ≡ true
        → Done (λ go. resume go frames b s.regs.world s.regs.used into v)
    resumes b frames w below o None v h k =
        inr (record {
          ops = [];
          next = record {
            frames = frames;
            instrs = b.instrs;
            place = b.place;
            regs = resumed b s.regs.world s.regs.used;
          };
          by = λ go. refl;
          holds = tt;
          then = record {
            runs = w.runs;
            waiting = below;
            outer = o;
            slots = has.slots;
            statics = has.statics;
            objects = has.objects;
            used = has.used;
          };
        })
    resumes b frames w below o (Some x) None h k =
        stopped (λ go. resume go frames b s.regs.world s.regs.used (Some x) None) b.call (λ go. refl)
    resumes b frames w below o (Some x) (Some v) h k =
        let vars = slice_set b.vars x.0 (Holds v) in
        inr (record {
          ops = [];
          next = record {
            frames = frames;
            instrs = b.instrs;
            place = b.place;
            regs = put x (Holds v) (resumed b s.regs.world s.regs.used);
          };
          by = λ go. refl;
          holds = tt;
          then = record {
            runs = record {
              number = w.runs.number;
              code = w.runs.code;
              there = w.runs.there;
              instrs = w.runs.instrs;
              vars = lemma.content_put Count w.runs.code.vars b.vars x.0 (Holds v) w.runs.vars
                  (result_fits Here.result h k);
            };
            waiting = below;
            outer = o;
            slots = has.slots;
            statics = has.statics;
            objects = has.objects;
            used = has.used;
          };
        })
      where
        result_fits : (r : Option Param) → fits_result w.runs.code.vars r (Some x) ≡ true
            → gives_result Count r (Some (Holds v)) ≡ true → holds_value Count (var_kind w.runs.code.vars x) v ≡ true
        result_fits None a e = absurd (cc)
        result_fits (Some r) a e =
            lemma.wider Count r (var_kind w.runs.code.vars x) v
            (and_right (is_var w.runs.code.vars x) (is_wide r (var_kind w.runs.code.vars x)) a) e

    pub leaves : (frames : List CodeFrame) (w : AreWaiting codes Count Here.result frames)
        → outermost codes Count Here.result frames w ≡ result → (v : Option Value) (p : Pos)
        → gives_result Count Here.result (option_map Holds v) ≡ true
        → Done (λ go. leave go frames s.regs.world v p s.regs.used)
    leaves [] w o v p h =
        inl (record {
          end = Returned s.regs.world v p s.regs.used;
          by = λ go. refl;
          holds = subst (λ k. gives_result Count k (option_map Holds v) ≡ true) o h;
        })
    leaves (b ∷ frames) w o v p h = resumes b frames w.0 w.1 o b.into v w.0.into h

    -- ---- calls

    -- `c` is the code of the function that is called
    module _ (p : Pos) (x : Option Var) (f : ℕ) (vs : List Value) (c : Code)
        (there : code_numbered codes.codes f ≡ Some c)
        (into : fits_result Here.vars c.result x ≡ true)
        (held : contents_hold Count (take c.params c.vars) (map Holds vs) ≡ true) where
      kinds_there : kinds_of codes f ≡ Some (take c.params c.vars, c.result)
      kinds_there = ap (option_map (λ (d : Code). (take d.params d.vars, d.result))) there

      pub begins : Done (λ go. with_operations (Entered p f vs ∷ [])
          (go (calling p s.instrs s.place x s.regs ∷ s.frames) c.instrs 0 (with_params c vs s.regs)))
      begins =
          inr (record {
            ops = Entered p f vs ∷ [];
            next = record {
              frames = calling p s.instrs s.place x s.regs ∷ s.frames;
              instrs = c.instrs;
              place = 0;
              regs = with_params c vs s.regs;
            };
            by = λ go. refl;
            holds = (subst (λ k. entered_holds Count k vs ≡ true) (sym kinds_there) held, tt);
            then = record {
              runs = record {
                number = f;
                code = c;
                there = there;
                instrs = refl;
                vars = lemma.params_held Count c.params c.vars vs (length c.vars - length vs) refl held;
              };
              waiting = (record { runs = has.runs; into = into }, has.waiting);
              outer = has.outer;
              slots = has.slots;
              statics = has.statics;
              objects = has.objects;
              used = has.used;
            };
          })
