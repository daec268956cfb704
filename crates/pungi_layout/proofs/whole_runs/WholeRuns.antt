-- Whole runs: what remains of a function stands in a code, with few nodes in what may come again.
use Rattle.std.proofs.Common.{◌≡◌, ℕ, ◌+◌, ◌*◌, ◌≤◌, List, Option, Some, None, Bool, true, false}
use Rattle.pungi_base.specs.declared.value.Value.{Value}
use Rattle.pungi_world.specs.declared.content.Content.{Content}
use Rattle.pungi_meaning.specs.Todo.{Todo, State, Step, Goes, Calls, Returns, Stops, Wants}
use Rattle.pungi_meaning.specs.Run.{act}
use Rattle.pungi_code.specs.declared.atom.Var.{Var}
use Rattle.pungi_code.specs.declared.code.Line.{Line}
use Rattle.pungi_code.specs.Registers.{Regs}
use Rattle.pungi_code.specs.Run.{Around, exec_in}
use Rattle.pungi_code.proofs.Simulation.{ahead, After, Simulates}
use Rattle.pungi_layout.specs.alike.Weights.{weight}
use Rattle.pungi_layout.proofs.relation.Steps.{At, IsDone, hopping}
use Rattle.pungi_layout.proofs.simulation.EachStep.{sim}
use Rattle.pungi_layout.proofs.simulation.Stmts.{jumps}
use Rattle.pungi_layout.proofs.whole_runs.LessLeftExprs.{AreLight, Leaves}
use Rattle.pungi_layout.proofs.whole_runs.LessLeft.{step_light}

-- `Kept`: what else is known of a code
module _ (most : ℕ) (Kept : List Line → Type 0) where
  -- what remains stands in a code, for whatever number of locals and of variables, and what may come again is within
  -- the bound
  abbrev pub IsReached : List Line → List Todo → State → ℕ → Regs → Type 0
  IsReached code k s pc m = (nl : ℕ) × (room : ℕ) × At nl room code k s pc m × AreLight most k × Kept code

  reached_after : (code : List Line) (nl room : ℕ) (k : List Todo) (locals : List Content) (values : List Value)
      (place : ℕ) (vars : List Content) (has : Bool) (into : Option Var) → AreLight most k → Kept code
      → After (At nl room) code k locals values place vars has into
      → After IsReached code k locals values place vars has into
  reached_after code nl room k locals values place vars true (Some x) l q h =
      λ w used v. (nl, room, h w used v, l, q)
  reached_after code nl room k locals values place vars false None l q h = λ w used. (nl, room, h w used, l, q)
  reached_after code nl room k locals values place vars true None l q h = absurd h
  reached_after code nl room k locals values place vars false (Some x) l q h = absurd h

  joined : (around : Around) (code : List Line) (nl room : ℕ) (st : Step) (n b before pc place : ℕ) (m : Regs)
      → ((j : ℕ) → exec_in around code (ahead before j) pc m ≡ exec_in around code j place m)
      → IsDone around code nl room st b place m → Leaves most (n + most * b) st → Kept code
      → Simulates IsReached weight most around code st n pc m
  joined around code nl room (Goes ops k s) n b before pc place m e g l q = record {
    before = before;
    place = place;
    skip = e;
    jumps = b;
    leads = record {
      count = g.count;
      least = g.least;
      place = g.place;
      regs = g.regs;
      by = g.by;
      stands = (nl, room, g.stands, l.1, q);
    };
    lighter = l.0;
  }
  joined around code nl room (Calls p f has args k s) n b before pc place m e g l q = record {
    before = before;
    place = place;
    skip = e;
    jumps = b;
    leads = (
      g.0,
      record {
        into = g.1.into;
        atoms = g.1.atoms;
        line = g.1.line;
        values = g.1.values;
        world = g.1.world;
        used = g.1.used;
        after = reached_after code nl room k s.locals s.values (place + 1) m.vars has g.1.into l.1 q
            g.1.after;
      },
    );
    lighter = l.0;
  }
  joined around code nl room (Returns w v p u) n b before pc place m e g l q = record {
    before = before;
    place = place;
    skip = e;
    jumps = b;
    leads = g;
    lighter = tt;
  }
  joined around code nl room (Stops p) n b before pc place m e g l q = record {
    before = before;
    place = place;
    skip = e;
    jumps = b;
    leads = g;
    lighter = tt;
  }
  joined around code nl room Wants n b before pc place m e g l q = record {
    before = before;
    place = place;
    skip = e;
    jumps = b;
    leads = g;
    lighter = tt;
  }

  pub simulates : 1 ≤ most → (around : Around) (code : List Line) (k : List Todo) (s : State) (pc : ℕ) (m : Regs)
      → IsReached code k s pc m
      → Simulates IsReached weight most around code (act around.choices k s) (weight k) pc m
  simulates some around code k s pc m h =
      let nl = h.0 in
      let room = h.1 in
      let is = h.2.2 in
      joined around code nl room (act around.choices k s) (weight k) (jumps k) is.0 pc is.1 m
      (hopping around code nl room is.0 pc is.1 m is.2)
      (sim around code nl room k s h.2.0 is.1 h.2.1 m is.3 h.2.3) (step_light most some around.choices k s h.3) h.4
