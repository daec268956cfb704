-- The law of runs: from entries that stand for each other a code and its idle code run alike.
use Rattle.std.proofs.Common.{◌≡◌, ℕ, true, List, take, refl, ap, subst, ◌&&◌, ◌||◌, ◌==◌, nat_lt}
use Rattle.std.specs.Prelude.{nat_le, ◌^◌, slice_get, Option, Some}
use Rattle.std.specs.List.{list_any}
use Rattle.std.proofs.lemmas.Bool.{and_parts}
use Rattle.pungi_base.specs.declared.entry.Entry.{Entry}
use Rattle.pungi_base.specs.declared.value.Value.{Value}
use Rattle.pungi_world.specs.Escapes.{is_returned, is_argument}
use Rattle.pungi_code.specs.declared.code.Code.{Code}
use Rattle.pungi_code.specs.declared.code.Line.{Line}
use Rattle.pungi_code.specs.Entries.{code_fits, hold_values}
use Rattle.pungi_code.specs.Run.{start}
use Rattle.pungi_idle.specs.IdleCode.{idle}
use Rattle.pungi_idle.specs.Laws.{IsAlikeIdle, RunAlike}
use Rattle.pungi_idle.specs.Named.{names, is_named}
use Rattle.pungi_idle.specs.RestoredRun.{restored_values}
use Rattle.pungi_idle.proofs.Entering.{Likes, both, kept_in, starts, argument_at, restored_fits, idled}
use Rattle.pungi_idle.proofs.Naming.{named_there, from_none, or_left, or_right, same_count}
use Rattle.pungi_idle.proofs.Runs.{SameRegs, runs}

module _ (c : Code) where
  abbrev IsKept : ℕ → Type 0
  IsKept x = kept_in c x ≡ true

  abbrev taken : List ℕ
  taken = c.terms.convention.taken

  pub named_kept : (pc : ℕ) (l : Line) → slice_get c.instrs pc ≡ Some l → (x : ℕ) → names x l.instr ≡ true → IsKept x
  named_kept pc l at x e =
      or_right (nat_le c.params x) (is_named c.instrs x || list_any (λ p. p == x) taken)
      (or_left (is_named c.instrs x) (list_any (λ p. p == x) taken) (named_there c.instrs pc l at x e))

  taken_kept : (x : ℕ) → list_any (λ p. p == x) taken ≡ true → IsKept x
  taken_kept x e =
      or_right (nat_le c.params x) (is_named c.instrs x || list_any (λ p. p == x) taken)
      (or_right (is_named c.instrs x) (list_any (λ p. p == x) taken) e)

  run_alike : (objects : ℕ) (vs us : List Value) → Likes (kept_in c) 0 vs us
      → RunAlike c (record { objects = objects; args = vs }) (record { objects = objects; args = us })
  run_alike objects vs us h =
      let entry : Entry = record { objects = objects; args = vs } in
      let other : Entry = record { objects = objects; args = us } in
      let same : SameRegs IsKept (start c entry) (start (idle c) other) = record {
        world = refl;
        used = refl;
        vars = starts c vs us h;
      } in
      record {
        runs = λ choices n.
            runs IsKept c.instrs named_kept choices n 0 (start c entry) (start (idle c) other) same;
        taken = λ object. same_count (is_argument entry object) (is_argument other object) taken
            (λ x e. ap (λ (v : Option Value). is_returned v object) (argument_at (kept_in c) 0 vs us h x
            (subst (λ n. kept_in c n ≡ true) (from_none x) (taken_kept x e))));
      }

  pub alike : (n : ℕ) → IsAlikeIdle n c
  alike n = record {
    fits = λ entry e.
        let h = parts entry e in
        both (nat_le n entry.objects) _ h.0 (both (nat_lt entry.objects (2 ^ 31)) _ h.1.0
        (restored_fits entry.objects c.instrs taken c.params 0 c.params n c.vars entry.args h.1.1).0);
    runs = λ entry e.
        let h = parts entry e in
        run_alike entry.objects (restored_values entry.objects n (take c.params c.vars) entry.args) entry.args
        (restored_fits entry.objects c.instrs taken c.params 0 c.params n c.vars entry.args h.1.1).1;
    all = λ entry e.
        let p = and_parts (nat_le n entry.objects)
        (nat_lt entry.objects (2 ^ 31) && hold_values entry.objects (take c.params c.vars) entry.args) e in
        let q = and_parts (nat_lt entry.objects (2 ^ 31))
        (hold_values entry.objects (take c.params c.vars) entry.args) p.1 in
        let us = idled entry.objects c.instrs taken c.params 0 c.params c.vars entry.args q.1 in (
          record { objects = entry.objects; args = us.0 },
          (
            both (nat_le n entry.objects) _ p.0 (both (nat_lt entry.objects (2 ^ 31)) _ q.0 us.1.0),
            run_alike entry.objects entry.args us.0 us.1.1,
          ),
        );
  }
    where
      parts : (entry : Entry) → code_fits n (idle c) entry ≡ true
          → (nat_le n entry.objects ≡ true) × ((nat_lt entry.objects (2 ^ 31) ≡ true)
          × (hold_values entry.objects (take c.params (idle c).vars) entry.args ≡ true))
      parts entry e =
          let p = and_parts (nat_le n entry.objects)
          (nat_lt entry.objects (2 ^ 31) && hold_values entry.objects (take c.params (idle c).vars) entry.args) e in
          let q = and_parts (nat_lt entry.objects (2 ^ 31))
          (hold_values entry.objects (take c.params (idle c).vars) entry.args) p.1 in
          (p.0, q)
