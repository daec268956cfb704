use Rattle.std.proofs.Common.{◌≡◌, ◌+◌, ◌==◌, ◌++◌, ℕ, zero, suc, false, List, refl, sym, subst, arith, if◌then◌else◌}
use Rattle.std.specs.Prelude.{OnOk}
use Rattle.pungi_code.specs.declared.atom.Atom.{Atom}
use Rattle.pungi_code.specs.declared.instr.Instr.{Instr}
use Rattle.pungi_code.specs.declared.instr.Instr.TheVariants.{Store}
use Rattle.pungi_code.specs.declared.place.Place.{Place}
use Rattle.pungi_shape.specs.Cases.{Case}
use Rattle.pungi_shape.specs.Scenes.{Scene}
use Rattle.pungi_shape.specs.Slots.{store_cases}
use Rattle.pungi_shape.specs.Steps.{part_cases, slot_cases}
use Rattle.pungi_shape.proofs.steps.part_cases.Goals as goal

store_parts : (place : Place) (a : Atom) (pc n k : ℕ) (s : Scene)
    → (if n == 0 then slot_cases place 0 s else
    (if n == 1 then slot_cases place 1 s else store_cases place a (pc + 1) s))
    ≡ part_cases (Store place a) pc n k s
store_parts place a pc zero k s = refl
store_parts place a pc (suc zero) k s = refl
store_parts place a pc (suc (suc n)) k s =
    let e : (suc (suc n) == 0) ≡ false = grind arith in
    let f : (suc (suc n) == 1) ≡ false = grind arith in
    rw (e, f) refl

pub returns-in-Store : goal.returns-in-Store
returns-in-Store c =
    let n = c.args.part in
    let k = c.args.outcome in
    let s = c.args.scene in
    subst (λ (i : Instr). OnOk c.store_part.result (c.store_part.new.out
    ≡ c.args.out.now ++ part_cases i c.args.pc n k s)) (sym c.in-Store.is)
    (subst (λ (l : List Case). OnOk c.store_part.result (c.store_part.new.out ≡ c.args.out.now ++ l))
    (store_parts c.in-Store.place c.in-Store.a c.args.pc n k s) c.store_part.ensures)
