-- Functions that are called.
--   caller_here            a function that calls one has callees
--   caller_within          it is a function of the file
--   call_known             what an edge of its program calls, a function calls
--   callees_within         callees are functions of the file
--   reach_within           a function that is reached is one of the file
--   reaches_through        what is reached is reached from each function on the way
use Rattle.std.proofs.Common.{◌≡◌, ℕ, zero, suc, ◌<◌, List, [], ◌∷◌, length, Option, Some, subst, arith, All}
use Rattle.std.specs.List.{slice_index_or}
use Rattle.pungi_domain.specs.declared.action.Action.TheVariants.{Call}
use Rattle.pungi_domain.specs.declared.affine_edge.AffineEdge.{AffineEdge}
use Rattle.pungi_domain.specs.declared.affine_program.AffineProgram.{AffineProgram}
use Rattle.pungi_summary.specs.Calls.{AreCallable, CallsFrom, IsCallable, IsCalled, Reaches, callees_of, program_of}
use Rattle.pungi_summary.specs.Calls.{reaches_by, reaches_self}
use Rattle.pungi_summary.proofs.Lists.{all_at, read_default}

pub caller_here : (callees : List (List ℕ)) (f g : ℕ) → IsCalled callees f g → f < length callees
caller_here [] f g m = (let lt = m.1 in absurd (omega (arith, lt)))
caller_here (fs ∷ callees) zero g m = omega arith
caller_here (fs ∷ callees) (suc f) g m = (let h = caller_here callees f g m in omega (arith, h))

pub caller_within : (ps : List (Option AffineProgram)) (callees : List (List ℕ)) (f g : ℕ) → AreCallable ps callees
    → IsCalled callees f g → f < length ps
caller_within ps callees f g callable m =
    let lt = caller_here callees f g m in
    let count = callable.count in
    omega (arith, lt, count)

pub call_known : (ps : List (Option AffineProgram)) (callees : List (List ℕ)) (f k g : ℕ) (p : AffineProgram)
    → AreCallable ps callees → program_of ps f ≡ Some p → CallsFrom p k g → IsCalled callees f g
call_known ps callees f k g p callable is c =
    let at = all_at (λ (e : AffineEdge). IsCallable ps (callees_of callees f) e.action) p.edges c.number c.edge
    (callable.calls f p is) c.edge_is in
    let its : IsCallable ps (callees_of callees f) (Call g c.class c.onto) =
    subst (IsCallable ps (callees_of callees f)) c.action at in
    its.0

pub reach_within : (ps : List (Option AffineProgram)) (callees : List (List ℕ)) (f g : ℕ) → AreCallable ps callees
    → f < length ps → Reaches callees f g → g < length ps
reach_within ps callees f g callable lt (reaches_self _) = lt
reach_within ps callees f g callable lt (reaches_by _ h _ call on) =
    reach_within ps callees h g callable (callable.below f h call) on

pub reaches_through : (callees : List (List ℕ)) (f g h : ℕ) → Reaches callees f g → Reaches callees g h
    → Reaches callees f h
reaches_through callees f g h (reaches_self _) on = on
reaches_through callees f g h (reaches_by _ j _ call first) on =
    reaches_by f j h call (reaches_through callees j g h first on)

pub callees_within : (ps : List (Option AffineProgram)) (callees : List (List ℕ)) (f n : ℕ) → AreCallable ps callees
    → n ≡ length ps → All (λ g. g < n) (callees_of callees f)
callees_within ps callees f n callable count = λ k d lt.
    let g = slice_index_or (callees_of callees f) k d in
    let h = callable.below f g (k, lt, read_default (callees_of callees f) k g d lt) in
    omega (arith, h, count)
