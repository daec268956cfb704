-- What is known of the code of a function: its static objects are those that it names, and that are named by those
-- functions that it calls, each once.
use Rattle.std.proofs.Common.{◌≡◌, inl, inr, ℕ, ◌<◌, true, [], refl, sym, ap, ◌∙◌, subst, Option, Some, None}
use Rattle.std.specs.Prelude.{nat_lt, slice_get}
use Rattle.std.specs.List.{All, IsAmong, flat_map, list_all}
use Rattle.std.proofs.lemmas.Bool.{ltb-true}
use Rattle.pungi_code.specs.declared.atom.Atom.{Atom}
use Rattle.pungi_code.specs.declared.atom.Atom.TheVariants as atom
use Rattle.pungi_code.specs.declared.code.Code.{Code}
use Rattle.pungi_code.specs.declared.code.Codes.{Codes}
use Rattle.pungi_code.specs.declared.code.Line.{Line}
use Rattle.pungi_code.specs.Frames.{flatten}
use Rattle.pungi_code.specs.Run.{code_at}
use Rattle.pungi_code.specs.WellFormed.{atoms_of, is_there, has_statics, IsWellFormedAmong, AgreeOnKinds}
use Rattle.pungi_shape.specs.Named.{static_in, statics_in, lines_of, callees_of, functions_from, statics_from}
use Rattle.pungi_shape.specs.Named.{statics_of}
use Rattle.pungi_shape.proofs.sound.Flow.{Claim, IsCode}
use Rattle.pungi_shape.proofs.sound.InOrder.{numbers_only, numbers_have, numbers_differ, among_some, list_all_of}
use Rattle.pungi_shape.proofs.sound.InOrder.{line_among}
use Rattle.pungi_shape.proofs.sound.Reaches.{from_itself, from_callee}
use Rattle.pungi_shape.proofs.sound.Members.{nothing_in, one_of, among_each, all_among}

-- ---- the code of a function

flat_code : (o : Option (Option Code)) (code : Code) → flatten o ≡ Some code → o ≡ Some (Some code)
flat_code None code e = absurd (cc)
flat_code (Some o) code e = ap Some e

pub at_number : (codes : Codes) (f : ℕ) (code : Code) → code_at codes f ≡ Some code
    → slice_get codes.codes f ≡ Some (Some code)
at_number codes f code is = flat_code (slice_get codes.codes f) code is

-- ---- static objects

own_statics : (codes : Codes) (f : ℕ) (code : Code) → code_at codes f ≡ Some code → (k : ℕ)
    → IsAmong (flat_map statics_in code.instrs) k → IsAmong (statics_of codes f) k
own_statics codes f code is k there =
    numbers_have (flat_map (statics_from codes) (functions_from codes f)) k
    (among_each (statics_from codes) (functions_from codes f) f k (from_itself codes f)
    (subst (λ o. IsAmong (flat_map statics_in (lines_of o)) k) (sym is) there))

-- a function that is reached names it
pub named_by : (codes : Codes) (f k : ℕ) → IsAmong (statics_of codes f) k
    → (g : ℕ) × (IsAmong (functions_from codes f) g × IsAmong (statics_from codes g) k)
named_by codes f k there =
    among_some (statics_from codes) (functions_from codes f) k
    (numbers_only (flat_map (statics_from codes) (functions_from codes f)) k there)

-- those of a called function are among those of its caller
pub statics_of_callee : (codes : Codes) (g h : ℕ) → IsAmong (callees_of codes g) h
    → All (IsAmong (statics_of codes g)) (statics_of codes h)
statics_of_callee codes g h called =
    all_among (IsAmong (statics_of codes g)) (statics_of codes h)
    (λ k there.
    let some = named_by codes h k there in
    numbers_have (flat_map (statics_from codes) (functions_from codes g)) k
    (among_each (statics_from codes) (functions_from codes g) some.0 k
    (from_callee codes g h some.0 called some.1.0) some.1.1))

-- ---- static objects are there

-- a static object of an atom that is there is one of the first so many
static_below : (n : ℕ) (a : Atom) (k : ℕ) → IsAmong (static_in a) k → is_there n a ≡ true → nat_lt k n ≡ true
static_below n (atom.Static j) k there e = elim (one_of j [] k there) [
  | inl same ↦ ap (λ i. nat_lt i n) same ∙ e
  | inr rest ↦ absurd (nothing_in k rest)
]
static_below n a k there e = absurd (nothing_in k there)

code_statics : (n : ℕ) (code : Code) (k : ℕ) → has_statics n code ≡ true → IsAmong (flat_map statics_in code.instrs) k
    → nat_lt k n ≡ true
code_statics n code k has there =
    let one = among_some statics_in code.instrs k there in
    let two = among_some static_in (atoms_of one.0.instr) k one.1.1 in
    static_below n two.0 k two.1.1 (list_all_of (is_there n) (atoms_of one.0.instr) two.0
    (list_all_of (λ (l : Line). list_all (is_there n) (atoms_of l.instr)) code.instrs one.0 has one.1.0) two.1.0)

abbrev pub HaveStatics : Codes → ℕ → Type 0
HaveStatics codes f =
    (g : ℕ) (code : Code) → IsAmong (functions_from codes f) g → slice_get codes.codes g ≡ Some (Some code)
    → has_statics codes.statics code ≡ true

pub statics_there : (codes : Codes) (f : ℕ) → HaveStatics codes f → All (λ k. k < codes.statics) (statics_of codes f)
statics_there codes f have =
    all_among (λ k. k < codes.statics) (statics_of codes f)
    (λ k there.
    let some = named_by codes f k there in
    by some.0 k some.1.0 (code_at codes some.0) refl some.1.1)
  where
    by : (g k : ℕ) → IsAmong (functions_from codes f) g → (o : Option Code) → code_at codes g ≡ o
        → IsAmong (flat_map statics_in (lines_of o)) k → k < codes.statics
    by g k reached None is there = absurd (nothing_in k there)
    by g k reached (Some code) is there =
        ltb-true k codes.statics (code_statics codes.statics code k (have g code reached (at_number codes g code is))
        there)

-- ---- what is known of the code

pub code_is : (codes : Codes) (f : ℕ) (code : Code) (claim : Claim) → code_at codes f ≡ Some code
    → IsWellFormedAmong claim.callees code → claim.file code → ((c : Code) → claim.file c → AgreeOnKinds code c)
    → IsCode code (statics_of codes f) claim
code_is codes f code claim is formed own kinds = record {
  well_formed = formed;
  own = own;
  kinds = kinds;
  statics = λ pc line k there here.
      own_statics codes f code is k
      (among_each statics_in code.instrs line k (line_among code.instrs pc line there) here);
  distinct = numbers_differ (flat_map (statics_from codes) (functions_from codes f));
}
