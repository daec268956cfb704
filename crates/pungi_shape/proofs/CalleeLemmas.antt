-- The functions that an instruction, a line or a code calls.
use Rattle.std.proofs.Common.{◌≡◌, ◌∙◌, inl, inr, ℕ, ◌+◌, ◌<◌, true, List, [], ◌∷◌, ◌++◌, length, Option, Some, None}
use Rattle.std.proofs.Common.{IsSome, get_or, slice_get, refl, sym, ap, subst}
use Rattle.std.specs.Prelude.{is_some, option_map, take, Result, Ok, Err, OnOk}
use Rattle.std.specs.List.{IsAmong, flat_map}
use Rattle.std.proofs.lemmas.Bool.{false≢true}
use Rattle.std.proofs.lemmas.List.{flat_map_more, take_more}
use Rattle.std.proofs.lemmas.Option.{slice_get-get_or}
use Rattle.pungi_code.specs.declared.code.Code.{Code}
use Rattle.pungi_code.specs.declared.code.Codes.{Codes}
use Rattle.pungi_code.specs.declared.code.Line.{Line}
use Rattle.pungi_code.specs.declared.instr.Instr.{Instr}
use Rattle.pungi_code.specs.declared.instr.Instr.TheVariants.{Call}
use Rattle.pungi_code.specs.Run.{code_at}
use Rattle.pungi_code.specs.WellFormed.{AreWellFormed, fits_call, is_sound_among, kinds_of}
use Rattle.pungi_shape.specs.Liveness.{instr_at, instr_of}
use Rattle.pungi_shape.specs.Named.{callee_of, callees_in, callees_of, lines_of}
use Rattle.pungi_shape.proofs.NamedLemmas.{code-within}
use Rattle.pungi_shape.proofs.sound.InOrder.{among_some, line_among, numbers_have, numbers_only}
use Rattle.pungi_shape.proofs.sound.Members.{among_each, nothing_in, one_of}
use Rattle.pungi_shape.proofs.sound.Statics.{at_number}

-- those that the lines of a code call are those that its function calls
pub lines-called : (codes : Codes) (f g : ℕ) (code : Code) → code_at codes f ≡ Some code
    → IsAmong (flat_map callees_in code.instrs) g → IsAmong (callees_of codes f) g
lines-called codes f g code is_code there =
    numbers_have (flat_map callees_in (lines_of (code_at codes f))) g
    (subst (λ o. IsAmong (flat_map callees_in (lines_of o)) g) (sym is_code) there)

pub called-lines : (codes : Codes) (f g : ℕ) (code : Code) → code_at codes f ≡ Some code
    → IsAmong (callees_of codes f) g → IsAmong (flat_map callees_in code.instrs) g
called-lines codes f g code is_code there =
    subst (λ o. IsAmong (flat_map callees_in (lines_of o)) g) is_code
    (numbers_only (flat_map callees_in (lines_of (code_at codes f))) g there)

-- a function without code calls none
pub none-called : (codes : Codes) (f g : ℕ) → code_at codes f ≡ None → IsAmong (callees_of codes f) g → ⊥
none-called codes f g none there =
    nothing_in g (subst (λ o. IsAmong (flat_map callees_in (lines_of o)) g) none
    (numbers_only (flat_map callees_in (lines_of (code_at codes f))) g there))

-- a function that an instruction calls is called by the code
pub instr-called : (codes : Codes) (f g pc : ℕ) (code : Code) → code_at codes f ≡ Some code
    → IsAmong (callee_of (instr_at code pc)) g → IsAmong (callees_of codes f) g
instr-called codes f g pc code is_code there = by (slice_get code.instrs pc) refl there
  where
    by : (o : Option Line) → slice_get code.instrs pc ≡ o → IsAmong (callee_of (instr_of o)) g
        → IsAmong (callees_of codes f) g
    by None at own = absurd (nothing_in g own)
    by (Some line) at own =
        lines-called codes f g code is_code
        (among_each callees_in code.instrs line g (line_among code.instrs pc line at) own)

-- ---- a function that is called has code

has-code : (codes : Codes) (code : Code) (i : Instr) (g : ℕ) → is_sound_among (kinds_of codes) code i ≡ true
    → IsAmong (callee_of i) g → IsSome (code_at codes g)
has-code codes code (Call x f as') g sound there = elim (one_of f [] g there) [
  | inr rest ↦ absurd (nothing_in g rest)
  | inl e ↦ subst (λ h. IsSome (code_at codes h)) (sym e) (at (code_at codes f) refl)
]
  where
    at : (o : Option Code) → code_at codes f ≡ o → IsSome (code_at codes f)
    at (Some c) is = ap is_some is
    at None is =
        let none : kinds_of codes f ≡ None = ap (option_map (λ c. (take c.params c.vars, c.result))) is in
        absurd (false≢true (subst (λ k. fits_call code.vars k x as' ≡ true) none sound))
has-code codes code i g sound there = absurd (nothing_in g there)

pub callee-has_code : (codes : Codes) (f g : ℕ) (code : Code) → AreWellFormed codes → code_at codes f ≡ Some code
    → IsAmong (flat_map callees_in code.instrs) g → IsSome (code_at codes g)
callee-has_code codes f g code well is_code there =
    let some = among_some callees_in code.instrs g there in
    let line = some.0 in
    let place = some.1.0.0 in
    let here = slice_get-get_or code.instrs place line some.1.0.1.0 ∙ ap Some (sym some.1.0.1.1) in
    has-code codes code line.instr g ((well.each f code (at_number codes f code is_code)).sound place line here)
    some.1.1

pub callee-below : (codes : Codes) (f g : ℕ) (code : Code) → AreWellFormed codes → code_at codes f ≡ Some code
    → IsAmong (flat_map callees_in code.instrs) g → g < length codes.codes
callee-below codes f g code well is_code there =
    code-within codes g (callee-has_code codes f g code well is_code there)

-- ---- lines one after the other

pub line-called : (lines : List Line) (i : ℕ) (line : Line) (g : ℕ) → i < length lines → line ≡ get_or lines i line
    → IsAmong (callees_in line) g → IsAmong (flat_map callees_in lines) g
line-called lines i line g lt is there = among_each callees_in lines line g (i, (lt, is)) there

pub calls-more : (lines : List Line) (i : ℕ) (line : Line) → i < length lines → line ≡ get_or lines i line
    → flat_map callees_in (take i lines) ++ callees_in line ≡ flat_map callees_in (take (i + 1) lines)
calls-more lines i line lt is =
    flat_map_more callees_in [] (take i lines) line
    ∙ ap (λ (l : Line). flat_map callees_in (take i lines ++ l ∷ [])) is
    ∙ ap (flat_map callees_in) (sym (take_more lines i line lt))

-- what holds of a result, where there is one
pub on-ok : {T E : Type 0} (r : Result T E) (P Q : Type 0) → (P → Q) → OnOk r P → OnOk r Q
on-ok (Ok t) P Q to p = to p
on-ok (Err e) P Q to p = tt
