-- The functions that the instructions of a code call are functions of the file.
use Rattle.std.proofs.Common.{◌≡◌, ◌∙◌, inl, inr, ℕ, zero, suc, ◌+◌, ◌<◌, ◌≤◌, ◌^◌, arith, List, [], ◌∷◌, ◌++◌, length}
use Rattle.std.proofs.Common.{Option}
use Rattle.std.proofs.Common.{Some, None, refl, sym, ap, subst, slice_get, get_or, take, true, false}
use Rattle.std.specs.Prelude.{◌↔◌, option_map}
use Rattle.std.specs.List.{Contains, IsAmong, flat_map, slice_index_or}
use Rattle.std.proofs.Math.ListN.{get_or-eq_default}
use Rattle.std.proofs.Math.Seq.{get_or-append_seam, take-suc}
use Rattle.std.proofs.lemmas.Bool.{cases_lt}
use Rattle.std.proofs.lemmas.Grind.{flat_map-append}
use Rattle.std.proofs.lemmas.List.{append-nil, get_or_append_left, length-append}
use Rattle.std.proofs.lemmas.List.Elements.{Contains-append_cases, Contains-append_left, Contains-append_right}
use Rattle.std.proofs.lemmas.List.Elements.{Contains-push}
use Rattle.std.proofs.lemmas.Option.{slice_get-get_or, slice_get_past}
use Rattle.pungi_base.specs.declared.pos.Pos.{Pos}
use Rattle.pungi_code.specs.declared.code.Code.{Code}
use Rattle.pungi_code.specs.declared.code.Codes.{Codes}
use Rattle.pungi_code.specs.declared.code.Line.{Line}
use Rattle.pungi_code.specs.declared.instr.Instr.{Instr}
use Rattle.pungi_code.specs.declared.instr.Instr.TheVariants.{Call}
use Rattle.pungi_code.specs.Frames.{flatten}
use Rattle.pungi_code.specs.Run.{code_at}
use Rattle.pungi_code.specs.WellFormed.{AreWellFormed, fits_call, is_sound_among, kinds_of}
use Rattle.pungi_meaning.specs.Run.{nowhere}
use Rattle.pungi_summary.specs.Calls.{IsCalled, Reaches, reaches_by, reaches_self}
use Rattle.pungi_inline.specs.FirstCall.{called_by}
use Rattle.pungi_shape.specs.Named.{callee_of, callees_in, callees_of, lines_of}
use Rattle.pungi_shape.specs.Reaching.{CalleesAreCalled}
use Rattle.pungi_verdict.specs.Across.{AreCallees}
use Rattle.pungi_verdict.proofs.Calls.{called-there, same-number}

-- ---- members of lists

pub among-of : {A : Type 0} (xs : List A) (x : A) → Contains xs x → IsAmong xs x
among-of xs x h = (h.0, (h.1, sym h.2))

pub contains-of : {A : Type 0} (xs : List A) (x : A) → IsAmong xs x → Contains xs x
contains-of xs x h = (h.0, h.1.0, sym h.1.1)

none-there : {A : Type 0} (x : A) → Contains [] x → ⊥
none-there x h = let lt = h.1 in absurd (omega (arith, lt))

-- ---- calls of lines

pub calls-it : (line : Line) (x : _) (g : ℕ) (as' : _) → line.instr ≡ Call x g as' → Contains (callees_in line) g
calls-it line x g as' is = subst (λ (i : Instr). Contains (callee_of i) g) (sym is) (Contains-push [] g)

called-place : (i : Instr) (g : ℕ) → Contains (callee_of i) g → (p : Pos) → called_by p i ≡ Some (p, g)
called-place (Call x f as') g h p =
    elim (Contains-append_cases [] (f ∷ []) g h) [
      | inl absent ↦ absurd (none-there g absent)
      | inr one ↦ ap (λ (n : ℕ). Some (p, n)) (only f g one)
    ]
  where
    only : (f g : ℕ) → Contains (f ∷ []) g → f ≡ g
    only f g h = first h.0 h.1 h.2
      where
        first : (k : ℕ) → k < length (f ∷ []) → slice_index_or (f ∷ []) k g ≡ g → f ≡ g
        first zero lt is = is
        first (suc k) lt is = absurd (omega (arith, lt))
called-place i g h p = absurd (none-there g h)

record CallingLine (lines : List Line) (g : ℕ) : Type 0 where
  place : ℕ
  line : Line
  is : slice_get lines place ≡ Some line
  calls : Contains (callees_in line) g

calling-line : (lines : List Line) (g : ℕ) → Contains (flat_map callees_in lines) g → CallingLine lines g
calling-line [] g h = absurd (none-there g h)
calling-line (l ∷ ls) g h = elim (Contains-append_cases (callees_in l) (flat_map callees_in ls) g h) [
  | inl here ↦ record { place = 0; line = l; is = refl; calls = here }
  | inr rest ↦
      let found = calling-line ls g rest in
      record { place = suc found.place; line = found.line; is = found.is; calls = found.calls }
]

-- ---- functions of the file

code-there : (codes : Codes) (f : ℕ) (code : Code) → code_at codes f ≡ Some code
    → slice_get codes.codes f ≡ Some (Some code)
code-there codes f code e = by (slice_get codes.codes f) refl e
  where
    by : (o : Option (Option Code)) → slice_get codes.codes f ≡ o → flatten o ≡ Some code
        → slice_get codes.codes f ≡ Some (Some code)
    by None is e = absurd (cc)
    by (Some o) is e = is ∙ ap (λ (x : Option Code). Some x) e

pub callees-below : (codes : Codes) → AreWellFormed codes → (o : Option Code) (f : ℕ) → code_at codes f ≡ o → (g : ℕ)
    → Contains (flat_map callees_in (lines_of o)) g → g < length codes.codes
callees-below codes formed None f is g h = absurd (none-there g h)
callees-below codes formed (Some code) f is g h =
    let found = calling-line code.instrs g h in
    let sound = (formed.each f code (code-there codes f code is)).sound found.place found.line found.is in
    called-there codes code found.line.pos found.line.pos found.line.instr g sound
    (called-place found.line.instr g found.calls found.line.pos)

pub few-functions : (codes : Codes) → AreWellFormed codes → (g : ℕ) → g < length codes.codes → g < 2 ^ 32
few-functions codes formed g lt = let few = formed.few in omega (arith, few, lt)

-- ---- lists of callees, one after the other

-- one line more
pub called-next : (lines : List Line) (i : ℕ) (line : Line) (old new : List ℕ) → i < length lines
    → line ≡ get_or lines i line
    → ((g : ℕ) → Contains old g ↔ Contains (flat_map callees_in (take i lines)) g)
    → ((g : ℕ) → Contains new g ↔ Contains (old ++ callees_in line) g)
    → (g : ℕ) → Contains new g ↔ Contains (flat_map callees_in (take (i + 1) lines)) g
called-next lines i line old new lt is before now g =
    let done = flat_map callees_in (take i lines) in
    let one : i + 1 ≡ suc i = omega arith in
    let more : flat_map callees_in (take (i + 1) lines) ≡ done ++ callees_in line =
    ap (flat_map callees_in) (ap (λ n. take n lines) one ∙ take-suc lines i line lt
    ∙ ap (λ (l : Line). take i lines ++ l ∷ []) (sym is))
    ∙ flat_map-append callees_in (take i lines) (line ∷ [])
    ∙ ap (λ (l : List ℕ). done ++ l) (append-nil (callees_in line)) in
    let over = subst (λ (l : List ℕ). Contains new g ↔ Contains l g) (sym more) in
    over (
      λ h. elim (Contains-append_cases old (callees_in line) g ((now g).0 h)) [
        | inl first ↦ Contains-append_left done (callees_in line) g ((before g).0 first)
        | inr last ↦ Contains-append_right done (callees_in line) g last
      ],
      λ h. (now g).1 (elim (Contains-append_cases done (callees_in line) g h) [
        | inl first ↦ Contains-append_left old (callees_in line) g ((before g).1 first)
        | inr last ↦ Contains-append_right old (callees_in line) g last
      ]),
    )

-- a line calls what all lines call
pub line-among : (lines : List Line) (i : ℕ) (line : Line) → i < length lines → line ≡ get_or lines i line → (g : ℕ)
    → Contains (callees_in line) g → Contains (flat_map callees_in lines) g
line-among [] i line lt is g h = absurd (omega (arith, lt))
line-among (l ∷ ls) zero line lt is g h =
    Contains-append_left (callees_in l) (flat_map callees_in ls) g
    (subst (λ (m : Line). Contains (callees_in m) g) is h)
line-among (l ∷ ls) (suc i) line lt is g h =
    Contains-append_right (callees_in l) (flat_map callees_in ls) g (line-among ls i line (omega (arith, lt)) is g h)

pub record AreCalleesBelow (codes : Codes) (lists : List (List ℕ)) (k : ℕ) : Type 0 where
  pub count : length lists ≡ k
  pub calls : (f g : ℕ) → f < k → Contains (slice_index_or lists f []) g ↔ IsAmong (callees_of codes f) g

pub callees-none : (codes : Codes) → AreCalleesBelow codes [] 0
callees-none codes = record { count = refl; calls = λ f g lt. absurd (omega (arith, lt)) }

pub callees-next : CalleesAreCalled → (codes : Codes) (lists : List (List ℕ)) (k : ℕ) (o : Option Code) (list : List ℕ)
    → AreCalleesBelow codes lists k → code_at codes k ≡ o
    → ((g : ℕ) → Contains list g ↔ Contains (flat_map callees_in (lines_of o)) g)
    → AreCalleesBelow codes (lists ++ list ∷ []) (k + 1)
callees-next law codes lists k o list below at are = record {
  count = let long = length-append lists (list ∷ []) in let same = below.count in omega (arith, long, same);
  calls = λ f g lt. elim (cases_lt f k) [
    | inl less ↦
        let old : get_or (lists ++ list ∷ []) f [] ≡ get_or lists f [] =
        get_or_append_left lists (list ∷ []) [] f (let same = below.count in omega (arith, less, same)) in
        subst (λ (l : List ℕ). Contains l g ↔ IsAmong (callees_of codes f) g) (sym old) (below.calls f g less)
    | inr ge ↦
        let here : f ≡ k = omega (arith, lt, ge) in
        subst (λ n. Contains (get_or (lists ++ list ∷ []) n []) g ↔ IsAmong (callees_of codes n) g) (sym here)
        (subst (λ (l : List ℕ). Contains l g ↔ IsAmong (callees_of codes k) g) (sym newest)
        (to, from))
  ];
}
  where
    newest : get_or (lists ++ list ∷ []) k [] ≡ list
    newest =
        subst (λ n. get_or (lists ++ list ∷ []) n [] ≡ list) below.count (get_or-append_seam lists list [] [])

    to : {g : ℕ} → Contains list g → IsAmong (callees_of codes k) g
    to {g} h =
        (law codes k g).1 (among-of _ g (subst (λ (x : Option Code). Contains (flat_map callees_in (lines_of x)) g)
        (sym at) ((are g).0 h)))

    from : {g : ℕ} → IsAmong (callees_of codes k) g → Contains list g
    from {g} h =
        (are g).1 (subst (λ (x : Option Code). Contains (flat_map callees_in (lines_of x)) g) at
        (contains-of _ g ((law codes k g).0 h)))

pub callees-all : CalleesAreCalled → (codes : Codes) (lists : List (List ℕ)) (k : ℕ) → length codes.codes ≤ k
    → k ≤ length codes.codes → AreCalleesBelow codes lists k → AreCallees codes lists
callees-all law codes lists k past within below = record {
  count = let same = below.count in omega (arith, same, past, within);
  calls = λ f g. elim (cases_lt f k) [
    | inl less ↦ below.calls f g less
    | inr ge ↦ (
      λ h. absurd (outside f ge g h),
      λ h. absurd (none-called f ge g h),
    )
  ];
}
  where
    outside : (f : ℕ) → k ≤ f → (g : ℕ) → Contains (slice_index_or lists f []) g → ⊥
    outside f ge g h =
        let past_it : get_or lists f [] ≡ [] = get_or-eq_default lists [] (let same = below.count in
        omega (arith, same, ge)) in
        none-there g (subst (λ (l : List ℕ). Contains l g) past_it h)

    none-called : (f : ℕ) → k ≤ f → (g : ℕ) → IsAmong (callees_of codes f) g → ⊥
    none-called f ge g h =
        let past_it : code_at codes f ≡ None =
        ap flatten (slice_get_past codes.codes f (omega (arith, past, ge))) in
        let called = contains-of _ g ((law codes f g).0 h) in
        none-there g (subst (λ (x : Option Code). Contains (flat_map callees_in (lines_of x)) g) past_it called)

-- the code of a function as a program reads it
pub read-code : (codes : Codes) (k : ℕ) (o : Option Code) (items : List (Option Code)) → items ≡ codes.codes
    → k < length items → o ≡ get_or items k o → code_at codes k ≡ o
read-code codes k o items same lt is =
    ap (λ (cs : List (Option Code)). flatten (slice_get cs k)) (sym same) ∙ ap flatten (slice_get-get_or items k o lt)
    ∙ sym is

-- ---- called functions have code

called-code : (codes : Codes) (code : Code) (i : Instr) (g : ℕ) → is_sound_among (kinds_of codes) code i ≡ true
    → Contains (callee_of i) g → (c : Code) × (code_at codes g ≡ Some c)
called-code codes code (Call x f as') g sound h =
    subst (λ n. (c : Code) × (code_at codes n ≡ Some c))
    (same-number (nowhere, f) (nowhere, g) (called-place (Call x f as') g h nowhere))
    (by (code_at codes f) refl sound)
  where
    by : (o : Option Code) → code_at codes f ≡ o
        → fits_call code.vars (option_map (λ (c : Code). (take c.params c.vars, c.result)) o) x as' ≡ true
        → (c : Code) × (code_at codes f ≡ Some c)
    by None is s = absurd (let bad : false ≡ true = s in cc)
    by (Some c) is s = (c, is)
called-code codes code i g sound h = absurd (none-there g h)

callee-has-code : (codes : Codes) → AreWellFormed codes → (o : Option Code) (f : ℕ) → code_at codes f ≡ o → (g : ℕ)
    → Contains (flat_map callees_in (lines_of o)) g → (c : Code) × (code_at codes g ≡ Some c)
callee-has-code codes formed None f is g h = absurd (none-there g h)
callee-has-code codes formed (Some code) f is g h =
    let found = calling-line code.instrs g h in
    let sound = (formed.each f code (code-there codes f code is)).sound found.place found.line found.is in
    called-code codes code found.line.instr g sound found.calls

pub reached-has-code : CalleesAreCalled → (codes : Codes) (ns : List (List ℕ)) → AreWellFormed codes
    → AreCallees codes ns → (f g : ℕ) → Reaches ns f g → (code : Code) → code_at codes f ≡ Some code
    → (c : Code) × (code_at codes g ≡ Some c)
reached-has-code law codes ns formed are _ _ (reaches_self f) code is = (code, is)
reached-has-code law codes ns formed are _ _ (reaches_by f g h called rest) code is =
    let lines = contains-of _ g ((law codes f g).0 ((are.calls f g).0 called)) in
    let next = callee-has-code codes formed (code_at codes f) f refl g lines in
    reached-has-code law codes ns formed are g h rest next.0 next.1

pub called-below : CalleesAreCalled → (codes : Codes) (ns : List (List ℕ)) → AreWellFormed codes → AreCallees codes ns
    → (f g : ℕ) → IsCalled ns f g → g < length codes.codes
called-below law codes ns formed are f g called =
    callees-below codes formed (code_at codes f) f refl g
    (contains-of _ g ((law codes f g).0 ((are.calls f g).0 called)))
