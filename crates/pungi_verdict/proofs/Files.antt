-- The functions of a file, their codes, and the verdicts on them one after another.
use Rattle.std.proofs.Common.{◌≡◌, ℕ, zero, suc, ◌+◌, ◌<◌, ◌≤◌, ◌^◌, true, arith, List, [], ◌∷◌, ◌++◌}
use Rattle.std.proofs.Common.{length, get_or}
use Rattle.std.proofs.Common.{drop, map, option_map, slice_get, Option, Some, None, refl, sym, ap, ◌∙◌, subst}
use Rattle.std.proofs.Common.{append_assoc, drop-cons}
use Rattle.std.specs.Prelude.{is_some, if◌then◌else◌, IfOk, Result, Ok, Err}
use Rattle.std.specs.List.{AllZip, list_all}
use Rattle.std.proofs.lemmas.List.{append-nil, drop_all}
use Rattle.std.proofs.lemmas.Option.{slice_get-map, slice_get-get_or, get_or_from_slice_get}
use Rattle.pungi_base.specs.declared.entry.Entry.{Entry}
use Rattle.pungi_base.specs.declared.names.Name.{Name}
use Rattle.pungi_base.specs.declared.pos.Pos.{Pos}
use Rattle.pungi_base.specs.declared.verdict.Verdict.{Verdict}
use Rattle.pungi_base.specs.declared.verdict.Verdict.TheVariants as verdict
use Rattle.pungi_api.specs.Terms.{immortal_count}
use Rattle.pungi_api.specs.declared.terms.Terms.{Terms}
use Rattle.pungi_check.specs.Found.{checked_view, is_sound_function, IsChecked}
use Rattle.pungi_check.specs.declared.checked.Checked.{Checked}
use Rattle.pungi_types.specs.declared.finding.Finding.{Finding}
use Rattle.pungi_types.specs.Files.{Definition, definitions}
use Rattle.pungi_types.specs.Functions.{refusal}
use Rattle.pungi_types.specs.Nodes.{function_nodes}
use Rattle.pungi_resolve.specs.Functions.{resolved}
use Rattle.pungi_resolve.specs.Sound.{is_sound_action}
use Rattle.pungi_resolved.specs.Functions.{ResolvedFunction}
use Rattle.pungi_resolved.specs.ActionView.{function_view}
use Rattle.pungi_resolved.specs.declared.function.Function.{Function}
use Rattle.pungi_resolve.specs.Resolutions.{resolution_of, resolutions, file_functions, resolution_view}
use Rattle.pungi_resolve.specs.Resolutions.{IsResolved}
use Rattle.pungi_types.specs.Refused.{CheckedFile}
use Rattle.pungi_code.specs.declared.code.Code.{Code}
use Rattle.pungi_code.specs.declared.code.Codes.{Codes}
use Rattle.pungi_code.specs.Frames.{flatten}
use Rattle.pungi_code.specs.Run.{code_at}
use Rattle.pungi_code.specs.Entries.{code_fits}
use Rattle.pungi_code.specs.WellFormed.{kinds_of}
use Rattle.pungi_layout.specs.code.Codes.{code_for}
use Rattle.pungi_layout.specs.code.FunctionCode.{code_of}
use Rattle.pungi_lower.specs.Lowered.{codes_of, names_of, IsLowered, AreLoweredAmong}
use Rattle.pungi_idle.specs.IdleCode.{idle}
use Rattle.pungi_inline.specs.FirstCall.{first_call}
use Rattle.pungi_inline.specs.Inlined.{inlined}
use Rattle.pungi_inline.specs.Laws.{IsFormed}
use Rattle.pungi_meaning.specs.Entries.{entry_fits}
use Rattle.pungi_verdict.specs.Replays.{IsGiven}
use Rattle.pungi_verdict.specs.Causes.{file_codes, IsDecidedAt, IsDecidedBy, IsCausedByCopies}
use Rattle.pungi_verdict.specs.Refusals.{IsRefusedAt}
use Rattle.pungi_verdict.specs.Sound.{statics_of, IsTrueOf}
use Rattle.pungi_verdict.specs.Verdicts.{IsJudgedByCopies}
use Rattle.pungi_verdict.proofs.Forms.{and-left, and-right, judged}
use Rattle.pungi_verdict.proofs.Meaning.{has-meaning}

-- ---- the function and the code of a place

pub same-some : {A : Type 0} (x y : A) → Some x ≡ Some y → x ≡ y
same-some x y e = cc

-- what a function does in which no rule holds
resolution-is : (c : CheckedFile) (d : Definition) → refusal c.file c.refused d ≡ None
    → resolution_of c.file c.refused d ≡ Some (resolved c.file c.refused d)
resolution-is c d none =
    ap (λ (o : Option Finding). if is_some o then None else Some (resolved c.file c.refused d)) none

mapped-at : {A B : Type 0} (g : A → B) (xs : List A) (i : ℕ) (x : A) → slice_get xs i ≡ Some x
    → slice_get (map g xs) i ≡ Some (g x)
mapped-at g xs i x e = slice_get-map g xs i ∙ ap (option_map g) e

-- the function that is resolved at a place
pub function-is : (c : CheckedFile) (fs : List (Option Function)) (i : ℕ) (d : Definition) (o : Option Function)
    → map resolution_view fs ≡ resolutions c
    → slice_get fs i ≡ Some o → slice_get (definitions c.file.items) i ≡ Some d → refusal c.file c.refused d ≡ None
    → resolution_view o ≡ Some (resolved c.file c.refused d)
function-is c fs i d o same at is none =
    let left : slice_get (map resolution_view fs) i ≡ Some (resolution_view o) = mapped-at resolution_view fs i o at in
    let right : slice_get (resolutions c) i
    ≡ Some (resolution_of c.file c.refused d) =
    mapped-at (resolution_of c.file c.refused) (definitions c.file.items) i d is in
    let both : Some (resolution_view o) ≡ Some (resolution_of c.file c.refused d) = sym left
    ∙ ap (λ (l : List (Option ResolvedFunction)). slice_get l i) same ∙ right in
    same-some (resolution_view o) (resolution_of c.file c.refused d) both ∙ resolution-is c d none

-- the function of a place in which no rule holds
pub resolution-at : (c : CheckedFile) (i : ℕ) (d : Definition) → slice_get (definitions c.file.items) i ≡ Some d
    → refusal c.file c.refused d ≡ None → slice_get (resolutions c) i ≡ Some (Some (resolved c.file c.refused d))
resolution-at c i d at none =
    mapped-at (resolution_of c.file c.refused) (definitions c.file.items) i d at
    ∙ ap (λ (o : Option ResolvedFunction). Some o) (resolution-is c d none)

-- an element as a program reads it
pub at-index : {A : Type 0} (xs : List A) (i : ℕ) (x : A) → i < length xs → x ≡ get_or xs i x → slice_get xs i ≡ Some x
at-index {A = A} xs i x lt is = slice_get-get_or xs i x lt ∙ ap (λ (y : A). Some y) (sym is)

mapped-long : {A B : Type 0} (g : A → B) (xs : List A) → length (map g xs) ≡ length xs
mapped-long g [] = refl
mapped-long g (x ∷ xs) = ap suc (mapped-long g xs)

pub functions-long : (c : CheckedFile) (fs : List (Option Function))
    → map resolution_view fs ≡ resolutions c
    → length fs ≡ length (definitions c.file.items)
functions-long c fs same =
    sym (mapped-long resolution_view fs) ∙ ap (λ (l : List (Option ResolvedFunction)). length l) same
    ∙ mapped-long (resolution_of c.file c.refused) (definitions c.file.items)

pub codes-long : (c : CheckedFile) (codes : Codes) → codes ≡ file_codes c
    → length codes.codes ≡ length (definitions c.file.items)
codes-long c codes same =
    ap (λ (cs : Codes). length cs.codes) same
    ∙ mapped-long code_for (resolutions c)
    ∙ mapped-long (resolution_of c.file c.refused) (definitions c.file.items)

-- a function in which no rule holds is resolved
pub function-there : (c : CheckedFile) (fs : List (Option Function)) (i : ℕ) (d : Definition) (f : Function)
    → map resolution_view fs ≡ resolutions c
    → slice_get fs i ≡ Some (Some f) → slice_get (definitions c.file.items) i ≡ Some d
    → refusal c.file c.refused d ≡ None → function_view f ≡ resolved c.file c.refused d
function-there c fs i d f same at is none =
    same-some (function_view f) (resolved c.file c.refused d) (function-is c fs i d (Some f) same at is none)

pub none-there : (c : CheckedFile) (fs : List (Option Function)) (i : ℕ) (d : Definition)
    → map resolution_view fs ≡ resolutions c
    → slice_get fs i ≡ Some None → slice_get (definitions c.file.items) i ≡ Some d
    → refusal c.file c.refused d ≡ None → ⊥
none-there c fs i d same at is none =
    let no : None ≡ Some (resolved c.file c.refused d) = function-is c fs i d None same at is none in
    absurd (cc)

-- each word and operator of the function at a place has a meaning
pub sound-among : (fs : List (Option ResolvedFunction)) (i : ℕ) (f : ResolvedFunction)
    → list_all is_sound_function fs ≡ true → slice_get fs i ≡ Some (Some f) → is_sound_action f.body ≡ true
sound-among [] i f all at = absurd (cc)
sound-among (o ∷ fs) zero f all at =
    let first : is_sound_function o ≡ true = and-left (is_sound_function o) (list_all is_sound_function fs) all in
    subst (λ (x : Option ResolvedFunction). is_sound_function x ≡ true) (same-some o (Some f) at) first
sound-among (o ∷ fs) (suc i) f all at =
    sound-among fs i f (and-right (is_sound_function o) (list_all is_sound_function fs) all) at

pub sound-there : (fs : List (Option Function)) (i : ℕ) (f : Function)
    → list_all is_sound_function (map resolution_view fs) ≡ true → slice_get fs i ≡ Some (Some f)
    → is_sound_action (function_view f).body ≡ true
sound-there fs i f all at =
    sound-among (map resolution_view fs) i (function_view f) all (mapped-at resolution_view fs i (Some f) at)

-- the code of a place
pub code-here : (c : CheckedFile) (i : ℕ) (d : Definition) → slice_get (definitions c.file.items) i ≡ Some d
    → refusal c.file c.refused d ≡ None
    → slice_get (codes_of c) i ≡ Some (code_for (Some (resolved c.file c.refused d)))
code-here c i d is none =
    let first : slice_get (resolutions c) i
    ≡ Some (Some (resolved c.file c.refused d)) =
    mapped-at (resolution_of c.file c.refused) (definitions c.file.items) i d is
    ∙ ap (λ (o : Option ResolvedFunction). Some o) (resolution-is c d none) in
    mapped-at code_for (resolutions c) i
    (Some (resolved c.file c.refused d)) first

pub code-there : (c : CheckedFile) (codes : Codes) (i : ℕ) (d : Definition) (f : ResolvedFunction)
    → codes ≡ file_codes c → slice_get (definitions c.file.items) i ≡ Some d → refusal c.file c.refused d ≡ None
    → f ≡ resolved c.file c.refused d → code_at codes i ≡ Some (code_of f)
code-there c codes i d f same at none is =
    ap (λ (cs : Codes). code_at cs i) same ∙ ap flatten (code-here c i d at none)
    ∙ ap (λ (g : ResolvedFunction). Some (code_of g)) (sym is)

-- .. as a program reads it
code-within : (cs : List (Option Code)) (i : ℕ) (code : Code) → flatten (slice_get cs i) ≡ Some code → i < length cs
code-within [] i code e = absurd (cc)
code-within (c ∷ cs) zero code e = omega arith
code-within (c ∷ cs) (suc i) code e = let rest = code-within cs i code e in omega (arith, rest)

pub code-read : (codes : Codes) (i : ℕ) (code : Code) (listed : List (Option Code)) (o : Option Code)
    → listed ≡ codes.codes → code_at codes i ≡ Some code → o ≡ get_or listed i o → o ≡ Some code
code-read codes i code listed o same there is =
    let at : slice_get codes.codes i ≡ Some o = at-index codes.codes i o (code-within codes.codes i code there)
    (is ∙ ap (λ (l : List (Option Code)). get_or l i o) same) in sym (ap flatten at) ∙ there

pub joined-is : (o : Option (Option Code)) (code : Code) → flatten o ≡ Some code → o ≡ Some (Some code)
joined-is None code e = absurd (cc)
joined-is (Some o) code e = ap (λ (x : Option Code). Some x) e

-- ---- what is known of a function and its code

pub lowered-there : (fs : List (Option ResolvedFunction)) (c : CheckedFile) (codes : Codes) (i : ℕ) (d : Definition)
    (f : ResolvedFunction) → AreLoweredAmong fs c codes.codes → slice_get (definitions c.file.items) i ≡ Some d
    → f ≡ resolved c.file c.refused d → (code : Code) → code_at codes i ≡ Some code
    → IsLowered fs codes.codes f (function_nodes d) code
lowered-there fs c codes i d f lowered at is code e =
    let there : slice_get codes.codes i ≡ Some (Some code) = joined-is (slice_get codes.codes i) code e in
    subst (λ (g : ResolvedFunction). IsLowered fs codes.codes g (function_nodes d) code) (sym is)
    (lowered i d code at there)

-- what is known of the code of a function with copies of the codes that it calls
pub given : (codes : Codes) (f : ResolvedFunction) (code : Code) → code.terms ≡ f.terms
    → ((entry : Entry) → code_fits codes.statics code entry ≡ entry_fits f.params codes.statics entry)
    → IsFormed codes code → is_sound_action f.body ≡ true → codes.statics ≤ 2 ^ 30 + 24
    → immortal_count code.terms.profile ≤ codes.statics
    → IsGiven codes.statics f (inlined codes.codes code)
given codes f code same fits formed words few immortals = record {
  meant = has-meaning codes.statics f (inlined codes.codes code) (λ entry. formed.fits entry ∙ fits entry)
      (judged (kinds_of codes) codes.statics (inlined codes.codes code) formed.among formed.there) words few;
  terms = formed.terms ∙ same;
  fits = λ entry. formed.fits entry ∙ fits entry;
  callees = kinds_of codes;
  formed = formed.among;
  there = formed.there;
  immortals = subst (λ (t : Terms). immortal_count t.profile ≤ codes.statics) (sym formed.terms) immortals;
}

-- ---- verdicts

-- what is decided is not refused
decided-not-refused : (codes : Codes) (place : ℕ) (names : List Name) (code : Code) (v : Verdict)
    (o : Option (Pos × ℕ)) → IsDecidedBy codes place names code v o → IsRefusedAt None v
decided-not-refused codes place names code verdict.Clean o h = tt
decided-not-refused codes place names code (verdict.Faulty fault) o h = tt
decided-not-refused codes place names code (verdict.Unknown because) o h = tt
decided-not-refused codes place names code (verdict.Refused at rule) None h = absurd h
decided-not-refused codes place names code (verdict.Refused at rule) (Some call) h = absurd h

pub decided-stands : (codes : Codes) (place : ℕ) (names : List Name) (code : Code) (v : Verdict)
    → IsDecidedBy codes place names code v (first_call code.instrs) → IsRefusedAt None v
decided-stands codes place names code v h =
    decided-not-refused codes place names code v (first_call code.instrs) h

pub ok-stands : {E : Type 0} (codes : Codes) (place : ℕ) (names : List Name) (code : Code)
    → (r : Result Verdict E) → IfOk r (λ v. IsDecidedBy codes place names code v (first_call code.instrs))
    → IfOk r (λ v. IsRefusedAt None v)
ok-stands codes place names code (Ok v) h = decided-stands codes place names code v h
ok-stands codes place names code (Err e) h = tt

-- a verdict that is decided by a code comes for its cause
pub ok-caused : {E : Type 0} (codes : Codes) (place : ℕ) (names : List Name) (n : ℕ) (code : Code)
    → code_at codes place ≡ Some (idle code) → codes.statics ≡ n
    → (r : Result Verdict E) → IfOk r (λ v. IsDecidedBy codes place names code v (first_call code.instrs))
    → IfOk r (λ v. IsDecidedAt names n code v)
ok-caused codes place names n code is same (Ok v) h =
    record { codes = codes; place = place; is = is; statics = same; decided = h }
ok-caused codes place names n code is same (Err e) h = tt

-- the verdict on a function of codes comes for its cause
abbrev pub IsCausedAt : Codes → ResolvedFunction → Verdict → Type 0
IsCausedAt codes f v = IsDecidedAt codes.names codes.statics (inlined codes.codes (code_of f)) v

pub judged-verdict : (c : CheckedFile) (codes : Codes) (d : Definition) (f : ResolvedFunction) (v : Verdict)
    → codes ≡ file_codes c → refusal c.file c.refused d ≡ None → f ≡ resolved c.file c.refused d
    → IsTrueOf (file_functions c) codes.statics f v
    → IsRefusedAt None v → IsCausedAt codes f v → IsJudgedByCopies c d (d.name, v)
judged-verdict c codes d f v same none is true_of refused caused =
    let g = resolved c.file c.refused d in
    let n = statics_of c in
    let fs = file_functions c in
    let in_file : IsTrueOf fs n f v = subst (λ (cs : Codes). IsTrueOf fs cs.statics f v) same true_of in
    let sound : IsTrueOf fs n g v = subst (λ (x : ResolvedFunction). IsTrueOf fs n x v) is in_file in
    let by_codes : IsCausedAt (file_codes c) f v = subst (λ (cs : Codes). IsCausedAt cs f v) same caused in
    let in_it : IsCausedByCopies c d None v =
    subst (λ (x : ResolvedFunction). IsCausedAt (file_codes c) x v) is by_codes in
    record {
      sound = (refl, sound);
      refused = subst (λ (o : Option Finding). IsRefusedAt o v) (sym none) refused;
      caused = subst (λ (o : Option Finding). IsCausedByCopies c d o v) (sym none) in_it;
    }

-- the finding of the function at a place
pub finding-here : (c : CheckedFile) (fs : List (Option Finding)) (i : ℕ) (o : Option Finding)
    → fs ≡ map (refusal c.file c.refused) (definitions c.file.items) → i < length (definitions c.file.items)
    → o ≡ get_or fs i o → (d : Definition) → slice_get (definitions c.file.items) i ≡ Some d
    → refusal c.file c.refused d ≡ o
finding-here c fs i o same lt is d at =
    let long : length fs ≡ length (definitions c.file.items) = ap (λ (l : List (Option Finding)). length l) same
    ∙ mapped-long (refusal c.file c.refused) (definitions c.file.items) in
    let here : slice_get fs i ≡ Some o = at-index fs i o (omega (arith, long, lt)) is in
    let there : slice_get (map (refusal c.file c.refused) (definitions c.file.items)) i
    ≡ Some (refusal c.file c.refused d) =
    mapped-at (refusal c.file c.refused) (definitions c.file.items) i d at in
    same-some (refusal c.file c.refused d) o (sym there
    ∙ ap (λ (l : List (Option Finding)). slice_get l i) (sym same) ∙ here)

pub refused-verdict : (c : CheckedFile) (e : Finding) (d : Definition) → refusal c.file c.refused d ≡ Some e
    → IsJudgedByCopies c d (d.name, verdict.Refused e.pos e.rule)
refused-verdict c e d found = record {
  sound = (refl, tt);
  refused = subst (λ (o : Option Finding). IsRefusedAt o (verdict.Refused e.pos e.rule)) (sym found) refl;
  caused = subst (λ (o : Option Finding). IsCausedByCopies c d o (verdict.Refused e.pos e.rule)) (sym found) tt;
}

-- the definition at a place
pub defined-at : (ds : List Definition) (i : ℕ) → i < length ds → (d : Definition) × (slice_get ds i ≡ Some d)
defined-at [] i lt = absurd (omega (arith, lt))
defined-at (d ∷ ds) zero lt = (d, refl)
defined-at (d ∷ ds) (suc i) lt = defined-at ds i (omega (arith, lt))

pub same-at : (ds : List Definition) (i : ℕ) (d e : Definition) → slice_get ds i ≡ Some d → slice_get ds i ≡ Some e
    → d ≡ e
same-at ds i d e x y = same-some d e (sym x ∙ y)

-- ---- the functions of a file in order

pub judged-all : (c : CheckedFile) (i : ℕ) (lines : List (Name × Verdict)) → length (definitions c.file.items) ≤ i
    → ((more : List (Name × Verdict)) → AllZip (IsJudgedByCopies c) (drop i (definitions c.file.items)) more
    → AllZip (IsJudgedByCopies c) (definitions c.file.items) (lines ++ more))
    → AllZip (IsJudgedByCopies c) (definitions c.file.items) lines
judged-all c i lines past so_far =
    let none : drop i (definitions c.file.items) ≡ [] = drop_all i (definitions c.file.items) past in
    subst (λ (l : List (Name × Verdict)). AllZip (IsJudgedByCopies c) (definitions c.file.items) l) (append-nil lines)
    (so_far [] (subst (λ (l : List Definition). AllZip (IsJudgedByCopies c) l []) (sym none) tt))

-- what is left from a place on begins with what stands there
left-from : (ds : List Definition) (i : ℕ) (d : Definition) → i < length ds → slice_get ds i ≡ Some d
    → drop i ds ≡ d ∷ drop (i + 1) ds
left-from ds i d lt at =
    let is : get_or ds i d ≡ d = get_or_from_slice_get ds i d d at in
    grind (arith, drop-cons ds i d)

-- the name at a place is that of the function there
pub name-is : (ds : List Definition) (names : List Name) (i : ℕ) (n : Name) (d : Definition)
    → names ≡ map (λ (e : Definition). e.name) ds → slice_get names i ≡ Some n
    → slice_get ds i ≡ Some d → n ≡ d.name
name-is ds names i n d same here at =
    let there : slice_get (map (λ (e : Definition). e.name) ds) i
    ≡ Some d.name = mapped-at (λ (e : Definition). e.name) ds i d at in
    same-some n d.name (sym here ∙ ap (λ (ns : List Name). slice_get ns i) same ∙ there)

-- the name that a program reads at a place
pub name-read : (names : List Name) (i : ℕ) (n : Name) → i < length names → slice_get names i ≡ Some (get_or names i n)
name-read names i n lt = slice_get-get_or names i n lt

pub names-long : (ds : List Definition) (names : List Name) → names ≡ map (λ (d : Definition). d.name) ds
    → length names ≡ length ds
names-long ds names same = ap (λ (ns : List Name). length ns) same ∙ mapped-long (λ (d : Definition). d.name) ds

pub judged-next : (c : CheckedFile) (names : List Name) (i : ℕ) (n : Name) (v : Verdict)
    (lines more : List (Name × Verdict)) → names ≡ map (λ (d : Definition). d.name) (definitions c.file.items)
    → i < length names → slice_get names i ≡ Some n
    → ((d : Definition) → slice_get (definitions c.file.items) i ≡ Some d → IsJudgedByCopies c d (d.name, v))
    → ((more : List (Name × Verdict)) → AllZip (IsJudgedByCopies c) (drop i (definitions c.file.items)) more
    → AllZip (IsJudgedByCopies c) (definitions c.file.items) (lines ++ more))
    → AllZip (IsJudgedByCopies c) (drop (i + 1) (definitions c.file.items)) more
    → AllZip (IsJudgedByCopies c) (definitions c.file.items) ((lines ++ (n, v) ∷ []) ++ more)
judged-next c names i n v lines more same lt here right so_far rest =
    let long = names-long (definitions c.file.items) names same in
    let inside : i < length (definitions c.file.items) = omega (arith, long, lt) in
    let d = defined-at (definitions c.file.items) i inside in
    let named : n ≡ d.0.name = name-is (definitions c.file.items) names i n d.0 same here d.1 in
    subst (λ (l : List (Name × Verdict)). AllZip (IsJudgedByCopies c) (definitions c.file.items) l)
    (sym (append_assoc lines ((n, v) ∷ []) more))
    (so_far ((n, v) ∷ more) (subst (λ (l : List Definition). AllZip (IsJudgedByCopies c) l ((n, v) ∷ more))
    (sym (left-from (definitions c.file.items) i d.0 inside d.1))
    (subst (λ (m : Name). IsJudgedByCopies c d.0 (m, v)) (sym named) (right d.0 d.1), rest)))

-- ---- codes

pub resolved-of : (x : Checked) → IsChecked x → IsResolved (checked_view x) (map resolution_view x.resolved.items)
resolved-of x h = record { are = h.resolved_are; own = h.own; set = h.set; rows = h.rows; few = h.few }

pub same-codes : (k : Codes) (c : CheckedFile) → k.codes ≡ codes_of c → k.names ≡ names_of c
    → k.statics ≡ statics_of c → k ≡ file_codes c
same-codes k c a b d =
    ap (λ (cs : List (Option Code)). record k { codes = cs }) a
    ∙ ap (λ (ns : List Name). record (file_codes c) { names = ns; statics = k.statics }) b
    ∙ ap (λ (n : ℕ). record (file_codes c) { statics = n }) d
