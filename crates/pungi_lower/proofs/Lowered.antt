-- The codes of a checked file: each function in which no rule holds is passed, and its code is well-formed.
use Rattle.std.proofs.Common.{◌≡◌, ℕ, zero, suc, ◌+◌, ◌≤◌, ◌^◌, ◌++◌, arith, length, true, false, List, []}
use Rattle.std.proofs.Common.{◌∷◌, Option, Some, None, map, option_map, take, slice_get, refl, sym, ap, subst, ◌∙◌}
use Rattle.std.proofs.lemmas.Option.{slice_get-map}
use Rattle.pungi_api.specs.declared.param.Param.{Param}
use Rattle.std.specs.Prelude.{is_some, if◌then◌else◌}
use Rattle.pungi_base.specs.declared.entry.Entry.{Entry}
use Rattle.pungi_base.specs.declared.names.Name.{Name}
use Rattle.pungi_api.specs.Rows.{are_rows}
use Rattle.pungi_types.specs.Files.{Definition, definitions, definition_in, AreOwn}
use Rattle.pungi_types.specs.Functions.{file_env, refusal}
use Rattle.pungi_types.specs.Nodes.{function_nodes}
use Rattle.pungi_types.specs.Refused.{CheckedFile, IsRefusedSet}
use Rattle.pungi_types.specs.Names.{Env, statics_in}
use Rattle.pungi_resolve.specs.Functions.{resolved, resolved_in}
use Rattle.pungi_resolved.specs.Functions.{ResolvedFunction}
use Rattle.pungi_types.specs.declared.finding.Finding.{Finding}
use Rattle.pungi_resolve.specs.Passed.{IsPassed}
use Rattle.pungi_resolve.specs.Resolutions.{resolution_of, resolutions, file_functions, IsResolved}
use Rattle.pungi_meaning.specs.Entries.{entry_fits}
use Rattle.pungi_code.specs.declared.atom.Atom.{Atom}
use Rattle.pungi_code.specs.declared.atom.Var.{Var}
use Rattle.pungi_code.specs.declared.code.Code.{Code}
use Rattle.pungi_code.specs.declared.code.Codes.{Codes}
use Rattle.pungi_code.specs.declared.instr.Instr.{Instr}
use Rattle.pungi_code.specs.declared.instr.Instr.TheVariants.{Set, Arith, Fit, Compare, Load, Store, Api, Call, Unset}
use Rattle.pungi_code.specs.declared.instr.Instr.TheVariants.{Jump, Branch, Return, Fall}
use Rattle.pungi_code.specs.Frames as code
use Rattle.pungi_code.specs.Frames.{code_numbered}
use Rattle.pungi_code.specs.WellFormed.{CallKinds, fits_call, is_sound_among, IsWellFormedAmong, AgreeOnKinds, kinds_of}
use Rattle.pungi_code.specs.WellFormed.{AreWellFormed, are_ordered, has_statics}
use Rattle.pungi_meaning.specs.Frames.{flatten, numbered}
use Rattle.pungi_layout.specs.code.Codes.{code_for}
use Rattle.pungi_layout.specs.alike.Correct.{IsSoundFunction, CallsThere, AreLaidOut}
use Rattle.pungi_lower.specs.Lowered.{codes_of, names_of, IsEachPassed, IsLowered, AreLoweredAmong}
use Rattle.pungi_lower.specs.Lowered.{AreLowered}
use Rattle.pungi_layout.specs.code.CallKinds.{held_kind, returned_kind}
use Rattle.pungi_layout.specs.code.Levels.{stmt_levels}
use Rattle.pungi_layout.specs.code.VarKinds.{kind_held, stmt_declared, temp_kinds, var_kinds}
use Rattle.pungi_layout.specs.code.FunctionCode.{code_of, function_kinds, callees_of, HasLocals}
use Rattle.pungi_layout.specs.kinds.Laws.{ReturnsWell}
use Rattle.pungi_layout.proofs.boundaries.Heads.{keeps_nothing}
use Rattle.pungi_layout.proofs.well_formed.Entries.{entries_alike, fit-count}
use Rattle.pungi_layout.proofs.well_formed.HeadOrder.{heads-ordered}
use Rattle.pungi_layout.proofs.whole_runs.Behaves.{laid_out}
use Rattle.pungi_lower.proofs.kinds.Functions.{function-locals, function-well-formed}
use Rattle.pungi_lower.proofs.sound.Sizes.{code-few}
use Rattle.pungi_lower.proofs.sound.Functions.{function-works, nodes-bounded}
use Rattle.pungi_lower.proofs.TypedLaws.{agree_if_passed}

-- ---- each function in which no rule holds is passed

own-at : (whole ds : List Definition) (i : ℕ) (d : Definition) → AreOwn whole ds → slice_get ds i ≡ Some d
    → definition_in whole d.name.0 ≡ Some d
own-at whole [] i d own e = absurd (cc)
own-at whole (x ∷ ds) zero d own e =
    let s : Some x ≡ Some d = e in
    let same : x ≡ d = cc in
    subst (λ (y : Definition). definition_in whole y.name.0 ≡ Some y) same own.0
own-at whole (x ∷ ds) (suc i) d own e = own-at whole ds i d own.1 e

pub passed-all : (c : CheckedFile) → AreOwn (definitions c.file.items) (definitions c.file.items)
    → IsRefusedSet c.file c.refused → IsEachPassed c
passed-all c own set = λ i d at none.
    record {
      outside = refl;
      own = own-at (definitions c.file.items) (definitions c.file.items) i d own at;
      others
          = set.holds;
      passed = none;
    }

-- ---- the function of a code

-- the definition of what a function of the file does
record Source (c : CheckedFile) (ds : List Definition) (i : ℕ) (f : ResolvedFunction) : Type 0 where
  pub d : Definition
  pub at : slice_get ds i ≡ Some d
  pub none : refusal c.file c.refused d ≡ None
  pub is : resolved c.file c.refused d ≡ f

none-where : (r : Option Finding) (g f : ResolvedFunction) → (if is_some r then None else Some g) ≡ Some f
    → (r ≡ None) × (g ≡ f)
none-where (Some x) g f e = absurd (cc)
none-where None g f e =
    let s : Some g ≡ Some f = e in
    let same : g ≡ f = cc in
    (refl, same)

source-at : (c : CheckedFile) (ds : List Definition) (i : ℕ) (f : ResolvedFunction)
    → slice_get (map (resolution_of c.file c.refused) ds) i ≡ Some (Some f) → Source c ds i f
source-at c [] i f e = absurd (cc)
source-at c (x ∷ ds) zero f e =
    let s : Some (resolution_of c.file c.refused x) ≡ Some (Some f) = e in
    let same : resolution_of c.file c.refused x ≡ Some f = cc in
    let h = none-where (refusal c.file c.refused x) (resolved c.file c.refused x) f same in
    record { d = x; at = refl; none = h.0; is = h.1 }
source-at c (x ∷ ds) (suc i) f e =
    let h = source-at c ds i f e in
    record { d = h.d; at = h.at; none = h.none; is = h.is }

-- what the function of a code does
record CodeSource (fs : List (Option ResolvedFunction)) (i : ℕ) (code : Code) : Type 0 where
  pub f : ResolvedFunction
  pub at : slice_get fs i ≡ Some (Some f)
  pub is : code_of f ≡ code

code-source : (fs : List (Option ResolvedFunction)) (i : ℕ) (code : Code)
    → slice_get (map code_for fs) i ≡ Some (Some code) → CodeSource fs i code
code-source [] i code e = absurd (cc)
code-source (None ∷ fs) zero code e = absurd (cc)
code-source (Some f ∷ fs) zero code e =
    let s : Some (Some (code_of f)) ≡ Some (Some code) = e in
    let same : code_of f ≡ code = cc in
    record { f = f; at = refl; is = same }
code-source (g ∷ fs) (suc i) code e =
    let h = code-source fs i code e in
    record { f = h.f; at = h.at; is = h.is }

-- ---- the codes

within-locals : (f : ResolvedFunction) → HasLocals f → (statics : ℕ) (entry : Entry)
    → entry_fits f.params statics entry ≡ true → length entry.args ≤ f.locals
within-locals f locals statics entry fits =
    let few = fit-count statics f.params entry fits in
    omega (arith, few, locals)

-- what the layout requires of each function
function-fits : (env : Env) (d : Definition) → IsPassed env d → IsSoundFunction (resolved_in env d) 65536
function-fits env d passed =
    let n = nodes-bounded env d passed in
    record {
      sound = function-works env d passed;
      locals = function-locals env d;
      nodes = omega (arith, n);
    }

-- ---- their kinds

front : (xs ys : List Param) (n : ℕ) → length xs ≡ n → take n (xs ++ ys) ≡ xs
front [] ys n e = subst (λ (m : ℕ). take m ys ≡ []) e refl
front (x ∷ xs) ys n e =
    subst (λ (m : ℕ). take m (x ∷ xs ++ ys) ≡ x ∷ xs) e (ap (λ (l : List Param). x ∷ l) (front xs ys (length xs) refl))

mapped : {A B : Type 0} (f : A → B) (xs : List A) → length (map f xs) ≡ length xs
mapped f [] = refl
mapped f (x ∷ xs) = ap suc (mapped f xs)

-- what the code of a function takes and gives
own-kinds : (f : ResolvedFunction) → (take (length f.params) (var_kinds f), returned_kind f.result) ≡ function_kinds f
own-kinds f =
    ap (λ (ps : List Param). (ps, returned_kind f.result)) (front (map held_kind f.params)
    (map kind_held (stmt_declared f.body) ++ temp_kinds (stmt_levels f.body)) (length f.params)
    (mapped held_kind f.params))

abbrev pub code-kinds : Code → List Param × Option Param
code-kinds c = (take c.params c.vars, c.result)

found-kinds : (o : Option (Option ResolvedFunction))
    → option_map function_kinds (flatten o) ≡ option_map code-kinds (code.flatten (option_map code_for o))
found-kinds None = refl
found-kinds (Some None) = refl
found-kinds (Some (Some f)) = ap Some (sym (own-kinds f))

pub kinds-alike : (fs : List (Option ResolvedFunction)) (n : ℕ)
    → callees_of fs n ≡ option_map code-kinds (code_numbered (map code_for fs) n)
kinds-alike fs n =
    found-kinds (slice_get fs n)
    ∙ ap (λ (o : Option (Option Code)). option_map code-kinds (code.flatten o)) (sym (slice_get-map code_for fs n))

-- codes of the same kinds stand around it
same-sound : (k l : ℕ → CallKinds) → ((n : ℕ) → k n ≡ l n) → (code : Code) (i : Instr)
    → is_sound_among k code i ≡ true → is_sound_among l code i ≡ true
same-sound k l same code (Call x f as') h =
    subst (λ (c : CallKinds). fits_call code.vars c x as' ≡ true) (same f) h
same-sound k l same code (Set x a) h = h
same-sound k l same code (Arith x kind o a b) h = h
same-sound k l same code (Fit x kind a) h = h
same-sound k l same code (Compare x c a b) h = h
same-sound k l same code (Load x place) h = h
same-sound k l same code (Store place a) h = h
same-sound k l same code (Api x g as') h = h
same-sound k l same code (Unset x) h = h
same-sound k l same code (Jump to) h = h
same-sound k l same code (Branch a this other) h = h
same-sound k l same code (Return None) h = h
same-sound k l same code (Return (Some a)) h = h
same-sound k l same code Fall h = h

among-same : (k l : ℕ → CallKinds) → ((n : ℕ) → k n ≡ l n) → (code : Code) → IsWellFormedAmong k code
    → IsWellFormedAmong l code
among-same k l same code h = record {
  params = h.params;
  among = h.among;
  locals = h.locals;
  vars = h.vars;
  few = h.few;
  kinds = h.kinds;
  sound = λ place line e. same-sound k l same code line.instr (h.sound place line e);
  last = h.last;
  back = h.back;
}

-- ---- they are well-formed

each-well-formed : (c : CheckedFile) → AreOwn (definitions c.file.items) (definitions c.file.items)
    → IsRefusedSet c.file c.refused → are_rows c.file.rows ≡ true
    → (i : ℕ) (code : Code) → slice_get (codes_of c) i ≡ Some (Some code)
    → IsWellFormedAmong (callees_of (resolutions c)) code
    × (ReturnsWell code × (has_statics (statics_in c.file.items) code ≡ true))
each-well-formed c own set rows = λ i code e.
    let k = code-source (resolutions c) i code e in
    let h = source-at c (definitions c.file.items) i k.f k.at in
    let passed = passed-all c own set i h.d h.at h.none in
    subst (λ (x : Code). IsWellFormedAmong (callees_of (resolutions c)) x
    × (ReturnsWell x × (has_statics (statics_in c.file.items) x ≡ true)))
    (ap code_of h.is ∙ k.is) (function-well-formed (file_env c.file c.refused h.d.name.0) h.d passed rows)

-- ---- each runs as its function does

-- a function that a well-formed code calls has code
coded : (vars : List Param) (x : Option Var) (as' : List Atom) (o : Option (Option ResolvedFunction))
    → fits_call vars (option_map function_kinds (flatten o)) x as' ≡ true
    → (b : Code) × (code.flatten (option_map code_for o) ≡ Some b)
coded vars x as' None h = absurd (let g : false ≡ true = h in cc)
coded vars x as' (Some None) h = absurd (let g : false ≡ true = h in cc)
coded vars x as' (Some (Some g)) h = (code_of g, refl)

calls-there : (rs : List (Option ResolvedFunction)) (b : Code) → IsWellFormedAmong (callees_of rs) b
    → CallsThere (map code_for rs) b.instrs
calls-there rs b h = λ place p x n as' at.
    let fits : fits_call b.vars (callees_of rs n) x as' ≡ true = h.sound place
    (record { pos = p; instr = Call x n as' }) at in
    let there = coded b.vars x as' (slice_get rs n) fits in
    (there.0, ap code.flatten (slice_get-map code_for rs n) ∙ there.1)

-- the function of a number
there-is : (o : Option (Option ResolvedFunction)) (f : ResolvedFunction) → flatten o ≡ Some f → o ≡ Some (Some f)
there-is None f e = absurd (cc)
there-is (Some o) f e = ap Some e

coded-is : (o : Option (Option Code)) (b : Code) → code.flatten o ≡ Some b → o ≡ Some (Some b)
coded-is None b e = absurd (cc)
coded-is (Some o) b e = ap Some e

-- functions that have those in which no rule holds at their places
abbrev pub Extends : CheckedFile → List (Option ResolvedFunction) → Type 0
Extends c fs = (n : ℕ) (f : ResolvedFunction) → numbered (resolutions c) n ≡ Some f → numbered fs n ≡ Some f

file-extends : (c : CheckedFile) → Extends c (file_functions c)
file-extends c n f e =
    let h = source-at c (definitions c.file.items) n f (there-is (slice_get (resolutions c) n) f e) in
    ap flatten (slice_get-map (λ (d : Definition). Some (resolved c.file c.refused d)) (definitions c.file.items) n
    ∙ ap (option_map (λ (d : Definition). Some (resolved c.file c.refused d))) h.at) ∙ ap Some h.is

laid-out : (c : CheckedFile) → AreOwn (definitions c.file.items) (definitions c.file.items)
    → IsRefusedSet c.file c.refused → are_rows c.file.rows ≡ true → (fs : List (Option ResolvedFunction))
    → Extends c fs → AreLaidOut fs (codes_of c) 65536
laid-out c own set rows fs more = λ n b e.
    let at : slice_get (codes_of c) n ≡ Some (Some b) = coded-is (slice_get (codes_of c) n) b e in
    let k = code-source (resolutions c) n b at in
    let h = source-at c (definitions c.file.items) n k.f k.at in
    let passed = passed-all c own set n h.d h.at h.none in
    record {
      function = k.f;
      there = more n k.f (ap flatten k.at);
      is = sym k.is;
      sound = subst (λ (g : ResolvedFunction). IsSoundFunction g 65536) h.is (function-fits
          (file_env c.file c.refused h.d.name.0) h.d passed);
      calls = calls-there (resolutions c) b (each-well-formed c own set rows n b at).0;
    }

lowered-one : (c : CheckedFile) (fs : List (Option ResolvedFunction)) (d : Definition)
    → AreLaidOut fs (codes_of c) 65536 → IsPassed (file_env c.file c.refused d.name.0) d
    → CallsThere (codes_of c) (code_of (resolved c.file c.refused d)).instrs
    → IsLowered fs (codes_of c) (resolved c.file c.refused d) (function_nodes d) (code_of (resolved c.file c.refused d))
lowered-one c fs d all passed calls =
    let env = file_env c.file c.refused d.name.0 in
    let f = resolved c.file c.refused d in
    record {
      alike = laid_out f fs (codes_of c) all (function-fits env d passed) calls;
      small = code-few env d;
      keeps = keeps_nothing f (function-works env d passed);
      fits = λ statics entry. entries_alike statics f.params (map kind_held (stmt_declared f.body)
          ++ temp_kinds (stmt_levels f.body)) entry;
      within = λ statics entry fits. within-locals f (function-locals env d) statics entry fits;
    }

lowered-among : (c : CheckedFile) → AreOwn (definitions c.file.items) (definitions c.file.items)
    → IsRefusedSet c.file c.refused → are_rows c.file.rows ≡ true → (fs : List (Option ResolvedFunction))
    → Extends c fs → AreLoweredAmong fs c (codes_of c)
lowered-among c own set rows fs more = λ i d b at e.
    let k = code-source (resolutions c) i b e in
    let h = source-at c (definitions c.file.items) i k.f k.at in
    let both : Some h.d ≡ Some d = sym h.at ∙ at in
    let same : h.d ≡ d = cc in
    let is : code_of (resolved c.file c.refused h.d) ≡ b = ap code_of h.is ∙ k.is in
    let calls = calls-there (resolutions c) b (each-well-formed c own set rows i b e).0 in
    let one = lowered-one c fs h.d (laid-out c own set rows fs more) (passed-all c own set i h.d h.at h.none)
    (subst (λ (x : Code). CallsThere (codes_of c) x.instrs) (sym is) calls) in
    subst (λ (x : Definition). IsLowered fs (codes_of c) (resolved c.file c.refused x)
    (function_nodes x) b) same (subst (λ (x : Code). IsLowered fs (codes_of c)
    (resolved c.file c.refused h.d) (function_nodes h.d) x) is one)

pub all-lowered : (c : CheckedFile) → AreOwn (definitions c.file.items) (definitions c.file.items)
    → IsRefusedSet c.file c.refused → are_rows c.file.rows ≡ true → AreLowered c (codes_of c)
all-lowered c own set rows = (
  lowered-among c own set rows (resolutions c) (λ n f e. e),
  lowered-among c own set rows (file_functions c) (file-extends c),
)

-- ---- they agree

all-agree : (c : CheckedFile) → AreOwn (definitions c.file.items) (definitions c.file.items)
    → IsRefusedSet c.file c.refused → are_rows c.file.rows ≡ true
    → (i j : ℕ) (a b : Code) → slice_get (codes_of c) i ≡ Some (Some a) → slice_get (codes_of c) j ≡ Some (Some b)
    → AgreeOnKinds a b
all-agree c own set rows = λ i j a b x y.
    let m = code-source (resolutions c) i a x in
    let n = code-source (resolutions c) j b y in
    let g = source-at c (definitions c.file.items) i m.f m.at in
    let h = source-at c (definitions c.file.items) j n.f n.at in
    let p = passed-all c own set i g.d g.at g.none in
    let q = passed-all c own set j h.d h.at h.none in
    let both : AgreeOnKinds (code_of m.f) (code_of n.f) = agree_if_passed m.f n.f
    (file_env c.file c.refused g.d.name.0) (file_env c.file c.refused h.d.name.0) g.d h.d refl p q rows rows
    (sym g.is) (sym h.is) in
    subst (λ (k : Code). AgreeOnKinds k b) m.is (subst (λ (k : Code). AgreeOnKinds (code_of m.f) k) n.is both)

all-ordered : (fs : List (Option ResolvedFunction)) (i : ℕ) (code : Code)
    → slice_get (map code_for fs) i ≡ Some (Some code) → are_ordered code.heads ≡ true
all-ordered fs i code e =
    let m = code-source fs i code e in
    subst (λ (k : Code). are_ordered k.heads ≡ true) m.is (heads-ordered m.f)

-- the codes of a file of which this is known, with the names of its functions
pub all-well-formed : (c : CheckedFile) (codes : Codes)
    → AreOwn (definitions c.file.items) (definitions c.file.items) → IsRefusedSet c.file c.refused
    → are_rows c.file.rows ≡ true
    → length (definitions c.file.items) ≤ 4096 → codes.codes ≡ codes_of c → codes.names ≡ names_of c
    → codes.statics ≡ statics_in c.file.items → codes.statics ≤ 2 ^ 30 + 24 → AreWellFormed codes
all-well-formed c codes own set rows few is names counted statics =
    let fs = resolutions c in
    let long : length (codes_of c) ≡ length (definitions c.file.items) =
    mapped code_for fs ∙ mapped (resolution_of c.file c.refused) (definitions c.file.items) in
    let named : length (names_of c) ≡ length (definitions c.file.items) = mapped (λ (d : Definition). d.name)
    (definitions c.file.items) in
    let kinds : (n : ℕ) → callees_of fs n ≡ kinds_of codes n = λ n. kinds-alike fs n
    ∙ ap (λ (cs : List (Option Code)). option_map code-kinds (code_numbered cs n)) (sym is) in
    let there : (f : ℕ) (code : Code) → slice_get codes.codes f ≡ Some (Some code)
    → slice_get (codes_of c) f ≡ Some (Some code) = λ f code e. ap (λ (cs : List (Option Code)). slice_get cs f)
    (sym is) ∙ e in
    record {
      each = λ f code e. among-same (callees_of fs) (kinds_of codes) kinds code
          (each-well-formed c own set rows f code (there f code e)).0;
      returns = λ f code place line e x. (each-well-formed c own set rows f code (there f code e)).1.0 place line x;
      kinds = λ f g a b x y. all-agree c own set rows f g a b (there f a x) (there g b y);
      there = λ f code e. subst (λ (n : ℕ). has_statics n code ≡ true) (sym counted)
          (each-well-formed c own set rows f code (there f code e)).1.1;
      ordered = λ f code e. all-ordered (resolutions c) f code (there f code e);
      names = ap (λ (ns : List Name). length ns) names ∙ named ∙ sym long
          ∙ ap (λ (cs : List (Option Code)). length cs) (sym is);
      few = subst (λ (n : ℕ). n ≤ 4096) (sym long ∙ ap (λ (cs : List (Option Code)). length cs) (sym is)) few;
      statics = statics;
    }

-- ---- the same of what the program makes

same-codes : (c : CheckedFile) (fs : List (Option ResolvedFunction)) → IsResolved c fs → map code_for fs ≡ codes_of c
same-codes c fs is = ap (λ (rs : List (Option ResolvedFunction)). map code_for rs) is.are

pub made-lowered : (c : CheckedFile) (fs : List (Option ResolvedFunction)) (codes : List (Option Code))
    → codes ≡ map code_for fs → IsResolved c fs → AreLowered c codes
made-lowered c fs codes made is =
    subst (λ (cs : List (Option Code)). AreLowered c cs) (sym (made ∙ same-codes c fs is))
    (all-lowered c is.own is.set is.rows)

pub made-well-formed : (c : CheckedFile) (fs : List (Option ResolvedFunction)) (codes : Codes)
    → codes.codes ≡ map code_for fs → IsResolved c fs → codes.names ≡ names_of c
    → codes.statics ≡ statics_in c.file.items → codes.statics ≤ 2 ^ 30 + 24 → AreWellFormed codes
made-well-formed c fs codes made is names counted statics =
    all-well-formed c codes is.own is.set is.rows is.few (made ∙ same-codes c fs is) names counted statics
