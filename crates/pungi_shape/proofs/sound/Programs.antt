-- What sets that the program of a code keeps say of its places and exit classes.
--   holds_of codes f ps at  a place is found, and each vector that has these coordinates at it is in its set
--   leaves_of codes f exits an exit class is found, and so it is with the vectors at it, by its number among them
--   IsCallEdge              what an edge is by which a function is called
--   Surroundings            the codes among which a code runs, the kinds of the functions that it may call, and what
--                           these leave
--   claim_of                what is claimed by the sets of a program in a run that begins so
--   IsLeftBy                a vector of another function's exit class is one that the program is told of
use Rattle.std.proofs.Common.{◌≡◌, ◌⊎◌, inl, inr, ℕ, zero, suc, ◌+◌, ◌<◌, ◌≤◌, true, false, cond, Bool, List, [], ◌∷◌}
use Rattle.std.proofs.Common.{length, map, get_or, refl, sym, ap, ◌∙◌, subst, arith, pos, Option, Some, None}
use Rattle.std.proofs.Common.{slice_index_or}
use Rattle.std.specs.Prelude.{◌==◌, ◌&&◌, slice_get}
use Rattle.std.specs.List.{All, IsAmong, count_by, enumerate_from, flat_map, range_with_len}
use Rattle.std.specs.declared.cmp.Ordering.TheVariants.{Less}
use Rattle.std.proofs.lemmas.List.{length-map, get_or-map}
use Rattle.std.proofs.lemmas.List.Elements.{All-map, All-nil, All-weaker}
use Rattle.std.proofs.lemmas.List.FromFn.{length-range_with_len, get_or-range_with_len, length-enumerate_from}
use Rattle.std.proofs.lemmas.List.FromFn.{get_or-enumerate_from}
use Rattle.std.proofs.lemmas.List.Sums.{sum_by-cons}
use Rattle.pungi_domain.specs.Annotations.{MeetsAll, Sends, set_to, IsKept, IsInductive, IsSafe}
use Rattle.pungi_domain.specs.Programs.{width_to}
use Rattle.pungi_domain.specs.Vectors.{Vector, Vectors, dot}
use Rattle.pungi_domain.specs.declared.affine_edge.AffineEdge.{AffineEdge}
use Rattle.pungi_domain.specs.declared.affine_program.AffineProgram.{AffineProgram}
use Rattle.pungi_domain.specs.declared.equation.Equation.{Equation}
use Rattle.pungi_code.specs.declared.atom.Atom.{Atom}
use Rattle.pungi_code.specs.declared.atom.Var.{Var}
use Rattle.pungi_code.specs.declared.code.Code.{Code}
use Rattle.pungi_code.specs.declared.code.Codes.{Codes}
use Rattle.pungi_code.specs.declared.code.Line.{Line}
use Rattle.pungi_code.specs.declared.instr.Instr.{Instr}
use Rattle.pungi_code.specs.declared.instr.Instr.TheVariants.{Call}
use Rattle.pungi_code.specs.Run.{code_at}
use Rattle.pungi_code.specs.WellFormed.{CallKinds}
use Rattle.pungi_shape.specs.declared.point.Point.{Point}
use Rattle.pungi_shape.specs.declared.shape.Shape.{Shape}
use Rattle.pungi_shape.specs.Forms.{Form}
use Rattle.pungi_shape.specs.Named.{callee_of, callees_in, callees_of, lines_of, statics_of}
use Rattle.pungi_shape.specs.Liveness.{instr_of, instr_at}
use Rattle.pungi_shape.specs.Shapes.{width_of}
use Rattle.pungi_shape.specs.Scenes.{scene_of}
use Rattle.pungi_shape.specs.Exits.{may_leave}
use Rattle.pungi_shape.specs.Places.{Place, at_entry, at_point, after_call, instr_in, place_cmp, width_at}
use Rattle.pungi_shape.specs.Places.{entry_shapes}
use Rattle.pungi_shape.specs.Edges.{Goal, to_place, to_exit, Change, by_map, by_any, by_exit, Edge, edges_from}
use Rattle.pungi_shape.specs.Edges.{part_done, enters_exit, call_edges, call_edges_by}
use Rattle.pungi_shape.specs.Families.{IsPlace, MeetsDrops}
use Rattle.pungi_shape.specs.Programs.{IsFound, enters, goes, calls as by_call, Rises, ArePlaces, AreExits}
use Rattle.pungi_shape.specs.Programs.{place_number, exit_cmp, exit_number, target_of, equation, equations, action_of}
use Rattle.pungi_shape.specs.Programs.{with_numbers}
use Rattle.pungi_shape.specs.Programs.{IsProgram, edges_in_order, calls_from, all_edges, edges_of, is_entry, program_of}
use Rattle.pungi_shape.proofs.RiseLemmas.{place-total, exit-total, rises-number}
use Rattle.pungi_shape.proofs.sound.Views.{Origin}
use Rattle.pungi_shape.proofs.sound.FormValues.{dot_image}
use Rattle.pungi_shape.proofs.sound.Flow.{Claim, AreZero, Changes, IsBeside, Flow, MeetsExits}
use Rattle.pungi_shape.proofs.sound.EdgeOrder.{in_order_has}
use Rattle.pungi_shape.proofs.sound.ExitNumbers.{one_number}
use Rattle.pungi_shape.proofs.sound.InOrder.{numbers_have, line_among}
use Rattle.pungi_shape.proofs.sound.Members.{nothing_in, first_among, one_of, among_left, among_right, among_each}
use Rattle.pungi_shape.proofs.sound.Members.{among_map, among_mapped, of_all}
use Rattle.pungi_shape.proofs.sound.Tests.{both_true, eqb_is}

abbrev pub holds_of : Codes → ℕ → List Place → (ℕ → Vectors) → Place → Vector → Type 0
holds_of codes f ps at q v =
    IsFound codes f (to_place q) × ((u : Vector) → ((i : ℕ) → i < width_at q → u i ≡ v i) → at (place_number ps q) u)

abbrev pub leaves_of : Codes → ℕ → (ℕ → Vectors) → Shape → Vector → Type 0
leaves_of codes f exits x v =
    IsFound codes f (to_exit x)
    × ((xs : List Shape) → AreExits codes f xs → (u : Vector) → ((i : ℕ) → i < width_of x → u i ≡ v i)
    → exits (exit_number xs x) u)

pub record Surroundings : Type 1 where
  pub file : Code → Type 0
  pub callees : ℕ → CallKinds
  pub others : ℕ → Shape → Vector → Type 0

abbrev pub claim_of : Codes → ℕ → List Place → (ℕ → Vectors) → (ℕ → Vectors) → Surroundings → Origin → Claim
claim_of codes f ps at exits around origin = record {
  origin = origin;
  file = around.file;
  callees = around.callees;
  holds = holds_of codes f ps at;
  leaves = leaves_of codes f exits;
  others = around.others;
}

-- ---- the number of a place

pub numbered : (ps : List Place) → Rises place_cmp ps → (q : Place) → (there : IsAmong ps q)
    → place_number ps q ≡ there.0
numbered ps rise q there = rises-number place_cmp place-total ps rise q there

-- ---- entries come first

before_entry : (q : Place) (s : Shape) → place_cmp q (at_entry s) ≡ Less → is_entry q ≡ true
before_entry (at_entry r) s e = refl
before_entry (at_point p r) s e = absurd (cc)
before_entry (after_call p r x) s e = absurd (cc)

more : (q : Place) (ps : List Place) (n : ℕ) → is_entry q ≡ true → n ≤ count_by is_entry ps
    → n < count_by is_entry (q ∷ ps)
more q ps n e le =
    let same = sum_by-cons (λ x. cond (is_entry x) 1 0) q ps ∙ ap (λ b. cond b 1 0 + count_by is_entry ps) e in
    omega (arith, same, le)

counted : (ps : List Place) (i : ℕ) (d : Place) → i < length ps → ((k : ℕ) → k ≤ i → is_entry (get_or ps k d) ≡ true)
    → i < count_by is_entry ps
counted [] i d lt all = absurd (omega (arith, lt))
counted (q ∷ ps) zero d lt all = more q ps 0 (all 0 (omega arith)) (omega arith)
counted (q ∷ ps) (suc i) d lt all =
    let rest = counted ps i d (omega (arith, lt)) (λ k le. all (suc k) (omega (arith, le))) in
    more q ps (suc i) (all 0 (omega arith)) (omega (arith, rest))

entry_counts : (ps : List Place) → Rises place_cmp ps → (s : Shape) → (there : IsAmong ps (at_entry s))
    → there.0 < count_by is_entry ps
entry_counts ps rise s there =
    let q = at_entry s in
    let i = there.0 in
    let lt = there.1.0 in
    counted ps i q lt (λ k le. at k (le_cases k i le))
  where
    le_cases : (k i : ℕ) → k ≤ i → (k < i) ⊎ (k ≡ i)
    le_cases k i le = grind (arith, le)

    at : (k : ℕ) → (k < there.0) ⊎ (k ≡ there.0) → is_entry (get_or ps k (at_entry s)) ≡ true
    at k (inl below) =
        before_entry (get_or ps k (at_entry s)) s
        (ap (place_cmp (get_or ps k (at_entry s))) there.1.1 ∙ rise k there.0 (at_entry s) below there.1.0)
    at k (inr e) =
        ap (λ (n : ℕ). is_entry (get_or ps n (at_entry s))) e ∙ ap is_entry (sym there.1.1)

-- ---- the edges of a place

numbered_from : (ps : List Place) (xs : List Shape) (others : ℕ → List Shape) (k : ℕ) (es : List Edge) (d : AffineEdge)
    → IsAmong (map (with_numbers ps xs others k) es) d → d.from ≡ k
numbered_from ps xs others k es d there =
    let e = among_mapped (with_numbers ps xs others k) es d there in
    ap (λ (z : AffineEdge). z.from) e.1.1

among_places : (ps : List Place) (q : Place) → (there : IsAmong ps q) → IsAmong (enumerate_from 0 ps) (there.0, q)
among_places ps q there =
    let i = there.0 in
    let d : ℕ × Place = (i, q) in
    let same = get_or-enumerate_from 0 ps i d there.1.0 in (
      i,
      (
        (let n = length-enumerate_from 0 ps in let lt = there.1.0 in omega (arith, n, lt)),
        ap (λ (r : Place). (let e : ℕ × Place = (i, r) in e)) there.1.1 ∙ sym
            (same ∙ ap (λ (n : ℕ). (let e : ℕ × Place = (n, get_or ps i q) in e)) (omega arith)),
      ),
    )

edge_there : (code : Code) (lists : ℕ → List Shape) (ps : List Place) (xs : List Shape) (q : Place)
    → (there : IsAmong ps q) → (e : Edge) → IsAmong (all_edges code lists q) e
    → IsAmong (edges_of code lists ps xs) (with_numbers ps xs lists there.0 e)
edge_there code lists ps xs q there e of =
    let i = there.0 in
    let w = with_numbers ps xs lists i in
    let all = all_edges code lists q in
    among_each (λ (r : ℕ × Place). edges_in_order (map (with_numbers ps xs lists r.0) (all_edges code lists r.1)))
    (enumerate_from 0 ps) (i, q) (w e) (among_places ps q there)
    (in_order_has i (map w all) (numbered_from ps xs lists i all) (w e) (among_map w all e of))

own_edge : (code : Code) (lists : ℕ → List Shape) (q : Place) (e : Edge) → IsAmong (edges_from code q) e
    → IsAmong (all_edges code lists q) e
own_edge code lists q e of = among_left (edges_from code q) (calls_from code lists q) e of

-- ---- the edges of a call

record IsCallEdge (code : Code) (q : Place) (g : ℕ) (x : Shape) (e : Edge) : Type 0 where
  point : Point
  shape : Shape
  var : Option Var
  args : List Atom
  at : q ≡ at_point point shape
  instr : instr_at code point.instr ≡ Call var g args
  edge : e ≡ enters_exit point shape g x

call_edge : (code : Code) (q : Place) (g : ℕ) (x : Shape) (e : Edge) → IsAmong (call_edges code q g x) e
    → IsCallEdge code q g x e
call_edge code (at_entry s) g x e there = absurd (nothing_in e there)
call_edge code (after_call p s c) g x e there = absurd (nothing_in e there)
call_edge code (at_point p s) g x e there = by (instr_at code p.instr) refl there
  where
    chosen : (y : Option Var) (h : ℕ) (as' : List Atom) → instr_at code p.instr ≡ Call y h as' → (b : Bool)
        → ((p.done == 1) && ((h == g) && may_leave x as' (scene_of s))) ≡ b
        → IsAmong (cond b (enters_exit p s g x ∷ []) []) e → IsCallEdge code (at_point p s) g x e
    chosen y h as' is false may there = absurd (nothing_in e there)
    chosen y h as' is true may there =
        let rest = both_true (p.done == 1) ((h == g) && may_leave x as' (scene_of s)) may in
        let same = eqb_is h g (both_true (h == g) (may_leave x as' (scene_of s)) rest.1).0 in
        record {
          point = p;
          shape = s;
          var = y;
          args = as';
          at = refl;
          instr = is ∙ ap (λ k. Call y k as') same;
          edge = elim (one_of (enters_exit p s g x) [] e there) [
            | inl same ↦ same
            | inr none ↦ absurd (nothing_in e none)
          ];
        }

    by : (i : Instr) → instr_at code p.instr ≡ i → IsAmong (call_edges_by i p s g x) e
        → IsCallEdge code (at_point p s) g x e
    by (Call y h as') is there =
        chosen y h as' is ((p.done == 1) && ((h == g) && may_leave x as' (scene_of s))) refl there
    by i is there = absurd (nothing_in e there)

-- a function that an instruction calls is called by the code
pub is_called : (codes : Codes) (f : ℕ) (code : Code) (pc g : ℕ) (y : Option Var) (as' : List Atom)
    → code_at codes f ≡ Some code → instr_at code pc ≡ Call y g as' → IsAmong (callees_of codes f) g
is_called codes f code pc g y as' is_code is = by (slice_get code.instrs pc) refl is
  where
    by : (o : Option Line) → slice_get code.instrs pc ≡ o → instr_of o ≡ Call y g as' → IsAmong (callees_of codes f) g
    by None there same = absurd (cc)
    by (Some line) there same =
        let own = subst (λ i. IsAmong (callee_of i) g) (sym same) (first_among g []) in
        let all = among_each callees_in code.instrs line g (line_among code.instrs pc line there) own in
        numbers_have (flat_map callees_in (lines_of (code_at codes f))) g
        (subst (λ o. IsAmong (flat_map callees_in (lines_of o)) g) (sym is_code) all)

call_there : (code : Code) (lists : ℕ → List Shape) (q : Place) (g : ℕ) (x : Shape) (e : Edge)
    → IsCallEdge code q g x e → IsAmong (lists g) x → IsAmong (call_edges code q g x) e
    → IsAmong (all_edges code lists q) e
call_there code lists q g x e is left of =
    let own : IsAmong (callee_of (instr_at code is.point.instr)) g =
    subst (λ i. IsAmong (callee_of i) g) (sym is.instr) (first_among g []) in
    let all = subst (λ r. IsAmong (callee_of (instr_at code (instr_in r))) g) (sym is.at) own in
    among_right (edges_from code q) (calls_from code lists q) e
    (among_each (λ (h : ℕ). flat_map (call_edges code q h) (lists h)) (callee_of (instr_at code (instr_in q))) g e all
    (among_each (call_edges code q g) (lists g) x e left of))

place_of_goal : (q r : Place) → to_place q ≡ to_place r → q ≡ r
place_of_goal q r e = cc

-- ---- what an edge asks and does

zero_equations : (fs : List Form) (v : Vector) → AreZero fs v → MeetsAll (equations fs) v
zero_equations fs v all = All-map (λ (e : Equation). dot e.coefficients v ≡ pos 0) equation fs all

equations_zero : (fs : List Form) (v : Vector) → MeetsAll (equations fs) v → AreZero fs v
equations_zero fs v all k d lt =
    subst (λ (e : Equation). dot e.coefficients v ≡ pos 0) (get_or-map equation fs k d (equation d) lt)
    (all k (equation d) (let n = length-map fs equation in omega (arith, n, lt)))

sends : (leave : ℕ → ℕ → Vectors) (lists : ℕ → List Shape) (c : Change) (w z : ℕ) (v u x : Vector) → Changes c v u
    → ((i : ℕ) → i < z → x i ≡ u i) → Sends leave w z (action_of lists c) v x
sends leave lists (by_map rows) w z v u x does same = λ i lt. same i lt ∙ does i ∙ sym (dot_image rows v i)
sends leave lists (by_any c) w z v u x does same = λ i lt ne. same i lt ∙ does i ne
sends leave lists (by_exit f s onto) w z v u x does same = absurd does

-- the coordinates of an exit class go past those of the place
onto_past : (w z i : ℕ) → i < length (range_with_len w z) → (i < z) × (slice_index_or (range_with_len w z) i 0 ≡ w + i)
onto_past w z i lt =
    let long = length-range_with_len w z in
    let below : i < z = omega (arith, lt, long) in
    (below, get_or-range_with_len w z i 0 below)

-- ---- the program

-- a safe program drops nothing that is owed
pub safe_drops : (p : AffineProgram) (at : ℕ → Vectors) → IsSafe p at → MeetsDrops p at
safe_drops p at safe =
    All-weaker (λ (e : AffineEdge). (v : Vector) → at e.from v → MeetsAll e.guard v → MeetsAll e.duties v)
    (λ (e : AffineEdge). IsPlace e.to → (v : Vector) → at e.from v → MeetsAll e.guard v → MeetsAll e.duties v)
    (λ e meets there. meets) p.edges safe

pub record IsLeftBy (codes : Codes) (leave : ℕ → ℕ → Vectors) (g : ℕ) (x : Shape) (u : Vector) : Type 0 where
  pub found : IsFound codes g (to_exit x)
  pub left : (xs : List Shape) → AreExits codes g xs → leave g (exit_number xs x) u

module _ (codes : Codes) (f : ℕ) (code : Code) (lists : ℕ → List Shape) (ps : List Place) (xs : List Shape)
    (is_code : code_at codes f ≡ Some code) (are : ArePlaces codes f ps) (are_exits : AreExits codes f xs)
    (are_others : All (λ g. AreExits codes g (lists g)) (callees_of codes f)) (leave : ℕ → ℕ → Vectors)
    (at exits : ℕ → Vectors) (kept : IsInductive (program_of code lists ps xs) leave at exits)
    (drops : MeetsDrops (program_of code lists ps xs) at) (around : Surroundings)
    (told : (g : ℕ) (x : Shape) (u : Vector) → around.others g x u → IsLeftBy codes leave g x u) (origin : Origin) where
  abbrev claim : Claim
  claim = claim_of codes f ps at exits around origin

  abbrev program : AffineProgram
  program = program_of code lists ps xs

  enters_so : (s : Shape) (v : Vector) → IsAmong (entry_shapes (statics_of codes f) code) s → claim.holds (at_entry s) v
  enters_so s v among =
      let found = enters f code s is_code among in
      let there = are.all (at_entry s) found in
      let i = there.0 in
      let n = count_by is_entry ps in
      let lt = entry_counts ps are.rise s there in
      let here = kept.entries i 0 (let l = length-range_with_len 0 n in omega (arith, l, lt)) in
      let same : get_or (range_with_len 0 n) i 0 ≡ place_number ps (at_entry s) =
      get_or-range_with_len 0 n i 0 lt ∙ omega arith ∙ sym (numbered ps are.rise (at_entry s) there) in
      (found, λ u agrees. subst (λ k. at k u) same (here u))

  place_width : (r : Place) → IsAmong ps r → (e : Goal) → e ≡ to_place r
      → width_to program (target_of ps xs e) ≡ width_at r
  place_width r there e same =
      ap (λ g. width_to program (target_of ps xs g)) same
      ∙ ap (λ k. get_or (map width_at ps) k 0) (numbered ps are.rise r there)
      ∙ get_or-map width_at ps there.0 r 0 there.1.0 ∙ ap width_at (sym there.1.1)

  exit_width : (x : Shape) → IsAmong xs x → (e : Goal) → e ≡ to_exit x
      → width_to program (target_of ps xs e) ≡ width_of x
  exit_width x there e same =
      ap (λ g. width_to program (target_of ps xs g)) same
      ∙ ap (λ k. get_or (map width_of xs) k 0) (rises-number exit_cmp exit-total xs are_exits.rise x there)
      ∙ get_or-map width_of xs there.0 x 0 there.1.0 ∙ ap width_of (sym there.1.1)

  -- an edge keeps the sets
  keeps_so : (q : Place) (e : Edge) (v t : Vector) (holds : claim.holds q v) → IsAmong (all_edges code lists q) e
      → MeetsAll (equations e.guard) v
      → Sends leave (get_or (map width_at ps) (are.all q holds.0).0 0) (width_to program (target_of ps xs e.goal))
      (action_of lists e.change) v t
      → set_to at exits (target_of ps xs e.goal) t
  keeps_so q e v t holds of met sent =
      let there = are.all q holds.0 in
      let d = with_numbers ps xs lists there.0 e in
      let keeps = of_all (IsKept program leave at exits) (edges_of code lists ps xs) d kept.edges
      (edge_there code lists ps xs q there e of) in
      keeps v t (subst (λ n. at n v) (numbered ps are.rise q there) (holds.1 v (λ i lt. refl))) met sent

  maps_so : (q : Place) (e : Edge) (v u t : Vector) → claim.holds q v → IsAmong (edges_from code q) e
      → AreZero e.guard v → Changes e.change v u
      → ((i : ℕ) → i < width_to program (target_of ps xs e.goal) → t i ≡ u i)
      → set_to at exits (target_of ps xs e.goal) t
  maps_so q e v u t holds of met does agrees =
      keeps_so q e v t holds (own_edge code lists q e of) (zero_equations e.guard v met)
      (sends leave lists e.change _ _ v u t does agrees)

  edges_so : (q : Place) (e : Edge) (v u : Vector) (r : Place) → claim.holds q v → IsAmong (edges_from code q) e
      → AreZero e.guard v → Changes e.change v u → e.goal ≡ to_place r → claim.holds r u
  edges_so q e v u r holds of met does goal =
      let found = goes f code q (to_place r) is_code holds.0 (record { edge = e; is_there = of; goal = goal }) in
      let width = place_width r (are.all r found) e.goal goal in (
        found,
        λ t agrees. subst (λ g. set_to at exits (target_of ps xs g) t) goal
            (maps_so q e v u t holds of met does (λ i lt. agrees i (subst (λ n. i < n) width lt))),
      )

  exits_so : (q : Place) (e : Edge) (v u : Vector) (x : Shape) → claim.holds q v → IsAmong (edges_from code q) e
      → AreZero e.guard v → Changes e.change v u → e.goal ≡ to_exit x → claim.leaves x u
  exits_so q e v u x holds of met does goal =
      let found = goes f code q (to_exit x) is_code holds.0 (record { edge = e; is_there = of; goal = goal }) in
      let width = exit_width x (are_exits.all x found) e.goal goal in (
        found,
        λ ys others t agrees. subst (λ n. exits n t) (one_number codes f xs ys are_exits others x found)
            (subst (λ g. set_to at exits (target_of ps xs g) t) goal
            (maps_so q e v u t holds of met does (λ i lt. agrees i (subst (λ n. i < n) width lt)))),
      )

  -- the function that is called left by this exit class
  call_so : (p : Point) (s : Shape) (g : ℕ) (x : Shape) (v u z : Vector) → claim.holds (at_point p s) v
      → IsLeftBy codes leave g x u → IsAmong (callees_of codes f) g
      → IsCallEdge code (at_point p s) g x (enters_exit p s g x)
      → IsAmong (call_edges code (at_point p s) g x) (enters_exit p s g x)
      → IsBeside (width_of s) (width_of x) v u z → claim.holds (after_call (part_done p 0) s x) z
  call_so p s g x v u z holds left called is of beside =
      let q = at_point p s in
      let e = enters_exit p s g x in
      let r = after_call (part_done p 0) s x in
      let w = width_of s in
      let n = width_of x in
      let found = by_call f g code q x (to_place r) is_code holds.0 left.found
      (record { edge = e; is_there = of; goal = refl })
      in
      let theirs = of_all (λ h. AreExits codes h (lists h)) (callees_of codes f) g are_others called in
      let there = call_there code lists q g x e is (theirs.all x left.found) of in
      let here = are.all q holds.0 in
      let own : get_or (map width_at ps) here.0 0 ≡ w = get_or-map width_at ps here.0 q 0 here.1.0
      ∙ ap width_at (sym here.1.1) in (
        found,
        λ t agrees. keeps_so q e v t holds there (All-nil (λ d. dot d.coefficients v ≡ pos 0)) (
          λ i lt. (let below : i < w = subst (λ k. i < k) own lt in
              agrees i (omega (arith, below)) ∙ beside.first i below),
          (
            u,
            left.left (lists g) theirs,
            λ i lt. (let past = onto_past w n i lt in
                let below = past.0 in
                ap t past.1 ∙ agrees (w + i) (omega (arith, below)) ∙ beside.second i below),
          ),
        ),
      )

  calls_so : (q : Place) (g : ℕ) (x : Shape) (e : Edge) (v u z : Vector) (r : Place) → claim.holds q v
      → claim.others g x u → IsAmong (call_edges code q g x) e → IsBeside (width_at q) (width_of x) v u z
      → e.goal ≡ to_place r → claim.holds r z
  calls_so q g x e v u z r holds left of beside goal =
      let is = call_edge code q g x e of in
      let p = is.point in
      let s = is.shape in
      let called = is_called codes f code p.instr g is.var is.args is_code is.instr in
      let at_q = subst (λ o. claim.holds o v) is.at holds in
      let edge_q = subst (λ o. IsAmong (call_edges code o g x) e) is.at of in
      let edge_e = subst (IsAmong (call_edges code (at_point p s) g x)) is.edge edge_q in
      let beside_q = subst (λ o. IsBeside (width_at o) (width_of x) v u z) is.at beside in
      let same = place_of_goal (after_call (part_done p 0) s x) r (sym (ap (λ (d : Edge). d.goal) is.edge) ∙ goal) in
      subst (λ o. claim.holds o z) same
      (call_so p s g x v u z at_q (told g x u left) called
      (call_edge code (at_point p s) g x (enters_exit p s g x) edge_e) edge_e beside_q)

  duties_so : (q : Place) (e : Edge) (v : Vector) (r : Place) → claim.holds q v → IsAmong (edges_from code q) e
      → AreZero e.guard v → e.goal ≡ to_place r → AreZero e.duties v
  duties_so q e v r holds of met goal =
      let there = are.all q holds.0 in
      let d = with_numbers ps xs lists there.0 e in
      let meets = of_all (λ (a : AffineEdge). IsPlace a.to → (z : Vector) → at a.from z → MeetsAll a.guard z
      → MeetsAll a.duties z) (edges_of code lists ps xs) d drops
      (edge_there code lists ps xs q there e (own_edge code lists q e of)) in
      let here = subst (λ n. at n v) (numbered ps are.rise q there) (holds.1 v (λ i lt. refl)) in
      equations_zero e.duties v (meets (subst (λ g. IsPlace (target_of ps xs g)) (sym goal) tt) v here
      (zero_equations e.guard v met))

  pub flow_so : Flow code (statics_of codes f) claim
  flow_so = record {
    enters = enters_so;
    duties = duties_so;
    edges = edges_so;
    exits = exits_so;
    calls = calls_so;
    same = λ q v u holds agrees. (holds.0, λ x also. holds.1 x (λ i lt. also i lt ∙ agrees i lt));
  }

  -- where nothing is owed at the end, each exit duty is met
  pub exits_met : IsSafe program at → MeetsExits code claim
  exits_met safe q e v x holds of met goal =
      let there = are.all q holds.0 in
      let d = with_numbers ps xs lists there.0 e in
      let meets = of_all (λ (a : AffineEdge). (z : Vector) → at a.from z → MeetsAll a.guard z → MeetsAll a.duties z)
      (edges_of code lists ps xs) d safe (edge_there code lists ps xs q there e (own_edge code lists q e of)) in
      let here = subst (λ n. at n v) (numbered ps are.rise q there) (holds.1 v (λ i lt. refl)) in
      equations_zero e.duties v (meets v here (zero_equations e.guard v met))

-- ---- the program of a function

one_code : (c d : Code) → Some c ≡ Some d → c ≡ d
one_code c d e = cc

module _ (codes : Codes) (f : ℕ) (code : Code) (p : AffineProgram) (is_code : code_at codes f ≡ Some code)
    (is : IsProgram codes f p) where
  program_is : p ≡ program_of code is.others is.places is.exits
  program_is =
      is.program
      ∙ ap (λ c. program_of c is.others is.places is.exits) (one_code is.code code (sym is.is_code ∙ is_code))

  -- the sets of a function's program are a flow of its code
  pub program_flow : (leave : ℕ → ℕ → Vectors) (at exits : ℕ → Vectors) → IsInductive p leave at exits → MeetsDrops p at
      → (around : Surroundings)
      → ((g : ℕ) (x : Shape) (u : Vector) → around.others g x u → IsLeftBy codes leave g x u) → (origin : Origin)
      → Flow code (statics_of codes f) (claim_of codes f is.places at exits around origin)
  program_flow leave at exits kept drops around told origin =
      flow_so codes f code is.others is.places is.exits is_code is.are_places is.are_exits is.are_others leave at exits
      (subst (λ q. IsInductive q leave at exits) program_is kept) (subst (λ q. MeetsDrops q at) program_is drops) around
      told origin

  pub program_exits : (leave : ℕ → ℕ → Vectors) (at exits : ℕ → Vectors) → IsInductive p leave at exits → IsSafe p at
      → (around : Surroundings)
      → ((g : ℕ) (x : Shape) (u : Vector) → around.others g x u → IsLeftBy codes leave g x u) → (origin : Origin)
      → MeetsExits code (claim_of codes f is.places at exits around origin)
  program_exits leave at exits kept safe around told origin =
      exits_met codes f code is.others is.places is.exits is_code is.are_places is.are_exits is.are_others leave at
      exits (subst (λ q. IsInductive q leave at exits) program_is kept)
      (safe_drops (program_of code is.others is.places is.exits) at (subst (λ q. IsSafe q at) program_is safe)) around
      told origin (subst (λ q. IsSafe q at) program_is safe)
