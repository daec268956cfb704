-- The edges of a place: one for each case of the next part of its instruction (Karr 1976; Müller-Olm and Seidl 2004:
-- affine relations of programs with affine assignments).
--   Goal                    where an edge leads: to a place, or to the exit class of a shape
--   Change                  what an edge does to a vector: it maps it to the coordinates that have these forms; it puts
--                           any number at a coordinate; it puts a vector beside it, onto these coordinates, that a
--                           function left at an exit class
--   Edge                    goal; guard: forms that are 0 for the vectors that take the edge; change; duties: forms
--                           that have to be 0 for these
--   point_of pc n k, part_done p k    a point; that after one more part, with this outcome
--   cases_at code p s       the cases at a place
--   units w                 the forms of all coordinates
--   is_none_of fs           there is none
--   changes_nothing s a     a scene arrives at the same shape, with the same vectors, and drops nothing
--   skip_to, skip_within, skip_one, skip code q    the place after the next part, where that is left out: it isn't the
--                           last one of its instruction, has one case and changes nothing. Else this place
--   settle code q           the place after all next parts that are left out; at most two aren't the last
--   goes_by code p guard a, goes_to code p guard s    the edge to a point, at which this scene arrives
--   is_freed code p o       the variable that gets any number, if one does, is a holder there
--   point_after code p o pc where the last map of an instruction leads: to the part that puts any number, or on
--   taken_of code s t       how many parameters whose reference is taken over hold a token at entry
--   is_owed code s t        the token is returned, and its reference goes to the caller
--   is_uncounted code s t   it is a static object that isn't counted
--   number_due code s t     how often it is taken over, less the reference that is owed
--   exit_duty code s t      its balance is 0, less what is taken over, and one more where it is owed
--   exit_duties code s      so it is with each token that is counted
--   exits_from code s       the edge out of the function
--   case_goes, edge_of code p s c    the edge of a case at a place
--   coordinate_of s x       the coordinate of a variable's number
--   free_var i              the variable that gets any number in an instruction's last part
--   frees_there code p s    the edge that puts any number there
--   entry_scene s           the scene at an entry, over its coordinates: the parameters hold their values, and each
--                           balance is 0
--   enters_exit p s f e, call_edges_by, call_edges code q f e    the edge of a place by which a function is called and
--                           leaves by this exit class, if it may
--   both_shapes s e         the scene after that, where the coordinates of the exit class stand last
--   comes_back_by code i pc s e    the edge that takes over what the called function left
--   edges_from code q       the edges of a place, without those that depend on another function
use Rattle.std.specs.Prelude.{ℕ, ◌+◌, ◌-◌, ◌==◌, ℤ, ◌-ℤ◌, pos, nat_lt, Bool, true, false, not, ◌&&◌, List, [], ◌∷◌}
use Rattle.std.specs.Prelude.{◌++◌}
use Rattle.std.specs.Prelude.{length, map, get_or}
use Rattle.std.specs.Prelude.{replicate, take, Option, Some, None, if◌then◌else◌}
use Rattle.std.specs.List.{count_by, filter, list_any, range_with_len}
use Rattle.std.specs.Ordering.{int_cmp, nat_cmp, is_eq}
use Rattle.std.specs.Cmp.Lexicographic.{slice_cmp}
use Rattle.pungi_api.specs.Terms.{immortal_count}
use Rattle.pungi_code.specs.declared.code.Code.{Code}
use Rattle.pungi_code.specs.declared.instr.Instr.{Instr}
use Rattle.pungi_code.specs.declared.instr.Instr.TheVariants.{Arith, Load, Api, Call}
pub use Rattle.pungi_shape.specs.declared.edge.Edge.{Edge}
pub use Rattle.pungi_shape.specs.declared.edge.Goal.{Goal}
pub use Rattle.pungi_shape.specs.declared.edge.Goal.TheVariants.{ToPlace as to_place, ToExit as to_exit}
pub use Rattle.pungi_shape.specs.declared.edge.Change.{Change}
pub use Rattle.pungi_shape.specs.declared.edge.Change.TheVariants.{ByMap as by_map, ByAny as by_any, ByExit as by_exit}
use Rattle.pungi_shape.specs.declared.holding.Holding.TheVariants.{Unset}
use Rattle.pungi_shape.specs.declared.point.Point.{Point}
use Rattle.pungi_shape.specs.declared.shape.Shape.{Shape}
use Rattle.pungi_shape.specs.Forms.{Form, unit, zero_form, plus, constant, one_if}
use Rattle.pungi_shape.specs.Shapes.{is_token, count_of_numbers, numbers_of_shape, width_of, exit_of}
use Rattle.pungi_shape.specs.Parts.{maps}
use Rattle.pungi_shape.specs.Liveness.{instr_at, is_holder}
use Rattle.pungi_shape.specs.Scenes.{Scene, scene_of, scene_over, number_forms, after_entry}
use Rattle.pungi_shape.specs.Arrivals.{Arrival, arrive}
use Rattle.pungi_shape.specs.Cases.{Case, Onward, within, leads_to, leaves}
use Rattle.pungi_shape.specs.Steps.{cases}
use Rattle.pungi_shape.specs.Exits.{may_leave, agreement, after_leaving}
use Rattle.pungi_shape.specs.Places.{Place, at_entry, at_point, after_call, entry_width, first_point}

-- ---- parts that are left out

abbrev pub point_of : ℕ → ℕ → ℕ → Point
point_of pc n k = record { instr = pc; done = n; class = k }

abbrev pub part_done : Point → ℕ → Point
part_done p k = point_of p.instr (p.done + 1) k

abbrev pub cases_at : Code → Point → Shape → List Case
cases_at code p s = cases (instr_at code p.instr) p.instr p.done p.class (scene_of s)

abbrev pub units : ℕ → List Form
units w = map (unit w) (range_with_len 0 w)

abbrev pub is_none_of : List Form → Bool
is_none_of [] = true
is_none_of (f ∷ fs) = false

abbrev pub changes_nothing : Shape → Arrival → Bool
changes_nothing s a =
    is_eq (slice_cmp nat_cmp (numbers_of_shape a.shape) (numbers_of_shape s))
    && (is_eq (slice_cmp (slice_cmp int_cmp) a.rows (units (width_of s))) && is_none_of a.drops)

abbrev pub skip_to : Place → Point → Shape → Arrival → Place
skip_to q p s a = if changes_nothing s a then at_point p a.shape else q

abbrev pub skip_within : Code → Point → Shape → Case → Onward → Place
skip_within code p s c (within k) = skip_to (at_point p s) (part_done p k) s (arrive code (part_done p k) c.scene)
skip_within code p s c o = at_point p s

abbrev pub skip_one : Code → Point → Shape → List Case → Place
skip_one code p s [] = at_point p s
skip_one code p s (c ∷ []) = skip_within code p s c c.onward
skip_one code p s (c ∷ d ∷ cs) = at_point p s

abbrev pub skip : Code → Place → Place
skip code (at_entry s) = at_entry s
skip code (after_call p s e) = after_call p s e
skip code (at_point p s) = skip_one code p s (cases_at code p s)

abbrev pub settle : Code → Place → Place
settle code q = skip code (skip code q)

-- ---- the edge of a case

abbrev pub goes_by : Code → Point → List Form → Arrival → Edge
goes_by code p guard a = record {
  goal = to_place (settle code (at_point p a.shape));
  guard = guard;
  change = by_map a.rows;
  duties = a.drops;
}

abbrev pub goes_to : Code → Point → List Form → Scene → Edge
goes_to code p guard s = goes_by code p guard (arrive code p s)

abbrev pub is_freed : Code → Point → Option ℕ → Bool
is_freed code p None = false
is_freed code p (Some x) = is_holder code p x

abbrev pub point_after : Code → Point → Option ℕ → ℕ → Point
point_after code p freed pc = if is_freed code (part_done p p.class) freed then part_done p p.class else point_of pc 0 0

-- ---- exits

abbrev pub taken_of : Code → Shape → ℕ → ℕ
taken_of code s t = count_by (λ p. is_token t (get_or s.entry p Unset)) code.terms.convention.taken

abbrev pub is_owed : Code → Shape → ℕ → Bool
is_owed code s t = if code.terms.convention.borrowed then false else is_token t s.returned

abbrev pub is_uncounted : Code → Shape → ℕ → Bool
is_uncounted code s t = list_any (λ k. nat_lt k.0 (immortal_count code.terms.profile) && is_token t k.1) s.statics

abbrev pub number_due : Code → Shape → ℕ → ℤ
number_due code s t = pos (taken_of code s t) -ℤ pos (one_if (is_owed code s t))

abbrev pub exit_duty : Code → Shape → ℕ → Form
exit_duty code s t =
    plus (unit (width_of s) (after_entry s + t)) (constant (width_of s) (number_due code s t))

abbrev pub exit_duties : Code → Shape → List Form
exit_duties code s =
    map (exit_duty code s) (filter (λ t. not (is_uncounted code s t)) (range_with_len 0 (length s.made)))

abbrev pub exits_from : Code → Shape → Edge
exits_from code s = record {
  goal = to_exit (exit_of s);
  guard = [];
  change = by_map (units (width_of s));
  duties = exit_duties code s;
}

abbrev pub case_goes : Code → Point → Shape → Case → Onward → Edge
case_goes code p s c (within k) = goes_to code (part_done p k) c.guard c.scene
case_goes code p s c (leads_to pc) = goes_to code (point_after code p c.freed pc) c.guard c.scene
case_goes code p s c leaves = exits_from code s

abbrev pub edge_of : Code → Point → Shape → Case → Edge
edge_of code p s c = case_goes code p s c c.onward

-- ---- any number

abbrev pub coordinate_of : Shape → ℕ → ℕ
coordinate_of s x = 1 + count_of_numbers (take x s.vars)

abbrev pub free_var : Instr → ℕ
free_var (Arith x kind o a b) = x.0
free_var (Load x place) = x.0
free_var (Api (Some x) g as') = x.0
free_var i = 0

abbrev pub frees_there : Code → Point → Shape → Edge
frees_there code p s = record {
  goal = to_place (settle code (at_point (point_of (p.instr + 1) 0 0) s));
  guard = [];
  change = by_any (coordinate_of s (free_var (instr_at code p.instr)));
  duties = [];
}

-- ---- calls of functions of the file

abbrev pub enters_exit : Point → Shape → ℕ → Shape → Edge
enters_exit p s f e = record {
  goal = to_place (after_call (part_done p 0) s e);
  guard = [];
  change = by_exit f e (range_with_len (width_of s) (width_of e));
  duties = [];
}

abbrev pub call_edges_by : Instr → Point → Shape → ℕ → Shape → List Edge
call_edges_by (Call x g as') p s f e =
    if (p.done == 1) && ((g == f) && may_leave e as' (scene_of s)) then enters_exit p s f e ∷ [] else []
call_edges_by i p s f e = []

abbrev pub call_edges : Code → Place → ℕ → Shape → List Edge
call_edges code (at_point p s) f e = call_edges_by (instr_at code p.instr) p s f e
call_edges code q f e = []

abbrev pub both_shapes : Shape → Shape → Scene
both_shapes s e = scene_over (width_of s + width_of e) s

abbrev pub comes_back_by : Code → Instr → ℕ → Shape → Shape → List Edge
comes_back_by code (Call x f as') pc s e =
    goes_to code (point_of (pc + 1) 0 0) (agreement (width_of s) e as' (both_shapes s e))
    (after_leaving (width_of s) e x as' (both_shapes s e)) ∷ []
comes_back_by code i pc s e = []

-- ---- the edges of a place

abbrev pub entry_scene : Shape → Scene
entry_scene s = record {
  width = entry_width s;
  shape = s;
  vars = number_forms (entry_width s) 1 s.entry
      ++ replicate (length s.vars - length s.entry) (zero_form (entry_width s));
  returned = zero_form (entry_width s);
  entry = number_forms (entry_width s) 1 s.entry;
  balances = replicate (length s.made) (Some (zero_form (entry_width s)));
}

abbrev pub edges_from : Code → Place → List Edge
edges_from code (at_entry s) = goes_to code first_point [] (entry_scene s) ∷ []
edges_from code (after_call p s e) = comes_back_by code (instr_at code p.instr) p.instr s e
edges_from code (at_point p s) =
    if p.done == maps (instr_at code p.instr) then frees_there code p s ∷ [] else
    map (edge_of code p s) (cases_at code p s)
