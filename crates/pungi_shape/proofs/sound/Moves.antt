-- From a point to the next one, by a case that shows what is held after a part.
--   StandsIn                some vector stands at a point, with this shape
--   Lands                   some shape and vector stand at a point
use Rattle.std.proofs.Common.{◌≡◌, ◌≢◌, ℕ, ◌+◌, ◌<◌, ◌≤◌, pos, List, [], ◌∷◌, length, map, get_or, Bool, true}
use Rattle.std.proofs.Common.{false, refl, sym, ap, ◌∙◌, subst, arith, cond}
use Rattle.std.specs.Prelude.{◌&&◌, Option, Some, None}
use Rattle.std.specs.List.{All, IsAmong}
use Rattle.std.specs.Ordering.{int_cmp, nat_cmp, is_eq}
use Rattle.std.specs.Cmp.Lexicographic.{slice_cmp}
use Rattle.std.specs.declared.cmp.Ordering.{Ordering}
use Rattle.std.specs.declared.cmp.Ordering.TheVariants.{Less, Equal, Greater}
use Rattle.std.proofs.lemmas.Map.Lookups.{exact_signed}
use Rattle.std.proofs.lemmas.List.{length-map}
use Rattle.std.proofs.lemmas.List.Elements.{All-nil, All-map}
use Rattle.std.proofs.lemmas.List.FromFn.{get_or-map-range_with_len, length-map-range_with_len}
use Rattle.pungi_domain.specs.Vectors.{Vector, dot}
use Rattle.pungi_meaning.specs.Work.{content_at}
use Rattle.pungi_code.specs.declared.code.Code.{Code}
use Rattle.pungi_code.specs.declared.place.Place.{Place as Named}
use Rattle.pungi_code.specs.declared.place.Place.TheVariants as named
use Rattle.pungi_shape.specs.declared.holding.Holding.TheVariants.{Dead, Unset}
use Rattle.pungi_shape.specs.declared.point.Point.{Point}
use Rattle.pungi_shape.specs.declared.shape.Shape.{Shape}
use Rattle.pungi_shape.specs.declared.tracked.Spot.{Spot}
use Rattle.pungi_shape.specs.declared.tracked.Spot.TheVariants.{Global, Field}
use Rattle.pungi_shape.specs.Forms.{Form, unit, one_if}
use Rattle.pungi_shape.specs.Shapes.{width_of, is_number, tokens_of, rename_holding, numbers_of_shape}
use Rattle.pungi_shape.specs.Shapes.{rename_spot}
use Rattle.pungi_shape.specs.Parts.{maps, following}
use Rattle.pungi_shape.specs.Liveness.{instr_at, is_holder, is_among}
use Rattle.pungi_shape.specs.Scenes.{Scene, scene_of, after_entry, balance_at, is_made, holding_at}
use Rattle.pungi_shape.specs.Arrivals.{Arrival, arrive, kept_shape, renumber, rows_under, numbers_kept, place_in}
use Rattle.pungi_shape.specs.Arrivals.{anchors}
use Rattle.pungi_shape.specs.Arrivals.{holds_token, trim}
use Rattle.pungi_shape.specs.Cases.{Case, Onward, within, leads_to}
use Rattle.pungi_shape.specs.Places.{at_point}
use Rattle.pungi_shape.specs.Edges.{to_place, point_of, part_done, cases_at, settle, skip, units, is_none_of}
use Rattle.pungi_shape.specs.Edges.{changes_nothing, goes_to, case_goes, edge_of, edges_from, frees_there}
use Rattle.pungi_shape.specs.Edges.{point_after, coordinate_of, free_var}
use Rattle.pungi_shape.specs.Described.{Naming}
use Rattle.pungi_shape.proofs.sound.Views.{View, IsObjectSpot, names_spot}
use Rattle.pungi_shape.proofs.sound.Shows.{IsScene, Shows, spot_in}
use Rattle.pungi_shape.proofs.sound.Flow.{Claim, Flow, AreZero}
use Rattle.pungi_shape.proofs.sound.Stands.{StandsAs, Covers, FreesSo, done_writes, sent}
use Rattle.pungi_shape.proofs.sound.FormValues.{dot_unit}
use Rattle.pungi_shape.proofs.sound.Renames.{All_of_map, get_map, number_renamed}
use Rattle.pungi_shape.proofs.sound.SceneMerges.{renamed_spots}
use Rattle.pungi_shape.proofs.sound.Kept.{trim_length, all_in_order}
use Rattle.pungi_shape.proofs.sound.Coordinates.{length_kept, length_rows, count_cons, count_renamed}
use Rattle.pungi_shape.proofs.sound.ArrivedScene.{arrived_width}
use Rattle.pungi_shape.proofs.sound.Arrives.{names_after, Arrives, arrives}
use Rattle.pungi_shape.proofs.sound.Liveness.{live_part, live_next, live_after}
use Rattle.pungi_shape.proofs.sound.Exact.{exact_lists}
use Rattle.pungi_shape.proofs.sound.Settled.{stays, passes, skips_so, skip_twice, settled_last}
use Rattle.pungi_shape.proofs.sound.Vectors.{shows_same, shows_all, no_holder, number_content, put_number, put_other}
use Rattle.pungi_shape.proofs.sound.Vectors.{shows_number}
use Rattle.pungi_shape.proofs.sound.Tests.{eqb_not}
use Rattle.pungi_shape.proofs.sound.Members.{among_map}
use Rattle.std.proofs.Common.{eq-eqb}

pub record StandsIn (code : Code) (ks : List ℕ) (claim : Claim) (p : Point) (s : Shape) (names : Naming) (o : View)
    : Type 0 where
  pub vector : Vector
  pub stands : StandsAs code ks claim p s names vector o

pub record Lands (code : Code) (ks : List ℕ) (claim : Claim) (p : Point) (o : View) : Type 0 where
  pub shape : Shape
  pub names : Naming
  pub vector : Vector
  pub stands : StandsAs code ks claim p shape names vector o

-- ---- edges

-- the edge of a case, where parts are left
edge_among : (code : Code) (p : Point) (s : Shape) (c : Case) (o : Onward) → p.done ≢ maps (instr_at code p.instr)
    → IsAmong (cases_at code p s) c → c.onward ≡ o → IsAmong (edges_from code (at_point p s)) (case_goes code p s c o)
edge_among code p s c o ne at on =
    subst (λ b. IsAmong (cond b (frees_there code p s ∷ []) (map (edge_of code p s) (cases_at code p s)))
    (case_goes code p s c o)) (sym (eqb_not p.done (maps (instr_at code p.instr)) ne))
    (subst (λ z. IsAmong (map (edge_of code p s) (cases_at code p s)) (case_goes code p s c z)) on
    (among_map (edge_of code p s) (cases_at code p s) c at))

none_zero : (fs : List Form) (v : Vector) → is_none_of fs ≡ true → AreZero fs v
none_zero [] v e = All-nil (λ f. dot f v ≡ pos 0)
none_zero (f ∷ fs) v e = absurd (grind (arith, e))

-- ---- rows

pub rows_count : (code : Code) (p : Point) (s : Scene) (ks : List ℕ) (n : ℕ) → IsScene ks n s
    → width_of (renumber (kept_shape code p s)) ≡ length (rows_under s (kept_shape code p s))
rows_count code p s ks n is =
    let kept = kept_shape code p s in
    let ts = tokens_of kept in
    let count : length s.vars ≡ length kept.vars = is.forms ∙ sym (trim_length code p 0 s.shape.vars) in
    let in_vars = length_kept kept.vars s.vars count in
    let in_returned = length_kept (kept.returned ∷ []) (s.returned ∷ []) refl in
    let one = count_cons kept.returned [] in
    let in_entry = length_kept kept.entry s.entry is.entry_forms in
    let in_tokens = length-map ts (balance_at s) in
    let rows = length_rows (unit s.width 0) (numbers_kept kept.vars s.vars) (numbers_kept (kept.returned ∷ [])
    (s.returned ∷ [])) (numbers_kept kept.entry s.entry) (map (balance_at s) ts) in
    let width = arrived_width code p s in
    omega (arith, in_vars, in_returned, one, in_entry, in_tokens, rows, width)

pub arrived_fits : (code : Code) (p : Point) (s : Scene) (ks : List ℕ) (n : ℕ) → IsScene ks n s
    → after_entry (renumber (kept_shape code p s)) + length (renumber (kept_shape code p s)).made
    ≤ width_of (renumber (kept_shape code p s))
arrived_fits code p s ks n is =
    let kept = kept_shape code p s in
    let ts = tokens_of kept in
    let g = place_in ts in
    let width = arrived_width code p s in
    let vars_count = count_renamed g kept.vars in
    let entry_count = count_renamed g kept.entry in
    let returned_is : one_if (is_number (renumber kept).returned) ≡ one_if (is_number kept.returned) =
    ap one_if (number_renamed g kept.returned)
    in
    let made = length-map ts (λ t. is_made kept t && holds_token (anchors kept) t) in
    omega (arith, width, vars_count, entry_count, returned_is, made)

-- the rows of a part that is left out change nothing
sent_units : (w : ℕ) (rows : List Form) (v : Vector) (i : ℕ) → rows ≡ units w → i < w → sent rows v i ≡ v i
sent_units w rows v i e lt =
    ap (λ fs. dot (get_or fs i []) v) e
    ∙ ap (λ f. dot f v) (get_or-map-range_with_len (unit w) 0 w i i [] lt (omega arith))
    ∙ dot_unit w i v lt

-- ---- what a part that is left out does

record ChangesNothing (s : Shape) (a : Arrival) : Type 0 where
  rows : a.rows ≡ units (width_of s)
  drops : is_none_of a.drops ≡ true

both : (a b : Bool) → (a && b) ≡ true → (a ≡ true) × (b ≡ true)
both true true e = (refl, refl)
both true false e = absurd (grind (arith, e))
both false b e = absurd (grind (arith, e))

equal_from : (o : Ordering) → is_eq o ≡ true → o ≡ Equal
equal_from Equal e = refl
equal_from Less e = absurd (grind (arith, e))
equal_from Greater e = absurd (grind (arith, e))

changes_none : (s : Shape) (a : Arrival) → changes_nothing s a ≡ true → ChangesNothing s a
changes_none s a e =
    let numbers = is_eq (slice_cmp nat_cmp (numbers_of_shape a.shape) (numbers_of_shape s)) in
    let same = is_eq (slice_cmp (slice_cmp int_cmp) a.rows (units (width_of s))) in
    let first = both numbers (same && is_none_of a.drops) e in
    let second = both same (is_none_of a.drops) first.1 in
    record {
      rows = exact_lists (slice_cmp int_cmp) (exact_lists int_cmp exact_signed) a.rows (units (width_of s)) (equal_from
          (slice_cmp (slice_cmp int_cmp) a.rows (units (width_of s))) second.0);
      drops = second.1;
    }

-- ---- only slots of objects are tracked

same_name : (g : ℕ → ℕ) (place : Named) (q : Spot) → names_spot place (rename_spot g q) ≡ names_spot place q
same_name g (named.Global n kind) (Global m) = refl
same_name g (named.Global n kind) (Field b tag field) = refl
same_name g (named.Field base struct name kind) (Global m) = refl
same_name g (named.Field base struct name kind) (Field b tag field) = refl

spot_kind : (code : Code) (g : ℕ → ℕ) (q : Spot) → IsObjectSpot code q → IsObjectSpot code (rename_spot g q)
spot_kind code g q is pc line place there so e = is pc line place there so (sym (same_name g place q) ∙ e)

pub kinds_arrive : (code : Code) (q : Point) (s : Scene) → All (IsObjectSpot code) (map spot_in s.shape.slots)
    → All (IsObjectSpot code) (map spot_in (arrive code q s).shape.slots)
kinds_arrive code q s kinds =
    let kept = kept_shape code q s in
    renamed_spots (IsObjectSpot code) (IsObjectSpot code) (place_in (tokens_of kept))
    (spot_kind code (place_in (tokens_of kept))) kept.slots (All-map (IsObjectSpot code) spot_in kept.slots
    (all_in_order
    (λ r. IsObjectSpot code r.spot) (trim code q s.shape) (All_of_map (IsObjectSpot code) spot_in s.shape.slots kinds)))

-- ---- on within an instruction

within_frees : (code : Code) (p : Point) (free : Option ℕ) (k : ℕ) → FreesSo code p free (within k) → free ≡ None
within_frees code p None k is = refl
within_frees code p (Some x) k is = absurd (grind (arith, is.2))

pub moves_within : (code : Code) (ks : List ℕ) (claim : Claim) → Flow code ks claim
    → (p : Point) (s : Shape) (names : Naming) (v : Vector) (o : View) (after : View) (k : ℕ)
    → StandsAs code ks claim p s names v o → (c : Covers code ks p s v after (within k))
    → p.done + 1 < maps (instr_at code p.instr)
    → StandsIn code ks claim (part_done p k) (arrive code (part_done p k) c.chosen.scene).shape
    (names_after code (part_done p k) c.chosen.scene c.names) after
moves_within code ks claim flow p s names v o after k d c more =
    let q = part_done p k in
    let scene = c.chosen.scene in
    let arrival = arrive code q scene in
    let there = at_point q arrival.shape in
    let u = sent arrival.rows v in
    let deads = λ (x : ℕ) (e : get_or scene.shape.vars x Unset ≡ Dead). let was = c.deads x e in live_part code p k x
    (omega (arith, more)) was.1 (d.deads x was.0) in
    let shows : Shows c.names v None scene after = subst (λ f. Shows c.names v f scene after)
    (within_frees code p c.chosen.freed k c.frees) c.shows in
    let arrived = λ (zeros : AreZero arrival.drops v). arrives code ks q scene c.names v None after c.scene shows deads
    zeros in
    elim (skips_so code p s c.chosen k c.is_there c.onward) [
      | stays e ↦
          let here : claim.holds (at_point p s) v = subst (λ z. claim.holds z v) (ap (skip code) e ∙ e) d.claimed in
          let among = edge_among code p s c.chosen (within k) (λ same. absurd (omega (arith, same, more))) c.is_there
          c.onward in
          let edge = goes_to code q c.chosen.guard scene in
          let zeros = flow.duties (at_point p s) edge v (settle code there) here among c.guard refl in
          let arrives_so = arrived zeros in
          record {
            vector = u;
            stands = record {
              claimed = flow.edges (at_point p s) edge v u (settle code there) here among c.guard (λ i. refl) refl;
              scene = arrives_so.scene;
              deads = arrives_so.deads;
              kinds = kinds_arrive code q scene c.kinds;
              shows = arrives_so.shows;
            };
          }
      | passes e same ↦
          let none = changes_none s arrival same in
          let arrives_so = arrived (none_zero arrival.drops v none.drops) in
          let count : width_of arrival.shape ≡ width_of s = rows_count code q scene ks (length code.vars) c.scene
          ∙ ap length none.rows ∙ length-map-range_with_len (unit (width_of s)) 0 (width_of s) in
          record {
            vector = v;
            stands = record {
              claimed = subst (λ z. claim.holds z v) (ap (skip code) e
                  ∙ sym (skip_twice code q arrival.shape (omega arith))) d.claimed;
              scene = arrives_so.scene;
              deads = arrives_so.deads;
              kinds = kinds_arrive code q scene c.kinds;
              shows = shows_same ks (length code.vars) (names_after code q scene c.names) u v None
                  (scene_of arrival.shape) after arrives_so.scene (λ i lt. sent_units (width_of s) arrival.rows v i
                  none.rows (omega (arith, count, lt))) arrives_so.shows;
            };
          }
    ]

-- ---- on to another instruction, after the last part

-- the case's edge to a point
arrives_at : (code : Code) (ks : List ℕ) (claim : Claim) → Flow code ks claim
    → (p : Point) (s : Shape) (names : Naming) (v : Vector) (o : View) (after : View) (pc : ℕ) (q : Point)
    → StandsAs code ks claim p s names v o → (c : Covers code ks p s v after (leads_to pc))
    → p.done + 1 ≡ maps (instr_at code p.instr) → point_after code p c.chosen.freed pc ≡ q
    → ((x : ℕ) → is_among (done_writes (instr_at code p.instr) p.done) x ≡ false → is_holder code p x ≡ false
    → is_holder code q x ≡ false)
    → claim.holds (settle code (at_point q (arrive code q c.chosen.scene).shape))
    (sent (arrive code q c.chosen.scene).rows v)
    × Arrives code ks q c.chosen.scene c.names v c.chosen.freed after
arrives_at code ks claim flow p s names v o after pc q d c last is live =
    let scene = c.chosen.scene in
    let here : claim.holds (at_point p s) v = subst (λ z. claim.holds z v)
    (settled_last code p s (omega (arith, last))) d.claimed in
    let among : IsAmong (edges_from code (at_point p s)) (goes_to code q c.chosen.guard scene) = subst
    (λ z. IsAmong (edges_from code (at_point p s)) (goes_to code z c.chosen.guard scene)) is
    (edge_among code p s c.chosen (leads_to pc) (λ same. absurd (omega (arith, same, last))) c.is_there c.onward) in
    let edge = goes_to code q c.chosen.guard scene in
    let zeros = flow.duties (at_point p s) edge v (settle code (at_point q (arrive code q scene).shape)) here among
    c.guard refl in
    let u = sent (arrive code q scene).rows v in (
      flow.edges (at_point p s) edge v u (settle code (at_point q (arrive code q scene).shape)) here among c.guard
          (λ i. refl) refl,
      arrives code ks q scene c.names v c.chosen.freed after c.scene c.shows
          (λ x e. let was = c.deads x e in live x was.1 (d.deads x was.0)) zeros,
    )

-- no number is to be put
lands_none : (code : Code) (ks : List ℕ) (claim : Claim) → Flow code ks claim
    → (p : Point) (s : Shape) (names : Naming) (v : Vector) (o : View) (after : View) (pc : ℕ)
    → StandsAs code ks claim p s names v o → (c : Covers code ks p s v after (leads_to pc))
    → p.done + 1 ≡ maps (instr_at code p.instr) → IsAmong (following p.instr (instr_at code p.instr)) pc
    → c.chosen.freed ≡ None → Lands code ks claim (point_of pc 0 0) after
lands_none code ks claim flow p s names v o after pc d c last follows none =
    let q = point_of pc 0 0 in
    let both = arrives_at code ks claim flow p s names v o after pc q d c last (ap (λ f. point_after code p f pc) none)
    (λ x out dead. live_next code p pc x last follows out dead) in
    record {
      shape = (arrive code q c.chosen.scene).shape;
      names = names_after code q c.chosen.scene c.names;
      vector = sent (arrive code q c.chosen.scene).rows v;
      stands = record {
        claimed = both.0;
        scene = both.1.scene;
        deads = both.1.deads;
        kinds = kinds_arrive code q c.chosen.scene c.kinds;
        shows = subst (λ f. Shows (names_after code q c.chosen.scene c.names)
            (sent (arrive code q c.chosen.scene).rows v) f
            (scene_of (arrive code q c.chosen.scene).shape) after) none both.1.shows;
      };
    }

-- the variable that would get it isn't kept
lands_unkept : (code : Code) (ks : List ℕ) (claim : Claim) → Flow code ks claim
    → (p : Point) (s : Shape) (names : Naming) (v : Vector) (o : View) (after : View) (pc x : ℕ)
    → StandsAs code ks claim p s names v o → (c : Covers code ks p s v after (leads_to pc))
    → p.done + 1 ≡ maps (instr_at code p.instr) → IsAmong (following p.instr (instr_at code p.instr)) pc
    → c.chosen.freed ≡ Some x → is_holder code (part_done p p.class) x ≡ false
    → Lands code ks claim (point_of pc 0 0) after
lands_unkept code ks claim flow p s names v o after pc x d c last follows free out =
    let q = point_of pc 0 0 in
    let scene = c.chosen.scene in
    let to_q : point_after code p c.chosen.freed pc ≡ q =
    ap (λ f. point_after code p f pc) free ∙ ap (λ b. cond b (part_done p p.class) q) out
    in
    let both = arrives_at code ks claim flow p s names v o after pc q d c last to_q
    (λ y no dead. live_next code p pc y last follows no dead) in
    let gone = live_after code (part_done p p.class) pc x last follows out in
    let kept = kept_shape code q scene in
    let g = place_in (tokens_of kept) in
    let no_number : is_number (holding_at (scene_of (arrive code q scene).shape) x) ≡ false =
    ap is_number (get_map (rename_holding g) kept.vars x Unset) ∙ number_renamed g (get_or kept.vars x Unset)
    ∙ no_holder code q 0 scene.shape.vars x x (omega arith) gone
    in
    record {
      shape = (arrive code q scene).shape;
      names = names_after code q scene c.names;
      vector = sent (arrive code q scene).rows v;
      stands = record {
        claimed = both.0;
        scene = both.1.scene;
        deads = both.1.deads;
        kinds = kinds_arrive code q c.chosen.scene c.kinds;
        shows = shows_all (names_after code q scene c.names) (sent (arrive code q scene).rows v) x
            (scene_of (arrive code q scene).shape) after no_number (subst
            (λ f. Shows (names_after code q scene c.names) (sent (arrive code q scene).rows v) f
            (scene_of (arrive code q scene).shape) after) free both.1.shows);
      };
    }

-- any number is put, and the variable's number is one
puts_number : (code : Code) (ks : List ℕ) (claim : Claim) → Flow code ks claim
    → (q : Point) (s : Shape) (names : Naming) (u : Vector) (o : View) (pc x : ℕ) (b : Bool)
    → q.done ≡ maps (instr_at code q.instr) → pc ≡ q.instr + 1 → x ≡ free_var (instr_at code q.instr)
    → IsAmong (following q.instr (instr_at code q.instr)) pc → claim.holds (settle code (at_point q s)) u
    → IsScene ks (length code.vars) (scene_of s) → after_entry s + length s.made ≤ width_of s
    → ((y : ℕ) → get_or s.vars y Unset ≡ Dead → is_holder code q y ≡ false)
    → All (IsObjectSpot code) (map spot_in s.slots) → Shows names u (Some x) (scene_of s) o
    → is_number (get_or s.vars x Unset) ≡ b → Lands code ks claim (point_of pc 0 0) o
puts_number code ks claim flow q s names u o pc x b last next is_x follows claimed is fits deads kinds shows kind =
    let here : claim.holds (at_point q s) u = subst (λ z. claim.holds z u) (settled_last code q s (omega (arith, last)))
    claimed in
    let edge = frees_there code q s in
    let among : IsAmong (edges_from code (at_point q s)) edge = subst
    (λ c. IsAmong (cond c (edge ∷ []) (map (edge_of code q s) (cases_at code q s))) edge)
    (sym (eq-eqb q.done (maps (instr_at code q.instr)) last)) (0, (omega arith, refl)) in
    let there = at_point (point_of pc 0 0) s in
    let goal : edge.goal ≡ to_place (settle code there) =
    ap (λ n. to_place (settle code (at_point (point_of n 0 0) s))) (sym next)
    in
    let later = λ (y : ℕ) (e : get_or s.vars y Unset ≡ Dead). live_after code q pc y last follows (deads y e) in
    let claims = λ (w : Vector) (same : (i : ℕ) → i ≢ coordinate_of s x → w i ≡ u i). flow.edges (at_point q s) edge u w
    (settle code there) here among (All-nil (λ f. dot f u ≡ pos 0)) (λ i ne. same i
    (λ e. ne (e ∙ ap (coordinate_of s) is_x))) goal in
    put b kind claims later
  where
    put : (c : Bool) → is_number (get_or s.vars x Unset) ≡ c
        → ((w : Vector) → ((i : ℕ) → i ≢ coordinate_of s x → w i ≡ u i)
        → claim.holds (settle code (at_point (point_of pc 0 0) s)) w)
        → ((y : ℕ) → get_or s.vars y Unset ≡ Dead → is_holder code (point_of pc 0 0) y ≡ false)
        → Lands code ks claim (point_of pc 0 0) o
    put true number claims later =
        let known = number_content names (get_or s.vars x Unset) (content_at o.vars x) number (shows.vars x) in
        let w = put_number u (coordinate_of s x) known.0 in
        record {
          shape = s;
          names = names;
          vector = w;
          stands = record {
            claimed = claims w (λ i ne. put_other u (coordinate_of s x) known.0 i ne);
            scene = is;
            deads = later;
            kinds = kinds;
            shows = shows_number ks (length code.vars) names u x s o known.0 is fits number known.1 shows;
          };
        }
    put false number claims later = record {
      shape = s;
      names = names;
      vector = u;
      stands = record {
        claimed = claims u (λ i ne. refl);
        scene = is;
        deads = later;
        kinds = kinds;
        shows = shows_all names u x (scene_of s) o number shows;
      };
    }

abbrev place_led : Onward → ℕ
place_led (leads_to n) = n
place_led o = 0

next_place : (n m : ℕ) → leads_to n ≡ leads_to m → n ≡ m
next_place n m e = ap place_led e

lands_kept : (code : Code) (ks : List ℕ) (claim : Claim) → Flow code ks claim
    → (p : Point) (s : Shape) (names : Naming) (v : Vector) (o : View) (after : View) (pc x : ℕ)
    → StandsAs code ks claim p s names v o → (c : Covers code ks p s v after (leads_to pc))
    → p.done + 1 ≡ maps (instr_at code p.instr) → IsAmong (following p.instr (instr_at code p.instr)) pc
    → c.chosen.freed ≡ Some x → FreesSo code p (Some x) (leads_to pc)
    → is_holder code (part_done p p.class) x ≡ true → Lands code ks claim (point_of pc 0 0) after
lands_kept code ks claim flow p s names v o after pc x d c last follows free frees holds =
    let q = part_done p p.class in
    let scene = c.chosen.scene in
    let to_q : point_after code p c.chosen.freed pc ≡ q =
    ap (λ f. point_after code p f pc) free ∙ ap (λ b. cond b (part_done p p.class) (point_of pc 0 0)) holds
    in
    let both = arrives_at code ks claim flow p s names v o after pc q d c last to_q
    (λ y out dead. live_part code p p.class y (omega (arith, last)) out dead) in
    let a = (arrive code q scene).shape in
    let shows = subst (λ f. Shows (names_after code q scene c.names) (sent (arrive code q scene).rows v) f (scene_of a)
    after) free both.1.shows in
    puts_number code ks claim flow q a (names_after code q scene c.names) (sent (arrive code q scene).rows v) after pc x
    (is_number (get_or a.vars x Unset)) last (next_place pc (p.instr + 1) frees.2) frees.0 follows both.0 both.1.scene
    (arrived_fits code q scene ks (length code.vars) c.scene) both.1.deads
    (kinds_arrive code q scene c.kinds) shows refl

pub leads_on : (code : Code) (ks : List ℕ) (claim : Claim) → Flow code ks claim
    → (p : Point) (s : Shape) (names : Naming) (v : Vector) (o : View) (after : View) (pc : ℕ)
    → StandsAs code ks claim p s names v o → Covers code ks p s v after (leads_to pc)
    → p.done + 1 ≡ maps (instr_at code p.instr) → IsAmong (following p.instr (instr_at code p.instr)) pc
    → Lands code ks claim (point_of pc 0 0) after
leads_on code ks claim flow p s names v o after pc d c last follows = by_freed c.chosen.freed refl
  where
    by_holder : (x : ℕ) → c.chosen.freed ≡ Some x → (b : Bool) → is_holder code (part_done p p.class) x ≡ b
        → Lands code ks claim (point_of pc 0 0) after
    by_holder x free true holds = lands_kept code ks claim flow p s names v o after pc x d c last follows free
        (subst (λ f. FreesSo code p f (leads_to pc)) free c.frees) holds
    by_holder x free false out = lands_unkept code ks claim flow p s names v o after pc x d c last follows free out

    by_freed : (f : Option ℕ) → c.chosen.freed ≡ f → Lands code ks claim (point_of pc 0 0) after
    by_freed None none = lands_none code ks claim flow p s names v o after pc d c last follows none
    by_freed (Some x) free = by_holder x free (is_holder code (part_done p p.class) x) refl
