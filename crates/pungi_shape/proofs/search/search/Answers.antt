use Rattle.std.proofs.Common.{◌≡◌, ◌∙◌, ℕ, ◌+◌, ◌<◌, List, [], ◌∷◌, ◌++◌, length}
use Rattle.std.proofs.Common.{sym, ap, subst, arith, rules}
use Rattle.std.proofs.lemmas.List.{length-append}
use Rattle.pungi_code.specs.declared.code.Code.{Code}
use Rattle.pungi_code.specs.declared.code.Codes.{Codes}
use Rattle.pungi_shape.specs.declared.holding.Holding.{Holding}
use Rattle.pungi_shape.specs.declared.search.Found.{Found}
use Rattle.pungi_shape.specs.declared.shape.Shape.{Shape}
use Rattle.pungi_shape.specs.declared.found_edge.FoundEdge.{FoundEdge}
use Rattle.pungi_shape.specs.Classes.{classes_of}
use Rattle.pungi_shape.specs.Edges.{Goal}
use Rattle.pungi_shape.specs.FoundEdges.{AreEdgesOf, found_edges}
use Rattle.pungi_shape.specs.Found.{are_over, entry_goals, goals_from, with_goals}
use Rattle.pungi_shape.specs.Keys.{CatalogState}
use Rattle.pungi_shape.specs.Named.{statics_of}
use Rattle.pungi_shape.specs.Places.{Place}
use Rattle.pungi_shape.specs.Programs.{all_edges}
use Rattle.pungi_shape.proofs.ClassListLemmas.{class-lists}
use Rattle.pungi_shape.proofs.FoundEdgeLemmas.{more-edges, no-edges}
use Rattle.pungi_shape.proofs.FoundLemmas.{with_goals-grows}
use Rattle.pungi_shape.proofs.SearchLemmas.{IsSearched, are_over-large, can-visit, entries-can, entries-good}
use Rattle.pungi_shape.proofs.SearchLemmas.{nothing, nothing-found, search-init, search-more, search-whole}
use Rattle.pungi_shape.proofs.SearchLemmas.{visit-over}
use Rattle.pungi_shape.proofs.VisitLemmas.{someone}
use Rattle.pungi_shape.proofs.search.search.Goals as goal

-- ---- the start

abbrev found_of : CatalogState Place → CatalogState Shape → Found
found_of ps xs = record { places = ps; exits = xs }

module _ (codes : Codes) (f : ℕ) (code : Code) (ks : List ℕ) (vs : List Holding) (ps : CatalogState Place)
    (xs : CatalogState Shape) (statics : ks ≡ statics_of codes f) (values : vs ≡ []) (places : ps ≡ nothing.places)
    (exits : xs ≡ nothing.exits) where
  same_goals : entry_goals ks code vs 0 ≡ entry_goals (statics_of codes f) code [] 0
  same_goals =
      ap (λ (l : List ℕ). entry_goals l code vs 0) statics
      ∙ ap (λ (l : List Holding). entry_goals (statics_of codes f) code l 0) values

  begins : found_of ps xs ≡ nothing
  begins = ap (λ (p : CatalogState Place). found_of p xs) places ∙ ap (found_of nothing.places) exits

  first_noted : with_goals (entry_goals ks code vs 0) (found_of ps xs)
      ≡ with_goals (entry_goals (statics_of codes f) code [] 0) nothing
  first_noted =
      ap (λ (gs : List Goal). with_goals gs (found_of ps xs)) same_goals
      ∙ ap (with_goals (entry_goals (statics_of codes f) code [] 0)) begins

  first_over : are_over (entry_goals ks code vs 0) (found_of ps xs)
      ≡ are_over (entry_goals (statics_of codes f) code [] 0) nothing
  first_over =
      ap (λ (gs : List Goal). are_over gs (found_of ps xs)) same_goals
      ∙ ap (are_over (entry_goals (statics_of codes f) code [] 0)) begins

pub enter-requires-clause-few : goal.enter-requires-clause-few
enter-requires-clause-few c =
    let same = ap length c.requires.statics in
    omega (arith, c.requires.few, same)

pub enter-requires-clause-can : goal.enter-requires-clause-can
enter-requires-clause-can c =
    rw (c.new-values.ensures.items, c.requires.statics)
    (entries-can c.args.codes.now c.args.f c.args.code.now (classes_of c.args.classes.now) c.requires.code
    c.requires.well_formed c.requires.classes c.requires.few)

pub returns-in_err-enter-clause-large : goal.returns-in_err-enter-clause-large
returns-in_err-enter-clause-large c = λ e. (
    let codes = c.args.codes.now in
    let f = c.args.f in
    let code = c.args.code.now in
    let is_code = c.requires.code in
    let well = c.requires.well_formed in
    let others = classes_of c.args.classes.now in
    let classes = c.requires.classes in
    let few = c.requires.few in
    are_over-large codes f code others is_code well classes few (entry_goals (statics_of codes f) code [] 0) nothing
    (nothing-found codes f code others is_code well classes few)
    (entries-good codes f code others is_code well classes few)
    (sym (first_over codes f code c.args.statics.now c.new-values.result.items c.new.result c.new-2.result
    c.requires.statics c.new-values.ensures.items c.new.ensures c.new-2.ensures)
    ∙ c.in_err-enter.ensures.over (search rules))
    )

pub visiting-init : goal.visiting-init
visiting-init c =
    let codes = c.args.codes.now in
    let f = c.args.f in
    let code = c.args.code.now in
    let others = classes_of c.args.classes.now in
    let fits = sym (first_over codes f code c.args.statics.now c.new-values.result.items c.new.result c.new-2.result
    c.requires.statics c.new-values.ensures.items c.new.ensures c.new-2.ensures) ∙ c.in_ok-enter.ensures.fits in
    let noted = c.in_ok-enter.ensures.noted ∙ first_noted codes f code c.args.statics.now c.new-values.result.items
    c.new.result c.new-2.result c.requires.statics c.new-values.ensures.items c.new.ensures c.new-2.ensures in
    record {
      searched = subst (λ (s : Found). IsSearched codes f code others s 0) (sym noted)
          (search-init codes f code others c.requires.code c.requires.well_formed c.requires.classes c.requires.few
          fits);
      edges = rw c.new-edges.ensures.items (no-edges code others c.enter.new.found);
      there = omega arith;
    }

-- ---- a place

pub visit-requires-clause-there : goal.visit-requires-clause-there
visit-requires-clause-there c =
    let same = ap length c.items.ensures in
    let there = c.visiting.invariant.there in
    let more = c.if-k-items.false in
    omega (arith, same, there, more)

pub visit-requires-clause-classes : goal.visit-requires-clause-classes
visit-requires-clause-classes c =
    class-lists c.args.codes.now (classes_of c.args.classes.now) c.requires.functions c.requires.classes

pub visit-requires-clause-place : goal.visit-requires-clause-place
visit-requires-clause-place c = λ q e.
    can-visit c.args.codes.now c.args.f c.args.code.now (classes_of c.args.classes.now) c.requires.code
    c.requires.well_formed c.requires.classes c.requires.few c.visiting.k q
    c.visiting.found c.visiting.invariant.searched.found e c.visiting.invariant.searched.exits c.visiting-test.true

pub returns-in_err-visit-clause-large : goal.returns-in_err-visit-clause-large
returns-in_err-visit-clause-large c = λ e. (
    let same = ap length c.items.ensures in
    let there = c.visiting.invariant.there in
    let more = c.if-k-items.false in
    let at = someone c.visiting.found.places.items c.visiting.k (omega (arith, same, there, more)) in
    visit-over c.args.codes.now c.args.f c.args.code.now (classes_of c.args.classes.now) c.requires.code
    c.requires.well_formed c.requires.classes c.requires.few c.visiting.k at.0
    c.visiting.found c.visiting.invariant.searched.found at.1 (c.in_err-visit.ensures.over (search rules) at.0 at.1)
    )

pub visiting-preserved : goal.visiting-preserved
visiting-preserved c =
    let s = c.visiting.found in
    let k = c.visiting.k in
    let code = c.args.code.now in
    let others = classes_of c.args.classes.now in
    let same = ap length c.items.ensures in
    let there = c.visiting.invariant.there in
    let more = c.if-k-items.false in
    let below : k < length s.places.items = omega (arith, same, there, more) in
    let at = someone s.places.items k below in
    let noted = c.in_ok-visit.ensures.noted at.0 at.1 in
    let u = with_goals (goals_from code others at.0) s in
    let edges : c.in_ok-visit.field-0 ≡ found_edges others u (all_edges code others at.0) =
    c.in_ok-visit.ensures.edges at.0 at.1
    ∙ ap (λ (w : Found). found_edges others w (all_edges code others at.0)) noted in
    let pushed : c.push.new.self.items
    ≡ c.visiting.edges.items ++ found_edges others u (all_edges code others at.0) ∷ [] =
    c.in_ok-push.ensures.items ∙ ap (λ (es : List FoundEdge). c.visiting.edges.items ++ es ∷ []) edges in
    let grown = with_goals-grows (goals_from code others at.0) s in
    let long = ap (λ (u : Found). length u.places.items) noted in
    let all = ap length grown.places in
    let sum = length-append s.places.items grown.rest in
    record {
      searched = subst (λ (u : Found). IsSearched c.args.codes.now c.args.f code others u (k + 1)) (sym noted)
          (search-more c.args.codes.now c.args.f code others c.requires.code c.requires.well_formed
          c.requires.classes c.requires.few k at.0 s
          c.visiting.invariant.searched at.1 (c.in_ok-visit.ensures.fits at.0 at.1));
      edges = rw (noted, pushed) (more-edges code others k at.0 s c.visiting.edges.items c.visiting.invariant.edges
          c.visiting.invariant.searched.visited at.1);
      there = omega (arith, long, all, sum, below);
    }

-- ---- the end

pub returns-then-k-items-clause-whole : goal.returns-then-k-items-clause-whole
returns-then-k-items-clause-whole c =
    let same = ap length c.items.ensures in
    let here = c.if-k-items.true in
    let few = c.visiting.auto.k-end in
    search-whole c.args.codes.now c.args.f c.args.code.now (classes_of c.args.classes.now) c.requires.code
    c.requires.well_formed c.requires.classes c.requires.few c.visiting.k
    c.visiting.found c.visiting.invariant.searched (omega (arith, same, here)) (omega (arith, few))

pub returns-then-k-items-clause-edges : goal.returns-then-k-items-clause-edges
returns-then-k-items-clause-edges c =
    let here : c.visiting.k ≡ length c.visiting.found.places.items = c.if-k-items.true ∙ ap length c.items.ensures in
    subst (AreEdgesOf c.args.code.now (classes_of c.args.classes.now) c.visiting.found c.visiting.edges.items)
    here c.visiting.invariant.edges

-- as many places as there may be
pub returns-clause-whole : goal.returns-clause-whole
returns-clause-whole c =
    let most = c.visiting.invariant.searched.found.few in
    let few = c.visiting.auto.k-end in
    search-whole c.args.codes.now c.args.f c.args.code.now (classes_of c.args.classes.now) c.requires.code
    c.requires.well_formed c.requires.classes c.requires.few c.visiting.k
    c.visiting.found c.visiting.invariant.searched (omega (arith, most, c.visiting-test.false)) (omega (arith, few))

pub returns-clause-edges : goal.returns-clause-edges
returns-clause-edges c =
    let most = c.visiting.invariant.searched.found.few in
    let there = c.visiting.invariant.there in
    let all : c.visiting.k ≡ length c.visiting.found.places.items = omega (arith, most, there, c.visiting-test.false) in
    subst (AreEdgesOf c.args.code.now (classes_of c.args.classes.now) c.visiting.found c.visiting.edges.items)
    all c.visiting.invariant.edges
