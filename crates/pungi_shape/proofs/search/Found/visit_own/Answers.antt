use Rattle.std.proofs.Common.{◌≡◌, ◌∙◌, [], ◌++◌, inl, inr, List, length, sym, ap}
use Rattle.std.proofs.Common.{arith, rules, subst}
use Rattle.std.specs.List.{All}
use Rattle.std.proofs.lemmas.List.{length-append}
use Rattle.pungi_shape.specs.declared.found_edge.FoundEdge.{FoundEdge}
use Rattle.pungi_shape.specs.declared.search.Found.{Found}
use Rattle.pungi_shape.specs.Edges.{Edge, edges_from}
use Rattle.pungi_shape.specs.FoundEdges.{IsClassNumber, found_edges}
use Rattle.pungi_shape.specs.Found.{CanBeNoted, HasFewExits, IsOwnOver, are_over, own_goals, with_goals}
use Rattle.pungi_shape.specs.Places.{Place}
use Rattle.pungi_shape.proofs.CallGoals.{own-class}
use Rattle.pungi_shape.proofs.FoundLemmas.{one_thing, with_goals-grows}
use Rattle.pungi_shape.proofs.RankLemmas.{reached-made}
use Rattle.pungi_shape.proofs.VisitLemmas.{goals, read-there}
use Rattle.pungi_shape.proofs.search.Found.visit_own.Goals as goal

pub edges_from-requires-clause-few : goal.edges_from-requires-clause-few
edges_from-requires-clause-few c =
    let q = c.index-items-k.result in
    let is = read-there c.items.result.now c.args.self.now.places.items c.args.k q c.items.ensures c.index-items-k.is
    c.requires.there in
    let can = c.requires.place q is in
    reached-made c.args.code.now q can.reached can.tokens

pub returns-in_err-edges_from-clause-over : goal.returns-in_err-edges_from-clause-over
returns-in_err-edges_from-clause-over c = λ e p at. (
    let q = c.index-items-k.result in
    let is = read-there c.items.result.now c.args.self.now.places.items c.args.k q c.items.ensures c.index-items-k.is
    c.requires.there in
    subst (λ (r : Place). IsOwnOver c.args.code.now r c.args.self.now) (one_thing q p (sym is ∙ at))
    (inl (c.in_err-edges_from.ensures.wide (search rules)))
    )

pub keep_edges-requires-clause-can : goal.keep_edges-requires-clause-can
keep_edges-requires-clause-can c =
    let q = c.index-items-k.result in
    let is = read-there c.items.result.now c.args.self.now.places.items c.args.k q c.items.ensures c.index-items-k.is
    c.requires.there in
    let all : c.edges_from.new.out ≡ edges_from c.args.code.now q = search rules in
    subst (λ (es : List Edge). All CanBeNoted (goals es)) (sym all) (c.requires.place q is).noted

pub keep_edges-requires-clause-few : goal.keep_edges-requires-clause-few
keep_edges-requires-clause-few c =
    let q = c.index-items-k.result in
    let is = read-there c.items.result.now c.args.self.now.places.items c.args.k q c.items.ensures c.index-items-k.is
    c.requires.there in
    let all : c.edges_from.new.out ≡ edges_from c.args.code.now q = search rules in
    subst (λ (es : List Edge). HasFewExits (goals es) c.args.self.now) (sym all) (c.requires.place q is).few

pub returns-in_err-keep_edges-clause-over : goal.returns-in_err-keep_edges-clause-over
returns-in_err-keep_edges-clause-over c = λ e p at. (
    let q = c.index-items-k.result in
    let s = c.args.self.now in
    let is = read-there c.items.result.now s.places.items c.args.k q c.items.ensures c.index-items-k.is
    c.requires.there in
    let all : c.edges_from.new.out ≡ edges_from c.args.code.now q = search rules in
    inr (sym (ap (λ (es : List Edge). are_over (goals es) s) all
    ∙ ap (λ (r : Place). are_over (own_goals c.args.code.now r) s) (one_thing q p (sym is ∙ at)))
    ∙ c.in_err-keep_edges.ensures.over (search rules))
    )

pub returns-clause-noted : goal.returns-clause-noted
returns-clause-noted c = λ p at. (
    let q = c.index-items-k.result in
    let s = c.args.self.now in
    let is = read-there c.items.result.now s.places.items c.args.k q c.items.ensures c.index-items-k.is
    c.requires.there in
    let all : c.edges_from.new.out ≡ edges_from c.args.code.now q = search rules in
    c.in_ok-keep_edges.ensures.noted ∙ ap (λ (es : List Edge). with_goals (goals es) s) all
    ∙ ap (λ (r : Place). with_goals (own_goals c.args.code.now r) s) (one_thing q p (sym is ∙ at))
    )

pub returns-clause-there : goal.returns-clause-there
returns-clause-there c =
    let s = c.args.self.now in
    let grown = with_goals-grows (goals c.edges_from.new.out) s in
    let long = ap (λ (u : Found). length u.places.items) c.in_ok-keep_edges.ensures.noted in
    let all = ap length grown.places in
    let sum = length-append s.places.items grown.rest in
    omega (arith, long, all, sum, c.requires.there)

pub returns-clause-edges : goal.returns-clause-edges
returns-clause-edges c = λ p at others. (
    let q = c.index-items-k.result in
    let s = c.args.self.now in
    let u = c.keep_edges.new.self in
    let is = read-there c.items.result.now s.places.items c.args.k q c.items.ensures c.index-items-k.is
    c.requires.there in
    let all : c.edges_from.new.out ≡ edges_from c.args.code.now q = search rules in
    let none : c.new-list.result ≡ [] = search rules in
    c.in_ok-keep_edges.ensures.edges others
    (subst (λ (es : List Edge). All (λ (e : Edge). IsClassNumber others e.change 0) es) (sym all)
    (own-class others 0 c.args.code.now q))
    ∙ ap (λ (l : List FoundEdge). l ++ found_edges others u c.edges_from.new.out) none
    ∙ ap (found_edges others u) all
    ∙ ap (λ (r : Place). found_edges others u (edges_from c.args.code.now r)) (one_thing q p (sym is ∙ at))
    )

pub returns-clause-fits : goal.returns-clause-fits
returns-clause-fits c = λ p at. (
    let q = c.index-items-k.result in
    let s = c.args.self.now in
    let is = read-there c.items.result.now s.places.items c.args.k q c.items.ensures c.index-items-k.is
    c.requires.there in
    let all : c.edges_from.new.out ≡ edges_from c.args.code.now q = search rules in
    sym (ap (λ (es : List Edge). are_over (goals es) s) all
    ∙ ap (λ (r : Place). are_over (own_goals c.args.code.now r) s) (one_thing q p (sym is ∙ at)))
    ∙ c.in_ok-keep_edges.ensures.fits
    )
