use Rattle.std.proofs.Common.{◌≡◌, ◌∙◌, inr, List, [], ◌++◌, length, sym, ap, subst, arith, rules}
use Rattle.pungi_shape.specs.declared.search.Found.{Found}
use Rattle.pungi_shape.specs.declared.shape.Shape.{Shape}
use Rattle.pungi_shape.specs.Classes.{classes_of}
use Rattle.pungi_shape.specs.Edges.{Edge, edges_from}
use Rattle.pungi_shape.specs.Found.{CallsAt, CanCall, are_over, calls_of, goals_from, goals_of_calls, own_goals}
use Rattle.pungi_shape.specs.Found.{with_goals}
use Rattle.pungi_shape.specs.FoundEdges.{found_edges}
use Rattle.pungi_shape.specs.Places.{Place}
use Rattle.pungi_shape.specs.Programs.{Rises, all_edges, calls_from, exit_cmp}
use Rattle.pungi_shape.proofs.FoundLemmas.{one_thing}
use Rattle.pungi_shape.proofs.VisitLemmas.{can-alone, can-call, goals, own-all, own-over, same-place, someone}
use Rattle.pungi_shape.proofs.VisitLemmas.{still-there}
use Rattle.pungi_shape.proofs.VisitLemmas.{then-kept, then-noted, then-over}
use Rattle.pungi_shape.proofs.search.Found.visit.Goals as goal

pub visit_own-requires-clause-place : goal.visit_own-requires-clause-place
visit_own-requires-clause-place c = λ q at.
    can-alone c.args.code.now (classes_of c.args.classes.now) q c.args.self.now (c.requires.place q at)

pub returns-in_err-list-clause-over : goal.returns-in_err-list-clause-over
returns-in_err-list-clause-over c = λ e q at.
    own-over c.args.code.now (classes_of c.args.classes.now) q c.args.self.now (c.requires.place q at)
    (c.in_err-list.ensures.over (search rules) q at)

pub bounds-items-k : goal.bounds-items-k
bounds-items-k c =
    let there = c.in_ok-list.ensures.there in
    let same = ap length c.items.ensures in
    omega (arith, there, same)

-- ---- where a function is called

pub visit_calls-requires-clause-place : goal.visit_calls-requires-clause-place
visit_calls-requires-clause-place c = λ p there. (
    let code = c.args.code.now in
    let others = classes_of c.args.classes.now in
    let s = c.args.self.now in
    let g = c.in-Some.g in
    let at = someone s.places.items c.args.k c.requires.there in
    let q = at.0 in
    let t = c.visit_own.new.self in
    let noted = c.in_ok-list.ensures.noted q at.1 in
    let same = same-place (own_goals code q) s t noted c.args.k c.items.result.now q c.index-items-k.result at.1
    c.items.ensures c.index-items-k.is c.requires.there in
    let calls : CallsAt code q g = subst (λ (r : Place). CallsAt code r g) same c.in-Some.ensures in
    let one : q ≡ p = one_thing q p (sym (still-there (own_goals code q) s t noted c.args.k q at.1) ∙ there) in
    let can : CanCall code g (others g) q (with_goals (own_goals code q) s) =
    can-call code others q s (c.requires.place q at.1) g calls c.requires.classes in
    rw c.of.ensures (subst (λ (r : Place). CanCall code g (others g) r t) one
    (subst (CanCall code g (others g) q) (sym noted) can))
    )

pub visit_calls-requires-clause-few : goal.visit_calls-requires-clause-few
visit_calls-requires-clause-few c =
    let few = (c.requires.classes c.in-Some.g).few in
    let same = ap length c.of.ensures in
    omega (arith, few, same)

pub visit_calls-requires-clause-rise : goal.visit_calls-requires-clause-rise
visit_calls-requires-clause-rise c =
    subst (Rises exit_cmp) (sym c.of.ensures) (c.requires.classes c.in-Some.g).rise

pub returns-in_err-visit_calls-in-Some-clause-over : goal.returns-in_err-visit_calls-in-Some-clause-over
returns-in_err-visit_calls-in-Some-clause-over c = λ e q at. (
    let code = c.args.code.now in
    let others = classes_of c.args.classes.now in
    let s = c.args.self.now in
    let g = c.in-Some.g in
    let t = c.visit_own.new.self in
    let own = c.in_ok-list.ensures.noted q at in
    let same = same-place (own_goals code q) s t own c.args.k c.items.result.now q c.index-items-k.result at
    c.items.ensures c.index-items-k.is c.requires.there in
    let calls : CallsAt code q g = subst (λ (r : Place). CallsAt code r g) same c.in-Some.ensures in
    let still = still-there (own_goals code q) s t own c.args.k q at in
    let can = c.requires.place q at in
    let lists = c.requires.classes in
    let over : are_over (goals_from code others q) s ≡ are_over (goals_of_calls code q g c.of.result.now) t =
    sym (then-over code others q s can g calls lists (c.in_ok-list.ensures.fits q at))
    ∙ ap (are_over (goals_of_calls code q g (others g))) (sym own)
    ∙ ap (λ (xs : List Shape). are_over (goals_of_calls code q g xs) t) (sym c.of.ensures) in
    inr (over ∙ c.in_err-visit_calls-in-Some.ensures.over (search rules) q still)
    )

pub returns-in_ok-visit_calls-in-Some-clause-noted : goal.returns-in_ok-visit_calls-in-Some-clause-noted
returns-in_ok-visit_calls-in-Some-clause-noted c = λ q at. (
    let code = c.args.code.now in
    let others = classes_of c.args.classes.now in
    let s = c.args.self.now in
    let g = c.in-Some.g in
    let t = c.visit_own.new.self in
    let own = c.in_ok-list.ensures.noted q at in
    let same = same-place (own_goals code q) s t own c.args.k c.items.result.now q c.index-items-k.result at
    c.items.ensures c.index-items-k.is c.requires.there in
    let calls : CallsAt code q g = subst (λ (r : Place). CallsAt code r g) same c.in-Some.ensures in
    let still = still-there (own_goals code q) s t own c.args.k q at in
    let can = c.requires.place q at in
    let lists = c.requires.classes in
    let moved : c.visit_calls.new.self
    ≡ with_goals (goals_of_calls code q g (others g)) (with_goals (own_goals code q) s) =
    c.in_ok-visit_calls-in-Some.ensures.noted q still
    ∙ ap (λ (xs : List Shape). with_goals (goals_of_calls code q g xs) t) c.of.ensures
    ∙ ap (with_goals (goals_of_calls code q g (others g))) own in
    moved ∙ then-noted code others q s can g calls lists
    )

pub returns-in_ok-visit_calls-in-Some-clause-edges : goal.returns-in_ok-visit_calls-in-Some-clause-edges
returns-in_ok-visit_calls-in-Some-clause-edges c = λ q at. (
    let code = c.args.code.now in
    let others = classes_of c.args.classes.now in
    let s = c.args.self.now in
    let g = c.in-Some.g in
    let t = c.visit_own.new.self in
    let own = c.in_ok-list.ensures.noted q at in
    let same = same-place (own_goals code q) s t own c.args.k c.items.result.now q c.index-items-k.result at
    c.items.ensures c.index-items-k.is c.requires.there in
    let calls : CallsAt code q g = subst (λ (r : Place). CallsAt code r g) same c.in-Some.ensures in
    let still = still-there (own_goals code q) s t own c.args.k q at in
    let can = c.requires.place q at in
    let lists = c.requires.classes in
    let moved : c.visit_calls.new.self
    ≡ with_goals (goals_of_calls code q g (others g)) (with_goals (own_goals code q) s) =
    c.in_ok-visit_calls-in-Some.ensures.noted q still
    ∙ ap (λ (xs : List Shape). with_goals (goals_of_calls code q g xs) t) c.of.ensures
    ∙ ap (with_goals (goals_of_calls code q g (others g))) own in
    let then = c.in_ok-list.list in
    let u = c.visit_calls.new.self in
    let first = c.in_ok-list.ensures.edges q at others
    ∙ ap (λ (v : Found). found_edges others v (edges_from code q)) own in
    let more = c.in_ok-visit_calls-in-Some.ensures.edges q still others (sym c.of.ensures)
    ∙ ap (λ (xs : List Shape). then ++ found_edges others u (calls_of code q g xs)) c.of.ensures
    ∙ ap (λ (v : Found). then ++ found_edges others v (calls_of code q g (others g))) moved in
    then-kept code others q s can g calls lists then c.visit_calls.new.list first more
    ∙ ap (λ (v : Found). found_edges others v (all_edges code others q)) (sym moved)
    )

pub returns-in_ok-visit_calls-in-Some-clause-fits : goal.returns-in_ok-visit_calls-in-Some-clause-fits
returns-in_ok-visit_calls-in-Some-clause-fits c = λ q at. (
    let code = c.args.code.now in
    let others = classes_of c.args.classes.now in
    let s = c.args.self.now in
    let g = c.in-Some.g in
    let t = c.visit_own.new.self in
    let own = c.in_ok-list.ensures.noted q at in
    let same = same-place (own_goals code q) s t own c.args.k c.items.result.now q c.index-items-k.result at
    c.items.ensures c.index-items-k.is c.requires.there in
    let calls : CallsAt code q g = subst (λ (r : Place). CallsAt code r g) same c.in-Some.ensures in
    let still = still-there (own_goals code q) s t own c.args.k q at in
    let can = c.requires.place q at in
    let lists = c.requires.classes in
    let over : are_over (goals_from code others q) s ≡ are_over (goals_of_calls code q g c.of.result.now) t =
    sym (then-over code others q s can g calls lists (c.in_ok-list.ensures.fits q at))
    ∙ ap (are_over (goals_of_calls code q g (others g))) (sym own)
    ∙ ap (λ (xs : List Shape). are_over (goals_of_calls code q g xs) t) (sym c.of.ensures) in
    over ∙ c.in_ok-visit_calls-in-Some.ensures.fits q still
    )

-- ---- where none is

pub returns-in-None-clause-noted : goal.returns-in-None-clause-noted
returns-in-None-clause-noted c = λ q at. (
    let code = c.args.code.now in
    let others = classes_of c.args.classes.now in
    let s = c.args.self.now in
    let t = c.visit_own.new.self in
    let own = c.in_ok-list.ensures.noted q at in
    let same = same-place (own_goals code q) s t own c.args.k c.items.result.now q c.index-items-k.result at
    c.items.ensures c.index-items-k.is c.requires.there in
    let none : calls_from code others q ≡ [] = subst (λ (r : Place). calls_from code others r ≡ []) same
    (c.in-None.ensures others c.requires.classes) in
    own ∙ ap (λ (es : List Edge). with_goals (goals es) s) (own-all code others q none)
    )

pub returns-in-None-clause-edges : goal.returns-in-None-clause-edges
returns-in-None-clause-edges c = λ q at. (
    let code = c.args.code.now in
    let others = classes_of c.args.classes.now in
    let s = c.args.self.now in
    let t = c.visit_own.new.self in
    let own = c.in_ok-list.ensures.noted q at in
    let same = same-place (own_goals code q) s t own c.args.k c.items.result.now q c.index-items-k.result at
    c.items.ensures c.index-items-k.is c.requires.there in
    let none : calls_from code others q ≡ [] = subst (λ (r : Place). calls_from code others r ≡ []) same
    (c.in-None.ensures others c.requires.classes) in
    c.in_ok-list.ensures.edges q at others ∙ ap (found_edges others t) (own-all code others q none)
    )

pub returns-in-None-clause-fits : goal.returns-in-None-clause-fits
returns-in-None-clause-fits c = λ q at. (
    let code = c.args.code.now in
    let others = classes_of c.args.classes.now in
    let s = c.args.self.now in
    let t = c.visit_own.new.self in
    let own = c.in_ok-list.ensures.noted q at in
    let same = same-place (own_goals code q) s t own c.args.k c.items.result.now q c.index-items-k.result at
    c.items.ensures c.index-items-k.is c.requires.there in
    let none : calls_from code others q ≡ [] = subst (λ (r : Place). calls_from code others r ≡ []) same
    (c.in-None.ensures others c.requires.classes) in
    sym (ap (λ (es : List Edge). are_over (goals es) s) (own-all code others q none))
    ∙ c.in_ok-list.ensures.fits q at
    )
