use Rattle.std.proofs.Common.{◌≡◌, ◌∙◌, ◌<◌, Some, None, [], List, ℕ, length, refl, arith, sym, ap, subst, slice_get}
use Rattle.std.proofs.Common.{true}
use Rattle.std.proofs.lemmas.List.{get_or_read}
use Rattle.pungi_links.specs.Ring.{Stands}
use Rattle.pungi_code.specs.Run.{code_at}
use Rattle.pungi_shape.specs.AllClasses.{IsKept}
use Rattle.pungi_shape.specs.Callers.{callers_of}
use Rattle.pungi_shape.specs.Classes.{has_list}
use Rattle.pungi_shape.proofs.ClassLemmas.{listed-is}
use Rattle.pungi_shape.proofs.NamedLemmas.{code_there}
use Rattle.pungi_shape.proofs.SettleLemmas.{settling-kept, settling-skip, work-kept}
use Rattle.pungi_shape.proofs.all_classes.take_function.Goals as goal

pub returns-in_default-clause-settling : goal.returns-in_default-clause-settling
returns-in_default-clause-settling c =
    let codes = c.args.codes.now in
    let f = c.args.f in
    let none : code_at codes f ≡ None =
    code_there codes f (length codes.codes) c.as_slice.result.now c.index-as_slice-f.result c.as_slice.ensures
    refl c.requires.function c.index-as_slice-f.is ∙ c.in_default.is in
    settling-skip codes c.args.classes.now f c.args.pending.now.list (λ code xs is at. absurd (cc (is, none)))
    c.requires.settling

pub returns-then-not-has-clause-settling : goal.returns-then-not-has-clause-settling
returns-then-not-has-clause-settling c =
    let cs = c.args.classes.now in
    settling-skip c.args.codes.now cs c.args.f c.args.pending.now.list
    (λ code xs is at.
    let h : has_list (slice_get cs c.args.f) ≡ true = ap has_list at in
    absurd (cc (h, c.has.ensures, c.if-not-has.true)))
    c.requires.settling

pub search_classes-requires-clause-known : goal.search_classes-requires-clause-known
search_classes-requires-clause-known c = λ g xs at. (c.requires.settling.known g xs at).known

pub keep-requires-clause-callers : goal.keep-requires-clause-callers
keep-requires-clause-callers c = λ g s.
    let n = c.requires.callers.count in
    let lists : List (List ℕ) = c.args.callers.now in
    let none : List ℕ = [] in
    let lt : c.args.f < length lists = omega (arith, n, c.requires.function) in
    let same = c.as_slice-2.ensures ∙ get_or_read lists c.args.f c.index-callers-f.result lt c.index-callers-f.is
    none in
    let below = c.requires.callers.below g c.args.f (subst (Stands g) same s) in
    let limit = c.requires.limit in
    omega (arith, below, limit)

pub returns-clause-settling : goal.returns-clause-settling
returns-clause-settling c =
    let f = c.args.f in
    let cs = c.args.classes.now in
    let n = c.requires.callers.count in
    let lists : List (List ℕ) = c.args.callers.now in
    let none : List ℕ = [] in
    let lt : f < length lists = omega (arith, n, c.requires.function) in
    let same = c.as_slice-2.ensures ∙ get_or_read lists f c.index-callers-f.result lt c.index-callers-f.is none in
    let was = listed-is (slice_get cs f) (sym c.has.ensures ∙ c.if-not-has.false) in
    settling-kept c.args.codes.now cs f c.args.pending.now.list was.0 was.1 c.requires.settling c.in_ok-found.found
    lists c.keep.new.classes c.keep.new.pending.list c.in_ok-found.ensures c.requires.callers
    (subst (λ l. IsKept c.in_ok-found.found f l cs c.keep.new.classes c.args.pending.now.list c.keep.new.pending.list)
    same c.keep.ensures.kept)

pub returns-clause-work : goal.returns-clause-work
returns-clause-work c =
    let f = c.args.f in
    let cs = c.args.classes.now in
    let n = c.requires.callers.count in
    let lists : List (List ℕ) = c.args.callers.now in
    let none : List ℕ = [] in
    let lt : f < length lists = omega (arith, n, c.requires.function) in
    let same = c.as_slice-2.ensures ∙ get_or_read lists f c.index-callers-f.result lt c.index-callers-f.is none in
    let was = listed-is (slice_get cs f) (sym c.has.ensures ∙ c.if-not-has.false) in
    work-kept c.args.codes.now cs f c.args.pending.now.list was.0 was.1 c.requires.settling c.in_ok-found.found
    lists c.keep.new.classes c.keep.new.pending.list lt c.in_ok-found.ensures
    (subst (λ l. IsKept c.in_ok-found.found f l cs c.keep.new.classes c.args.pending.now.list c.keep.new.pending.list)
    same c.keep.ensures.kept)
