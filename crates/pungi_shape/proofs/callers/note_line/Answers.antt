use Rattle.std.proofs.Common.{◌≡◌, ◌∙◌, ◌<◌, ℕ, List, [], ◌∷◌, ◌++◌, length, ap, arith, subst, sym}
use Rattle.std.specs.List.{IsAmong}
use Rattle.std.specs.Prelude.{slice_set}
use Rattle.std.proofs.lemmas.List.{get_or_read}
use Rattle.pungi_links.specs.Ring.{Stands}
use Rattle.pungi_shape.specs.Callers.{AreNoted, callers_of}
use Rattle.pungi_shape.specs.Named.{callee_of, callees_in}
use Rattle.pungi_shape.proofs.CallerLemmas.{noted-before, noted-now}
use Rattle.pungi_shape.proofs.sound.Members.{first_among}
use Rattle.pungi_shape.proofs.callers.note_line.Goals as goal

pub index-requires : goal.index-requires
index-requires c =
    let g = c.in-Call.g in
    let called : callees_in c.args.line.now ≡ g ∷ [] = ap callee_of c.in-Call.is in
    let lt = c.requires g (subst (λ gs. IsAmong gs g) (sym called) (first_among g [])) in
    omega (arith, lt, c.args.lists.now.ok.0)

pub index_mut-requires : goal.index_mut-requires
index_mut-requires c =
    let g = c.in-Call.g in
    let called : callees_in c.args.line.now ≡ g ∷ [] = ap callee_of c.in-Call.is in
    let lt = c.requires g (subst (λ gs. IsAmong gs g) (sym called) (first_among g [])) in
    omega (arith, lt, c.args.lists.now.ok.0)

pub returns-in_ok-push : goal.returns-in_ok-push
returns-in_ok-push c =
    let f = c.args.f in
    let g = c.in-Call.g in
    let lists : List (List ℕ) = c.args.lists.now.items in
    let called : callees_in c.args.line.now ≡ g ∷ [] = ap callee_of c.in-Call.is in
    let lt : g < length lists = c.requires g (subst (λ gs. IsAmong gs g) (sym called) (first_among g [])) in
    let none : List ℕ = [] in
    let old = get_or_read lists g c.index_mut.result.now lt c.index_mut.ensures.value none in
    let new : c.push.new.self ≡ callers_of lists g ++ f ∷ [] =
    c.in_ok-push.ensures.ok ∙ ap (λ (l : List ℕ). l ++ f ∷ []) old in
    subst (λ gs. AreNoted f gs lists (slice_set lists g c.push.new.self)) (sym called)
    (subst (λ (l : List ℕ). AreNoted f (g ∷ []) lists (slice_set lists g l)) (sym new) (noted-now f g lists lt))

pub returns-else-not-is_last : goal.returns-else-not-is_last
returns-else-not-is_last c =
    let f = c.args.f in
    let g = c.in-Call.g in
    let lists : List (List ℕ) = c.args.lists.now.items in
    let called : callees_in c.args.line.now ≡ g ∷ [] = ap callee_of c.in-Call.is in
    let lt : g < length lists = c.requires g (subst (λ gs. IsAmong gs g) (sym called) (first_among g [])) in
    let none : List ℕ = [] in
    let old = get_or_read lists g c.index.result.now lt c.index.ensures none in
    let stands = c.is_last.ensures c.if-not-is_last.false in
    subst (λ gs. AreNoted f gs lists lists) (sym called)
    (noted-before f g lists (subst (Stands f) (c.as_slice.ensures ∙ old) stands))
