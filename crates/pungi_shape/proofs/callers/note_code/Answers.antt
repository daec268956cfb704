use Rattle.std.proofs.Common.{◌≡◌, ◌∙◌, refl, length, [], Some, None, arith, subst, sym}
use Rattle.std.specs.List.{IsAmong, flat_map}
use Rattle.pungi_code.specs.Run.{code_at}
use Rattle.pungi_shape.specs.Callers.{AreNoted}
use Rattle.pungi_shape.specs.Named.{callees_in, callees_of}
use Rattle.pungi_shape.proofs.CallerLemmas.{noted-as, noted-none}
use Rattle.pungi_shape.proofs.CalleeLemmas.{callee-below, called-lines, none-called, on-ok}
use Rattle.pungi_shape.proofs.NamedLemmas.{code_there}
use Rattle.pungi_shape.proofs.callers.note_code.Goals as goal

pub note_lines-requires : goal.note_lines-requires
note_lines-requires c = λ g there.
    let codes = c.args.codes.now in
    let is : code_at codes c.args.f ≡ Some c.in-Some.code =
    code_there codes c.args.f (length codes.codes) c.as_slice.result.now c.index-as_slice-f.result c.as_slice.ensures
    refl c.requires.there c.index-as_slice-f.is ∙ c.in-Some.is in
    let lt = callee-below codes c.args.f g c.in-Some.code c.requires.well_formed is
    (subst (λ ls. IsAmong (flat_map callees_in ls) g) c.as_slice-in-Some.ensures there) in
    let count = c.requires.count in
    omega (arith, lt, count)

pub returns-in-Some : goal.returns-in-Some
returns-in-Some c =
    let codes = c.args.codes.now in
    let f = c.args.f in
    let code = c.in-Some.code in
    let is : code_at codes f ≡ Some code =
    code_there codes f (length codes.codes) c.as_slice.result.now c.index-as_slice-f.result c.as_slice.ensures
    refl c.requires.there c.index-as_slice-f.is ∙ c.in-Some.is in
    let old = c.args.lists.now.items in
    let new = c.note_lines.new.lists.items in
    on-ok c.note_lines.result (AreNoted f (flat_map callees_in c.as_slice-in-Some.result.now) old new)
    (AreNoted f (callees_of codes f) old new)
    (noted-as f (flat_map callees_in c.as_slice-in-Some.result.now) (callees_of codes f) old new
    (λ g there. subst (λ ls. IsAmong (flat_map callees_in ls) g) (sym c.as_slice-in-Some.ensures)
    (called-lines codes f g code is there)))
    c.note_lines.ensures

pub returns-in-None : goal.returns-in-None
returns-in-None c =
    let codes = c.args.codes.now in
    let f = c.args.f in
    let is : code_at codes f ≡ None =
    code_there codes f (length codes.codes) c.as_slice.result.now c.index-as_slice-f.result c.as_slice.ensures
    refl c.requires.there c.index-as_slice-f.is ∙ c.in-None.is in
    let lists = c.args.lists.now.items in
    noted-as f [] (callees_of codes f) lists lists (λ g there. absurd (none-called codes f g is there))
    (noted-none f lists)
