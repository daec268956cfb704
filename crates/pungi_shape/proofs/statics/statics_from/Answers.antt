use Rattle.std.proofs.Common.{◌∙◌, sym}
use Rattle.std.specs.List.{flat_map}
use Rattle.pungi_shape.specs.Named.{functions_from, statics_from}
use Rattle.pungi_shape.proofs.NamedLemmas.{in_order_is}
use Rattle.pungi_shape.proofs.SameNumbers.{same-in_order}
use Rattle.pungi_shape.proofs.sound.InOrder.{among_some}
use Rattle.pungi_shape.proofs.sound.Members.{among_each}
use Rattle.pungi_shape.proofs.statics.statics_from.Goals as goal

pub returns : goal.returns
returns c =
    let codes = c.args.codes.now in
    let fs = c.in_ok-functions.functions.items in
    let all = functions_from codes c.args.f in
    let are = c.in_ok-functions.ensures.from in
    c.new.ensures
    ∙ rw (c.in_ok-put_codes.ensures, c.as_slice.ensures.value, c.new-ns.ensures.items)
    (sym (in_order_is (flat_map (statics_from codes) fs))
    ∙ same-in_order (flat_map (statics_from codes) fs) (flat_map (statics_from codes) all)
    (λ k there.
    let s = among_some (statics_from codes) fs k there in
    among_each (statics_from codes) all s.0 k (are.only s.0 s.1.0) s.1.1)
    (λ k there.
    let s = among_some (statics_from codes) all k there in
    among_each (statics_from codes) fs s.0 k (are.there s.0 s.1.0) s.1.1))
