use Rattle.std.proofs.Common.{List, Option, map, sym, subst, arith}
use Rattle.pungi_resolved.specs.declared.function.Function.{Function}
use Rattle.pungi_resolve.specs.Resolutions.{IsResolved, resolution_view}
use Rattle.pungi_check.specs.Found.{checked_view}
use Rattle.pungi_verdict.proofs.Forms.{immortals-there}
use Rattle.pungi_tests.proofs.source.codes_of.Goals as goal

pub lower-requires : goal.lower-requires
lower-requires c =
    let h = c.in_ok-checked.ensures.checked in
    let view = checked_view c.in_ok-checked.checked in
    record {
      file = view;
      resolved = subst (λ (fs : List (Option Function)). IsResolved view (map resolution_view fs))
          (sym c.deref.ensures.value)
          (record { are = h.resolved_are; own = h.own; set = h.set; rows = h.rows; few = h.few });
    }

pub returns-clause-formed : goal.returns-clause-formed
returns-clause-formed c =
    let h = c.in_ok-checked.ensures.checked in
    let view = checked_view c.in_ok-checked.checked in
    c.in_ok-codes.ensures.well_formed view (subst (λ (fs : List (Option Function)). IsResolved view
    (map resolution_view fs)) (sym c.deref.ensures.value)
    (record { are = h.resolved_are; own = h.own; set = h.set; rows = h.rows; few = h.few })) h.names_are h.statics_are
    h.few_statics

pub returns-clause-immortals : goal.returns-clause-immortals
returns-clause-immortals c = λ f.
    let are = c.in_ok-checked.ensures.checked.statics_are in
    let same = c.in_ok-codes.ensures.statics in
    immortals-there c.in_ok-codes.codes f (omega (arith, are, same))
