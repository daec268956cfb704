use Rattle.std.proofs.Common.{◌∙◌, ◌≡◌, List, Option, map, subst, sym}
use Rattle.pungi_resolved.specs.declared.function.Function.{Function}
use Rattle.pungi_check.specs.Found.{IsChecked, checked_view}
use Rattle.pungi_check.specs.declared.checked.Checked.{Checked}
use Rattle.pungi_resolve.specs.Resolutions.{IsResolved, resolution_view}
use Rattle.pungi_graph_tests.proofs.source.codes_of.Goals as goal

-- what the functions of a checked file do
resolved-of : (x : Checked) (fs : List (Option Function)) → fs ≡ x.resolved.items → IsChecked x
    → IsResolved (checked_view x) (map resolution_view fs)
resolved-of x fs e h =
    subst (λ (gs : List (Option Function)). IsResolved (checked_view x) (map resolution_view gs)) (sym e)
    (record { are = h.resolved_are; own = h.own; set = h.set; rows = h.rows; few = h.few })

pub lower-requires : goal.lower-requires
lower-requires c =
    record {
      file = checked_view c.args.checked.now;
      resolved = resolved-of c.args.checked.now _ c.deref.ensures.value c.requires;
    }

pub returns : goal.returns
returns c =
    c.in_ok-codes.ensures.well_formed (checked_view c.args.checked.now)
    (resolved-of c.args.checked.now _ c.deref.ensures.value c.requires)
    (c.in_ok-names.ensures ∙ c.as_slice.ensures ∙ c.requires.names_are) c.requires.statics_are c.requires.few_statics
