use Rattle.std.proofs.Common.{◌≡◌, ◌∙◌, ap, arith, length, is_some, nat_eq}
use Rattle.std.proofs.lemmas.List.{length-map}
use Rattle.indexmap.specs.IndexMap.{get}
use Rattle.pungi_tree.specs.UnitView.{unit_view}
use Rattle.pungi_types.specs.Files.{typedefs}
use Rattle.pungi_types.specs.Kinds.{typedef_in, tagged_in}
use Rattle.pungi_types.specs.TypesView.{typedef_view}
use Rattle.pungi_names.specs.Depth.{known_at}
use Rattle.pungi_names.proofs.CoresLemmas.{followed-found}
use Rattle.pungi_names.proofs.typedefs.followed_typedefs.Goals as goal

pub invariant_of-result : goal.invariant_of-result
invariant_of-result c =
    let file = unit_view c.args.unit.now in
    let items = c.args.typedefs.now.items in
    let count : c.len.result ≡ length (typedefs file) = omega (
      arith,
      c.len.ensures,
      c.args.typedefs.now.ok.0,
      length-map items typedef_view,
      ap length c.requires.typedefs,
    ) in
    record {
      tags_found = λ w. c.in_ok-words.ensures w ∙ ap (λ ts. is_some (tagged_in ts w)) c.requires.tags;
      followed = λ w h.
          followed-found file (get nat_eq c.in-Ok.reached) c.in-Ok.ensures.reach
          (λ q. c.in-Ok.ensures.words q ∙ ap (λ ts. is_some (typedef_in ts q)) c.requires.typedefs) w h c.len.result
          ∙ ap (λ n. known_at file n w) count;
    }
