use Rattle.std.proofs.Common.{List, [], map, ap, ◌∙◌}
use Rattle.std.specs.Borrow.{Bor}
use Rattle.pungi_tree.specs.declared.item.FunctionDef.{FunctionDef}
use Rattle.pungi_declared.specs.DeclaredView.{function_view}
use Rattle.pungi_names.specs.NamesView.{file_of}
use Rattle.pungi_types.specs.Files.{Definition, definitions}
use Rattle.pungi_check.proofs.DistinctLemmas.{file-new, file-few}
use Rattle.pungi_check.proofs.OwnLemmas.{all-own}
use Rattle.pungi_check.proofs.check_unit.look.Goals as goal

pub returns-clause-found : goal.returns-clause-found
returns-clause-found c =
    let file = file_of c.args.names.now in
    let none = c.in_ok-refuse_fault.ensures.none in
    record {
      none = none;
      few = file-few file none;
      own = all-own [] (definitions file.items) (file-new file none);
      set = c.in_ok-found.ensures.set;
      names_are = c.in_ok-own.ensures ∙ ap (λ (list : List (Bor FunctionDef)). map (λ (d : Definition). d.name)
          (map function_view list)) c.deref.ensures.value
          ∙ ap (λ (ds : List Definition). map (λ (d : Definition). d.name) ds) c.requires.listed;
      refusals_are = c.in_ok-found.ensures.refusals;
      resolved_are = c.in_ok-found.ensures.resolved;
      sound = c.in_ok-found.ensures.sound;
      rows = c.requires.rows;
      statics_are = c.statics.ensures.counted;
      few_statics = c.statics.ensures.few;
    }
