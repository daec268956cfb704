use Rattle.std.proofs.Common.{◌≡◌, ◌++◌, drop, map, true}
use Rattle.std.specs.List.{list_all}
use Rattle.pungi_declared.specs.DeclaredView.{function_view}
use Rattle.pungi_names.specs.NamesView.{file_of}
use Rattle.pungi_types.specs.Files.{AreOwn, definitions}
use Rattle.pungi_resolve.specs.Resolutions.{resolution_of, resolution_view}
use Rattle.pungi_check.specs.Found.{is_sound_function}
use Rattle.pungi_check.proofs.resolutions.resolutions.Given as goal

abbrev pub invariant-loop-i : goal.invariant-loop-i
invariant-loop-i l =
    (map resolution_view l.all.items ++ map (resolution_of (file_of l.names) l.refused.keys)
    (map function_view (drop l.i l.list))
    ≡ map (resolution_of (file_of l.names) l.refused.keys) (map function_view l.list))
    × AreOwn (definitions (file_of l.names).items) (map function_view (drop l.i l.list))
    × (list_all is_sound_function (map resolution_view l.all.items) ≡ true)
