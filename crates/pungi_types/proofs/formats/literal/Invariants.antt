use Rattle.std.proofs.Common.{◌≡◌, ◌++◌, drop}
use Rattle.pungi_types.specs.Formats.{literal}
use Rattle.pungi_types.proofs.formats.literal.Given as goal

abbrev pub invariant-loop-part : goal.invariant-loop-part
invariant-loop-part g l =
    l.text.items ++ literal (g.N.Lookup.env l.names).file.texts (drop l.part-index l.parts)
    ≡ literal (g.N.Lookup.env l.names).file.texts l.parts
