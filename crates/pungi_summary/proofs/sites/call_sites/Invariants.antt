use Rattle.std.proofs.Common.{◌≡◌, length}
use Rattle.pungi_summary.specs.CallPlaces.{AreBelow}
use Rattle.pungi_summary.proofs.Sited.{AreSitesBelow}
use Rattle.pungi_summary.proofs.sites.call_sites.Given as goal

abbrev pub invariant-loop-f : goal.invariant-loop-f
invariant-loop-f l = record {
  table : length l.firsts.items ≡ length l.programs;
  below : AreBelow l.firsts.items l.f;
  sites : AreSitesBelow l.programs l.callees l.f l.sites.items;
}
