use Rattle.std.proofs.Common.{◌≡◌, ◌≤◌, ◌+◌, drop}
use Rattle.pungi_parse.specs.item.TypedefScan.{scan_gives}
use Rattle.pungi_parse.specs.Units.{too_deep}
use Rattle.pungi_tree.specs.Placed.{placed, kinds}
use Rattle.pungi_tree.specs.TypeWords.{type_words}
use Rattle.pungi_parse.proofs.item.typedef_scan.scan.Given as goal

abbrev pub invariant-loop-token : goal.invariant-loop-token
invariant-loop-token l = record {
  words : scan_gives l.scan.words.items l.scan.braces l.scan.last l.scan.older l.scan.newer
      (kinds (placed (drop l.token-index l.tokens))) ≡ type_words (kinds (placed l.tokens));
  braces : l.scan.braces ≤ l.token-index;
  waiting : l.scan.older + l.scan.newer ≤ l.token-index;
  flat : l.open ≤ 64;
  deep : too_deep l.open (placed (drop l.token-index l.tokens)) ≡ too_deep 0 (placed l.tokens);
}
