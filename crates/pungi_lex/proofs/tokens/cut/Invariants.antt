use Rattle.std.proofs.Common.{◌≡◌, ◌+◌, ◌-◌, ◌≤◌, ◌<◌, ◌^◌, [], drop, length}
use Rattle.pungi_base.specs.Names.{AreNames, Extends}
use Rattle.pungi_lex.specs.Join.{place_in}
use Rattle.pungi_lex.specs.Stretch.{places_along, places_left}
use Rattle.pungi_lex.proofs.Progress.{Progress}
use Rattle.pungi_lex.proofs.tokens.cut.Given as goal

abbrev pub invariant-pieces : goal.invariant-pieces
invariant-pieces l = record {
  progress : Progress l.fn.names l.names l.bytes (place_in (places_along l.stretches)) l.tokens.items l.done l.line
      l.touching;
  here : drop l.done (places_along l.stretches) ≡ places_left l.stretches l.spot;
  end : l.spot.left ≡ 0 → places_left l.stretches l.spot ≡ [];
  col : l.spot.at.col + l.spot.left < 2 ^ 32;
  few : length l.tokens.items ≤ l.done;
  within : l.done ≤ length l.bytes;
  grows : Extends l.fn.names l.names;
  names : AreNames l.fn.names → AreNames l.names;
  room : length l.names ≤ length l.fn.names + l.done;
}

abbrev pub decreases-pieces : goal.decreases-pieces
decreases-pieces l = length l.bytes - l.done
