use Rattle.std.proofs.Common.{◌≡◌, ◌<◌, ◌≤◌, true, take}
use Rattle.std.specs.List.{list_all}
use Rattle.pungi_base.specs.CWords.{is_digit}
use Rattle.pungi_config.specs.Command.{decimal}
use Rattle.pungi_config.proofs.command.trial_number.Given as goal

abbrev pub invariant-loop-digit : goal.invariant-loop-digit
invariant-loop-digit l = record {
  digits : list_all is_digit (take l.digit-index l.text) ≡ true;
  value : l.number ≡ decimal (take l.digit-index l.text);
  one : l.digit-index ≤ 1 → l.number < 10;
  two : l.digit-index ≤ 2 → l.number < 100;
  three : l.digit-index ≤ 3 → l.number < 1000;
  none : l.digit-index ≤ 0 → l.number ≡ 0;
}
