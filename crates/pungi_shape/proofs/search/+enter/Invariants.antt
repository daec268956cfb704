use Rattle.std.proofs.Common.{◌+◌, ◌-◌, ◌*◌, length}
use Rattle.pungi_shape.proofs.search.+enter.Given as goal

abbrev pub decreases-enter_with : goal.decreases-enter_with
decreases-enter_with l = 2 * (l.entered.now.code.now.params - length l.values.now.items)

abbrev pub decreases-enter : goal.decreases-enter
decreases-enter l = 2 * (l.entered.now.code.now.params - length l.values.now.items) + 1
