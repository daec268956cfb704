use Rattle.std.proofs.Common.{sym}
use Rattle.pungi_affine.proofs.Rows.{width_is}
use Rattle.pungi_affine.proofs.row.Row.width.Goals as goal

pub returns : goal.returns
returns c = sym (width_is c.args.self.now)
