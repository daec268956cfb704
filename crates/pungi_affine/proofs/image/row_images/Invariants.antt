use Rattle.std.proofs.Common.{take}
use Rattle.pungi_affine.specs.Forms.{lines}
use Rattle.pungi_affine.specs.Images.{AreImagesOf}
use Rattle.pungi_affine.proofs.image.row_images.Given as goal

abbrev pub invariant-loop-row : goal.invariant-loop-row
invariant-loop-row l = AreImagesOf l.matrix (lines (take l.row-index l.rows)) l.images.items
