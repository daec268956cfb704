use Rattle.std.proofs.Common.{◌∙◌, ap}
use Rattle.std.specs.Cmp.Lexicographic.{texts_ties}
use Rattle.pungi_shape.specs.Keys.{is_key}
use Rattle.pungi_shape.specs.Shapes.{numbers_of_shape}
use Rattle.pungi_shape.proofs.keys.have_same_numbers.Goals as goal

pub returns : goal.returns
returns c =
    c.eq.ensures ∙ texts_ties c.as_slice.result.now c.as_slice-2.result.now
    ∙ ap (λ k. is_key k c.as_slice-2.result.now) (c.as_slice.ensures.value ∙ c.in_ok-these.ensures)
    ∙ ap (λ k. is_key (numbers_of_shape c.args.a.now) k) (c.as_slice-2.ensures.value ∙ c.in_ok-those.ensures)
