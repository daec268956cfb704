use Rattle.std.proofs.Common.{◌∙◌, refl, sym}
use Rattle.pungi_shape.proofs.NamedLemmas.{code_past, code_there, statics_of_lines}
use Rattle.pungi_shape.proofs.named.statics_of.Goals as goal
use Rattle.pungi_shape.proofs.named.statics_of.Goals.{then-f-len+in-Some+in_ok-put_lines, then-f-len+in_default}
use Rattle.pungi_shape.proofs.named.statics_of.Goals.{else-f-len}

pub returns : goal.returns
returns c = c.new.ensures ∙ elim c.if-f-len.branch [
  | then-f-len+in-Some+in_ok-put_lines w ↦
      let is = code_there c.args.codes.now c.args.f c.len.result w.as_slice.result.now w.index-as_slice-f.result
      w.as_slice.ensures c.len.ensures w.if-f-len.true w.index-as_slice-f.is ∙ w.in-Some.is in
      rw (w.ns-is, w.in_ok-put_lines.ensures, w.as_slice-in-Some.ensures, c.new-ns.ensures.items, is) refl
  | then-f-len+in_default w ↦
      let is = code_there c.args.codes.now c.args.f c.len.result w.as_slice.result.now w.index-as_slice-f.result
      w.as_slice.ensures c.len.ensures w.if-f-len.true w.index-as_slice-f.is ∙ w.in_default.is in
      rw (w.ns-is, c.new-ns.ensures.items, is) refl
  | else-f-len w ↦
      let is = code_past c.args.codes.now c.args.f c.len.result c.len.ensures w.if-f-len.false in
      rw (w.ns-is, c.new-ns.ensures.items, is) refl
] ∙ sym (statics_of_lines c.args.codes.now c.args.f c.requires)
