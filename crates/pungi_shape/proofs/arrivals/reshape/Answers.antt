use Rattle.std.proofs.Common.{◌≡◌, ◌∙◌, false, length, replicate, sym, arith}
use Rattle.pungi_shape.specs.Arrivals.{anchors, settle_slots, slots_in_order, trim}
use Rattle.pungi_shape.specs.Numbered.{mark_all, no_numbers, number_tokens}
use Rattle.pungi_shape.specs.Shapes.{before_slots, holders, tokens_in}
use Rattle.pungi_shape.proofs.ArrivalWhole.{all_drops, before_below, number_few, numbering_of_all, renumbered, settled}
use Rattle.pungi_shape.proofs.ArrivalWhole.{settled_tokens, trim_length, trim_tokens}
use Rattle.pungi_shape.proofs.NumberedLemmas.{numbering_of}
use Rattle.pungi_shape.proofs.arrivals.reshape.Goals as goal

pub slots_in_order-requires : goal.slots_in_order-requires
slots_in_order-requires c t =
    let s = c.args.scene.now.shape in
    let k = trim c.args.code.now c.args.p s in
    let below = before_below (length s.made) k (trim_tokens c.args.code.now c.args.p (length s.made) s
    c.requires.scene.tokens) in
    let few = number_few (length s.made) (tokens_in (before_slots k)) below t in
    rw (c.in_ok-numbering.ensures, c.trim.ensures) (omega (arith, few, c.requires.few))

pub rows_under-requires-clause-tokens : goal.rows_under-requires-clause-tokens
rows_under-requires-clause-tokens c =
    let s = c.args.scene.now.shape in
    let n = length s.made in
    let k = trim c.args.code.now c.args.p s in
    let t = trim_tokens c.args.code.now c.args.p n s c.requires.scene.tokens in
    let e1 : c.trim.new.shape ≡ k = c.trim.ensures in
    let e2 : c.in_ok-marks.marks ≡ mark_all (anchors k) (replicate n false) = rw e1 at c.in_ok-marks.ensures in
    let e3 : c.in_ok-numbering.numbering ≡ number_tokens (tokens_in (before_slots k)) (no_numbers n) =
    rw e1 at c.in_ok-numbering.ensures in
    let e4 : c.in_ok-scene.field-0 ≡ slots_in_order k =
    (rw (c.as_slice.ensures, c.as_slice-slots.ensures, e1, e2, e3) at c.in_ok-scene.ensures) ∙ settled k n t in
    let ts = tokens_in (holders (settle_slots k)) in
    let e5 : c.put_slots.new.self ≡ number_tokens ts (no_numbers n) =
    (rw (c.as_slice-2.ensures, e4, e3) at c.in_ok-put_slots.ensures) ∙ numbering_of_all n k in
    let below = settled_tokens n k t in
    rw (c.as_slice-3.ensures, e5, e4, e1) (numbering_of n ts below).tokens

pub rows_under-requires-clause-vars : goal.rows_under-requires-clause-vars
rows_under-requires-clause-vars c =
    let e1 = c.trim.ensures in
    rw e1 (c.requires.scene.vars ∙ sym (trim_length c.args.code.now c.args.p c.args.scene.now.shape))

pub drops_under-requires : goal.drops_under-requires
drops_under-requires c =
    let s = c.args.scene.now.shape in
    let n = length s.made in
    let k = trim c.args.code.now c.args.p s in
    let t = trim_tokens c.args.code.now c.args.p n s c.requires.scene.tokens in
    let e1 : c.trim.new.shape ≡ k = c.trim.ensures in
    let e2 : c.in_ok-marks.marks ≡ mark_all (anchors k) (replicate n false) = rw e1 at c.in_ok-marks.ensures in
    let e3 : c.in_ok-numbering.numbering ≡ number_tokens (tokens_in (before_slots k)) (no_numbers n) =
    rw e1 at c.in_ok-numbering.ensures in
    let e4 : c.in_ok-scene.field-0 ≡ slots_in_order k =
    (rw (c.as_slice.ensures, c.as_slice-slots.ensures, e1, e2, e3) at c.in_ok-scene.ensures) ∙ settled k n t in
    let ts = tokens_in (holders (settle_slots k)) in
    let e5 : c.put_slots.new.self ≡ number_tokens ts (no_numbers n) =
    (rw (c.as_slice-2.ensures, e4, e3) at c.in_ok-put_slots.ensures) ∙ numbering_of_all n k in
    let below = settled_tokens n k t in
    rw (c.as_slice-5.ensures, c.as_slice-4.ensures, e5) ((numbering_of n ts below).count
    ∙ sym c.requires.scene.balances)

pub renumber-requires : goal.renumber-requires
renumber-requires c u =
    let s = c.args.scene.now.shape in
    let n = length s.made in
    let k = trim c.args.code.now c.args.p s in
    let t = trim_tokens c.args.code.now c.args.p n s c.requires.scene.tokens in
    let e1 : c.trim.new.shape ≡ k = c.trim.ensures in
    let e2 : c.in_ok-marks.marks ≡ mark_all (anchors k) (replicate n false) = rw e1 at c.in_ok-marks.ensures in
    let e3 : c.in_ok-numbering.numbering ≡ number_tokens (tokens_in (before_slots k)) (no_numbers n) =
    rw e1 at c.in_ok-numbering.ensures in
    let e4 : c.in_ok-scene.field-0 ≡ slots_in_order k =
    (rw (c.as_slice.ensures, c.as_slice-slots.ensures, e1, e2, e3) at c.in_ok-scene.ensures) ∙ settled k n t in
    let ts = tokens_in (holders (settle_slots k)) in
    let e5 : c.put_slots.new.self ≡ number_tokens ts (no_numbers n) =
    (rw (c.as_slice-2.ensures, e4, e3) at c.in_ok-put_slots.ensures) ∙ numbering_of_all n k in
    let below = settled_tokens n k t in
    let few = number_few n ts below u in
    rw e5 (omega (arith, few, c.requires.few))

pub returns-clause-shape : goal.returns-clause-shape
returns-clause-shape c =
    let s = c.args.scene.now.shape in
    let n = length s.made in
    let k = trim c.args.code.now c.args.p s in
    let t = trim_tokens c.args.code.now c.args.p n s c.requires.scene.tokens in
    let e1 : c.trim.new.shape ≡ k = c.trim.ensures in
    let e2 : c.in_ok-marks.marks ≡ mark_all (anchors k) (replicate n false) = rw e1 at c.in_ok-marks.ensures in
    let e3 : c.in_ok-numbering.numbering ≡ number_tokens (tokens_in (before_slots k)) (no_numbers n) =
    rw e1 at c.in_ok-numbering.ensures in
    let e4 : c.in_ok-scene.field-0 ≡ slots_in_order k =
    (rw (c.as_slice.ensures, c.as_slice-slots.ensures, e1, e2, e3) at c.in_ok-scene.ensures) ∙ settled k n t in
    let ts = tokens_in (holders (settle_slots k)) in
    let e5 : c.put_slots.new.self ≡ number_tokens ts (no_numbers n) =
    (rw (c.as_slice-2.ensures, e4, e3) at c.in_ok-put_slots.ensures) ∙ numbering_of_all n k in
    let below = settled_tokens n k t in
    (rw (c.as_slice-6.ensures, e5, e4, e2, e1) at c.in_ok-renumber.ensures)
    ∙ renumbered n (settle_slots k) below

pub returns-clause-rows : goal.returns-clause-rows
returns-clause-rows c =
    let s = c.args.scene.now.shape in
    let n = length s.made in
    let k = trim c.args.code.now c.args.p s in
    let t = trim_tokens c.args.code.now c.args.p n s c.requires.scene.tokens in
    let e1 : c.trim.new.shape ≡ k = c.trim.ensures in
    let e2 : c.in_ok-marks.marks ≡ mark_all (anchors k) (replicate n false) = rw e1 at c.in_ok-marks.ensures in
    let e3 : c.in_ok-numbering.numbering ≡ number_tokens (tokens_in (before_slots k)) (no_numbers n) =
    rw e1 at c.in_ok-numbering.ensures in
    let e4 : c.in_ok-scene.field-0 ≡ slots_in_order k =
    (rw (c.as_slice.ensures, c.as_slice-slots.ensures, e1, e2, e3) at c.in_ok-scene.ensures) ∙ settled k n t in
    rw (e1, e4) at c.in_ok-rows.ensures

pub returns-clause-drops : goal.returns-clause-drops
returns-clause-drops c =
    let s = c.args.scene.now.shape in
    let n = length s.made in
    let k = trim c.args.code.now c.args.p s in
    let t = trim_tokens c.args.code.now c.args.p n s c.requires.scene.tokens in
    let e1 : c.trim.new.shape ≡ k = c.trim.ensures in
    let e2 : c.in_ok-marks.marks ≡ mark_all (anchors k) (replicate n false) = rw e1 at c.in_ok-marks.ensures in
    let e3 : c.in_ok-numbering.numbering ≡ number_tokens (tokens_in (before_slots k)) (no_numbers n) =
    rw e1 at c.in_ok-numbering.ensures in
    let e4 : c.in_ok-scene.field-0 ≡ slots_in_order k =
    (rw (c.as_slice.ensures, c.as_slice-slots.ensures, e1, e2, e3) at c.in_ok-scene.ensures) ∙ settled k n t in
    let ts = tokens_in (holders (settle_slots k)) in
    let e5 : c.put_slots.new.self ≡ number_tokens ts (no_numbers n) =
    (rw (c.as_slice-2.ensures, e4, e3) at c.in_ok-put_slots.ensures) ∙ numbering_of_all n k in
    let below = settled_tokens n k t in
    (rw (c.as_slice-5.ensures, c.as_slice-4.ensures, e5) at c.in_ok-drops.ensures)
    ∙ all_drops n ts c.args.scene.now.balances below c.requires.scene.balances
