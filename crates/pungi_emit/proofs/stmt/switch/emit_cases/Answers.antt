use Rattle.std.proofs.Common.{◌≡◌, ◌+◌, ◌<◌, ◌∷◌, ◌++◌, length, map, drop, get_or, sym, ap, ◌∙◌, arith}
use Rattle.std.proofs.lemmas.List.{at_drop_more}
use Rattle.pungi_resolved.specs.ActionView.{action_view}
use Rattle.pungi_meaning.specs.Stmts.{cases_of}
use Rattle.pungi_emit.specs.stmt.Cases.{cases_at}
use Rattle.pungi_layout.specs.code.Scopes.{placed_cases}
use Rattle.pungi_layout.specs.code.StmtCode.{case_code}
use Rattle.pungi_emit.proofs.code.Lists.{next_one}
use Rattle.pungi_emit.proofs.stmt.Cases.{more_cases, own_cases_long, cases_split, cases_grown}
use Rattle.pungi_emit.proofs.stmt.switch.emit_cases.Goals as goal

pub loop-i-preserved : goal.loop-i-preserved
loop-i-preserved c =
    let xs = c.args.list.now in
    let ns = c.args.starts.now in
    let i = c.loop-i.i in
    let s : i < length xs = omega arith in
    let r : i < length ns = omega arith in
    let item = c.index-list-i.result in
    let d = next_one xs i item s c.index-list-i.is in
    let e = at_drop_more (λ l. l) ns i 0 r in
    let n = get_or ns i 0 in
    let p = c.args.pos in
    let x = c.args.value in
    let y = c.args.outcome in
    let so_far = c.loop-i.code in
    let step = more_cases p x y (placed_cases n (cases_of (action_view item)))
    (cases_at (map action_view (drop (i + 1) xs)) (drop (i + 1) ns)) so_far c.emit_own_cases.new.code
    c.in_ok-emit_own_cases.ensures in
    let m = own_cases_long n (cases_of (action_view item)) in
    let all = cases_split n (action_view item) (map action_view (drop (i + 1) xs)) (drop (i + 1) ns) in
    let left = ap (λ ys. cases_at (map action_view ys) (n ∷ drop (i + 1) ns)) d in
    let same : cases_at (map action_view (drop i xs)) (drop i ns)
    ≡ cases_at (action_view item ∷ map action_view (drop (i + 1) xs)) (n ∷ drop (i + 1) ns) =
    ap (λ ms. cases_at (map action_view (drop i xs)) ms) e ∙ left in
    let long = c.loop-i.invariant.long in
    let k = cases_grown p x y (placed_cases n (cases_of (action_view item))) so_far c.emit_own_cases.new.code
    c.in_ok-emit_own_cases.ensures in
    record {
      code = sym step
          ∙ sym (ap (λ ys. so_far ++ case_code p x y (length so_far) (cases_at (map action_view ys)
          (n ∷ drop (i + 1) ns))) d)
          ∙ sym (ap (λ ms. so_far ++ case_code p x y (length so_far) (cases_at (map action_view (drop i xs)) ms)) e)
          ∙ c.loop-i.invariant.code;
      long = omega (arith, long, ap length same, all, k);
    }

pub emit_own_cases-requires : goal.emit_own_cases-requires
emit_own_cases-requires c =
    let xs = c.args.list.now in
    let ns = c.args.starts.now in
    let i = c.loop-i.i in
    let s : i < length xs = omega arith in
    let r : i < length ns = omega arith in
    let item = c.index-list-i.result in
    let d = next_one xs i item s c.index-list-i.is in
    let e = at_drop_more (λ l. l) ns i 0 r in
    let n = get_or ns i 0 in
    let m = own_cases_long n (cases_of (action_view item)) in
    let all = cases_split n (action_view item) (map action_view (drop (i + 1) xs)) (drop (i + 1) ns) in
    let left = ap (λ ys. cases_at (map action_view ys) (n ∷ drop (i + 1) ns)) d in
    let same : cases_at (map action_view (drop i xs)) (drop i ns)
    ≡ cases_at (action_view item ∷ map action_view (drop (i + 1) xs)) (n ∷ drop (i + 1) ns) =
    ap (λ ms. cases_at (map action_view (drop i xs)) ms) e ∙ left in
    omega (arith, m, c.loop-i.invariant.long, ap length same, all)
