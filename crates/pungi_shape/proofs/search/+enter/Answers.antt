use Rattle.std.proofs.Common.{◌≡◌, ◌∙◌, ◌+◌, ◌<◌, Bool, get_or, List, ◌∷◌, ◌++◌, [], length, refl, sym, ap, subst}
use Rattle.std.proofs.Common.{arith, rules}
use Rattle.std.specs.List.{All}
use Rattle.std.specs.Prelude.{OnOk, false}
use Rattle.std.proofs.lemmas.List.Elements.{All-head}
use Rattle.std.proofs.lemmas.Result.{on_ok_weaker}
use Rattle.pungi_api.specs.declared.param.Param.TheVariants.{Object}
use Rattle.pungi_shape.specs.declared.holding.Holding.{Holding}
use Rattle.pungi_shape.specs.declared.holding.Holding.TheVariants.{Null, Text, Number, Token}
use Rattle.pungi_shape.specs.declared.search.Found.{Found}
use Rattle.pungi_shape.specs.Edges.{Goal}
use Rattle.pungi_shape.specs.Found.{CanBeNoted, are_over, entry_goal, entry_goals, with_goals}
use Rattle.pungi_shape.specs.Shapes.{tokens_in}
use Rattle.pungi_shape.proofs.EntryGoals.{ReadsNext, both-noted, both-over, entry_goals-here, first-over, next-below}
use Rattle.pungi_shape.proofs.EntryGoals.{next-integer, next-null, next-object, next-text, one-over, others_at}
use Rattle.pungi_shape.proofs.EntryGoals.{tokens-next, tokens-same}
use Rattle.pungi_shape.proofs.TokenLemmas.{all-left, all-right}
use Rattle.pungi_shape.proofs.search.+enter.Goals as goal

-- ---- after the last parameter

pub enter-enter_here-requires-clause-can : goal.enter-enter_here-requires-clause-can
enter-enter_here-requires-clause-can t c =
    let ks = c.args.entered.now.statics.now in
    let code = c.args.entered.now.code.now in
    let hs = c.args.values.now.items in
    let n = c.args.tokens in
    let at : c.len-at.result ≡ length hs = c.len-at.ensures ∙ c.args.values.now.ok.0 in
    let g = entry_goal ks code c.as_slice.result.now in
    let all : entry_goals ks code hs n ≡ g ∷ [] = entry_goals-here ks code hs n (sym at ∙ c.if-at-entered.true)
    ∙ ap (λ (vs : List Holding). entry_goal ks code vs ∷ []) (sym c.as_slice.ensures.value) in
    All-head CanBeNoted g [] (subst (λ (gs : List Goal). All CanBeNoted gs) all c.requires.can)

pub enter-returns-then-at-entered : goal.enter-returns-then-at-entered
enter-returns-then-at-entered t c =
    let ks = c.args.entered.now.statics.now in
    let code = c.args.entered.now.code.now in
    let hs = c.args.values.now.items in
    let n = c.args.tokens in
    let s = c.args.found.now in
    let at : c.len-at.result ≡ length hs = c.len-at.ensures ∙ c.args.values.now.ok.0 in
    let g = entry_goal ks code c.as_slice.result.now in
    let all : entry_goals ks code hs n ≡ g ∷ [] = entry_goals-here ks code hs n (sym at ∙ c.if-at-entered.true)
    ∙ ap (λ (vs : List Holding). entry_goal ks code vs ∷ []) (sym c.as_slice.ensures.value) in
    let over = ap (λ (gs : List Goal). are_over gs s) all ∙ one-over g s in
    record {
      values = search rules;
      noted = subst (λ (gs : List Goal). OnOk c.enter_here.result (c.enter_here.new.found ≡ with_goals gs s)) (sym all)
          c.enter_here.ensures.noted;
      fits = subst (λ (b : Bool). OnOk c.enter_here.result (b ≡ false)) (sym over) c.enter_here.ensures.fits;
      over = λ e. over ∙ c.enter_here.ensures.over e;
    }

-- ---- a number

pub enter-enter_with-requires : goal.enter-enter_with-requires
enter-enter_with-requires t c =
    let ks = c.args.entered.now.statics.now in
    let code = c.args.entered.now.code.now in
    let hs = c.args.values.now.items in
    let n = c.args.tokens in
    let next : ReadsNext code hs c.as_slice-2.result.now c.len-at.result = record {
      well = c.requires.well_formed;
      same = c.as_slice-2.ensures;
      at = c.len-at.ensures ∙ c.args.values.now.ok.0;
      fits = c.requires.fits;
      more = c.if-at-entered.false;
    } in
    let fs = entry_goals ks code (hs ++ Number ∷ []) n in
    let all = next-integer next ks n c.is_integer.result c.is_integer.ensures c.if-is_integer.true in
    let below = next-below next in
    let few = c.requires.few in
    let tokens = c.requires.tokens ∙ sym (tokens-same hs Number refl) in
    let can = subst (λ (gs : List Goal). All CanBeNoted gs) all c.requires.can in
    (search rules, (c.requires.well_formed, (c.requires.live, (below, (tokens, (omega (arith, few, below), can))))))

pub enter-returns-then-is_integer : goal.enter-returns-then-is_integer
enter-returns-then-is_integer t c =
    let ks = c.args.entered.now.statics.now in
    let code = c.args.entered.now.code.now in
    let hs = c.args.values.now.items in
    let n = c.args.tokens in
    let s = c.args.found.now in
    let next : ReadsNext code hs c.as_slice-2.result.now c.len-at.result = record {
      well = c.requires.well_formed;
      same = c.as_slice-2.ensures;
      at = c.len-at.ensures ∙ c.args.values.now.ok.0;
      fits = c.requires.fits;
      more = c.if-at-entered.false;
    } in
    let fs = entry_goals ks code (hs ++ Number ∷ []) n in
    let all = next-integer next ks n c.is_integer.result c.is_integer.ensures c.if-is_integer.true in
    record {
      values = c.enter_with.ensures.values;
      noted = subst (λ (gs : List Goal). OnOk c.enter_with.result (c.enter_with.new.found ≡ with_goals gs s)) (sym all)
          c.enter_with.ensures.noted;
      fits = subst (λ (gs : List Goal). OnOk c.enter_with.result (are_over gs s ≡ false)) (sym all)
          c.enter_with.ensures.fits;
      over = λ e. ap (λ (gs : List Goal). are_over gs s) all ∙ c.enter_with.ensures.over e;
    }

-- ---- NULL

pub enter-enter_with-requires-2 : goal.enter-enter_with-requires-2
enter-enter_with-requires-2 t c =
    let ks = c.args.entered.now.statics.now in
    let code = c.args.entered.now.code.now in
    let hs = c.args.values.now.items in
    let n = c.args.tokens in
    let next : ReadsNext code hs c.as_slice-2.result.now c.len-at.result = record {
      well = c.requires.well_formed;
      same = c.as_slice-2.ensures;
      at = c.len-at.ensures ∙ c.args.values.now.ok.0;
      fits = c.requires.fits;
      more = c.if-at-entered.false;
    } in
    let fs = entry_goals ks code (hs ++ Null ∷ []) n in
    let others = others_at ks code hs n (get_or code.vars (length hs) Object) in
    let all = next-null next ks n c.is_integer.result c.is_integer.ensures c.if-is_integer.false in
    let below = next-below next in
    let few = c.requires.few in
    let tokens = c.requires.tokens ∙ sym (tokens-same hs Null refl) in
    let can = all-left CanBeNoted fs others (subst (λ (gs : List Goal). All CanBeNoted gs) all c.requires.can) in
    (search rules, (c.requires.well_formed, (c.requires.live, (below, (tokens, (omega (arith, few, below), can))))))

pub enter-returns-in_err-enter_with-clause-over : goal.enter-returns-in_err-enter_with-clause-over
enter-returns-in_err-enter_with-clause-over t c =
    let ks = c.args.entered.now.statics.now in
    let code = c.args.entered.now.code.now in
    let hs = c.args.values.now.items in
    let n = c.args.tokens in
    let s = c.args.found.now in
    let next : ReadsNext code hs c.as_slice-2.result.now c.len-at.result = record {
      well = c.requires.well_formed;
      same = c.as_slice-2.ensures;
      at = c.len-at.ensures ∙ c.args.values.now.ok.0;
      fits = c.requires.fits;
      more = c.if-at-entered.false;
    } in
    let fs = entry_goals ks code (hs ++ Null ∷ []) n in
    let others = others_at ks code hs n (get_or code.vars (length hs) Object) in
    let all = next-null next ks n c.is_integer.result c.is_integer.ensures c.if-is_integer.false in
    λ e. first-over (entry_goals ks code hs n) fs others s s all (c.in_err-enter_with.ensures.over (search rules))

-- ---- an object

pub enter-enter_with-requires-then-is_object : goal.enter-enter_with-requires-then-is_object
enter-enter_with-requires-then-is_object t c =
    let ks = c.args.entered.now.statics.now in
    let code = c.args.entered.now.code.now in
    let hs = c.args.values.now.items in
    let n = c.args.tokens in
    let next : ReadsNext code hs c.as_slice-2.result.now c.len-at.result = record {
      well = c.requires.well_formed;
      same = c.as_slice-2.ensures;
      at = c.len-at.ensures ∙ c.args.values.now.ok.0;
      fits = c.requires.fits;
      more = c.if-at-entered.false;
    } in
    let vs = c.enter_with-2.new.values.items in
    let same : vs ≡ hs = c.in_ok-enter_with.ensures.values in
    let fs = entry_goals ks code (hs ++ Null ∷ []) n in
    let ls = entry_goals ks code (vs ++ Token n ∷ []) (n + 1) in
    let all : entry_goals ks code hs n ≡ fs ++ ls = next-object next ks n c.is_integer.result c.is_object.result
    c.is_integer.ensures c.if-is_integer.false c.is_object.ensures c.if-is_object.true
    ∙ ap (λ (ws : List Holding). fs ++ entry_goals ks code (ws ++ Token n ∷ []) (n + 1)) (sym same) in
    let first = next-below next in
    let few = c.requires.few in
    let long = ap length same in
    let below : length vs < code.params = omega (arith, first, long) in
    let held = ap (λ (ws : List Holding). length (tokens_in ws)) same in
    let more = tokens-next vs n in
    let old = c.requires.tokens in
    let tokens : n + 1 ≡ length (tokens_in (vs ++ Token n ∷ [])) = omega (arith, more, old, held) in
    let can = all-right CanBeNoted fs ls (subst (λ (gs : List Goal). All CanBeNoted gs) all c.requires.can) in
    let well = c.requires.well_formed in
    (search rules, (well, (c.requires.live, (below, (tokens, (omega (arith, few, below, long), can))))))

pub enter-returns-then-is_object : goal.enter-returns-then-is_object
enter-returns-then-is_object t c =
    let ks = c.args.entered.now.statics.now in
    let code = c.args.entered.now.code.now in
    let hs = c.args.values.now.items in
    let n = c.args.tokens in
    let s = c.args.found.now in
    let next : ReadsNext code hs c.as_slice-2.result.now c.len-at.result = record {
      well = c.requires.well_formed;
      same = c.as_slice-2.ensures;
      at = c.len-at.ensures ∙ c.args.values.now.ok.0;
      fits = c.requires.fits;
      more = c.if-at-entered.false;
    } in
    let vs = c.enter_with-2.new.values.items in
    let same : vs ≡ hs = c.in_ok-enter_with.ensures.values in
    let fs = entry_goals ks code (hs ++ Null ∷ []) n in
    let ls = entry_goals ks code (vs ++ Token n ∷ []) (n + 1) in
    let all : entry_goals ks code hs n ≡ fs ++ ls = next-object next ks n c.is_integer.result c.is_object.result
    c.is_integer.ensures c.if-is_integer.false c.is_object.ensures c.if-is_object.true
    ∙ ap (λ (ws : List Holding). fs ++ entry_goals ks code (ws ++ Token n ∷ []) (n + 1)) (sym same) in
    let gs = entry_goals ks code hs n in
    let u = c.enter_with-2.new.found in
    let over = both-over gs fs ls s u all c.in_ok-enter_with.ensures.noted c.in_ok-enter_with.ensures.fits in
    record {
      values = on_ok_weaker c.enter_with-then-is_object.result (λ e. e ∙ same)
          c.enter_with-then-is_object.ensures.values;
      noted = subst (λ (w : Found). OnOk c.enter_with-then-is_object.result (c.enter_with-then-is_object.new.found ≡ w))
          (both-noted gs fs ls s u all c.in_ok-enter_with.ensures.noted) c.enter_with-then-is_object.ensures.noted;
      fits = subst (λ (b : Bool). OnOk c.enter_with-then-is_object.result (b ≡ false)) over
          c.enter_with-then-is_object.ensures.fits;
      over = λ e. sym over ∙ c.enter_with-then-is_object.ensures.over e;
    }

-- ---- a text

pub enter-enter_with-requires-else-is_object : goal.enter-enter_with-requires-else-is_object
enter-enter_with-requires-else-is_object t c =
    let ks = c.args.entered.now.statics.now in
    let code = c.args.entered.now.code.now in
    let hs = c.args.values.now.items in
    let n = c.args.tokens in
    let next : ReadsNext code hs c.as_slice-2.result.now c.len-at.result = record {
      well = c.requires.well_formed;
      same = c.as_slice-2.ensures;
      at = c.len-at.ensures ∙ c.args.values.now.ok.0;
      fits = c.requires.fits;
      more = c.if-at-entered.false;
    } in
    let vs = c.enter_with-2.new.values.items in
    let same : vs ≡ hs = c.in_ok-enter_with.ensures.values in
    let fs = entry_goals ks code (hs ++ Null ∷ []) n in
    let ls = entry_goals ks code (vs ++ Text ∷ []) n in
    let all : entry_goals ks code hs n ≡ fs ++ ls = next-text next ks n c.is_integer.result c.is_object.result
    c.is_integer.ensures c.if-is_integer.false c.is_object.ensures c.if-is_object.false
    ∙ ap (λ (ws : List Holding). fs ++ entry_goals ks code (ws ++ Text ∷ []) n) (sym same) in
    let first = next-below next in
    let few = c.requires.few in
    let long = ap length same in
    let below : length vs < code.params = omega (arith, first, long) in
    let held = ap (λ (ws : List Holding). length (tokens_in ws)) same in
    let tokens = c.requires.tokens ∙ sym held ∙ sym (tokens-same vs Text refl) in
    let can = all-right CanBeNoted fs ls (subst (λ (gs : List Goal). All CanBeNoted gs) all c.requires.can) in
    let well = c.requires.well_formed in
    (search rules, (well, (c.requires.live, (below, (tokens, (omega (arith, few, below, long), can))))))

pub enter-returns-else-is_object : goal.enter-returns-else-is_object
enter-returns-else-is_object t c =
    let ks = c.args.entered.now.statics.now in
    let code = c.args.entered.now.code.now in
    let hs = c.args.values.now.items in
    let n = c.args.tokens in
    let s = c.args.found.now in
    let next : ReadsNext code hs c.as_slice-2.result.now c.len-at.result = record {
      well = c.requires.well_formed;
      same = c.as_slice-2.ensures;
      at = c.len-at.ensures ∙ c.args.values.now.ok.0;
      fits = c.requires.fits;
      more = c.if-at-entered.false;
    } in
    let vs = c.enter_with-2.new.values.items in
    let same : vs ≡ hs = c.in_ok-enter_with.ensures.values in
    let fs = entry_goals ks code (hs ++ Null ∷ []) n in
    let ls = entry_goals ks code (vs ++ Text ∷ []) n in
    let all : entry_goals ks code hs n ≡ fs ++ ls = next-text next ks n c.is_integer.result c.is_object.result
    c.is_integer.ensures c.if-is_integer.false c.is_object.ensures c.if-is_object.false
    ∙ ap (λ (ws : List Holding). fs ++ entry_goals ks code (ws ++ Text ∷ []) n) (sym same) in
    let gs = entry_goals ks code hs n in
    let u = c.enter_with-2.new.found in
    let over = both-over gs fs ls s u all c.in_ok-enter_with.ensures.noted c.in_ok-enter_with.ensures.fits in
    record {
      values = on_ok_weaker c.enter_with-else-is_object.result (λ e. e ∙ same)
          c.enter_with-else-is_object.ensures.values;
      noted = subst (λ (w : Found). OnOk c.enter_with-else-is_object.result (c.enter_with-else-is_object.new.found ≡ w))
          (both-noted gs fs ls s u all c.in_ok-enter_with.ensures.noted) c.enter_with-else-is_object.ensures.noted;
      fits = subst (λ (b : Bool). OnOk c.enter_with-else-is_object.result (b ≡ false)) over
          c.enter_with-else-is_object.ensures.fits;
      over = λ e. sym over ∙ c.enter_with-else-is_object.ensures.over e;
    }
