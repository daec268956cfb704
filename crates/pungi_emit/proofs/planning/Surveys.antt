-- Loops and labels of statements, one after another.
use Rattle.std.proofs.Common.{◌≡◌, ℕ, ◌+◌, ◌*◌, List, [], ◌∷◌, ◌++◌, length, take, drop, replicate, refl, sym, ap, ◌∙◌}
use Rattle.std.proofs.Common.{arith, append_assoc, append-nil, Result, Ok, Err, IfOk}
use Rattle.pungi_base.specs.declared.pos.Pos.{Pos}
use Rattle.pungi_resolved.specs.Values as expr
use Rattle.pungi_resolved.specs.Actions as stmt
use Rattle.pungi_resolved.specs.ActionView.{actions_of}
use Rattle.pungi_meaning.specs.Run.{nowhere}
use Rattle.pungi_meaning.specs.Stmts.{block_cases}
use Rattle.pungi_meaning.specs.Work.{block_locals}
use Rattle.pungi_meaning.specs.Todo.{listed}
use Rattle.pungi_code.specs.declared.code.Head.{Head}
use Rattle.pungi_layout.specs.declared.mark.Mark.{Mark}
use Rattle.pungi_layout.specs.declared.mark.Mark.TheVariants.{OfLoop, OfLabel}
use Rattle.pungi_layout.specs.code.Sizes.{expr_size, stmt_size, stmts_size, switch_size}
use Rattle.pungi_layout.specs.code.Heads.{head_at, stmt_marks, stmts_marks, switch_marks}
use Rattle.pungi_emit.specs.planning.LabelPlaces.{stmt_labels, list_labels, list_starts}
use Rattle.pungi_emit.specs.planning.Surveys.{Surveys}
use Rattle.pungi_emit.specs.planning.Plans.{places_of, switch_from, plan_of, plans_of, switch_plan}
use Rattle.pungi_emit.proofs.stmt.StmtCode.{as_actions}
use Rattle.pungi_emit.proofs.planning.PlanLists.{filled, two_filled, places_append}
use Rattle.pungi_emit.proofs.planning.Plans.{starts_long, switch_plan_is}

pub both_marks : (m0 m1 m2 xs ys : List Mark) → m1 ≡ m0 ++ xs → m2 ≡ m1 ++ ys → m2 ≡ m0 ++ (xs ++ ys)
both_marks m0 m1 m2 xs ys e f = f ∙ ap (λ m. m ++ ys) e ∙ append_assoc m0 xs ys

pub next_marks : (a : stmt.Action) (rest : stmt.Actions) (pc n : ℕ) (m0 m1 : List Mark) → m1 ≡ m0 ++ stmt_marks pc a
    → n ≡ pc + stmt_size a → m0 ++ stmts_marks pc (stmt.action_and a rest) ≡ m1 ++ stmts_marks n rest
next_marks a rest pc n m0 m1 e f =
    sym (append_assoc m0 (stmt_marks pc a) (stmts_marks (pc + stmt_size a) rest))
    ∙ ap (λ m. m ++ stmts_marks (pc + stmt_size a) rest) (sym e) ∙ ap (λ i. m1 ++ stmts_marks i rest) (sym f)

pub next_size : (a : stmt.Action) (rest : stmt.Actions) (pc n : ℕ) → n ≡ pc + stmt_size a
    → n + stmts_size rest ≡ pc + stmts_size (stmt.action_and a rest)
next_size a rest pc n e = omega (arith, e)

-- one more in front of those of a part
pub loop_marks : (a : stmt.Action) (go at n : ℕ) (p : Pos) (h : Head) (m0 m1 m2 : List Mark) →
    h ≡ head_at n p → m1 ≡ m0 ++ (OfLoop h ∷ []) → m2 ≡ m1 ++ stmt_marks go a → go ≡ at →
    m2 ≡ m0 ++ (OfLoop (head_at n p) ∷ stmt_marks at a)
loop_marks a go at n p h m0 m1 m2 e f g k =
    both_marks m0 m1 m2 (OfLoop h ∷ []) (stmt_marks go a) f g
    ∙ ap (λ x. m0 ++ (OfLoop x ∷ stmt_marks go a)) e
    ∙ ap (λ i. m0 ++ (OfLoop (head_at n p) ∷ stmt_marks i a)) k

pub label_marks : (a : stmt.Action) (n : ℕ) (p : Pos) (h : Head) (m0 m1 m2 : List Mark) →
    h ≡ head_at n p → m1 ≡ m0 ++ (OfLabel h ∷ []) → m2 ≡ m1 ++ stmt_marks n a →
    m2 ≡ m0 ++ (OfLabel (head_at n p) ∷ stmt_marks n a)
label_marks a n p h m0 m1 m2 e f g =
    both_marks m0 m1 m2 (OfLabel h ∷ []) (stmt_marks n a) f g
    ∙ ap (λ x. m0 ++ (OfLabel x ∷ stmt_marks n a)) e

pub one_more_label : (xs l0 l1 l2 : List ℕ) (n : ℕ) → l1 ≡ l0 ++ (n ∷ []) → l2 ≡ l1 ++ xs → l2 ≡ l0 ++ (n ∷ xs)
one_more_label xs l0 l1 l2 n e f = f ∙ ap (λ l. l ++ xs) e ∙ append_assoc l0 (n ∷ []) xs

-- ---- surveys

-- a statement in which there is nothing to be found
pub nothing_found : {E : Type 0} (r : Result ℕ E) (end : ℕ) (m : List Mark) (p l : List ℕ) → IfOk r (λ n. n ≡ end)
    → IfOk r (λ n. Surveys end [] [] [] n m m p p l l)
nothing_found (Ok n) end m p l h =
    record { next = h; marks = sym (append-nil m); labels = sym (append-nil l); places = sym (append-nil p) }
nothing_found (Err e) end m p l h = tt

-- a block, whose labels are its own
pub no_labels : {E : Type 0} (r : Result ℕ E) (end : ℕ) (ms m0 m1 : List Mark) (ps p0 p1 l : List ℕ)
    → IfOk r (λ n. Surveys end ms ps [] n m0 m1 p0 p1 [] []) → IfOk r (λ n. Surveys end ms ps [] n m0 m1 p0 p1 l l)
no_labels (Ok n) end ms m0 m1 ps p0 p1 l h =
    record { next = h.next; marks = h.marks; labels = sym (append-nil l); places = h.places }
no_labels (Err e) end ms m0 m1 ps p0 p1 l h = tt

-- a block in a `switch`, and elsewhere
pub block_size : (p q : Pos) (list : List stmt.Action) (pc own from next : ℕ) → own ≡ length (block_locals list)
    → from ≡ pc + own → next ≡ from + stmts_size (actions_of list)
    → next ≡ pc + stmt_size (stmt.block p (actions_of list) q)
block_size p q list pc own from next e f g =
    let h : length (block_locals list) ≡ length (block_locals (listed (actions_of list))) = ap
    (λ l. length (block_locals l)) (sym (as_actions list)) in
    omega (arith, e, f, g, h)

pub block_marks : (p q : Pos) (list : List stmt.Action) (pc own from : ℕ) (m0 m1 : List Mark)
    → own ≡ length (block_locals list) → from ≡ pc + own → m1 ≡ m0 ++ stmts_marks from (actions_of list)
    → m1 ≡ m0 ++ stmt_marks pc (stmt.block p (actions_of list) q)
block_marks p q list pc own from m0 m1 e f g =
    let h : from ≡ pc + length (block_locals (listed (actions_of list))) = f
    ∙ ap (λ n. pc + n) (e ∙ ap (λ l. length (block_locals l)) (sym (as_actions list))) in
    g ∙ ap (λ n. m0 ++ stmts_marks n (actions_of list)) h

pub choice_size : (p : Pos) (v : expr.Value) (a : stmt.Action) (pc place next : ℕ) → place ≡ pc + expr_size v
    → next ≡ place + switch_size a → next ≡ pc + stmt_size (stmt.switch p v a)
choice_size p v (stmt.block r ss q) pc place next e f = omega (arith, e, f)
choice_size p v (stmt.declare p' rs) pc place next e f = omega (arith, e, f)
choice_size p v (stmt.do_expr p' u) pc place next e f = omega (arith, e, f)
choice_size p v (stmt.if_only p' c a) pc place next e f = omega (arith, e, f)
choice_size p v (stmt.if_else p' c a b) pc place next e f = omega (arith, e, f)
choice_size p v (stmt.while p' c a) pc place next e f = omega (arith, e, f)
choice_size p v (stmt.do_while p' a c) pc place next e f = omega (arith, e, f)
choice_size p v (stmt.for p' rs u c w a) pc place next e f = omega (arith, e, f)
choice_size p v (stmt.switch p' u a) pc place next e f = omega (arith, e, f)
choice_size p v (stmt.case p' n a) pc place next e f = omega (arith, e, f)
choice_size p v (stmt.default p' a) pc place next e f = omega (arith, e, f)
choice_size p v (stmt.label p' l a) pc place next e f = omega (arith, e, f)
choice_size p v (stmt.goto p' l) pc place next e f = omega (arith, e, f)
choice_size p v (stmt.break p') pc place next e f = omega (arith, e, f)
choice_size p v (stmt.continue p') pc place next e f = omega (arith, e, f)
choice_size p v (stmt.return p' k u) pc place next e f = omega (arith, e, f)

pub choice_marks : (p : Pos) (v : expr.Value) (a : stmt.Action) (pc : ℕ)
    → stmt_marks pc (stmt.switch p v a) ≡ switch_marks (pc + expr_size v) a
choice_marks p v (stmt.block r ss q) pc = refl
choice_marks p v (stmt.declare p' rs) pc = refl
choice_marks p v (stmt.do_expr p' u) pc = refl
choice_marks p v (stmt.if_only p' c a) pc = refl
choice_marks p v (stmt.if_else p' c a b) pc = refl
choice_marks p v (stmt.while p' c a) pc = refl
choice_marks p v (stmt.do_while p' a c) pc = refl
choice_marks p v (stmt.for p' rs u c w a) pc = refl
choice_marks p v (stmt.switch p' u a) pc = refl
choice_marks p v (stmt.case p' n a) pc = refl
choice_marks p v (stmt.default p' a) pc = refl
choice_marks p v (stmt.label p' l a) pc = refl
choice_marks p v (stmt.goto p' l) pc = refl
choice_marks p v (stmt.break p') pc = refl
choice_marks p v (stmt.continue p') pc = refl
choice_marks p v (stmt.return p' k u) pc = refl

pub else_marks : (p : Pos) (c : expr.Value) (a b : stmt.Action) (pc go last middle : ℕ) (m0 m1 m2 : List Mark) →
    go ≡ pc + expr_size c + 1 → last ≡ go + stmt_size a → middle ≡ last + 1 →
    m1 ≡ m0 ++ stmt_marks go a → m2 ≡ m1 ++ stmt_marks middle b →
    m2 ≡ m0 ++ stmt_marks pc (stmt.if_else p c a b)
else_marks p c a b pc go last middle m0 m1 m2 g h4 h5 e f =
    let k : middle ≡ pc + expr_size c + 1 + stmt_size a + 1 = omega (arith, g, h4, h5) in
    both_marks m0 m1 m2 (stmt_marks (pc + expr_size c + 1) a) (stmt_marks (pc + expr_size c + 1 + stmt_size a + 1)
    b) (e ∙ ap (λ n. m0 ++ stmt_marks n a) g) (f ∙ ap (λ n. m1 ++ stmt_marks n b) k)

switched_place : (list : List stmt.Action) (place own cases unset compared branched from : ℕ) →
    own ≡ length (block_locals list) → cases ≡ length (block_cases list) → unset ≡ place + own
    → compared ≡ unset + cases → branched ≡ compared + cases → from ≡ branched + 1 →
    from ≡ place + length (block_locals (listed (actions_of list))) + 2
    * length (block_cases (listed (actions_of list))) + 1
switched_place list place own cases unset compared branched from h1 h2 h3 h4 h5 h6 =
    let same = sym (as_actions list) in
    let d : length (block_locals list) ≡ length (block_locals (listed (actions_of list))) = ap
    (λ l. length (block_locals l)) same in
    let k : length (block_cases list) ≡ length (block_cases (listed (actions_of list))) = ap
    (λ l. length (block_cases l)) same in
    omega (arith, h1, h2, h3, h4, h5, h6, d, k)

pub switched_size : (p q : Pos) (list : List stmt.Action) (place own cases unset compared branched from next : ℕ) →
    own ≡ length (block_locals list) → cases ≡ length (block_cases list) → unset ≡ place + own
    → compared ≡ unset + cases → branched ≡ compared + cases → from ≡ branched + 1 →
    next ≡ from + stmts_size (actions_of list) →
    next ≡ place + switch_size (stmt.block p (actions_of list) q)
switched_size p q list place own cases unset compared branched from next h1 h2 h3 h4 h5 h6 g =
    let f = switched_place list place own cases unset compared branched from h1 h2 h3 h4 h5 h6 in
    omega (arith, f, g)

pub switched_marks : (p q : Pos) (list : List stmt.Action) (place own cases unset compared branched from : ℕ)
    (m0 m1 : List Mark) →
    own ≡ length (block_locals list) → cases ≡ length (block_cases list) → unset ≡ place + own
    → compared ≡ unset + cases → branched ≡ compared + cases → from ≡ branched + 1 →
    m1 ≡ m0 ++ stmts_marks from (actions_of list) →
    m1 ≡ m0 ++ switch_marks place (stmt.block p (actions_of list) q)
switched_marks p q list place own cases unset compared branched from m0 m1 h1 h2 h3 h4 h5 h6 g =
    g ∙ ap (λ n. m0 ++ stmts_marks n (actions_of list)) (switched_place list place own cases unset compared branched
    from h1 h2 h3 h4 h5 h6)

-- ---- places

pub next_labels : (a : stmt.Action) (rest : List stmt.Action) (pc n : ℕ) (l0 l1 : List ℕ)
    → l1 ≡ l0 ++ places_of (stmt_labels pc a) → n ≡ pc + stmt_size a
    → l0 ++ places_of (list_labels pc (a ∷ rest)) ≡ l1 ++ places_of (list_labels n rest)
next_labels a rest pc n l0 l1 e f =
    let more = places_of (list_labels (pc + stmt_size a) rest) in
    ap (λ l. l0 ++ l) (places_append (stmt_labels pc a) (list_labels (pc + stmt_size a) rest))
    ∙ sym (append_assoc l0 (places_of (stmt_labels pc a)) more)
    ∙ ap (λ l. l ++ more) (sym e)
    ∙ ap (λ i. l1 ++ places_of (list_labels i rest)) (sym f)

pub next_places : (a : stmt.Action) (rest : stmt.Actions) (pc n : ℕ) (l0 l1 : List ℕ) → l1 ≡ l0 ++ plan_of pc a
    → n ≡ pc + stmt_size a → l0 ++ plans_of pc (stmt.action_and a rest) ≡ l1 ++ plans_of n rest
next_places a rest pc n l0 l1 e f =
    sym (append_assoc l0 (plan_of pc a) (plans_of (pc + stmt_size a) rest))
    ∙ ap (λ m. m ++ plans_of (pc + stmt_size a) rest) (sym e) ∙ ap (λ i. l1 ++ plans_of i rest) (sym f)

pub else_labels : (p : Pos) (c : expr.Value) (a b : stmt.Action) (pc go last middle : ℕ) (m0 m1 m2 : List ℕ) →
    go ≡ pc + expr_size c + 1 → last ≡ go + stmt_size a → middle ≡ last + 1 →
    m1 ≡ m0 ++ places_of (stmt_labels go a) → m2 ≡ m1 ++ places_of (stmt_labels middle b) →
    m2 ≡ m0 ++ places_of (stmt_labels pc (stmt.if_else p c a b))
else_labels p c a b pc go last middle m0 m1 m2 g h4 h5 e f =
    let at = pc + expr_size c + 1 in
    let bt = at + stmt_size a + 1 in
    let k : middle ≡ bt = omega (arith, g, h4, h5) in
    f ∙ ap (λ n. m1 ++ places_of (stmt_labels n b)) k
    ∙ ap (λ m. m ++ places_of (stmt_labels bt b)) (e ∙ ap (λ n. m0 ++ places_of (stmt_labels n a)) g)
    ∙ append_assoc m0 (places_of (stmt_labels at a)) (places_of (stmt_labels bt b))
    ∙ ap (λ l. m0 ++ l) (sym (places_append (stmt_labels at a) (stmt_labels bt b)))

pub else_places : (p : Pos) (c : expr.Value) (a b : stmt.Action) (pc go last middle next i : ℕ)
    (p0 p1 p2 p3 p4 : List ℕ) →
    go ≡ pc + expr_size c + 1 → last ≡ go + stmt_size a → middle ≡ last + 1 → next ≡ middle + stmt_size b →
    p1 ≡ p0 ++ replicate 2 0 → i ≡ length p0 → p2 ≡ p1 ++ plan_of go a → p3 ≡ p2 ++ plan_of middle b
    → p4 ≡ take i p3 ++ (middle ∷ next ∷ drop (i + 2) p3) →
    p4 ≡ p0 ++ plan_of pc (stmt.if_else p c a b)
else_places p c a b pc go last middle next i p0 p1 p2 p3 p4 go' h4 h5 h6 e h f g q =
    let at = pc + expr_size c + 1 in
    let bt = at + stmt_size a + 1 in
    let k : middle ≡ bt = omega (arith, go', h4, h5) in
    let end : next ≡ bt + stmt_size b = omega (arith, k, h6) in
    let whole : p3 ≡ p1 ++ (plan_of go a ++ plan_of middle b) = g ∙ ap (λ l. l ++ plan_of middle b) f
    ∙ append_assoc p1 (plan_of go a) (plan_of middle b) in
    let same : plan_of go a ++ plan_of middle b ≡ plan_of at a
    ++ plan_of bt b = ap (λ n. plan_of n a ++ plan_of middle b) go' ∙ ap (λ n. plan_of at a ++ plan_of n b) k in
    two_filled (plan_of go a ++ plan_of middle b) (plan_of at a ++ plan_of bt b) p0 p1 p3 p4 i middle bt next
    (bt + stmt_size b) e h whole q k end same

-- a block in a `switch`: there is room for where its statements begin, and in front of it for the end
pub begun_filled : (list : List stmt.Action) (from begun n : ℕ) (starts inner p1 p2 p3 p4 : List ℕ) →
    p2 ≡ p1 ++ replicate n 0 → begun ≡ length p1 → p3 ≡ p2 ++ inner → n ≡ length list → starts ≡ list_starts from list →
    p4 ≡ take begun p3 ++ (starts ++ drop (begun + length starts) p3) →
    p4 ≡ p1 ++ (list_starts from list ++ inner)
begun_filled list from begun n starts inner p1 p2 p3 p4 e h f m k g =
    let long : length starts ≡ n = ap length k ∙ starts_long list from ∙ sym m in
    filled p1 p2 p3 p4 starts inner begun n e h f long g ∙ ap (λ l. p1 ++ (l ++ inner)) k

pub switched_places : (list : List stmt.Action) (place from next end : ℕ) (p0 p1 p4 p5 : List ℕ) →
    from ≡ switch_from place list → next ≡ from + stmts_size (actions_of list) →
    p1 ≡ p0 ++ replicate 1 0 → end ≡ length p0
    → p4 ≡ p1 ++ (list_starts from list ++ (places_of (list_labels from list) ++ plans_of from (actions_of list)))
    →
    p5 ≡ take end p4 ++ (next ∷ drop (end + 1) p4) →
    p5 ≡ p0 ++ switch_plan place (stmt.block nowhere (actions_of list) nowhere)
switched_places list place from next end p0 p1 p4 p5 k m e h f g =
    let part = λ (i : ℕ). list_starts i list ++ (places_of (list_labels i list) ++ plans_of i (actions_of list)) in
    let last : next ≡ switch_from place list + stmts_size (actions_of list) = m
    ∙ ap (λ i. i + stmts_size (actions_of list)) k in
    filled p0 p1 p4 p5 (next ∷ []) (part from) end 1 e h f refl g
    ∙ ap (λ i. p0 ++ (next ∷ part i)) k
    ∙ ap (λ i. p0 ++ (i ∷ part (switch_from place list))) last
    ∙ ap (λ l. p0 ++ l) (sym (switch_plan_is nowhere nowhere list place))
