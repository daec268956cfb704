-- Plans of statements.
use Rattle.std.proofs.Common.{◌≡◌, ℕ, suc, ◌+◌, List, [], ◌∷◌, ◌++◌, length, false, refl, sym, ap, ◌∙◌, append_assoc}
use Rattle.std.proofs.Common.{Result, Ok, Err, OnOk}
use Rattle.std.proofs.lemmas.List.{length-map}
use Rattle.pungi_base.specs.declared.pos.Pos.{Pos}
use Rattle.pungi_resolved.specs.Values as expr
use Rattle.pungi_resolved.specs.Actions as stmt
use Rattle.pungi_resolved.specs.ActionView.{actions_of}
use Rattle.pungi_meaning.specs.Work.{block_locals}
use Rattle.pungi_code.specs.declared.code.Line.{Line}
use Rattle.pungi_emit.specs.declared.planning.scope.Placed.{Placed}
use Rattle.pungi_layout.specs.code.Sizes.{expr_size, test_size, stmt_size, stmts_size}
use Rattle.pungi_layout.specs.code.Scopes.{for_head}
use Rattle.pungi_emit.specs.planning.LabelPlaces.{stmt_labels, list_labels, list_starts}
use Rattle.pungi_emit.specs.stmt.Cases.{is_block}
use Rattle.pungi_emit.specs.stmt.Emits.{Emits}
use Rattle.pungi_emit.specs.planning.Plans.{stmt_names, list_names, names_of, places_of, switch_from, plan_of, plans_of}
use Rattle.pungi_emit.specs.planning.Plans.{skipped_plan, switch_plan, Begins}
use Rattle.pungi_emit.proofs.stmt.StmtCode.{as_actions}
use Rattle.pungi_emit.proofs.planning.PlanLists.{names_append, same_labels, begins_at, front_begins, back_begins}
use Rattle.pungi_emit.proofs.planning.PlanLists.{one_begins, one_place, one_through, two_begins, two_first, two_second}
use Rattle.pungi_emit.proofs.planning.PlanLists.{two_through, both_through, Left, left_at, left_more}

-- ---- labels

-- the names of labels
pub stmt_names_are : (a : stmt.Action) (pc : ℕ) → stmt_names a ≡ names_of (stmt_labels pc a)
stmt_names_are (stmt.label p n a) pc = ap (λ l. n ∷ l) (stmt_names_are a pc)
stmt_names_are (stmt.case p n a) pc = stmt_names_are a pc
stmt_names_are (stmt.default p a) pc = stmt_names_are a pc
stmt_names_are (stmt.if_only p c a) pc = stmt_names_are a (pc + expr_size c + 1)
stmt_names_are (stmt.if_else p c a b) pc =
    let at = pc + expr_size c + 1 in
    let bt = at + stmt_size a + 1 in
    ap (λ l. l ++ stmt_names b) (stmt_names_are a at) ∙ ap (λ l. names_of (stmt_labels at a) ++ l)
    (stmt_names_are b bt) ∙ sym (names_append (stmt_labels at a) (stmt_labels bt b))
stmt_names_are (stmt.while p c a) pc = stmt_names_are a (pc + (expr_size c + 1))
stmt_names_are (stmt.do_while p a c) pc = stmt_names_are a (pc + 1 + (expr_size c + 1))
stmt_names_are (stmt.for p rs u c w a) pc = stmt_names_are a (for_head pc rs u + test_size c)
stmt_names_are (stmt.switch p v a) pc = stmt_names_are a (pc + expr_size v + 1)
stmt_names_are (stmt.block p ss q) pc = refl
stmt_names_are (stmt.declare p rs) pc = refl
stmt_names_are (stmt.do_expr p v) pc = refl
stmt_names_are (stmt.goto p l) pc = refl
stmt_names_are (stmt.break p) pc = refl
stmt_names_are (stmt.continue p) pc = refl
stmt_names_are (stmt.return p k v) pc = refl

pub list_names_are : (list : List stmt.Action) (pc : ℕ) → list_names list ≡ names_of (list_labels pc list)
list_names_are [] pc = refl
list_names_are (a ∷ list) pc =
    ap (λ l. l ++ list_names list) (stmt_names_are a pc)
    ∙ ap (λ l. names_of (stmt_labels pc a) ++ l) (list_names_are list (pc + stmt_size a))
    ∙ sym (names_append (stmt_labels pc a) (list_labels (pc + stmt_size a) list))

-- there are as many places as names
pub labels_long : (list : List stmt.Action) (pc : ℕ)
    → length (list_names list) ≡ length (places_of (list_labels pc list))
labels_long list pc =
    ap length (list_names_are list pc)
    ∙ length-map (list_labels pc list) (λ (m : Placed). m.name)
    ∙ sym (length-map (list_labels pc list) (λ (m : Placed). m.place))

pub starts_long : (list : List stmt.Action) (pc : ℕ) → length (list_starts pc list) ≡ length list
starts_long [] pc = refl
starts_long (a ∷ list) pc = ap suc (starts_long list (pc + stmt_size a))

-- labels of a block that have its names and the places of its plan
pub labels_known : (own : List Placed) (list : List stmt.Action) (pc : ℕ) (more l after : List ℕ)
    → Begins (places_of (list_labels pc list) ++ more) l → l ≡ places_of own ++ after
    → names_of own ≡ list_names list → own ≡ list_labels pc list
labels_known own list pc more l after b e h =
    same_labels own (list_labels pc list) after (more ++ b.rest) (h ∙ list_names_are list pc)
    (sym e ∙ b.is ∙ append_assoc (places_of (list_labels pc list)) more b.rest)

pub labels_left : (own : List Placed) (list : List stmt.Action) (pc : ℕ) (more l after : List ℕ)
    → Begins (places_of (list_labels pc list) ++ more) l → l ≡ places_of own ++ after → own ≡ list_labels pc list
    → Begins more after
labels_left own list pc more l after b e h =
    back_begins (places_of (list_labels pc list)) more l after b (e ∙ ap (λ ms. places_of ms ++ after) h)

-- ---- blocks

pub block_plan_is : (p q : Pos) (list : List stmt.Action) (pc : ℕ) →
    plan_of pc (stmt.block p (actions_of list) q) ≡ places_of (list_labels (pc + length (block_locals list)) list)
    ++ plans_of (pc + length (block_locals list)) (actions_of list)
block_plan_is p q list pc =
    ap (λ l. places_of (list_labels (pc + length (block_locals l)) l)
    ++ plans_of (pc + length (block_locals l)) (actions_of list)) (as_actions list)

pub switch_plan_is : (p q : Pos) (list : List stmt.Action) (pc : ℕ) →
    switch_plan pc (stmt.block p (actions_of list) q)
    ≡ (switch_from pc list + stmts_size (actions_of list))
    ∷ (list_starts (switch_from pc list) list ++ (places_of (list_labels (switch_from pc list) list)
    ++ plans_of (switch_from pc list) (actions_of list)))
switch_plan_is p q list pc =
    ap (λ l. (switch_from pc l + stmts_size (actions_of list))
    ∷ (list_starts (switch_from pc l) l ++ (places_of (list_labels (switch_from pc l) l)
    ++ plans_of (switch_from pc l) (actions_of list)))) (as_actions list)

-- ---- `switch`

pub choice_plan : (p : Pos) (v : expr.Value) (a : stmt.Action) (pc : ℕ)
    → plan_of pc (stmt.switch p v a) ≡ switch_plan (pc + expr_size v) a
choice_plan p v (stmt.block r ss q) pc = refl
choice_plan p v (stmt.declare p' rs) pc = refl
choice_plan p v (stmt.do_expr p' u) pc = refl
choice_plan p v (stmt.if_only p' c a) pc = refl
choice_plan p v (stmt.if_else p' c a b) pc = refl
choice_plan p v (stmt.while p' c a) pc = refl
choice_plan p v (stmt.do_while p' a c) pc = refl
choice_plan p v (stmt.for p' rs u c w a) pc = refl
choice_plan p v (stmt.switch p' u a) pc = refl
choice_plan p v (stmt.case p' n a) pc = refl
choice_plan p v (stmt.default p' a) pc = refl
choice_plan p v (stmt.label p' l a) pc = refl
choice_plan p v (stmt.goto p' l) pc = refl
choice_plan p v (stmt.break p') pc = refl
choice_plan p v (stmt.continue p') pc = refl
choice_plan p v (stmt.return p' k u) pc = refl

-- over what is no block
pub skipped_plan_is : (p : Pos) (v : expr.Value) (a : stmt.Action) (pc : ℕ) → is_block a ≡ false
    → plan_of pc (stmt.switch p v a) ≡ skipped_plan (pc + expr_size v) a
skipped_plan_is p v (stmt.block r ss q) pc h = absurd cc
skipped_plan_is p v (stmt.declare p' rs) pc h = refl
skipped_plan_is p v (stmt.do_expr p' u) pc h = refl
skipped_plan_is p v (stmt.if_only p' c a) pc h = refl
skipped_plan_is p v (stmt.if_else p' c a b) pc h = refl
skipped_plan_is p v (stmt.while p' c a) pc h = refl
skipped_plan_is p v (stmt.do_while p' a c) pc h = refl
skipped_plan_is p v (stmt.for p' rs u c w a) pc h = refl
skipped_plan_is p v (stmt.switch p' u a) pc h = refl
skipped_plan_is p v (stmt.case p' n a) pc h = refl
skipped_plan_is p v (stmt.default p' a) pc h = refl
skipped_plan_is p v (stmt.label p' l a) pc h = refl
skipped_plan_is p v (stmt.goto p' l) pc h = refl
skipped_plan_is p v (stmt.break p') pc h = refl
skipped_plan_is p v (stmt.continue p') pc h = refl
skipped_plan_is p v (stmt.return p' k u) pc h = refl

-- ---- a statement that takes no place

pub nothing_planned : {T E : Type 0} (r : Result T E) (lines c0 c1 : List Line) (l : List ℕ)
    → OnOk r (c1 ≡ c0 ++ lines) → OnOk r (Emits lines [] c0 c1 l l)
nothing_planned (Ok x) lines c0 c1 l h = record { code = h; plan = refl }
nothing_planned (Err e) lines c0 c1 l h = tt

-- ---- a statement inside of another

-- after one place
pub part_begins : (a : stmt.Action) (at n x other : ℕ) (l0 l1 : List ℕ) → Begins (x ∷ plan_of at a) l0
    → l0 ≡ other ∷ l1 → n ≡ at → Begins (plan_of n a) l1
part_begins a at n x other l0 l1 b e h =
    begins_at (λ i. plan_of i a) at n l1 (one_begins (plan_of at a) l0 l1 x other b e) h

pub part_through : (a : stmt.Action) (at n x other : ℕ) (l0 l1 l2 : List ℕ) → Begins (x ∷ plan_of at a) l0
    → l0 ≡ other ∷ l1 → n ≡ at → l1 ≡ plan_of n a ++ l2 → l0 ≡ (x ∷ plan_of at a) ++ l2
part_through a at n x other l0 l1 l2 b e h f =
    one_through (plan_of at a) l0 l1 l2 x other e (one_place (plan_of at a) l0 l1 x other b e)
    (f ∙ ap (λ i. plan_of i a ++ l2) h)

-- after two places
pub loop_begins : (a : stmt.Action) (at n x y other end : ℕ) (l0 l1 l2 : List ℕ) → Begins (x ∷ y ∷ plan_of at a) l0
    → l0 ≡ other ∷ l1 → l1 ≡ end ∷ l2 → n ≡ at → Begins (plan_of n a) l2
loop_begins a at n x y other end l0 l1 l2 b e f h =
    begins_at (λ i. plan_of i a) at n l2 (two_begins (plan_of at a) l0 l1 l2 x y other end b e f) h

pub loop_through : (a : stmt.Action) (at n x y other end : ℕ) (l0 l1 l2 l3 : List ℕ)
    → Begins (x ∷ y ∷ plan_of at a) l0 → l0 ≡ other ∷ l1 → l1 ≡ end ∷ l2 → n ≡ at → l2 ≡ plan_of n a ++ l3
    → l0 ≡ (x ∷ y ∷ plan_of at a) ++ l3
loop_through a at n x y other end l0 l1 l2 l3 b e f h g =
    two_through (plan_of at a) l0 l1 l2 l3 x y other end e f (two_first (plan_of at a) l0 l1 x y other b e)
    (two_second (plan_of at a) l0 l1 l2 x y other end b e f) (g ∙ ap (λ i. plan_of i a ++ l3) h)

-- two statements after two places
pub first_begins : (a b : stmt.Action) (at bt n x y other end : ℕ) (l0 l1 l2 : List ℕ)
    → Begins (x ∷ y ∷ (plan_of at a ++ plan_of bt b)) l0 → l0 ≡ other ∷ l1 → l1 ≡ end ∷ l2 → n ≡ at
    → Begins (plan_of n a) l2
first_begins a b at bt n x y other end l0 l1 l2 h e f k =
    begins_at (λ i. plan_of i a) at n l2 (front_begins (plan_of at a) (plan_of bt b) l2
    (two_begins (plan_of at a ++ plan_of bt b) l0 l1 l2 x y other end h e f)) k

pub second_begins : (a b : stmt.Action) (at bt n m x y other end : ℕ) (l0 l1 l2 l3 : List ℕ)
    → Begins (x ∷ y ∷ (plan_of at a ++ plan_of bt b)) l0 → l0 ≡ other ∷ l1 → l1 ≡ end ∷ l2 → n ≡ at
    → l2 ≡ plan_of n a ++ l3 → m ≡ bt → Begins (plan_of m b) l3
second_begins a b at bt n m x y other end l0 l1 l2 l3 h e f k g q =
    let both = plan_of at a ++ plan_of bt b in
    begins_at (λ i. plan_of i b) bt m l3 (back_begins (plan_of at a) (plan_of bt b) l2 l3
    (two_begins both l0 l1 l2 x y other end h e f) (g ∙ ap (λ i. plan_of i a ++ l3) k)) q

pub both_parts_through : (a b : stmt.Action) (at bt n m x y other end : ℕ) (l0 l1 l2 l3 l4 : List ℕ)
    → Begins (x ∷ y ∷ (plan_of at a ++ plan_of bt b)) l0 → l0 ≡ other ∷ l1 → l1 ≡ end ∷ l2 → n ≡ at
    → l2 ≡ plan_of n a ++ l3 → m ≡ bt → l3 ≡ plan_of m b ++ l4 → l0 ≡ (x ∷ y ∷ (plan_of at a ++ plan_of bt b)) ++ l4
both_parts_through a b at bt n m x y other end l0 l1 l2 l3 l4 h e f k g q u =
    let both = plan_of at a ++ plan_of bt b in
    two_through both l0 l1 l2 l4 x y other end e f (two_first both l0 l1 x y other h e)
    (two_second both l0 l1 l2 x y other end h e f)
    (both_through (plan_of at a) (plan_of bt b) l2 l3 l4 (g ∙ ap (λ i. plan_of i a ++ l3) k)
    (u ∙ ap (λ i. plan_of i b ++ l4) q))

-- ---- statements, one after another

pub next_left : (a : stmt.Action) (ss : stmt.Actions) (pc n : ℕ) (now after ys then : List ℕ) →
    Left (plans_of pc (stmt.action_and a ss)) now ys then → now ≡ plan_of pc a ++ after → n ≡ pc + stmt_size a
    → Left (plans_of n ss) after ys then
next_left a ss pc n now after ys then b e h =
    left_at (λ i. plans_of i ss) (pc + stmt_size a) n after ys then (left_more (plan_of pc a)
    (plans_of (pc + stmt_size a) ss) now after ys then b e) h
