-- Labels that were found are those of the definition.
use Rattle.std.proofs.Common.{◌≡◌, ℕ, ◌+◌, List, [], ◌∷◌, ◌++◌, Option, Some, Bool, true, false, if◌then◌else◌, ◌==◌}
use Rattle.std.proofs.Common.{refl, ap, ◌∙◌}
use Rattle.pungi_base.specs.declared.names.Name.{Name}
use Rattle.pungi_resolved.specs.Actions as stmt
use Rattle.pungi_meaning.specs.Work.{or_else}
use Rattle.pungi_emit.specs.declared.planning.scope.Placed.{Placed}
use Rattle.pungi_layout.specs.code.Sizes.{expr_size, test_size, stmt_size}
use Rattle.pungi_layout.specs.code.Scopes.{Env, for_head, label_or, stmt_label, list_label, in_block}
use Rattle.pungi_emit.specs.planning.LabelPlaces.{stmt_labels, list_labels, find}

first_found : (b : Bool) (n : ℕ) (o q r : Option ℕ) → o ≡ or_else q r
    → (if b then Some n else o) ≡ or_else (if b then Some n else q) r
first_found true n o q r e = refl
first_found false n o q r e = e

found_append : (l : Name) (ms ns : List Placed) → find l (ms ++ ns) ≡ or_else (find l ms) (find l ns)
found_append l [] ns = refl
found_append l (m ∷ ms) ns = first_found (m.name.0 == l.0) m.place _ (find l ms) (find l ns) (found_append l ms ns)

chosen : (b : Bool) (n : ℕ) (o q : Option ℕ) → o ≡ q → (if b then Some n else o) ≡ (if b then Some n else q)
chosen true n o q e = refl
chosen false n o q e = e

pub stmt_found : (l : Name) (a : stmt.Action) (pc : ℕ) → find l (stmt_labels pc a) ≡ stmt_label l pc a
stmt_found l (stmt.label p n a) pc = chosen (n.0 == l.0) pc _ _ (stmt_found l a pc)
stmt_found l (stmt.case p n a) pc = stmt_found l a pc
stmt_found l (stmt.default p a) pc = stmt_found l a pc
stmt_found l (stmt.if_only p c a) pc = stmt_found l a (pc + expr_size c + 1)
stmt_found l (stmt.if_else p c a b) pc =
    found_append l (stmt_labels (pc + expr_size c + 1) a) (stmt_labels (pc + expr_size c + 1 + stmt_size a + 1) b)
    ∙ ap (λ o. or_else o (find l (stmt_labels (pc + expr_size c + 1 + stmt_size a + 1) b)))
    (stmt_found l a (pc + expr_size c + 1))
    ∙ ap (λ o. or_else (stmt_label l (pc + expr_size c + 1) a) o) (stmt_found l b
    (pc + expr_size c + 1 + stmt_size a + 1))
stmt_found l (stmt.while p c a) pc = stmt_found l a (pc + test_size (Some c))
stmt_found l (stmt.do_while p a c) pc = stmt_found l a (pc + 1 + test_size (Some c))
stmt_found l (stmt.for p rs u c w a) pc = stmt_found l a (for_head pc rs u + test_size c)
stmt_found l (stmt.switch p v a) pc = stmt_found l a (pc + expr_size v + 1)
stmt_found l (stmt.block p ss q) pc = refl
stmt_found l (stmt.declare p rs) pc = refl
stmt_found l (stmt.do_expr p v) pc = refl
stmt_found l (stmt.goto p n) pc = refl
stmt_found l (stmt.break p) pc = refl
stmt_found l (stmt.continue p) pc = refl
stmt_found l (stmt.return p k v) pc = refl

pub list_found : (l : Name) (list : List stmt.Action) (pc : ℕ) → find l (list_labels pc list) ≡ list_label l pc list
list_found l [] pc = refl
list_found l (a ∷ list) pc =
    found_append l (stmt_labels pc a) (list_labels (pc + stmt_size a) list)
    ∙ ap (λ o. or_else o (find l (list_labels (pc + stmt_size a) list))) (stmt_found l a pc)
    ∙ ap (λ o. or_else (stmt_label l pc a) o) (list_found l list (pc + stmt_size a))

-- with the labels of a block at hand, its inside is the definition's
pub inside : (env : Env) (pc : ℕ) (list : List stmt.Action) (own : List Placed) → own ≡ list_labels pc list →
    ◌≡◌ {A = Env} (record {
      breaks = env.breaks;
      continues = env.continues;
      labels = λ l. label_or (find l own)
          (env.labels l);
    }) (in_block env pc list)
inside env pc list own e =
    let h : (l : Name) → find l own ≡ list_label l pc list = λ l. ap (find l) e ∙ list_found l list pc in
    λ i. record { breaks = env.breaks; continues = env.continues; labels = λ l. label_or (h l i) (env.labels l) }
