-- A call in whose place a copy stands: the instructions before the copied ones bring what the called code would hold.
use Rattle.std.proofs.Common.{◌≡◌, inl, ℕ, zero, suc, ◌+◌, ◌-◌, ◌<◌, ◌≤◌, List, [], ◌∷◌, length, map}
use Rattle.std.proofs.Common.{replicate, Option, Some, None, refl, sym, ap, ◌∙◌, subst, arith, length-append}
use Rattle.std.specs.Prelude.{slice_get}
use Rattle.std.proofs.lemmas.List.{length-map, length-replicate}
use Rattle.std.proofs.lemmas.Option.{slice_get_past, slice_get_within}
use Rattle.pungi_base.specs.declared.choice.Choice.{Choice}
use Rattle.pungi_base.specs.declared.value.Value.{Value}
use Rattle.pungi_world.specs.declared.content.Content.{Content}
use Rattle.pungi_world.specs.declared.content.Content.TheVariants as content
use Rattle.pungi_meaning.specs.Work.{content_at}
use Rattle.pungi_meaning.specs.Run.{Stopped}
use Rattle.pungi_code.specs.declared.atom.Atom.{Atom}
use Rattle.pungi_code.specs.declared.atom.Atom.TheVariants as atom
use Rattle.pungi_code.specs.declared.atom.Var.{Var}
use Rattle.pungi_code.specs.declared.code.Code.{Code}
use Rattle.pungi_code.specs.declared.code.Line.{Line}
use Rattle.pungi_code.specs.Frames.{with_params, param_vars}
use Rattle.pungi_code.specs.Limits.{most_variables}
use Rattle.pungi_code.specs.Registers.{Regs, put, content_of, all_values}
use Rattle.pungi_code.specs.Run.{execute}
use Rattle.pungi_inline.specs.Copies.{body_label}
use Rattle.pungi_inline.specs.Inlined.{label_in}
use Rattle.pungi_inline.specs.Moved.{var_in}
use Rattle.pungi_inline.specs.Sites.{Site, site_at, entry_size}
use Rattle.pungi_inline.proofs.Arguments.{argument, value_there, values_length, params_hold, FirstUnset, first_unset}
use Rattle.pungi_inline.proofs.Filling.{SameBelow, Fills, Filled, fill}
use Rattle.pungi_inline.proofs.Operands.{IsHeld}
use Rattle.pungi_inline.proofs.Performing.{set_step, set_stops, unset_step}
use Rattle.pungi_inline.proofs.Placed.{HaveParams, few_args}
use Rattle.pungi_inline.proofs.Related.{target, window_at, all_vars, AtBase, InCopy}
use Rattle.pungi_inline.proofs.Running.{never_by, never_before}
use Rattle.pungi_inline.proofs.Standing.{window_within, set_line, unset_line}
use Rattle.pungi_inline.proofs.Steps.{Config, config, OneStep, Steps, NeverReturns}

-- an atom of the code's own variables stands for the same
held_same : (n : ℕ) (a : Atom) (vs us : List Content) → IsHeld n a
    → ((x : ℕ) → x < n → content_at us x ≡ content_at vs x) → content_of a us ≡ content_of a vs
held_same n (atom.Var x) vs us h same = same x.0 h
held_same n (atom.Int i) vs us h same = refl
held_same n atom.Null vs us h same = refl
held_same n atom.Text vs us h same = refl
held_same n (atom.Static i) vs us h same = refl

-- where no element is there, all come before
past_all : {A : Type 0} → (xs : List A) (i : ℕ) → slice_get xs i ≡ None → length xs ≤ i
past_all [] i e = omega arith
past_all (x ∷ xs) zero e = absurd (cc)
past_all (x ∷ xs) (suc i) e = omega (arith, past_all xs i e)

-- parameters and other variables are all variables
pub params_length : (g : Code) (vs : List Value) → length vs ≤ length g.vars → length (param_vars g vs) ≡ length g.vars
params_length g vs le =
    let a = length-append (map content.Holds vs) (replicate (length g.vars - length vs) content.Unset) in
    let b : length (map content.Holds vs) ≡ length vs = length-map vs content.Holds in
    let d = length-replicate (length g.vars - length vs) content.Unset in
    a ∙ omega (arith, b, d, le)

module _ (cs : List (Option Code)) (choices : List Choice) (c : Code) (params : HaveParams cs)
    (small : all_vars cs c ≤ most_variables) where
  -- a call in whose place a copy stands, of arguments that are there
  pub record IsSite (pc : ℕ) (l : Line) (s : Site) (m k : Regs) : Type 0 where
    pub base : AtBase cs c pc m k
    pub line : slice_get c.instrs pc ≡ Some l
    pub site : site_at cs l ≡ Some s
    pub some : 0 < length s.code.instrs
    pub held : (i : ℕ) (a : Atom) → slice_get s.args i ≡ Some a → IsHeld (length c.vars) a

  module _ (pc : ℕ) (l : Line) (s : Site) (m k : Regs) (h : IsSite pc l s m k) where
    -- what the i-th variable of the window gets
    abbrev fills_with : ℕ → Content
    fills_with i = argument (slice_get s.args i) m.vars

    -- an argument stands for what it stands for in the code itself, while the window is filled
    same_value : (a : Atom) (i : ℕ) → slice_get s.args i ≡ Some a → (k' : Regs)
        → SameBelow (window_at cs c pc) k k' → content_of a k'.vars ≡ content_of a m.vars
    same_value a i at k' below =
        held_same (length c.vars) a m.vars k'.vars (h.held i a at)
        (λ x lt. below x (omega (arith, lt)) ∙ ap (content_at k.vars) (omega arith)
        ∙ h.base.same.vars x (omega (arith, lt, h.base.vars)))

    -- the same step, to a place and with a content that are spelled otherwise
    spelled : (u : Config) (q q' : ℕ) (x : Var) (d d' : Content) (k' : Regs) → q ≡ q' → d ≡ d'
        → OneStep cs choices u (config [] (target cs c) q (put x d k'))
        → OneStep cs choices u (config [] (target cs c) q' (put x d' k'))
    spelled u q q' x d d' k' e f one n =
        one n ∙ ap (λ p. (execute cs choices n [] (target cs c) p (put x d k')).end) e
        ∙ ap (λ y. (execute cs choices n [] (target cs c) q' (put x y k')).end) f

    -- each of the first instructions of a copy fills a variable of the window
    fills_one : (i : ℕ) (o : Option Atom) → slice_get s.args i ≡ o → i < entry_size s.code
        → ((a : Atom) → slice_get s.args i ≡ Some a → (v : Value) × (content_of a m.vars ≡ content.Holds v))
        → Fills cs choices (target cs c) (label_in cs c.instrs pc) (window_at cs c pc) fills_with i k
    fills_one i (Some a) at lt there k' below =
        let v = there a at in
        let at_k : content_of a k'.vars ≡ content.Holds v.0 = same_value a i at k' below ∙ v.1 in
        let is : content.Holds v.0 ≡ fills_with i = sym (ap (λ o. argument o m.vars) at ∙ v.1) in
        spelled (config [] (target cs c) (label_in cs c.instrs pc + i) k') (label_in cs c.instrs pc + i + 1)
        (label_in cs c.instrs pc + (i + 1)) (var_in (window_at cs c pc) i) (content.Holds v.0) (fills_with i) k'
        (omega arith) is
        (set_step cs choices [] (target cs c) (label_in cs c.instrs pc + i) k' l.pos (var_in (window_at cs c pc) i) a
        v.0 (set_line cs c params pc l s h.line h.site i a lt at) at_k)
    fills_one i None at lt there k' below =
        let is : content.Unset ≡ fills_with i = sym (ap (λ o. argument o m.vars) at) in
        spelled (config [] (target cs c) (label_in cs c.instrs pc + i) k') (label_in cs c.instrs pc + i + 1)
        (label_in cs c.instrs pc + (i + 1)) (var_in (window_at cs c pc) i) content.Unset (fills_with i) k'
        (omega arith) is
        (unset_step cs choices [] (target cs c) (label_in cs c.instrs pc + i) k' l.pos (var_in (window_at cs c pc) i)
        (unset_line cs c params pc l s h.line h.site i lt (past_all s.args i at)))

    abbrev FilledTo : ℕ → Type 0
    FilledTo count = (k' : Regs)
        × Steps cs choices count (config [] (target cs c) (label_in cs c.instrs pc + 0) k)
        (config [] (target cs c) (label_in cs c.instrs pc + (0 + count)) k')
        × Filled (window_at cs c pc) fills_with 0 count k k'

    -- so many of them fill so many variables, where the arguments among these hold values
    fills_to : (count : ℕ) → count ≤ entry_size s.code
        → ((i : ℕ) → i < count → (a : Atom) → slice_get s.args i ≡ Some a
        → (v : Value) × (content_of a m.vars ≡ content.Holds v))
        → FilledTo count
    fills_to count le there =
        let within = window_within cs c pc l s h.line h.site in
        fill cs choices (target cs c) (label_in cs c.instrs pc) (window_at cs c pc) fills_with count 0 k
        (omega (arith, within, le, h.base.room)) (omega (arith, small, h.base.room))
        (λ i from lt. fills_one i (slice_get s.args i) refl (omega (arith, lt, le)) (there i (omega (arith, lt))))

    -- ---- all arguments are there

    -- when all variables are filled, the copy of the called code begins
    enters_with : (vs : List Value) → all_values s.args m.vars ≡ Some vs → (k' : Regs)
        → Filled (window_at cs c pc) fills_with 0 (entry_size s.code) k k'
        → InCopy cs c pc l s 0 (with_params s.code vs m) m.vars k'
    enters_with vs e k' f =
        let within = window_within cs c pc l s h.line h.site in
        let few = few_args cs params l s h.site in
        let many : length vs ≡ length s.args = values_length s.args m.vars vs e in
        let long : length (param_vars s.code vs) ≡ length s.code.vars
        = params_length s.code vs (omega (arith, few, many)) in
        record {
          line = h.line;
          site = h.site;
          inside = h.some;
          same = record {
            world = f.world ∙ h.base.same.world;
            used = f.used ∙ h.base.same.used;
            vars = λ x lt.
                f.inside x (omega arith) (omega (arith, lt, long))
                ∙ sym (params_hold s.args m.vars vs (length s.code.vars - length vs) e x);
            room = omega (arith, long, within, f.long, h.base.room);
          };
          vars = long;
          before = λ x lt.
              f.outside (0 + x) (inl (omega (arith, lt, h.base.vars))) ∙ h.base.same.vars x lt;
          caller = h.base.vars;
          unset = f.inside (length s.code.vars) (omega arith) (omega arith)
              ∙ ap (λ o. argument o m.vars) (slice_get_past s.args (length s.code.vars) few);
          room = f.long ∙ h.base.room;
        }

    -- the run of the code with copies goes to the copy of the called code
    pub enters_copy : (vs : List Value) → all_values s.args m.vars ≡ Some vs
        → (k' : Regs)
        × Steps cs choices (suc (length s.code.vars)) (config [] (target cs c) (label_in cs c.instrs pc) k)
        (config [] (target cs c) (body_label (label_in cs c.instrs pc) s.code 0) k')
        × InCopy cs c pc l s 0 (with_params s.code vs m) m.vars k'
    enters_copy vs e =
        let r = fills_to (entry_size s.code) (omega arith)
        (λ i lt a at. value_there s.args m.vars vs e i a at) in
        let count : entry_size s.code ≡ suc (length s.code.vars) = omega arith in
        let from : label_in cs c.instrs pc + 0 ≡ label_in cs c.instrs pc = omega arith in
        let to : label_in cs c.instrs pc + (0 + entry_size s.code) ≡ body_label (label_in cs c.instrs pc) s.code 0
        = omega arith in (
          r.0,
          subst (λ n. Steps cs choices n (config [] (target cs c) (label_in cs c.instrs pc) k)
              (config [] (target cs c) (body_label (label_in cs c.instrs pc) s.code 0) r.0)) count
              (subst (λ q. Steps cs choices (entry_size s.code) (config [] (target cs c) (label_in cs c.instrs pc) k)
              (config [] (target cs c) q r.0)) to
              (subst (λ q. Steps cs choices (entry_size s.code) (config [] (target cs c) q k)
              (config [] (target cs c) (label_in cs c.instrs pc + (0 + entry_size s.code)) r.0)) from r.1)),
          enters_with vs e r.0 r.2,
        )

    -- ---- one argument holds nothing

    -- it stops at the first argument that holds nothing
    stops_at : (u : FirstUnset s.args m.vars) → FilledTo u.place
        → NeverReturns cs choices (config [] (target cs c) (label_in cs c.instrs pc) k)
    stops_at u r =
        let few = few_args cs params l s h.site in
        let lt : u.place < length s.args = slice_get_within s.args u.place u.atom u.there in
        let room = window_within cs c pc l s h.line h.site in
        let at_k : content_of u.atom r.0.vars ≡ content.Unset
        = same_value u.atom u.place u.there r.0
        (λ x less. r.2.outside x (inl (omega (arith, less)))) ∙ u.unset in
        let stops = set_stops cs choices [] (target cs c) (label_in cs c.instrs pc + u.place) r.0 l.pos
        (var_in (window_at cs c pc) u.place) u.atom
        (set_line cs c params pc l s h.line h.site u.place u.atom (omega (arith, lt, few)) u.there) at_k in
        let never : NeverReturns cs choices (config [] (target cs c) (label_in cs c.instrs pc + (0 + u.place)) r.0)
        = subst (λ q. NeverReturns cs choices (config [] (target cs c) (label_in cs c.instrs pc + q) r.0))
        (omega arith)
        (never_by cs choices (config [] (target cs c) (label_in cs c.instrs pc + u.place) r.0) (Stopped l.pos)
        stops (λ i. i)) in
        subst (λ q. NeverReturns cs choices (config [] (target cs c) q k)) (omega arith)
        (never_before cs choices u.place (config [] (target cs c) (label_in cs c.instrs pc + 0) k)
        (config [] (target cs c) (label_in cs c.instrs pc + (0 + u.place)) r.0) r.1 never)

    -- where an argument holds nothing it never returns
    pub stops_before : all_values s.args m.vars ≡ None
        → NeverReturns cs choices (config [] (target cs c) (label_in cs c.instrs pc) k)
    stops_before e =
        let u = first_unset s.args m.vars e in
        let few = few_args cs params l s h.site in
        let lt : u.place < length s.args = slice_get_within s.args u.place u.atom u.there in
        stops_at u (fills_to u.place (omega (arith, lt, few)) u.before)
