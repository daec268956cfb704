-- What a program's annotation keeps when exits that it reads, and its own, change.
--   sends_under, kept_under, inductive_under    fewer vectors at exits that are read, and more at its own
--   AreExitsPut            one function's exits were put, and all others stayed
--   calls_other, calls_this, exits_added    the vectors at exits after that
--   reads_same             a program waits, or reads no exit that changed
use Rattle.std.proofs.Common.{◌≡◌, ◌∙◌, ◌⊎◌, inl, inr, ℕ, zero, suc, ◌<◌, Bool, List, [], ◌∷◌, length}
use Rattle.std.proofs.Common.{Option, Some, None, refl, sym, ap, subst, arith}
use Rattle.std.specs.Prelude.{slice_get}
use Rattle.std.specs.List.{Contains, slice_index_or}
use Rattle.std.proofs.lemmas.Bool.{cases_eq}
use Rattle.std.proofs.lemmas.Option.{slice_get_within, slice_get-get_or}
use Rattle.pungi_domain.specs.Annotations.{IsInductive, Sends, set_to}
use Rattle.pungi_domain.specs.Programs.{width_at, width_to}
use Rattle.pungi_domain.specs.Vectors.{Vector, Vectors}
use Rattle.pungi_domain.specs.declared.action.Action.{Action}
use Rattle.pungi_domain.specs.declared.action.Action.TheVariants.{Map, Free, Call}
use Rattle.pungi_domain.specs.declared.affine_program.AffineProgram.{AffineProgram}
use Rattle.pungi_domain.specs.declared.target.Target.{Target}
use Rattle.pungi_domain.specs.declared.target.Target.TheVariants.{Place, Exit}
use Rattle.pungi_fixpoint.specs.Solver.{calls, members, sets}
use Rattle.pungi_fixpoint.specs.Summaries.{flatten}
use Rattle.pungi_links.specs.Ring.{Stands}
use Rattle.pungi_summary.specs.CallPlaces.{site}
use Rattle.pungi_summary.specs.Calls.{AreCallable, CallsFrom, program_of}
use Rattle.pungi_summary.specs.Results.{AreValues}
use Rattle.pungi_summary.specs.Sites.{AreSites, sites_of}
use Rattle.pungi_summary.specs.Values.{AreGrown}
use Rattle.pungi_summary.specs.declared.call_site.CallSite.{CallSite}
use Rattle.pungi_summary.proofs.Callees.{call_known}

sends_under : (calls calls' : ℕ → ℕ → Vectors) (w z : ℕ) (a : Action) (v u : Vector)
    → ((g class : ℕ) (onto : List ℕ) → a ≡ Call g class onto → (x : Vector) → calls' g class x → calls g class x)
    → Sends calls' w z a v u → Sends calls w z a v u
sends_under calls calls' w z (Map m) v u h s = s
sends_under calls calls' w z (Free c) v u h s = s
sends_under calls calls' w z (Call g class onto) v u h s =
    (s.0, (s.1.0, h g class onto refl s.1.0 s.1.1, s.1.2))

set_out : (at exits exits' : ℕ → Vectors) (t : Target) (v : Vector) → ((c : ℕ) (x : Vector) → exits c x → exits' c x)
    → set_to at exits t v → set_to at exits' t v
set_out at exits exits' (Place k) v h m = m
set_out at exits exits' (Exit k) v h m = h k v m

pub inductive_under : (p : AffineProgram) (calls calls' : ℕ → ℕ → Vectors) (at exits exits' : ℕ → Vectors)
    → ((g k : ℕ) → CallsFrom p k g → (class : ℕ) (x : Vector) → calls' g class x → calls g class x)
    → ((c : ℕ) (x : Vector) → exits c x → exits' c x) → IsInductive p calls at exits → IsInductive p calls' at exits'
inductive_under p calls calls' at exits exits' fewer more h = record {
  entries = h.entries;
  edges = λ k d lt v u stands guard sends.
      let e = slice_index_or p.edges k d in
      set_out at exits exits' e.to u more (h.edges k d lt v u stands guard
      (sends_under calls calls' (width_at p e.from) (width_to p e.to) e.action v u
      (λ g class onto is. fewer g e.from (record {
        number = k;
        edge = e;
        edge_is = slice_get-get_or p.edges k d lt;
        from = refl;
        class = class;
        onto = onto;
        action = is;
      }) class) sends));
}

pub record AreExitsPut {D : Type 0} (f : ℕ) (new : List (Option D)) (exits exits' : List (List (Option D))) : Type 0
  where
    pub count : length exits' ≡ length exits
    pub this : slice_index_or exits' f [] ≡ new
    pub others : (g : ℕ) → (g ≡ f → ⊥) → slice_index_or exits' g [] ≡ slice_index_or exits g []

exit_in : {D : Type 0} → (D → Vectors) → List (Option D) → ℕ → Vectors
exit_in member ds c v = members member (flatten (slice_get ds c)) v

module _ {D : Type 0} (member : D → Vectors) (f : ℕ) (new : List (Option D)) (exits exits' : List (List (Option D)))
    (h : AreExitsPut f new exits exits') where
  pub calls_other : (g c : ℕ) (v : Vector) → (g ≡ f → ⊥) → calls member exits' g c v → calls member exits g c v
  calls_other g c v other m =
      subst (λ (ds : List (Option D)). members member (flatten (slice_get ds c)) v) (h.others g other) m

  pub calls_kept : (g c : ℕ) (v : Vector) → (g ≡ f → ⊥) → calls member exits g c v → calls member exits' g c v
  calls_kept g c v other m =
      subst (λ (ds : List (Option D)). members member (flatten (slice_get ds c)) v) (sym (h.others g other)) m

  pub calls_put : (c : ℕ) (v : Vector) → members member (flatten (slice_get new c)) v → calls member exits' f c v
  calls_put c v m = subst (λ (ds : List (Option D)). members member (flatten (slice_get ds c)) v) (sym h.this) m

  pub calls_from : (c : ℕ) (v : Vector) → calls member exits' f c v → members member (flatten (slice_get new c)) v
  calls_from c v m = subst (λ (ds : List (Option D)). members member (flatten (slice_get ds c)) v) h.this m

  pub calls_unchanged : (c : ℕ) (v : Vector) → new ≡ slice_index_or exits f [] → calls member exits' f c v
      → calls member exits f c v
  calls_unchanged c v same m =
      subst (λ (ds : List (Option D)). members member (flatten (slice_get ds c)) v) same (calls_from c v m)

-- what an annotation has at an exit class is taken in
pub exits_added : {D : Type 0} (least : Bool) (member : D → Vectors) (width : D → ℕ) (ws : List ℕ)
    (old new : List (Option D)) (added : List D) → AreValues width ws old → length added ≡ length ws
    → AreGrown least member width old added new → (c : ℕ) (v : Vector) → sets member added c v
    → members member (flatten (slice_get new c)) v
exits_added {D} least member width ws old new added values count grown c v m =
    go (slice_get added c) refl m
  where
    go : (o : Option D) → slice_get added c ≡ o → members member o v → members member (flatten (slice_get new c)) v
    go None e n = absurd n
    go (Some a) e n =
        let lt = slice_get_within added c a e in
        let d = values.each c (omega (arith, lt, count)) in
        let s = grown.each c d.0 a d.1 e in
        subst (λ (x : Option (Option D)). members member (flatten x) v) (sym s.1) (s.2.covers.0 v (inr n))

caller_or : (sites : List CallSite) (g : ℕ)
    → ((s : CallSite) × Contains sites s × (s.caller ≡ g)) ⊎ ((s : CallSite) → Contains sites s → s.caller ≡ g → ⊥)
caller_or [] g = inr (λ s m e. (let lt = m.1 in absurd (omega (arith, lt))))
caller_or (x ∷ xs) g = elim (cases_eq x.caller g) [
  | inl same ↦ inl (x, (zero, omega arith, refl), same)
  | inr other ↦ elim (caller_or xs g) [
    | inl there ↦ inl (there.0, (suc there.1.0, (let lt = there.1.1 in omega (arith, lt)), there.1.2), there.2)
    | inr none ↦ inr (λ s m. here s m.0 m.1 m.2 other none)
  ]
]
  where
    here : (s : CallSite) (k : ℕ) → k < length (x ∷ xs) → slice_index_or (x ∷ xs) k s ≡ s → (x.caller ≡ g → ⊥)
        → ((t : CallSite) → Contains xs t → t.caller ≡ g → ⊥) → s.caller ≡ g → ⊥
    here s zero lt is other none e = other (ap (λ (y : CallSite). y.caller) is ∙ e)
    here s (suc k) lt is other none e = none s (k, omega (arith, lt), is) e

-- a function waits, or reads no exit that changed
pub reads_same : {D : Type 0} (member : D → Vectors) (ps : List (Option AffineProgram)) (callees : List (List ℕ))
    (callable : AreCallable ps callees) (lists : List (List CallSite)) (f : ℕ) (new : List (Option D))
    (exits exits' : List (List (Option D))) (list : List ℕ) → AreSites ps callees lists
    → AreExitsPut f new exits exits'
    → ((s : CallSite) → Contains (sites_of lists f) s → Stands s.caller list) ⊎ (new ≡ slice_index_or exits f [])
    → (g : ℕ) (p : AffineProgram) → program_of ps g ≡ Some p
    → Stands g list ⊎ ((h k : ℕ) → CallsFrom p k h → (class : ℕ) (x : Vector) → calls member exits' h class x
    → calls member exits h class x)
reads_same member ps callees callable lists f new exits exits' list sites change (inr same) g p is =
    inr (λ h k call class x m. elim (cases_eq h f) [
      | inl here ↦ subst (λ i. calls member exits i class x) (sym here) (calls_unchanged member f new exits exits'
          change class x same (subst (λ i. calls member exits' i class x) here m))
      | inr other ↦ calls_other member f new exits exits' change h class x other m
    ])
reads_same member ps callees callable lists f new exits exits' list sites change (inl waits) g p is =
    elim (caller_or (sites_of lists f) g) [
      | inl there ↦ inl (subst (λ i. Stands i list) there.2 (waits there.0 there.1))
      | inr none ↦ inr (λ h k call class x m. elim (cases_eq h f) [
        | inl here ↦
            let put_there = sites.there g f (call_known ps callees g k f p callable is
            (subst (CallsFrom p k) here call))
            in
            absurd (none (site g put_there.0) put_there.1 refl)
        | inr other ↦ calls_other member f new exits exits' change h class x other m
      ])
    ]
