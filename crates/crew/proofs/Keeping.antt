-- Each step of the block's cell keeps its rule.
use Rattle.std.proofs.Common.{◌≡◌, ◌≢◌, ◌⊎◌, ℕ, zero, suc, ◌+◌, ◌≤◌, ◌<◌, ◌==◌, List, [], ◌∷◌, ◌++◌, length, set, Bool, true, false, true≢false, refl, sym, ap, ◌∙◌, subst, inl, inr, ⊎_elim, eq-eqb, ne_eqb, arith, if◌then◌else◌}
use mathlib.Core.Option.{some, some-ne-none, some-injective}
use lib.ListN.{get_elem?}
use Rattle.crossbeam_utils.specs.Register.{Turns, Forks, Merges}
use Rattle.atomic_table.proofs.Lists.{at_set}
use Rattle.steps.specs.Events.{Event}
use Rattle.machine.specs.Turns.{Turn, events_of}
use Rattle.crew.specs.Knowing.{Knows, keeping, acting, nobody, both, KeepsAll, ActsAs, Kept, Compared, Looked, kept_all, kept_own, told_all, told_own, turn}

off : false ≡ true → ⊥
off e = true≢false (sym e)

-- ---- lists

length_set : (l : List Knows) (i : ℕ) (a : Knows) → length (set l i a) ≡ length l
length_set [] i a = refl
length_set (x ∷ xs) zero a = refl
length_set (x ∷ xs) (suc i) a = ap suc (length_set xs i a)

at_new : (l : List Knows) (a b : Knows) (j : ℕ) → get_elem? (l ++ a ∷ []) j ≡ some b → (get_elem? l j ≡ some b) ⊎ ((j ≡ length l) × (a ≡ b))
at_new [] a b zero e = inr (refl, some-injective a b e)
at_new [] a b (suc j) e = absurd (some-ne-none b (sym e))
at_new (x ∷ xs) a b zero e = inl e
at_new (x ∷ xs) a b (suc j) e = ⊎_elim (λ t. inl t) (λ t. inr (ap suc t.0, t.1)) (at_new xs a b j e)

-- what holds of each view but one, and of what stands in its place, holds of each
set_each : (P : ℕ → Knows → Type 0) (views : List Knows) (by : ℕ) (w : Knows) → ((j : ℕ) (u : Knows) → j ≢ by → get_elem? views j ≡ some u → P j u) → P by w
    → (j : ℕ) (u : Knows) → get_elem? (set views by w) j ≡ some u → P j u
set_each P views by w others one j u e =
    ⊎_elim
    (λ (t : (j ≡ by) × (w ≡ u)). subst (λ (y : ℕ × Knows). P y.0 y.1) (λ i. (sym t.0 i, t.1 i)) one)
    (λ (t : (j ≢ by) × (get_elem? views j ≡ some u)). others j u t.0 t.1)
    (at_set views by j w u e)

-- and of one more
fork_each : (P : ℕ → Knows → Type 0) (views : List Knows) (by : ℕ) (left right : Knows) → ((j : ℕ) (u : Knows) → j ≢ by → get_elem? views j ≡ some u → P j u) → P by left → P (length views) right
    → (j : ℕ) (u : Knows) → get_elem? (set views by left ++ right ∷ []) j ≡ some u → P j u
fork_each P views by left right others one new j u e =
    ⊎_elim
    (λ (t : get_elem? (set views by left) j ≡ some u). set_each P views by left others one j u t)
    (λ (t : (j ≡ length (set views by left)) × (right ≡ u)). subst (λ (y : ℕ × Knows). P y.0 y.1) (λ i. (sym (t.0 ∙ length_set views by left) i, t.1 i)) new)
    (at_new (set views by left) right u j e)

-- ---- whose pass is which actor's

abbrev moved : (actor at : ℕ) → (ℕ → ℕ) → ℕ → ℕ
moved actor at holder x = if x == actor then at else holder x

moved_here : (actor at : ℕ) (holder : ℕ → ℕ) → moved actor at holder actor ≡ at
moved_here actor at holder = ap (λ b. if b then at else holder actor) (eq-eqb actor actor refl)

moved_else : (actor at : ℕ) (holder : ℕ → ℕ) (x : ℕ) → x ≢ actor → moved actor at holder x ≡ holder x
moved_else actor at holder x apart = ap (λ b. if b then at else holder x) (ne_eqb x actor apart)

-- ---- events of one actor

with_one : (b : Bool) (x : Event) (ys zs : List Event) (e : Event) → ys ≡ zs ++ e ∷ [] → (if b then x ∷ ys else ys) ≡ (if b then x ∷ zs else zs) ++ e ∷ []
with_one true x ys zs e is = ap (λ (l : List Event). x ∷ l) is
with_one false x ys zs e is = is

pub events_here : (actor : ℕ) (e : Event) (log : List Turn) → events_of actor (log ++ turn actor e ∷ []) ≡ events_of actor log ++ e ∷ []
events_here actor e [] = ap (λ b. if b then e ∷ [] else []) (eq-eqb actor actor refl)
events_here actor e (t ∷ log) = with_one (t.actor == actor) t.did (events_of actor (log ++ turn actor e ∷ [])) (events_of actor log) e (events_here actor e log)

pub events_else : (x actor : ℕ) (e : Event) (log : List Turn) → actor ≢ x → events_of x (log ++ turn actor e ∷ []) ≡ events_of x log
events_else x actor e [] apart = ap (λ b. if b then e ∷ [] else []) (ne_eqb actor x apart)
events_else x actor e (t ∷ log) apart = ap (λ (l : List Event). if t.actor == x then t.did ∷ l else l) (events_else x actor e log apart)

-- ---- the steps

abbrev Fits : (seat : ℕ) → (holder : ℕ → ℕ) → (next : ℕ) → List Turn → (by : ℕ) → Knows → Type 0
Fits seat holder next log by v = KeepsAll seat next log by v × ActsAs holder next log by v

none_fits : (seat : ℕ) (holder : ℕ → ℕ) (next : ℕ) (log : List Turn) (by : ℕ) → Fits seat holder next log by nobody
none_fits seat holder next log by = ((λ k. absurd (off k)), (λ k. absurd (off k)))

pub begins : (words : List ℕ) → Kept words (keeping [] 0 ∷ [])
begins words = record { seat = 0; holder = λ x. 0; next = 0; log = []; unused = λ x le. refl; each = one }
  where
    one : (by : ℕ) (v : Knows) → get_elem? (keeping [] 0 ∷ []) by ≡ some v → Fits 0 (λ x. 0) 0 [] by v
    one zero v e = subst (Fits 0 (λ x. 0) 0 [] 0) (some-injective _ _ e) ((λ k. (refl, refl, refl)), (λ k. absurd (off k)))
    one (suc by) v e = absurd (some-ne-none v (sym e))

-- an actor's pass goes over to another
cuts : (by actor : ℕ) (mine : List Event) → Forks Kept by (acting actor mine) nobody (acting actor mine)
cuts by actor mine words views h at =
    let own = (h.each by (acting actor mine) at).1 refl in
    let holder : ℕ → ℕ = moved actor (length views) h.holder in
    record {
      seat = h.seat;
      holder = holder;
      next = h.next;
      log = h.log;
      unused = h.unused;
      each = fork_each (Fits h.seat holder h.next h.log) views by nobody (acting actor mine)
          (λ j u apart e. (
            (h.each j u e).0,
            (λ acts.
                let k = (h.each j u e).1 acts in
                (k.0 ∙ sym (moved_else actor (length views) h.holder u.actor (λ same. apart (k.0 ∙ ap h.holder same ∙ sym own.0))), k.1, k.2)),
          ))
          (none_fits h.seat holder h.next h.log by)
          ((λ k. absurd (off k)), (λ k. (sym (moved_here actor (length views) h.holder), own.1, own.2)));
    }

pub cuts_as : (by : ℕ) (v : Knows) → v ≡ acting v.actor v.mine → Forks Kept by v nobody v
cuts_as by v is = subst (λ (u : Knows). Forks Kept by u nobody u) (sym is) (cuts by v.actor v.mine)

-- an actor begins
takes : (by : ℕ) (all : List Turn) (next actor : ℕ) → next ≤ actor → Forks Kept by (keeping all next) (keeping all (actor + 1)) (acting actor [])
takes by all next actor le words views h at =
    let mine = (h.each by (keeping all next) at).0 refl in
    let here : next ≡ h.next = mine.2 in
    let holder : ℕ → ℕ = moved actor (length views) h.holder in
    record {
      seat = h.seat;
      holder = holder;
      next = actor + 1;
      log = h.log;
      unused = λ x more. h.unused x (omega (arith, here, le, more));
      each = fork_each (Fits h.seat holder (actor + 1) h.log) views by (keeping all (actor + 1)) (acting actor [])
          (λ j u apart e. (
            (λ keeps. absurd (apart (((h.each j u e).0 keeps).0 ∙ sym mine.0))),
            (λ acts.
                let k = (h.each j u e).1 acts in
                let less : u.actor < h.next = k.1 in
                (k.0 ∙ sym (moved_else actor (length views) h.holder u.actor (λ same. absurd (omega (arith, same, less, here, le)))), omega (arith, less, here, le), k.2)),
          ))
          ((λ k. (mine.0, mine.1, refl)), (λ k. absurd (off k)))
          ((λ k. absurd (off k)), (λ k. (sym (moved_here actor (length views) h.holder), omega arith, sym (h.unused actor (omega (arith, here, le))))));
    }

pub takes_as : (by : ℕ) (v : Knows) (actor : ℕ) → v ≡ keeping v.all v.next → v.next ≤ actor → Forks Kept by v (keeping v.all (actor + 1)) (acting actor [])
takes_as by v actor is le = subst (λ (u : Knows). Forks Kept by u (keeping v.all (actor + 1)) (acting actor [])) (sym is) (takes by v.all v.next actor le)

-- the keeping takes in an actor's pass
joins : (by : ℕ) (all : List Turn) (next other actor : ℕ) (mine : List Event) → Merges Kept by (keeping all next) other (acting actor mine) (both (keeping all next) (acting actor mine)) nobody
joins by all next other actor mine words views h at apart there =
    let w : Knows = both (keeping all next) (acting actor mine) in
    let kept = (h.each by (keeping all next) at).0 refl in
    let there_too : get_elem? views other ≡ some (acting actor mine) =
    ⊎_elim (λ (t : (other ≡ by) × (w ≡ acting actor mine)). absurd (apart t.0)) (λ (t : (other ≢ by) × (get_elem? views other ≡ some (acting actor mine))). t.1) (at_set views by other w (acting actor mine) there) in
    let own = (h.each other (acting actor mine) there_too).1 refl in
    let holder : ℕ → ℕ = moved actor by h.holder in
    let P : ℕ → Knows → Type 0 = Fits h.seat holder h.next h.log in
    record {
      seat = h.seat;
      holder = holder;
      next = h.next;
      log = h.log;
      unused = h.unused;
      each = set_each P (set views by w) other nobody
          (λ j u beside e. set_each (λ i x. i ≢ other → P i x) views by w
          (λ i x from it away. (
            (h.each i x it).0,
            (λ acts.
                let k = (h.each i x it).1 acts in
                (k.0 ∙ sym (moved_else actor by h.holder x.actor (λ same. away (k.0 ∙ ap h.holder same ∙ sym own.0))), k.1, k.2)),
          ))
          (λ away. ((λ k. kept), (λ k. (sym (moved_here actor by h.holder), own.1, own.2))))
          j u e beside)
          (none_fits h.seat holder h.next h.log other);
    }

pub joins_as : (by : ℕ) (v : Knows) (other : ℕ) (w : Knows) → v ≡ keeping v.all v.next → w ≡ acting w.actor w.mine → Merges Kept by v other w (both v w) nobody
joins_as by v other w is acts =
    subst (λ (u : Knows). Merges Kept by u other w (both u w) nobody) (sym is)
    (subst (λ (x : Knows). Merges Kept by (keeping v.all v.next) other x (both (keeping v.all v.next) x) nobody) (sym acts) (joins by v.all v.next other w.actor w.mine))

-- the keeping tells a turn of the actor whose pass it has, and gives that back
tells : (by : ℕ) (all : List Turn) (next actor : ℕ) (mine : List Event) (e : Event)
    → Forks Kept by (both (keeping all next) (acting actor mine)) (keeping (all ++ turn actor e ∷ []) next) (acting actor (mine ++ e ∷ []))
tells by all next actor mine e words views h at =
    let v : Knows = both (keeping all next) (acting actor mine) in
    let kept = (h.each by v at).0 refl in
    let own = (h.each by v at).1 refl in
    let holder : ℕ → ℕ = moved actor (length views) h.holder in
    let log : List Turn = h.log ++ turn actor e ∷ [] in
    let less : actor < h.next = own.1 in
    record {
      seat = h.seat;
      holder = holder;
      next = h.next;
      log = log;
      unused = λ x more. events_else x actor e h.log (λ same. absurd (omega (arith, same, less, more))) ∙ h.unused x more;
      each = fork_each (Fits h.seat holder h.next log) views by (keeping (all ++ turn actor e ∷ []) next) (acting actor (mine ++ e ∷ []))
          (λ j u apart it. (
            (λ keeps. absurd (apart (((h.each j u it).0 keeps).0 ∙ sym kept.0))),
            (λ acts.
                let k = (h.each j u it).1 acts in
                let others : u.actor ≢ actor = λ same. apart (k.0 ∙ ap h.holder same ∙ sym own.0) in
                (k.0 ∙ sym (moved_else actor (length views) h.holder u.actor others), k.1, k.2 ∙ sym (events_else u.actor actor e h.log (λ same. others (sym same))))),
          ))
          ((λ k. (kept.0, ap (λ (l : List Turn). l ++ turn actor e ∷ []) kept.1, kept.2)), (λ k. absurd (off k)))
          ((λ k. absurd (off k)), (λ k. (sym (moved_here actor (length views) h.holder), own.1, ap (λ (l : List Event). l ++ e ∷ []) own.2 ∙ sym (events_here actor e h.log))));
    }

pub tells_as : (by : ℕ) (v : Knows) (e : Event) (all : List Turn) (next actor : ℕ) (mine : List Event) → v ≡ both (keeping all next) (acting actor mine) → Forks Kept by v (told_all e v) (told_own e v)
tells_as by v e all next actor mine is = subst (λ (u : Knows). Forks Kept by u (told_all e u) (told_own e u)) (sym is) (tells by all next actor mine e)

-- the keeping looks at what the actor whose pass it has knows
compares : (by : ℕ) (all : List Turn) (next actor : ℕ) (mine : List Event) → Turns Kept by (both (keeping all next) (acting actor mine)) (λ x. x) Compared
compares by all next actor mine words views h at =
    let v : Knows = both (keeping all next) (acting actor mine) in
    let kept = (h.each by v at).0 refl in
    let own = (h.each by v at).1 refl in (
      keeping all next,
      record {
        seat = h.seat;
        holder = h.holder;
        next = h.next;
        log = h.log;
        unused = h.unused;
        each = set_each (Fits h.seat h.holder h.next h.log) views by (keeping all next) (λ j u apart e. h.each j u e) ((λ k. kept), (λ k. absurd (off k)));
      },
      (refl, own.2 ∙ ap (λ (l : List Turn). events_of actor l) (sym kept.1)),
    )

pub compares_as : (by : ℕ) (v : Knows) (all : List Turn) (next actor : ℕ) (mine : List Event) → v ≡ both (keeping all next) (acting actor mine) → Turns Kept by v (λ x. x) Compared
compares_as by v all next actor mine is = subst (λ (u : Knows). Turns Kept by u (λ x. x) Compared) (sym is) (compares by all next actor mine)

-- it looks, and keeps that pass
looks : (by : ℕ) (all : List Turn) (next actor : ℕ) (mine : List Event) → Turns Kept by (both (keeping all next) (acting actor mine)) (λ x. x) Looked
looks by all next actor mine words views h at =
    let v : Knows = both (keeping all next) (acting actor mine) in
    let kept = (h.each by v at).0 refl in
    let own = (h.each by v at).1 refl in (
      v,
      record {
        seat = h.seat;
        holder = h.holder;
        next = h.next;
        log = h.log;
        unused = h.unused;
        each = set_each (Fits h.seat h.holder h.next h.log) views by v (λ j u apart e. h.each j u e) (h.each by v at);
      },
      (refl, own.2 ∙ ap (λ (l : List Turn). events_of actor l) (sym kept.1)),
    )

pub looks_as : (by : ℕ) (v : Knows) (all : List Turn) (next actor : ℕ) (mine : List Event) → v ≡ both (keeping all next) (acting actor mine) → Turns Kept by v (λ x. x) Looked
looks_as by v all next actor mine is = subst (λ (u : Knows). Turns Kept by u (λ x. x) Looked) (sym is) (looks by all next actor mine)

-- and gives it back
gives : (by : ℕ) (all : List Turn) (next actor : ℕ) (mine : List Event) → Forks Kept by (both (keeping all next) (acting actor mine)) (keeping all next) (acting actor mine)
gives by all next actor mine words views h at =
    let v : Knows = both (keeping all next) (acting actor mine) in
    let kept = (h.each by v at).0 refl in
    let own = (h.each by v at).1 refl in
    let holder : ℕ → ℕ = moved actor (length views) h.holder in
    record {
      seat = h.seat;
      holder = holder;
      next = h.next;
      log = h.log;
      unused = h.unused;
      each = fork_each (Fits h.seat holder h.next h.log) views by (keeping all next) (acting actor mine)
          (λ j u apart it. (
            (h.each j u it).0,
            (λ acts.
                let k = (h.each j u it).1 acts in
                (k.0 ∙ sym (moved_else actor (length views) h.holder u.actor (λ same. apart (k.0 ∙ ap h.holder same ∙ sym own.0))), k.1, k.2)),
          ))
          ((λ k. kept), (λ k. absurd (off k)))
          ((λ k. absurd (off k)), (λ k. (sym (moved_here actor (length views) h.holder), own.1, own.2)));
    }

pub gives_as : (by : ℕ) (v : Knows) (all : List Turn) (next actor : ℕ) (mine : List Event) → v ≡ both (keeping all next) (acting actor mine) → Forks Kept by v (kept_all v) (kept_own v)
gives_as by v all next actor mine is = subst (λ (u : Knows). Forks Kept by u (kept_all u) (kept_own u)) (sym is) (gives by all next actor mine)
