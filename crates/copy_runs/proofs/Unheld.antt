-- A run that ended with a refusal, and the end of a process, wait for no transaction that a force would make durable.
use Rattle.std.proofs.Common.{◌≡◌, ◌⊎◌, inl, inr, ℕ, Bool, true, false, if◌then◌else◌, List, [], ◌∷◌, ◌++◌, Option, None, Some, Result, Ok, Err, refl, sym, ap, subst, ◌∙◌}
use Rattle.std.specs.List.{AllByRecursion}
use Rattle.kinds.specs.declared.refusal.Holder.{Holder}
use Rattle.kinds.specs.declared.refusal.Holder.TheVariants as holder
use Rattle.kinds.specs.declared.refusal.Refusal.{Refusal}
use Rattle.kinds.specs.declared.refusal.Refusal.TheVariants as refused
use Rattle.space.specs.declared.aim.Aim.{Aim}
use Rattle.steps.specs.Calls.{Made}
use Rattle.steps.specs.Events.{Deed, Event, refusal}
use Rattle.steps.specs.Events.Deed.{Force}
use Rattle.copy_attempts.specs.declared.outcome.Came.{Came}
use Rattle.copy_attempts.specs.Attempts.{Awaits, Ends, Goes, holder_in, is_stopping, stopping}
use Rattle.copy_attempts.specs.Outcomes.{Attempt, MetBy}
use Rattle.copy_attempts.proofs.Facts.{met-behind, some-memory}
use Rattle.copy_runs.specs.declared.wanted.Moved.{Moved}
use Rattle.copy_runs.specs.declared.wanted.Wanted.{Wanted}
use Rattle.copy_runs.specs.Ends.{AreAsking, AreEnding, IsEnding, IsStopped, IsUnheld}
use Rattle.copy_runs.specs.Runs.{Run}

-- it asks or forces, and is refused so
abbrev EndsSo : Refusal → Deed → Type 0
EndsSo e d = IsEnding d × (refusal d ≡ Some e)

pub unheld-behind : (xs ys : List Event) (e : Refusal) → IsUnheld ys e → IsUnheld (xs ++ ys) e
unheld-behind xs ys e h number busy = met-behind (EndsSo e) xs ys (h number busy)

unheld-cut : (events xs ys : List Event) (e : Refusal) → events ≡ xs ++ ys → IsUnheld ys e → IsUnheld events e
unheld-cut events xs ys e is h = subst (λ (es : List Event). IsUnheld es e) (sym is) (unheld-behind xs ys e h)

-- want of memory holds nothing
memory-unheld : (events : List Event) (e : Refusal) → e ≡ refused.Memory → IsUnheld events e
memory-unheld events e memory number busy = absurd (let odd : refused.Memory ≡ refused.Busy (holder.Unforced number) = sym memory ∙ busy in cc)

-- ---- an attempt

force-unheld : (x e : Refusal) (events : List Event) → Made (Force (Err x)) events → e ≡ stopping x → IsUnheld events e
force-unheld x e events (inl (n, is, listed)) same = elim (is_stopping x) as (λ b. e ≡ (if b then x else refused.Memory) → IsUnheld events e) [
  | true ↦ λ s number busy. subst (λ (es : List Event). MetBy (EndsSo e) es) (sym is) (inl (inr (Err x, refl), ap Some (sym s)))
  | false ↦ λ s. memory-unheld events e s
] same
force-unheld x e events (inr (memory, none)) same = memory-unheld events e (same ∙ ap stopping (some-memory x (Force (Err x)) refl memory))

abbrev error_of : Result (Unit {0}) Refusal → Refusal
error_of (Ok done) = refused.Memory
error_of (Err e) = e

awaits-unheld : (h : Holder) (x e : Refusal) (events : List Event) → Awaits h events (Err x) → e ≡ stopping x → IsUnheld events e
awaits-unheld (holder.Unforced m) x e events (Ok count, is, made) same = absurd (let odd : ◌≡◌ {A = Result (Unit {0}) Refusal} (Err x) (Ok tt) = is in cc)
awaits-unheld (holder.Unforced m) x e events (Err y, is, made) same = force-unheld y e events made (same ∙ ap (λ (r : Result (Unit {0}) Refusal). stopping (error_of r)) is)
awaits-unheld (holder.Ticket m) x e events (none, inl is) same = absurd (let odd : ◌≡◌ {A = Result (Unit {0}) Refusal} (Err x) (Ok tt) = is in cc)
awaits-unheld (holder.Ticket m) x e events (none, inr (inl is)) same =
    λ number busy. absurd (let odd : refused.Busy (holder.Ticket m) ≡ refused.Busy (holder.Unforced number) = sym (same ∙ ap (λ (r : Result (Unit {0}) Refusal). stopping (error_of r)) is) ∙ busy in cc)
awaits-unheld (holder.Ticket m) x e events (none, inr (inr is)) same = memory-unheld events e (same ∙ ap (λ (r : Result (Unit {0}) Refusal). stopping (error_of r)) is)
awaits-unheld (holder.Image actor) x e events (none, inl is) same = absurd (let odd : ◌≡◌ {A = Result (Unit {0}) Refusal} (Err x) (Ok tt) = is in cc)
awaits-unheld (holder.Image actor) x e events (none, inr (inl is)) same =
    λ number busy. absurd (let odd : refused.Busy (holder.Image actor) ≡ refused.Busy (holder.Unforced number) = sym (same ∙ ap (λ (r : Result (Unit {0}) Refusal). stopping (error_of r)) is) ∙ busy in cc)
awaits-unheld (holder.Image actor) x e events (none, inr (inr is)) same = memory-unheld events e (same ∙ ap (λ (r : Result (Unit {0}) Refusal). stopping (error_of r)) is)

abbrev ended_by : Result Came Refusal → Refusal
ended_by (Ok came) = refused.Memory
ended_by (Err e) = e

ends-unheld : (object : ℕ) (to : Aim) (avoid size waited : ℕ) (events : List Event) (e : Refusal) → Ends object to avoid size waited events (Err e) → IsUnheld events e
ends-unheld object to avoid size waited events e (inl (none, tries)) =
    λ number busy. absurd (let odd : None ≡ Some (holder.Unforced number) = sym none ∙ ap (λ (x : Refusal). holder_in (Err x)) busy in cc)
ends-unheld object to avoid size waited events e (inr (inl (x, (tried, h, holds, (xs, ys, is, tries, awaits)), same))) =
    unheld-cut events xs ys e is (awaits-unheld h x e ys awaits (ap ended_by same))
ends-unheld object to avoid size waited events e (inr (inr (all, none, same))) = memory-unheld events e (ap ended_by same)

goes-unheld : (object : ℕ) (to : Aim) (avoid size : ℕ) (events : List Event) (e : Refusal) → Goes object to avoid size events (Err e) → IsUnheld events e
goes-unheld object to avoid size events e (waited, (xs, ys, is, before, ends)) = unheld-cut events xs ys e is (ends-unheld object to avoid size waited ys e ends)

-- ---- a run, and the end

pub run-unheld : (wanted : List Wanted) (avoid : ℕ) (events : List Event) (e : Refusal) → Run wanted avoid events (Err e) → IsUnheld events e
run-unheld wanted avoid events e h =
    let b = h.steps in
    unheld-cut events b.steps.0 b.steps.1 e b.steps.2 (goes-unheld b.next.object b.next.aim avoid b.next.size b.steps.1 e b.steps.4.order)

met-ending : (e : Refusal) (events : List Event) → AreEnding events → MetBy (λ d. refusal d ≡ Some e) events → MetBy (EndsSo e) events
met-ending e [] all h = h
met-ending e (x ∷ events) all (inl is) = inl (all.0, is)
met-ending e (x ∷ events) all (inr h) = inr (met-ending e events all.1 h)

pub ending-unheld : (events : List Event) (e : Refusal) → AreEnding events → IsStopped events e → IsUnheld events e
ending-unheld events e all (inl memory) = memory-unheld events e memory
ending-unheld events e all (inr (stops, met)) = λ number busy. met-ending e events all met

asking-ends : (events : List Event) → AreAsking events → AreEnding events
asking-ends [] h = tt
asking-ends (x ∷ events) h = (inl h.0, asking-ends events h.1)

pub asking-unheld : (events : List Event) (e : Refusal) → AreAsking events → IsStopped events e → IsUnheld events e
asking-unheld events e all stopped = ending-unheld events e (asking-ends events all) stopped

-- a refusal of another number than 21 holds nothing
pub other-unheld : (events : List Event) (e : Refusal) → ((h : Holder) → e ≡ refused.Busy h → ⊥) → IsUnheld events e
other-unheld events e other number busy = absurd (other (holder.Unforced number) busy)
