-- A restore only asks and reads, and each refusal with which it ends has its cause.
use Rattle.std.proofs.Common.{◌≡◌, ◌⊎◌, inl, inr, ℕ, ◌+◌, true, false, if◌then◌else◌, List, [], ◌∷◌, ◌++◌, length, Option, Some, IfErr, Result, Ok, Err, refl, sym, ap, subst, ◌∙◌, true≢false}
use Rattle.std.proofs.lemmas.Option.{same_Some}
use Rattle.kinds.specs.declared.refusal.Refusal.{Refusal}
use Rattle.kinds.specs.declared.refusal.Refusal.TheVariants as refused
use Rattle.client_files.specs.Restoring.{Breaks, Misses, ReadOn, Restores as RestoresOne, given_up, is_unrestored, read_by, read_in}
use Rattle.client_files.specs.Sending.{stopping}
use Rattle.client_files.specs.declared.outcome.Gave.{Gave}
use Rattle.client_files.specs.declared.outcome.Gave.TheVariants as gave
use Rattle.client_files.specs.declared.restoring.Stored.{Stored}
use Rattle.client_trees.specs.Files.{Files}
use Rattle.copy_attempts.specs.Outcomes.{Met}
use Rattle.inventory_answers.specs.declared.query.Query.TheVariants as query
use Rattle.inventory_answers.specs.declared.lines.VersionLine.{VersionLine}
use Rattle.steps.specs.Calls.{Made}
use Rattle.steps.specs.Events.{Deed, Event, refusal}
use Rattle.steps.specs.Events.Deed.{Ask, ReadPiece}
use Rattle.restores.specs.Causes.{AreReading, IsCaused, IsReading, is_ending}
use Rattle.restores.specs.Given.{Ends, Gives, Stops}
use Rattle.restores.specs.Restores.{Asks, Begins, Restores, unasked}
use Rattle.restores.specs.declared.choosing.RestoreLine.{RestoreLine}
use Rattle.restores.specs.declared.choosing.Which.{Which}
use Rattle.restores.specs.declared.process.Restored.{Restored}

-- ---- it reads

reading-both : (xs ys : List Event) → AreReading xs → AreReading ys → AreReading (xs ++ ys)
reading-both [] ys f g = g
reading-both (e ∷ xs) ys f g = (f.0, reading-both xs ys f.1 g)

reading-parts : (events xs ys : List Event) → events ≡ xs ++ ys → AreReading xs → AreReading ys → AreReading events
reading-parts events xs ys cut f g = subst AreReading (sym cut) (reading-both xs ys f g)

reading-none : (events : List Event) → events ≡ [] → AreReading events
reading-none events none = subst AreReading (sym none) tt

reading-made : (d : Deed) (events : List Event) → IsReading d → Made d events → AreReading events
reading-made d events is (inl h) = subst AreReading (sym h.1) (is, tt)
reading-made d events is (inr h) = reading-none events h.1

reading-on : (s : Stored) (at : ℕ) (events : List Event) → ReadOn s at events → AreReading events
reading-on s at [] h = tt
reading-on s at (e ∷ events) h = (subst IsReading (sym h.0.2) tt, reading-on s (at + length (read_by e.deed)) events h.1)

reading-missed : (s : Stored) (at before after : ℕ) (e : Refusal) (events : List Event) → Misses s at before after e events → AreReading events
reading-missed s at before after e events (inl (wanted, made)) = reading-made (ReadPiece s.object s.digest 0 at wanted (Err e)) events tt made
reading-missed s at before after e events (inr (inl (wanted, made, is))) = reading-made (ReadPiece s.object s.digest 0 at wanted (Ok [])) events tt made
reading-missed s at before after e events (inr (inr h)) = reading-on s at events h.0

reading-broken : (s : Stored) (before after : ℕ) (e : Refusal) (events : List Event) → Breaks s before after e events → AreReading events
reading-broken s before after e events (inl (xs, ys, cut, on, short, missed)) = reading-parts events xs ys cut (reading-on s 0 xs on) (reading-missed s (length (read_in xs)) before after e ys missed)
reading-broken s before after e events (inr (inl (digest, reads, other, is))) = reading-on s 0 events reads.0
reading-broken s before after e events (inr (inr (inl (reads, fails)))) = reading-on s 0 events reads.0
reading-broken s before after e events (inr (inr (inr (none, fails)))) = reading-none events none

reading-one : (s : Stored) (before after : ℕ) (events : List Event) (result : Result Gave Refusal) → RestoresOne s before after events result → AreReading events
reading-one s before after events result (inl (reads, is)) = reading-on s 0 events reads.0
reading-one s before after events result (inr (e, breaks, is)) = reading-broken s before after e events breaks

reading-each : (lines : List RestoreLine) (given : List Gave) (before after : ℕ) (old new : Option Files) (events : List Event) → Gives lines given before after old new events → AreReading events
reading-each [] [] before after old new events h = reading-none events h.0
reading-each [] (g ∷ given) before after old new events h = absurd h
reading-each (l ∷ lines) [] before after old new events h = absurd h
reading-each (l ∷ lines) (g ∷ given) before after old new events (xs, ys, count, between, cut, one, later) =
    reading-parts events xs ys cut (reading-one l.stored before count xs (Ok g) one.order) (reading-each lines given count after between new ys later)

reading-last : (lines : List RestoreLine) (before after : ℕ) (old new : Option Files) (e : Refusal) (events : List Event) → Ends lines before after old new e events → AreReading events
reading-last [] before after old new e events h = absurd h
reading-last (l ∷ lines) before after old new e events h = reading-one l.stored before after events (Err e) h.order

reading-end : (back : List RestoreLine) (count after : ℕ) (between new : Option Files) (e : Refusal) (ys : List Event) → ((e ≡ refused.Memory) × (ys ≡ []) × (after ≡ count) × (new ≡ between)) ⊎ Ends back count after between new e ys → AreReading ys
reading-end back count after between new e ys (inl h) = reading-none ys h.1
reading-end back count after between new e ys (inr h) = reading-last back count after between new e ys h

reading-stopped : (lines : List RestoreLine) (before after : ℕ) (old new : Option Files) (e : Refusal) (events : List Event) → Stops lines before after old new e events → AreReading events
reading-stopped lines before after old new e events h =
    reading-parts events h.xs h.ys h.made (reading-each h.front h.gave before h.count old h.between h.xs h.gives) (reading-end h.back h.count after h.between new e h.ys h.ends)

reading-asked : (node filespace : List ℕ) (events : List Event) (result : Result (List VersionLine) Refusal) → Asks node filespace events result → AreReading events
reading-asked node filespace events (Ok lines) (answer, has, made) = reading-made (Ask (query.Versions node filespace) (Ok answer)) events tt made
reading-asked node filespace events (Err e) (inl (why, is, made)) = reading-made (Ask (query.Versions node filespace) (Err why)) events tt made
reading-asked node filespace events (Err e) (inr (answer, is, made)) = reading-made (Ask (query.Versions node filespace) (Ok answer)) events tt made

reading-begun : (node filespace : List ℕ) (which : Which) (events : List Event) (result : Result (List RestoreLine) Refusal) → Begins node filespace which events result → AreReading events
reading-begun node filespace which events (Ok rows) (lines, asked, is) = reading-asked node filespace events (Ok lines) asked
reading-begun node filespace which events (Err e) (inl h) = reading-asked node filespace events (Err e) h
reading-begun node filespace which events (Err e) (inr (lines, asked, is)) = reading-asked node filespace events (Ok lines) asked

pub restores-reading : (node filespace : List ℕ) (which : Which) (before after : ℕ) (old new : Option Files) (events : List Event) (result : Result Restored Refusal) → Restores node filespace which before after old new events result
    → AreReading events
restores-reading node filespace which before after old new events (Ok r) (xs, ys, cut, begins, gives) =
    reading-parts events xs ys cut (reading-begun node filespace which xs (Ok r.lines) begins) (reading-each r.lines r.gave before after old new ys gives)
restores-reading node filespace which before after old new events (Err e) (inl h) = reading-begun node filespace which events (Err e) h.0
restores-reading node filespace which before after old new events (Err e) (inr (lines, (xs, ys, cut, begins, stops))) =
    reading-parts events xs ys cut (reading-begun node filespace which xs (Ok lines) begins) (reading-stopped lines before after old new e ys stops)

-- ---- why it ends

met-behind : (e : Refusal) (xs ys : List Event) → Met e ys → Met e (xs ++ ys)
met-behind e [] ys h = h
met-behind e (x ∷ xs) ys h = inr (met-behind e xs ys h)

caused-behind : (e : Refusal) (events xs ys : List Event) → events ≡ xs ++ ys → IsCaused ys e → IsCaused events e
caused-behind e events xs ys cut (inl h) = inl h
caused-behind e events xs ys cut (inr h) = inr (h.0, subst (Met e) (sym cut) (met-behind e xs ys h.1))

-- it is want of memory, or was met
abbrev Near : List Event → Refusal → Type 0
Near events e = (e ≡ refused.Memory) ⊎ Met e events

near-made : (d : Deed) (e : Refusal) (events : List Event) → refusal d ≡ Some e → Made d events → Near events e
near-made d e events is (inl h) = inr (subst (Met e) (sym h.1) (inl is))
near-made d e events is (inr h) = inl (same_Some e refused.Memory (sym is ∙ h.0))

caused-as : (events : List Event) (e why : Refusal) → e ≡ why → is_ending why ≡ true → Near events why → IsCaused events e
caused-as events e why is ends (inl memory) = inl (is ∙ memory)
caused-as events e why is ends (inr met) = inr (ap is_ending is ∙ ends, subst (λ (x : Refusal). Met x events) (sym is) met)

stopped : (events : List Event) (e why : Refusal) → e ≡ stopping why → Near events why → IsCaused events e
stopped events e (refused.LogFault file count) is h = caused-as events e (refused.LogFault file count) is refl h
stopped events e refused.RunFull is h = caused-as events e refused.RunFull is refl h
stopped events e why is h = inl is

asked : (events : List Event) (e why : Refusal) → e ≡ unasked why → Near events why → IsCaused events e
asked events e refused.NotFound is h = caused-as events e refused.NotFound is refl h
asked events e (refused.LogFault file count) is h = caused-as events e (refused.LogFault file count) is refl h
asked events e refused.RunFull is h = caused-as events e refused.RunFull is refl h
asked events e why is h = inl is

-- an object isn't restored for a cause that was met, or one by which a restore doesn't end
near-missed : (s : Stored) (at before after : ℕ) (e : Refusal) (events : List Event) → Misses s at before after e events → Near events e ⊎ (is_unrestored e ≡ true)
near-missed s at before after e events (inl (wanted, made)) = inl (near-made (ReadPiece s.object s.digest 0 at wanted (Err e)) e events refl made)
near-missed s at before after e events (inr (inl (wanted, made, is))) = inl (inl is)
near-missed s at before after e events (inr (inr (on, fails))) = inr (ap is_unrestored fails.0)

near-in : (e : Refusal) (events xs ys : List Event) → events ≡ xs ++ ys → Near ys e ⊎ (is_unrestored e ≡ true) → Near events e ⊎ (is_unrestored e ≡ true)
near-in e events xs ys cut (inl (inl memory)) = inl (inl memory)
near-in e events xs ys cut (inl (inr met)) = inl (inr (subst (Met e) (sym cut) (met-behind e xs ys met)))
near-in e events xs ys cut (inr h) = inr h

near-broken : (s : Stored) (before after : ℕ) (e : Refusal) (events : List Event) → Breaks s before after e events → Near events e ⊎ (is_unrestored e ≡ true)
near-broken s before after e events (inl (xs, ys, cut, on, short, missed)) = near-in e events xs ys cut (near-missed s (length (read_in xs)) before after e ys missed)
near-broken s before after e events (inr (inl (digest, reads, other, is))) = inr (ap is_unrestored is)
near-broken s before after e events (inr (inr (inl (reads, fails)))) = inr (ap is_unrestored fails.0)
near-broken s before after e events (inr (inr (inr (none, fails)))) = inr (ap is_unrestored fails.0)

abbrev err_of : Result Gave Refusal → Refusal → Refusal
err_of (Ok g) other = other
err_of (Err e) other = e

given-err : (e why : Refusal) → Err e ≡ given_up why → (is_unrestored why ≡ false) × (e ≡ stopping why)
given-err e why is = elim (is_unrestored why) as (λ b. is_unrestored why ≡ b → Err e ≡ (if b then Ok (gave.Failed why) else Err (stopping why)) → (is_unrestored why ≡ false) × (e ≡ stopping why)) [
  | true ↦ λ yes same. cc
  | false ↦ λ no same. (no, ap (λ (r : Result Gave Refusal). err_of r (stopping why)) same)
] refl is

one-caused : (s : Stored) (before after : ℕ) (events : List Event) (e : Refusal) → RestoresOne s before after events (Err e) → IsCaused events e
one-caused s before after events e (inl (reads, is)) = absurd cc
one-caused s before after events e (inr (why, breaks, is)) = caused-by (near-broken s before after why events breaks)
  where
    caused-by : Near events why ⊎ (is_unrestored why ≡ true) → IsCaused events e
    caused-by (inl near) = stopped events e why (given-err e why is).1 near
    caused-by (inr passed) = absurd (true≢false (sym passed ∙ (given-err e why is).0))

last-caused : (lines : List RestoreLine) (before after : ℕ) (old new : Option Files) (e : Refusal) (events : List Event) → Ends lines before after old new e events → IsCaused events e
last-caused [] before after old new e events h = absurd h
last-caused (l ∷ lines) before after old new e events h = one-caused l.stored before after events e h.order

end-caused : (back : List RestoreLine) (count after : ℕ) (between new : Option Files) (e : Refusal) (ys : List Event) → ((e ≡ refused.Memory) × (ys ≡ []) × (after ≡ count) × (new ≡ between)) ⊎ Ends back count after between new e ys → IsCaused ys e
end-caused back count after between new e ys (inl h) = inl h.0
end-caused back count after between new e ys (inr h) = last-caused back count after between new e ys h

asked-caused : (node filespace : List ℕ) (events : List Event) (e : Refusal) → Asks node filespace events (Err e) → IsCaused events e
asked-caused node filespace events e (inl (why, is, made)) = asked events e why is (near-made (Ask (query.Versions node filespace) (Err why)) why events refl made)
asked-caused node filespace events e (inr (answer, is, made)) = inl is

begun-caused : (node filespace : List ℕ) (which : Which) (events : List Event) (e : Refusal) → Begins node filespace which events (Err e) → IsCaused events e
begun-caused node filespace which events e (inl h) = asked-caused node filespace events e h
begun-caused node filespace which events e (inr (lines, asked, is)) = inl is

pub restores-caused : (node filespace : List ℕ) (which : Which) (before after : ℕ) (old new : Option Files) (events : List Event) (result : Result Restored Refusal) → Restores node filespace which before after old new events result
    → IfErr result (λ e. IsCaused events e)
restores-caused node filespace which before after old new events (Ok r) h = tt
restores-caused node filespace which before after old new events (Err e) (inl h) = begun-caused node filespace which events e h.0
restores-caused node filespace which before after old new events (Err e) (inr (lines, (xs, ys, cut, begins, stops))) =
    caused-behind e events xs ys cut (caused-behind e ys stops.xs stops.ys stops.made (end-caused stops.back stops.count after stops.between new e stops.ys stops.ends))
