-- Steps that commit nothing.
use Rattle.std.proofs.Common.{◌≡◌, inl, inr, ℕ, List, [], ◌∷◌, ◌++◌, Option, None, Some, Result, Ok, Err, sym, subst}
use Rattle.std.specs.List.{AllByRecursion}
use Rattle.kinds.specs.declared.refusal.Holder.{Holder}
use Rattle.kinds.specs.declared.refusal.Holder.TheVariants as holder
use Rattle.kinds.specs.declared.refusal.Refusal.{Refusal}
use Rattle.kinds.specs.declared.segment.Digest.{Digest}
use Rattle.client_files.specs.declared.outcome.Came.{Came}
use Rattle.client_files.specs.declared.outcome.Came.TheVariants as came
use Rattle.client_files.specs.Sending.{Breaks, Copies, GivesUp, Writes, Wrote}
use Rattle.client_files.specs.Writing.{Keeps, Loads, Puts}
use Rattle.client_plan.specs.declared.lines.SendLine.{SendLine}
use Rattle.client_trees.specs.Files.{ClientFile, Files}
use Rattle.inventory_work.specs.declared.lines.Rules.{Rules}
use Rattle.steps.specs.Calls.{IsStep, Made, Then}
use Rattle.steps.specs.Events.{Deed, Event}
use Rattle.steps.specs.Events.Deed.{OpenNew, OpenCopy, WritePiece, CopyPiece, Seal, Commit, DropTicket, ReadPiece, Ask, Image, Reuse, Force}
use Rattle.client_batches.specs.Quiet.{AreQuiet, IsQuiet}
use Rattle.client_batches.specs.Rounds.{Awaits, AwaitsOne}
use Rattle.client_batches.specs.Seals.{SealsEach, SealsOne, StopsSealing}
use Rattle.client_batches.specs.Sends.{SendsEach, SendsOne}
use Rattle.client_batches.specs.Tickets.{DropsAll, DropsEach, GivesBack}

pub all_append : (P : Event → Type 0) (xs ys : List Event) → AllByRecursion P xs → AllByRecursion P ys → AllByRecursion P (xs ++ ys)
all_append P [] ys all rest = rest
all_append P (e ∷ xs) ys all rest = (all.0, all_append P xs ys all.1 rest)

pub then_quiet : (Q R : List Event → Type 0) (events : List Event) → Then Q R events → ((xs : List Event) → Q xs → AreQuiet xs) → ((ys : List Event) → R ys → AreQuiet ys) → AreQuiet events
then_quiet Q R events h q r = subst AreQuiet (sym h.2) (all_append (λ e. IsQuiet e.deed) h.0 h.1 (q h.0 h.3) (r h.1 h.4))

pub none_quiet : (events : List Event) → events ≡ [] → AreQuiet events
none_quiet events none = subst AreQuiet (sym none) tt

pub step_quiet : (deed : Deed) (events : List Event) → IsQuiet deed → IsStep deed events → AreQuiet events
step_quiet deed events is h = subst AreQuiet (sym h.1) (is, tt)

pub made_quiet : (deed : Deed) (events : List Event) → IsQuiet deed → Made deed events → AreQuiet events
made_quiet deed events is (inl h) = step_quiet deed events is h
made_quiet deed events is (inr h) = none_quiet events h.1

-- ---- files

writes_quiet : (ticket : ℕ) (d : Deed) → Writes ticket d → IsQuiet d
writes_quiet ticket (WritePiece number bytes (Ok done)) h = tt
writes_quiet ticket (WritePiece number bytes (Err e)) h = tt
writes_quiet ticket (OpenNew pool size prefer answer) h = tt
writes_quiet ticket (OpenCopy object aim avoid answer) h = h
writes_quiet ticket (CopyPiece number answer) h = h
writes_quiet ticket (Seal number answer) h = tt
writes_quiet ticket (Commit asked tickets answer) h = h
writes_quiet ticket (DropTicket number answer) h = tt
writes_quiet ticket (ReadPiece object kept from offset wanted answer) h = h
writes_quiet ticket (Ask query answer) h = tt
writes_quiet ticket (Image kind answer) h = h
writes_quiet ticket (Reuse file answer) h = h
writes_quiet ticket (Force answer) h = tt

all_writes : (ticket : ℕ) (events : List Event) → AllByRecursion (λ e. Writes ticket e.deed) events → AreQuiet events
all_writes ticket [] h = tt
all_writes ticket (e ∷ events) h = (writes_quiet ticket e.deed h.0, all_writes ticket events h.1)

wrote_quiet : (file : Option ClientFile) (ticket : ℕ) (bytes : List ℕ) (events : List Event) → Wrote file ticket bytes events → AreQuiet events
wrote_quiet file ticket bytes events h = all_writes ticket events h.only

breaks_quiet : (file : Option ClientFile) (ticket size before after : ℕ) (e : Refusal) (events : List Event) → Breaks file ticket size before after e events → AreQuiet events
breaks_quiet file ticket size before after e events h =
    then_quiet _ _ events h.2 (λ xs w. wrote_quiet file ticket h.0 xs w) (λ ys r. elim r [ inl a ↦ none_quiet ys a.0 | inr b ↦ made_quiet (WritePiece ticket b.0 (Err b.1)) ys tt b.3 ])

copies_quiet : (file : Option ClientFile) (ticket size before after : ℕ) (events : List Event) (digest : Digest) → Copies file ticket size before after events (Ok digest) → AreQuiet events
copies_quiet file ticket size before after events digest h = wrote_quiet file ticket h.0 events h.1

loads_quiet : (file : Option ClientFile) (ticket size before after : ℕ) (events : List Event) (result : Result Digest Refusal) → Loads file ticket size before after events result → AreQuiet events
loads_quiet file ticket size before after events (Ok digest) h = copies_quiet file ticket size before after events digest h.1
loads_quiet file ticket size before after events (Err e) (inl h) = breaks_quiet file ticket size before after e events h
loads_quiet file ticket size before after events (Err e) (inr h) = copies_quiet file ticket size before after events h.0 h.1

gives_up_quiet : (ticket : ℕ) (e : Refusal) (events : List Event) (result : Result Came Refusal) → GivesUp ticket e events result → AreQuiet events
gives_up_quiet ticket e events result (inl h) = none_quiet events h.1
gives_up_quiet ticket e events result (inr h) = step_quiet (DropTicket ticket h.1) events tt h.2

keeps_quiet : (file : Option ClientFile) (ticket size before after : ℕ) (events : List Event) (result : Result Came Refusal) → Keeps file ticket size before after events result → AreQuiet events
keeps_quiet file ticket size before after events result (inl h) = loads_quiet file ticket size before after events (Ok h.0) h.1
keeps_quiet file ticket size before after events result (inr h) =
    then_quiet _ _ events h.1 (λ xs f. loads_quiet file ticket size before after xs (Err h.0) f) (λ ys g. gives_up_quiet ticket h.0 ys result g)

puts_quiet : (file : Option ClientFile) (pool size before after : ℕ) (events : List Event) (result : Result Came Refusal) → Puts file pool size before after events result → AreQuiet events
puts_quiet file pool size before after events result (inl h) = made_quiet (OpenNew pool size 0 (Err h.0)) events tt h.1
puts_quiet file pool size before after events result (inr h) =
    then_quiet _ _ events h.1 (λ xs m. made_quiet (OpenNew pool size 0 (Ok h.0)) xs tt m) (λ ys s. keeps_quiet file h.0 size before after ys result s)

pub one_quiet : (rules : Rules) (told : Option Files) (line : SendLine) (before after : ℕ) (events : List Event) (result : Result Came Refusal) → SendsOne rules told line before after events result → AreQuiet events
one_quiet rules told line before after events result (inl h) = puts_quiet _ h.0 line.file.size before after events result h.2.order
one_quiet rules told line before after events result (inr h) = none_quiet events h.1

pub each_quiet : (rules : Rules) (told : Option Files) (lines : List SendLine) (all : List Came) (before after : ℕ) (events : List Event) → SendsEach rules told lines all before after events → AreQuiet events
each_quiet rules told [] [] before after events h = none_quiet events h.0
each_quiet rules told [] (c ∷ all) before after events h = absurd h
each_quiet rules told (l ∷ lines) [] before after events h = absurd h
each_quiet rules told (l ∷ lines) (c ∷ all) before after events h =
    then_quiet _ _ events h.1 (λ xs o. one_quiet rules told l before h.0 xs (Ok c) o) (λ ys r. each_quiet rules told lines all h.0 after ys r)

-- ---- seals

pub seal_quiet : (c : Came) (events : List Event) (result : Result Came Refusal) → SealsOne c events result → AreQuiet events
seal_quiet (came.Written ticket digest) events result h = made_quiet (Seal ticket h.0) events tt h.1
seal_quiet (came.Failed e) events result h = none_quiet events h.0
seal_quiet (came.Held holder) events result h = none_quiet events h.0

pub seals_quiet : (all sealed : List Came) (events : List Event) → SealsEach all sealed events → AreQuiet events
seals_quiet [] [] events h = none_quiet events h
seals_quiet [] (s ∷ sealed) events h = absurd h
seals_quiet (c ∷ all) [] events h = absurd h
seals_quiet (c ∷ all) (s ∷ sealed) events h = then_quiet _ _ events h (λ xs o. seal_quiet c xs (Ok s) o) (λ ys r. seals_quiet all sealed ys r)

pub unsealed_quiet : (all : List Came) (e : Refusal) (events : List Event) → StopsSealing all e events → AreQuiet events
unsealed_quiet all e events h =
    subst AreQuiet (sym h.made) (all_append (λ d. IsQuiet d.deed) h.xs h.ys (seals_quiet h.front h.sealed h.xs h.seals)
    (elim h.ends as (λ _. AreQuiet h.ys) [ inl m ↦ none_quiet h.ys m.1 | inr o ↦ seal_quiet o.0 h.ys (Err e) o.3 ]))

-- ---- tickets

drops_quiet : (tickets : List ℕ) (events : List Event) → DropsAll tickets events → AreQuiet events
drops_quiet [] events h = none_quiet events h
drops_quiet (ticket ∷ tickets) events h = then_quiet _ _ events h.2 (λ xs s. step_quiet (DropTicket ticket h.0) xs tt s) (λ ys r. drops_quiet tickets ys r)

drops_each_quiet : (tickets : List ℕ) (events : List Event) (e : Option Refusal) → DropsEach tickets events e → AreQuiet events
drops_each_quiet tickets events None h = drops_quiet tickets events h
drops_each_quiet tickets events (Some e) h = then_quiet _ _ events h.6 (λ xs d. drops_quiet h.0 xs d) (λ ys s. step_quiet (DropTicket h.1 h.4) ys tt s)

pub gives_quiet : (tickets : List ℕ) (e : Refusal) (events : List Event) (why : Refusal) → GivesBack tickets e events why → AreQuiet events
gives_quiet tickets e events why (inl h) = none_quiet events h.1
gives_quiet tickets e events why (inr (inl h)) = drops_each_quiet tickets events None h.1
gives_quiet tickets e events why (inr (inr h)) = drops_each_quiet tickets events (Some why) h.1

-- ---- waits

awaits_quiet : (h : Holder) (events : List Event) (result : Result (Unit {0}) Refusal) → Awaits h events result → AreQuiet events
awaits_quiet (holder.Unforced number) events result w = made_quiet (Force w.0) events tt w.2
awaits_quiet (holder.Ticket number) events result w = none_quiet events w.0
awaits_quiet (holder.Image actor) events result w = none_quiet events w.0

pub waits_quiet : (h : Option Holder) (events : List Event) (result : Result (Unit {0}) Refusal) → AwaitsOne h events result → AreQuiet events
waits_quiet None events result w = none_quiet events w.0
waits_quiet (Some h) events (Ok done) w = awaits_quiet h events (Ok tt) w
waits_quiet (Some h) events (Err e) w = awaits_quiet h events (Err w.0) w.2
