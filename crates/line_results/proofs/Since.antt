-- What is said of a later state that differs in its counts and its moment alone holds of the earlier one.
use Rattle.std.proofs.Common.{inl, inr, ℕ, List, [], Result, Ok, Err, subst}
use Rattle.kinds.specs.declared.refusal.Refusal.{Refusal}
use Rattle.entries.specs.declared.change.Change.{Change}
use Rattle.entries.specs.declared.entry.Entry.{Entry}
use Rattle.machine.specs.State.{Machine}
use Rattle.line_results.specs.Commands.{drawn}
use Rattle.line_results.specs.Files.{Checkpoints}
use Rattle.line_results.specs.Resting.{Commits, EndsRun, IsLate, Leaves, Onward}
use Rattle.line_results.proofs.Changed.{Changed}
use Rattle.line_results.proofs.Checkpointed.{Checkpointed}
use Rattle.line_results.proofs.Leaving.{Left}
use Rattle.line_results.proofs.Runs.{Became, as_is, ends-since, is-as, late-on, onward-then}

-- the earlier state with the later one's counts and moment
abbrev pub later_of : (old mid : Machine) → Machine
later_of old mid = as_is old.core old mid

pub on-later : (old mid : Machine) → Became old.core old mid → Onward old (later_of old mid)
on-later old mid b = record { counts = b.onward.counts; since = b.onward.since }

pub leaves-as : {A : Type 0} (result : Result A Refusal) (added : List Entry) (old mid new : Machine) → Became old.core old mid → Leaves result added (later_of old mid) new → Leaves result added old new
leaves-as result added old mid new b l = record {
  adds = record { base = l.adds.base; journal = l.adds.journal };
  onward = onward-then old (later_of old mid) new (on-later old mid b) l.onward;
  log = l.log;
  nearly = l.nearly;
  rests = l.rests;
  durable = l.durable;
}

pub leaves-since : {A : Type 0} (result : Result A Refusal) (added : List Entry) (old mid new : Machine) → Became old.core old mid → Leaves result added mid new → Leaves result added old new
leaves-since result added old mid new b l = leaves-as result added old mid new b (subst (λ (m : Machine). Leaves result added m new) (is-as old.core old mid b) l)

left-as : {A : Type 0} (result : Result A Refusal) (added : List Entry) (old mid new : Machine) → Became old.core old mid → Left result added (later_of old mid) new → Left result added old new
left-as result added old mid new b l = record {
  adds = record { base = l.adds.base; journal = l.adds.journal };
  onward = onward-then old (later_of old mid) new (on-later old mid b) l.onward;
  log = l.log;
  rests = l.rests;
  durable = l.durable;
}

pub left-since : {A : Type 0} (result : Result A Refusal) (added : List Entry) (old mid new : Machine) → Became old.core old mid → Left result added mid new → Left result added old new
left-since result added old mid new b l = left-as result added old mid new b (subst (λ (m : Machine). Left result added m new) (is-as old.core old mid b) l)

pub ends-as : (old mid new : Machine) (e : Refusal) → Became old.core old mid → EndsRun (later_of old mid) new e → EndsRun old new e
ends-as old mid new e b h = ends-since old (later_of old mid) new e (on-later old mid b) h

pub late-as : (old mid : Machine) → Became old.core old mid → IsLate old → IsLate (later_of old mid)
late-as old mid b l = late-on old (later_of old mid) (on-later old mid b) l

pub commits-as : {A : Type 0} (c : Change) (result : Result A Refusal) (added : List Entry) (old mid new : Machine) → Became old.core old mid → Commits c (later_of old mid) new result added → Commits c old new result added
commits-as c (Ok x) added old mid new b h = h
commits-as c (Err e) added old mid new b (inl h) = inl h
commits-as c (Err e) added old mid new b (inr (ends, h)) = inr (ends-as old mid new e b ends, h)

changed-as : (what : Change) (result : Result ℕ Refusal) (old mid new : Machine) → Became old.core old mid → Changed what (later_of old mid) new result → Changed what old new result
changed-as what result old mid new b h = record {
  added = h.added;
  commits = commits-as (drawn what old) result h.added old mid new b h.commits;
  leaves = leaves-as result h.added old mid new b h.leaves;
  image = h.image;
  bytes = h.bytes;
  late = λ l. h.late (late-as old mid b l);
}

pub changed-since : (what : Change) (result : Result ℕ Refusal) (old mid new : Machine) → Became old.core old mid → Changed what mid new result → Changed what old new result
changed-since what result old mid new b h = changed-as what result old mid new b (subst (λ (m : Machine). Changed what m new result) (is-as old.core old mid b) h)

pub came-as : {A : Type 0} (result : Result A Refusal) (old mid new : Machine) → Became old.core old mid → Checkpoints (later_of old mid) new result → Checkpoints old new result
came-as (Ok x) old mid new b h = h
came-as (Err e) old mid new b (inl h) = inl h
came-as (Err e) old mid new b (inr h) = inr (ends-as old mid new e b h)

checkpointed-as : (result : Result ℕ Refusal) (old mid new : Machine) → Became old.core old mid → Checkpointed (later_of old mid) new result → Checkpointed old new result
checkpointed-as result old mid new b h = record {
  came = came-as result old mid new b h.came;
  leaves = leaves-as result [] old mid new b h.leaves;
  bytes = h.bytes;
  image = h.image;
  late = λ l. h.late (late-as old mid b l);
}

pub checkpointed-since : (result : Result ℕ Refusal) (old mid new : Machine) → Became old.core old mid → Checkpointed mid new result → Checkpointed old new result
checkpointed-since result old mid new b h = checkpointed-as result old mid new b (subst (λ (m : Machine). Checkpointed m new result) (is-as old.core old mid b) h)
