-- What follows a line where one actor has the machine alone: the log's length is asked, and where it is long a checkpoint is made.
use Rattle.std.proofs.Common.{◌≡◌, ◌⊎◌, inl, inr, ℕ, ◌+◌, ◌^◌, ◌≤◌, ◌<◌, false, List, [], length, None, Some, Result, Ok, Err, refl, sym, ap, subst, ◌∙◌}
use Rattle.std.proofs.lemmas.Bool.{ltb-false, ltb-true}
use Rattle.std.proofs.lemmas.Option.{same_Some}
use Rattle.kinds.specs.declared.refusal.Refusal.{Refusal}
use Rattle.kinds.specs.declared.refusal.Refusal.TheVariants as refused
use Rattle.inventory_rows.specs.version_groups.Entries.{on_ok}
use Rattle.inventory_answers.specs.declared.query.Query.TheVariants as query
use Rattle.inventory_answers.specs.declared.reply.Answer.{Answer}
use Rattle.inventory_answers.specs.declared.reply.Rows.TheVariants as rows
use Rattle.script_loop.specs.declared.ends.Halt.{Halt}
use Rattle.script_loop.specs.declared.ends.Halt.TheVariants as halt
use Rattle.steps.specs.Calls.{Made}
use Rattle.steps.specs.Events.{Event, refusal}
use Rattle.steps.specs.Events.Deed.{Ask}
use Rattle.command_steps.specs.sessions.Asking.{unasked}
use Rattle.machine.specs.Alone.{Alone}
use Rattle.machine.specs.Causes.{ask_refused}
use Rattle.machine.specs.Machine.{Asks, IsAnswer, Later, Never, Places, Stays}
use Rattle.machine.specs.State.{Core, Machine, inventory, sight}
use Rattle.command_steps.specs.Answering.{AsksLog, Follows as FollowsBy, IfLong, halted_behind, long_log, unless_full}
use Rattle.line_results.specs.Lines.{EndsBehind, EndsFollowing, Follows}
use Rattle.line_results.specs.Resting.{Adds, EndsRun, IsAtRest, IsLate, IsNearlyDurable, Onward, SameImage, has_ended}
use Rattle.line_results.proofs.Checkpointed.{Checkpointed, checkpoints}
use Rattle.line_results.proofs.Leaving.{nearly-all, quiet-adds, rest-as, same-quiet}
use Rattle.line_results.proofs.Runs.{Became, Refuses, Stops, alone-none, alone-parts, became-same, ends-err, ends-ok, one-or-none, stays-became}
use Rattle.line_results.proofs.Since.{checkpointed-since}

-- ---- the log's length

abbrev LogTold : (old new : Machine) → Result Answer Refusal → Type 0
LogTold old new (Ok a) = Became old.core old new × (a.rows ≡ rows.LogBytes old.core.log_length)
LogTold old new (Err e) = Became old.core old new × Stops new e

abbrev IsIt : Machine → Answer → Machine → Type 0
IsIt old told after = IsAnswer old.core.log_length query.LogBytes (inventory old.core) told × Stays old after

log-refused : (e : Refusal) (old new : Machine) → Refuses (ask_refused query.LogBytes (sight 0 old.core)) Never old new e → LogTold old new (Err e)
log-refused e old new (inl (inl s, b)) = (b, s)
log-refused e old new (inl (inr f, b)) = absurd cc
log-refused e old new (inr (soon, none, never)) = absurd never

log-made : (answer : Result Answer Refusal) (old new : Machine) → IsAtRest old.core → Later old new → Asks 0 query.LogBytes old new answer → LogTold old new answer
log-made (Ok a) old new rest later h =
    let t = ends-ok (ask_refused query.LogBytes (sight 0 old.core)) (IsIt old) Never old new a h in
    let is : IsAnswer old.core.log_length query.LogBytes (inventory old.core) a = t.2.0 in
    (stays-became old new later t.2.1, ap (λ (x : Answer). x.rows) is.2)
log-made (Err e) old new rest later h = log-refused e old new (ends-err (ask_refused query.LogBytes (sight 0 old.core)) (IsIt old) Never old new e rest.fault later h)

log-not : (answer : Result Answer Refusal) (old new : Machine) → refusal (Ask query.LogBytes answer) ≡ Some refused.Memory → new ≡ old → LogTold old new answer
log-not (Ok a) old new h same = absurd cc
log-not (Err e) old new h same = (became-same old new same, inr (same_Some e refused.Memory h))

-- by what is made of it
abbrev pub LogAsked : (old new : Machine) → Result ℕ Refusal → Type 0
LogAsked old new (Ok count) = Became old.core old new × (count ≡ old.core.log_length)
LogAsked old new (Err e) = Became old.core old new × Stops new e

unasked-stops : (e why : Refusal) (new : Machine) → e ≡ unasked why → Stops new why → Stops new e
unasked-stops e why new same (inl (is, late)) = inl (same ∙ ap unasked is, late)
unasked-stops e why new same (inr is) = inr (same ∙ ap unasked is)

module _ (trusted : Type 0) (places : Places) where
  log-step : (answer : Result Answer Refusal) (events : List Event) (old new : Machine) → IsAtRest old.core → Made (Ask query.LogBytes answer) events → Alone trusted places 0 events old new → LogTold old new answer
  log-step answer events old new rest made f =
      elim (one-or-none trusted places (Ask query.LogBytes answer) events old new (λ contents seen h. h) (λ contents m. refl) made f) as (λ _. LogTold old new answer) [
        | inl s ↦ log-made answer old new rest s.0 s.1
        | inr s ↦ log-not answer old new s.0 s.1
      ]

  log-asked : (events : List Event) (result : Result ℕ Refusal) (old new : Machine) → IsAtRest old.core → AsksLog events result → Alone trusted places 0 events old new → LogAsked old new result
  log-asked events (Ok count) old new rest (answer, is, made) f =
      let t = log-step (Ok answer) events old new rest made f in
      let same : rows.LogBytes count ≡ rows.LogBytes old.core.log_length = sym is ∙ t.1 in
      (t.0, cc)
  log-asked events (Err e) old new rest (inl (why, same, made)) f = let t = log-step (Err why) events old new rest made f in (t.0, unasked-stops e why new same t.1)
  log-asked events (Err e) old new rest (inr (answer, same, made)) f = let t = log-step (Ok answer) events old new rest made f in (t.0, inr same)

-- ---- what follows

-- It doesn't end the run, and the machine is at rest again; or it ends it so.
pub record Followed (old new : Machine) (made : Result (Unit {0}) Refusal) : Type 0 where
  pub on : halted_behind made ≡ None → Follows old new × IsAtRest new.core
  pub off : (how : Halt) → halted_behind made ≡ Some how → EndsFollowing old new how
  pub adds : Adds [] old new
  pub onward : Onward old new
  pub nearly : IsNearlyDurable new.core
  pub durable : halted_behind made ≡ Some halt.Memory → length new.core.stamps ≡ length new.core.journal

same-log : (old new : Machine) → Became old.core old new → SameImage old new × (new.core.log_length ≡ old.core.log_length)
same-log old new b = (ap (λ (x : Core). x.generation) b.core, ap (λ (x : Core). x.log_length) b.core)

-- no checkpoint is made, where none has to be
none-follows : (old new : Machine) → Became old.core old new → (old.core.log_length < long_log) ⊎ (IsLate new ⊎ (2 ^ 62 ≤ old.core.generation + 1)) → Follows old new
none-follows old new b why = record { bytes = b.contents; added = quiet-adds old.core old new (same-quiet old.core) b; image = inr (why, (same-log old new b).0, (same-log old new b).1) }

short-followed : (old new : Machine) → IsAtRest old.core → Became old.core old new → (old.core.log_length < long_log) ⊎ (IsLate new ⊎ (2 ^ 62 ≤ old.core.generation + 1)) → Followed old new (Ok tt)
short-followed old new rest b why = record {
  on = λ h. (none-follows old new b why, rest-as new.core old.core b.core rest);
  off = λ how h. absurd cc;
  adds = quiet-adds old.core old new (same-quiet old.core) b;
  onward = b.onward;
  nearly = nearly-all new.core (rest-as new.core old.core b.core rest).durable;
  durable = λ h. absurd cc;
}

wanted-followed : (old new : Machine) → IsAtRest old.core → Became old.core old new → Followed old new (Err refused.Memory)
wanted-followed old new rest b = record {
  on = λ h. absurd cc;
  off = λ how h. record {
    onward = b.onward;
    bytes = b.contents;
    image = (same-log old new b).0;
    log = (same-log old new b).1;
    cause = subst (λ (x : Halt). EndsBehind old new x) (same_Some halt.Memory how h) tt;
    due = inl (sym (same_Some halt.Memory how h));
  };
  adds = quiet-adds old.core old new (same-quiet old.core) b;
  onward = b.onward;
  nearly = nearly-all new.core (rest-as new.core old.core b.core rest).durable;
  durable = λ h. (rest-as new.core old.core b.core rest).durable;
}

stopped-followed : (e : Refusal) (made : Result (Unit {0}) Refusal) (old new : Machine) → IsAtRest old.core → made ≡ unless_full e → Became old.core old new → Stops new e → Followed old new made
stopped-followed e made old new rest is b (inl (full, late)) =
    subst (λ (r : Result (Unit {0}) Refusal). Followed old new r) (sym (is ∙ ap unless_full full)) (short-followed old new rest b (inr (inl late)))
stopped-followed e made old new rest is b (inr wanted) =
    subst (λ (r : Result (Unit {0}) Refusal). Followed old new r) (sym (is ∙ ap unless_full wanted)) (wanted-followed old new rest b)

-- ---- a checkpoint

-- the end of a run ends the script
ends-halts : (e : Refusal) (old new : Machine) → EndsRun old new e → halted_behind (Err e) ≡ None → ⊥
ends-halts (refused.LogFault file count) old new ends h = cc
ends-halts refused.RunFull old new ends h = cc
ends-halts refused.Memory old new ends h = cc
ends-halts e old new ends h = ends

halts-as : (e : Refusal) (how : Halt) (old new : Machine) → EndsRun old new e → halted_behind (Err e) ≡ Some how → EndsBehind old new how
halts-as (refused.LogFault file count) how old new ends h = subst (λ (x : Halt). EndsBehind old new x) (same_Some (halt.LogFault file) how h) ends
halts-as refused.RunFull how old new ends h = subst (λ (x : Halt). EndsBehind old new x) (same_Some halt.RunFull how h) ends
halts-as refused.Memory how old new ends h = subst (λ (x : Halt). EndsBehind old new x) (same_Some halt.Memory how h) tt
halts-as e how old new ends h = absurd ends

full-none : (e : Refusal) (how : Halt) → e ≡ refused.InventoryFull → halted_behind (Err e) ≡ Some how → ⊥
full-none e how is h = let none : None ≡ Some how = subst (λ (x : Refusal). halted_behind (Err x) ≡ Some how) is h in cc

not-self : {A : Type 0} (x : A) → (x ≡ x → ⊥) → ⊥
not-self x h = h refl

wanted-durable : (e : Refusal) (old new : Machine) → Checkpointed old new (Err e) → halted_behind (Err e) ≡ Some halt.Memory → length new.core.stamps ≡ length new.core.journal
wanted-durable refused.Memory old new c h =
    elim (c.leaves.durable refl) as (λ _. length new.core.stamps ≡ length new.core.journal) [
      | inl all ↦ all
      | inr some ↦ absurd (some.1 refl)
    ]
wanted-durable (refused.LogFault file count) old new c h = absurd cc
wanted-durable refused.RunFull old new c h = absurd cc
wanted-durable e old new c h = absurd cc

long-err : (e : Refusal) (old new : Machine) → Checkpointed old new (Err e) → ((e ≡ refused.InventoryFull) × (2 ^ 62 ≤ old.core.generation + 1)) ⊎ EndsRun old new e → halted_behind (Err e) ≡ None
    → Follows old new × IsAtRest new.core
long-err e old new c (inl (is, last)) h = (
  record { bytes = c.bytes; added = record { base = c.leaves.adds.base; journal = c.leaves.adds.journal }; image = inr (inr (inr last), (c.image e refl).0, (c.image e refl).1) },
  c.leaves.rests (subst (λ (x : Refusal). has_ended {A = ℕ} (Err x) ≡ false) (sym is) refl),
)
long-err e old new c (inr ends) h = absurd (ends-halts e old new ends h)

long-off : (e : Refusal) (how : Halt) (old new : Machine) → ((e ≡ refused.InventoryFull) × (2 ^ 62 ≤ old.core.generation + 1)) ⊎ EndsRun old new e → halted_behind (Err e) ≡ Some how → EndsBehind old new how
long-off e how old new (inl (is, last)) h = absurd (full-none e how is h)
long-off e how old new (inr ends) h = halts-as e how old new ends h

long-followed : (answer : Result ℕ Refusal) (old new : Machine) → long_log ≤ old.core.log_length → Checkpointed old new answer → Followed old new (on_ok (λ seq. tt) answer)
long-followed (Ok seq) old new long c = record {
  on = λ h. (record { bytes = c.bytes; added = record { base = c.leaves.adds.base; journal = c.leaves.adds.journal }; image = inl (long, c.came.0, c.came.1) }, c.leaves.rests refl);
  off = λ how h. absurd cc;
  adds = c.leaves.adds;
  onward = c.leaves.onward;
  nearly = c.leaves.nearly;
  durable = λ h. absurd cc;
}
long-followed (Err e) old new long c = record {
  on = λ h. long-err e old new c c.came h;
  off = λ how h. record {
    onward = c.leaves.onward;
    bytes = c.bytes;
    image = (c.image e refl).0;
    log = (c.image e refl).1;
    cause = long-off e how old new c.came h;
    due = inr long;
  };
  adds = c.leaves.adds;
  onward = c.leaves.onward;
  nearly = c.leaves.nearly;
  durable = λ h. wanted-durable e old new c h;
}

module _ (trusted : Type 0) (places : Places) where
  if-long : (count : ℕ) (events : List Event) (made : Result (Unit {0}) Refusal) (old mid new : Machine) → IsAtRest old.core → Became old.core old mid → count ≡ old.core.log_length → IfLong count events made
      → Alone trusted places 0 events mid new → Followed old new made
  if-long count events made old mid new rest b is (inl (short, none, said)) f =
      let less : count < long_log = ltb-true count long_log short in
      let same : new ≡ mid = alone-none trusted places 0 events mid new none f in
      subst (λ (r : Result (Unit {0}) Refusal). Followed old new r) (sym said)
      (short-followed old new rest (subst (λ (m : Machine). Became old.core old m) (sym same) b) (inl (subst (λ (n : ℕ). n < long_log) is less)))
  if-long count events made old mid new rest b is (inr (long, answer, checkpointing, said)) f =
      let most : long_log ≤ count = ltb-false count long_log long in
      subst (λ (r : Result (Unit {0}) Refusal). Followed old new r) (sym said)
      (long-followed answer old new (subst (λ (n : ℕ). long_log ≤ n) is most)
      (checkpointed-since answer old mid new b (checkpoints trusted places events answer mid new (rest-as mid.core old.core b.core rest) checkpointing.order f)))

  pub followed : (events : List Event) (made : Result (Unit {0}) Refusal) (old new : Machine) → IsAtRest old.core → FollowsBy events made → Alone trusted places 0 events old new → Followed old new made
  followed events made old new rest (inl (e, asked, is)) f =
      let t = log-asked trusted places events (Err e) old new rest asked f in
      stopped-followed e made old new rest is t.0 t.1
  followed events made old new rest (inr (count, (xs, ys, cut, asked, long))) f =
      let parts = alone-parts trusted places 0 events xs ys old new cut f in
      let t = log-asked trusted places xs (Ok count) old parts.0 rest asked parts.1 in
      if-long count ys made old parts.0 new rest t.0 t.1 long parts.2
