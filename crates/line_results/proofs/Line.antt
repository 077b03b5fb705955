-- What a line's steps come to, put together: the line itself, and what follows it.
use Rattle.std.proofs.Common.{◌≡◌, ◌⊎◌, inl, inr, ℕ, ◌+◌, ◌≤◌, Bool, true, false, List, [], ◌∷◌, length, Option, None, Some, Result, Ok, Err, refl, sym, ap, subst, ◌∙◌}
use Rattle.std.proofs.lemmas.List.{append-nil}
use Rattle.std.proofs.lemmas.Option.{same_Some}
use Rattle.kinds.specs.declared.refusal.Refusal.{Refusal}
use Rattle.kinds.specs.declared.refusal.Refusal.TheVariants as refused
use Rattle.entries.specs.declared.entry.Entry.{Entry}
use Rattle.script_loop.specs.Reply.{Answer}
use Rattle.script_loop.specs.declared.ends.Halt.{Halt}
use Rattle.script_loop.specs.declared.ends.Halt.TheVariants as halt
use Rattle.steps.specs.Events.{Event, has_number}
use Rattle.admin_words.specs.declared.command.Command.{Command}
use Rattle.machine.specs.Alone.{Alone}
use Rattle.machine.specs.Laws.{RefusesElsewhere}
use Rattle.machine.specs.Machine.{Places}
use Rattle.machine.specs.State.{Core, Machine}
use Rattle.command_steps.specs.Answering.{AnswersLine, DoesOrWants}
use Rattle.command_steps.specs.Answers.{Ends, halt_by, nothing}
use Rattle.command_steps.specs.Behind.{behind}
use Rattle.command_steps.specs.Clients.{Client, IsKept}
use Rattle.command_steps.specs.Lines.{Line, asks, comment, refused as refused_line}
use Rattle.command_steps.specs.declared.outcome.Outcome.{Outcome}
use Rattle.line_results.specs.Lines.{EndsAt, EndsBehind, EndsFollowing, Halts, Replies, Says, doubtful}
use Rattle.line_results.specs.Commands.{Comes}
use Rattle.line_results.specs.Resting.{Adds, EndsNoRun, EndsRun, HasSizes, IsAtRest, IsNearlyDurable, LogEnds, NobodyHolds, Onward, database, has_broken, has_ended}
use Rattle.line_results.specs.Sound.{HasSoundRows}
use Rattle.line_results.proofs.Did.{GetsAs, PutsAs, command-did, newest-doubt}
use Rattle.line_results.proofs.Ending.{comes-end}
use Rattle.line_results.proofs.Followed.{followed}
use Rattle.line_results.proofs.Leaving.{Left, nearly-all, quiet-adds, quiet-log, same-quiet}
use Rattle.line_results.proofs.Runs.{alone-none, alone-parts, became-same, onward-then, rose-from}

-- ---- the line itself

-- It was answered so, and the machine is at rest.
pub record LineDid (trusted : Type 0) (places : Places) (k : Client) (n : ℕ) (line : Line) (old : Machine) (answer : Answer) (why : Option Refusal) (mid : Machine) : Type 0 where
  pub added : List Entry
  pub says : Says trusted places k n line old answer why added mid
  pub adds : Adds added old mid
  pub log : LogEnds added old mid
  pub onward : Onward old mid
  pub rests : IsAtRest mid.core

-- a refusal by which no run ends leaves the machine at rest
goes-on : (e : Refusal) → halt_by e ≡ None → has_number (40 ∷ 41 ∷ 50 ∷ []) e ≡ false
goes-on (refused.LogFault file count) h = absurd cc
goes-on refused.RunFull h = absurd cc
goes-on refused.Memory h = absurd cc
goes-on e h = refl

answered-rests : (n : ℕ) (said : Result Outcome Refusal) (reply : Answer × Option Refusal) → Ends n said (Ok reply) → has_ended said ≡ false
answered-rests n (Ok it) reply h = refl
answered-rests n (Err e) reply h = goes-on e h.0

module _ (trusted : Type 0) (places : Places) (k : Client) where
  still-did : (n : ℕ) (line : Line) (old mid : Machine) (answer : Answer) (why : Option Refusal) → IsAtRest old.core → mid ≡ old → Says trusted places k n line old answer why [] mid
      → LineDid trusted places k n line old answer why mid
  still-did n line old mid answer why rest same says =
      let b = became-same old mid same in
      record {
        added = [];
        says = says;
        adds = quiet-adds old.core old mid (same-quiet old.core) b;
        log = quiet-log old.core old mid (same-quiet old.core) b;
        onward = b.onward;
        rests = subst (λ (m : Machine). IsAtRest m.core) (sym same) rest;
      }

-- the parts of an answer
abbrev as_reply : (Answer × Option Refusal) → Result (Answer × Option Refusal) Halt
as_reply reply = Ok reply

abbrev reply_or : Answer × Option Refusal → Result (Answer × Option Refusal) Halt → Answer × Option Refusal
reply_or other (Ok reply) = reply
reply_or other (Err how) = other

same-reply : (a b : Answer × Option Refusal) → as_reply a ≡ as_reply b → a ≡ b
same-reply a b h = ap (reply_or a) h

-- how the run ended
abbrev as_halt : Halt → Result (Answer × Option Refusal) Halt
as_halt how = Err how

abbrev halt_in : Result (Answer × Option Refusal) Halt → Halt
halt_in (Ok reply) = halt.Memory
halt_in (Err how) = how

same-halt : (a b : Halt) → as_halt a ≡ as_halt b → a ≡ b
same-halt a b h = ap halt_in h

module _ (trusted : Type 0) (places : Places) (nobody : NobodyHolds places) (lawful : RefusesElsewhere places) (k : Client) (puts : PutsAs trusted places k.choice) (gets : GetsAs trusted places) where
  line-did : (n : ℕ) (line : Line) (events : List Event) (answer : Answer) (why : Option Refusal) (old mid : Machine) → IsAtRest old.core → HasSizes old → HasSoundRows (database old) → DoesOrWants k n line events (Ok (answer, why))
      → Alone trusted places 0 events old mid → LineDid trusted places k n line old answer why mid
  line-did n comment events answer why old mid rest sizes sound (inl (kept, none, is)) f =
      let pair : (let p : Answer × Option Refusal = (answer, why) in p) ≡ (nothing, None) = same-reply (answer, why) (nothing, None) is in
      let same : mid ≡ old = alone-none trusted places 0 events old mid none f in
      still-did trusted places k n comment old mid answer why rest same (kept, ap (λ (p : Answer × Option Refusal). p.0) pair, ap (λ (p : Answer × Option Refusal). p.1) pair, refl, same)
  line-did n (refused_line given) events answer why old mid rest sizes sound (inl (kept, none, is)) f =
      let same : mid ≡ old = alone-none trusted places 0 events old mid none f in
      still-did trusted places k n (refused_line given) old mid answer why rest same (kept, ap (λ (p : Answer × Option Refusal). p.0) is, ap (λ (p : Answer × Option Refusal). p.1) is, refl, same)
  line-did n (asks c) events answer why old mid rest sizes sound (inl (said, doing, ends)) f =
      let d = command-did trusted places nobody lawful k puts gets c events said old mid rest sizes sound doing f in
      record {
        added = d.added;
        says = (said, d.comes, ends);
        adds = d.left.adds;
        log = d.left.log;
        onward = d.left.onward;
        rests = d.left.rests (answered-rests n said (answer, why) ends);
      }
  line-did n line events answer why old mid rest sizes sound (inr (kept, none, is)) f = absurd cc

  -- ---- a line is answered

  pub answered : (n : ℕ) (line : Line) (events : List Event) (answer : Answer) (why : Option Refusal) (old new : Machine) → IsAtRest old.core → HasSizes old → HasSoundRows (database old) → AnswersLine k n line events (Ok (answer, why))
      → Alone trusted places 0 events old new → Replies trusted places k n line old answer why new
  answered n line events answer why old new rest sizes sound (xs, ys, cut, does, (made, follows, halts)) f =
      let parts = alone-parts trusted places 0 events xs ys old new cut f in
      let d = line-did n line xs answer why old parts.0 rest sizes sound does parts.1 in
      let b = followed trusted places ys made parts.0 new d.rests follows parts.2 in
      let on = b.on halts in
      record { added = d.added; mid = parts.0; says = d.says; adds = d.adds; log = d.log; first = d.onward; follows = on.0; behind = b.onward; rests = on.1 }

-- ---- a line ends the run

wanted-behind : (how : Halt) (old new : Machine) → how ≡ halt.Memory → EndsBehind old new how
wanted-behind how old new is = subst (λ (x : Halt). EndsBehind old new x) (sym is) tt

-- memory was wanted, and nothing changed
wanted-following : (how : Halt) (old new : Machine) → how ≡ halt.Memory → new ≡ old → EndsFollowing old new how
wanted-following how old new is same =
    let b = became-same old new same in
    record {
      onward = b.onward;
      bytes = b.contents;
      image = ap (λ (x : Core). x.generation) b.core;
      log = ap (λ (x : Core). x.log_length) b.core;
      cause = wanted-behind how old new is;
      due = inl is;
    }

module _ (trusted : Type 0) (places : Places) (k : Client) where
  says-ends : (n : ℕ) (line : Line) (answer : Answer) (why : Option Refusal) (added : List Entry) (how : Halt) (old mid new : Machine) → Says trusted places k n line old answer why added mid
      → EndsFollowing mid new how → EndsAt trusted places k n line old how added new
  says-ends n comment answer why added how old mid new (kept, a, w, none, same) ends = (kept, none, subst (λ (m : Machine). EndsFollowing m new how) same ends)
  says-ends n (refused_line given) answer why added how old mid new (kept, a, w, none, same) ends = (kept, none, subst (λ (m : Machine). EndsFollowing m new how) same ends)
  says-ends n (asks c) answer why added how old mid new (said, comes, replied) ends = inr (said, mid, comes, inr ends)

  wants-ends : (n : ℕ) (line : Line) (how : Halt) (old new : Machine) → IsKept k → how ≡ halt.Memory → new ≡ old → EndsAt trusted places k n line old how [] new
  wants-ends n comment how old new kept is same = (kept, refl, wanted-following how old new is same)
  wants-ends n (refused_line given) how old new kept is same = (kept, refl, wanted-following how old new is same)
  wants-ends n (asks c) how old new kept is same = inl (kept, is, refl, same)

adds-behind : (added : List Entry) (old mid new : Machine) → Adds added old mid → Adds [] mid new → Adds added old new
adds-behind added old mid new a b = record { base = b.base ∙ a.base; journal = b.journal ∙ append-nil mid.core.journal ∙ a.journal }

-- where the newest transaction may be in doubt at most
line-doubt : (line : Line) (added : List Entry) (new : Machine) → IsNearlyDurable new.core → length new.core.journal ≤ length new.core.stamps + doubtful line added
line-doubt comment added new nearly = nearly
line-doubt (refused_line given) added new nearly = nearly
line-doubt (asks c) added new nearly = newest-doubt (behind c) added new nearly

-- what a command leaves whose answer wanted memory
abbrev IsDurable : (n : ℕ) → List Entry → Halt → Machine → Type 0
IsDurable n added how new =
    (length new.core.stamps ≡ length new.core.journal) ⊎ ((added ≡ [] → ⊥) ⊎ ((said : Result Outcome Refusal) × (has_broken said ≡ true) × Ends n said (Err how)))

kept-durable : (n : ℕ) (said : Result Outcome Refusal) (added : List Entry) (how : Halt) (old new : Machine) → Left said added old new → Ends n said (Err how) → (broken : Bool) → has_broken said ≡ broken
    → IsDurable n added how new
kept-durable n said added how old new l ends true is = inr (inr (said, is, ends))
kept-durable n said added how old new l ends false is = elim (l.durable is) as (λ _. IsDurable n added how new) [
  | inl all ↦ inl all
  | inr some ↦ inr (inl some.1)
]

-- why it ended

behind-since : (how : Halt) (old mid new : Machine) → Onward old mid → EndsBehind mid new how → EndsBehind old new how
behind-since (halt.LogFault file) old mid new x h = (h.0, rose-from old mid new file x h.1)
behind-since halt.RunFull old mid new x h = h
behind-since halt.Memory old mid new x h = tt

run-behind : (e : Refusal) (how : Halt) (old new : Machine) → EndsRun old new e → halt_by e ≡ Some how → EndsBehind old new how
run-behind (refused.LogFault file count) how old new ends h = subst (λ (x : Halt). EndsBehind old new x) (same_Some (halt.LogFault file) how h) ends
run-behind refused.RunFull how old new ends h = subst (λ (x : Halt). EndsBehind old new x) (same_Some halt.RunFull how h) ends
run-behind refused.Memory how old new ends h = subst (λ (x : Halt). EndsBehind old new x) (same_Some halt.Memory how h) tt
run-behind e how old new ends h = absurd ends

-- where the log ends, behind both
log-behind : (added : List Entry) (how : Halt) (old mid new : Machine) → LogEnds added old mid → EndsFollowing mid new how → LogEnds added old new
log-behind added how old mid new (inl (same, long)) b = inl (b.image ∙ same, b.log ∙ long)
log-behind added how old mid new (inr (next, none)) b = inr (b.image ∙ next, b.log ∙ none)

command-behind : (trusted : Type 0) (places : Places) (goes_on : EndsNoRun places) (k : Client) (n : ℕ) (c : Command) (said : Result Outcome Refusal) (how : Halt) (old new : Machine) (added : List Entry)
    → Comes trusted places k c old new said added → Ends n said (Err how) → EndsBehind old new how
command-behind trusted places goes_on k n c (Ok it) how old new added comes is = wanted-behind how old new is
command-behind trusted places goes_on k n c (Err e) how old new added comes (inl is) = run-behind e how old new (comes-end trusted places goes_on k e how is old new added c comes) is
command-behind trusted places goes_on k n c (Err e) how old new added comes (inr is) = wanted-behind how old new is

module _ (trusted : Type 0) (places : Places) (nobody : NobodyHolds places) (lawful : RefusesElsewhere places) (k : Client) (puts : PutsAs trusted places k.choice) (gets : GetsAs trusted places) (goes_on : EndsNoRun places) where
  still-halts : (n : ℕ) (line : Line) (how : Halt) (old new : Machine) → IsAtRest old.core → new ≡ old → EndsAt trusted places k n line old how [] new → EndsBehind old new how
      → Halts trusted places k n line old how new
  still-halts n line how old new rest same ends why =
      let b = became-same old new same in
      record {
        added = [];
        ends = ends;
        adds = quiet-adds old.core old new (same-quiet old.core) b;
        log = quiet-log old.core old new (same-quiet old.core) b;
        onward = b.onward;
        cause = why;
        nearly = line-doubt line [] new (nearly-all new.core (subst (λ (m : Machine). IsAtRest m.core) (sym same) rest).durable);
        durable = λ h. inl (subst (λ (m : Machine). IsAtRest m.core) (sym same) rest).durable;
      }

  ends-line : (n : ℕ) (line : Line) (events : List Event) (how : Halt) (old new : Machine) → IsAtRest old.core → HasSizes old → HasSoundRows (database old) → DoesOrWants k n line events (Err how) → Alone trusted places 0 events old new
      → Halts trusted places k n line old how new
  ends-line n comment events how old new rest sizes sound (inl (kept, none, is)) f = absurd cc
  ends-line n (refused_line given) events how old new rest sizes sound (inl (kept, none, is)) f =
      let same : new ≡ old = alone-none trusted places 0 events old new none f in
      still-halts n (refused_line given) how old new rest same (kept, refl, wanted-following how old new is same) (wanted-behind how old new is)
  ends-line n (asks c) events how old new rest sizes sound (inl (said, doing, ends)) f =
      let d = command-did trusted places nobody lawful k puts gets c events said old new rest sizes sound doing f in
      record {
        added = d.added;
        ends = inr (said, new, d.comes, inl (refl, ends));
        adds = d.left.adds;
        log = d.left.log;
        onward = d.left.onward;
        cause = command-behind trusted places goes_on k n c said how old new d.added d.comes ends;
        nearly = d.doubt;
        durable = λ h. kept-durable n said d.added how old new d.left ends (has_broken said) refl;
      }
  ends-line n line events how old new rest sizes sound (inr (kept, none, is)) f =
      let same : new ≡ old = alone-none trusted places 0 events old new none f in
      still-halts n line how old new rest same (wants-ends trusted places k n line how old new kept (same-halt how halt.Memory is) same) (wanted-behind how old new (same-halt how halt.Memory is))

  pub ended : (n : ℕ) (line : Line) (events : List Event) (how : Halt) (old new : Machine) → IsAtRest old.core → HasSizes old → HasSoundRows (database old) → AnswersLine k n line events (Err how) → Alone trusted places 0 events old new
      → Halts trusted places k n line old how new
  ended n line events how old new rest sizes sound (inl h) f = ends-line n line events how old new rest sizes sound h f
  ended n line events how old new rest sizes sound (inr ((answer, why), (xs, ys, cut, does, (made, follows, halts)))) f =
      let parts = alone-parts trusted places 0 events xs ys old new cut f in
      let d = line-did trusted places nobody lawful k puts gets n line xs answer why old parts.0 rest sizes sound does parts.1 in
      let b = followed trusted places ys made parts.0 new d.rests follows parts.2 in
      record {
        added = d.added;
        ends = says-ends trusted places k n line answer why d.added how old parts.0 new d.says (b.off how halts);
        adds = adds-behind d.added old parts.0 new d.adds b.adds;
        log = log-behind d.added how old parts.0 new d.log (b.off how halts);
        onward = onward-then old parts.0 new d.onward b.onward;
        cause = behind-since how old parts.0 new d.onward (b.off how halts).cause;
        nearly = line-doubt line d.added new b.nearly;
        durable = λ h. inl (b.durable (halts ∙ ap Some h));
      }
