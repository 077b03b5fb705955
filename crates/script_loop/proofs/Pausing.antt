-- Lemmas on a run that waits in the middle of a line, and goes on.
use Rattle.std.proofs.Common.{◌≡◌, inl, inr, true, false, ℕ, ◌+◌, ◌^◌, ◌≤◌, Bool, List, Option, None, Some, Result, Ok, Err, refl, sym, subst}
use Rattle.std.specs.Io.KnownBytes.{Keeps, prepend_known}
use Rattle.std.proofs.KnownBytes.{Appends-kept}
use Rattle.script_loop.specs.declared.tally.Tally.{Tally}
use Rattle.script_loop.specs.declared.ends.Halt.{Halt}
use Rattle.script_loop.specs.declared.ends.End.{End}
use Rattle.script_loop.specs.declared.ends.End.TheVariants.{Done, SourceFault, SinkFault, Halted, TooLong}
use Rattle.script_loop.specs.Reply.{Answer}
use Rattle.script_loop.specs.Pauses.{AnswersAs, AsksOne, IsGiven, PutsAnswer, Stage, Waits}
use Rattle.script_loop.specs.Steps.{Stops, TakesOne, Underway}
use Rattle.script_loop.proofs.Underway.{goes_on, stops}

-- nothing was put
put_quietly : {S : Type 0} → (serves : S → ℕ → Option (List ℕ) → Answer → S → Type 0) → (start state : S) → (script contents come before after : Option (List ℕ)) → (n : ℕ) → (tally : Tally) → Underway serves start script contents n tally state come before → Keeps before after
    → Underway serves start script contents n tally state come after
put_quietly serves start state script contents come before after n tally so_far quiet =
    record {
      taken = so_far.taken;
      text = so_far.text;
      many = so_far.many;
      ran = so_far.ran;
      read = so_far.read;
      printed_so_far = Appends-kept contents before after so_far.text so_far.printed_so_far quiet;
    }

-- the server asked
pub waits : {S : Type 0} → (serves : S → ℕ → Option (List ℕ) → Answer → S → Type 0) → (asks : S → ℕ → Option (List ℕ) → S → Type 0) → (start old new : S) → (script contents come left before after : Option (List ℕ)) → (held : List ℕ) → (n : ℕ) → (tally : Tally) → (over : Bool)
    → Underway serves start script contents n tally old come before → AsksOne asks n old new come (prepend_known held left) over → Keeps before after → Waits serves asks start script contents (record { held = held; next = n; tally = tally; over = over }) new left after
waits serves asks start old new script contents come left before after held n tally false so_far (line, takes, asked) quiet =
    record {
      old = old;
      come = come;
      given = Some line;
      underway = put_quietly serves start old script contents come before after n tally so_far quiet;
      took = takes;
      asked = asked;
    }
waits serves asks start old new script contents come left before after held n tally true so_far (at_end, asked) quiet =
    record { old = old; come = come; given = None; underway = put_quietly serves start old script contents come before after n tally so_far quiet; took = at_end; asked = asked }

-- What was taken, and the answer to it, are what one line's taking comes to.
pub resumed : {S : Type 0} → (serves : S → ℕ → Option (List ℕ) → Answer → S → Type 0) → (halts : S → ℕ → Option (List ℕ) → Halt → S → Type 0) → (old new : S) → (n : ℕ) → (tally : Tally) → (over : Bool) → (given come left before after : Option (List ℕ)) → (reply : Result Answer Halt) → (result : Result Tally End)
    → IsGiven over given come left → AnswersAs serves halts old n given reply new → PutsAnswer tally over reply result before after → TakesOne serves halts n tally old new come left result before after
resumed serves halts old new n tally false None come left before after reply result took answers puts = absurd took
resumed serves halts old new n tally true (Some line) come left before after reply result took answers puts = absurd took
resumed serves halts old new n tally false (Some line) come left before after (Err halt) result took answers (is, quiet) =
    subst (λ r. TakesOne serves halts n tally old new come left r before after) (sym is) (inl (line, took, (answers, quiet)))
resumed serves halts old new n tally false (Some line) come left before after (Ok reply) (Ok sum) took answers puts = inl (line, took, (reply, answers, puts))
resumed serves halts old new n tally false (Some line) come left before after (Ok reply) (Err SinkFault) took answers puts = inl (line, took, (reply, answers, puts))
resumed serves halts old new n tally false (Some line) come left before after (Ok reply) (Err (Done sum)) took answers puts = absurd puts
resumed serves halts old new n tally false (Some line) come left before after (Ok reply) (Err SourceFault) took answers puts = absurd puts
resumed serves halts old new n tally false (Some line) come left before after (Ok reply) (Err (Halted halt)) took answers puts = absurd puts
resumed serves halts old new n tally false (Some line) come left before after (Ok reply) (Err (TooLong m)) took answers puts = absurd puts
resumed serves halts old new n tally true None come left before after (Err halt) result took answers (is, quiet) =
    subst (λ r. TakesOne serves halts n tally old new come left r before after) (sym is) (inr (inl (took, (answers, quiet))))
resumed serves halts old new n tally true None come left before after (Ok reply) (Err (Done sum)) took answers puts = inr (inl (took, (reply, answers, puts)))
resumed serves halts old new n tally true None come left before after (Ok reply) (Err SinkFault) took answers puts = inr (inl (took, (reply, answers, puts)))
resumed serves halts old new n tally true None come left before after (Ok reply) (Ok sum) took answers puts = absurd puts
resumed serves halts old new n tally true None come left before after (Ok reply) (Err SourceFault) took answers puts = absurd puts
resumed serves halts old new n tally true None come left before after (Ok reply) (Err (Halted halt)) took answers puts = absurd puts
resumed serves halts old new n tally true None come left before after (Ok reply) (Err (TooLong m)) took answers puts = absurd puts

module _ {S : Type 0} (serves : S → ℕ → Option (List ℕ) → Answer → S → Type 0) (halts : S → ℕ → Option (List ℕ) → Halt → S → Type 0) (asks : S → ℕ → Option (List ℕ) → S → Type 0) where
  -- What came of a run that waited, where this is the answer to what was taken.
  takes : (start state new : S) → (script contents left before after : Option (List ℕ)) → (stage : Stage) → (held : List ℕ) → (n : ℕ) → (tally : Tally) → (result : Result Tally End) → (over : Bool) → (reply : Result Answer Halt)
      → stage ≡ record { held = held; next = n; tally = tally; over = over } → (waits : Waits serves asks start script contents stage state left before) → AnswersAs serves halts waits.old stage.next waits.given reply new → PutsAnswer tally over reply result before after
      → TakesOne serves halts stage.next stage.tally waits.old new waits.come (prepend_known stage.held left) result before after
  takes start state new script contents left before after stage held n tally result over reply is it answers puts =
      resumed serves halts it.old new stage.next stage.tally stage.over it.given it.come (prepend_known stage.held left) before after reply result it.took answers (subst (λ (s : Stage). PutsAnswer s.tally s.over reply result before after) (sym is) puts)

  -- it goes on
  pub goes_on_answered : (start state new : S) → (script contents left before after : Option (List ℕ)) → (stage : Stage) → (held : List ℕ) → (n : ℕ) → (tally sum : Tally) → (over : Bool) → (reply : Result Answer Halt)
      → stage ≡ record { held = held; next = n; tally = tally; over = over } → stage.next ≤ 2 ^ 20 → (waits : Waits serves asks start script contents stage state left before) → AnswersAs serves halts waits.old stage.next waits.given reply new
      → PutsAnswer tally over reply (Ok sum) before after → Underway serves start script contents (n + 1) sum new (prepend_known held left) after
  goes_on_answered start state new script contents left before after stage held n tally sum over reply is within it answers puts =
      subst (λ (s : Stage). Underway serves start script contents (s.next + 1) sum new (prepend_known s.held left) after) is
      (goes_on serves halts start it.old new script contents it.come (prepend_known stage.held left) before after stage.next stage.tally sum within it.underway
      (takes start state new script contents left before after stage held n tally (Ok sum) over reply is it answers puts))

  -- it stops
  pub stops_answered : (start state new : S) → (script contents left before after : Option (List ℕ)) → (stage : Stage) → (held : List ℕ) → (n : ℕ) → (tally : Tally) → (end : End) → (over : Bool) → (reply : Result Answer Halt)
      → stage ≡ record { held = held; next = n; tally = tally; over = over } → stage.next ≤ 2 ^ 20 → (waits : Waits serves asks start script contents stage state left before) → AnswersAs serves halts waits.old stage.next waits.given reply new
      → PutsAnswer tally over reply (Err end) before after → Stops serves halts start new script contents after end
  stops_answered start state new script contents left before after stage held n tally end over reply is within it answers puts =
      stops serves halts start it.old new script contents it.come (prepend_known stage.held left) before after stage.next stage.tally end within it.underway
      (takes start state new script contents left before after stage held n tally (Err end) over reply is it answers puts)
