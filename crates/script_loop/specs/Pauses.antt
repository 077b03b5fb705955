-- A run over a script that is made in parts: where it stands between two lines, and where it waits in the middle of one.
use Rattle.std.specs.Prelude.{◌≡◌, ℕ, ◌+◌, ◌^◌, ◌≤◌, Bool, true, false, List, Option, None, Some, Result, Ok, Err}
use Rattle.std.specs.Io.KnownBytes.{IsAtEnd, Keeps, prepend_known}
use Rattle.script_loop.specs.declared.tally.Tally.{Tally}
use Rattle.script_loop.specs.declared.ends.Halt.{Halt}
use Rattle.script_loop.specs.declared.ends.End.{End}
use Rattle.script_loop.specs.declared.ends.End.TheVariants.{Done, SourceFault, SinkFault, Halted, TooLong}
use Rattle.script_loop.specs.declared.script.Turn.{Turn}
use Rattle.script_loop.specs.declared.script.Turn.TheVariants.{Took, Ends, Asks}
use Rattle.script_loop.specs.declared.answerer.Answered.{Answered}
use Rattle.script_loop.specs.declared.answerer.Answered.TheVariants.{Replied, Ended, Asked}
use Rattle.script_loop.specs.Reply.{Answer}
use Rattle.script_loop.specs.Ends.{DoneAtEnd, SourceCause, SinkCause}
use Rattle.script_loop.specs.Reading.{TakesLine}
use Rattle.script_loop.specs.Runs.{Says}
use Rattle.script_loop.specs.Steps.{AnswersOne, EndsScript, PutsReply, Stops, TakesOne, Underway}

-- ---- what is said of one line

-- Given this as number n in the state `old`, a line or the script's end, it was answered so, or it ended the run, or more is asked for; and the state is `new`.
abbrev pub Responds : {S : Type 0} → (S → ℕ → Option (List ℕ) → Answer → S → Type 0) → (S → ℕ → Option (List ℕ) → Halt → S → Type 0) → (S → ℕ → Option (List ℕ) → S → Type 0) → S → ℕ → Option (List ℕ) → Answered → S → Type 0
Responds serves halts asks old n given (Replied reply) new = serves old n given reply new
Responds serves halts asks old n given (Ended halt) new = halts old n given halt new
Responds serves halts asks old n given Asked new = asks old n given new

-- Behind an answer so many lines may still be given; and where more was asked for as many as before.
abbrev pub StaysReady : {S : Type 0} → (S → ℕ → Type 0) → (left : ℕ) → S → Answered → S → Type 0
StaysReady can_take left old (Replied reply) new = can_take new left
StaysReady can_take left old (Ended halt) new = Unit {0}
StaysReady can_take left old Asked new = can_take new (left + 1)

-- What was asked for was done, and so the line or the script's end is answered, or ends the run.
abbrev pub AnswersAs : {S : Type 0} → (S → ℕ → Option (List ℕ) → Answer → S → Type 0) → (S → ℕ → Option (List ℕ) → Halt → S → Type 0) → S → ℕ → Option (List ℕ) → Result Answer Halt → S → Type 0
AnswersAs serves halts old n given (Ok reply) new = serves old n given reply new
AnswersAs serves halts old n given (Err halt) new = halts old n given halt new

-- ---- where a run is

-- What a run has: the bytes that it took from its source and gave in no line yet; the number of the next line, or, where it waits, of the line that was taken; what was counted; and whether the script's end was taken.
pub record Stage : Type 0 where
  pub held : List ℕ
  pub next : ℕ
  pub tally : Tally
  pub over : Bool

-- A line was taken, or the script's end. `come` and `left` are what was to come of the script before and what is to come after.
abbrev pub IsGiven : (over : Bool) → (given come left : Option (List ℕ)) → Type 0
IsGiven false (Some line) come left = TakesLine come left line
IsGiven true None come left = IsAtEnd come
IsGiven false None come left = ⊥
IsGiven true (Some line) come left = ⊥

-- A run that began in the state `start` stands before its next line, in the state `state`. `left` is what its source has left, and `put` what its sink contains.
abbrev pub Stands : {S : Type 0} → (S → ℕ → Option (List ℕ) → Answer → S → Type 0) → (start : S) → (script contents : Option (List ℕ)) → Stage → (state : S) → (left put : Option (List ℕ)) → Type 0
Stands serves start script contents stage state left put = (stage.over ≡ false) × Underway serves start script contents stage.next stage.tally state (prepend_known stage.held left) put

-- A run that began in the state `start` waits in the middle of a line, or of the script's end: in the state `old` it stood before it, and this was taken; and more is asked for, in the state `state`.
pub record Waits {S : Type 0} (serves : S → ℕ → Option (List ℕ) → Answer → S → Type 0) (asks : S → ℕ → Option (List ℕ) → S → Type 0) (start : S) (script contents : Option (List ℕ)) (stage : Stage) (state : S) (left put : Option (List ℕ)) : Type 0 where
  pub old : S
  pub come : Option (List ℕ)
  pub given : Option (List ℕ)
  pub underway : Underway serves start script contents stage.next stage.tally old come put
  pub took : IsGiven stage.over given come (prepend_known stage.held left)
  pub asked : asks old stage.next given state

-- the lines that may still come can be given
abbrev pub HasRoom : {S : Type 0} → (S → ℕ → Type 0) → Stage → S → Type 0
HasRoom can_take stage state = (m : ℕ) → m + stage.next ≡ 2 ^ 20 + 1 → can_take state m

-- ---- how a part of a run ends

-- The run ended so, and its last line was put; or it waits.
abbrev pub RunsTo : {S : Type 0} → (S → ℕ → Option (List ℕ) → Answer → S → Type 0) → (S → ℕ → Option (List ℕ) → Halt → S → Type 0) → (S → ℕ → Option (List ℕ) → S → Type 0) → (start : S) → (script contents : Option (List ℕ)) → Stage → (state : S) → (left put : Option (List ℕ)) → Option End → Type 0
RunsTo serves halts asks start script contents stage state left put (Some end) = Says serves halts start state script contents put end
RunsTo serves halts asks start script contents stage state left put None = Waits serves asks start script contents stage state left put

-- The run ended so, and its last line was put; or it stands before its next line.
abbrev pub ComesTo : {S : Type 0} → (S → ℕ → Option (List ℕ) → Answer → S → Type 0) → (S → ℕ → Option (List ℕ) → Halt → S → Type 0) → (start : S) → (script contents : Option (List ℕ)) → Stage → (state : S) → (left put : Option (List ℕ)) → Option End → Type 0
ComesTo serves halts start script contents stage state left put (Some end) = Says serves halts start state script contents put end
ComesTo serves halts start script contents stage state left put None = Stands serves start script contents stage state left put

-- Where the run was done, nothing is left of the script; and so where the script's end was taken.
abbrev pub EndsOver : Option End → (over : Bool) → Option (List ℕ) → Type 0
EndsOver (Some end) over left = DoneAtEnd end left
EndsOver None over left = over ≡ true → IsAtEnd left

-- the cause of an end at the source, if it is one
abbrev pub SourceSays : Option End → ℕ → ℕ → Type 0
SourceSays (Some end) before after = SourceCause end before after
SourceSays None before after = before ≤ after

-- the cause of an end at the sink, if it is one
abbrev pub SinkSays : Option End → ℕ → ℕ → Type 0
SinkSays (Some end) before after = SinkCause end before after
SinkSays None before after = before ≤ after

-- where the run didn't end, the next line has a number from this one to that one
abbrev pub NextWithin : Option End → (low high next : ℕ) → Type 0
NextWithin (Some end) low high next = Unit {0}
NextWithin None low high next = (low ≤ next) × (next ≤ high)

-- where it didn't end, the lines that may still come can be given
abbrev pub RoomBehind : {S : Type 0} → Option End → (S → ℕ → Type 0) → Stage → S → Type 0
RoomBehind (Some end) can_take stage state = Unit {0}
RoomBehind None can_take stage state = HasRoom can_take stage state

-- ---- one line of a part

-- What is given as number n was answered or ended the run, as `AnswersOne` says; or more is asked for, and nothing was put.
abbrev pub AnswersTurn : {S : Type 0} → (S → ℕ → Option (List ℕ) → Answer → S → Type 0) → (S → ℕ → Option (List ℕ) → Halt → S → Type 0) → (S → ℕ → Option (List ℕ) → S → Type 0) → ℕ → List ℕ → Tally → S → S → Turn → (before after : Option (List ℕ)) → Type 0
AnswersTurn serves halts asks n line tally old new (Took sum) before after = AnswersOne serves halts n (Some line) tally old new (Ok sum) before after
AnswersTurn serves halts asks n line tally old new (Ends end) before after = AnswersOne serves halts n (Some line) tally old new (Err end) before after
AnswersTurn serves halts asks n line tally old new (Asks false) before after = asks old n (Some line) new × Keeps before after
AnswersTurn serves halts asks n line tally old new (Asks true) before after = ⊥

-- the same of the script's end
abbrev pub EndsTurn : {S : Type 0} → (S → ℕ → Option (List ℕ) → Answer → S → Type 0) → (S → ℕ → Option (List ℕ) → Halt → S → Type 0) → (S → ℕ → Option (List ℕ) → S → Type 0) → ℕ → Tally → S → S → Turn → (before after : Option (List ℕ)) → Type 0
EndsTurn serves halts asks n tally old new (Took sum) before after = ⊥
EndsTurn serves halts asks n tally old new (Ends end) before after = EndsScript serves halts n tally old new end before after
EndsTurn serves halts asks n tally old new (Asks false) before after = ⊥
EndsTurn serves halts asks n tally old new (Asks true) before after = asks old n None new × Keeps before after

-- The server asked at line n, or at the script's end.
abbrev pub AsksOne : {S : Type 0} → (S → ℕ → Option (List ℕ) → S → Type 0) → ℕ → S → S → (come left : Option (List ℕ)) → (over : Bool) → Type 0
AsksOne asks n old new come left false = (line : List ℕ) × TakesLine come left line × asks old n (Some line) new
AsksOne asks n old new come left true = IsAtEnd come × asks old n None new

-- One line's taking came to this, as `TakesOne` says; or more is asked for, and nothing was put.
abbrev pub TakesTurn : {S : Type 0} → (S → ℕ → Option (List ℕ) → Answer → S → Type 0) → (S → ℕ → Option (List ℕ) → Halt → S → Type 0) → (S → ℕ → Option (List ℕ) → S → Type 0) → ℕ → Tally → S → S → (come left : Option (List ℕ)) → Turn → (before after : Option (List ℕ)) → Type 0
TakesTurn serves halts asks n tally old new come left (Took sum) before after = TakesOne serves halts n tally old new come left (Ok sum) before after
TakesTurn serves halts asks n tally old new come left (Ends end) before after = TakesOne serves halts n tally old new come left (Err end) before after
TakesTurn serves halts asks n tally old new come left (Asks over) before after = AsksOne asks n old new come left over × Keeps before after

-- The server can take the lines that may still come, where the run goes on behind line n; and line n itself, where it waits there.
abbrev pub TurnRoom : {S : Type 0} → (S → ℕ → Type 0) → ℕ → S → Turn → Type 0
TurnRoom can_take n state (Took sum) = (m : ℕ) → m + n ≡ 2 ^ 20 → can_take state m
TurnRoom can_take n state (Ends end) = Unit {0}
TurnRoom can_take n state (Asks over) = (m : ℕ) → m + n ≡ 2 ^ 20 + 1 → can_take state m

-- Where the run was done, nothing is left of the script; and so where the script's end was taken.
abbrev pub TurnOver : Turn → Option (List ℕ) → Type 0
TurnOver (Took sum) left = Unit {0}
TurnOver (Ends end) left = DoneAtEnd end left
TurnOver (Asks false) left = Unit {0}
TurnOver (Asks true) left = IsAtEnd left

-- the cause of an end at the source, if it is one
abbrev pub TurnSource : Turn → ℕ → ℕ → Type 0
TurnSource (Took sum) before after = before ≤ after
TurnSource (Ends end) before after = SourceCause end before after
TurnSource (Asks over) before after = before ≤ after

-- the cause of an end at the sink, if it is one
abbrev pub TurnSink : Turn → ℕ → ℕ → Type 0
TurnSink (Took sum) before after = before ≤ after
TurnSink (Ends end) before after = SinkCause end before after
TurnSink (Asks over) before after = before ≤ after

-- An answer was put and counted, and the run goes on, or, behind the script's end, is done; or the sink failed at it; or it is the end of the run, and nothing was put.
abbrev pub PutsAnswer : Tally → (over : Bool) → Result Answer Halt → Result Tally End → (before after : Option (List ℕ)) → Type 0
PutsAnswer tally over (Err halt) result before after = (result ≡ Err (Halted halt)) × Keeps before after
PutsAnswer tally false (Ok reply) result before after = PutsReply tally reply result before after
PutsAnswer tally true (Ok reply) (Ok sum) before after = ⊥
PutsAnswer tally true (Ok reply) (Err (Done sum)) before after = PutsReply tally reply (Ok sum) before after
PutsAnswer tally true (Ok reply) (Err SinkFault) before after = PutsReply tally reply (Err SinkFault) before after
PutsAnswer tally true (Ok reply) (Err SourceFault) before after = ⊥
PutsAnswer tally true (Ok reply) (Err (Halted halt)) before after = ⊥
PutsAnswer tally true (Ok reply) (Err (TooLong n)) before after = ⊥

-- how a run ended before its last line is put, or where it waits
abbrev pub StopsTo : {S : Type 0} → (S → ℕ → Option (List ℕ) → Answer → S → Type 0) → (S → ℕ → Option (List ℕ) → Halt → S → Type 0) → (S → ℕ → Option (List ℕ) → S → Type 0) → (start : S) → (script contents : Option (List ℕ)) → Stage → (state : S) → (left put : Option (List ℕ)) → Option End → Type 0
StopsTo serves halts asks start script contents stage state left put (Some end) = Stops serves halts start state script contents put end
StopsTo serves halts asks start script contents stage state left put None = Waits serves asks start script contents stage state left put
