-- What one line does in a run, and how far a run has come.
use Rattle.std.specs.Prelude.{◌≡◌, ◌⊎◌, ℕ, ◌+◌, ◌^◌, ◌≤◌, ◌==◌, if◌then◌else◌, List, ◌++◌, length, Option, None, Some, Result, Ok, Err}
use Rattle.std.specs.Str.Lines.{lines}
use Rattle.std.specs.Io.KnownBytes.{Appends, Keeps, IsAtEnd}
use Rattle.script_loop.specs.declared.tally.Tally.{Tally}
use Rattle.script_loop.specs.declared.ends.Halt.{Halt}
use Rattle.script_loop.specs.declared.ends.End.{End}
use Rattle.script_loop.specs.declared.ends.End.TheVariants.{Done, SourceFault, SinkFault, Halted, TooLong}
use Rattle.script_loop.specs.Tally.{added}
use Rattle.script_loop.specs.Reply.{Answer}
use Rattle.script_loop.specs.Ends.{SinkCause}
use Rattle.script_loop.specs.Limit.{first_excess, excess_from}
use Rattle.script_loop.specs.Reading.{TakesLine, IsTooLong}
use Rattle.script_loop.specs.Runs.{Runs, IsFront, Answers, Prints}

-- The reply to a line was put into the sink and counted; or the sink failed, and a front of it was put.
abbrev pub PutsReply : Tally → Answer → Result Tally End → Option (List ℕ) → Option (List ℕ) → Type 0
PutsReply tally reply (Ok sum) before after = (sum ≡ added tally reply.tally) × Appends before after reply.text
PutsReply tally reply (Err SinkFault) before after = (front : List ℕ) × IsFront front reply.text × Appends before after front
PutsReply tally reply (Err (Done other)) before after = ⊥
PutsReply tally reply (Err SourceFault) before after = ⊥
PutsReply tally reply (Err (Halted halt)) before after = ⊥
PutsReply tally reply (Err (TooLong m)) before after = ⊥

-- What is given as number n, a line or the script's end, was answered from the state `old`, and its reply put; or it ended the run, and nothing was put; or the sink failed at its reply.
abbrev pub AnswersOne : {S : Type 0} → (S → ℕ → Option (List ℕ) → Answer → S → Type 0) → (S → ℕ → Option (List ℕ) → Halt → S → Type 0) → ℕ → Option (List ℕ) → Tally → S → S → Result Tally End → Option (List ℕ) → Option (List ℕ) → Type 0
AnswersOne serves halts n given tally old new (Ok sum) before after = (reply : Answer) × serves old n given reply new × PutsReply tally reply (Ok sum) before after
AnswersOne serves halts n given tally old new (Err (Halted halt)) before after = halts old n given halt new × Keeps before after
AnswersOne serves halts n given tally old new (Err SinkFault) before after = (reply : Answer) × serves old n given reply new × PutsReply tally reply (Err SinkFault) before after
AnswersOne serves halts n given tally old new (Err (Done other)) before after = ⊥
AnswersOne serves halts n given tally old new (Err SourceFault) before after = ⊥
AnswersOne serves halts n given tally old new (Err (TooLong m)) before after = ⊥

-- The script's end behind its last line was answered and its reply put, and the run is done; or it ended the run otherwise.
abbrev pub EndsScript : {S : Type 0} → (S → ℕ → Option (List ℕ) → Answer → S → Type 0) → (S → ℕ → Option (List ℕ) → Halt → S → Type 0) → ℕ → Tally → S → S → End → Option (List ℕ) → Option (List ℕ) → Type 0
EndsScript serves halts n tally old new (Done sum) before after = AnswersOne serves halts n None tally old new (Ok sum) before after
EndsScript serves halts n tally old new (Halted halt) before after = AnswersOne serves halts n None tally old new (Err (Halted halt)) before after
EndsScript serves halts n tally old new SinkFault before after = AnswersOne serves halts n None tally old new (Err SinkFault) before after
EndsScript serves halts n tally old new SourceFault before after = ⊥
EndsScript serves halts n tally old new (TooLong m) before after = ⊥

-- the same of how a line's taking came out: with the script's end it is the last
abbrev pub EndsAtLast : {S : Type 0} → (S → ℕ → Option (List ℕ) → Answer → S → Type 0) → (S → ℕ → Option (List ℕ) → Halt → S → Type 0) → ℕ → Tally → S → S → Result Tally End → Option (List ℕ) → Option (List ℕ) → Type 0
EndsAtLast serves halts n tally old new (Ok sum) before after = ⊥
EndsAtLast serves halts n tally old new (Err end) before after = EndsScript serves halts n tally old new end before after

-- line n couldn't be read, or is too long
abbrev pub IsNoLine : ℕ → Option (List ℕ) → Result Tally End → Type 0
IsNoLine n come (Ok sum) = ⊥
IsNoLine n come (Err SourceFault) = Unit {0}
IsNoLine n come (Err (TooLong m)) = (m ≡ n) × IsTooLong come
IsNoLine n come (Err (Done sum)) = ⊥
IsNoLine n come (Err SinkFault) = ⊥
IsNoLine n come (Err (Halted halt)) = ⊥

-- Line n was read and answered. Or there is none, and the script's end was answered. Or it couldn't be read, or is too long, and nothing was done. `come` and `left` are what was to come of the script before
-- and what is to come after.
abbrev pub TakesOne : {S : Type 0} → (S → ℕ → Option (List ℕ) → Answer → S → Type 0) → (S → ℕ → Option (List ℕ) → Halt → S → Type 0) → ℕ → Tally → S → S → Option (List ℕ) → Option (List ℕ) → Result Tally End → Option (List ℕ) → Option (List ℕ) → Type 0
TakesOne serves halts n tally old new come left result before after =
    ((line : List ℕ) × TakesLine come left line × AnswersOne serves halts n (Some line) tally old new result before after)
    ⊎ (IsAtEnd come × EndsAtLast serves halts n tally old new result before after)
    ⊎ (IsNoLine n come result × (new ≡ old) × Keeps before after)

-- Of a text some lines were taken, each of them short, and the rest is to come.
pub record HasTaken (all : List ℕ) (taken : List (List ℕ)) (rest : List ℕ) : Type 0 where
  pub split : lines all ≡ taken ++ lines rest
  pub short : first_excess all ≡ (if length taken == 2 ^ 20 then Some (length taken) else excess_from (length taken + 1) rest)

-- the same of a script that may not be told
abbrev pub Progress : Option (List ℕ) → List (List ℕ) → Option (List ℕ) → Type 0
Progress None taken come = Unit {0}
Progress (Some all) taken None = ⊥
Progress (Some all) taken (Some rest) = HasTaken all taken rest

-- How far a run has come before line n: some lines were taken and answered from its first state, and what was printed so far is their text.
pub record Underway {S : Type 0} (serves : S → ℕ → Option (List ℕ) → Answer → S → Type 0) (start : S) (script contents : Option (List ℕ)) (n : ℕ) (tally : Tally) (state : S) (come put : Option (List ℕ)) : Type 0 where
  pub taken : List (List ℕ)
  pub text : List ℕ
  pub many : length taken + 1 ≡ n
  pub ran : Runs serves 1 start taken text tally state
  pub read : Progress script taken come
  pub printed_so_far : Appends contents put text

-- What a run that ended so has put before its last line, and the state that it leaves.
abbrev pub HasPut : {S : Type 0} → (S → ℕ → Option (List ℕ) → Answer → S → Type 0) → (S → ℕ → Option (List ℕ) → Halt → S → Type 0) → S → Option (List ℕ) → End → List ℕ → S → Type 0
HasPut serves halts old script (Done tally) put new = Answers serves halts old script (Done tally) put new
HasPut serves halts old script SourceFault put new = Answers serves halts old script SourceFault put new
HasPut serves halts old script SinkFault put new = Prints serves halts old script SinkFault put new
HasPut serves halts old script (Halted halt) put new = Answers serves halts old script (Halted halt) put new
HasPut serves halts old script (TooLong n) put new = Answers serves halts old script (TooLong n) put new

-- the same, by what the sink contained before and contains now
abbrev pub Stops : {S : Type 0} → (S → ℕ → Option (List ℕ) → Answer → S → Type 0) → (S → ℕ → Option (List ℕ) → Halt → S → Type 0) → S → S → Option (List ℕ) → Option (List ℕ) → Option (List ℕ) → End → Type 0
Stops serves halts old new script before after end = (put : List ℕ) × Appends before after put × HasPut serves halts old script end put new

-- a line's cause at the sink
abbrev pub StepSink : Result Tally End → ℕ → ℕ → Type 0
StepSink (Ok sum) before after = before ≤ after
StepSink (Err end) before after = SinkCause end before after
