-- What a line of a script does, step by step, and how it is answered.
use Rattle.std.specs.Prelude.{◌≡◌, ◌⊎◌, ℕ, ◌^◌, nat_lt, true, false, List, [], Option, Some, None, Result, Ok, Err}
use Rattle.kinds.specs.declared.refusal.Refusal.{Refusal}
use Rattle.kinds.specs.declared.refusal.Refusal.TheVariants as refused
use Rattle.inventory_rows.specs.version_groups.Entries.{on_ok}
use Rattle.inventory_answers.specs.declared.query.Query.TheVariants as query
use Rattle.inventory_answers.specs.declared.reply.Rows.TheVariants as rows
use Rattle.script_loop.specs.Reply.{Answer}
use Rattle.script_loop.specs.declared.ends.Halt.{Halt}
use Rattle.script_loop.specs.declared.ends.Halt.TheVariants as halt
use Rattle.sessions.specs.Asking.{Asks}
use Rattle.sessions.specs.Checkpoints.{Checkpointing}
use Rattle.steps.specs.Calls.{Then}
use Rattle.steps.specs.Events.{Event}
use Rattle.command_steps.specs.Answers.{Ends, IsRefused, nothing}
use Rattle.command_steps.specs.Clients.{Client, IsKept}
use Rattle.command_steps.specs.Doing.{Doing}
use Rattle.command_steps.specs.Lines.{Line, asks, comment, refused as refused_line}
use Rattle.command_steps.specs.declared.outcome.Outcome.{Outcome}

-- ---- the line itself

-- What a line is is done and answered, or ends the run.
abbrev pub DoesLine : Client → (n : ℕ) → Line → List Event → Result (Answer × Option Refusal) Halt → Type 0
DoesLine k n comment events result = IsKept k × (events ≡ []) × (result ≡ Ok (nothing, None))
DoesLine k n (refused_line why) events result = IsKept k × (events ≡ []) × IsRefused n why result
DoesLine k n (asks c) events result = (said : Result Outcome Refusal) × Doing k c events said × Ends n said result

-- the same, or memory was wanted before it was known what the line is
abbrev pub DoesOrWants : Client → (n : ℕ) → Line → List Event → Result (Answer × Option Refusal) Halt → Type 0
DoesOrWants k n line events result = DoesLine k n line events result ⊎ (IsKept k × (events ≡ []) × (result ≡ Err halt.Memory))

-- ---- behind it

-- how long a log is behind which a checkpoint is made unasked: 4 MiB
abbrev pub long_log : ℕ
long_log = 2 ^ 22

-- the length of the log is asked
abbrev pub AsksLog : List Event → Result ℕ Refusal → Type 0
AsksLog events result = Asks query.LogBytes rows.LogBytes events result

-- that the run is full is left to the next line
abbrev pub unless_full : Refusal → Result (Unit {0}) Refusal
unless_full refused.RunFull = Ok tt
unless_full e = Err e

-- a checkpoint is made where the log is long
abbrev pub IfLong : ℕ → List Event → Result (Unit {0}) Refusal → Type 0
IfLong count events result =
    ((nat_lt count long_log ≡ true) × (events ≡ []) × (result ≡ Ok tt))
    ⊎ ((nat_lt count long_log ≡ false) × (answer : Result ℕ Refusal) × Checkpointing events answer × (result ≡ on_ok (λ seq. tt) answer))

-- Behind a line the log's length is asked, and where it is long a checkpoint is made. Where the run is full already none is.
abbrev pub Follows : List Event → Result (Unit {0}) Refusal → Type 0
Follows events result =
    ((e : Refusal) × AsksLog events (Err e) × (result ≡ unless_full e))
    ⊎ ((count : ℕ) × Then (λ xs. AsksLog xs (Ok count)) (λ ys. IfLong count ys result) events)

-- How what follows a line ends the run, where it does: by the fault of a log or an image, for want of memory, or where the run is full before the checkpoint is made. Where another image is
-- being written, or there is no generation behind the newest, no checkpoint is made, and the line stays answered.
abbrev pub halted_behind : Result (Unit {0}) Refusal → Option Halt
halted_behind (Err (refused.LogFault file count)) = Some (halt.LogFault file)
halted_behind (Err refused.RunFull) = Some halt.RunFull
halted_behind (Err refused.Memory) = Some halt.Memory
halted_behind _ = None

-- ---- both

-- A line is answered, and what follows it doesn't end the run. Or one of the two ends it.
abbrev pub AnswersLine : Client → (n : ℕ) → Line → List Event → Result (Answer × Option Refusal) Halt → Type 0
AnswersLine k n line events (Ok reply) =
    Then (λ xs. DoesOrWants k n line xs (Ok reply)) (λ ys. (made : Result (Unit {0}) Refusal) × Follows ys made × (halted_behind made ≡ None)) events
AnswersLine k n line events (Err how) =
    DoesOrWants k n line events (Err how)
    ⊎ ((reply : Answer × Option Refusal)
    × Then (λ xs. DoesOrWants k n line xs (Ok reply)) (λ ys. (made : Result (Unit {0}) Refusal) × Follows ys made × (halted_behind made ≡ Some how)) events)
