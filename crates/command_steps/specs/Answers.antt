-- How what came of a command is answered.
use Rattle.std.specs.Prelude.{◌≡◌, ◌⊎◌, ℕ, ◌+◌, ◌-◌, ◌*◌, ◌/◌, List, [], ◌∷◌, ◌++◌, length, take, drop, codes, Option, Some, None, Result, Ok, Err}
use Rattle.std.specs.List.{range_with_len, flat_map}
use Rattle.hex.specs.Hex.{encode_lower}
use Rattle.kinds.specs.declared.refusal.Refusal.{Refusal}
use Rattle.kinds.specs.declared.refusal.Refusal.TheVariants as refused
use Rattle.client_files.specs.declared.outcome.Gave.{Gave}
use Rattle.client_files.specs.declared.outcome.Gave.TheVariants as gave
use Rattle.incrementals.specs.declared.answering.Failure.{Failure}
use Rattle.incrementals.specs.declared.answering.Sent.{Sent}
use Rattle.inventory_answers.specs.declared.reply.Answer as rows
use Rattle.reports.specs.Lines.{shown_line, refused_line}
use Rattle.reports.specs.Pieces.{numbered}
use Rattle.reports.specs.Printed.{printed_rows, row_count}
use Rattle.reports.specs.declared.shown.Shown.{Shown}
use Rattle.reports.specs.declared.shown.Shown.TheVariants as shown
use Rattle.restores.specs.declared.choosing.RestoreLine.{RestoreLine}
use Rattle.restores.specs.declared.process.Restored.{Restored}
use Rattle.script_loop.specs.Reply.{Answer}
use Rattle.script_loop.specs.Tally.{no_tally}
use Rattle.script_loop.specs.declared.ends.Halt.{Halt}
use Rattle.script_loop.specs.declared.ends.Halt.TheVariants as halt
use Rattle.sessions.specs.declared.getting.FileRead.{FileRead}
use Rattle.volume_audits.specs.declared.audit.Audit.{Audit}
use Rattle.volume_audits.specs.declared.audit.Damaged.{Damaged}
use Rattle.command_steps.specs.declared.outcome.Outcome.{Outcome}
use Rattle.command_steps.specs.declared.outcome.Outcome.TheVariants as came
use Rattle.command_steps.specs.declared.outcome.Outcome.TheVariants.{Read, Rows, Said}

-- ---- a file's bytes

-- how many bytes a DATA line shows
unfoldable pub data_width : ℕ
data_width = 64

-- the piece of some bytes that the DATA line with this number shows, counted from 0, where a line shows `most` bytes or the rest
unfoldable pub piece_of : ℕ → List ℕ → ℕ → List ℕ
piece_of most bytes number = take most (drop (most * number) bytes)

-- how many DATA lines some bytes take
unfoldable pub pieces : ℕ → List ℕ → ℕ
pieces most bytes = (length bytes + (most - 1)) / most

-- the DATA line of a piece, which the script's line n causes
unfoldable pub data_line : (n : ℕ) → ℕ → List ℕ → ℕ → List ℕ
data_line n most bytes number = numbered n (codes "DATA " ++ encode_lower (piece_of most bytes number))

-- the DATA lines of some bytes
abbrev pub data_lines : (n : ℕ) → ℕ → List ℕ → List ℕ
data_lines n most bytes = flat_map (data_line n most bytes) (range_with_len 0 (pieces most bytes))

-- ---- printed lines

-- the lines of a file that was read
abbrev pub file_lines : (n : ℕ) → FileRead → List ℕ
file_lines n file = data_lines n data_width file.bytes ++ shown_line n (shown.Read file.object file.size)

-- the lines of a query's rows
abbrev pub row_lines : (n : ℕ) → rows.Answer → List ℕ
row_lines n answer = printed_rows n answer.rows ++ shown_line n (shown.Rows (row_count answer.rows))

-- the line of a path for which nothing was committed
abbrev pub failure_line : (n : ℕ) → Failure → List ℕ
failure_line n f = shown_line n (shown.Failed f.path f.refusal)

-- the lines of an incremental backup
abbrev pub sent_lines : (n : ℕ) → Sent → List ℕ
sent_lines n s = flat_map (failure_line n) s.failed ++ shown_line n (shown.Sent s.sent s.rebound s.gone s.skipped (length s.failed))

-- what is shown of an object of which this came
abbrev pub shown_of : RestoreLine → Gave → Shown
shown_of l gave.Restored = shown.File l.path l.stored.object l.stored.size l.stored.digest
shown_of l (gave.Failed why) = shown.Failed l.path why

-- the lines of objects of which these came
abbrev pub given_lines : (n : ℕ) → List RestoreLine → List Gave → List ℕ
given_lines n [] given = []
given_lines n (l ∷ lines) [] = []
given_lines n (l ∷ lines) (g ∷ given) = shown_line n (shown_of l g) ++ given_lines n lines given

-- 1 for one that failed
abbrev pub failed_weight : Gave → ℕ
failed_weight gave.Restored = 0
failed_weight (gave.Failed why) = 1

-- how many failed
abbrev pub failed_gave : List Gave → ℕ
failed_gave [] = 0
failed_gave (g ∷ given) = failed_weight g + failed_gave given

-- the lines of a restore
abbrev pub restored_lines : (n : ℕ) → Restored → List ℕ
restored_lines n r = given_lines n r.lines r.gave ++ shown_line n (shown.RestoredFiles (length r.gave - failed_gave r.gave) (failed_gave r.gave))

-- the line of a copy that an audit found damaged
abbrev pub damaged_line : (n : ℕ) → Damaged → List ℕ
damaged_line n d = shown_line n (shown.Damaged d.object d.kept d.found)

-- the lines of an audit
abbrev pub audited_lines : (n : ℕ) → Audit → List ℕ
audited_lines n a = flat_map (damaged_line n) a.damaged ++ shown_line n (shown.Audited a.sound (length a.damaged) a.fixed)

-- the lines of what a command in line n came to
abbrev pub outcome_lines : (n : ℕ) → Outcome → List ℕ
outcome_lines n (Said line) = shown_line n line
outcome_lines n (Read file) = file_lines n file
outcome_lines n (Rows answer) = row_lines n answer
outcome_lines n (came.Sent s) = sent_lines n s
outcome_lines n (came.Restored r) = restored_lines n r
outcome_lines n (came.Audited a) = audited_lines n a

-- ---- answers

-- the answer to a comment
abbrev pub nothing : Answer
nothing = record { text = []; tally = no_tally }

-- the answer of a command that was done, with these printed lines, in which so many files or objects failed
abbrev pub counting : List ℕ → ℕ → Answer
counting text failed = record { text = text; tally = record { commands = 1; refused = 0; failed = failed } }

-- one in which none failed
abbrev pub done : List ℕ → Answer
done text = counting text 0

-- how many failed
abbrev pub failed_in : Outcome → ℕ
failed_in (Said (shown.Copied copied failed)) = failed
failed_in (Said (shown.Moved moved failed reused)) = failed
failed_in (Said (shown.RestoredCopies restored failed reused)) = failed
failed_in (came.Sent s) = length s.failed
failed_in (came.Restored r) = failed_gave r.gave
failed_in it = 0

-- the answer of a command in line n that came to this
abbrev pub answer_of : (n : ℕ) → Outcome → Answer
answer_of n it = counting (outcome_lines n it) (failed_in it)

-- the answer of a command in line n that was refused so
abbrev pub refusal : (n : ℕ) → Refusal → Answer
refusal n why = record { text = refused_line n why; tally = record { commands = 1; refused = 1; failed = 0 } }

-- how a refusal ends the run, where it does: the fault of a log or an image, a full run, want of memory
abbrev pub halt_by : Refusal → Option Halt
halt_by (refused.LogFault file count) = Some (halt.LogFault file)
halt_by refused.RunFull = Some halt.RunFull
halt_by refused.Memory = Some halt.Memory
halt_by _ = None

-- a line that is refused so is answered by that refusal, whatever it is, or memory is wanted for its printed line
abbrev pub IsRefused : (n : ℕ) → Refusal → Result (Answer × Option Refusal) Halt → Type 0
IsRefused n why (Ok reply) = reply ≡ (refusal n why, Some why)
IsRefused n why (Err how) = how ≡ halt.Memory

-- What came of a command is answered, beside why it was refused; or it ends the run, for want of memory also where there is none for the printed lines.
abbrev pub Ends : (n : ℕ) → Result Outcome Refusal → Result (Answer × Option Refusal) Halt → Type 0
Ends n (Ok it) (Ok reply) = reply ≡ (answer_of n it, None)
Ends n (Ok it) (Err how) = how ≡ halt.Memory
Ends n (Err e) (Ok reply) = (halt_by e ≡ None) × (reply ≡ (refusal n e, Some e))
Ends n (Err e) (Err how) = (halt_by e ≡ Some how) ⊎ (how ≡ halt.Memory)
