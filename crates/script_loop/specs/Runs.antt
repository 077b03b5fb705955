-- What a run over a script may do, print and leave.
use Rattle.std.specs.Prelude.{◌≡◌, ◌⊎◌, ℕ, ◌+◌, ◌-◌, ◌^◌, List, [], ◌∷◌, ◌++◌, length, take, Option, None, Some, IfSome}
use Rattle.std.specs.Str.Lines.{lines}
use Rattle.std.specs.Io.KnownBytes.{Appends}
use Rattle.script_loop.specs.declared.tally.Tally.{Tally}
use Rattle.script_loop.specs.declared.ends.Halt.{Halt}
use Rattle.script_loop.specs.declared.ends.Halt.TheVariants.{Memory}
use Rattle.script_loop.specs.declared.ends.End.{End}
use Rattle.script_loop.specs.declared.ends.End.TheVariants.{Done, SourceFault, SinkFault, Halted, TooLong}
use Rattle.script_loop.specs.Tally.{no_tally, added}
use Rattle.script_loop.specs.Reply.{Answer}
use Rattle.script_loop.specs.Ends.{last_line}
use Rattle.script_loop.specs.Limit.{first_excess}

-- a list begins with another
abbrev pub IsFront : {X : Type 0} → List X → List X → Type 0
IsFront {X} front whole = (rest : List X) × (whole ≡ front ++ rest)

-- What is given is a line with its number; or the script's end, with the number that one more line would have.

-- From the state `old` these lines, the first of which is line n, may be answered by this text and this tally, which leaves the state `new`.
abbrev pub Runs : {S : Type 0} → (S → ℕ → Option (List ℕ) → Answer → S → Type 0) → ℕ → S → List (List ℕ) → List ℕ → Tally → S → Type 0
Runs serves n old [] text tally new = (text ≡ []) × (tally ≡ no_tally) × (new ≡ old)
Runs {S} serves n old (line ∷ more) text tally new = (reply : Answer) × (mid : S) × (rest : List ℕ) × (others : Tally)
    × serves old n (Some line) reply mid × (text ≡ reply.text ++ rest) × (tally ≡ added reply.tally others) × Runs serves (n + 1) mid more rest others new

-- Where the script is told, these lines are its first ones.
abbrev pub AreFirst : Option (List ℕ) → List (List ℕ) → Type 0
AreFirst script taken = IfSome script (λ all. IsFront taken (lines all))

-- the lines that were taken are all those of the script, which is within its limit
abbrev pub IsWhole : Option (List ℕ) → List (List ℕ) → Type 0
IsWhole script taken = IfSome script (λ all. (taken ≡ lines all) × (first_excess all ≡ None))

-- The script's limit is reached at line n: the lines before it were taken, and line 2^20 itself where it is that one.
abbrev pub Exceeds : Option (List ℕ) → List (List ℕ) → ℕ → Type 0
Exceeds script taken n = IfSome script (λ all. (first_excess all ≡ Some n) × ((taken ≡ take (n - 1) (lines all)) ⊎ ((n ≡ 2 ^ 20) × (taken ≡ take n (lines all)))))

-- These lines were taken and answered, then the script's end: what the lines came to, and what that end did.
abbrev pub RunsOut : {S : Type 0} → (S → ℕ → Option (List ℕ) → Answer → S → Type 0) → S → List (List ℕ) → List ℕ → Tally → S → Type 0
RunsOut {S} serves old taken text tally new = (front : List ℕ) × (others : Tally) × (mid : S) × (reply : Answer)
    × Runs serves 1 old taken front others mid × serves mid (length taken + 1) None reply new × (text ≡ front ++ reply.text) × (tally ≡ added others reply.tally)

-- How a halt came about after some lines were taken: the next line, of the next number, ended the run so, or the script's end did; or memory was wanted before the first line.
abbrev pub Halts : {S : Type 0} → (S → ℕ → Option (List ℕ) → Halt → S → Type 0) → Option (List ℕ) → List (List ℕ) → S → Halt → S → Type 0
Halts halts script taken mid halt new =
    ((line : List ℕ) × AreFirst script (taken ++ line ∷ []) × halts mid (length taken + 1) (Some line) halt new)
    ⊎ (IsWhole script taken × halts mid (length taken + 1) None halt new)
    ⊎ ((halt ≡ Memory) × (taken ≡ []) × (new ≡ mid))

-- What was printed before the last line, and what state is left, where the run ended so.
abbrev pub Answers : {S : Type 0} → (S → ℕ → Option (List ℕ) → Answer → S → Type 0) → (S → ℕ → Option (List ℕ) → Halt → S → Type 0) → S → Option (List ℕ) → End → List ℕ → S → Type 0
Answers serves halts old script (Done tally) text new = (taken : List (List ℕ)) × RunsOut serves old taken text tally new × IsWhole script taken
Answers serves halts old script SourceFault text new = (taken : List (List ℕ)) × (tally : Tally) × Runs serves 1 old taken text tally new × AreFirst script taken
Answers serves halts old script SinkFault text new = ⊥
Answers {S} serves halts old script (Halted halt) text new = (taken : List (List ℕ)) × (tally : Tally) × (mid : S) × Runs serves 1 old taken text tally mid × Halts halts script taken mid halt new
Answers serves halts old script (TooLong n) text new = (taken : List (List ℕ)) × (tally : Tally) × Runs serves 1 old taken text tally new × Exceeds script taken n

-- A run that ended so, by itself, may have printed this whole text, its last line included, and left this state.
abbrev pub Allows : {S : Type 0} → (S → ℕ → Option (List ℕ) → Answer → S → Type 0) → (S → ℕ → Option (List ℕ) → Halt → S → Type 0) → S → Option (List ℕ) → End → List ℕ → S → Type 0
Allows serves halts old script end whole new = (text : List ℕ) × (whole ≡ text ++ last_line end) × Answers serves halts old script end text new

-- What the sink has of a run: its whole text; or, where the sink failed, a front of the bytes that another end would have printed.
abbrev pub Prints : {S : Type 0} → (S → ℕ → Option (List ℕ) → Answer → S → Type 0) → (S → ℕ → Option (List ℕ) → Halt → S → Type 0) → S → Option (List ℕ) → End → List ℕ → S → Type 0
Prints serves halts old script (Done tally) put new = Allows serves halts old script (Done tally) put new
Prints serves halts old script SourceFault put new = Allows serves halts old script SourceFault put new
Prints serves halts old script SinkFault put new = (other : End) × (whole : List ℕ) × Allows serves halts old script other whole new × IsFront put whole
Prints serves halts old script (Halted halt) put new = Allows serves halts old script (Halted halt) put new
Prints serves halts old script (TooLong n) put new = Allows serves halts old script (TooLong n) put new

-- A run over a script that ended so leaves this state and has put this into the sink, which contained `before` and now contains `after`.
abbrev pub Says : {S : Type 0} → (S → ℕ → Option (List ℕ) → Answer → S → Type 0) → (S → ℕ → Option (List ℕ) → Halt → S → Type 0) → S → S → Option (List ℕ) → Option (List ℕ) → Option (List ℕ) → End → Type 0
Says serves halts old new script before after end = (put : List ℕ) × Appends before after put × Prints serves halts old script end put new
