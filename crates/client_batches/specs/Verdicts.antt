-- What came of the files of a batch that needn't be sent again.
use Rattle.std.specs.Prelude.{◌==◌, Bool, true, false, ◌&&◌, ◌||◌, List, [], ◌∷◌, if◌then◌else◌, Option, None, Some}
use Rattle.kinds.specs.Refusals.{number_of}
use Rattle.kinds.specs.declared.refusal.Holder.{Holder}
use Rattle.kinds.specs.declared.refusal.Refusal.{Refusal}
use Rattle.client_files.specs.declared.outcome.Came.{Came}
use Rattle.client_files.specs.declared.outcome.Came.TheVariants as came

abbrev pub has_ticket : Came → Bool
has_ticket (came.Written ticket digest) = true
has_ticket (came.Failed e) = false
has_ticket (came.Held holder) = false

-- A file is to be sent again, where some of its batch have tickets before it, or none: others hold the room, or there is none for it while tickets were held.
abbrev pub waits : (some : Bool) → Came → Bool
waits some (came.Written ticket digest) = false
waits some (came.Failed e) = (number_of e == 20) && some
waits some (came.Held holder) = true

-- who holds the room that it waits for
abbrev pub holder_of : Came → Option Holder
holder_of (came.Written ticket digest) = None
holder_of (came.Failed e) = None
holder_of (came.Held holder) = Some holder

abbrev pub first_out : List (Option Refusal) → Option Refusal
first_out [] = None
first_out (out ∷ outs) = out

abbrev pub other_outs : List (Option Refusal) → List (Option Refusal)
other_outs [] = []
other_outs (out ∷ outs) = outs

-- why a file isn't committed, where this is what came of it behind its seal, and of those that are sealed from it on; none where it is
abbrev pub verdict : Came → List (Option Refusal) → Option Refusal
verdict (came.Written ticket digest) outs = first_out outs
verdict (came.Failed e) outs = Some e
verdict (came.Held holder) outs = None

-- what came of those that are sealed behind it
abbrev pub left_behind : Came → List (Option Refusal) → List (Option Refusal)
left_behind (came.Written ticket digest) outs = other_outs outs
left_behind (came.Failed e) outs = outs
left_behind (came.Held holder) outs = outs

-- of each file, up to the one that is to be sent again, by what came of all when they were written and when they were sealed
abbrev pub verdicts : (some : Bool) → (all sealed : List Came) → List (Option Refusal) → List (Option Refusal)
verdicts some [] sealed outs = []
verdicts some (c ∷ all) [] outs = []
verdicts some (c ∷ all) (s ∷ sealed) outs = if waits some c then [] else verdict s outs ∷ verdicts (some || has_ticket c) all sealed (left_behind s outs)

-- who holds the room that this one waits for
abbrev pub waiting : (some : Bool) → List Came → Option Holder
waiting some [] = None
waiting some (c ∷ all) = if waits some c then holder_of c else waiting (some || has_ticket c) all
