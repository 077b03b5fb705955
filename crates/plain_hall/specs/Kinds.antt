-- The kinds of steps, and what a step of each may answer.
use Rattle.std.specs.Prelude.{ℕ, ◌+◌, ◌-◌, ◌^◌, nat_lt, Bool, true, false, ◌&&◌, if◌then◌else◌, List, [], ◌∷◌, Option}
use Rattle.std.specs.Option.{option_map_or}
use Rattle.kinds.specs.declared.refusal.Refusal.{Refusal}
use Rattle.steps.specs.Calls.{fails_object as is_of_object}
use Rattle.steps.specs.Events.{Deed, has_number}
use Rattle.steps.specs.Events.Deed.{OpenNew, OpenCopy, WritePiece, CopyPiece, Seal, Commit, DropTicket, ReadPiece, Ask, Image, Reuse, Force}
use Rattle.plain_hall.specs.declared.trace.Kind.{Kind}
use Rattle.plain_hall.specs.declared.trace.Kind.TheVariants as kind

abbrev pub kind_of : Deed → Kind
kind_of (OpenNew pool size prefer answer) = kind.OpenNew
kind_of (OpenCopy object aim avoid answer) = kind.OpenCopy
kind_of (WritePiece ticket bytes answer) = kind.WritePiece
kind_of (CopyPiece ticket answer) = kind.CopyPiece
kind_of (Seal ticket answer) = kind.Seal
kind_of (Commit asked tickets answer) = kind.Commit
kind_of (DropTicket ticket answer) = kind.DropTicket
kind_of (ReadPiece object kept from offset wanted answer) = kind.ReadPiece
kind_of (Ask query answer) = kind.Ask
kind_of (Image picture answer) = kind.Image
kind_of (Reuse file answer) = kind.Reuse
kind_of (Force answer) = kind.Force

-- the numbers of the refusals that a step of the kind may answer
abbrev pub numbers_of : Kind → List ℕ
numbers_of kind.OpenNew = 10 ∷ 20 ∷ 21 ∷ 29 ∷ 31 ∷ 40 ∷ 41 ∷ 50 ∷ []
numbers_of kind.OpenCopy = 4 ∷ 10 ∷ 20 ∷ 21 ∷ 22 ∷ 23 ∷ 31 ∷ 40 ∷ 41 ∷ 50 ∷ []
numbers_of kind.WritePiece = 10 ∷ 12 ∷ 25 ∷ 27 ∷ 40 ∷ 41 ∷ []
numbers_of kind.CopyPiece = 10 ∷ 12 ∷ 23 ∷ 24 ∷ 25 ∷ 40 ∷ 41 ∷ []
numbers_of kind.Seal = 10 ∷ 25 ∷ 27 ∷ 40 ∷ 41 ∷ []
numbers_of kind.Commit = 4 ∷ 10 ∷ 11 ∷ 12 ∷ 13 ∷ 14 ∷ 15 ∷ 21 ∷ 22 ∷ 23 ∷ 28 ∷ 30 ∷ 31 ∷ 40 ∷ 41 ∷ 50 ∷ []
numbers_of kind.DropTicket = 10 ∷ 40 ∷ 41 ∷ []
numbers_of kind.ReadPiece = 4 ∷ 10 ∷ 23 ∷ 24 ∷ 28 ∷ 40 ∷ 41 ∷ []
numbers_of kind.Ask = 10 ∷ 40 ∷ 41 ∷ 50 ∷ []
numbers_of kind.Image = 10 ∷ 21 ∷ 25 ∷ 30 ∷ 31 ∷ 40 ∷ 41 ∷ 50 ∷ []
numbers_of kind.Reuse = 10 ∷ 12 ∷ 21 ∷ 31 ∷ 32 ∷ 40 ∷ 41 ∷ 50 ∷ []
numbers_of kind.Force = 40 ∷ 41 ∷ []

-- a step of the kind may be answered so
abbrev pub is_told : Kind → Option Refusal → Bool
is_told kind refused = option_map_or (has_number (numbers_of kind)) refused true

-- it was refused as such of an object that can't be moved or stored
abbrev pub fails_object : Option Refusal → Bool
fails_object refused = option_map_or is_of_object refused false

-- a count of such steps, behind one more
abbrev pub raised : ℕ → Option Refusal → ℕ
raised count refused = if fails_object refused && nat_lt count (2 ^ 64 - 1) then count + 1 else count
