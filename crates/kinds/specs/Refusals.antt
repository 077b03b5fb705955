use Rattle.std.specs.Prelude.{ℕ, ◌+◌, Bool, true, false, nat_lt, if◌then◌else◌, List, [], ◌∷◌, Option, Some, None, Result, Ok, Err}
use Rattle.kinds.specs.declared.refusal.Refusal.{Refusal}
use Rattle.kinds.specs.declared.refusal.Refusal.TheVariants.{Syntax, UnknownWord, Ambiguous, BadValue, NotFound, Exists, InUse, NoDefaultClass, BadHierarchy, DayBack, NoBackupGroup, NoArchiveGroup, NoSpace, Busy, Stale, Gone, Unavailable, WriteFault, TreeFault, Changed, DigestDiffers, TooLarge, RecordFull, InventoryFull, NotYet, LogFault, RunFull, Memory}

-- the number under which a refusal is printed
abbrev pub number_of : Refusal → ℕ
number_of (Syntax _) = 1
number_of (UnknownWord _) = 2
number_of (Ambiguous _) = 3
number_of (BadValue _) = 4
number_of NotFound = 10
number_of Exists = 11
number_of (InUse _) = 12
number_of NoDefaultClass = 13
number_of BadHierarchy = 14
number_of (DayBack _ _) = 15
number_of NoBackupGroup = 16
number_of NoArchiveGroup = 17
number_of (NoSpace _) = 20
number_of (Busy _) = 21
number_of (Stale _) = 22
number_of (Gone _) = 23
number_of Unavailable = 24
number_of (WriteFault _) = 25
number_of TreeFault = 26
number_of (Changed _ _) = 27
number_of (DigestDiffers _ _) = 28
number_of TooLarge = 29
number_of RecordFull = 30
number_of InventoryFull = 31
number_of (NotYet _ _) = 32
number_of (LogFault _ _) = 40
number_of RunFull = 41
number_of Memory = 50

-- the order in which refusals that hold at a call's start are answered: a full run, a halted hall, a size that no object
-- may have, and then by ascending number
abbrev pub place_of : Refusal → ℕ
place_of RunFull = 0
place_of (LogFault _ _) = 1
place_of TooLarge = 2
place_of e = number_of e + 2

-- of two refusals that hold, the one that is answered: the first, unless the other comes before it in the order
abbrev pub sooner : Refusal → Refusal → Refusal
sooner a b = if nat_lt (place_of b) (place_of a) then b else a

-- of refusals of which some may hold, the one that is answered
abbrev pub sooner_of : Option Refusal → Option Refusal → Option Refusal
sooner_of None b = b
sooner_of (Some a) None = Some a
sooner_of (Some a) (Some b) = Some (sooner a b)

-- of all the refusals that hold, in the order of their causes, the one that is answered
abbrev pub foremost : List Refusal → Option Refusal
foremost [] = None
foremost (e ∷ es) = sooner_of (Some e) (foremost es)

-- the refusal, unless the test holds
abbrev pub unless : Bool → Refusal → List Refusal
unless true e = []
unless false e = e ∷ []

-- a value that was given is not as it has to be, and no word of a line has it
abbrev pub bad_value : Refusal
bad_value = BadValue 0

-- the refusal that a change of rows gives
abbrev pub refusal_of : {S : Type 0} → Result S Refusal → List Refusal
refusal_of (Ok _) = []
refusal_of (Err e) = e ∷ []

-- the refusal that names what uses a thing
abbrev pub used_by : {X : Type 0} → (X → Refusal) → Option X → List Refusal
used_by name None = []
used_by name (Some x) = name x ∷ []
