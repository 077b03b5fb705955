-- How a refusal is printed: its number, its word, and its fields, each behind a space.
use Rattle.std.specs.Prelude.{ℕ, List, [], ◌++◌, codes, decimal}
use Rattle.kinds.specs.Refusals.{number_of}
use Rattle.kinds.specs.declared.refusal.By.{By}
use Rattle.kinds.specs.declared.refusal.By.TheVariants.{Node, Pool, Volume, Filespace, Object, Ticket, Tree, Destination}
use Rattle.kinds.specs.declared.refusal.Holder.{Holder}
use Rattle.kinds.specs.declared.refusal.Holder.TheVariants as holders
use Rattle.kinds.specs.declared.refusal.Refusal.{Refusal}
use Rattle.kinds.specs.declared.refusal.Refusal.TheVariants.{Syntax, UnknownWord, Ambiguous, BadValue, NotFound, Exists, InUse, NoDefaultClass, BadHierarchy, DayBack, NoBackupGroup, NoArchiveGroup, NoSpace, Busy, Stale, Gone, Unavailable, WriteFault, TreeFault, Changed, DigestDiffers, TooLarge, RecordFull, InventoryFull, NotYet, LogFault, RunFull, Memory}
use Rattle.reports.specs.Pieces.{digits}

-- the word of a refusal
abbrev pub word_of : Refusal → List ℕ
word_of (Syntax _) = codes "Syntax"
word_of (UnknownWord _) = codes "UnknownWord"
word_of (Ambiguous _) = codes "Ambiguous"
word_of (BadValue _) = codes "BadValue"
word_of NotFound = codes "NotFound"
word_of Exists = codes "Exists"
word_of (InUse _) = codes "InUse"
word_of NoDefaultClass = codes "NoDefaultClass"
word_of BadHierarchy = codes "BadHierarchy"
word_of (DayBack _ _) = codes "DayBack"
word_of NoBackupGroup = codes "NoBackupGroup"
word_of NoArchiveGroup = codes "NoArchiveGroup"
word_of (NoSpace _) = codes "NoSpace"
word_of (Busy _) = codes "Busy"
word_of (Stale _) = codes "Stale"
word_of (Gone _) = codes "Gone"
word_of Unavailable = codes "Unavailable"
word_of (WriteFault _) = codes "WriteFault"
word_of TreeFault = codes "TreeFault"
word_of (Changed _ _) = codes "Changed"
word_of (DigestDiffers _ _) = codes "DigestDiffers"
word_of TooLarge = codes "TooLarge"
word_of RecordFull = codes "RecordFull"
word_of InventoryFull = codes "InventoryFull"
word_of (NotYet _ _) = codes "NotYet"
word_of (LogFault _ _) = codes "LogFault"
word_of RunFull = codes "RunFull"
word_of Memory = codes "Memory"

-- a number behind a space
abbrev pub number_field : ℕ → List ℕ
number_field n = codes " " ++ decimal n

-- two numbers, each behind a space
abbrev pub number_fields : ℕ → ℕ → List ℕ
number_fields first second = codes " " ++ decimal first ++ codes " " ++ decimal second

-- what stands in the way: a word, and its number
abbrev pub by_field : By → List ℕ
by_field (Node number) = codes " NODE " ++ decimal number
by_field (Pool number) = codes " POOL " ++ decimal number
by_field (Volume number) = codes " VOLUME " ++ decimal number
by_field (Filespace number) = codes " FILESPACE " ++ decimal number
by_field (Object number) = codes " OBJECT " ++ decimal number
by_field (Ticket number) = codes " TICKET " ++ decimal number
by_field (Tree number) = codes " TREE " ++ decimal number
by_field Destination = codes " DESTINATION"

-- who holds what has to be waited for: a word, and its number
abbrev pub holder_field : Holder → List ℕ
holder_field (holders.Ticket number) = codes " TICKET " ++ decimal number
holder_field (holders.Image number) = codes " IMAGE " ++ decimal number
holder_field (holders.Unforced number) = codes " UNFORCED " ++ decimal number

-- the fields of a refusal; a digest is in hexadecimal digits
abbrev pub fields_of : Refusal → List ℕ
fields_of (Syntax at) = number_field at
fields_of (UnknownWord at) = number_field at
fields_of (Ambiguous at) = number_field at
fields_of (BadValue at) = number_field at
fields_of NotFound = []
fields_of Exists = []
fields_of (InUse by_what) = by_field by_what
fields_of NoDefaultClass = []
fields_of BadHierarchy = []
fields_of (DayBack today given) = number_fields today given
fields_of NoBackupGroup = []
fields_of NoArchiveGroup = []
fields_of (NoSpace pool) = number_field pool
fields_of (Busy holder) = holder_field holder
fields_of (Stale seq) = number_field seq
fields_of (Gone seq) = number_field seq
fields_of Unavailable = []
fields_of (WriteFault file) = number_field file
fields_of TreeFault = []
fields_of (Changed listed read) = number_fields listed read
fields_of (DigestDiffers kept given) = codes " " ++ digits kept ++ codes " " ++ digits given
fields_of TooLarge = []
fields_of RecordFull = []
fields_of InventoryFull = []
fields_of (NotYet file day) = number_fields file day
fields_of (LogFault file count) = number_fields file count
fields_of RunFull = []
fields_of Memory = []

-- what is printed of a refusal behind REFUSED, and of a failed file behind its path
abbrev pub refusal_text : Refusal → List ℕ
refusal_text e = codes " " ++ decimal (number_of e) ++ codes " " ++ word_of e ++ fields_of e
