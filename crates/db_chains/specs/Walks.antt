-- How the files of a chain are gone through: back from the backup that is asked for to the one that holds a whole database, and forward again.
use Rattle.std.specs.Prelude.{◌≡◌, ◌≢◌, ◌⊎◌, ℕ, ◌<◌, ◌≤◌, ◌==◌, if◌then◌else◌, List, [], ◌∷◌, ◌++◌, Option, None, Some, Result, Ok, Err, IfOk, IfErr, OnOk, Vec}
use Rattle.std.specs.declared.alloc.Global.{Global}
use Rattle.std.specs.List.{AllByRecursion}
use Rattle.store_api.specs.Disk.{History, standing, reads, settled}
use Rattle.store_api.specs.Runs.{GoesOn}
use Rattle.entries.specs.Meaning.{Meaning}
use Rattle.backup_payloads.specs.Increments.{Increment, IsIncrement}
use Rattle.backup_payloads.specs.declared.payload.Payload.{Payload}
use Rattle.backup_payloads.specs.declared.payload.Payload.TheVariants.{Whole, Since}
use Rattle.db_chains.specs.declared.refused.ChainRefused.{ChainRefused}
use Rattle.db_chains.specs.declared.refused.ChainRefused.TheVariants as refused
use Rattle.db_chains.specs.declared.backup.Kind.{Kind}
use Rattle.db_chains.specs.declared.backup.Kind.TheVariants as kind
use Rattle.db_chains.specs.declared.back.Link.{Link}
use Rattle.db_chains.specs.declared.back.Step.{Step}
use Rattle.db_chains.specs.declared.back.Step.TheVariants.{Base, Back}
use Rattle.db_chains.specs.Chains.{IsBackup, NoBackup, Follows, Gives, FailsAt}
use Rattle.db_chains.specs.Reads.{OnlySettles, AreSettled, SaysBroken}

-- the links lead from a file to another one: each is of a backup that follows the one in the next file
abbrev pub Leads : {D : Type 0} → Meaning D → (ℕ → List ℕ) → ℕ → List Link → ℕ → Type 0
Leads m files file [] at = at ≡ file
Leads m files file (l ∷ links) at = (l.file ≡ file) × ((i : Increment) × IsIncrement l.payload.items i × Follows m files file i × Leads m files i.after links at)

-- a backup of this number is asked for, by the backup in the first file
abbrev pub IsAsked : ℕ → Option (ℕ × ℕ) → Type 0
IsAsked number None = Unit {0}
IsAsked number (Some asked) = number ≡ asked.1

-- the last link is of a backup in this file that names that file and number
pub record Names {D : Type 0} (m : Meaning D) (files : ℕ → List ℕ) (l : Link) (follower after base : ℕ) : Type 0 where
  pub increment : Increment
  pub number : ℕ
  pub file : l.file ≡ follower
  pub payload : IsIncrement l.payload.items increment
  pub backup : IsBackup m files follower number (Since increment)
  pub before : after < follower
  pub is_after : increment.after ≡ after
  pub is_base : increment.number ≡ base

-- the links lead from a file to the one that is looked at next; what the last of them says of that one isn't known to be so yet
abbrev pub LeadsOn : {D : Type 0} → Meaning D → (ℕ → List ℕ) → ℕ → List Link → ℕ → Option (ℕ × ℕ) → Type 0
LeadsOn m files file links at None = (links ≡ []) × (at ≡ file)
LeadsOn m files file links at (Some asked) = (front : List Link) × (l : Link) × (links ≡ front ++ l ∷ []) × Leads m files file front asked.0 × Names m files l asked.0 at asked.1

-- the file whose backup asks for another number, where there is one
abbrev pub strayed : Option (ℕ × ℕ) → ℕ → Option ℕ
strayed None number = None
strayed (Some asked) number = if number == asked.1 then None else Some asked.0

-- the next file to look at has a smaller number
abbrev pub IsFurther : {D : Type 0} → ℕ → Step D → Type 0
IsFurther at (Base d) = Unit {0}
IsFurther at (Back after base) = after < at

-- what is found in a file becomes a step: the database, or the link of an increment that follows a file of a smaller number
abbrev pub TakenAs : {D : Type 0} → ℕ → Kind D → Vec ℕ Global → List Link → List Link → Result (Step D) ChainRefused → Type 0
TakenAs at (kind.Whole d) payload links next result = (result ≡ Ok (Base d)) × (next ≡ links)
TakenAs at (kind.Since after base) payload links next (Ok step) = (step ≡ Back after base) × (after < at) × (next ≡ links ++ record { file = at; payload = payload } ∷ [])
TakenAs at (kind.Since after base) payload links next (Err why) = ((why ≡ refused.NotABackup at) × (at ≤ after)) ⊎ (why ≡ refused.Memory)

-- what a file that is looked at is: the whole database, or one link more
abbrev pub StepsTo : {D : Type 0} → Meaning D → (ℕ → List ℕ) → ℕ → Option (ℕ × ℕ) → List Link → Step D → List Link → Type 0
StepsTo m files at asked links (Base d) next = (number : ℕ) × IsBackup m files at number (Whole d) × IsAsked number asked × (next ≡ links)
StepsTo m files at asked links (Back after base) next = (l : Link) × (named : Names m files l at after base) × IsAsked named.number asked × (next ≡ links ++ l ∷ [])

-- the backup in the file has another number than the one that is asked for, by a backup in this file
abbrev pub IsOther : {D : Type 0} → Meaning D → (ℕ → List ℕ) → ℕ → Option (ℕ × ℕ) → ℕ → Type 0
IsOther m files at None which = ⊥
IsOther {D} m files at (Some asked) which = (which ≡ asked.0) × ((number : ℕ) × (held : Payload D) × IsBackup m files at number held × (number ≢ asked.1))

-- the file has no backup, or one of the number that is asked for that follows one in a file of no smaller number
abbrev pub IsLast : {D : Type 0} → Meaning D → (ℕ → List ℕ) → ℕ → Option (ℕ × ℕ) → Type 0
IsLast m files at asked = NoBackup m files at ⊎ ((number : ℕ) × (i : Increment) × IsBackup m files at number (Since i) × IsAsked number asked × (at ≤ i.after))

-- a refusal that names a file names this one, for what it is, or the one by which it was asked for
abbrev pub SaysStray : {D : Type 0} → Meaning D → (ℕ → List ℕ) → ℕ → Option (ℕ × ℕ) → ChainRefused → Type 0
SaysStray m files at asked (refused.NotABackup which) = ((which ≡ at) × IsLast m files at asked) ⊎ IsOther m files at asked which
SaysStray m files at asked (refused.ReadFault which) = Unit {0}
SaysStray m files at asked refused.RunFull = Unit {0}
SaysStray m files at asked refused.Memory = Unit {0}

-- One file was looked at, going back.
pub record StepsBack {D : Type 0} (m : Meaning D) (at : ℕ) (asked : Option (ℕ × ℕ)) (links next : List Link) (result : Result (Step D) ChainRefused) (old new : History) : Type 0 where
  pub goes : GoesOn (λ other. other ≡ at) old new
  pub settles : OnlySettles old new
  pub durable : OnOk result (standing new at ≡ settled (reads old at))
  pub steps : IfOk result (λ step. StepsTo m (reads old) at asked links step next)
  pub says : IfErr result (SaysStray m (reads old) at asked)

-- the file of a link is on the disk as it reads
abbrev pub IsLinkSettled : History → Link → Type 0
IsLinkSettled h l = standing h l.file ≡ settled (reads h l.file)

-- on the way back: the links that were found, whose files are on the disk
pub record GoesBack {D : Type 0} (m : Meaning D) (file : ℕ) (links : List Link) (at : ℕ) (asked : Option (ℕ × ℕ)) (old new : History) : Type 0 where
  pub settles : OnlySettles old new
  pub leads : LeadsOn m (reads old) file links at asked
  pub settled : AllByRecursion (IsLinkSettled new) links

-- the links lead from a file to one that gives this database, and the files of all are on the disk
pub record LeadsTo {D : Type 0} (m : Meaning D) (file : ℕ) (links : List Link) (d : D) (old new : History) : Type 0 where
  pub at : ℕ
  pub number : ℕ
  pub increments : List Increment
  pub leads : Leads m (reads old) file links at
  pub links_settled : AllByRecursion (IsLinkSettled new) links
  pub gives : Gives m (reads old) at number increments d
  pub settled : AreSettled at increments new

-- The way back was gone to its end.
pub record WentBack {D : Type 0} (m : Meaning D) (file : ℕ) (links : List Link) (result : Result D ChainRefused) (old new : History) : Type 0 where
  pub settles : OnlySettles old new
  pub leads : IfOk result (λ d. LeadsTo m file links d old new)
  pub says : IfErr result (SaysBroken m (reads old) file)

-- Links that lead from a file to one that gives a database were gone forward: fewer links lead from it to one that gives this database; and what is on the disk stays so.
pub record IsAhead {D : Type 0} (m : Meaning D) (files : ℕ → List ℕ) (file : ℕ) (links : List Link) (from : ℕ) (passed : List Increment) (rest : List Link) (d : D) : Type 0 where
  pub at : ℕ
  pub number : ℕ
  pub increments : List Increment
  pub leads : Leads m files file rest at
  pub gives : Gives m files at number increments d
  pub settled : (h : History) → AllByRecursion (IsLinkSettled h) links → AreSettled from passed h → AllByRecursion (IsLinkSettled h) rest × AreSettled at increments h

-- the same, wherever the links lead from and to
abbrev pub Comes : {D : Type 0} → Meaning D → List Link → D → List Link → D → Type 0
Comes m links base rest d =
    (files : ℕ → List ℕ) (file from number : ℕ) (passed : List Increment) → Leads m files file links from → Gives m files from number passed base → IsAhead m files file links from passed rest d

-- what going forward comes to: a database, or the file with a record that is no transaction which may be made there
abbrev pub GoesForward : {D : Type 0} → Meaning D → List Link → D → Result D ChainRefused → Type 0
GoesForward m links base (Ok d) = Comes m links base [] d
GoesForward m links base (Err (refused.NotABackup which)) =
    (files : ℕ → List ℕ) (file from number : ℕ) (passed : List Increment) → Leads m files file links from → Gives m files from number passed base → (other : ℕ) × (increments : List Increment) × FailsAt m files file other increments which
GoesForward m links base (Err (refused.ReadFault which)) = ⊥
GoesForward m links base (Err refused.RunFull) = ⊥
GoesForward m links base (Err refused.Memory) = Unit {0}
