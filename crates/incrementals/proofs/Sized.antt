-- What was read of the files that are committed.
use Rattle.std.proofs.Common.{◌≡◌, inl, inr, ℕ, List, [], ◌∷◌, ◌++◌, length, Option, None, Some, IfSome, Ok, ap, subst, sym, ◌∙◌}
use Rattle.sha2.specs.Sha256.{sha256}
use Rattle.kinds.specs.ValueForms.{digest_with}
use Rattle.kinds.specs.declared.segment.Digest.{Digest}
use Rattle.client_files.specs.declared.outcome.Came.{Came}
use Rattle.client_files.specs.declared.outcome.Came.TheVariants as came
use Rattle.client_files.specs.Outcomes.{IsFile}
use Rattle.client_files.specs.Reading.{file_of}
use Rattle.client_plan.specs.declared.lines.SendLine.{SendLine}
use Rattle.client_trees.specs.Files.{ClientFile, Files}
use Rattle.inventory_work.specs.declared.lines.Rules.{Rules}
use Rattle.steps.specs.Events.{Event}
use Rattle.client_batches.specs.Sends.{SendsEach, SendsOne}
use Rattle.client_batches.proofs.Sealed.{AreBehind, IsBehind}
use Rattle.incrementals.specs.Orders.{IsReadAs}

-- what is said of a file that is written
abbrev pub IsRead : Option Files → SendLine → Came → Type 0
IsRead told l (came.Written ticket digest) = IsReadAs told l digest
IsRead told l (came.Failed e) = Unit {0}
IsRead told l (came.Held holder) = Unit {0}

-- of each
abbrev pub AreRead : Option Files → List SendLine → List Came → Type 0
AreRead told [] all = Unit {0}
AreRead told (l ∷ lines) [] = Unit {0}
AreRead told (l ∷ lines) (c ∷ all) = IsRead told l c × AreRead told lines all

file-read : (file : Option ClientFile) (size : ℕ) (digest : Digest) (events : List Event) → IsFile file size digest events → IfSome file (λ f. (length f.bytes ≡ size) × (digest ≡ digest_with (sha256 f.bytes)))
file-read None size digest events h = tt
file-read (Some f) size digest events h = (ap length h.whole ∙ h.long, h.hash ∙ ap (λ (l : List ℕ). digest_with (sha256 l)) (sym h.whole))

one-read : (rules : Rules) (told : Option Files) (l : SendLine) (before after : ℕ) (events : List Event) (c : Came) → SendsOne rules told l before after events (Ok c) → IsRead told l c
one-read rules told l before after events (came.Written ticket digest) (inl h) = file-read (file_of told l.file.path) l.file.size digest events h.2.stored
one-read rules told l before after events (came.Written ticket digest) (inr (none, empty, same, is)) = absurd cc
one-read rules told l before after events (came.Failed e) h = tt
one-read rules told l before after events (came.Held holder) h = tt

none-read : (told : Option Files) (lines : List SendLine) → AreRead told lines []
none-read told [] = tt
none-read told (l ∷ lines) = tt

pub sends-read : (rules : Rules) (told : Option Files) (front back : List SendLine) (all : List Came) (before after : ℕ) (events : List Event) → SendsEach rules told front all before after events → AreRead told (front ++ back) all
sends-read rules told [] back [] before after events h = none-read told back
sends-read rules told [] back (c ∷ all) before after events h = absurd h
sends-read rules told (l ∷ front) back [] before after events h = absurd h
sends-read rules told (l ∷ front) back (c ∷ all) before after events (count, (xs, ys, cut, one, rest)) = (one-read rules told l before count xs c one, sends-read rules told front back all count after ys rest)

-- a seal changes nothing of what was read
seal-read : (told : Option Files) (l : SendLine) (c s : Came) → IsBehind c s → IsRead told l c → IsRead told l s
seal-read told l c s (inl is) read = subst (λ (x : Came). IsRead told l x) (sym is) read
seal-read told l c s (inr h) read = subst (λ (x : Came). IsRead told l x) (sym h.2) tt

pub seals-read : (told : Option Files) (lines : List SendLine) (all sealed : List Came) → AreBehind all sealed → AreRead told lines all → AreRead told lines sealed
seals-read told [] all sealed h read = tt
seals-read told (l ∷ lines) [] [] h read = tt
seals-read told (l ∷ lines) [] (s ∷ sealed) h read = absurd h
seals-read told (l ∷ lines) (c ∷ all) [] h read = absurd h
seals-read told (l ∷ lines) (c ∷ all) (s ∷ sealed) h read = (seal-read told l c s h.0 read.0, seals-read told lines all sealed h.1 read.1)
