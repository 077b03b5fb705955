-- What came of a file that was sent.
use Rattle.std.specs.Prelude.{◌≡◌, ℕ, ◌≤◌, List, length, Option, IfSome, Result, Ok}
use Rattle.sha2.specs.Sha256.{sha256}
use Rattle.kinds.specs.ValueForms.{digest_with}
use Rattle.kinds.specs.declared.refusal.Refusal.{Refusal}
use Rattle.kinds.specs.declared.segment.Digest.{Digest}
use Rattle.client_trees.specs.Files.{ClientFile}
use Rattle.steps.specs.Events.{Event}
use Rattle.client_files.specs.declared.outcome.Came.{Came}
use Rattle.client_files.specs.declared.outcome.Came.TheVariants as came
use Rattle.client_files.specs.Sending.{Sends, written}
use Rattle.client_files.specs.Writing.{Puts}

-- What these steps wrote is as long as was listed, has this SHA-256, and is the client's file, where its tree tells it.
pub record IsFile (file : Option ClientFile) (size : ℕ) (digest : Digest) (events : List Event) : Type 0 where
  pub long : length (written events) ≡ size
  pub hash : digest ≡ digest_with (sha256 (written events))
  pub whole : IfSome file (λ f. f.bytes ≡ written events)

abbrev pub Stores : Option ClientFile → (size : ℕ) → List Event → Result Came Refusal → Type 0
Stores file size events (Ok (came.Written ticket digest)) = IsFile file size digest events
Stores file size events _ = Unit {0}

-- A file was sent by these steps, in their order; and the ticket, which is sealed, has the file.
pub record Sending (file : Option ClientFile) (pool size before after : ℕ) (events : List Event) (result : Result Came Refusal) : Type 0 where
  pub order : Sends file pool size before after events result
  pub stored : Stores file size events result

-- A file was written by these steps, in their order, into a ticket that isn't sealed yet; the ticket has the file; and the tree's count of faults didn't fall.
pub record Writing (file : Option ClientFile) (pool size before after : ℕ) (events : List Event) (result : Result Came Refusal) : Type 0 where
  pub order : Puts file pool size before after events result
  pub stored : Stores file size events result
  pub rises : before ≤ after
