-- What the calls that write a log do to the store.
use Rattle.std.specs.Prelude.{◌≡◌, ℕ, ◌+◌, List, [], ◌∷◌, ◌++◌, length, Result, OnOk}
use Rattle.std.specs.List.{AllByRecursion}
use Rattle.store_api.specs.Cause.{Rose}
use Rattle.store_api.specs.Disk.{History, Leaves, standing, now}
use Rattle.store_api.specs.Runs.{GoesOn, EachImage}
use Rattle.kinds.specs.declared.refusal.Refusal.{Refusal}
use Rattle.kinds.specs.declared.refusal.Refusal.TheVariants.{LogFault}
use Rattle.log_file.specs.Blocks.{Fits, blocks, LogEnds, EndsEither}
use Rattle.log_file.specs.Sure.{IsSure, HasWaiting, IsWritten}

-- An empty log was begun. On Ok no stop takes away that it is one.
pub record Created {T E : Type 0} (file : ℕ) (result : Result T E) (old new : History) : Type 0 where
  pub goes : GoesOn (λ other. other ≡ file) old new
  pub sure : OnOk result (IsSure new file [] 0)

-- A record was appended at `end`, behind those that were forced and those that weren't. On Ok it waits behind them. Whatever came of
-- it, no stop takes away the records that were forced, and each image of each moment since, and what a stop now leaves of the file, is
-- the log of them alone.
pub record Appended {E : Type 0} (file sure end : ℕ) (payload : List ℕ) (result : Result (Unit {0}) E) (old new : History) : Type 0 where
  pub goes : GoesOn (λ other. other ≡ file) old new
  pub waits : OnOk result ((payloads waiting : List (List ℕ)) → HasWaiting old file payloads waiting sure end → HasWaiting new file payloads (waiting ++ payload ∷ []) sure (end + (5 + length payload)))
  pub kept : (payloads waiting : List (List ℕ)) → HasWaiting old file payloads waiting sure end → IsSure new file payloads sure
  pub since : (payloads waiting : List (List ℕ)) → HasWaiting old file payloads waiting sure end → EachImage (now old) new (λ image. LogEnds (image file) payloads)

-- What waited was made durable. On Ok no stop takes any of it away. Whatever came of it, each image of each moment since, and what a
-- stop now leaves of the file, is the log with none of what waited or with all of it.
pub record Forced {E : Type 0} (file sure end : ℕ) (result : Result (Unit {0}) E) (old new : History) : Type 0 where
  pub goes : GoesOn (λ other. other ≡ file) old new
  pub durable : OnOk result ((payloads waiting : List (List ℕ)) → HasWaiting old file payloads waiting sure end → IsSure new file (payloads ++ waiting) end)
  pub since : (payloads waiting : List (List ℕ)) → HasWaiting old file payloads waiting sure end → EachImage (now old) new (λ image. EndsEither (image file) payloads waiting)
  pub left : (payloads waiting : List (List ℕ)) → HasWaiting old file payloads waiting sure end → (left : List ℕ) → Leaves (standing new file) left → EndsEither left payloads waiting

-- Records were written behind those that are there, each with its gate open.
pub record Copied {E : Type 0} (file end : ℕ) (batch : List ℕ) (result : Result (Unit {0}) E) (old new : History) : Type 0 where
  pub goes : GoesOn (λ other. other ≡ file) old new
  pub written : OnOk result ((payloads more : List (List ℕ)) → IsWritten old file payloads end → batch ≡ blocks more → AllByRecursion Fits more → IsWritten new file (payloads ++ more) (end + length batch))

-- All that was written was made durable.
pub record Sealed {E : Type 0} (file end : ℕ) (result : Result (Unit {0}) E) (old new : History) : Type 0 where
  pub goes : GoesOn (λ other. other ≡ file) old new
  pub sure : OnOk result ((payloads : List (List ℕ)) → IsWritten old file payloads end → IsSure new file payloads end)

-- a refusal to write, by a call in which the file's count of faults rose: it names the file and the count
pub record Faulted (file : ℕ) (before after : ℕ → ℕ) (refusal : Refusal) : Type 0 where
  pub refused : refusal ≡ LogFault file (after file)
  pub rose : Rose (before file) (after file)
