-- What is read of a client's file, whose length was listed.
use Rattle.std.specs.Prelude.{◌≡◌, ◌⊎◌, ℕ, ◌+◌, ◌-◌, ◌^◌, ◌<◌, ◌≤◌, min, List, length, take, drop, Option, IfSome, option_and_then, Result, Ok, Err}
use Rattle.kinds.specs.declared.refusal.Refusal.{Refusal}
use Rattle.kinds.specs.declared.refusal.Refusal.TheVariants.{Changed, TreeFault}
use Rattle.tree_api.specs.Cause.{Rose}
use Rattle.client_trees.specs.Files.{ClientFile, Files, file_at}

-- the client's file, where its tree tells it and it is there
abbrev pub file_of : Option Files → List ℕ → Option ClientFile
file_of told path = option_and_then (file_at path) told

-- a call on the tree failed, and its count of faults rose
abbrev pub TreeFails : (before after : ℕ) → Refusal → Type 0
TreeFails before after e = (e ≡ TreeFault) × Rose before after

-- the file ends at this place, below its listed length
abbrev pub EndsEarly : Option ClientFile → (at size : ℕ) → Refusal → Type 0
EndsEarly file at size e = (e ≡ Changed size at) × IfSome file (λ f. length f.bytes ≤ at)

-- the file has bytes behind its listed length, of which one was read
abbrev pub GoesOn : Option ClientFile → (size : ℕ) → Refusal → Type 0
GoesOn file size e = (e ≡ Changed size (min (size + 1) (2 ^ 64 - 1))) × IfSome file (λ f. size < length f.bytes)

-- The next bytes of a file, from the place on, stand at the front of the buffer: one at least, and none behind the listed length.
abbrev pub Reads : Option ClientFile → (at size : ℕ) → List ℕ → (before after : ℕ) → Result ℕ Refusal → Type 0
Reads file at size buffer before after (Ok count) =
    (1 ≤ count) × (count ≤ length buffer) × (at + count ≤ size) × IfSome file (λ f. take count buffer ≡ take count (drop at f.bytes))
Reads file at size buffer before after (Err e) = TreeFails before after e ⊎ EndsEarly file at size e

-- The file has no bytes behind its listed length.
abbrev pub Ended : Option ClientFile → (size : ℕ) → (before after : ℕ) → Result (Unit {0}) Refusal → Type 0
Ended file size before after (Ok done) = IfSome file (λ f. length f.bytes ≤ size)
Ended file size before after (Err e) = TreeFails before after e ⊎ GoesOn file size e
