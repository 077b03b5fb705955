-- The bytes of numbered files, and the room that is kept for them.
use Rattle.std.specs.Prelude.{ℕ, ◌+◌, List, [], ◌∷◌, length, Option, None, Some, vec_capacity}
use Rattle.std.specs.Ordering.{nat_cmp}
use Rattle.std.specs.BTreeMap.{get}
use Rattle.std.specs.declared.alloc.Global.{Global}
use Rattle.std.specs.declared.vec.Vec.{Vec}
use Rattle.mem_store.specs.declared.files.Files.{Files}

-- the bytes of a file that may not be there
abbrev pub bytes_in : Option (Vec ℕ Global) → List ℕ
bytes_in None = []
bytes_in (Some v) = v.items

-- the bytes that it has room for
abbrev pub room_in : Option (Vec ℕ Global) → ℕ
room_in None = 0
room_in (Some v) = vec_capacity v

-- what a file holds; one that was never written holds nothing
abbrev pub content_of : Files → ℕ → List ℕ
content_of files file = bytes_in (get nat_cmp files.map file)

abbrev pub room_of : Files → ℕ → ℕ
room_of files file = room_in (get nat_cmp files.map file)

-- where a write of these bytes ends; one of no bytes reaches nowhere
abbrev pub reach : ℕ → List ℕ → ℕ
reach at [] = 0
reach at (b ∷ bytes) = at + length (b ∷ bytes)
