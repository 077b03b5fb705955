-- What a stop may leave of entries that are made durable one after another, whatever they are and however a store keeps them.
-- Entries and stamps stand newest first. A stamp is the moment at which its entry was known to be durable.
use Rattle.std.specs.Prelude.{◌≡◌, ℕ, ◌+◌, ◌≤◌, nat_le, if◌then◌else◌, List, [], ◌∷◌, ◌++◌, length}
use Rattle.store_api.specs.Disk.{History, now, ImageAt}

-- how many entries were acknowledged by a moment: those whose stamps it has reached
abbrev pub acknowledged : ℕ → List ℕ → ℕ
acknowledged moment [] = 0
acknowledged moment (stamp ∷ stamps) = (if nat_le stamp moment then 1 else 0) + acknowledged moment stamps

-- The stamps lie between the moments, and none is later than the one before it in the list.
abbrev pub Timely : ℕ → ℕ → List ℕ → Type 0
Timely opened last [] = opened ≤ last
Timely opened last (stamp ∷ earlier) = (stamp ≤ last) × Timely opened stamp earlier

-- An image of the files is safe: it gives back the first so many of the entries and no more, at least as many as are asked.
pub record Safe {X : Type 0} (Gives : List X → (ℕ → List ℕ) → Type 0) (entries : List X) (count : ℕ) (image : ℕ → List ℕ) : Type 0 where
  pub later : List X
  pub earlier : List X
  pub parts : entries ≡ later ++ earlier
  pub durable : count ≤ length earlier
  pub gives : Gives earlier image

-- Each image that a stop may leave, at each moment from `opened` to now, is safe with what was acknowledged by that moment.
abbrev pub AllSafe : {X : Type 0} → (List X → (ℕ → List ℕ) → Type 0) → ℕ → List X → List ℕ → History → Type 0
AllSafe Gives opened entries stamps h =
    (moment : ℕ) (image : ℕ → List ℕ) → opened ≤ moment → moment ≤ now h → ImageAt h moment image → Safe Gives entries (acknowledged moment stamps) image
