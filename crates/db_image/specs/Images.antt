-- An image of the database as whole bytes of a file: a gate, a mark, a number, the payload's length, and the payload.
use Rattle.std.specs.Prelude.{◌≡◌, ◌≢◌, ◌⊎◌, ℕ, ◌+◌, ◌<◌, ◌≤◌, ◌^◌, ◌%◌, codes, List, ◌∷◌, ◌++◌, length, take, drop}
use Rattle.std.specs.Int.{w64, to_be_bytes, from_be_bytes}
use Rattle.db_image.specs.declared.mark.Mark.{Mark}
use Rattle.db_image.specs.declared.mark.Mark.TheVariants.{Server, Backup}

-- the mark of a kind of image
abbrev pub mark_bytes : Mark → List ℕ
mark_bytes Server = codes "TSMIMG1"
mark_bytes Backup = codes "TSMDBB1"

-- what stands between the gate and the payload: the mark, the number, and how many bytes the payload has
unfoldable pub head_bytes : Mark → ℕ → ℕ → List ℕ
head_bytes mark number len = mark_bytes mark ++ (to_be_bytes w64 number ++ to_be_bytes w64 len)

-- all that stands behind the gate
abbrev pub body_bytes : Mark → ℕ → List ℕ → List ℕ
body_bytes mark number payload = head_bytes mark number (length payload) ++ payload

-- a whole image, with its gate open
abbrev pub image_bytes : Mark → ℕ → List ℕ → List ℕ
image_bytes mark number payload = 1 ∷ body_bytes mark number payload

-- A number that an image in this file may have: below 2^62, and a server's image of generation g stands in file g mod 2.
abbrev pub IsNumber : Mark → ℕ → ℕ → Type 0
IsNumber Server file number = (number < 2 ^ 62) × (number % 2 ≡ file)
IsNumber Backup file number = number < 2 ^ 62

-- A server's image of the last generation whose payload begins with the byte 1, as in the first form: no image can be written behind it.
abbrev pub IsSpent : Mark → ℕ → List ℕ → Type 0
IsSpent Server number behind = (number + 1 ≡ 2 ^ 62) × ((rest : List ℕ) × (behind ≡ 1 ∷ rest))
IsSpent Backup number behind = ⊥

-- no image of this number and payload is spent, whatever follows it
abbrev pub NeverSpent : Mark → ℕ → List ℕ → Type 0
NeverSpent mark number payload = (rest : List ℕ) → ¬ IsSpent mark number (payload ++ rest)

-- The bytes of the file begin with a head behind an open gate, and as many bytes follow as it says.
pub record HasHead (file : ℕ) (mark : Mark) (bytes : List ℕ) (number len : ℕ) : Type 0 where
  pub rest : List ℕ
  pub whole : bytes ≡ 1 ∷ (head_bytes mark number len ++ rest)
  pub allowed : IsNumber mark file number
  pub unspent : ¬ IsSpent mark number rest
  pub within : len ≤ length rest
  pub small : len < 2 ^ 64

-- The bytes of the file begin with an image of this number and payload.
pub record HasImage (file : ℕ) (mark : Mark) (bytes : List ℕ) (number : ℕ) (payload : List ℕ) : Type 0 where
  pub rest : List ℕ
  pub whole : bytes ≡ image_bytes mark number payload ++ rest
  pub allowed : IsNumber mark file number
  pub unspent : ¬ IsSpent mark number (payload ++ rest)
  pub small : length payload < 2 ^ 64

-- the number that stands behind the mark, and the length behind the number
abbrev pub number_in : List ℕ → ℕ
number_in rest = from_be_bytes w64 (take 8 (drop 7 rest))

abbrev pub len_in : List ℕ → ℕ
len_in rest = from_be_bytes w64 (take 8 (drop 15 rest))

-- Of what stands behind an open gate, where so many bytes are left, this is the first that is wrong: the mark (1), the number (8), also
-- where the image is spent, or the length, which leads past the end (16); each also where the bytes end before it does.
abbrev pub IsWrong : ℕ → Mark → ℕ → List ℕ → ℕ → Type 0
IsWrong file mark left rest at = ((at ≡ 1) × ((left < 7) ⊎ (take 7 rest ≢ mark_bytes mark)))
    ⊎ ((at ≡ 8) × (7 ≤ left) × (take 7 rest ≡ mark_bytes mark) × ((left < 15) ⊎ ((¬ IsNumber mark file (number_in rest)) ⊎ IsSpent mark (number_in rest) (drop 23 rest))))
    ⊎ ((at ≡ 16) × (15 ≤ left) × (take 7 rest ≡ mark_bytes mark) × IsNumber mark file (number_in rest) × (¬ IsSpent mark (number_in rest) (drop 23 rest)) × ((left < 23) ⊎ (left < 23 + len_in rest)))

-- an image is damaged at this place of the file: its gate is open, and this is the first that is wrong
pub record DamagedAt (file : ℕ) (mark : Mark) (bytes : List ℕ) (at : ℕ) : Type 0 where
  pub rest : List ℕ
  pub whole : bytes ≡ 1 ∷ rest
  pub wrong : IsWrong file mark (length rest) rest at
