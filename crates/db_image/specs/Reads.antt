-- What reading an image finds.
use Rattle.std.specs.Prelude.{◌≡◌, ℕ, ◌-◌, List, ◌∷◌, ◌++◌, Option, None, Some, Result, Ok, Err, Vec}
use Rattle.std.specs.declared.alloc.Global.{Global}
use Rattle.kinds.specs.declared.refusal.OpenRefused.{OpenRefused}
use Rattle.kinds.specs.declared.refusal.OpenRefused.TheVariants.{ReadFault, NotFormatted, Damaged, RunFull, Memory}
use Rattle.log_file.specs.Blocks.{IsClosed}
use Rattle.db_image.specs.declared.mark.Mark.{Mark}
use Rattle.db_image.specs.declared.head.Head.{Head}
use Rattle.db_image.specs.Images.{head_bytes, IsNumber, IsSpent, IsWrong, HasHead, HasImage, DamagedAt}

-- Where a refusal says that what stands behind an open gate is damaged, this is the first of it that is wrong, so many bytes being left there.
abbrev pub WrongIn : ℕ → Mark → ℕ → List ℕ → OpenRefused → Type 0
WrongIn file mark left rest (Damaged which at) = (which ≡ file) × IsWrong file mark left rest at
WrongIn file mark left rest (ReadFault which) = ⊥
WrongIn file mark left rest NotFormatted = ⊥
WrongIn file mark left rest RunFull = ⊥
WrongIn file mark left rest Memory = ⊥

-- what stands first behind an open gate, so many bytes being left there: a head that isn't spent, whose payload lies within the file, or what is wrong
abbrev pub RestGives : ℕ → Mark → List ℕ → ℕ → Result Head OpenRefused → Type 0
RestGives file mark rest left (Ok found) = (behind : List ℕ) × (rest ≡ head_bytes mark found.number found.len ++ behind) × IsNumber mark file found.number × ¬ IsSpent mark found.number behind
RestGives file mark rest left (Err refusal) = WrongIn file mark left rest refusal

-- what the first bytes of a file of this length say: no open gate, or a head, or what is wrong behind an open gate
abbrev pub HeadGives : ℕ → Mark → List ℕ → ℕ → Result (Option Head) OpenRefused → Type 0
HeadGives file mark bytes len (Ok None) = IsClosed bytes
HeadGives file mark bytes len (Ok (Some found)) = (behind : List ℕ) × (bytes ≡ 1 ∷ (head_bytes mark found.number found.len ++ behind)) × IsNumber mark file found.number × ¬ IsSpent mark found.number behind
HeadGives file mark bytes len (Err refusal) = (rest : List ℕ) × (bytes ≡ 1 ∷ rest) × WrongIn file mark (len - 1) rest refusal

-- a refusal that says that the file is damaged says where
abbrev pub SaysDamage : ℕ → Mark → List ℕ → OpenRefused → Type 0
SaysDamage file mark bytes (Damaged which at) = (which ≡ file) × DamagedAt file mark bytes at
SaysDamage file mark bytes (ReadFault which) = Unit {0}
SaysDamage file mark bytes NotFormatted = Unit {0}
SaysDamage file mark bytes RunFull = Unit {0}
SaysDamage file mark bytes Memory = Unit {0}

-- what the bytes of a file are found to begin with: a shut gate, a head, or damage
abbrev pub FindsHead : ℕ → Mark → List ℕ → Result (Option Head) OpenRefused → Type 0
FindsHead file mark bytes (Ok None) = IsClosed bytes
FindsHead file mark bytes (Ok (Some found)) = HasHead file mark bytes found.number found.len
FindsHead file mark bytes (Err refusal) = SaysDamage file mark bytes refusal

-- the same of a whole image
abbrev pub FindsImage : ℕ → Mark → List ℕ → Result (Option (ℕ × Vec ℕ Global)) OpenRefused → Type 0
FindsImage file mark bytes (Ok None) = IsClosed bytes
FindsImage file mark bytes (Ok (Some found)) = HasImage file mark bytes found.0 found.1.items
FindsImage file mark bytes (Err refusal) = SaysDamage file mark bytes refusal
