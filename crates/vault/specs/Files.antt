-- In which files the vault keeps what it keeps: images in 0 and 1, and the log of the image in file i in file 2 + i.
use Rattle.std.specs.Prelude.{◌≡◌, ◌⊎◌, ℕ, ◌+◌, ◌<◌, ◌%◌}

-- the file of the image of this generation, and that of its log
abbrev pub image_file : ℕ → ℕ
image_file generation = generation % 2

abbrev pub log_file : ℕ → ℕ
log_file generation = 2 + generation % 2

-- one of the vault's files
abbrev pub IsOurs : ℕ → Type 0
IsOurs file = file < 4

-- one of the two files of a generation
abbrev pub IsOf : ℕ → ℕ → Type 0
IsOf generation file = (file ≡ image_file generation) ⊎ (file ≡ log_file generation)
