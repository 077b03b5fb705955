use Rattle.std.specs.Prelude.{ℕ, ◌-◌, Bool, ◌&&◌, not, nat_le, nat_eq, List, ◌++◌, length, drop, replicate, codes, decimal, if◌then◌else◌}
use Rattle.std.specs.List.{starts_with, list_all}
use Rattle.std.specs.Char.{is_ascii_digit}
use Rattle.volume_rows.specs.declared.volume.Volume.{Volume}
use Rattle.volume_rows.specs.kinds.Names.{is_same_name}

-- the number in decimal digits, eight or more
abbrev pub eight_digits : ℕ → List ℕ
eight_digits n = replicate (8 - length (decimal n)) 48 ++ decimal n

-- the name of the scratch volume with this file number
abbrev pub scratch_name : ℕ → List ℕ
scratch_name file = codes "SCR" ++ eight_digits file

-- a name that only scratch volumes have: SCR and eight or more digits
abbrev pub is_scratch_name : List ℕ → Bool
is_scratch_name name = starts_with nat_eq name (codes "SCR") && nat_le 8 (length (drop 3 name)) && list_all is_ascii_digit (drop 3 name)

abbrev pub volume_name : Volume → List ℕ
volume_name v = v.name

-- a scratch volume has the name of its file number, and no other volume a name that only scratch volumes have
abbrev pub is_rightly_named : ℕ → Volume → Bool
is_rightly_named file v = if v.scratch then is_same_name v.name (scratch_name file) else not (is_scratch_name v.name)

-- each volume is
abbrev pub are_rightly_named : List (ℕ × Volume) → Bool
are_rightly_named volumes = list_all (λ e. is_rightly_named e.0 e.1) volumes
