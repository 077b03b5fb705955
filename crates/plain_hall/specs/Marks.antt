-- What marks of a run's transactions tell; the newest stand first.
use Rattle.std.specs.Prelude.{ℕ, ◌==◌, ◌&&◌, List, Option}
use Rattle.std.specs.List.{find}
use Rattle.std.specs.Option.{option_map}
use Rattle.kinds.specs.Names.{is_same_name}
use Rattle.plain_hall.specs.declared.told.CopyMark.{CopyMark}
use Rattle.plain_hall.specs.declared.told.ObjectMark.{ObjectMark}
use Rattle.plain_hall.specs.declared.told.PathMark.{PathMark}

-- the newest transaction with a mark of the object
abbrev pub of_object : ℕ → List ObjectMark → Option ℕ
of_object object marks = option_map (λ m. m.number) (find (λ m. m.object == object) marks)

-- of its copy in a pool
abbrev pub of_copy : ℕ → ℕ → List CopyMark → Option ℕ
of_copy object pool marks = option_map (λ m. m.number) (find (λ m. m.object == object && m.pool == pool) marks)

-- of a path
abbrev pub of_path : ℕ → List ℕ → List PathMark → Option ℕ
of_path filespace path marks = option_map (λ m. m.number) (find (λ m. m.filespace == filespace && is_same_name m.path path) marks)
