-- The files that are open.
use Rattle.std.specs.Prelude.{◌≡◌, All}
use Rattle.real_edge.specs.Names.{file_label}
use Rattle.real_edge.specs.declared.pool.Opened.{Opened}
use Rattle.real_edge.specs.declared.pool.Pool.{Pool}
use Rattle.files_api.specs.Folder.{Label}

-- each handle is that of the file whose number stands beside it
abbrev pub AreNamed : {H : Type 0} → (H → Label) → Pool H → Type 0
AreNamed {H} label_of pool = All (λ (opened : Opened H). label_of opened.handle ≡ file_label opened.file) pool.open.items
