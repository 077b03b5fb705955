-- The files in memory, as a folder.
use Rattle.std.specs.Prelude.{◌&&◌, string_bytes}
use Rattle.files_api.specs.Folder.{Stage, away, made, kept, held, spoiled, Folder, Label}
use Rattle.mem_files.specs.declared.mem.MemFiles.{MemFiles}
use Rattle.mem_files.specs.declared.mem.MemHandle.{MemHandle}
use Rattle.mem_files.specs.declared.mem.At.{At}
use Rattle.mem_files.specs.declared.mem.At.TheVariants.{Away, Made, Kept, Held, Spoiled}
use Rattle.mem_files.specs.Entries.{file_in, all_at_rest}
use Rattle.mem_files.specs.Moves.{no_moves, moves_of}

abbrev pub stage_of : At → Stage
stage_of Away = away
stage_of Made = made
stage_of Kept = kept
stage_of Held = held
stage_of Spoiled = spoiled

abbrev pub folder_of : MemFiles → Folder
folder_of m = record { stage = stage_of m.at; is_settled = all_at_rest m.entries.items && no_moves m.moves.items; files = file_in m.entries.items; moves = moves_of m.moves.items }

-- what a handle is known by: its name alone
abbrev pub labelled : MemHandle → Label
labelled handle = record { name = string_bytes handle.name; turn = 0 }
