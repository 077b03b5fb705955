-- The printed rows of an answer.
use Rattle.std.specs.Prelude.{ℕ, List, [], length}
use Rattle.inventory_answers.specs.declared.reply.Rows.{Rows}
use Rattle.inventory_answers.specs.declared.reply.Rows.TheVariants as rows
use Rattle.reports.specs.Pieces.{rows_of}
use Rattle.reports.specs.PolicyRows.{row_of_domain, row_of_set, row_of_class, row_of_group}
use Rattle.reports.specs.ClientRows.{row_of_node, row_of_filespace, row_of_version, row_of_archive}
use Rattle.reports.specs.StoreRows.{row_of_device, row_of_pool, row_of_volume, row_of_content, row_of_backup}

-- the lines of the rows, in their order; what the server's own processes ask, and the day alone, have no printed rows
abbrev pub printed_rows : ℕ → Rows → List ℕ
printed_rows line rows.Today = []
printed_rows line (rows.Domains lines) = rows_of row_of_domain line lines
printed_rows line (rows.Sets lines) = rows_of row_of_set line lines
printed_rows line (rows.Classes lines) = rows_of row_of_class line lines
printed_rows line (rows.Groups lines) = rows_of row_of_group line lines
printed_rows line (rows.Nodes lines) = rows_of row_of_node line lines
printed_rows line (rows.Filespaces lines) = rows_of row_of_filespace line lines
printed_rows line (rows.Devices lines) = rows_of row_of_device line lines
printed_rows line (rows.Pools lines) = rows_of row_of_pool line lines
printed_rows line (rows.Volumes lines) = rows_of row_of_volume line lines
printed_rows line (rows.Content lines) = rows_of row_of_content line lines
printed_rows line (rows.History lines) = rows_of row_of_backup line lines
printed_rows line (rows.Versions lines) = rows_of row_of_version line lines
printed_rows line (rows.Held lines) = rows_of row_of_archive line lines
printed_rows line (rows.Lookup found) = []
printed_rows line (rows.Rules rules) = []
printed_rows line (rows.OnPool copies) = []
printed_rows line (rows.OnVolume copies) = []
printed_rows line (rows.Missing objects) = []
printed_rows line (rows.Eligible files) = []
printed_rows line (rows.Unretained objects) = []
printed_rows line (rows.Emptied files) = []
printed_rows line (rows.LogBytes bytes) = []
printed_rows line (rows.Validated refusal) = []

-- how many rows are printed of an answer
abbrev pub row_count : Rows → ℕ
row_count rows.Today = 0
row_count (rows.Domains lines) = length lines
row_count (rows.Sets lines) = length lines
row_count (rows.Classes lines) = length lines
row_count (rows.Groups lines) = length lines
row_count (rows.Nodes lines) = length lines
row_count (rows.Filespaces lines) = length lines
row_count (rows.Devices lines) = length lines
row_count (rows.Pools lines) = length lines
row_count (rows.Volumes lines) = length lines
row_count (rows.Content lines) = length lines
row_count (rows.History lines) = length lines
row_count (rows.Versions lines) = length lines
row_count (rows.Held lines) = length lines
row_count (rows.Lookup found) = 0
row_count (rows.Rules rules) = 0
row_count (rows.OnPool copies) = 0
row_count (rows.OnVolume copies) = 0
row_count (rows.Missing objects) = 0
row_count (rows.Eligible files) = 0
row_count (rows.Unretained objects) = 0
row_count (rows.Emptied files) = 0
row_count (rows.LogBytes bytes) = 0
row_count (rows.Validated refusal) = 0
