use Rattle.std.proofs.Common.{◌+◌, List, ℕ, map, string_bytes, sym, ap, subst}
use Rattle.mem_files.specs.Entries.{IsFile}
use Rattle.mem_files.specs.Lists.{Listed}
use Rattle.mem_files.proofs.Listing.{listed_none, listed_same, listed_more, listed_all}
use Rattle.mem_files.proofs.list.names_of.Goals.{then-is_file_at+in_ok-add_name, else-is_file_at}
use Rattle.mem_files.proofs.list.names_of.Goals as goal

pub entries-init : goal.entries-init
entries-init c = subst (λ (names : List (List ℕ)). Listed 0 c.args.entries.now names) (sym (ap (map string_bytes) c.new-names.ensures.items)) (listed_none c.args.entries.now)

pub entries-preserved : goal.entries-preserved
entries-preserved c = elim c.if-is_file_at.branch [
  | then-is_file_at+in_ok-add_name w ↦ subst (λ names. Listed (c.entries.at + 1) c.args.entries.now (map string_bytes names.items)) (sym w.names-is)
      (subst (λ (names : List (List ℕ)). Listed (c.entries.at + 1) c.args.entries.now names) (sym w.in_ok-add_name.ensures)
      (listed_more c.entries.at c.args.entries.now (map string_bytes c.entries.names.items) w.as_str.result.now
      (subst (λ (name : List ℕ). IsFile c.args.entries.now name c.entries.at) (sym w.as_str.ensures.value) (w.if-is_file_at.ensures w.index-entries-at.result)) c.entries.invariant))
  | else-is_file_at w ↦ subst (λ names. Listed (c.entries.at + 1) c.args.entries.now (map string_bytes names.items)) (sym w.names-is)
      (listed_same c.entries.at c.args.entries.now (map string_bytes c.entries.names.items) w.if-is_file_at.ensures c.entries.invariant)
]

pub returns : goal.returns
returns c = listed_all c.entries.at c.args.entries.now (map string_bytes c.entries.names.items) c.entries-test.false c.entries.invariant
