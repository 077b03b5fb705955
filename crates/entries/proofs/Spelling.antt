-- What spells an entry.
use Rattle.std.proofs.Common.{◌≡◌, ℕ, List, [], Option, Some, None, sym, ◌∙◌}
use Rattle.std.proofs.lemmas.List.{append-nil}
use Rattle.std.specs.Prelude.{IfNone}
use Rattle.fields.specs.Editions.{Edition}
use Rattle.entries.specs.EntryForm.{entry_in, SpellsIn, IsAlone}
use Rattle.entries.specs.declared.entry.Entry.{Entry}

-- where no entry that fits has the bytes as its spelling, they spell none
pub none_spelled : (form : Edition) (o : Option Entry) (bytes : List ℕ) → IfNone o ((e : Entry) → (entry_in form).Fits e → bytes ≡ (entry_in form).spell e → ⊥) → IfNone o ((e : Entry) → SpellsIn form bytes e → ⊥)
none_spelled form None bytes h = λ e s. h e s.0 s.1
none_spelled form (Some x) bytes h = tt

-- where no other entry's spelling begins with these bytes, they spell no other
pub same_spelling : (form : Edition) (spelled bytes : List ℕ) (e own : Entry) → IsAlone form spelled own → bytes ≡ spelled → SpellsIn form bytes e → e ≡ own
same_spelling form spelled bytes e own alone same s = (alone e [] s.0 (append-nil spelled ∙ sym same ∙ s.1)).0
