-- What a journal tells with one transaction more.
use Rattle.std.proofs.Common.{◌≡◌, ℕ, Bool, true, false, List, [], ◌∷◌, ◌++◌, Option, Some, None, refl, ap, ◌∙◌}
use Rattle.std.proofs.Math.Path.{fun_ext}
use Rattle.std.specs.Option.{option_or}
use Rattle.std.specs.Prelude.{if◌then◌else◌}
use Rattle.entries.specs.declared.entry.Entry.{Entry}
use Rattle.inventory_rows.specs.State.{Inv}
use Rattle.inventory_rules.specs.Journal.{Journal}
use Rattle.inventory_rules.specs.Run.{is_changed, is_copy_changed, is_emptied, is_removed, journal_of, last_of}
use Rattle.inventory_rules.specs.Transactions.{effect}
use Rattle.run_past.specs.Told.{behind_all, journal_with, now_or}

behind_first : (b : Bool) (n : ℕ) (later first : Option ℕ) → option_or (now_or b n later) first ≡ now_or b n (option_or later first)
behind_first true n later first = refl
behind_first false n later first = refl

alone : (b : Bool) (n : ℕ) → option_or None (if b then Some n else None) ≡ now_or b n None
alone true n = refl
alone false n = refl

pub last_more : (did : Inv → Inv → Bool) (v : Inv) (entries : List Entry) (e : Entry)
    → last_of did v (entries ++ e ∷ []) ≡ now_or (did (behind_all v entries) (effect e.change (behind_all v entries))) (effect e.change (behind_all v entries)).number (last_of did v entries)
last_more did v [] e = alone (did v (effect e.change v)) (effect e.change v).number
last_more did v (x ∷ entries) e =
    let w : Inv = effect x.change v in
    let first : Option ℕ = if did v w then Some w.number else None in
    let last : Inv = behind_all w entries in
    ap (λ later. option_or later first) (last_more did w entries e) ∙ behind_first (did last (effect e.change last)) (effect e.change last).number (last_of did w entries) first

pub same_journal : (j k : Journal) → j.removed ≡ k.removed → j.changed ≡ k.changed → j.copy_changed ≡ k.copy_changed → j.path_emptied ≡ k.path_emptied → j ≡ k
same_journal j k removed changed copies emptied =
    ap (λ (f : ℕ → Option ℕ). let new : Journal = record { removed = f; changed = j.changed; copy_changed = j.copy_changed; path_emptied = j.path_emptied } in new) removed
    ∙ ap (λ (f : ℕ → Option ℕ). let new : Journal = record { removed = k.removed; changed = f; copy_changed = j.copy_changed; path_emptied = j.path_emptied } in new) changed
    ∙ ap (λ (f : ℕ → ℕ → Option ℕ). let new : Journal = record { removed = k.removed; changed = k.changed; copy_changed = f; path_emptied = j.path_emptied } in new) copies
    ∙ ap (λ (f : ℕ → List ℕ → Option ℕ). let new : Journal = record { removed = k.removed; changed = k.changed; copy_changed = k.copy_changed; path_emptied = f } in new) emptied

pub goes_on : (base : Inv) (entries : List Entry) (e : Entry) → journal_of base (entries ++ e ∷ []) ≡ journal_with (behind_all base entries) (effect e.change (behind_all base entries)) (journal_of base entries)
goes_on base entries e =
    same_journal (journal_of base (entries ++ e ∷ [])) (journal_with (behind_all base entries) (effect e.change (behind_all base entries)) (journal_of base entries))
    (fun_ext (λ object. last_more (is_removed object) base entries e))
    (fun_ext (λ object. last_more (is_changed object) base entries e))
    (fun_ext (λ object. fun_ext (λ pool. last_more (is_copy_changed object pool) base entries e)))
    (fun_ext (λ filespace. fun_ext (λ path. last_more (is_emptied filespace path) base entries e)))
