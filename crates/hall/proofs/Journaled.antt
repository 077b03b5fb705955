-- What is kept of the parts of a hall where its vault changes: what is told of the run is its journal's.
use Rattle.std.proofs.Common.{◌≡◌, inl, inr, ℕ, ◌+◌, ◌≤◌, List, [], ◌∷◌, ◌++◌, length, Some, None, refl, sym, ap, subst, ◌∙◌, arith, length-append}
use Rattle.std.specs.Prelude.{true}
use Rattle.kinds.specs.declared.refusal.Refusal.{Refusal}
use Rattle.entries.specs.declared.entry.Entry.{Entry}
use Rattle.inventory.specs.Meant.{meaning}
use Rattle.inventory_rows.specs.State.{Inv}
use Rattle.inventory_rules.specs.Journal.{no_journal}
use Rattle.inventory_rules.specs.Run.{journal_of}
use Rattle.inventory_rules.specs.Transactions.{effect, refused}
use Rattle.inventory_rules.specs.Valid.{is_valid}
use Rattle.run_past.specs.Before.{IsBefore}
use Rattle.run_past.specs.Telling.{Follows}
use Rattle.run_past.specs.Told.{Told, behind_all, journal_from, journal_with}
use Rattle.run_past.specs.declared.prepared.Prepared.{Prepared}
use Rattle.run_past.proofs.Goes.{goes_on}
use Rattle.vault.specs.Vaults.{State, RefusesCommit, with_waiting}
use Rattle.hall.specs.Noted.{IsNoted, Keeps}

-- the same is told, and there is as much room
pub still : (base : Inv) (vault : State Inv) (old new : Told) (stamps room : ℕ) → Keeps base vault old stamps → journal_from new ≡ journal_from old → stamps ≤ room → Keeps base vault new room
still base vault old new stamps room k same more = record {
  room = omega (arith, k.room, more);
  behind = k.behind;
  tells = λ sure. same ∙ k.tells sure;
}

-- a fault halted the vault
halted : (base database : Inv) (journal : List Entry) (file count : ℕ) (told : Told) (room : ℕ) → length journal ≤ room → IsNoted base database journal (Some (file, count)) told room
halted base database journal file count told room h = record { room = h; behind = λ sure. absurd cc; tells = λ sure. absurd cc }

-- ---- a transaction more

behind_more : (base : Inv) (journal : List Entry) (e : Entry) → behind_all base (journal ++ e ∷ []) ≡ effect e.change (behind_all base journal)
behind_more base [] e = refl
behind_more base (x ∷ journal) e = behind_more (effect x.change base) journal e

one_more : (journal : List Entry) (e : Entry) (room : ℕ) → length journal + 1 ≤ room → length (journal ++ e ∷ []) ≤ room
one_more journal e room h = let l = length-append journal (e ∷ []) in omega (arith, l, h)

-- it was made, and is told
pub made_noted : (base : Inv) (vault next : State Inv) (e : Entry) (old mid new : Told) (stamps room : ℕ) (p : Prepared) → Keeps base vault old stamps → journal_from mid ≡ journal_from old → length vault.journal + 1 ≤ room
    → vault.fault ≡ None → next ≡ with_waiting meaning vault e → IsBefore e.change vault.database p → is_valid vault.database ≡ true → refused no_journal e.change vault.database ≡ None
    → (w : Inv) → w ≡ next.database → (IsBefore e.change vault.database p → Follows e.change vault.database w → journal_from new ≡ journal_with vault.database w (journal_from mid)) → Keeps base next new room
made_noted base vault next e old mid new stamps room p k same more sure made before valid legal w is tells =
    let v : Inv = vault.database in
    let after : w ≡ effect e.change v = is ∙ ap (λ (s : State Inv). s.database) made in
    let stood : v ≡ behind_all base vault.journal = k.behind sure in
    let told : journal_from new ≡ journal_with v w (journal_from mid) = tells before (record { valid = valid; journal = no_journal; legal = legal; makes = after }) in
    subst (λ (s : State Inv). Keeps base s new room) (sym made) (record {
      room = one_more vault.journal e room more;
      behind = λ _. ap (effect e.change) stood ∙ sym (behind_more base vault.journal e);
      tells = λ _.
          told ∙ ap (journal_with v w) (same ∙ k.tells sure) ∙ ap (λ x. journal_with v x (journal_of base vault.journal)) after
          ∙ ap (λ x. journal_with x (effect e.change x) (journal_of base vault.journal)) stood ∙ sym (goes_on base vault.journal e);
    })

-- it was refused, or is in doubt
pub refused_noted : {same : Type 0} (base : Inv) (vault next : State Inv) (e : Entry) (old mid : Told) (stamps room : ℕ) (before after : ℕ → ℕ) (refusal : Refusal) → Keeps base vault old stamps → journal_from mid ≡ journal_from old
    → stamps ≤ room → length vault.journal + 1 ≤ room → RefusesCommit meaning vault e before after refusal next same → Keeps base next mid room
refused_noted base vault next e old mid stamps room before after refusal k same more one (inl nothing) = subst (λ (s : State Inv). Keeps base s mid room) (sym nothing.1) (still base vault old mid stamps room k same more)
refused_noted base vault next e old mid stamps room before after refusal k same more one (inr doubt) =
    subst (λ (s : State Inv). Keeps base s mid room) (sym doubt.3.1) (halted base _ (vault.journal ++ e ∷ []) _ _ mid room (one_more vault.journal e room one))
