-- An object whose removal is refused, by itself, is gone from its path or retained there.
use Rattle.std.proofs.Common.{◌≡◌, ◌⊎◌, inl, inr, ℕ, ◌^◌, Bool, true, false, not, nat_le, List, [], ◌∷◌, ◌++◌, length, Option, Some, None, Err, refl, sym, ap, ◌∙◌, if◌then◌else◌}
use Rattle.std.proofs.lemmas.Bool.{and_parts, false≢true}
use Rattle.item_refusals.proofs.Foremost.{foremost_append}
use Rattle.kinds.specs.Refusals.{bad_value, foremost, unless}
use Rattle.kinds.specs.declared.refusal.By.TheVariants as by
use Rattle.kinds.specs.declared.refusal.Refusal.{Refusal}
use Rattle.kinds.specs.declared.refusal.Refusal.TheVariants as refusal
use Rattle.entries.specs.EntryForm.{entry as entry_form}
use Rattle.entries.specs.change_items.declared.items.NamedVersion.{NamedVersion}
use Rattle.entries.specs.declared.change.Change.{Change}
use Rattle.entries.specs.declared.change.Change.TheVariants as change
use Rattle.inventory_rows.specs.Items.{count_items, most_items}
use Rattle.inventory_rows.specs.State.{Inv}
use Rattle.inventory_rules.specs.Journal.{Journal}
use Rattle.inventory_rules.specs.Owed.{is_retained}
use Rattle.inventory_rules.specs.Transactions.{causes, effect, refused, sizes_refused, then_valid}
use Rattle.inventory_rules.specs.Valid.{is_valid}
use Rattle.inventory_rules.specs.Versions.{expired_refused, gone_or_unknown, is_under}
use Rattle.inventory_work.specs.declared.lines.UnretainedLine.{UnretainedLine}
use Rattle.machine.specs.Causes.{change_illegal, listed}
use Rattle.machine.specs.Fits.{History, Own, Step, inv, sight_at}
use Rattle.machine.specs.Says.{Says, is_elsewhere}
use Rattle.machine.specs.State.{Sight}
use Rattle.machine.proofs.Elsewhere.{foremost-all, sooner-one, unless-all, append-all}
use Rattle.steps.specs.Events.{event}
use Rattle.steps.specs.Events.Deed.{Commit}
use Rattle.expiration.specs.Expiring.{is_passed, named, removing}
use Rattle.expiration.specs.Rows.{is_expirable}

-- a passed refusal comes of what the actor sees
not-elsewhere : (e : Refusal) → is_passed e ≡ true → is_elsewhere e ≡ true → ⊥
not-elsewhere (refusal.Syntax at) p q = cc
not-elsewhere (refusal.UnknownWord at) p q = cc
not-elsewhere (refusal.Ambiguous at) p q = cc
not-elsewhere (refusal.BadValue at) p q = cc
not-elsewhere refusal.NotFound p q = cc
not-elsewhere refusal.Exists p q = cc
not-elsewhere (refusal.InUse by) p q = cc
not-elsewhere refusal.NoDefaultClass p q = cc
not-elsewhere refusal.BadHierarchy p q = cc
not-elsewhere (refusal.DayBack today given) p q = cc
not-elsewhere refusal.NoBackupGroup p q = cc
not-elsewhere refusal.NoArchiveGroup p q = cc
not-elsewhere (refusal.NoSpace pool) p q = cc
not-elsewhere (refusal.Busy holder) p q = cc
not-elsewhere (refusal.Stale seq) p q = cc
not-elsewhere (refusal.Gone seq) p q = cc
not-elsewhere refusal.Unavailable p q = cc
not-elsewhere (refusal.WriteFault file) p q = cc
not-elsewhere refusal.TreeFault p q = cc
not-elsewhere (refusal.Changed listed read) p q = cc
not-elsewhere (refusal.DigestDiffers kept given) p q = cc
not-elsewhere refusal.TooLarge p q = cc
not-elsewhere refusal.RecordFull p q = cc
not-elsewhere refusal.InventoryFull p q = cc
not-elsewhere (refusal.NotYet file day) p q = cc
not-elsewhere (refusal.LogFault file count) p q = cc
not-elsewhere refusal.RunFull p q = cc
not-elsewhere refusal.Memory p q = cc

listed-is : (o : Option Refusal) (e : Refusal) → foremost (listed o) ≡ Some e → o ≡ Some e
listed-is None e h = absurd cc
listed-is (Some x) e h = h

-- one of the causes, or a database that wouldn't be valid
valid-or : (o : Option Refusal) (valid : Bool) (e : Refusal) → then_valid o valid ≡ Some e → (o ≡ Some e) ⊎ (e ≡ bad_value)
valid-or (Some x) valid e h = inl h
valid-or None true e h = absurd cc
valid-or None false e h = inr (let same : bad_value ≡ e = cc in sym same)

-- what is passed isn't this
passed-not : (e f : Refusal) → is_passed e ≡ true → is_passed f ≡ false → e ≡ f → ⊥
passed-not e f p q s = false≢true (sym q ∙ ap is_passed (sym s) ∙ p)

abbrev IsUnpassed : Refusal → Type 0
IsUnpassed e = is_passed e ≡ false

-- what can expire isn't refused
pub expirable-causes : (j : Journal) (filespace : ℕ) (item : NamedVersion) (v : Inv) → is_expirable filespace item.path item.object v ≡ true → expired_refused j filespace v item ≡ []
expirable-causes j filespace item v h =
    let parts = and_parts (is_under filespace item.path item.object v) (not (is_retained filespace item.path item.object v)) h in
    ap (λ (b : Bool). if b then unless (not (is_retained filespace item.path item.object v)) (refusal.InUse (by.Object item.object)) else gone_or_unknown (j.removed item.object) ∷ []) parts.0
    ∙ ap (λ (b : Bool). unless b (refusal.InUse (by.Object item.object))) parts.1

refused-passed : (j : Journal) (filespace : ℕ) (line : UnretainedLine) (v : Inv) (e : Refusal) → is_passed e ≡ true
    → refused j (change.Expire (record { filespace = filespace; items = named line ∷ [] })) v ≡ Some e → is_expirable filespace line.path line.object v ≡ true → ⊥
unfolding refused
refused-passed j filespace line v e passed h expirable =
    let c : Change = change.Expire (record { filespace = filespace; items = named line ∷ [] }) in
    elim (valid-or (foremost (causes j c v ++ sizes_refused c v)) (is_valid (effect c v)) e h) as (λ _. ⊥) [
      | inr bad ↦ passed-not e bad_value passed refl bad
      | inl found ↦ elim (sooner-one (foremost (causes j c v)) (foremost (sizes_refused c v)) e (sym (foremost_append (causes j c v) (sizes_refused c v)) ∙ found)) as (λ _. ⊥) [
        | inl cause ↦ (let none : foremost (causes j c v) ≡ None = ap (λ (es : List Refusal). foremost (es ++ [])) (expirable-causes j filespace (named line) v expirable) in
            let no : Some e ≡ None = sym cause ∙ none in cc)
        | inr size ↦ (let un : is_passed e ≡ false = foremost-all IsUnpassed (sizes_refused c v)
            (append-all IsUnpassed (unless (nat_le (count_items (effect c v)) most_items) refusal.InventoryFull) _
            (unless-all IsUnpassed (nat_le (count_items (effect c v)) most_items) refusal.InventoryFull refl) (unless-all IsUnpassed _ refusal.InventoryFull refl)) e size in
            false≢true (sym un ∙ passed))
      ]
    ]

-- a single removal that is passed over: the object can't expire there
pub passed-over : (w : History) (actor : ℕ) (a b : Own) (n filespace : ℕ) (line : UnretainedLine) (e : Refusal) → Step w actor a (event n (Commit (removing filespace (line ∷ [])) [] (Err e))) b
    → is_passed e ≡ true → is_expirable filespace line.path line.object (inv w n) ≡ true → ⊥
unfolding Says
passed-over w actor a b n filespace line e s passed expirable =
    let v : Sight = sight_at w a n s.next_file in
    let c : Change = change.Expire (record { filespace = filespace; items = named line ∷ [] }) in
    elim s.says as (λ _. ⊥) [
      | inr q ↦ not-elsewhere e passed q
      | inl h ↦ elim (sooner-one (foremost (change_illegal c v)) _ e (sym (foremost_append (change_illegal c v) _) ∙ h)) as (λ _. ⊥) [
        | inl found ↦ refused-passed v.journal filespace line (inv w n) e passed (listed-is (refused v.journal c v.inventory) e found) expirable
        | inr long ↦ (let un : is_passed e ≡ false = foremost-all IsUnpassed _ (unless-all IsUnpassed (nat_le (length (entry_form.spell (record { actor = actor; change = c }))) (2 ^ 24))
            refusal.RecordFull refl) e long in
            false≢true (sym un ∙ passed))
      ]
    ]
