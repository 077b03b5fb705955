-- Each volume that may be reused all along is reused.
use Rattle.std.proofs.Common.{◌≡◌, ◌⊎◌, inl, inr, ℕ, ◌+◌, ◌≤◌, Bool, true, false, List, [], ◌∷◌, ◌++◌, append_assoc, Option, Some, None, Result, Ok, Err, refl, sym, ap, subst, ◌∙◌, arith, if◌then◌else◌}
use Rattle.std.proofs.lemmas.Bool.{false≢true}
use Rattle.std.specs.Result.{is_ok}
use Rattle.kinds.specs.Refusals.{bad_value, foremost, refusal_of}
use Rattle.kinds.specs.declared.refusal.Refusal.{Refusal}
use Rattle.kinds.specs.declared.refusal.Refusal.TheVariants as refused
use Rattle.entries.specs.declared.change.Change.TheVariants as change
use Rattle.inventory_rows.proofs.of_object_rows.Stands.{same_number}
use Rattle.inventory_rows.specs.volume_rows.declared.volume.Volume.{Volume}
use Rattle.inventory_rows.specs.pool_tables.Rows.{row_at}
use Rattle.inventory_rows.specs.pool_rows.PoolRows.{PoolRows}
use Rattle.inventory_rows.specs.pool_rows.Segments.{may_reuse_at, reuse_row}
use Rattle.inventory_rows.specs.State.{Inv}
use Rattle.inventory_rules.specs.Journal.{Journal}
use Rattle.inventory_rules.specs.Transactions.{refused as change_refused}
use Rattle.inventory_answers.specs.declared.query.Query.TheVariants as query
use Rattle.inventory_answers.specs.declared.reply.Answer.{Answer}
use Rattle.inventory_answers.specs.declared.reply.Rows.{Rows}
use Rattle.inventory_answers.specs.declared.reply.Rows.TheVariants as rows
use Rattle.inventory_work.specs.Volumes.{emptied, reusable_files}
use Rattle.steps.specs.Calls.{Then}
use Rattle.steps.specs.Events.{Deed, Event, event}
use Rattle.steps.specs.Events.Deed.{Ask, Reuse}
use Rattle.steps.specs.Receipts.{is_receipt, receipts}
use Rattle.machine.specs.Causes.{reuse_refused}
use Rattle.machine.specs.Fits.{Fits, History, Own, Step, inv, sight_at}
use Rattle.machine.specs.Machine.{IsAnswer}
use Rattle.machine.specs.Says.{Says}
use Rattle.machine.specs.State.{Sight}
use Rattle.machine.proofs.Runs.{fits-cut, fits-first, fits-rises, step-rises}
use Rattle.copy_attempts.proofs.Facts.{met-before, met-behind}
use Rattle.copy_attempts.specs.Outcomes.{MetBy}
use Rattle.copy_runs.proofs.Told.{reaches}
use Rattle.copy_runs.proofs.Whole.{reached-last}
use Rattle.copy_runs.specs.Ends.{AsksToday, first_of, last_of}
use Rattle.copy_runs.specs.Wanting.{IsIn}
use Rattle.reuse_delay.proofs.Causes.{listed-is, own-cause, refused-for}
use Rattle.reuse_delay.proofs.Members.{flat-member, found-member, last-behind, only-member}
use Rattle.reuse_delay.specs.Ready.{AreReused, IsReused, IsUnready, is_ready}
use Rattle.reuse_delay.specs.Reusing.{IsInOrder, Listed, Works, is_passed, is_unforced}

-- ---- what is listed

ready-there : (file today : ℕ) (s : PoolRows) (o : Option Volume) → row_at file s.volumes ≡ o → is_ok (reuse_row s file today o) ≡ true → (k : ℕ) × (v : Volume) × IsIn (k, v) s.volumes × (k ≡ file)
ready-there file today s None is h = absurd (false≢true h)
ready-there file today s (Some v) is h = let e = found-member _ s.volumes v is in (e.0, v, e.1, sym (same_number file e.0 e.2))

pub ready-listed : (file : ℕ) (v : Inv) → is_ready file v ≡ true → IsIn file (emptied v)
ready-listed file v h =
    let e = ready-there file v.today v.stores (row_at file v.stores.volumes) refl h in
    flat-member (λ (x : ℕ × Volume). reusable_files v.today v.stores x.0) file (e.0, e.1) v.stores.volumes e.2
    (only-member (is_ok (may_reuse_at e.0 v.today v.stores)) e.0 file (ap (λ (k : ℕ). is_ok (may_reuse_at k v.today v.stores)) e.3 ∙ h) e.3)

abbrev rows_told : Result Answer Refusal → Rows
rows_told (Ok a) = a.rows
rows_told (Err e) = rows.Today

told-files : (log_length : ℕ) (v : Inv) (answer : Answer) (files : List ℕ) → IsAnswer log_length query.Emptied v answer → answer.rows ≡ rows.Emptied files → files ≡ emptied v
told-files log_length v answer files h is =
    let told : rows.Emptied (emptied v) ≡ h.0.rows = ap rows_told h.1 in
    let both : rows.Emptied files ≡ rows.Emptied (emptied v) = sym is ∙ ap (λ (x : Answer). x.rows) h.2 ∙ sym told in
    cc

pub asked-files : (w : History) (actor : ℕ) (a b : Own) (n : ℕ) (answer : Answer) (files : List ℕ) → Step w actor a (event n (Ask query.Emptied (Ok answer))) b → answer.rows ≡ rows.Emptied files
    → files ≡ emptied (inv w n)
unfolding Says
asked-files w actor a b n answer files s is = told-files s.says.1.0 (inv w n) answer files s.says.1.1 is

-- ---- what is passed over

refused-not : (r : Result (Unit {0}) Refusal) (e : Refusal) → foremost (refusal_of r) ≡ Some e → is_ok r ≡ false
refused-not (Ok done) e h = absurd cc
refused-not (Err f) e h = refl

passed-unready : (j : Journal) (file : ℕ) (v : Inv) (e : Refusal) → is_passed e ≡ true → change_refused j (change.Reuse file) v ≡ Some e → is_ready file v ≡ false
passed-unready j file v e p h = elim (refused-for j (change.Reuse file) v e h) as (λ _. is_ready file v ≡ false) [
  | inl cause ↦ refused-not (may_reuse_at file v.today v.stores) e cause
  | inr other ↦ elim other as (λ _. is_ready file v ≡ false) [
    | inl full ↦ absurd (let never : is_passed refused.InventoryFull ≡ true = subst (λ (x : Refusal). is_passed x ≡ true) full p in cc)
    | inr bad ↦ absurd (let never : is_passed bad_value ≡ true = subst (λ (x : Refusal). is_passed x ≡ true) bad p in cc)
  ]
]

pub passed-over : (w : History) (actor : ℕ) (a b : Own) (n file : ℕ) (e : Refusal) → Step w actor a (event n (Reuse file (Err e))) b → is_passed e ≡ true → is_ready file (inv w n) ≡ false
unfolding Says
passed-over w actor a b n file e s p =
    let v : Sight = sight_at w a n s.next_file in
    passed-unready v.journal file (inv w n) e p
    (listed-is (change_refused v.journal (change.Reuse file) v.inventory) e (own-cause (10 ∷ 12 ∷ 32 ∷ []) (reuse_refused file v) e refl s.says p))

-- ---- several steps

abbrev Unready : ℕ → History → (from to : ℕ) → Type 0
Unready file w from to = (n : ℕ) × (from ≤ n) × (n ≤ to) × (is_ready file (inv w n) ≡ false)

reused-event : (file n number : ℕ) (e : Event) → e ≡ event n (Reuse file (Ok number)) → (k : ℕ) × (e.deed ≡ Reuse file (Ok k))
reused-event file n number e is = (number, ap (λ (x : Event). x.deed) is)

later-or : (file : ℕ) (w : History) (from to : ℕ) (e : Event) (events : List Event) → IsReused file events ⊎ Unready file w from to → IsReused file (e ∷ events) ⊎ Unready file w from to
later-or file w from to e events (inl h) = inl (inr h)
later-or file w from to e events (inr h) = inr h

-- each of the volumes that were tried was reused, or may not be reused at one of the numbers
handled-ready : (w : History) (actor : ℕ) (a b : Own) (from to file : ℕ) (due : Bool) (files : List ℕ) (events : List Event) → from ≤ a.reached → b.reached ≤ to → Fits w actor a events b
    → Works due files [] events → IsIn file files → IsReused file events ⊎ Unready file w from to
handled-ready w actor a b from to file due files [] low high f h m = absurd (subst (λ (ls : List ℕ). IsIn file ls) (sym h.1) m)
handled-ready w actor a b from to file true files (e ∷ events) low high f h m =
    let r = fits-first w actor a b e events f in
    let rise : a.reached ≤ r.0.reached = step-rises w actor a r.0 e r.1 in
    let next : from ≤ r.0.reached = omega arith in
    later-or file w from to e events (handled-ready w actor r.0 b from to file false files events next high r.2 h.1 m)
handled-ready w actor a b from to file false [] (e ∷ events) low high f h m = absurd m
handled-ready w actor a b from to file false (k ∷ files) (e ∷ events) low high f h (inl same) =
    let r = fits-first w actor a b e events f in
    let since : a.reached ≤ e.n = r.1.since in
    let rise : a.reached ≤ r.0.reached = step-rises w actor a r.0 e r.1 in
    let there : e.n ≤ r.0.reached = reaches w actor a r.0 e r.1 in
    let later : r.0.reached ≤ b.reached = fits-rises w actor r.0 b events r.2 in
    let first : from ≤ e.n = omega arith in
    let end : e.n ≤ to = omega arith in
    let next : from ≤ r.0.reached = omega arith in
    elim h as (λ _. IsReused file (e ∷ events) ⊎ Unready file w from to) [
      | inl one ↦ inl (inl (subst (λ (x : ℕ). (number : ℕ) × (e.deed ≡ Reuse x (Ok number))) same (reused-event k one.0.0 one.0.1 e one.0.2)))
      | inr other ↦ elim other as (λ _. IsReused file (e ∷ events) ⊎ Unready file w from to) [
        | inl one ↦ (let x = one.0 in
            inr (
              x.0,
              subst (λ (y : Event). from ≤ y.n) x.3 first,
              subst (λ (y : Event). y.n ≤ to) x.3 end,
              subst (λ (y : ℕ). is_ready y (inv w x.0) ≡ false) same (passed-over w actor a r.0 x.0 k x.1 (subst (λ (y : Event). Step w actor a y r.0) x.3 r.1) x.2),
            ))
        | inr one ↦ later-or file w from to e events (handled-ready w actor r.0 b from to file (is_unforced one.0) (k ∷ files) events next high r.2 one.2 (inl same))
      ]
    ]
handled-ready w actor a b from to file false (k ∷ files) (e ∷ events) low high f h (inr m) =
    let r = fits-first w actor a b e events f in
    let rise : a.reached ≤ r.0.reached = step-rises w actor a r.0 e r.1 in
    let next : from ≤ r.0.reached = omega arith in
    elim h as (λ _. IsReused file (e ∷ events) ⊎ Unready file w from to) [
      | inl one ↦ later-or file w from to e events (handled-ready w actor r.0 b from to file false files events next high r.2 one.1 m)
      | inr other ↦ elim other as (λ _. IsReused file (e ∷ events) ⊎ Unready file w from to) [
        | inl one ↦ later-or file w from to e events (handled-ready w actor r.0 b from to file false files events next high r.2 one.1 m)
        | inr one ↦ later-or file w from to e events (handled-ready w actor r.0 b from to file (is_unforced one.0) (k ∷ files) events next high r.2 one.2 (inr m))
      ]
    ]

-- ---- receipts

abbrev IsReuseOf : ℕ → Deed → Type 0
IsReuseOf file d = (number : ℕ) × (d ≡ Reuse file (Ok number))

receipt-first : (file : ℕ) (e : Event) (events : List Event) → IsReuseOf file e.deed → is_receipt e.deed events ≡ true
receipt-first file e events h = ap (λ (d : Deed). is_receipt d events) h.1

reused-receipt : (file : ℕ) (events : List Event) → IsReused file events → IsReused file (receipts events)
reused-receipt file [] m = absurd m
reused-receipt file (e ∷ events) (inl h) =
    subst (λ (b : Bool). IsReused file ((if b then e ∷ [] else []) ++ receipts events)) (sym (receipt-first file e events h)) (inl h)
reused-receipt file (e ∷ events) (inr m) = met-behind (IsReuseOf file) (if is_receipt e.deed events then e ∷ [] else []) (receipts events) (reused-receipt file events m)

-- ---- the whole

between : (file n : ℕ) (first last : Event) (ys : List Event) (w : History) → IsReused file ys ⊎ Unready file w first.n last.n
    → IsReused file (receipts ((first ∷ ys) ++ last ∷ [])) ⊎ IsUnready file ((first ∷ ys) ++ last ∷ []) w
between file n first last ys w (inl h) = inl (reused-receipt file ((first ∷ ys) ++ last ∷ []) (inr (met-before (IsReuseOf file) ys (last ∷ []) h)))
between file n first last ys w (inr h) = inr (h.0, h.1, subst (λ (k : ℕ). h.0 ≤ k) (sym (last-behind (first ∷ ys) last [])) h.2, h.3)

ends-later : (files : List ℕ) (n m : ℕ) (answer told : Answer) (ys : List Event) → answer.rows ≡ rows.Emptied files → Works false files [] ys
    → AreReused ((event n (Ask query.Emptied (Ok answer)) ∷ ys) ++ event m (Ask query.Today (Ok told)) ∷ [])
ends-later files n m answer told ys is works = λ w actor a b fits file ready.
    let first : Event = event n (Ask query.Emptied (Ok answer)) in
    let last : Event = event m (Ask query.Today (Ok told)) in
    let r = fits-first w actor a b first (ys ++ last ∷ []) fits in
    let t = fits-cut w actor r.0 b ys (last ∷ []) r.2 in
    let s : Step w actor a first r.0 = r.1 in
    let low : n ≤ r.0.reached = reaches w actor a r.0 first s in
    let high : t.0.reached ≤ m = reached-last w actor t.0 b last [] t.2 in
    let among : IsIn file files = subst (λ (ls : List ℕ). IsIn file ls) (sym (asked-files w actor a r.0 n answer files s is)) (ready-listed file (inv w n) ready) in
    between file n first last ys w (handled-ready w actor r.0 t.0 n m file false files ys low high t.1 works among)

pub all-reused : (files : List ℕ) (xs ys : List Event) → Then (λ zs. Listed zs files) (λ us. Works false files [] us) xs → AsksToday ys (Ok tt) → AreReused (xs ++ ys)
all-reused files xs ys h t =
    let is : xs ≡ event h.3.0 (Ask query.Emptied (Ok h.3.1)) ∷ h.1 = h.2 ∙ ap (λ (es : List Event). es ++ h.1) h.3.2 in
    subst (λ (es : List Event). AreReused (es ++ ys)) (sym is)
    (subst (λ (es : List Event). AreReused ((event h.3.0 (Ask query.Emptied (Ok h.3.1)) ∷ h.1) ++ es)) (sym t.2) (ends-later files h.3.0 t.0 h.3.1 t.1 h.1 h.3.3 h.4))
