-- The entries of a log are applied one after another.
use Rattle.std.proofs.Common.{◌≡◌, inl, inr, ℕ, ◌+◌, Bool, true, false, List, [], ◌∷◌, ◌++◌, Option, None, Some, Result, Ok, Err, IfOk, refl, sym, ◌∙◌, ap, subst, arith}
use Rattle.store_api.specs.Disk.{History, reads}
use Rattle.store_api.specs.Told.{Told}
use Rattle.kinds.specs.declared.refusal.OpenRefused.{OpenRefused}
use Rattle.kinds.specs.declared.refusal.OpenRefused.TheVariants.{ReadFault, NotFormatted, Damaged, RunFull, Memory}
use Rattle.log_file.specs.declared.found.Record.{Record}
use Rattle.log_file.specs.Cursor.{Place, DamageBehind, MayRefuse, Looked}
use Rattle.log_file.specs.Starts.{KeepsLeft, Opened, Advanced}
use Rattle.log_file.specs.Sure.{State}
use Rattle.log_file.specs.Windows.{NoDamage}
use Rattle.log_file.proofs.Opening.{left_looked}
use Rattle.log_file.proofs.Starting.{Underway, under_sure, goes_further, found_at, found_end, found_refusal}
use Rattle.fields.specs.Editions.{Edition, first_form, second_form}
use Rattle.entries.specs.declared.entry.Entry.{Entry}
use Rattle.entries.specs.EntryForm.{entry_in, entry_in_form, SpellsIn}
use Rattle.entries.specs.Meaning.{Meaning, IsMeaning, IsLegal, form_byte}
use Rattle.vault.specs.Recovery.{records_in, after_all, AllLegalIn, IsRefused}
use Rattle.vault.specs.Openings.{AppliesEntry, Applies, LogRefused, Replayed}

taken : Entry → Option (Entry × List ℕ) → Entry
taken e None = e
taken e (Some read) = read.0

-- bytes are the spelling of one entry at most
pub one_entry : (form : Edition) (payload : List ℕ) (a b : Entry) → SpellsIn form payload a → SpellsIn form payload b → a ≡ b
unfolding taken
one_entry form payload a b x y = ap (taken a) (sym ((entry_in_form form).again a [] x.0) ∙ ap (λ (l : List ℕ). (entry_in form).read (l ++ [])) (sym x.1 ∙ y.1) ∙ (entry_in_form form).again b [] y.0)

-- the first byte tells the form
form_same : (a b : Edition) (x y : List ℕ) → form_byte a ∷ x ≡ form_byte b ∷ y → a ≡ b
form_same first_form first_form x y e = refl
form_same second_form second_form x y e = refl
form_same first_form second_form x y e = absurd (let one : ℕ = 1 in let two : ℕ = 2 in let same : one ≡ two = (let whole : one ∷ x ≡ two ∷ y = e in cc) in omega (arith, same))
form_same second_form first_form x y e = absurd (let one : ℕ = 1 in let two : ℕ = 2 in let same : two ≡ one = (let whole : two ∷ x ≡ one ∷ y = e in cc) in omega (arith, same))

-- a payload is the spelling of one database, in one form
pub same_base : {D : Type 0} (m : Meaning D) (law : IsMeaning m) (form other_form : Edition) (d other : D) → m.Valid form d → m.Valid other_form other → m.spelled form d ≡ m.spelled other_form other → (form ≡ other_form) × (d ≡ other)
same_base m law form other_form d other v w e =
    let begins = law.begins form d v in
    let others = law.begins other_form other w in
    let forms = form_same form other_form begins.0 others.0 (sym begins.1 ∙ e ∙ others.1) in
    (forms, law.one other_form d other (subst (λ (f : Edition). m.Valid f d) forms v) w (subst (λ (f : Edition). m.spelled f d ≡ m.spelled other_form other) forms e))

pub applied : {D : Type 0} (form : Edition) (m : Meaning D) (payload : List ℕ) (e : Entry) (old new : D) (result : Result Bool OpenRefused) → SpellsIn form payload e → IfOk result (AppliesEntry m e old new) → IfOk result (Applies form m payload old new)
applied form m payload e old new (Ok true) spells is = (e, spells, is.0, is.1)
applied form m payload e old new (Ok false) spells is = λ other also legal. is (subst (IsLegal m old) (one_entry form payload other e also spells) legal)
applied form m payload e old new (Err refusal) spells is = tt

module _ {D : Type 0} (form : Edition) (m : Meaning D) (base : D) (file : ℕ) where
  -- the file wasn't opened
  pub not_opened : (d : D) (refusal : OpenRefused) (before after : ℕ → ℕ) (moment : ℕ) → MayRefuse file before after moment refusal → NoDamage refusal → (old new : History) → (let first : Result Place OpenRefused = Err refusal in Opened file first old new)
      → (let result : Result State OpenRefused = Err refusal in Replayed form m base file result d old new)
  not_opened d refusal before after moment may not old new opened = record { goes = opened.goes; same = opened.same; left = opened.left; replays = tt; sure = tt; damaged = says refusal may not (reads old file) }
    where
      says : (refusal : OpenRefused) → MayRefuse file before after moment refusal → NoDamage refusal → (bytes : List ℕ) → LogRefused form m base file bytes refusal
      says (Damaged which at) may not bytes = absurd not
      says NotFormatted may not bytes = absurd may
      says (ReadFault which) may not bytes = tt
      says RunFull may not bytes = tt
      says Memory may not bytes = tt

  module _ (cursor next : Place) (entries : List Entry) (d : D) (legal : AllLegalIn form m base entries) (gives : d ≡ after_all m base entries) (old mid new : History) (under : Underway file cursor (records_in form entries) old mid) (left : KeepsLeft file old mid) where
    left_new : Looked mid new → KeepsLeft file old new
    left_new looked = left_looked file old mid new under.durable left looked

    -- one entry more was applied
    pub applied_more : (found : Record) (e : Entry) → SpellsIn form found.payload.items e → next.held.file ≡ cursor.held.file → (let step : Result (Option Record) OpenRefused = Ok (Some found) in Advanced cursor next step mid new) → Underway file next (records_in form (e ∷ entries)) old new × KeepsLeft file old new
    applied_more found e spells same advanced = (
      subst (λ (p : List ℕ). Underway file next (records_in form entries ++ p ∷ []) old new) spells.1 (goes_further file cursor next (records_in form entries) old mid new under found same advanced),
      left_new advanced.looked,
    )

    -- the record behind them is no entry that is legal there
    pub refused_there : (found : Record) → IsRefused form m d found.payload.items → next.held.file ≡ cursor.held.file → (let step : Result (Option Record) OpenRefused = Ok (Some found) in Advanced cursor next step mid new)
        → (last : D) → (let result : Result State OpenRefused = Err (Damaged file (found.at + 5)) in Replayed form m base file result last old new)
    refused_there found refused same advanced last =
        let on = goes_further file cursor next (records_in form entries) old mid new under found same advanced in
        record {
          goes = on.goes;
          same = on.same;
          left = left_new advanced.looked;
          replays = tt;
          sure = tt;
          damaged = (
            refl,
            record {
              entries = entries;
              legal = legal;
              damage = inr (record {
                payload = found.payload.items;
                rest = on.came.rest;
                whole = on.came.whole;
                fits = on.came.fits;
                refused = subst (λ (x : D). IsRefused form m x found.payload.items) gives refused;
                place = ap (λ (n : ℕ). n + 5) (found_at file cursor next (records_in form entries) old mid new under found advanced);
              });
            },
          );
        }

    -- memory was wanted
    pub no_memory : (found : Record) → next.held.file ≡ cursor.held.file → (let step : Result (Option Record) OpenRefused = Ok (Some found) in Advanced cursor next step mid new) → (last : D) → (let result : Result State OpenRefused = Err Memory in Replayed form m base file result last old new)
    no_memory found same advanced last =
        let on = goes_further file cursor next (records_in form entries) old mid new under found same advanced in
        record { goes = on.goes; same = on.same; left = left_new advanced.looked; replays = tt; sure = tt; damaged = tt }

    -- the log ends behind them
    pub all_applied : (log : State) → log.end ≡ next.at → next.held.file ≡ cursor.held.file → (let step : Result (Option Record) OpenRefused = Ok None in Advanced cursor next step mid new) → (let result : Result State OpenRefused = Ok log in Replayed form m base file result d old new)
    all_applied log ends same advanced =
        let found = found_end file cursor next (records_in form entries) old mid new under same advanced in
        record {
          goes = found.0.goes;
          same = found.0.same;
          left = left_new advanced.looked;
          replays = record { entries = entries; log = found.1; legal = legal; gives = gives; is_end = ends ∙ found.0.came.at };
          sure = λ payloads is. under_sure file next (records_in form entries) payloads old new found.0 is;
          damaged = tt;
        }

    -- reading on was refused
    pub not_read : (refusal : OpenRefused) (before after : ℕ → ℕ) (moment : ℕ) → MayRefuse file before after moment refusal → next.held.file ≡ cursor.held.file → (let step : Result (Option Record) OpenRefused = Err refusal in Advanced cursor next step mid new)
        → (let result : Result State OpenRefused = Err refusal in Replayed form m base file result d old new)
    not_read refusal before after moment may same advanced =
        let found = found_refusal file cursor next (records_in form entries) old mid new under refusal same advanced in
        record { goes = found.0.goes; same = found.0.same; left = left_new advanced.looked; replays = tt; sure = tt; damaged = says refusal may (reads old file) found.1 }
      where
        says : (refusal : OpenRefused) → MayRefuse file before after moment refusal → (bytes : List ℕ) → DamageBehind bytes (records_in form entries) refusal → LogRefused form m base file bytes refusal
        says (Damaged which at) may bytes is = (may, record { entries = entries; legal = legal; damage = inl is })
        says NotFormatted may bytes is = absurd may
        says (ReadFault which) may bytes is = tt
        says RunFull may bytes is = tt
        says Memory may bytes is = tt

pub told_both : (x y : Option History) (R Q : History → History → Type 0) → Told x y R → Told x y Q → Told x y (λ old new. R old new × Q old new)
told_both None None R Q r q = tt
told_both None (Some new) R Q r q = absurd r
told_both (Some old) None R Q r q = absurd r
told_both (Some old) (Some new) R Q r q = (r, q)
