-- Files recover to one database, or they are damaged.
use Rattle.std.proofs.Common.{◌≡◌, ◌⊎◌, inl, inr, ℕ, ◌<◌, List, [], ◌∷◌, ◌++◌, length, refl, sym, ◌∙◌, ap, subst, append_assoc, length-append, arith}
use Rattle.std.proofs.lemmas.Bool.{cases_eq}
use Rattle.std.proofs.lemmas.List.{append-nil}
use Rattle.log_file.specs.Blocks.{IsClosed, LogIs}
use Rattle.log_file.proofs.RecordBytes.{one_log, not_both, log_front}
use Rattle.db_image.specs.declared.mark.Mark.TheVariants.{Server}
use Rattle.db_image.specs.Images.{DamagedAt}
use Rattle.db_image.proofs.One.{opened, not_damaged, damaged_open}
use Rattle.entries.specs.declared.entry.Entry.{Entry}
use Rattle.fields.specs.Editions.{Edition}
use Rattle.entries.specs.EntryForm.{entry_in}
use Rattle.entries.specs.Meaning.{Meaning, IsMeaning, IsLegal}
use Rattle.vault.specs.Files.{image_file, log_file}
use Rattle.vault.specs.Recovery.{NotFormatted, IsDamaged, IsRefused, LogDamaged, DamagedBehind, records_in, after_all, AllLegalIn, Recovers}
use Rattle.vault.proofs.Replaying.{one_entry, same_base}
use Rattle.vault.proofs.Sounding.{newest_one, both_headed}

snoc_same : {X : Type 0} (xs ys : List X) (x y : X) → xs ++ x ∷ [] ≡ ys ++ y ∷ [] → (xs ≡ ys) × (x ≡ y)
snoc_same [] [] x y e = (refl, (let same : x ∷ [] ≡ y ∷ [] = e in cc))
snoc_same [] (b ∷ ys) x y e = absurd (let long = ap length e in omega (arith, long, length-append ys (y ∷ [])))
snoc_same (a ∷ xs) [] x y e = absurd (let long = ap length e in omega (arith, long, length-append xs (x ∷ [])))
snoc_same (a ∷ xs) (b ∷ ys) x y e =
    let first : a ≡ b = (let whole : a ∷ (xs ++ x ∷ []) ≡ b ∷ (ys ++ y ∷ []) = e in cc) in
    let rest : xs ++ x ∷ [] ≡ ys ++ y ∷ [] = (let whole : a ∷ (xs ++ x ∷ []) ≡ b ∷ (ys ++ y ∷ []) = e in cc) in
    let same = snoc_same xs ys x y rest in
    (rw (first, same.0) refl, same.1)

snoc_view : {X : Type 0} (xs : List X) → (xs ≡ []) ⊎ ((ys : List X) × (y : X) × (xs ≡ ys ++ y ∷ []))
snoc_view [] = inl refl
snoc_view {X} (x ∷ xs) = elim (snoc_view xs) [
  | inl none ↦ inr ([], x, ap (λ (l : List X). x ∷ l) none)
  | inr some ↦ inr (x ∷ some.0, some.1, ap (λ (l : List X). x ∷ l) some.2)
]

module _ {D : Type 0} (form : Edition) (m : Meaning D) (base : D) where
  -- the records tell the entries
  records_same : (a b : List Entry) → AllLegalIn form m base a → AllLegalIn form m base b → records_in form a ≡ records_in form b → a ≡ b
  records_same [] [] x y e = refl
  records_same [] (f ∷ b) x y e = absurd (let long = ap length e in omega (arith, long, length-append (records_in form b) ((entry_in form).spell f ∷ [])))
  records_same (d ∷ a) [] x y e = absurd (let long = ap length e in omega (arith, long, length-append (records_in form a) ((entry_in form).spell d ∷ [])))
  records_same (d ∷ a) (f ∷ b) x y e =
      let same = snoc_same (records_in form a) (records_in form b) ((entry_in form).spell d) ((entry_in form).spell f) e in
      let first : d ≡ f = one_entry form ((entry_in form).spell d) d f (x.0, refl) (y.0, same.1) in
      let rest : a ≡ b = records_same a b x.2 y.2 same.0 in
      rw (first, rest) refl

  -- a log whose entries are legal has no record that isn't
  none_refused : (entries before : List Entry) (payload : List ℕ) (more : List (List ℕ)) → AllLegalIn form m base entries → AllLegalIn form m base before → records_in form entries ≡ (records_in form before ++ payload ∷ []) ++ more → IsRefused form m (after_all m base before) payload → ⊥
  none_refused [] before payload more x y e refused = absurd (let long = ap length e in omega (arith, long, length-append (records_in form before ++ payload ∷ []) more, length-append (records_in form before) (payload ∷ [])))
  none_refused (d ∷ entries) before payload more x y e refused = elim (snoc_view more) [
    | inl none ↦ (
        let same = snoc_same (records_in form entries) (records_in form before) ((entry_in form).spell d) payload (e ∙ ap (λ (l : List (List ℕ)). (records_in form before ++ payload ∷ []) ++ l) none ∙ append-nil (records_in form before ++ payload ∷ [])) in
        let rest : entries ≡ before = records_same entries before x.2 y same.0 in
        refused d (x.0, sym same.1) (subst (λ (l : List Entry). IsLegal m (after_all m base l) d) rest x.1))
    | inr some ↦ (
        let whole : records_in form entries ++ (entry_in form).spell d ∷ [] ≡ ((records_in form before ++ payload ∷ []) ++ some.0) ++ some.1 ∷ [] = e ∙ ap (λ (l : List (List ℕ)). (records_in form before ++ payload ∷ []) ++ l) some.2 ∙ sym (append_assoc (records_in form before ++ payload ∷ []) some.0 (some.1 ∷ [])) in
        none_refused entries before payload some.0 x.2 y (snoc_same (records_in form entries) ((records_in form before ++ payload ∷ []) ++ some.0) ((entry_in form).spell d) some.1 whole).0 refused)
  ]

-- what a log of one form says, said of the other that it is
log_as : {D : Type 0} (m : Meaning D) (form other : Edition) (base last : D) (bytes : List ℕ) (entries : List Entry) → form ≡ other → base ≡ last → LogIs bytes (records_in form entries) → AllLegalIn form m base entries → LogIs bytes (records_in other entries) × AllLegalIn other m last entries
log_as m form other base last bytes entries forms bases log legal = (
  subst (λ (f : Edition). LogIs bytes (records_in f entries)) forms log,
  subst (λ (f : Edition). AllLegalIn f m last entries) forms (subst (λ (x : _). AllLegalIn form m x entries) bases legal),
)

-- a log with entries that are legal isn't damaged
broken_log : {D : Type 0} (form : Edition) (m : Meaning D) (bytes : List ℕ) (at : ℕ) (base : D) (entries : List Entry) → LogIs bytes (records_in form entries) → AllLegalIn form m base entries → LogDamaged form m base bytes at → ⊥
broken_log form m bytes at base entries log legal damaged = elim damaged.damage [
  | inl broken ↦ not_both bytes (records_in form entries) (records_in form damaged.entries) at log broken
  | inr refused ↦ (
      let front = log_front bytes refused.rest (records_in form entries) (records_in form damaged.entries ++ refused.payload ∷ []) log refused.fits refused.whole in
      none_refused form m base entries damaged.entries refused.payload front.0 legal damaged.legal front.1 refused.refused)
]

module _ {D : Type 0} (m : Meaning D) (law : IsMeaning m) (files : ℕ → List ℕ) where
  pub one_database : (d other : D) → Recovers m files d → Recovers m files other → d ≡ other
  one_database d other a b =
      let same = newest_one files a.generation b.generation (m.spelled a.form a.base) (m.spelled b.form b.base) a.newest b.newest in
      let bases = same_base m law a.form b.form a.base b.base a.valid b.valid same.1 in
      let here : LogIs (files (log_file b.generation)) (records_in a.form a.entries) = subst (λ (k : ℕ). LogIs (files (log_file k)) (records_in a.form a.entries)) same.0 a.log in
      let log = log_as m a.form b.form a.base b.base (files (log_file b.generation)) a.entries bases.0 bases.1 here a.legal in
      let entries : a.entries ≡ b.entries = records_same b.form m b.base a.entries b.entries log.1 b.legal (one_log (files (log_file b.generation)) (records_in b.form a.entries) (records_in b.form b.entries) log.0 b.log) in
      a.gives ∙ ap (λ (x : D). after_all m x a.entries) bases.1 ∙ ap (λ (l : List Entry). after_all m b.base l) entries ∙ sym b.gives

  -- and in one form
  pub one_form : (d other : D) (a : Recovers m files d) (b : Recovers m files other) → a.form ≡ b.form
  one_form d other a b = (same_base m law a.form b.form a.base b.base a.valid b.valid (newest_one files a.generation b.generation (m.spelled a.form a.base) (m.spelled b.form b.base) a.newest b.newest).1).0

  module _ (d : D) (recovers : Recovers m files d) where
    pub is_formatted : NotFormatted files → ⊥
    is_formatted shut =
        let has = recovers.newest.stands in
        let headed : IsClosed (files (image_file recovers.generation)) → ⊥ = opened (image_file recovers.generation) recovers.generation Server (files (image_file recovers.generation)) (m.spelled recovers.form recovers.base) has in
        headed (elim (low (image_file recovers.generation) (omega arith)) [ inl zero_file ↦ subst (λ (n : ℕ). IsClosed (files n)) (sym zero_file) shut.0 | inr one_file ↦ subst (λ (n : ℕ). IsClosed (files n)) (sym one_file) shut.1 ])
      where
        low : (n : ℕ) → n < 2 → (n ≡ 0) ⊎ (n ≡ 1)
        low n lt = elim (cases_eq n 0) [ inl is ↦ inl is | inr not ↦ inr (omega (arith, lt, not)) ]

    head_sound : (file at : ℕ) → file < 2 → DamagedAt file Server (files file) at → ⊥
    head_sound file at lt damaged = elim (both_headed files recovers.generation file (m.spelled recovers.form recovers.base) recovers.newest lt) [
      | inl closed ↦ damaged_open file at Server (files file) damaged closed
      | inr image ↦ not_damaged file image.0 at Server (files file) image.1 image.2 damaged
    ]

    log_sound : (file at : ℕ) → DamagedBehind m files file at → ⊥
    log_sound file at damaged =
        let same = newest_one files damaged.generation recovers.generation (m.spelled damaged.form damaged.base) (m.spelled recovers.form recovers.base) damaged.newest recovers.newest in
        let bases = same_base m law damaged.form recovers.form damaged.base recovers.base damaged.valid recovers.valid same.1 in
        let here : file ≡ log_file recovers.generation = damaged.is_log ∙ ap log_file same.0 in
        let log : LogIs (files file) (records_in recovers.form recovers.entries) = subst (λ (n : ℕ). LogIs (files n) (records_in recovers.form recovers.entries)) (sym here) recovers.log in
        broken_log recovers.form m (files file) at recovers.base recovers.entries log recovers.legal
        (subst (λ (f : Edition). LogDamaged f m recovers.base (files file) at) bases.0 (subst (λ (x : D). LogDamaged damaged.form m x (files file) at) bases.1 damaged.damage))

    pub not_damaged_there : (file at : ℕ) → IsDamaged m files file at → ⊥
    not_damaged_there file at is = elim is [
      | inl first ↦ head_sound 0 at (omega arith) first.1
      | inr more ↦ elim more [
        | inl second ↦ head_sound 1 at (omega arith) second.2
        | inr behind ↦ elim behind [
          | inl payload ↦ (
              let same = newest_one files payload.0 recovers.generation payload.1 (m.spelled recovers.form recovers.base) payload.2 recovers.newest in
              payload.3 recovers.form recovers.base (recovers.valid, same.1))
          | inr log ↦ log_sound file at log
        ]
      ]
    ]
