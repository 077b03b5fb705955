-- A chain gives one database, or it is broken at one file.
use Rattle.std.proofs.Common.{◌≡◌, ◌≢◌, ◌⊎◌, inl, inr, ℕ, ◌<◌, ◌≤◌, List, [], ◌∷◌, ◌++◌, refl, sym, ◌∙◌, ap, subst, arith}
use Rattle.std.proofs.lemmas.List.{append-nil}
use Rattle.fields.specs.ListLaws.{one_value}
use Rattle.db_image.specs.declared.mark.Mark.TheVariants.{Backup}
use Rattle.db_image.proofs.One.{one as one_image}
use Rattle.entries.specs.declared.entry.Entry.{Entry}
use Rattle.entries.specs.EntryForm.{entry, entry_form, Spells}
use Rattle.entries.specs.Meaning.{Meaning, IsMeaning, IsLegal}
use Rattle.backup_payloads.specs.Increments.{Increment, IsIncrement}
use Rattle.backup_payloads.specs.Payloads.{IsPayload}
use Rattle.backup_payloads.specs.declared.payload.Payload.{Payload}
use Rattle.backup_payloads.specs.declared.payload.Payload.TheVariants.{Whole, Since}
use Rattle.backup_payloads.proofs.OnePayload.{only_whole, only_since}
use Rattle.backup_payloads.proofs.Wholes.{alone}
use Rattle.db_chains.specs.Chains.{IsBackup, NoBackup, Makes, IsUnfit, Fails, Gives, Follows, IsAstray, IsEnd, EndsAt, FailsAt, IsGiven, IsBrokenAt}

-- bytes are the spelling of one transaction at most
pub one_entry : (bytes : List ℕ) (a b : Entry) → Spells bytes a → Spells bytes b → a ≡ b
one_entry bytes a b x y = sym (one_value entry_form a b [] x.0 y.0 (append-nil (entry.spell a) ∙ sym x.1 ∙ y.1)).0

-- the transaction of an increment's variant
same_increment : {D : Type 0} (i j : Increment) → (let a : Payload D = Since i in let b : Payload D = Since j in a ≡ b) → i ≡ j
same_increment i j e = cc

same_whole : {D : Type 0} (d e : D) → (let a : Payload D = Whole d in let b : Payload D = Whole e in a ≡ b) → d ≡ e
same_whole d e same = cc

pub not_both : {D : Type 0} (d : D) (i : Increment) → (let a : Payload D = Whole d in a ≡ Since i) → ⊥
not_both d i e = absurd cc

-- bytes are the spelling of one increment
pub one_increment : {D : Type 0} {m : Meaning D} (law : IsMeaning m) (bytes : List ℕ) (i j : Increment) → IsIncrement bytes i → IsIncrement bytes j → j ≡ i
one_increment {D} law bytes i j a b = same (only_since law bytes i a (alone bytes i a) (Since j) [] (subst (λ (whole : List ℕ). IsIncrement whole j) (sym (append-nil bytes)) b)).0
  where
    same : (let x : Payload D = Since j in let y : Payload D = Since i in x ≡ y) → j ≡ i
    same e = cc

module _ {D : Type 0} {m : Meaning D} (files : ℕ → List ℕ) where
  -- the newest backup of a chain that gives a database
  pub gives_backup : (incs : List Increment) (file n : ℕ) (d : D) → Gives m files file n incs d → (held : Payload D) × IsBackup m files file n held
  gives_backup [] file n d x = (Whole d, x)
  gives_backup (i ∷ older) file n d x = (Since i, x.0)

  pub fails_backup : (b : List Increment) (file n at : ℕ) → FailsAt m files file n b at → (held : Payload D) × IsBackup m files file n held
  fails_backup [] file n at x = absurd x
  fails_backup (i ∷ b) file n at x = (Since i, x.0)

module _ {D : Type 0} {m : Meaning D} (law : IsMeaning m) where
  -- a payload holds one thing
  pub one_held : (bytes : List ℕ) (a b : Payload D) → IsPayload m bytes a → IsPayload m bytes b → a ≡ b
  one_held bytes (Whole d) b s t = sym (only_whole law bytes d s b t)
  one_held bytes (Since i) b s t = sym (only_since law bytes i s (alone bytes i s) b [] (subst (λ (whole : List ℕ). IsPayload m whole b) (sym (append-nil bytes)) t)).0

  -- a file has one backup
  pub one_backup : (files : ℕ → List ℕ) (file n k : ℕ) (a b : Payload D) → IsBackup m files file n a → IsBackup m files file k b → (n ≡ k) × (a ≡ b)
  one_backup files file n k a b x y =
      let same = one_image file n k Backup (files file) x.payload y.payload x.image y.image in
      (same.0, one_held x.payload a b x.holds (subst (λ (bytes : List ℕ). IsPayload m bytes b) (sym same.1) y.holds))

  -- records make one database, or one of them is no transaction that may be made
  makes_one : (records : List (List ℕ)) (base d e : D) → Makes m base records d → Makes m base records e → d ≡ e
  makes_one [] base d e x y = x ∙ sym y
  makes_one (bytes ∷ records) base d e x y =
      let same = one_entry bytes x.0 y.0 x.1 y.1 in
      makes_one records (m.after base x.0) d e x.3 (subst (λ (t : Entry). Makes m (m.after base t) records e) (sym same) y.3)

  makes_or_fails : (records : List (List ℕ)) (base d : D) → Makes m base records d → Fails m base records → ⊥
  makes_or_fails [] base d x y = y
  makes_or_fails (bytes ∷ records) base d x (inl unfit) = unfit x.0 x.1 x.2
  makes_or_fails (bytes ∷ records) base d x (inr y) =
      let same = one_entry bytes x.0 y.0 x.1 y.1 in
      makes_or_fails records (m.after base x.0) d x.3 (subst (λ (t : Entry). Fails m (m.after base t) records) (sym same) y.3)

  module _ (files : ℕ → List ℕ) where
    -- a file with an increment's backup has no other
    same_since : (file n k : ℕ) (i j : Increment) → IsBackup m files file n (Since i) → IsBackup m files file k (Since j) → i ≡ j
    same_since file n k i j x y = same_increment {D = D} i j (one_backup files file n k (Since i) (Since j) x y).1

    not_whole : (file n k : ℕ) (d : D) (i : Increment) → IsBackup m files file n (Whole d) → IsBackup m files file k (Since i) → ⊥
    not_whole file n k d i x y = not_both {D = D} d i (one_backup files file n k (Whole d) (Since i) x y).1

    pub gives_one : (a b : List Increment) (file n k : ℕ) (d e : D) → Gives m files file n a d → Gives m files file k b e → d ≡ e
    gives_one [] [] file n k d e x y = same_whole d e (one_backup files file n k (Whole d) (Whole e) x y).1
    gives_one [] (j ∷ b) file n k d e x y = absurd (not_whole file n k d j x y.0)
    gives_one (i ∷ a) [] file n k d e x y = absurd (not_whole file k n e i y x.0)
    gives_one (i ∷ a) (j ∷ b) file n k d e x y =
        let same = same_since file k n j i y.0 x.0 in
        let z : Gives m files i.after i.number b y.2.0 = subst (λ (t : Increment). Gives m files t.after t.number b y.2.0) same y.2.1 in
        let made : Makes m y.2.0 i.records e = subst (λ (t : Increment). Makes m y.2.0 t.records e) same y.2.2 in
        let base : x.2.0 ≡ y.2.0 = gives_one a b i.after i.number i.number x.2.0 y.2.0 x.2.1 z in
        makes_one i.records x.2.0 d e x.2.2 (subst (λ (t : D). Makes m t i.records e) (sym base) made)

    -- a backup that follows another as it should ends no chain
    end_or_follows : (file : ℕ) (j : Increment) → IsEnd m files file → Follows m files file j → ⊥
    end_or_follows file j (inl none) f = none f.number (Since j) f.backup
    end_or_follows file j (inr y) f = go (subst (λ (t : Increment). IsAstray m files file t) (same_since file y.0 f.number y.1 j y.2 f.backup) y.3)
      where
        go : IsAstray m files file j → ⊥
        go (inl late) = omega (arith, late, f.before)
        go (inr z) = z.3 (f.known z.0 z.1 z.2)

    -- nor does one whose chain has a backup of the number that it says
    end_or_known : (file n k : ℕ) (j : Increment) (held : Payload D) → IsEnd m files file → IsBackup m files file n (Since j) → j.after < file → IsBackup m files j.after j.number held → ⊥
    end_or_known file n k j held (inl none) backup before known = none n (Since j) backup
    end_or_known file n k j held (inr y) backup before known = go (subst (λ (t : Increment). IsAstray m files file t) (same_since file y.0 n y.1 j y.2 backup) y.3)
      where
        go : IsAstray m files file j → ⊥
        go (inl late) = omega (arith, late, before)
        go (inr z) = z.3 (one_backup files j.after z.0 j.number z.1 held z.2 known).0

    pub gives_or_ends : (a b : List Increment) (file n at : ℕ) (d : D) → Gives m files file n a d → EndsAt m files file b at → ⊥
    gives_or_ends [] [] file n at d x y = go y.1
      where
        go : IsEnd m files file → ⊥
        go (inl none) = none n (Whole d) x
        go (inr z) = not_whole file n z.0 d z.1 x z.2
    gives_or_ends [] (j ∷ b) file n at d x y = not_whole file n y.0.number d j x y.0.backup
    gives_or_ends (i ∷ a) [] file n at d x y =
        let below = gives_backup {m = m} files a i.after i.number x.2.0 x.2.1 in
        end_or_known file n n i below.0 y.1 x.0 x.1 below.1
    gives_or_ends (i ∷ a) (j ∷ b) file n at d x y =
        let same = same_since file y.0.number n j i y.0.backup x.0 in
        gives_or_ends a b i.after i.number at x.2.0 x.2.1 (subst (λ (t : Increment). EndsAt m files t.after b at) same y.1)

    below_fails : (i : Increment) (b : List Increment) (file at : ℕ) → FailsAt m files i.after i.number b at ⊎ ((at ≡ file) × ((base : D) × Gives m files i.after i.number b base × Fails m base i.records)) → (held : Payload D) × IsBackup m files i.after i.number held
    below_fails i b file at (inl deeper) = fails_backup {m = m} files b i.after i.number at deeper
    below_fails i b file at (inr here) = gives_backup {m = m} files b i.after i.number here.1.0 here.1.1

    pub gives_or_fails : (a b : List Increment) (file n k at : ℕ) (d : D) → Gives m files file n a d → FailsAt m files file k b at → ⊥
    gives_or_fails a [] file n k at d x y = y
    gives_or_fails [] (j ∷ b) file n k at d x y = not_whole file n k d j x y.0
    gives_or_fails (i ∷ a) (j ∷ b) file n k at d x y =
        let same = same_since file k n j i y.0 x.0 in
        go (λ deeper. gives_or_fails a b i.after i.number i.number at x.2.0 x.2.1 deeper) (subst (λ (t : Increment). FailsAt m files t.after t.number b at ⊎ ((at ≡ file) × ((base : D) × Gives m files t.after t.number b base × Fails m base t.records))) same y.2)
      where
        go : (FailsAt m files i.after i.number b at → ⊥) → FailsAt m files i.after i.number b at ⊎ ((at ≡ file) × ((base : D) × Gives m files i.after i.number b base × Fails m base i.records)) → ⊥
        go below (inl deeper) = below deeper
        go below (inr here) =
            let base = gives_one b a i.after i.number i.number here.1.0 x.2.0 here.1.1 x.2.1 in
            makes_or_fails i.records x.2.0 d x.2.2 (subst (λ (t : D). Fails m t i.records) base here.1.2)

    ends_one : (a b : List Increment) (file x y : ℕ) → EndsAt m files file a x → EndsAt m files file b y → x ≡ y
    ends_one [] [] file x y p q = p.0 ∙ sym q.0
    ends_one [] (j ∷ b) file x y p q = absurd (end_or_follows file j p.1 q.0)
    ends_one (i ∷ a) [] file x y p q = absurd (end_or_follows file i q.1 p.0)
    ends_one (i ∷ a) (j ∷ b) file x y p q =
        let same = same_since file q.0.number p.0.number j i q.0.backup p.0.backup in
        ends_one a b i.after x y p.1 (subst (λ (t : Increment). EndsAt m files t.after b y) same q.1)

    ends_or_fails : (a b : List Increment) (file k x y : ℕ) → EndsAt m files file a x → FailsAt m files file k b y → ⊥
    ends_or_fails a [] file k x y p q = q
    ends_or_fails [] (j ∷ b) file k x y p q = (let below = below_fails j b file y q.2 in end_or_known file k k j below.0 p.1 q.0 q.1 below.1)
    ends_or_fails (i ∷ a) (j ∷ b) file k x y p q =
        let same = same_since file k p.0.number j i q.0 p.0.backup in
        go (λ deeper. ends_or_fails a b i.after i.number x y p.1 deeper) (subst (λ (t : Increment). FailsAt m files t.after t.number b y ⊎ ((y ≡ file) × ((base : D) × Gives m files t.after t.number b base × Fails m base t.records))) same q.2)
      where
        go : (FailsAt m files i.after i.number b y → ⊥) → FailsAt m files i.after i.number b y ⊎ ((y ≡ file) × ((base : D) × Gives m files i.after i.number b base × Fails m base i.records)) → ⊥
        go below (inl deeper) = below deeper
        go below (inr here) = gives_or_ends b a i.after i.number x here.1.0 here.1.1 p.1

    fails_one : (a b : List Increment) (file n k x y : ℕ) → FailsAt m files file n a x → FailsAt m files file k b y → x ≡ y
    fails_one [] b file n k x y p q = absurd p
    fails_one (i ∷ a) [] file n k x y p q = absurd q
    fails_one (i ∷ a) (j ∷ b) file n k x y p q =
        let same = same_since file k n j i q.0 p.0 in
        go (λ p q. fails_one a b i.after i.number i.number x y p q) p.2 (subst (λ (t : Increment). FailsAt m files t.after t.number b y ⊎ ((y ≡ file) × ((base : D) × Gives m files t.after t.number b base × Fails m base t.records))) same q.2)
      where
        go : (FailsAt m files i.after i.number a x → FailsAt m files i.after i.number b y → x ≡ y) → FailsAt m files i.after i.number a x ⊎ ((x ≡ file) × ((base : D) × Gives m files i.after i.number a base × Fails m base i.records))
            → FailsAt m files i.after i.number b y ⊎ ((y ≡ file) × ((base : D) × Gives m files i.after i.number b base × Fails m base i.records)) → x ≡ y
        go below (inl p) (inl q) = below p q
        go below (inl p) (inr q) = absurd (gives_or_fails b a i.after i.number i.number x q.1.0 q.1.1 p)
        go below (inr p) (inl q) = absurd (gives_or_fails a b i.after i.number i.number y p.1.0 p.1.1 q)
        go below (inr p) (inr q) = p.0 ∙ sym q.0

    pub one : (file : ℕ) (d other : D) → IsGiven m files file d → IsGiven m files file other → d ≡ other
    one file d other x y = gives_one x.increments y.increments file x.number y.number d other x.gives y.gives

    pub whole : (file at : ℕ) (d : D) → IsGiven m files file d → IsBrokenAt m files file at → ⊥
    whole file at d x (inl y) = gives_or_ends x.increments y.0 file x.number at d x.gives y.1
    whole file at d x (inr y) = gives_or_fails x.increments y.1 file x.number y.0 at d x.gives y.2

    pub place : (file at other : ℕ) → IsBrokenAt m files file at → IsBrokenAt m files file other → at ≡ other
    place file at other (inl x) (inl y) = ends_one x.0 y.0 file at other x.1 y.1
    place file at other (inl x) (inr y) = absurd (ends_or_fails x.0 y.1 file y.0 at other x.1 y.2)
    place file at other (inr x) (inl y) = absurd (ends_or_fails y.0 x.1 file x.0 other at y.1 x.2)
    place file at other (inr x) (inr y) = fails_one x.1 y.1 file x.0 y.0 at other x.2 y.2
