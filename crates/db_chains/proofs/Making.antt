-- The transactions of an increment are made one after another.
use Rattle.std.proofs.Common.{◌≡◌, inl, inr, ℕ, Bool, true, false, List, [], ◌∷◌, Result, Ok, Err, IfOk, refl, sym, subst}
use Rattle.kinds.specs.declared.refusal.Refusal.{Refusal}
use Rattle.entries.specs.declared.entry.Entry.{Entry}
use Rattle.entries.specs.EntryForm.{Spells}
use Rattle.entries.specs.Meaning.{Meaning, IsMeaning, IsLegal}
use Rattle.backup_payloads.specs.Increments.{Increment, IsIncrement}
use Rattle.db_chains.specs.Chains.{Makes, Fails, IsUnfit}
use Rattle.db_chains.specs.Making.{MakesEntry, MakesOne, MakesAll}
use Rattle.db_chains.proofs.Unique.{one_entry, one_increment}

module _ {D : Type 0} (m : Meaning D) where
  pub made_one : (bytes : List ℕ) (e : Entry) (old new : D) (result : Result Bool Refusal) → Spells bytes e → IfOk result (MakesEntry m e old new) → IfOk result (MakesOne m bytes old new)
  made_one bytes e old new (Ok true) spells is = (e, spells, is.0, is.1)
  made_one bytes e old new (Ok false) spells is = λ other also legal. is (subst (IsLegal m old) (one_entry bytes other e also spells) legal)
  made_one bytes e old new (Err refusal) spells is = tt

  -- what the records that are left make or fail by, all of them do
  pub record IsLeft (base : D) (records : List (List ℕ)) (d : D) (left : List (List ℕ)) : Type 0 where
    pub makes : (other : D) → Makes m d left other → Makes m base records other
    pub fails : Fails m d left → Fails m base records

  pub all_left : (base : D) (records : List (List ℕ)) → IsLeft base records base records
  all_left base records = record { makes = λ other x. x; fails = λ x. x }

  pub one_less : (base : D) (records : List (List ℕ)) (d next : D) (left rest : List (List ℕ)) (bytes : List ℕ) → IsLeft base records d left → left ≡ bytes ∷ rest → MakesOne m bytes d next true → IsLeft base records next rest
  one_less base records d next left rest bytes is parts made = record {
    makes = λ other x. is.makes other (subst (λ (l : List (List ℕ)). Makes m d l other) (sym parts) (made.0, made.1, made.2, subst (λ (n : D). Makes m n rest other) made.3 x));
    fails = λ x. is.fails (subst (Fails m d) (sym parts) (inr (made.0, made.1, made.2, subst (λ (n : D). Fails m n rest) made.3 x)));
  }

  pub fails_here : (base : D) (records : List (List ℕ)) (d : D) (left rest : List (List ℕ)) (bytes : List ℕ) → IsLeft base records d left → left ≡ bytes ∷ rest → IsUnfit m d bytes → Fails m base records
  fails_here base records d left rest bytes is parts unfit = is.fails (subst (Fails m d) (sym parts) (inl unfit))

  pub none_left : (base : D) (records : List (List ℕ)) (d : D) (left : List (List ℕ)) → IsLeft base records d left → left ≡ [] → Makes m base records d
  none_left base records d left is none = is.makes d (subst (λ (l : List (List ℕ)). Makes m d l d) (sym none) refl)

  -- what holds of the one increment that the bytes are holds of each
  pub of_each : (bytes : List (List ℕ)) (old new : D) (all : Bool) → MakesAll m bytes old new all → (other : List (List ℕ)) → other ≡ bytes → MakesAll m other old new all
  of_each bytes old new all made other same = subst (λ (l : List (List ℕ)). MakesAll m l old new all) (sym same) made

-- what was made of the increment that the bytes spell was made of each that they spell
pub of_increment : {D : Type 0} {m : Meaning D} (law : IsMeaning m) (bytes : List ℕ) (i : Increment) (old new : D) (result : Result Bool Refusal) → IsIncrement bytes i → IfOk result (MakesAll m i.records old new)
    → IfOk result (λ all. (j : Increment) → IsIncrement bytes j → MakesAll m j.records old new all)
of_increment {D} {m} law bytes i old new (Ok all) is made = λ j also. subst (λ (k : Increment). MakesAll m k.records old new all) (sym (one_increment law bytes i j is also)) made
of_increment law bytes i old new (Err refusal) is made = tt
