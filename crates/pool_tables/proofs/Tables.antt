-- What is done to a row that was found is done to the table.
use Rattle.std.proofs.Common.{◌≡◌, ◌⊎◌, inl, inr, ℕ, Bool, true, false, cond, List, [], ◌∷◌, Option, Some, None, Result, Ok, Err, refl, sym, ap, ◌∙◌}
use Rattle.std.specs.Result.{OnOk}
use Rattle.std.specs.Map.{lookup, set_value}
use Rattle.std.specs.BTreeMap.{is_at}
use Rattle.std.specs.Ordering.{nat_cmp}
use Rattle.std.proofs.lemmas.Map.Steps.{set_value_same}
use Rattle.volume_rows.specs.kinds.declared.refusal.Refusal.{Refusal}
use Rattle.volume_rows.specs.kinds.declared.refusal.Refusal.TheVariants.{Memory}
use Rattle.volume_rows.specs.kinds.Answers.{Becomes, Makes}
use Rattle.pool_tables.specs.Rows.{row_at, set_row, edited, edit_row, row_set, changed, change_row}

said_or_memory : {S T : Type 0} (e : Refusal) (said : Result S Refusal) (other : Result T Refusal) → (said ≡ Err e → other ≡ Err e)
    → (e ≡ Memory) ⊎ (said ≡ Err e) → (e ≡ Memory) ⊎ (other ≡ Err e)
said_or_memory e said other f (inl m) = inl m
said_or_memory e said other f (inr h) = inr (f h)

pub becomes_change : {A V : Type 0} (number : ℕ) (change : V → Result V Refusal) (rows new : List (ℕ × V)) (v w : V) (result : Result A Refusal)
    → Some v ≡ row_at number rows → new ≡ set_row number w rows → Becomes result v w (change v) → Becomes result rows new (change_row number change rows)
becomes_change number change rows new v w (Ok a) found put said =
    ap (changed number change rows) (sym found) ∙ ap (row_set number rows) said ∙ ap Ok (sym put)
becomes_change number change rows new v w (Err e) found put said = (
  put ∙ ap (λ x. set_row number x rows) said.0 ∙ set_value_same (is_at (nat_cmp number)) rows v (sym found),
  said_or_memory e (change v) (change_row number change rows)
      (λ h. ap (changed number change rows) (sym found) ∙ ap (row_set number rows) h) said.1,
)

pub makes_change : {A V : Type 0} (number : ℕ) (change : V → Result V Refusal) (rows new : List (ℕ × V)) (v w : V) (result : Result A Refusal)
    → Some v ≡ row_at number rows → new ≡ set_row number w rows → Makes result v w (change v) → Makes result rows new (change_row number change rows)
makes_change number change rows new v w (Ok a) found put said =
    ap (changed number change rows) (sym found) ∙ ap (row_set number rows) said ∙ ap Ok (sym put)
makes_change number change rows new v w (Err e) found put said = (
  put ∙ ap (λ x. set_row number x rows) said.0 ∙ set_value_same (is_at (nat_cmp number)) rows v (sym found),
  ap (changed number change rows) (sym found) ∙ ap (row_set number rows) said.1,
)

pub edit_found : {V : Type 0} (number : ℕ) (edit : V → V) (rows new : List (ℕ × V)) (v w : V) → Some v ≡ row_at number rows → new ≡ set_row number w rows → w ≡ edit v → new ≡ edit_row number edit rows
edit_found number edit rows new v w found put e = put ∙ ap (λ x. set_row number x rows) e ∙ ap (edited number edit rows) found

pub edit_none : {V : Type 0} (number : ℕ) (edit : V → V) (rows new : List (ℕ × V)) → None ≡ row_at number rows → new ≡ rows → new ≡ edit_row number edit rows
edit_none number edit rows new found same = same ∙ ap (edited number edit rows) found

-- the value that has been set is there
pub lookup-set : {K X : Type 0} (test : K → Bool) (w v : X) (es : List (K × X)) → lookup test es ≡ Some w → lookup test (set_value test es v) ≡ Some v
lookup-set test w v [] h = absurd (cc)
lookup-set test w v (e ∷ es) h =
    elim (test e.0) as (λ b. test e.0 ≡ b → cond b (Some e.1) (lookup test es) ≡ Some w → lookup test (cond b ((e.0, v) ∷ es) (e ∷ set_value test es v)) ≡ Some v) [
      | true ↦ λ yes _. ap (λ b. cond b (Some v) (lookup test es)) yes
      | false ↦ λ no there. ap (λ b. cond b (Some e.1) (lookup test (set_value test es v))) no ∙ lookup-set test w v es there
    ] refl h

-- of two values set one after the other the second stays
pub set-set : {K X : Type 0} (test : K → Bool) (v w : X) (es : List (K × X)) → set_value test (set_value test es v) w ≡ set_value test es w
set-set test v w [] = refl
set-set test v w (e ∷ es) =
    elim (test e.0) as (λ b. test e.0 ≡ b → set_value test (cond b ((e.0, v) ∷ es) (e ∷ set_value test es v)) w ≡ cond b ((e.0, w) ∷ es) (e ∷ set_value test es w)) [
      | true ↦ λ yes. ap (λ b. cond b ((e.0, w) ∷ es) ((e.0, v) ∷ set_value test es w)) yes
      | false ↦ λ no. ap (λ b. cond b ((e.0, w) ∷ set_value test es v) (e ∷ set_value test (set_value test es v) w)) no ∙ ap (λ t. e ∷ t) (set-set test v w es)
    ] refl

-- a row that was changed, and whose change is undone, leaves the table as it was
pub undone_change : {A V : Type 0} (number : ℕ) (undo : Option V → V → V) (rows new : List (ℕ × V)) (v w : V) (result : Result A Refusal)
    → Some v ≡ row_at number rows → new ≡ set_row number w rows → OnOk result (undo (Some v) w ≡ v) → OnOk result (edit_row number (undo (row_at number rows)) new ≡ rows)
undone_change {A} {V} number undo rows new v w (Ok a) found put back =
    ap (edit_row number (undo (row_at number rows))) put
    ∙ ap (edited number (undo (row_at number rows)) (set_row number w rows)) (lookup-set (is_at (nat_cmp number)) v w rows (sym found))
    ∙ set-set (is_at (nat_cmp number)) w (undo (row_at number rows) w) rows
    ∙ ap (λ (o : Option V). set_row number (undo o w) rows) (sym found)
    ∙ ap (λ x. set_row number x rows) back
    ∙ set_value_same (is_at (nat_cmp number)) rows v (sym found)
undone_change number undo rows new v w (Err e) found put back = tt
