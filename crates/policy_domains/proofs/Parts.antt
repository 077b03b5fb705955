-- What is made of a part is made of the whole.
use Rattle.std.proofs.Common.{◌≡◌, ℕ, Bool, true, false, is_some, if◌then◌else◌, List, Option, Some, None, Result, Ok, Err, refl, ap, sym, subst, ◌∙◌, inl}
use Rattle.std.proofs.lemmas.Map.Steps.{set_value_same}
use Rattle.std.specs.BTreeMap.{is_at}
use Rattle.std.specs.Cmp.Lexicographic.{slice_cmp}
use Rattle.std.specs.Ordering.{nat_cmp}
use Rattle.std.specs.Result.{result_err}
use Rattle.kinds.specs.declared.change.Verb.TheVariants.{Define, Update, Delete}
use Rattle.kinds.specs.declared.refusal.Refusal.{Refusal}
use Rattle.kinds.specs.declared.refusal.Refusal.TheVariants.{NotFound, Exists, NoDefaultClass}
use Rattle.kinds.specs.Answers.{Becomes}
use Rattle.policy_domains.specs.Makings.{IsAsSaid, Brings}
use Rattle.policy_domains.specs.Rows.{SetRow, DomainRow, active_set, row_of, with_row, without_row, with_value, within, defined, deleted, changed_row, changed}
use Rattle.policy_domains.specs.Sets.{to_activate, activated}
use Rattle.policy_domains.specs.Changes.{IsRefusedLike}
use Rattle.policy_domains.specs.Groups.{group_changed}

same_ok : {S : Type 0} (x y : S) → (let a : Result S Refusal = Ok x in let b : Result S Refusal = Ok y in a ≡ b) → x ≡ y
same_ok x y h = cc

-- what a step makes, put in its place
pub within_said : {V W : Type 0} (place : V → W) (w : V) (new : W) (step : Result V Refusal) → new ≡ place w → IsAsSaid w step → IsAsSaid new (within place step)
within_said place w new (Ok v) put said = λ s h. put ∙ ap place (said v refl) ∙ same_ok (place v) s h
within_said place w new (Err e) put said = λ s h. absurd (cc)

-- what a step makes of the row that was found is what the change makes of the rows
pub said_changed : {V : Type 0} (name : List ℕ) (step : V → Result V Refusal) (rows new : List (List ℕ × V)) (v w : V)
    → Some v ≡ row_of name rows → new ≡ with_value name w rows → IsAsSaid w (step v) → IsAsSaid new (changed name step rows)
said_changed name step rows new v w found put said =
    subst (λ (o : Option _). IsAsSaid new (changed_row name step rows o)) found (within_said (λ x. with_value name x rows) w new (step v) put said)

pub brings_changed : {A V : Type 0} (name : List ℕ) (step : V → Result V Refusal) (rows new : List (List ℕ × V)) (v w : V) (result : Result A Refusal)
    → Some v ≡ row_of name rows → new ≡ with_value name w rows → Brings result v w (step v) → Brings result rows new (changed name step rows)
brings_changed name step rows new v w (Ok a) found put said = said_changed name step rows new v w found put said
brings_changed name step rows new v w (Err e) found put said = (put ∙ ap (λ x. with_value name x rows) said.0 ∙ set_value_same (is_at (slice_cmp nat_cmp name)) rows v (sym found), said.1)

-- a row comes or goes
pub row_defined : {V : Type 0} (name : List ℕ) (v : V) (rows new : List (List ℕ × V)) → new ≡ with_row name v rows → IsAsSaid new (defined name v rows)
row_defined name v rows new h =
    elim (is_some (row_of name rows)) as (λ b. IsAsSaid new (if b then Err Exists else Ok (with_row name v rows))) [
      | true ↦ λ s no. absurd (cc)
      | false ↦ λ s said. h ∙ same_ok (with_row name v rows) s said
    ]

pub row_deleted : {V : Type 0} (name : List ℕ) (rows new : List (List ℕ × V)) → new ≡ without_row name rows → IsAsSaid new (deleted name rows)
row_deleted name rows new h =
    elim (is_some (row_of name rows)) as (λ b. IsAsSaid new (if b then Ok (without_row name rows) else Err NotFound)) [
      | true ↦ λ s said. h ∙ same_ok (without_row name rows) s said
      | false ↦ λ s no. absurd (cc)
    ]

-- a copy group comes, is replaced or goes
pub group_put : {R : Type 0} (rule : R) (there : Option R) → IsAsSaid (Some rule) (group_changed Define rule there)
group_put rule None = λ s h. same_ok (Some rule) s h
group_put rule (Some r) = λ s h. absurd (cc)

pub group_replaced : {R : Type 0} (rule : R) (there : Option R) → IsAsSaid (Some rule) (group_changed Update rule there)
group_replaced rule None = λ s h. absurd (cc)
group_replaced rule (Some r) = λ s h. same_ok (Some rule) s h

pub group_deleted : {R : Type 0} (rule : R) (there : Option R) → IsAsSaid None (group_changed Delete rule there)
group_deleted rule None = λ s h. absurd (cc)
group_deleted rule (Some r) = λ s h. same_ok None s h

-- what is there is changed, or nothing is
pub said_where : {S : Type 0} (there : Bool) (e : Refusal) (made new : S) → new ≡ made → IsAsSaid new (if there then Ok made else Err e)
said_where true e made new h = λ s said. h ∙ same_ok made s said
said_where false e made new h = λ s no. absurd (cc)

pub said_itself : {S : Type 0} (s : S) → IsAsSaid s (Ok s)
said_itself s = λ t said. same_ok s t said

-- a set that is there is activated
pub set_activated : (set : List ℕ) (row new : DomainRow) (copy : SetRow) → Some copy ≡ row_of set row.sets → new ≡ record { back_retention = row.back_retention; sets = with_row active_set copy row.sets } → IsAsSaid new (activated set row)
set_activated set row new copy found h = subst (λ (o : Option SetRow). IsAsSaid new (within place (to_activate o))) found (go (is_some copy.default_class)) where
  place : SetRow → DomainRow
  place c = record { back_retention = row.back_retention; sets = with_row active_set c row.sets }

  go : (b : Bool) → IsAsSaid new (within place (if b then Ok copy else Err NoDefaultClass))
  go true = λ s said. h ∙ same_ok (place copy) s said
  go false = λ s no. absurd (cc)

pub none_activated : (set : List ℕ) (row : DomainRow) → None ≡ row_of set row.sets → IsAsSaid row (activated set row)
none_activated set row found =
    subst (λ (o : Option SetRow). IsAsSaid row (within (λ copy. record { back_retention = row.back_retention; sets = with_row active_set copy row.sets }) (to_activate o))) found (λ s no. absurd (cc))

-- a change that is refused, and one that is not
pub refused : {S : Type 0} (e : Refusal) (said : Result S Refusal) → Some e ≡ result_err said → said ≡ Err e
refused e (Ok s) h = absurd (cc)
refused e (Err f) h = cc

pub made : {A S : Type 0} (result : Result A Refusal) (old new : S) (said : Result S Refusal) → None ≡ result_err said → Brings result old new said → Becomes result old new said
made (Ok a) old new (Ok s) h said = ap Ok (sym (said s refl))
made (Ok a) old new (Err e) h said = absurd (cc)
made (Err e) old new said h kept = (kept.0, inl kept.1)

pub not_refused_like : {A S : Type 0} (a : A) (said : Result S Refusal) → None ≡ result_err said → IsRefusedLike (Ok a) said
not_refused_like a (Ok s) h = tt
not_refused_like a (Err e) h = absurd (cc)
