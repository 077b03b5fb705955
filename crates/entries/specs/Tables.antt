-- Tables of tags that are made of others.
use Rattle.std.specs.Prelude.{◌≡◌, ℕ, Bool, true, false, List, Option, Some}
use Rattle.std.proofs.Common.{sym, ap, ◌∙◌}
use Rattle.std.proofs.lemmas.Option.{same_Some}
use Rattle.fields.specs.Forms.{Form, choose, variant}
use Rattle.fields.specs.FieldLaws.{bind_some}
use Rattle.fields.specs.FormLaws.{IsRow, IsTable, variant_form}

-- what one table says of these tags, and else what the other says
abbrev pub rows : {X : Type 0} → (ℕ → Bool) → (ℕ → Form X) → (ℕ → Form X) → ℕ → Form X
rows among these others tag = choose (among tag) (these tag) (others tag)

-- a table of the values that one variant of an enum holds
abbrev pub held : {A B : Type 0} → (A → B) → (B → Option A) → (ℕ → Form A) → ℕ → Form B
held inject project body tag = variant inject project (body tag)

-- ---- laws

pub rows_table : {X : Type 0} {tag_of : X → ℕ} {these others : ℕ → Form X} (among : ℕ → Bool) → IsTable tag_of these → IsTable tag_of others → IsTable tag_of (rows among these others)
rows_table {X} {tag_of} {these} {others} among here there = record { at = λ tag. at tag (among tag) } where
  at : (tag : ℕ) (b : Bool) → IsRow tag_of tag (choose b (these tag) (others tag))
  at tag true = here.at tag
  at tag false = there.at tag

pub held_table : {A B : Type 0} {inner : A → ℕ} {body : ℕ → Form A} (outer : B → ℕ) (inject : A → B) (project : B → Option A)
    → ((a : A) → outer (inject a) ≡ inner a) → ((a : A) → project (inject a) ≡ Some a) → ((b : B) (a : A) → project b ≡ Some a → inject a ≡ b)
    → IsTable inner body → IsTable outer (held inject project body)
held_table {A} {B} {inner} {body} outer inject project told there back table = record { at = at } where
  tells : (tag : ℕ) (bytes : List ℕ) (read : B × List ℕ) → (variant inject project (body tag)).read bytes ≡ Some read → outer read.0 ≡ tag
  tells tag bytes read e =
      let a = bind_some ((body tag).read bytes) (λ x. Some (inject x.0, x.1)) read e in
      ap (λ (x : B × List ℕ). outer x.0) (sym (same_Some (inject a.0.0, a.0.1) read a.2)) ∙ told a.0.0 ∙ (table.at tag).tells bytes a.0 a.1

  at : (tag : ℕ) → IsRow outer tag (variant inject project (body tag))
  at tag = record { form = variant_form inject project there back (table.at tag).form; tells = tells tag }
