-- Bytes spell one payload at most.
use Rattle.std.proofs.Common.{◌≡◌, ℕ, List, [], ◌∷◌, ◌++◌, refl, sym, ap, subst, ◌∙◌}
use Rattle.std.proofs.lemmas.List.{append-nil}
use Rattle.fields.specs.Editions.{Edition, first_form, second_form}
use Rattle.entries.specs.Meaning.{Meaning, IsMeaning, Spells, form_byte}
use Rattle.backup_payloads.specs.Increments.{Increment, increment, IsIncrement, IsAlone}
use Rattle.backup_payloads.specs.Payloads.{IsPayload, IsOnly}
use Rattle.backup_payloads.specs.declared.payload.Payload.{Payload}
use Rattle.backup_payloads.specs.declared.payload.Payload.TheVariants.{Whole, Since}

-- ---- the first byte

abbrev first : List ℕ → ℕ
first [] = 0
first (byte ∷ rest) = byte

first_of_increment : (i : Increment) (rest : List ℕ) → first (increment.spell i ++ rest) ≡ 3
unfolding increment
first_of_increment i rest = refl

same_form : (f g : Edition) → form_byte f ≡ form_byte g → f ≡ g
same_form first_form first_form e = refl
same_form first_form second_form e = absurd cc
same_form second_form first_form e = absurd cc
same_form second_form second_form e = refl

no_form : (f : Edition) → form_byte f ≡ 3 → ⊥
no_form first_form e = absurd cc
no_form second_form e = absurd cc

module _ {D : Type 0} {m : Meaning D} (laws : IsMeaning m) where
  first_of_database : (form : Edition) (bytes : List ℕ) (d : D) → Spells m form bytes d → first bytes ≡ form_byte form
  first_of_database form bytes d s = ap first (s.1 ∙ (laws.begins form d s.0).1)

  -- no database's spelling begins with an increment's
  apart : (form : Edition) (bytes rest : List ℕ) (d : D) (i : Increment) → Spells m form (bytes ++ rest) d → IsIncrement bytes i → ⊥
  apart form bytes rest d i s t =
      no_form form (sym (first_of_database form (bytes ++ rest) d s) ∙ ap (λ (front : List ℕ). first (front ++ rest)) t.1 ∙ first_of_increment i rest)

  -- bytes are one database's at most, in one form
  one_database : (f g : Edition) (bytes : List ℕ) (d e : D) → Spells m f bytes d → Spells m g bytes e → e ≡ d
  one_database f g bytes d e s t =
      let form : g ≡ f = same_form g f (sym (first_of_database g bytes e t) ∙ first_of_database f bytes d s) in
      let u : Spells m f bytes e = subst (λ (h : Edition). Spells m h bytes e) form t in
      laws.one f e d u.0 s.0 (sym u.1 ∙ s.1)

  pub only_whole : (bytes : List ℕ) (d : D) → IsPayload m bytes (Whole d) → IsOnly m bytes (Whole d)
  only_whole bytes d s (Whole e) t = ap Whole (one_database s.0 t.0 bytes d e s.1 t.1)
  only_whole bytes d s (Since i) t = absurd (apart s.0 bytes [] d i (subst (λ (whole : List ℕ). Spells m s.0 whole d) (sym (append-nil bytes)) s.1) t)

  pub only_since : (bytes : List ℕ) (i : Increment) → IsIncrement bytes i → IsAlone bytes i → IsOnly m bytes (Since i)
  only_since bytes i s alone (Whole e) rest t = absurd (apart t.0 bytes rest e i t.1 s)
  only_since bytes i s alone (Since j) rest t =
      let same = alone j rest t.0 t.1 in
      (ap Since same.0, same.1)

-- bytes that spell no increment and no database spell no payload
pub none_of : {D : Type 0} (m : Meaning D) (bytes : List ℕ) → ((i : Increment) → IsIncrement bytes i → ⊥) → ((form : Edition) (d : D) → Spells m form bytes d → ⊥) → (p : Payload D) → IsPayload m bytes p → ⊥
none_of m bytes alone whole (Whole d) s = whole s.0 d s.1
none_of m bytes alone whole (Since i) s = alone i s
