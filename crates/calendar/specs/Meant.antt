-- A calendar keeps the laws of a database.
use Rattle.std.proofs.Common.{◌≡◌, ℕ, ◌^◌, ◌<◌, ◌≤◌, List, [], ◌++◌, length, refl, sym, ap, ◌∙◌, arith}
use Rattle.std.proofs.lemmas.Bool.{ltb-true}
use Rattle.std.proofs.lemmas.Option.{same_Some}
use Rattle.fields.specs.Editions.{Edition, second_form}
use Rattle.entries.specs.Meaning.{IsMeaning}
use Rattle.calendar.specs.Dates.{Dated, dated, dated_form, unmarked, meaning}

-- two values with one spelling in a form are one
one : (form : Edition) (d other : Dated) → (dated form).Fits d → (dated form).Fits other → (dated form).spell d ≡ (dated form).spell other → d ≡ other
one form d other a b same =
    ap (λ (x : Dated × List ℕ). x.0) (same_Some (d, []) (other, []) (sym ((dated_form form).again d [] a) ∙ ap (λ (bytes : List ℕ). (dated form).read (bytes ++ [])) same ∙ (dated_form form).again other [] b))

few : (d : Dated) → (dated second_form).Fits d → d.number < 2 ^ 62
few d fits = ltb-true d.number (2 ^ 62) fits.1.1

memo_few : (d : Dated) → (dated second_form).Fits d → length d.memo ≤ 2 ^ 20
memo_few d fits = fits.1.0.1.1

pub is_meaning : IsMeaning meaning
is_meaning = record {
  next = λ d e. refl;
  one = one;
  begins = λ form d valid. ((unmarked form).spell d, refl);
  short = λ d valid. omega (arith, memo_few d valid);
  few = few;
}
