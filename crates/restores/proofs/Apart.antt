-- Of versions that stand by path no two are chosen of one path.
use Rattle.std.proofs.Common.{◌≡◌, ◌≢◌, ◌⊎◌, inl, inr, ℕ, Bool, true, false, cond, if◌then◌else◌, List, [], ◌∷◌, map, filter, Option, None, Some, refl, sym, subst, ◌∙◌, true≢false}
use Rattle.std.proofs.lemmas.Cmp.{nat_list_cmp_total, nat_list_eq_equiv, tied_itself}
use Rattle.std.specs.Cmp.Lexicographic.{slice_cmp}
use Rattle.std.specs.List.{AllByRecursion}
use Rattle.std.specs.Ordering.{nat_cmp}
use Rattle.std.specs.declared.cmp.Ordering.TheVariants.{Equal, Less}
use Rattle.kinds.specs.Names.{is_same_name}
use Rattle.inventory_answers.specs.declared.lines.VersionLine.{VersionLine}
use Rattle.restores.specs.Chosen.{asks, chosen, firsts, is_last, line_of}
use Rattle.restores.specs.Standing.{AreApart, Ascend, AscendFrom, IsNoneOf}
use Rattle.restores.specs.declared.choosing.RestoreLine.{RestoreLine}
use Rattle.restores.specs.declared.choosing.Which.{Which}

-- ---- those that are asked

all-filter : (P : VersionLine → Type 0) (p : VersionLine → Bool) (lines : List VersionLine) → AllByRecursion P lines → AllByRecursion P (filter p lines)
all-filter P p [] h = tt
all-filter P p (l ∷ lines) h = elim (p l) as (λ b. AllByRecursion P (cond b (l ∷ filter p lines) (filter p lines))) [
  | true ↦ (h.0, all-filter P p lines h.1)
  | false ↦ all-filter P p lines h.1
]

ascend-filter : (p : VersionLine → Bool) (lines : List VersionLine) → Ascend lines → Ascend (filter p lines)
ascend-filter p [] h = tt
ascend-filter p (l ∷ lines) h = elim (p l) as (λ b. Ascend (cond b (l ∷ filter p lines) (filter p lines))) [
  | true ↦ (all-filter (λ (m : VersionLine). (l.path ≡ m.path) ⊎ (slice_cmp nat_cmp l.path m.path ≡ Less)) p lines h.0, ascend-filter p lines h.1)
  | false ↦ ascend-filter p lines h.1
]

-- ---- the first of each path

-- objects that are restored to paths behind this one
abbrev AreBehind : List ℕ → List RestoreLine → Type 0
AreBehind path rows = AllByRecursion (λ (r : RestoreLine). slice_cmp nat_cmp path r.path ≡ Less) rows

behind-too : (p q : List ℕ) (rows : List RestoreLine) → slice_cmp nat_cmp p q ≡ Less → AreBehind q rows → AreBehind p rows
behind-too p q [] less h = tt
behind-too p q (r ∷ rows) less h = (nat_list_cmp_total.trans p q r.path less h.0, behind-too p q rows less h.1)

other-less : (p q : List ℕ) → (p ≡ q) ⊎ (slice_cmp nat_cmp p q ≡ Less) → is_same_name p q ≡ false → slice_cmp nat_cmp p q ≡ Less
other-less p q (inl same) other = absurd (true≢false (sym (subst (λ (x : List ℕ). is_same_name p x ≡ true) same (nat_list_eq_equiv.refl p)) ∙ other))
other-less p q (inr less) other = less

behind-last : (p : List ℕ) (lines : List VersionLine) → AscendFrom p lines → Ascend lines → AreBehind p (map line_of (firsts (Some p) lines))
behind-last p [] from ascend = tt
behind-last p (l ∷ lines) from ascend =
    elim (is_same_name p l.path) as (λ b. is_same_name p l.path ≡ b → AreBehind p (map line_of (if b then firsts (Some p) lines else l ∷ firsts (Some l.path) lines))) [
      | true ↦ λ same. behind-last p lines from.1 ascend.1
      | false ↦ λ other. let less : slice_cmp nat_cmp p l.path ≡ Less = other-less p l.path from.0 other in (less, behind-too p l.path (map line_of (firsts (Some l.path) lines)) less (behind-last l.path lines ascend.0 ascend.1))
    ] refl

other-path : (p q : List ℕ) → slice_cmp nat_cmp p q ≡ Less → p ≢ q
other-path p q less same = never-both (sym less ∙ subst (λ (x : List ℕ). slice_cmp nat_cmp p x ≡ Equal) same (tied_itself nat_list_cmp_total p))
  where
    never-both : Less ≡ Equal → ⊥
    never-both h = cc

none-of : (p : List ℕ) (rows : List RestoreLine) → AreBehind p rows → IsNoneOf p rows
none-of p [] h = tt
none-of p (r ∷ rows) h = (other-path p r.path h.0, none-of p rows h.1)

firsts-apart : (last : Option (List ℕ)) (lines : List VersionLine) → Ascend lines → AreApart (map line_of (firsts last lines))
firsts-apart last [] ascend = tt
firsts-apart last (l ∷ lines) ascend = elim (is_last last l.path) as (λ b. AreApart (map line_of (if b then firsts last lines else l ∷ firsts (Some l.path) lines))) [
  | true ↦ firsts-apart last lines ascend.1
  | false ↦ (none-of l.path (map line_of (firsts (Some l.path) lines)) (behind-last l.path lines ascend.0 ascend.1), firsts-apart (Some l.path) lines ascend.1)
]

pub chosen-apart : (which : Which) (lines : List VersionLine) → Ascend lines → AreApart (chosen which lines)
chosen-apart which lines ascend = firsts-apart None (filter (asks which) lines) (ascend-filter (asks which) lines ascend)
