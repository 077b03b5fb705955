-- Rows of which a part isn't spelled.
use Rattle.std.proofs.Common.{◌≡◌, ℕ, suc, ◌&&◌, Bool, List, [], ◌∷◌, map, Option, Some, None, refl, ap}
use Rattle.std.specs.Prelude.{length}
use Rattle.std.specs.List.{AllByRecursion}
use Rattle.std.specs.Ordering.{nat_cmp}
use Rattle.fields.specs.Forms.{is_ascending, is_behind}
use Rattle.inventory_bytes.specs.Tables.{FitTable}

module _ {V : Type 0} (left : V → V) where
  -- the rows without the part
  abbrev rows : List (ℕ × V) → List (ℕ × V)
  rows es = map (λ e. (e.0, left e.1)) es

  each_left : (P : ℕ → Type 0) (Q : V → Type 0) (es : List (ℕ × V)) → AllByRecursion (λ (e : ℕ × V). P e.0 × Q (left e.1)) es → AllByRecursion (λ (e : ℕ × V). P e.0 × Q e.1) (rows es)
  each_left P Q [] each = tt
  each_left P Q (e ∷ es) each = (each.0, each_left P Q es each.1)

  ascend_left : (last : Option ℕ) (es : List (ℕ × V)) → is_ascending nat_cmp last (rows es) ≡ is_ascending nat_cmp last es
  ascend_left last [] = refl
  ascend_left last (e ∷ es) = ap (λ (b : Bool). is_behind nat_cmp last e.0 && b) (ascend_left (Some e.0) es)

  length_left : (es : List (ℕ × V)) → length (rows es) ≡ length es
  length_left [] = refl
  length_left (e ∷ es) = ap suc (length_left es)

  -- what fits without the part fits once it is gone
  pub table_left : (P : ℕ → Type 0) (Q : V → Type 0) (es : List (ℕ × V)) → FitTable nat_cmp P (λ v. Q (left v)) es → FitTable nat_cmp P Q (rows es)
  table_left P Q es fit = ((rw (length_left es) fit.0.0, rw (length_left es) fit.0.1, each_left P Q es fit.0.2), rw (ascend_left None es) fit.1)
