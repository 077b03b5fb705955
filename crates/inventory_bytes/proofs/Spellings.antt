-- How long the spellings of a form are at most, and the same of the forms that are made of others.
use Rattle.std.proofs.Common.{◌≡◌, ℕ, ◌+◌, ◌*◌, ◌≤◌, Bool, List, [], ◌∷◌, length, Option, Some, None, refl, ap, arith}
use Rattle.std.specs.Prelude.{◌&&◌, ◌-◌, ◌^◌, nat_lt, nat_le, unwrap_or}
use Rattle.std.specs.Int.{Width, byte_len}
use Rattle.std.specs.List.{flat_map, list_all, sum_by, AllByRecursion}
use Rattle.std.specs.declared.cmp.Ordering.{Ordering}
use Rattle.std.proofs.lemmas.Bool.{and_parts, leb-true}
use Rattle.std.proofs.lemmas.List.{length-append}
use Rattle.std.proofs.lemmas.List.Concat.{flat_map-cons}
use Rattle.std.proofs.lemmas.List.Sums.{sum_by-cons}
use Rattle.fields.specs.FieldLaws.{IsWide}
use Rattle.fields.specs.Forms.{Form, byte, number, block, text, pair, viewed, partly, variant, spell_part, FitsPart, only, marked, option, coded, limit, items, ascending}
use Rattle.kinds.specs.Names.{is_name_byte, is_within}
use Rattle.kinds.specs.Paths.{is_rooted, has_no_zero}
use Rattle.kinds.specs.ValueForms.{name, path, description}
use Rattle.std.specs.Str.{is_utf8}

-- each value that fits is spelled in at most so many bytes
pub record IsWithin {X : Type 0} (f : Form X) (most : X → ℕ) : Type 0 where
  pub bound : (x : X) → f.Fits x → length (f.spell x) ≤ most x

pub weakened : {X : Type 0} {f : Form X} {a b : X → ℕ} → IsWithin f a → ((x : X) → a x ≤ b x) → IsWithin f b
weakened {X} {f} {a} {b} law less = record { bound = λ x fits. omega (arith, law.bound x fits, less x) }

-- ---- single fields

pub byte_within : IsWithin byte (λ _. 1)
byte_within = record { bound = λ n fits. omega arith }

pub number_within : (w : Width) → IsWide w → IsWithin (number w) (λ _. byte_len w)
number_within w wide = record { bound = λ n fits. omega (arith, wide.len n) }

pub limit_within : (w : Width) → IsWide w → IsWithin (limit w) (λ _. byte_len w)
limit_within w wide = record { bound = λ o fits. omega (arith, wide.len (unwrap_or o (256 ^ byte_len w - 1))) }

pub block_within : (n : ℕ) → IsWithin (block n) (λ _. n)
block_within n = record { bound = λ bytes fits. omega (arith, fits) }

pub coded_within : {X : Type 0} (number_of : X → ℕ) (xs : List X) → IsWithin (coded number_of xs) (λ _. 1)
coded_within number_of xs = record { bound = λ x fits. omega arith }

text_length : (bytes : List ℕ) → length (text.spell bytes) ≡ 2 + length bytes
text_length bytes = omega arith

pub name_within : (most : ℕ) → IsWithin (name most) (λ _. 2 + most)
name_within most = record { bound = bound } where
  bound : (bytes : List ℕ) → (name most).Fits bytes → length ((name most).spell bytes) ≤ 2 + most
  bound bytes fits =
      let parts = and_parts (is_within most bytes) (list_all is_name_byte bytes) fits.1 in
      let sizes = and_parts (nat_lt 0 (length bytes)) (nat_le (length bytes) most) parts.0 in
      omega (arith, text_length bytes, leb-true (length bytes) most sizes.1)

pub path_within : (most : ℕ) → IsWithin (path most) (λ _. 2 + most)
path_within most = record { bound = bound } where
  bound : (bytes : List ℕ) → (path most).Fits bytes → length ((path most).spell bytes) ≤ 2 + most
  bound bytes fits =
      let parts = and_parts (nat_le (length bytes) most && is_rooted bytes && has_no_zero bytes) (is_utf8 bytes) fits.1 in
      let rooted = and_parts (nat_le (length bytes) most && is_rooted bytes) (has_no_zero bytes) parts.0 in
      let sizes = and_parts (nat_le (length bytes) most) (is_rooted bytes) rooted.0 in
      omega (arith, text_length bytes, leb-true (length bytes) most sizes.0)

pub description_within : IsWithin description (λ _. 257)
description_within = record { bound = bound } where
  bound : (bytes : List ℕ) → description.Fits bytes → length (description.spell bytes) ≤ 257
  bound bytes fits =
      let parts = and_parts (nat_le (length bytes) 255) (is_utf8 bytes) fits.1 in
      omega (arith, text_length bytes, leb-true (length bytes) 255 parts.0)

-- ---- forms that are made of others

pub pair_within : {A B : Type 0} {f : Form A} {g : Form B} {a : A → ℕ} {b : B → ℕ} → IsWithin f a → IsWithin g b → IsWithin (pair f g) (λ p. a p.0 + b p.1)
pair_within {A} {B} {f} {g} {a} {b} first second = record {
  bound = λ p fits. omega (arith, length-append (f.spell p.0) (g.spell p.1), first.bound p.0 fits.0, second.bound p.1 fits.1);
}

pub viewed_within : {A B : Type 0} {f : Form A} {a : A → ℕ} (to : A → B) (from : B → A) → IsWithin f a → IsWithin (viewed to from f) (λ b. a (from b))
viewed_within to from law = record { bound = λ b fits. law.bound (from b) fits }

pub partly_within : {A B : Type 0} {f : Form A} {a : A → ℕ} (to : A → Option B) (from : B → A) → IsWithin f a → IsWithin (partly to from f) (λ b. a (from b))
partly_within to from law = record { bound = λ b fits. law.bound (from b) fits.0 }

pub only_within : {X : Type 0} {f : Form X} {a : X → ℕ} (test : X → Bool) → IsWithin f a → IsWithin (only test f) a
only_within test law = record { bound = λ x fits. law.bound x fits.0 }

-- a fixed byte in front
pub marked_within : {X : Type 0} {f : Form X} {a : X → ℕ} (mark : ℕ) → IsWithin f a → IsWithin (marked mark f) (λ x. 1 + a x)
marked_within mark law = record { bound = λ x fits. omega (arith, law.bound x fits.1) }

pub variant_within : {A B : Type 0} {f : Form A} {a : A → ℕ} {most : B → ℕ} (inject : A → B) (project : B → Option A) → IsWithin f a → ((b : B) (x : A) → project b ≡ Some x → a x ≤ most b) → IsWithin (variant inject project f) most
variant_within {A} {B} {f} {a} {most} inject project law less = record { bound = λ b fits. bound b (project b) refl fits } where
  bound : (b : B) (o : Option A) → project b ≡ o → FitsPart f o → length (spell_part f o) ≤ most b
  bound b None e fits = absurd fits
  bound b (Some x) e fits = omega (arith, law.bound x fits, less b x e)

pub option_within : {A : Type 0} {f : Form A} {n : ℕ} → IsWithin f (λ _. n) → IsWithin (option f) (λ _. 1 + n)
option_within {A} {f} {n} law = record { bound = bound } where
  bound : (o : Option A) → (option f).Fits o → length ((option f).spell o) ≤ 1 + n
  bound None fits = omega arith
  bound (Some x) fits = omega (arith, law.bound x fits.1)

-- ---- lists

spelled : {A : Type 0} {f : Form A} {a : A → ℕ} → IsWithin f a → (xs : List A) → AllByRecursion f.Fits xs → length (flat_map f.spell xs) ≤ sum_by a xs
spelled law [] fits = omega arith
spelled {A} {f} {a} law (x ∷ xs) fits =
    omega (arith, ap length (flat_map-cons f.spell x xs), length-append (f.spell x) (flat_map f.spell xs), sum_by-cons a x xs, law.bound x fits.0, spelled law xs fits.1)

-- a list takes four bytes and what its values take
pub items_within : {A : Type 0} {f : Form A} {a : A → ℕ} (most : ℕ) → IsWithin f a → IsWithin (items most f) (λ xs. 4 + sum_by a xs)
items_within {A} {f} {a} most law = record { bound = λ xs fits. omega (arith, spelled law xs fits.2) }

pub ascending_within : {K V : Type 0} {key : Form K} {row : Form V} {a : K → ℕ} {b : V → ℕ} (cmp : K → K → Ordering) (most : ℕ) → IsWithin key a → IsWithin row b → IsWithin (ascending cmp most key row) (λ es. 4 + sum_by (λ e. a e.0 + b e.1) es)
ascending_within cmp most key row = record { bound = λ es fits. (items_within most (pair_within key row)).bound es fits.0 }

-- values of at most so many bytes
pub sum_of_each : {A : Type 0} (a : A → ℕ) (k : ℕ) → ((x : A) → a x ≤ k) → (xs : List A) → sum_by a xs ≤ k * length xs
sum_of_each a k each [] = omega arith
sum_of_each {A} a k each (x ∷ xs) = omega (arith, sum_by-cons a x xs, each x, sum_of_each a k each xs)

-- values of at most so many bytes for themselves and for each item within them
pub sum_of_all : {A : Type 0} (a held : A → ℕ) (k : ℕ) → ((x : A) → a x ≤ k + k * held x) → (xs : List A) → sum_by a xs ≤ k * (length xs + sum_by held xs)
sum_of_all a held k each [] = omega arith
sum_of_all {A} a held k each (x ∷ xs) =
    rw (sum_by-cons a x xs, sum_by-cons held x xs) (omega (arith, each x, sum_of_all a held k each xs))

-- k bytes for each item of a list
module _ (k : ℕ) where
  -- a list of values of at most so many bytes
  pub list_of_rows : {A : Type 0} {f : Form A} {b : ℕ} (most : ℕ) → IsWithin f (λ _. b) → b ≤ k → IsWithin (items most f) (λ xs. 4 + k * length xs)
  list_of_rows {A} {f} {b} most law less = weakened (items_within most law) (λ xs. omega (arith, sum_of_each (λ (_ : A). b) k (λ _. less) xs))

  -- the same where the values hold items
  pub list_of_lists : {A : Type 0} {f : Form A} (b : ℕ) (held : A → ℕ) (most : ℕ) → IsWithin f (λ x. b + k * held x) → b ≤ k → IsWithin (items most f) (λ xs. 4 + k * (length xs + sum_by held xs))
  list_of_lists {A} {f} b held most law less =
      weakened (items_within most law) (λ xs. omega (arith, sum_of_all (λ x. b + k * held x) held k (λ x. omega (arith, less)) xs))

  -- rows by key of at most so many bytes
  pub table_of_rows : {K V : Type 0} {key : Form K} {row : Form V} {a b : ℕ} (cmp : K → K → Ordering) (most : ℕ) → IsWithin key (λ _. a) → IsWithin row (λ _. b) → a + b ≤ k → IsWithin (ascending cmp most key row) (λ es. 4 + k * length es)
  table_of_rows {K} {V} {key} {row} {a} {b} cmp most first second less =
      weakened (ascending_within cmp most first second) (λ es. omega (arith, sum_of_each (λ (_ : K × V). a + b) k (λ _. less) es))

  -- the same where the rows hold items
  pub table_of_lists : {K V : Type 0} {key : Form K} {row : Form V} {a : ℕ} (b : ℕ) (held : V → ℕ) (cmp : K → K → Ordering) (most : ℕ) → IsWithin key (λ _. a) → IsWithin row (λ x. b + k * held x) → a + b ≤ k → IsWithin (ascending cmp most key row) (λ es. 4 + k * (length es + sum_by (λ e. held e.1) es))
  table_of_lists {K} {V} {key} {row} {a} b held cmp most first second less =
      weakened (ascending_within cmp most first second)
      (λ es. omega (arith, sum_of_all (λ (e : K × V). a + (b + k * held e.1)) (λ e. held e.1) k (λ e. omega (arith, less)) es))
