-- The forms that are made of others keep the laws of a form.
use Rattle.std.proofs.Common.{◌≡◌, ℕ, suc, ◌-◌, ◌^◌, ◌<◌, Bool, true, false, List, [], ◌∷◌, ◌++◌, Option, Some, None, refl, sym, ap, subst, ◌∙◌, append_assoc, arith}
use Rattle.std.specs.Prelude.{IfSome, ◌==◌, if◌then◌else◌, unwrap_or}
use Rattle.std.specs.Int.{Width, byte_len, to_be_bytes}
use Rattle.std.proofs.lemmas.Option.{same_Some}
use Rattle.std.proofs.lemmas.Bool.{eqb-true, eqb-false, eq-eqb}
use Rattle.fields.specs.Reading.{◌>>=◌, number_at}
use Rattle.fields.specs.Forms.{Form, IsBytes, IsTaken, IsForm, pair, viewed, partly, variant, spell_part, FitsPart, only, marked, tagged, choose, row, no_more, option, option_tag, fixed, value_of, coded, flag, limit}
use Rattle.fields.specs.FieldLaws.{bind_some, goes_on_if, IsBytes-rest, number_form, nothing_form, IsWide}

-- ---- one after the other

pub pair_form : {A B : Type 0} {f : Form A} {g : Form B} → IsForm f → IsForm g → IsForm (pair f g)
pair_form {A} {B} {f} {g} first second = record { takes = taken; again = again } where
  taken : (bytes : List ℕ) (read : (A × B) × List ℕ) → IsBytes bytes → (pair f g).read bytes ≡ Some read → IsTaken (pair f g) bytes read
  taken bytes read h e =
      let a = bind_some (f.read bytes) (λ x. g.read x.1 >>= λ y. Some ((x.0, y.0), y.1)) read e in
      let b = bind_some (g.read a.0.1) (λ y. Some ((a.0.0, y.0), y.1)) read a.2 in
      let t = first.takes bytes a.0 h a.1 in
      let u = second.takes a.0.1 b.0 (IsBytes-rest bytes (f.spell a.0.0) a.0.1 t.parts h) b.1 in
      subst (IsTaken (pair f g) bytes) (same_Some ((a.0.0, b.0.0), b.0.1) read b.2) (record {
        parts = t.parts ∙ ap (λ (r : List ℕ). f.spell a.0.0 ++ r) u.parts ∙ sym (append_assoc (f.spell a.0.0) (g.spell b.0.0) b.0.1);
        fits = (t.fits, u.fits);
      })

  again : (x : A × B) (rest : List ℕ) → (pair f g).Fits x → (pair f g).read ((pair f g).spell x ++ rest) ≡ Some (x, rest)
  again x rest fits =
      ap (pair f g).read (append_assoc (f.spell x.0) (g.spell x.1) rest)
      ∙ rw (first.again x.0 (g.spell x.1 ++ rest) fits.0, second.again x.1 rest fits.1) refl

-- ---- other values of the same bytes

pub viewed_form : {A B : Type 0} {f : Form A} (to : A → B) (from : B → A) → ((a : A) → from (to a) ≡ a) → ((b : B) → to (from b) ≡ b) → IsForm f → IsForm (viewed to from f)
viewed_form {A} {B} {f} to from back forth law = record { takes = taken; again = again } where
  taken : (bytes : List ℕ) (read : B × List ℕ) → IsBytes bytes → (viewed to from f).read bytes ≡ Some read → IsTaken (viewed to from f) bytes read
  taken bytes read h e =
      let a = bind_some (f.read bytes) (λ x. Some (to x.0, x.1)) read e in
      let t = law.takes bytes a.0 h a.1 in
      subst (IsTaken (viewed to from f) bytes) (same_Some (to a.0.0, a.0.1) read a.2) (record {
        parts = t.parts ∙ ap (λ (x : A). f.spell x ++ a.0.1) (sym (back a.0.0));
        fits = subst f.Fits (sym (back a.0.0)) t.fits;
      })

  again : (b : B) (rest : List ℕ) → f.Fits (from b) → (viewed to from f).read (f.spell (from b) ++ rest) ≡ Some (b, rest)
  again b rest fits = rw (law.again (from b) rest fits) (ap (λ (x : B). Some (x, rest)) (forth b))

pub partly_form : {A B : Type 0} {f : Form A} (to : A → Option B) (from : B → A) → ((a : A) (b : B) → to a ≡ Some b → from b ≡ a) → IsForm f → IsForm (partly to from f)
partly_form {A} {B} {f} to from back law = record { takes = taken; again = again } where
  taken : (bytes : List ℕ) (read : B × List ℕ) → IsBytes bytes → (partly to from f).read bytes ≡ Some read → IsTaken (partly to from f) bytes read
  taken bytes read h e =
      let a = bind_some (f.read bytes) (λ x. to x.0 >>= λ b. Some (b, x.1)) read e in
      let b = bind_some (to a.0.0) (λ b. Some (b, a.0.1)) read a.2 in
      let t = law.takes bytes a.0 h a.1 in
      let same = back a.0.0 b.0 b.1 in
      subst (IsTaken (partly to from f) bytes) (same_Some (b.0, a.0.1) read b.2) (record {
        parts = t.parts ∙ ap (λ (x : A). f.spell x ++ a.0.1) (sym same);
        fits = (subst f.Fits (sym same) t.fits, ap to same ∙ b.1);
      })

  again : (b : B) (rest : List ℕ) → (partly to from f).Fits b → (partly to from f).read (f.spell (from b) ++ rest) ≡ Some (b, rest)
  again b rest fits = rw (law.again (from b) rest fits.0, fits.1) refl

pub variant_form : {A B : Type 0} {f : Form A} (inject : A → B) (project : B → Option A) → ((a : A) → project (inject a) ≡ Some a) → ((b : B) (a : A) → project b ≡ Some a → inject a ≡ b) → IsForm f → IsForm (variant inject project f)
variant_form {A} {B} {f} inject project there back law = record { takes = taken; again = λ b rest fits. again b rest (project b) refl fits } where
  taken : (bytes : List ℕ) (read : B × List ℕ) → IsBytes bytes → (variant inject project f).read bytes ≡ Some read → IsTaken (variant inject project f) bytes read
  taken bytes read h e =
      let a = bind_some (f.read bytes) (λ x. Some (inject x.0, x.1)) read e in
      let t = law.takes bytes a.0 h a.1 in
      subst (IsTaken (variant inject project f) bytes) (same_Some (inject a.0.0, a.0.1) read a.2) (record {
        parts = t.parts ∙ ap (λ (o : Option A). spell_part f o ++ a.0.1) (sym (there a.0.0));
        fits = subst (FitsPart f) (sym (there a.0.0)) t.fits;
      })

  again : (b : B) (rest : List ℕ) (o : Option A) → project b ≡ o → FitsPart f o → (variant inject project f).read (spell_part f o ++ rest) ≡ Some (b, rest)
  again b rest None e fits = absurd fits
  again b rest (Some a) e fits = rw (law.again a rest fits) (ap (λ (x : B). Some (x, rest)) (back b a e))

-- ---- only where a test holds

pub only_form : {X : Type 0} {f : Form X} (test : X → Bool) → IsForm f → IsForm (only test f)
only_form {X} {f} test law = record { takes = taken; again = again } where
  taken : (bytes : List ℕ) (read : X × List ℕ) → IsBytes bytes → (only test f).read bytes ≡ Some read → IsTaken (only test f) bytes read
  taken bytes read h e =
      let a = bind_some (f.read bytes) (λ x. if test x.0 then Some x else None) read e in
      let g = goes_on_if (test a.0.0) (Some a.0) read a.2 in
      let t = law.takes bytes a.0 h a.1 in
      subst (IsTaken (only test f) bytes) (same_Some a.0 read g.1) (record { parts = t.parts; fits = (t.fits, g.0) })

  again : (x : X) (rest : List ℕ) → (only test f).Fits x → (only test f).read (f.spell x ++ rest) ≡ Some (x, rest)
  again x rest fits = rw (law.again x rest fits.0, fits.1) refl

-- ---- a byte in front

IsBytes-behind : (b : ℕ) (bytes : List ℕ) → IsBytes (b ∷ bytes) → IsBytes bytes
IsBytes-behind b bytes h i = h (suc i)

pub marked_form : {X : Type 0} {f : Form X} (mark : ℕ) → IsForm f → IsForm (marked mark f)
marked_form {X} {f} mark law = record { takes = taken; again = again } where
  taken : (bytes : List ℕ) (read : X × List ℕ) → IsBytes bytes → (marked mark f).read bytes ≡ Some read → IsTaken (marked mark f) bytes read
  taken [] read h e = absurd cc
  taken (b ∷ bytes) read h e =
      let g = goes_on_if (b == mark) (f.read bytes) read e in
      let same : b ≡ mark = eqb-true b mark g.0 in
      let t = law.takes bytes read (IsBytes-behind b bytes h) g.1 in
      let small : b < 256 = h 0 in
      record { parts = ap (λ (r : List ℕ). b ∷ r) t.parts ∙ ap (λ (k : ℕ). k ∷ (f.spell read.0 ++ read.1)) same; fits = (omega arith, t.fits) }

  again : (x : X) (rest : List ℕ) → (marked mark f).Fits x → (marked mark f).read ((marked mark f).spell x ++ rest) ≡ Some (x, rest)
  again x rest fits = rw (eq-eqb mark mark refl) (law.again x rest fits.1)

-- ---- one of two

pub choose_form : {X : Type 0} {f g : Form X} (b : Bool) → IsForm f → IsForm g → IsForm (choose b f g)
choose_form true first second = first
choose_form false first second = second

-- ---- tagged

-- the form of a tag: a form, and all its values have the tag
pub record IsRow {X : Type 0} (tag_of : X → ℕ) (tag : ℕ) (f : Form X) : Type 0 where
  pub form : IsForm f
  pub tells : (bytes : List ℕ) (read : X × List ℕ) → f.read bytes ≡ Some read → tag_of read.0 ≡ tag

-- the same of each tag
pub record IsTable {X : Type 0} (tag_of : X → ℕ) (body : ℕ → Form X) : Type 0 where
  pub at : (tag : ℕ) → IsRow tag_of tag (body tag)

pub tagged_form : {X : Type 0} {tag_of : X → ℕ} {body : ℕ → Form X} → IsTable tag_of body → IsForm (tagged tag_of body)
tagged_form {X} {tag_of} {body} table = record { takes = taken; again = λ x rest fits. (table.at (tag_of x)).form.again x rest fits.1 } where
  taken : (bytes : List ℕ) (read : X × List ℕ) → IsBytes bytes → (tagged tag_of body).read bytes ≡ Some read → IsTaken (tagged tag_of body) bytes read
  taken [] read h e = absurd cc
  taken (b ∷ bytes) read h e =
      let t = (table.at b).form.takes bytes read (IsBytes-behind b bytes h) e in
      let same : b ≡ tag_of read.0 = sym ((table.at b).tells bytes read e) in
      let small : b < 256 = h 0 in
      record {
        parts = ap (λ (r : List ℕ). b ∷ r) t.parts ∙ ap (λ (k : ℕ). k ∷ ((body k).spell read.0 ++ read.1)) same;
        fits = (omega arith, subst (λ (k : ℕ). (body k).Fits read.0) same t.fits);
      }

pub row_table : {X : Type 0} {tag_of : X → ℕ} {k : ℕ} {f : Form X} {others : ℕ → Form X} → IsRow tag_of k f → IsTable tag_of others → IsTable tag_of (row k f others)
row_table {X} {tag_of} {k} {f} {others} here there = record { at = λ tag. at tag (tag == k) refl } where
  at : (tag : ℕ) (b : Bool) → (tag == k) ≡ b → IsRow tag_of tag (choose b f (others tag))
  at tag true e = subst (λ (t : ℕ). IsRow tag_of t f) (sym (eqb-true tag k e)) here
  at tag false e = there.at tag

pub no_more_table : {X : Type 0} (tag_of : X → ℕ) → IsTable tag_of no_more
no_more_table tag_of = record { at = λ tag. record { form = nothing_form; tells = λ bytes read e. absurd cc } }

-- a variant of an enum, under its tag
pub variant_row : {A B : Type 0} {f : Form A} (tag_of : B → ℕ) (k : ℕ) (inject : A → B) (project : B → Option A) → ((a : A) → tag_of (inject a) ≡ k) → ((a : A) → project (inject a) ≡ Some a) → ((b : B) (a : A) → project b ≡ Some a → inject a ≡ b) → IsForm f → IsRow tag_of k (variant inject project f)
variant_row {A} {B} {f} tag_of k inject project told there back law = record { form = variant_form inject project there back law; tells = tells } where
  tells : (bytes : List ℕ) (read : B × List ℕ) → (variant inject project f).read bytes ≡ Some read → tag_of read.0 ≡ k
  tells bytes read e =
      let a = bind_some (f.read bytes) (λ x. Some (inject x.0, x.1)) read e in
      ap (λ (x : B × List ℕ). tag_of x.0) (sym (same_Some (inject a.0.0, a.0.1) read a.2)) ∙ told a.0.0

-- ---- options, flags, limits

pub fixed_form : {X : Type 0} (x : X) → IsForm (fixed x)
fixed_form {X} x = record { takes = taken; again = again } where
  taken : (bytes : List ℕ) (read : X × List ℕ) → IsBytes bytes → (fixed x).read bytes ≡ Some read → IsTaken (fixed x) bytes read
  taken bytes read h e = subst (IsTaken (fixed x) bytes) (same_Some (x, bytes) read e) (record { parts = refl; fits = refl })

  again : (y : X) (rest : List ℕ) → (fixed x).Fits y → (fixed x).read ((fixed x).spell y ++ rest) ≡ Some (y, rest)
  again y rest e = ap (λ (z : X). Some (z, rest)) (sym e)

none_row : {A : Type 0} → IsRow option_tag 0 (fixed {X = Option A} None)
none_row {A} = record { form = fixed_form None; tells = λ bytes read e. ap (λ (x : Option A × List ℕ). option_tag x.0) (sym (same_Some (None, bytes) read e)) }

pub option_form : {A : Type 0} {f : Form A} → IsForm f → IsForm (option f)
option_form {A} {f} law = tagged_form (row_table none_row (row_table (variant_row option_tag 1 Some (λ o. o) (λ a. refl) (λ a. refl) (λ b a e. sym e) law) (no_more_table option_tag)))

one_more-value : {X : Type 0} (number_of : X → ℕ) (y : X) (n : ℕ) (others : Option X) (x : X) (b : Bool) → (n == number_of y) ≡ b → (others ≡ Some x → number_of x ≡ n) → (if b then Some y else others) ≡ Some x → number_of x ≡ n
one_more-value number_of y n others x true p rest e = ap number_of (sym (same_Some y x e)) ∙ sym (eqb-true n (number_of y) p)
one_more-value number_of y n others x false p rest e = rest e

-- the number of the value that a number has is that number
value_of-number : {X : Type 0} (number_of : X → ℕ) (xs : List X) (n : ℕ) (x : X) → value_of number_of xs n ≡ Some x → number_of x ≡ n
value_of-number number_of [] n x e = absurd cc
value_of-number {X} number_of (y ∷ ys) n x e = one_more-value number_of y n (value_of number_of ys n) x (n == number_of y) refl (value_of-number number_of ys n x) e

pub coded_form : {X : Type 0} (number_of : X → ℕ) (xs : List X) → ((x : X) → value_of number_of xs (number_of x) ≡ Some x) → IsForm (coded number_of xs)
coded_form {X} number_of xs each = record { takes = taken; again = λ x rest fits. rw (each x) refl } where
  taken : (bytes : List ℕ) (read : X × List ℕ) → IsBytes bytes → (coded number_of xs).read bytes ≡ Some read → IsTaken (coded number_of xs) bytes read
  taken [] read h e = absurd cc
  taken (b ∷ bytes) read h e =
      let a = bind_some (value_of number_of xs b) (λ x. Some (x, bytes)) read e in
      let made : X × List ℕ = (a.0, bytes) in
      subst (IsTaken (coded number_of xs) (b ∷ bytes)) {x = made} (same_Some made read a.2) (record { parts = ap (λ (k : ℕ). k ∷ bytes) (sym (value_of-number number_of xs b a.0 a.1)); fits = tt })

pub flag_form : IsForm flag
flag_form = coded_form (λ b. if b then 1 else 0) (false ∷ true ∷ []) (elim [ true ↦ refl | false ↦ refl ])

pub limit_form : (w : Width) → IsWide w → IsForm (limit w)
limit_form w wide = record { takes = taken; again = again } where
  read_as : (n : ℕ) (b : Bool) → (n == (256 ^ byte_len w - 1)) ≡ b → n < 256 ^ byte_len w → (unwrap_or (if b then None else Some n) (256 ^ byte_len w - 1) ≡ n) × IfSome (if b then None else Some n) (λ m. m < 256 ^ byte_len w - 1)
  read_as n true e lt = (sym (eqb-true n (256 ^ byte_len w - 1) e), tt)
  read_as n false e lt = let ne = eqb-false n (256 ^ byte_len w - 1) e in (refl, omega arith)

  taken : (bytes : List ℕ) (read : Option ℕ × List ℕ) → IsBytes bytes → (limit w).read bytes ≡ Some read → IsTaken (limit w) bytes read
  taken bytes read h e =
      let a = bind_some (number_at w bytes) (λ n. Some ((if n.0 == (256 ^ byte_len w - 1) then None else Some n.0), n.1)) read e in
      let t = (number_form w wide).takes bytes a.0 h a.1 in
      let r = read_as a.0.0 (a.0.0 == (256 ^ byte_len w - 1)) refl t.fits in
      subst (IsTaken (limit w) bytes) (same_Some ((if a.0.0 == (256 ^ byte_len w - 1) then None else Some a.0.0), a.0.1) read a.2) (record {
        parts = t.parts ∙ ap (λ (k : ℕ). to_be_bytes w k ++ a.0.1) (sym r.0);
        fits = r.1;
      })

  again : (o : Option ℕ) (rest : List ℕ) → (limit w).Fits o → (limit w).read ((limit w).spell o ++ rest) ≡ Some (o, rest)
  again None rest fits =
      let some_number = wide.below [] (λ i. omega arith) in
      rw ((number_form w wide).again (256 ^ byte_len w - 1) rest (omega arith), eq-eqb (256 ^ byte_len w - 1) (256 ^ byte_len w - 1) refl) refl
  again (Some n) rest fits =
      rw ((number_form w wide).again n rest (omega arith)) (ap (λ (b : Bool). Some ((if b then None else Some n), rest)) (other (n == (256 ^ byte_len w - 1)) refl)) where
        other : (b : Bool) → (n == (256 ^ byte_len w - 1)) ≡ b → (n == (256 ^ byte_len w - 1)) ≡ false
        other true e = absurd (let same = eqb-true n (256 ^ byte_len w - 1) e in omega arith)
        other false e = e
