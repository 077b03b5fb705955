-- The forms of lists keep the laws of a form, and no form of a value begins another's.
use Rattle.std.proofs.Common.{◌≡◌, ℕ, zero, suc, ◌≤◌, Bool, true, false, List, [], ◌∷◌, ◌++◌, length, Option, Some, None, refl, sym, ap, subst, ◌∙◌, append_assoc, arith}
use Rattle.std.specs.Prelude.{IsTrue, ◌&&◌, nat_lt, if◌then◌else◌}
use Rattle.std.specs.Int.{w32, to_be_bytes}
use Rattle.std.specs.List.{flat_map, AllByRecursion}
use Rattle.std.specs.declared.cmp.Ordering.{Ordering}
use Rattle.std.proofs.lemmas.Option.{same_Some}
use Rattle.std.proofs.lemmas.Bool.{ltb-false, le-ltb}
use Rattle.std.proofs.lemmas.List.Concat.{flat_map-cons}
use Rattle.std.proofs.lemmas.List.{append-nil}
use Rattle.fields.specs.Reading.{◌>>=◌, number_at}
use Rattle.fields.specs.Forms.{Form, IsBytes, IsTaken, IsForm, pair, number, items, times_at, ascending, entry_at, ascending_at, is_ascending, is_behind}
use Rattle.fields.specs.FieldLaws.{bind_some, stopped_if, goes_on_if, IsBytes-rest, number_form, wide32}
use Rattle.fields.specs.FormLaws.{pair_form}

-- what was read of the bytes is so many values that fit, and they are their spellings and what follows
pub record AreTaken {A : Type 0} (f : Form A) (n : ℕ) (bytes : List ℕ) (read : List A × List ℕ) : Type 0 where
  pub parts : bytes ≡ flat_map f.spell read.0 ++ read.1
  pub count : length read.0 ≡ n
  pub fit : AllByRecursion f.Fits read.0

-- one value in front of others
AreTaken-cons : {A : Type 0} {f : Form A} {n : ℕ} {bytes : List ℕ} (x : A × List ℕ) (xs : List A × List ℕ) → IsTaken f bytes x → AreTaken f n x.1 xs → AreTaken f (suc n) bytes (x.0 ∷ xs.0, xs.1)
AreTaken-cons {A} {f} {n} {bytes} x xs one others = record {
  parts = one.parts ∙ ap (λ (r : List ℕ). f.spell x.0 ++ r) others.parts ∙ sym (append_assoc (f.spell x.0) (flat_map f.spell xs.0) xs.1) ∙ ap (λ (r : List ℕ). r ++ xs.1) (sym (flat_map-cons f.spell x.0 xs.0));
  count = ap suc others.count;
  fit = (one.fits, others.fit);
}

times_taken : {A : Type 0} {f : Form A} (law : IsForm f) (n : ℕ) (bytes : List ℕ) (read : List A × List ℕ) → IsBytes bytes → times_at f.read n bytes ≡ Some read → AreTaken f n bytes read
unfolding times_at
times_taken {A} {f} law zero bytes read h e = subst (AreTaken f 0 bytes) (same_Some ([], bytes) read e) (record { parts = refl; count = refl; fit = tt })
times_taken {A} {f} law (suc n) bytes read h e =
    let a = bind_some (f.read bytes) (λ x. times_at f.read n x.1 >>= λ xs. Some (x.0 ∷ xs.0, xs.1)) read e in
    let b = bind_some (times_at f.read n a.0.1) (λ xs. Some (a.0.0 ∷ xs.0, xs.1)) read a.2 in
    let one = law.takes bytes a.0 h a.1 in
    let others = times_taken law n a.0.1 b.0 (IsBytes-rest bytes (f.spell a.0.0) a.0.1 one.parts h) b.1 in
    subst (AreTaken f (suc n) bytes) (same_Some (a.0.0 ∷ b.0.0, b.0.1) read b.2) (AreTaken-cons a.0 b.0 one others)

regrouped : {A : Type 0} (f : Form A) (x : A) (xs : List A) (rest : List ℕ) → flat_map f.spell (x ∷ xs) ++ rest ≡ f.spell x ++ (flat_map f.spell xs ++ rest)
regrouped f x xs rest = ap (λ (r : List ℕ). r ++ rest) (flat_map-cons f.spell x xs) ∙ append_assoc (f.spell x) (flat_map f.spell xs) rest

times_again : {A : Type 0} {f : Form A} (law : IsForm f) (xs : List A) (rest : List ℕ) → AllByRecursion f.Fits xs → times_at f.read (length xs) (flat_map f.spell xs ++ rest) ≡ Some (xs, rest)
unfolding times_at
times_again {A} {f} law [] rest fit = refl
times_again {A} {f} law (x ∷ xs) rest fit =
    ap (times_at f.read (suc (length xs))) (regrouped f x xs rest) ∙ rw (law.again x (flat_map f.spell xs ++ rest) fit.0, times_again law xs rest fit.1) refl

-- the count and the values behind it
items_parts : {A : Type 0} {f : Form A} {most : ℕ} {bytes : List ℕ} {n : ℕ × List ℕ} {read : List A × List ℕ} → IsTaken (number w32) bytes n → n.0 ≤ most → AreTaken f n.0 n.1 read → IsTaken (items most f) bytes read
items_parts {A} {f} {most} {bytes} {n} {read} count few values = record {
  parts = count.parts ∙ ap (λ (r : List ℕ). to_be_bytes w32 n.0 ++ r) values.parts
      ∙ ap (λ (k : ℕ). to_be_bytes w32 k ++ (flat_map f.spell read.0 ++ read.1)) (sym values.count)
      ∙ sym (append_assoc (to_be_bytes w32 (length read.0)) (flat_map f.spell read.0) read.1);
  fits = (omega (arith, values.count), omega (arith, values.count, count.fits), values.fit);
}

pub items_form : {A : Type 0} {f : Form A} (most : ℕ) → IsForm f → IsForm (items most f)
items_form {A} {f} most law = record { takes = taken; again = again } where
  taken : (bytes : List ℕ) (read : List A × List ℕ) → IsBytes bytes → (items most f).read bytes ≡ Some read → IsTaken (items most f) bytes read
  taken bytes read h e =
      let a = bind_some (number_at w32 bytes) (λ n. if nat_lt most n.0 then None else times_at f.read n.0 n.1) read e in
      let g = stopped_if (nat_lt most a.0.0) (times_at f.read a.0.0 a.0.1) read a.2 in
      let count = (number_form w32 wide32).takes bytes a.0 h a.1 in
      items_parts count (ltb-false _ _ g.0) (times_taken law a.0.0 a.0.1 read (IsBytes-rest bytes (to_be_bytes w32 a.0.0) a.0.1 count.parts h) g.1)

  again : (xs : List A) (rest : List ℕ) → (items most f).Fits xs → (items most f).read ((items most f).spell xs ++ rest) ≡ Some (xs, rest)
  again xs rest fits =
      ap (items most f).read (append_assoc (to_be_bytes w32 (length xs)) (flat_map f.spell xs) rest)
      ∙ rw ((number_form w32 wide32).again (length xs) (flat_map f.spell xs ++ rest) fits.1, le-ltb most (length xs) fits.0) (times_again law xs rest fits.2)

-- ---- in ascending order of keys

both : (a b : Bool) → (a && b) ≡ true → (a ≡ true) × (b ≡ true)
both true b e = (refl, e)
both false b e = absurd cc

joined : (a b : Bool) → a ≡ true → b ≡ true → (a && b) ≡ true
joined a b p q = rw (p, q) refl

entry_taken : {K V : Type 0} (cmp : K → K → Ordering) (read : List ℕ → Option ((K × V) × List ℕ)) (last : Option K) (bytes : List ℕ) (e : (K × V) × List ℕ) → entry_at cmp read last bytes ≡ Some e → (read bytes ≡ Some e) × (is_behind cmp last e.0.0 ≡ true)
entry_taken {K} {V} cmp read last bytes e h =
    let a = bind_some (read bytes) (λ x. if is_behind cmp last x.0.0 then Some x else None) e h in
    let g = goes_on_if (is_behind cmp last a.0.0.0) (Some a.0) e a.2 in
    (a.1 ∙ g.1, subst (λ (x : (K × V) × List ℕ). is_behind cmp last x.0.0 ≡ true) (same_Some a.0 e g.1) g.0)

ascending_taken : {K V : Type 0} (cmp : K → K → Ordering) {f : Form (K × V)} (law : IsForm f) (last : Option K) (n : ℕ) (bytes : List ℕ) (read : List (K × V) × List ℕ) → IsBytes bytes → ascending_at cmp f.read last n bytes ≡ Some read → AreTaken f n bytes read × IsTrue (is_ascending cmp last read.0)
unfolding ascending_at
ascending_taken {K} {V} cmp {f} law last zero bytes read h e =
    subst (λ (r : List (K × V) × List ℕ). AreTaken f 0 bytes r × IsTrue (is_ascending cmp last r.0)) (same_Some ([], bytes) read e) (record { parts = refl; count = refl; fit = tt }, refl)
ascending_taken {K} {V} cmp {f} law last (suc n) bytes read h e =
    let a = bind_some (entry_at cmp f.read last bytes) (λ x. ascending_at cmp f.read (Some x.0.0) n x.1 >>= λ xs. Some (x.0 ∷ xs.0, xs.1)) read e in
    let b = bind_some (ascending_at cmp f.read (Some a.0.0.0) n a.0.1) (λ xs. Some (a.0.0 ∷ xs.0, xs.1)) read a.2 in
    let t = entry_taken cmp f.read last bytes a.0 a.1 in
    let one = law.takes bytes a.0 h t.0 in
    let others = ascending_taken cmp law (Some a.0.0.0) n a.0.1 b.0 (IsBytes-rest bytes (f.spell a.0.0) a.0.1 one.parts h) b.1 in
    let made : List (K × V) × List ℕ = (a.0.0 ∷ b.0.0, b.0.1) in
    subst (λ (r : List (K × V) × List ℕ). AreTaken f (suc n) bytes r × IsTrue (is_ascending cmp last r.0)) {x = made} (same_Some made read b.2)
    (AreTaken-cons a.0 b.0 one others.0, joined (is_behind cmp last a.0.0.0) (is_ascending cmp (Some a.0.0.0) b.0.0) t.1 others.1)

ascending_again : {K V : Type 0} (cmp : K → K → Ordering) {f : Form (K × V)} (law : IsForm f) (last : Option K) (es : List (K × V)) (rest : List ℕ) → AllByRecursion f.Fits es → IsTrue (is_ascending cmp last es) → ascending_at cmp f.read last (length es) (flat_map f.spell es ++ rest) ≡ Some (es, rest)
unfolding ascending_at
ascending_again cmp {f} law last [] rest fit up = refl
ascending_again {K} {V} cmp {f} law last (x ∷ es) rest fit up =
    let t = both (is_behind cmp last x.0) (is_ascending cmp (Some x.0) es) up in
    ap (ascending_at cmp f.read last (suc (length es))) (regrouped f x es rest)
    ∙ rw (law.again x (flat_map f.spell es ++ rest) fit.0, t.0, ascending_again cmp law (Some x.0) es rest fit.1 t.1) refl

pub ascending_form : {K V : Type 0} {k : Form K} {v : Form V} (cmp : K → K → Ordering) (most : ℕ) → IsForm k → IsForm v → IsForm (ascending cmp most k v)
ascending_form {K} {V} {k} {v} cmp most key value = record { takes = taken; again = again } where
  law : IsForm (pair k v)
  law = pair_form key value

  taken : (bytes : List ℕ) (read : List (K × V) × List ℕ) → IsBytes bytes → (ascending cmp most k v).read bytes ≡ Some read → IsTaken (ascending cmp most k v) bytes read
  taken bytes read h e =
      let a = bind_some (number_at w32 bytes) (λ n. if nat_lt most n.0 then None else ascending_at cmp (pair k v).read None n.0 n.1) read e in
      let g = stopped_if (nat_lt most a.0.0) (ascending_at cmp (pair k v).read None a.0.0 a.0.1) read a.2 in
      let count = (number_form w32 wide32).takes bytes a.0 h a.1 in
      let values = ascending_taken cmp law None a.0.0 a.0.1 read (IsBytes-rest bytes (to_be_bytes w32 a.0.0) a.0.1 count.parts h) g.1 in
      let whole = items_parts count (ltb-false _ _ g.0) values.0 in
      record { parts = whole.parts; fits = (whole.fits, values.1) }

  again : (es : List (K × V)) (rest : List ℕ) → (ascending cmp most k v).Fits es → (ascending cmp most k v).read ((ascending cmp most k v).spell es ++ rest) ≡ Some (es, rest)
  again es rest fits =
      ap (ascending cmp most k v).read (append_assoc (to_be_bytes w32 (length es)) (flat_map (pair k v).spell es) rest)
      ∙ rw ((number_form w32 wide32).again (length es) (flat_map (pair k v).spell es ++ rest) fits.0.1, le-ltb most (length es) fits.0.0) (ascending_again cmp law None es rest fits.0.2 fits.1)

-- ---- no form begins another

pub one_value : {X : Type 0} {f : Form X} (law : IsForm f) (x y : X) (rest : List ℕ) → f.Fits x → f.Fits y → f.spell x ++ rest ≡ f.spell y → (y ≡ x) × (rest ≡ [])
one_value {X} {f} law x y rest p q e =
    let here : f.read (f.spell y) ≡ Some (x, rest) = ap f.read (sym e) ∙ law.again x rest p in
    let there : f.read (f.spell y) ≡ Some (y, []) = ap f.read (sym (append-nil (f.spell y))) ∙ law.again y [] q in
    let same = same_Some (y, []) (x, rest) (sym there ∙ here) in
    (ap (λ (z : X × List ℕ). z.0) same, sym (ap (λ (z : X × List ℕ). z.1) same))
