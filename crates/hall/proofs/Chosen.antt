-- The bytes that a database's objects are taken to have when a hall is opened: what is read of the first copy of each, in the length that its row says. Where the store is sound they are the objects' own.
use Rattle.std.proofs.Common.{◌≡◌, ℕ, ◌+◌, true, false, cond, not, List, [], ◌∷◌, ◌++◌, length, take, replicate, Option, Some, None, refl, sym, ap, subst, ◌∙◌, length-append, arith}
use Rattle.std.specs.Prelude.{◌==◌}
use Rattle.std.specs.List.{AllByRecursion, list_all}
use Rattle.std.specs.Option.{option_map_or}
use Rattle.std.proofs.lemmas.Bool.{and_parts, eq-eqb}
use Rattle.std.proofs.lemmas.Bool.Decides.{nat_tests}
use Rattle.std.proofs.lemmas.List.{length-replicate, length-take-le, take-append-le, take_all}
use Rattle.store_api.specs.Disk.{History, reads}
use Rattle.volume_frames.specs.Frames.{bytes_of}
use Rattle.inventory_rows.specs.version_groups.Entries.{is_nil}
use Rattle.inventory_rows.specs.version_groups.Versions.{are_distinct, version_of}
use Rattle.inventory_rows.specs.version_groups.declared.copies.CopyRow.{CopyRow}
use Rattle.inventory_rows.specs.version_groups.declared.versions.Version.{Version}
use Rattle.inventory_rows.specs.Search.{version, versions}
use Rattle.inventory_rows.specs.State.{Inv}
use Rattle.inventory_rules.specs.Valid.{is_copied, is_valid}
use Rattle.inventory_laws.proofs.Facts.{facts_of}
use Rattle.inventory_laws.proofs.Lists.{all_of, each_also, each_both}
use Rattle.contents.specs.Contents.{FramesHave, HasVersion, HaveAll, Holds, InImage}
use Rattle.contents.proofs.Parts.{bytes_are}
use Rattle.hall.specs.Good.{IsSoundWith}

-- ---- each object has one version

other_number : (a b : ℕ) → not (a == b) ≡ true → (b == a) ≡ false
other_number a b h = grind (arith, nat_tests, h)

each_its_own : (vs : List Version) → are_distinct vs ≡ true → AllByRecursion (λ w. version_of w.object vs ≡ Some w) vs
each_its_own [] h = tt
each_its_own (w ∷ vs) h =
    let parts = and_parts (list_all (λ (x : Version). not (x.object == w.object)) vs) (are_distinct vs) h in (
      ap (λ b. cond {A = Option Version} b (Some w) (version_of w.object vs)) (eq-eqb w.object w.object refl),
      each_both (λ (x : Version). not (x.object == w.object) ≡ true) (λ (x : Version). version_of x.object vs ≡ Some x) (λ (x : Version). version_of x.object (w ∷ vs) ≡ Some x) vs
          (λ x apart found. ap (λ b. cond {A = Option Version} b (Some w) (version_of x.object vs)) (other_number x.object w.object apart) ∙ found)
          (all_of (λ (x : Version). not (x.object == w.object)) vs parts.0) (each_its_own vs parts.1),
    )

pub each_found : (v : Inv) → is_valid v ≡ true → AllByRecursion (λ w. version w.object v ≡ Some w) (versions v)
each_found v valid = each_its_own (versions v) (facts_of v valid).objects_apart

-- ---- bytes of a length

-- so many bytes, with 0 behind those that are there
abbrev fit : ℕ → List ℕ → List ℕ
fit n bytes = take n (bytes ++ replicate n 0)

fit_long : (n : ℕ) (bytes : List ℕ) → length (fit n bytes) ≡ n
fit_long n bytes =
    let zeros : length {A = ℕ} (replicate n 0) ≡ n = length-replicate n 0 in
    let all : length (bytes ++ replicate n 0) ≡ length bytes + length {A = ℕ} (replicate n 0) = length-append bytes (replicate n 0) in
    length-take-le n (bytes ++ replicate n 0) (omega (arith, zeros, all))

fit_whole : (n : ℕ) (bytes : List ℕ) → length bytes ≡ n → fit n bytes ≡ bytes
fit_whole n bytes e = take-append-le n bytes (replicate n 0) (omega (arith, e)) ∙ take_all n bytes (omega (arith, e))

-- ---- what is chosen

-- what is read of the first of some copies, where the store tells its bytes
abbrev read_of : Option History → List CopyRow → List ℕ
read_of None cs = []
read_of (Some h) [] = []
read_of (Some h) (c ∷ cs) = bytes_of (reads h) c.segments

abbrev pub chosen : Option History → Inv → ℕ → List ℕ
chosen told v object = option_map_or (λ w. fit w.size (read_of told w.copies)) (version object v) []

pub chosen_sized : (told : Option History) (v : Inv) → is_valid v ≡ true → AllByRecursion (λ w. length (chosen told v w.object) ≡ w.size) (versions v)
chosen_sized told v valid =
    each_also (λ (w : Version). version w.object v ≡ Some w) (λ (w : Version). length (chosen told v w.object) ≡ w.size) (versions v)
    (λ w found. ap (λ (o : Option Version). length (option_map_or (λ (x : Version). fit x.size (read_of told x.copies)) o [])) found ∙ fit_long w.size (read_of told w.copies)) (each_found v valid)

-- ---- over a sound store

module _ (P : ℕ → ℕ → List ℕ → Type 0) (mine theirs : ℕ → List ℕ) where
  -- objects with the same bytes
  pub with_bytes : (list : List Version) → AllByRecursion (λ w. mine w.object ≡ theirs w.object) list → HaveAll P theirs list → HaveAll P mine list
  with_bytes list same have =
      each_both (λ (w : Version). mine w.object ≡ theirs w.object) (λ (w : Version). HasVersion P (theirs w.object) w) (λ (w : Version). HasVersion P (mine w.object) w) list
      (λ w e h. subst (λ (bytes : List ℕ). HasVersion P bytes w) (sym e) h) same have

module _ (h : History) (contents : ℕ → List ℕ) (v : Inv) (valid : is_valid v ≡ true) (holds : Holds contents (reads h) v) where
  first_bytes : (object : ℕ) (bytes : List ℕ) (cs : List CopyRow) → not (is_nil cs) ≡ true → AllByRecursion (λ (c : CopyRow). FramesHave (InImage (reads h)) object 0 c.segments bytes) cs
      → read_of (Some h) cs ≡ bytes
  first_bytes object bytes [] some have = absurd cc
  first_bytes object bytes (c ∷ cs) some have = sym (bytes_are (reads h) object 0 c.segments bytes have.0)

  one_chosen : (w : Version) → version w.object v ≡ Some w → is_copied v w ≡ true → HasVersion (InImage (reads h)) (contents w.object) w → chosen (Some h) v w.object ≡ contents w.object
  one_chosen w found copied has =
      ap (λ (o : Option Version). option_map_or (λ (x : Version). fit x.size (read_of (Some h) x.copies)) o []) found
      ∙ ap (fit w.size) (first_bytes w.object (contents w.object) w.copies (and_parts (not (is_nil w.copies)) _ copied).0 has.copies)
      ∙ fit_whole w.size (contents w.object) has.size

  pub chosen_are : AllByRecursion (λ w. chosen (Some h) v w.object ≡ contents w.object) (versions v)
  chosen_are =
      each_both (λ (w : Version). (version w.object v ≡ Some w) × (is_copied v w ≡ true)) (λ (w : Version). HasVersion (InImage (reads h)) (contents w.object) w)
      (λ (w : Version). chosen (Some h) v w.object ≡ contents w.object) (versions v) (λ w is has. one_chosen w is.0 is.1 has)
      (each_both (λ (w : Version). version w.object v ≡ Some w) (λ (w : Version). is_copied v w ≡ true) (λ (w : Version). (version w.object v ≡ Some w) × (is_copied v w ≡ true)) (versions v)
      (λ w found copied. (found, copied)) (each_found v valid) (all_of (is_copied v) (versions v) (facts_of v valid).versions_copied)) holds

  pub chosen_sound : (opened : ℕ) → IsSoundWith contents v opened h → IsSoundWith (chosen (Some h) v) v opened h
  chosen_sound opened sound image at = let one = sound image at in (one.0, with_bytes (InImage image) (chosen (Some h) v) contents (versions v) chosen_are one.1)
