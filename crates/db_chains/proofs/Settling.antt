-- Calls that change nothing that is read.
use Rattle.std.proofs.Common.{◌≡◌, inl, inr, ℕ, ◌≤◌, List, refl, sym, ◌∙◌, ap, subst, arith}
use Rattle.std.proofs.lemmas.Bool.{cases_eq}
use Rattle.std.specs.Prelude.{Option, None, Some}
use Rattle.store_api.specs.Disk.{Standing, History, standing, reads, now, Leaves, settled, ImageAt}
use Rattle.store_api.specs.Runs.{GoesOn}
use Rattle.store_api.specs.Told.{Told}
use Rattle.store_api.proofs.Runs.{goes_none, goes_then, goes_weaker, goes_later, goes_images, goes_standing, each_then, image_now}
use Rattle.log_file.specs.Cursor.{Looked}
use Rattle.log_file.specs.Starts.{KeepsLeft}
use Rattle.db_chains.specs.Reads.{OnlySettles}

last_moment : (h : History) (moment : ℕ) (files : ℕ → List ℕ) → now h ≤ moment → moment ≤ now h → ImageAt h moment files → ImageAt h (now h) files
last_moment h moment files from to here = subst (λ (k : ℕ). ImageAt h k files) (let e : moment ≡ now h = omega (arith, from, to) in e) here

pub settles_none : (h : History) → OnlySettles h h
settles_none h = record { goes = goes_none (λ file. 4 ≤ file) h; same = λ file. refl; images = λ moment files from to here. last_moment h moment files from to here }

pub settles_then : (old mid new : History) → OnlySettles old mid → OnlySettles mid new → OnlySettles old new
settles_then old mid new a b = record {
  goes = goes_then (λ file. 4 ≤ file) old mid new a.goes b.goes;
  same = λ file. b.same file ∙ a.same file;
  images = each_then (λ file. 4 ≤ file) old mid new (λ files. ImageAt old (now old) files) b.goes a.images
      (λ moment files from to here. a.images (now mid) files (goes_later (λ file. 4 ≤ file) old mid a.goes) (omega arith) (b.images moment files from to here));
}

-- what is read of any file is the same after calls on one file that leave that as it reads
pub same_all : (file : ℕ) (old new : History) → GoesOn (λ other. other ≡ file) old new → reads new file ≡ reads old file → (other : ℕ) → reads new other ≡ reads old other
same_all file old new goes same other = elim (cases_eq other file) [
  | inl here ↦ subst (λ (n : ℕ). reads new n ≡ reads old n) (sym here) same
  | inr apart ↦ ap (λ (s : Standing). s.bytes) (goes_standing (λ f. f ≡ file) old new other apart goes)
]

-- calls on one file, of which a stop leaves no more than it might have
pub settles_file : (file : ℕ) (old new : History) → 4 ≤ file → GoesOn (λ other. other ≡ file) old new → reads new file ≡ reads old file → KeepsLeft file old new → OnlySettles old new
settles_file file old new ours goes same left = record {
  goes = goes_weaker (λ other. other ≡ file) (λ f. 4 ≤ f) old new (λ other here. subst (λ (n : ℕ). 4 ≤ n) (sym here) ours) goes;
  same = same_all file old new goes same;
  images = λ moment files from to here. image_now old files (λ other. elim (cases_eq other file) [
    | inl is ↦ subst (λ (n : ℕ). Leaves (standing old n) (files n)) (sym is) (left moment files from to here)
    | inr apart ↦ goes_images (λ f. f ≡ file) old new other apart goes moment files from to here
  ]);
}

-- calls that only looked
pub settles_looked : (old new : History) → Looked old new → OnlySettles old new
settles_looked old new looked = record {
  goes = goes_weaker (λ other. ⊥) (λ file. 4 ≤ file) old new (λ other no. absurd no) looked;
  same = λ file. ap (λ (s : Standing). s.bytes) (goes_standing (λ other. ⊥) old new file (λ no. no) looked);
  images = λ moment files from to here. image_now old files (λ file. goes_images (λ other. ⊥) old new file (λ no. no) looked moment files from to here);
}

-- a file that is on the disk stays so
pub stays_settled : (file other : ℕ) (old new : History) → GoesOn (λ f. f ≡ file) old new → reads new file ≡ reads old file → standing new file ≡ settled (reads old file) → standing old other ≡ settled (reads old other) → standing new other ≡ settled (reads new other)
stays_settled file other old new goes same durable was = elim (cases_eq other file) [
  | inl here ↦ subst (λ (n : ℕ). standing new n ≡ settled (reads new n)) (sym here) (durable ∙ ap settled (sym same))
  | inr apart ↦ (goes_standing (λ f. f ≡ file) old new other apart goes ∙ was ∙ ap settled (sym (same_all file old new goes same other)))
]
