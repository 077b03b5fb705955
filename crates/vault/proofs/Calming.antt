-- Calls that change nothing that is read.
use Rattle.std.proofs.Common.{◌≡◌, inl, inr, ℕ, ◌+◌, ◌<◌, ◌≤◌, List, Option, None, Some, Result, Ok, Err, refl, sym, ◌∙◌, ap, subst, arith}
use Rattle.std.proofs.lemmas.Bool.{cases_eq}
use Rattle.store_api.specs.Disk.{Standing, History, standing, reads, now, Leaves, settled, ImageAt}
use Rattle.store_api.specs.Runs.{GoesOn}
use Rattle.store_api.specs.Told.{Told}
use Rattle.store_api.proofs.Runs.{goes_none, goes_then, goes_weaker, goes_later, goes_images, goes_standing, each_then, image_now}
use Rattle.kinds.specs.declared.refusal.OpenRefused.{OpenRefused}
use Rattle.kinds.specs.declared.refusal.OpenRefused.TheVariants.{ReadFault, NotFormatted, Damaged, RunFull, Memory}
use Rattle.log_file.specs.Cursor.{Looked, MayRefuse}
use Rattle.log_file.specs.Windows.{NoDamage}
use Rattle.log_file.specs.Starts.{KeepsLeft, Settled}
use Rattle.vault.specs.Files.{IsOurs}
use Rattle.vault.specs.Openings.{Calm, SettledBelow, SettledAll, SaysNothing}

last_moment : (h : History) (moment : ℕ) (files : ℕ → List ℕ) → now h ≤ moment → moment ≤ now h → ImageAt h moment files → ImageAt h (now h) files
last_moment h moment files from to here = subst (λ (k : ℕ). ImageAt h k files) (let e : moment ≡ now h = omega (arith, from, to) in e) here

pub calm_none : (h : History) → Calm h h
calm_none h = record { goes = goes_none IsOurs h; same = λ file. refl; images = λ moment files from to here. last_moment h moment files from to here }

pub calm_then : (old mid new : History) → Calm old mid → Calm mid new → Calm old new
calm_then old mid new a b = record {
  goes = goes_then IsOurs old mid new a.goes b.goes;
  same = λ file. b.same file ∙ a.same file;
  images = each_then IsOurs old mid new (λ files. ImageAt old (now old) files) b.goes a.images
      (λ moment files from to here. a.images (now mid) files (goes_later IsOurs old mid a.goes) (omega arith) (b.images moment files from to here));
}

pub calm_looked : (old new : History) → Looked old new → Calm old new
calm_looked old new looked = record {
  goes = goes_weaker (λ other. ⊥) IsOurs old new (λ other no. absurd no) looked;
  same = λ file. ap (λ (s : Standing). s.bytes) (goes_standing (λ other. ⊥) old new file (λ no. no) looked);
  images = λ moment files from to here. image_now old files (λ file. goes_images (λ other. ⊥) old new file (λ no. no) looked moment files from to here);
}

-- calls on one file, of which a stop leaves no more than it might have
pub calm_file : (file : ℕ) (old new : History) → IsOurs file → GoesOn (λ other. other ≡ file) old new → reads new file ≡ reads old file → KeepsLeft file old new → Calm old new
calm_file file old new ours goes same left = record {
  goes = goes_weaker (λ other. other ≡ file) IsOurs old new (λ other here. subst IsOurs (sym here) ours) goes;
  same = λ other. elim (cases_eq other file) [
    | inl here ↦ subst (λ (n : ℕ). reads new n ≡ reads old n) (sym here) same
    | inr apart ↦ ap (λ (s : Standing). s.bytes) (goes_standing (λ f. f ≡ file) old new other apart goes)
  ];
  images = λ moment files from to here. image_now old files (λ other. elim (cases_eq other file) [
    | inl is ↦ subst (λ (n : ℕ). Leaves (standing old n) (files n)) (sym is) (left moment files from to here)
    | inr apart ↦ goes_images (λ f. f ≡ file) old new other apart goes moment files from to here
  ]);
}

pub settled_calm : {T E : Type 0} (file : ℕ) (result : Result T E) (old new : History) → IsOurs file → Settled file result old new → Calm old new
settled_calm file result old new ours settles = calm_file file old new ours settles.goes settles.same settles.left

-- one file more
pub settled_more : {T E : Type 0} (file : ℕ) (done : T) (old mid new : History) → IsOurs file → SettledBelow file old mid → (let result : Result T E = Ok done in Settled file result mid new) → SettledBelow (file + 1) old new
settled_more {T} {E} file done old mid new ours below settles = record {
  calm = calm_then old mid new below.calm (settled_calm {T = T} {E = E} file (Ok done) mid new ours settles);
  durable = λ other lt. elim (cases_eq other file) [
    | inl here ↦ subst (λ (n : ℕ). standing new n ≡ settled (reads old n)) (sym here) (settles.durable ∙ ap settled (below.calm.same file))
    | inr apart ↦ goes_standing (λ f. f ≡ file) mid new other apart settles.goes ∙ below.durable other (omega (arith, lt, apart))
  ];
}

pub settled_none : (h : History) → SettledBelow 0 h h
settled_none h = record { calm = calm_none h; durable = λ file lt. absurd (omega (arith, lt)) }

pub told_none : (x : Option History) → Told x x (SettledBelow 0)
told_none None = tt
told_none (Some h) = settled_none h

pub all_settled : {T E : Type 0} (count : ℕ) (done : T) (old new : History) → 4 ≤ count → SettledBelow count old new → (let result : Result T E = Ok done in SettledAll result old new)
all_settled count done old new le below = record { calm = below.calm; durable = λ file ours. below.durable file (omega (arith, le, (let o : file < 4 = ours in o))) }

pub not_settled : {T E F : Type 0} (file : ℕ) (failed : F) (why : E) (old mid new : History) → IsOurs file → SettledBelow file old mid → (let first : Result T F = Err failed in Settled file first mid new) → (let result : Result T E = Err why in SettledAll result old new)
not_settled {T} {E} {F} file failed why old mid new ours below settles = record { calm = calm_then old mid new below.calm (settled_calm {T = T} {E = F} file (Err failed) mid new ours settles); durable = tt }

pub says_nothing : (file : ℕ) (before after : ℕ → ℕ) (moment : ℕ) (refusal : OpenRefused) → NoDamage refusal → MayRefuse file before after moment refusal → SaysNothing refusal
says_nothing file before after moment (Damaged which at) not may = absurd not
says_nothing file before after moment NotFormatted not may = absurd may
says_nothing file before after moment (ReadFault which) not may = tt
says_nothing file before after moment RunFull not may = tt
says_nothing file before after moment Memory not may = tt
