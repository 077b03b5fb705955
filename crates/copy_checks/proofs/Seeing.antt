-- Looks at files, one after the other.
use Rattle.std.proofs.Common.{◌≡◌, ℕ, List, Option, Some, None, Result, Ok, Err, sym, subst}
use Rattle.std.proofs.Math.Path.{fun_ext}
use Rattle.store_api.specs.Cause.{Rose}
use Rattle.store_api.specs.Disk.{History, reads}
use Rattle.store_api.specs.Runs.{GoesOn}
use Rattle.store_api.specs.Told.{Told}
use Rattle.store_api.proofs.Runs.{goes_none, goes_then, told_map, told_then}
use Rattle.kinds.specs.declared.refusal.OpenRefused.{OpenRefused}
use Rattle.kinds.specs.declared.refusal.OpenRefused.TheVariants as refused
use Rattle.log_file.specs.Cursor.{Looked, MayRefuse}
use Rattle.log_file.specs.Windows.{IfReads, NoDamage}
use Rattle.log_file.proofs.Told.{looked_reads}
use Rattle.copy_checks.specs.Looks.{Looks, MayStop, Saw}

pub same_reads : (old new : History) → GoesOn (λ file. ⊥) old new → reads new ≡ reads old
same_reads old new goes = fun_ext (λ file. looked_reads old new file goes)

pub saw_then : (x y z : Option History) (Q R S : (ℕ → List ℕ) → Type 0) → ((image : ℕ → List ℕ) → Q image → R image → S image) → Told x y (Saw Q) → Told y z (Saw R) → Told x z (Saw S)
saw_then x y z Q R S so a b =
    told_then x y z (Saw Q) (Saw R) (Saw S) (λ h k n p q. (goes_then (λ file. ⊥) h k n p.0 q.0, so (reads h) p.1 (subst R (same_reads h k p.0) q.1))) a b

pub saw_so : (x y : Option History) (Q S : (ℕ → List ℕ) → Type 0) → ((image : ℕ → List ℕ) → Q image → S image) → Told x y (Saw Q) → Told x y (Saw S)
saw_so x y Q S so a = told_map x y (Saw Q) (Saw S) (λ h n p. (p.0, so (reads h) p.1)) a

pub saw_none : (x : Option History) (Q : (ℕ → List ℕ) → Type 0) → ((image : ℕ → List ℕ) → Q image) → Told x x (Saw Q)
saw_none None Q q = tt
saw_none (Some h) Q q = (goes_none (λ file. ⊥) h, q (reads h))

-- what one call says of the bytes of a file
pub saw_reads : (x y : Option History) (file : ℕ) (P : List ℕ → Type 0) (Q : (ℕ → List ℕ) → Type 0) → ((image : ℕ → List ℕ) → P (image file) → Q image) → Told x y Looked → IfReads x file P → Told x y (Saw Q)
saw_reads None None file P Q so told reads_so = tt
saw_reads None (Some n) file P Q so told reads_so = absurd told
saw_reads (Some h) None file P Q so told reads_so = absurd told
saw_reads (Some h) (Some n) file P Q so told reads_so = (told, so (reads h) reads_so)

-- what one call says of nothing
pub saw_looked : (x y : Option History) (Q : (ℕ → List ℕ) → Type 0) → ((image : ℕ → List ℕ) → Q image) → Told x y Looked → Told x y (Saw Q)
saw_looked x y Q so told = told_map x y Looked (Saw Q) (λ h n goes. (goes, so (reads h))) told

pub may_stop : (file : ℕ) (before after : ℕ → ℕ) (moment : ℕ) (why : OpenRefused) → MayRefuse file before after moment why → NoDamage why → MayStop before after moment why
may_stop file before after moment (refused.ReadFault which) may undamaged = subst (λ (n : ℕ). Rose (before n) (after n)) (sym may.0) may.1
may_stop file before after moment refused.NotFormatted may undamaged = may
may_stop file before after moment (refused.Damaged which at) may undamaged = undamaged
may_stop file before after moment refused.RunFull may undamaged = may
may_stop file before after moment refused.Memory may undamaged = tt

-- what was looked at before a look that failed
pub looks_failed : (T U : Type 0) (x y z : Option History) (Q : (ℕ → List ℕ) → Type 0) (R : (ℕ → List ℕ) → T → Type 0) (S : (ℕ → List ℕ) → U → Type 0) (why : OpenRefused) → Told x y (Saw Q)
    → (let result : Result T OpenRefused = Err why in Told y z (Looks R result)) → (let result : Result U OpenRefused = Err why in Told x z (Looks S result))
looks_failed T U x y z Q R S why a b = saw_then x y z Q (λ image. Unit {0}) (λ image. Unit {0}) (λ image p q. tt) a b

-- what follows of what was found
pub looks_so : (T E : Type 0) (x y z : Option History) (Q : (ℕ → List ℕ) → Type 0) (R S : (ℕ → List ℕ) → T → Type 0) (result : Result T E) → ((image : ℕ → List ℕ) (found : T) → Q image → R image found → S image found) → Told x y (Saw Q)
    → Told y z (Looks R result) → Told x z (Looks S result)
looks_so T E x y z Q R S (Ok found) so a b = saw_then x y z Q (λ image. R image found) (λ image. S image found) (λ image p q. so image found p q) a b
looks_so T E x y z Q R S (Err why) so a b = saw_then x y z Q (λ image. Unit {0}) (λ image. Unit {0}) (λ image p q. tt) a b
