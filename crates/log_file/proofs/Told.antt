-- Calls that only look, seen from what a store tells before and after them.
use Rattle.std.proofs.Common.{◌≡◌, ℕ, List, [], ◌∷◌, Option, Some, None, sym, ap, subst, arith}
use Rattle.store_api.specs.Disk.{Standing, idle, History, standing, reads}
use Rattle.store_api.specs.Runs.{OnlyOn}
use Rattle.store_api.specs.Told.{Told, Adds}
use Rattle.store_api.proofs.Runs.{told_then, goes_none, goes_then, goes_standing}
use Rattle.log_file.specs.Cursor.{Looked}
use Rattle.log_file.specs.Windows.{IfReads, Onward}

-- one call that had no effect
pub idle_looked : (old new : History) → Adds (λ call. call ≡ idle) old new → Looked old new
idle_looked old new adds = record { calls = adds.0 ∷ []; grew = adds.2; only = subst (λ c. OnlyOn (λ other. ⊥) (c ∷ [])) (sym adds.1) tt }

pub looked_then : (x y z : Option History) → Told x y Looked → Told y z Looked → Told x z Looked
looked_then x y z a b = told_then x y z Looked Looked Looked (goes_then (λ other. ⊥)) a b

pub looked_same : (x : Option History) → Told x x Looked
looked_same None = tt
looked_same (Some h) = goes_none (λ other. ⊥) h

-- every file is as before
pub looked_standing : (old new : History) (file : ℕ) → Looked old new → standing new file ≡ standing old file
looked_standing old new file looked = goes_standing (λ other. ⊥) old new file (λ no. no) looked

pub looked_reads : (old new : History) (file : ℕ) → Looked old new → reads new file ≡ reads old file
looked_reads old new file looked = ap (λ (s : Standing). s.bytes) (looked_standing old new file looked)

-- what holds of the file's bytes after it held before it
pub back_reads : (x y : Option History) (file : ℕ) (P : List ℕ → Type 0) → Told x y Looked → IfReads y file P → IfReads x file P
back_reads None None file P t p = tt
back_reads None (Some new) file P t p = tt
back_reads (Some old) None file P t p = absurd t
back_reads (Some old) (Some new) file P t p = subst P (looked_reads old new file t) p

pub reads_all : (x : Option History) (file : ℕ) (P : List ℕ → Type 0) → ((bytes : List ℕ) → P bytes) → IfReads x file P
reads_all None file P f = tt
reads_all (Some h) file P f = f (reads h file)

pub reads_map : (x : Option History) (file : ℕ) (P Q : List ℕ → Type 0) → ((bytes : List ℕ) → P bytes → Q bytes) → IfReads x file P → IfReads x file Q
reads_map None file P Q f p = tt
reads_map (Some h) file P Q f p = f (reads h file) p

pub reads_both : (x : Option History) (file : ℕ) (P Q R : List ℕ → Type 0) → ((bytes : List ℕ) → P bytes → Q bytes → R bytes) → IfReads x file P → IfReads x file Q → IfReads x file R
reads_both None file P Q R f p q = tt
reads_both (Some h) file P Q R f p q = f (reads h file) p q

-- what is told of both, with what holds of the bytes
pub told_reads : (x y : Option History) (file : ℕ) (P : List ℕ → Type 0) (R Q : History → History → Type 0) → ((old new : History) → R old new → P (reads old file) → Q old new) → Told x y R → IfReads x file P → Told x y Q
told_reads None None file P R Q f t p = t
told_reads None (Some new) file P R Q f t p = t
told_reads (Some old) None file P R Q f t p = t
told_reads (Some old) (Some new) file P R Q f t p = f old new t p

-- the same before and after
pub told_same : (x : Option History) (R : History → History → Type 0) → ((h : History) → R h h) → Told x x R
told_same None R f = tt
told_same (Some h) R f = f h

-- calls and then more calls
pub onward_then : (a b c : ℕ) (f g h : ℕ → ℕ) → Onward a b f g → Onward b c g h → Onward a c f h
onward_then a b c f g h x y = record { later = omega (arith, x.later, y.later); time = omega (arith, x.time, y.time); counts = λ file. omega (arith, x.counts file, y.counts file) }
