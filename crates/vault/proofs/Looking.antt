-- Looking at the gates of both images.
use Rattle.std.proofs.Common.{◌≡◌, ℕ, ◌<◌, ◌≤◌, Bool, false, ◌||◌, Option, IfSome, Result, Ok, Err, IfOk, IfErr, sym, ◌∙◌, ap, arith}
use Rattle.store_api.specs.Cause.{Rose, NoneFell}
use Rattle.store_api.specs.Disk.{History, reads}
use Rattle.store_api.specs.Told.{Told}
use Rattle.kinds.specs.declared.refusal.OpenRefused.{OpenRefused}
use Rattle.kinds.specs.declared.refusal.OpenRefused.TheVariants.{ReadFault, NotFormatted, Damaged, RunFull, Memory}
use Rattle.log_file.specs.Cursor.{Looked, MayRefuse}
use Rattle.log_file.specs.Windows.{IfReads, NoDamage}
use Rattle.vault.specs.Openings.{has_open_gate, is_formatted, MayRefuseLooking}
use Rattle.vault.proofs.Finding.{heads_all}

-- the first image's gate is shut, and so the second's decides
pub gates_told : (x y : Option History) (first : Bool) (result : Result Bool OpenRefused) → first ≡ false → Told x y Looked → IfReads x 0 (λ bytes. first ≡ has_open_gate bytes) → IfOk result (λ is. IfReads y 1 (λ bytes. is ≡ has_open_gate bytes)) → IfOk result (λ is. IfSome x (λ h. is ≡ is_formatted (reads h)))
gates_told x y first (Ok is) shut looked one two = heads_all x y (λ bytes. first ≡ has_open_gate bytes) (λ bytes. is ≡ has_open_gate bytes) (λ h. is ≡ is_formatted (reads h)) (λ h no yes. yes ∙ ap (λ (b : Bool). b || has_open_gate (reads h 1)) (sym shut ∙ no)) looked one two
gates_told x y first (Err why) shut looked one two = tt

rose_since : (a b c : ℕ) → a ≤ b → Rose b c → Rose a c
rose_since a b c le rose = omega (arith, le, rose)

-- why a look at one gate was refused, seen from before
pub looking_refused : (file : ℕ) (before middle after : ℕ → ℕ) (moment : ℕ) (why : OpenRefused) → file < 2 → NoneFell before middle → NoDamage why → MayRefuse file middle after moment why → MayRefuseLooking before after moment why
looking_refused file before middle after moment (ReadFault which) image counts sound (is, rose) = rw is (image, rose_since (before file) (middle file) (after file) (counts file) rose)
looking_refused file before middle after moment NotFormatted image counts sound may = may
looking_refused file before middle after moment (Damaged which at) image counts sound may = absurd sound
looking_refused file before middle after moment RunFull image counts sound may = may
looking_refused file before middle after moment Memory image counts sound may = tt

pub second_refused : {T : Type 0} (before middle after : ℕ → ℕ) (moment : ℕ) (result : Result T OpenRefused) → NoneFell before middle → IfErr result NoDamage → IfErr result (MayRefuse 1 middle after moment) → IfErr result (MayRefuseLooking before after moment)
second_refused before middle after moment (Ok done) counts sound may = tt
second_refused before middle after moment (Err why) counts sound may = looking_refused 1 before middle after moment why (omega arith) counts sound may
