-- The way from the newest backup to those that it needs.
use Rattle.std.proofs.Common.{◌≡◌, ℕ, ◌+◌, ◌-◌, ◌<◌, ◌==◌, ◌||◌, zero, suc, Bool, true, false, List, None, Some, refl, sym, ap, ◌∙◌, arith}
use Rattle.inventory_answers.specs.declared.lines.BackupLine.{BackupLine}
use Rattle.db_backup.specs.Listing.{followed_by, is_met}

one-less : (k : ℕ) → suc k - 1 ≡ k
one-less k = omega arith

pub met-here : (left : ℕ) (lines : List BackupLine) (file other : ℕ) → 0 < left → (other == file) ≡ true → is_met left lines file (Some other) ≡ true
met-here zero lines file other some h = absurd (omega (arith, some))
met-here (suc k) lines file other some h = ap (λ (b : Bool). b || is_met k lines file (followed_by lines other)) h

pub met-further : (left : ℕ) (lines : List BackupLine) (file other : ℕ) → 0 < left → (other == file) ≡ false → is_met left lines file (Some other) ≡ is_met (left - 1) lines file (followed_by lines other)
met-further zero lines file other some h = absurd (omega (arith, some))
met-further (suc k) lines file other some h =
    ap (λ (b : Bool). b || is_met k lines file (followed_by lines other)) h ∙ ap (λ (n : ℕ). is_met n lines file (followed_by lines other)) (sym (one-less k))

pub met-nowhere : (left : ℕ) (lines : List BackupLine) (file : ℕ) → is_met left lines file None ≡ false
met-nowhere zero lines file = refl
met-nowhere (suc k) lines file = refl
