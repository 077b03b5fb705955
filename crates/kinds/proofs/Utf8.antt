use Rattle.std.proofs.Common.{◌≡◌, ℕ, true, false, List, refl}
use Rattle.std.specs.Str.{IsUtf8, is_utf8}
use Rattle.std.proofs.lemmas.Str.{IsUtf8-from_is_utf8}

-- bytes that are no UTF-8 fail the test
pub untested : (bs : List ℕ) → ¬ (IsUtf8 bs) → false ≡ is_utf8 bs
untested bs none =
    elim (is_utf8 bs) as (λ r. is_utf8 bs ≡ r → false ≡ r) [
      | true ↦ λ e. absurd (none (IsUtf8-from_is_utf8 bs e))
      | false ↦ λ _. refl
    ] refl
