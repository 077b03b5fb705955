-- The version of an object that is found in a database.
use Rattle.std.proofs.Common.{◌≡◌, ℕ, ◌+◌, eqb, Bool, true, not, nat_le, List, [], ◌∷◌, length, Some, refl, sym, ap, subst, ◌∙◌}
use Rattle.std.specs.List.{AllByRecursion, list_all, sum_by}
use Rattle.std.proofs.lemmas.Bool.{eqb-true}
use Rattle.std.proofs.lemmas.List.Sums.{sum_by-cons}
use Rattle.kinds.specs.declared.segment.Segment.{Segment}
use Rattle.inventory_laws.specs.inventory_rows.version_groups.declared.copies.CopyRow.{CopyRow}
use Rattle.inventory_laws.specs.inventory_rows.version_groups.declared.versions.Version.{Version}
use Rattle.inventory_laws.specs.inventory_rows.version_groups.Copies.{are_by_pool}
use Rattle.inventory_laws.specs.inventory_rows.version_groups.Entries.{is_nil}
use Rattle.volume_frames.specs.Frames.{bytes_len}
use Rattle.inventory_laws.specs.inventory_rows.Search.{version, versions}
use Rattle.inventory_laws.specs.inventory_rows.State.{Inv}
use Rattle.inventory_laws.specs.inventory_rules.Valid.{is_copied, is_valid, primary_copies}
use Rattle.inventory_laws.proofs.Facts.{facts_of, rest}
use Rattle.inventory_laws.proofs.Origins.{each_found}
use Rattle.contents.specs.Contents.{HasVersion, HaveAll}
use Rattle.contents.proofs.Segments.{all_weaker, each_passes}

-- its object has the bytes that the contents give
pub found_has : (P : ℕ → ℕ → List ℕ → Type 0) (contents : ℕ → List ℕ) (object : ℕ) (v : Inv) (w : Version) → HaveAll P contents (versions v) → version object v ≡ Some w → HasVersion P (contents object) w
found_has P contents object v w all found =
    let one = each_found (λ (x : Version). HasVersion P (contents x.object) x) (λ (x : Version). eqb x.object object) (versions v) w all found in
    subst (λ (n : ℕ). HasVersion P (contents n) w) (eqb-true w.object object one.1) one.0

-- ---- the lengths of its copies

sums : (segments : List Segment) → bytes_len segments ≡ sum_by (λ (s : Segment). s.len) segments
sums [] = refl
sums (s ∷ segments) = ap (λ n. s.len + n) (sums segments) ∙ sym (sum_by-cons (λ (x : Segment). x.len) s segments)

copied_long : (v : Inv) (w : Version) → is_copied v w ≡ true → AllByRecursion (λ (c : CopyRow). bytes_len c.segments ≡ w.size) w.copies
copied_long v w h =
    let full : CopyRow → Bool = λ (c : CopyRow). eqb (sum_by (λ s. s.len) c.segments) w.size in
    let all : list_all full w.copies ≡ true = rest (are_by_pool w.copies) (list_all full w.copies) (rest (nat_le (length (primary_copies v w)) 1) _ (rest (not (is_nil w.copies)) _ h)) in
    all_weaker (λ (c : CopyRow). full c ≡ true) (λ (c : CopyRow). bytes_len c.segments ≡ w.size) (λ c e. sums c.segments ∙ eqb-true (sum_by (λ s. s.len) c.segments) w.size e) w.copies (each_passes full w.copies all)

pub found_long : (object : ℕ) (v : Inv) (w : Version) → is_valid v ≡ true → version object v ≡ Some w → AllByRecursion (λ (c : CopyRow). bytes_len c.segments ≡ w.size) w.copies
found_long object v w valid found =
    (each_found (λ (x : Version). AllByRecursion (λ (c : CopyRow). bytes_len c.segments ≡ x.size) x.copies) (λ (x : Version). eqb x.object object) (versions v) w
    (all_weaker (λ (x : Version). is_copied v x ≡ true) (λ (x : Version). AllByRecursion (λ (c : CopyRow). bytes_len c.segments ≡ x.size) x.copies) (copied_long v) (versions v) (each_passes (is_copied v) (versions v) (facts_of v valid).versions_copied)) found).0
