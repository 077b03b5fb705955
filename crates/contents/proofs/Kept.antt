-- What a store keeps of a database: what stops leave of it, and what runs take away.
use Rattle.std.proofs.Common.{◌≡◌, inl, inr, ℕ, ◌+◌, ◌<◌, ◌≤◌, Bool, true, List, sym, subst, arith}
use Rattle.std.specs.List.{list_all}
use Rattle.std.proofs.lemmas.Bool.{cases_eq}
use Rattle.kinds.specs.declared.segment.Segment.{Segment}
use Rattle.inventory_laws.specs.inventory_rows.version_groups.declared.versions.Version.{Version}
use Rattle.store_api.specs.Disk.{History, standing, reads, now, ImageAt}
use Rattle.store_api.specs.Runs.{Firm, Stands, GoesOn, EachImage, WroteWithin}
use Rattle.store_api.proofs.Standings.{leaves_firm}
use Rattle.store_api.proofs.Runs.{now_image}
use Rattle.store_api.proofs.Pieces.{image_reads, firm_beside, firm_since}
use Rattle.inventory_laws.specs.inventory_rows.Search.{segments_on, versions}
use Rattle.inventory_laws.specs.inventory_rows.State.{Inv}
use Rattle.inventory_laws.specs.inventory_rules.Valid.{is_valid}
use Rattle.inventory_laws.specs.inventory_rules.Segments.{are_clear}
use Rattle.contents.specs.Contents.{HaveAll, InImage, InStore, Holds, IsKept}
use Rattle.contents.proofs.Segments.{EachSegment, Carries, all_carried, each_of, each_weaker, on_volumes, each_on, clear_outside}

-- what is kept, each image of now has
pub kept_left : (contents : ℕ → List ℕ) (h : History) (v : Inv) (image : ℕ → List ℕ) → IsKept contents h v → ImageAt h (now h) image → Holds contents image v
kept_left contents h v image kept here =
    all_carried (InStore h) (InImage image) contents (versions v)
    (each_of (Carries (InStore h) (InImage image)) (λ s piece long f. leaves_firm (standing h s.file) (image s.file) s.offset piece (now_image h image here s.file) f) (versions v)) kept

pub kept_reads : (contents : ℕ → List ℕ) (h : History) (v : Inv) → IsKept contents h v → Holds contents (reads h) v
kept_reads contents h v kept = kept_left contents h v (reads h) kept (image_reads h)

-- a run that doesn't name the files of the segments
pub beside : (theirs : ℕ → Type 0) (contents : ℕ → List ℕ) (old new : History) (list : List Version) → EachSegment (λ s. ¬ theirs s.file) list → GoesOn theirs old new
    → HaveAll (InStore old) contents list → HaveAll (InStore new) contents list
beside theirs contents old new list apart goes kept =
    all_carried (InStore old) (InStore new) contents list
    (each_weaker (λ s. ¬ theirs s.file) (Carries (InStore old) (InStore new)) (λ s not_theirs piece long f. firm_beside theirs old new s.file s.offset piece not_theirs goes f) list apart) kept

pub beside_since : (theirs : ℕ → Type 0) (contents : ℕ → List ℕ) (old new : History) (list : List Version) → EachSegment (λ s. ¬ theirs s.file) list → GoesOn theirs old new
    → HaveAll (InStore old) contents list → EachImage (now old) new (λ image. HaveAll (InImage image) contents list)
beside_since theirs contents old new list apart goes kept moment image from to here =
    all_carried (InStore old) (InImage image) contents list
    (each_weaker (λ s. ¬ theirs s.file) (Carries (InStore old) (InImage image)) (λ s not_theirs piece long f. firm_since theirs old new s.file s.offset piece not_theirs goes f moment image from to here) list apart) kept

no_volume : (v : Inv) → is_valid v ≡ true → EachSegment (λ s. ¬ (s.file < 4)) (versions v)
no_volume v valid = each_weaker (λ s. 4 ≤ s.file) (λ s. ¬ (s.file < 4)) (λ s from lt. absurd (omega arith)) (versions v) (on_volumes v valid)

pub others_kept : (contents : ℕ → List ℕ) (old new : History) (v : Inv) → is_valid v ≡ true → GoesOn (λ f. f < 4) old new → IsKept contents old v → IsKept contents new v
others_kept contents old new v valid goes kept = beside (λ f. f < 4) contents old new (versions v) (no_volume v valid) goes kept

pub others_since : (contents : ℕ → List ℕ) (old new : History) (v : Inv) → is_valid v ≡ true → GoesOn (λ f. f < 4) old new → IsKept contents old v → EachImage (now old) new (λ image. Holds contents image v)
others_since contents old new v valid goes kept = beside_since (λ f. f < 4) contents old new (versions v) (no_volume v valid) goes kept

pub looked_kept : (contents : ℕ → List ℕ) (old new : History) (v : Inv) → GoesOn (λ f. ⊥) old new → IsKept contents old v → IsKept contents new v
looked_kept contents old new v goes kept = beside (λ f. ⊥) contents old new (versions v) (each_of (λ s. ¬ ⊥) (λ s none. none) (versions v)) goes kept

pub looked_since : (contents : ℕ → List ℕ) (old new : History) (v : Inv) → GoesOn (λ f. ⊥) old new → IsKept contents old v → EachImage (now old) new (λ image. Holds contents image v)
looked_since contents old new v goes kept = beside_since (λ f. ⊥) contents old new (versions v) (each_of (λ s. ¬ ⊥) (λ s none. none) (versions v)) goes kept

-- a frame that is written beside a segment leaves what stands in that one's place
pub firm_clear : (sequential : Bool) (s other : Segment) (old new : History) → WroteWithin s.file s.offset (32 + s.len) old new → (other.file ≡ s.file → are_clear sequential s other ≡ true) → Carries (InStore old) (InStore new) other
firm_clear sequential s other old new wrote clear piece long f = elim (cases_eq other.file s.file) [
  | inl same ↦
      subst (λ (n : ℕ). Firm (standing new n) other.offset piece) (sym same)
      (wrote.firm other.offset piece (clear_outside sequential s other piece (clear same) long) (subst (λ (n : ℕ). Firm (standing old n) other.offset piece) same f))
  | inr apart ↦ firm_beside (λ n. n ≡ s.file) old new other.file other.offset piece apart wrote.goes f
]

pub since_clear : (sequential : Bool) (s other : Segment) (old new : History) (moment : ℕ) (image : ℕ → List ℕ) → WroteWithin s.file s.offset (32 + s.len) old new → (other.file ≡ s.file → are_clear sequential s other ≡ true)
    → now old ≤ moment → moment ≤ now new → ImageAt new moment image → Carries (InStore old) (InImage image) other
since_clear sequential s other old new moment image wrote clear from to here piece long f = elim (cases_eq other.file s.file) [
  | inl same ↦
      subst (λ (n : ℕ). Stands (image n) other.offset piece) (sym same)
      (wrote.since other.offset piece (clear_outside sequential s other piece (clear same) long) (subst (λ (n : ℕ). Firm (standing old n) other.offset piece) same f) moment image from to here)
  | inr apart ↦ firm_since (λ n. n ≡ s.file) old new other.file other.offset piece apart wrote.goes f moment image from to here
]

pub beside_kept : (contents : ℕ → List ℕ) (old new : History) (v : Inv) (sequential : Bool) (s : Segment) → WroteWithin s.file s.offset (32 + s.len) old new
    → list_all (λ e. are_clear sequential s e.1) (segments_on s.file v) ≡ true → IsKept contents old v → IsKept contents new v
beside_kept contents old new v sequential s wrote clear kept =
    all_carried (InStore old) (InStore new) contents (versions v)
    (each_weaker (λ other. other.file ≡ s.file → are_clear sequential s other ≡ true) (Carries (InStore old) (InStore new)) (λ other c. firm_clear sequential s other old new wrote c) (versions v)
    (each_on (are_clear sequential s) s.file v clear)) kept

pub written_since : (contents : ℕ → List ℕ) (old new : History) (v : Inv) (sequential : Bool) (s : Segment) → WroteWithin s.file s.offset (32 + s.len) old new
    → list_all (λ e. are_clear sequential s e.1) (segments_on s.file v) ≡ true → IsKept contents old v → EachImage (now old) new (λ image. Holds contents image v)
written_since contents old new v sequential s wrote clear kept moment image from to here =
    all_carried (InStore old) (InImage image) contents (versions v)
    (each_weaker (λ other. other.file ≡ s.file → are_clear sequential s other ≡ true) (Carries (InStore old) (InImage image)) (λ other c. since_clear sequential s other old new moment image wrote c from to here) (versions v)
    (each_on (are_clear sequential s) s.file v clear)) kept
