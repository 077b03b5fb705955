-- The bytes of why copies and versions go, and that they are forms: 1 and the file that was audited, 2 and the file of the
-- volume, 3 and the filespace.
use Rattle.std.specs.Prelude.{◌≡◌, ℕ, Option, Some, None, refl}
use Rattle.std.specs.Int.{w32}
use Rattle.std.proofs.Common.{sym, ap}
use Rattle.std.proofs.lemmas.Option.{same_Some}
use Rattle.fields.specs.Forms.{Form, IsForm, number, variant, row, no_more, tagged}
use Rattle.fields.specs.FieldLaws.{number_form, wide32}
use Rattle.fields.specs.FormLaws.{row_table, no_more_table, variant_row, tagged_form}
use Rattle.change_items.specs.declared.reasons.DiscardReason.{DiscardReason}
use Rattle.change_items.specs.declared.reasons.DiscardReason.TheVariants as discards
use Rattle.change_items.specs.declared.reasons.DropReason.{DropReason}
use Rattle.change_items.specs.declared.reasons.DropReason.TheVariants as drops

abbrev pub drop_tag : DropReason → ℕ
drop_tag (drops.Audit f) = 1
drop_tag (drops.Volume f) = 2

abbrev pub drop_audit_with : ℕ → DropReason
drop_audit_with f = drops.Audit f

abbrev pub drop_audit_of : DropReason → Option ℕ
drop_audit_of (drops.Audit f) = Some f
drop_audit_of (drops.Volume f) = None

abbrev pub drop_volume_with : ℕ → DropReason
drop_volume_with f = drops.Volume f

abbrev pub drop_volume_of : DropReason → Option ℕ
drop_volume_of (drops.Audit f) = None
drop_volume_of (drops.Volume f) = Some f

abbrev pub drop_body : ℕ → Form DropReason
drop_body = row 1 (variant drop_audit_with drop_audit_of (number w32)) (row 2 (variant drop_volume_with drop_volume_of (number w32)) no_more)

-- why copies go
unfoldable pub drop_reason : Form DropReason
drop_reason = tagged drop_tag drop_body

abbrev pub discard_tag : DiscardReason → ℕ
discard_tag (discards.Audit f) = 1
discard_tag (discards.Volume f) = 2
discard_tag (discards.Filespace f) = 3

abbrev pub audit_with : ℕ → DiscardReason
audit_with f = discards.Audit f

abbrev pub audit_of : DiscardReason → Option ℕ
audit_of (discards.Audit f) = Some f
audit_of _ = None

abbrev pub volume_with : ℕ → DiscardReason
volume_with f = discards.Volume f

abbrev pub volume_of : DiscardReason → Option ℕ
volume_of (discards.Volume f) = Some f
volume_of _ = None

abbrev pub filespace_with : ℕ → DiscardReason
filespace_with f = discards.Filespace f

abbrev pub filespace_of : DiscardReason → Option ℕ
filespace_of (discards.Filespace f) = Some f
filespace_of _ = None

abbrev pub discard_body : ℕ → Form DiscardReason
discard_body = row 1 (variant audit_with audit_of (number w32)) (row 2 (variant volume_with volume_of (number w32)) (row 3 (variant filespace_with filespace_of (number w32)) no_more))

-- why versions go
unfoldable pub discard_reason : Form DiscardReason
discard_reason = tagged discard_tag discard_body

-- ---- laws

drop_audit_back : (r : DropReason) (f : ℕ) → drop_audit_of r ≡ Some f → drop_audit_with f ≡ r
drop_audit_back (drops.Audit k) f e = ap drop_audit_with (sym (same_Some k f e))
drop_audit_back (drops.Volume k) f e = absurd cc

drop_volume_back : (r : DropReason) (f : ℕ) → drop_volume_of r ≡ Some f → drop_volume_with f ≡ r
drop_volume_back (drops.Audit k) f e = absurd cc
drop_volume_back (drops.Volume k) f e = ap drop_volume_with (sym (same_Some k f e))

pub drop_reason_form : IsForm drop_reason
unfolding drop_reason
drop_reason_form = tagged_form (row_table (variant_row drop_tag 1 drop_audit_with drop_audit_of (λ _. refl) (λ _. refl) drop_audit_back (number_form w32 wide32))
    (row_table (variant_row drop_tag 2 drop_volume_with drop_volume_of (λ _. refl) (λ _. refl) drop_volume_back (number_form w32 wide32))
    (no_more_table drop_tag)))

audit_back : (r : DiscardReason) (f : ℕ) → audit_of r ≡ Some f → audit_with f ≡ r
audit_back (discards.Audit k) f e = ap audit_with (sym (same_Some k f e))
audit_back _ f e = absurd cc

volume_back : (r : DiscardReason) (f : ℕ) → volume_of r ≡ Some f → volume_with f ≡ r
volume_back (discards.Volume k) f e = ap volume_with (sym (same_Some k f e))
volume_back _ f e = absurd cc

filespace_back : (r : DiscardReason) (f : ℕ) → filespace_of r ≡ Some f → filespace_with f ≡ r
filespace_back (discards.Filespace k) f e = ap filespace_with (sym (same_Some k f e))
filespace_back _ f e = absurd cc

pub discard_reason_form : IsForm discard_reason
unfolding discard_reason
discard_reason_form = tagged_form (row_table (variant_row discard_tag 1 audit_with audit_of (λ _. refl) (λ _. refl) audit_back (number_form w32 wide32))
    (row_table (variant_row discard_tag 2 volume_with volume_of (λ _. refl) (λ _. refl) volume_back (number_form w32 wide32))
    (row_table (variant_row discard_tag 3 filespace_with filespace_of (λ _. refl) (λ _. refl) filespace_back (number_form w32 wide32))
    (no_more_table discard_tag))))
