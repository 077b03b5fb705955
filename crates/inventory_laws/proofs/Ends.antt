-- The facts of the volumes where nothing is pending: what they are of a valid database.
use Rattle.std.proofs.Common.{◌≡◌, ℕ, true, List, [], sym, ap, subst, ◌∙◌, append-nil}
use Rattle.kinds.specs.declared.segment.Segment.{Segment}
use Rattle.inventory_rules.specs.inventory_rows.Search.{segments_on}
use Rattle.inventory_rules.specs.inventory_rows.State.{Inv}
use Rattle.inventory_rules.specs.Held.{holding, IsTied}
use Rattle.inventory_rules.specs.Valid.{is_volume, volumes_are}
use Rattle.inventory_rules.specs.Facts.{Facts}
use Rattle.inventory_rules.specs.Halfway.{is_volume_with, lying, VolumeFacts}
use Rattle.inventory_laws.proofs.VolumeRows.{all_so, each_so}

none_pending : (v : Inv) (file : ℕ) → lying [] file v ≡ segments_on file v
none_pending v file = append-nil (segments_on file v)

pub facts_begin : (v : Inv) → Facts v → IsTied v → VolumeFacts [] v
facts_begin v f t = record {
  cite = f.volumes_cite;
  drawn = f.files_drawn;
  bounded = f.files_bounded;
  apart = f.files_apart;
  names = f.volume_names;
  soundly = f.named_soundly;
  by_today = f.volumes_by_today;
  are = all_so (is_volume v) (λ e. is_volume_with v (lying [] e.0 v) e) (λ e h. subst (λ (l : List (ℕ × Segment)). is_volume_with v l e ≡ true) (sym (none_pending v e.0)) h) v.stores.volumes f.volumes_are;
  tied = each_so (λ e. e.1.segments ≡ holding (segments_on e.0 v)) (λ e. e.1.segments ≡ holding (lying [] e.0 v)) (λ e h. h ∙ ap holding (sym (none_pending v e.0))) v.stores.volumes t;
}

pub volumes_end : (v : Inv) → VolumeFacts [] v → volumes_are v ≡ true
volumes_end v f = all_so (λ e. is_volume_with v (lying [] e.0 v) e) (is_volume v) (λ e h. subst (λ (l : List (ℕ × Segment)). is_volume_with v l e ≡ true) (none_pending v e.0) h) v.stores.volumes f.are

pub tied_end : (v : Inv) → VolumeFacts [] v → IsTied v
tied_end v f = each_so (λ e. e.1.segments ≡ holding (lying [] e.0 v)) (λ e. e.1.segments ≡ holding (segments_on e.0 v)) (λ e h. h ∙ ap holding (none_pending v e.0)) v.stores.volumes f.tied
