-- The tests of items, once the scratch volumes are made and before.
use Rattle.std.proofs.Common.{◌≡◌, ℕ, eqb, Bool, true, false, cond, ◌&&◌, ◌||◌, not, List, [], ◌∷◌, filter, Option, Some, None, refl, sym, ap, ◌∙◌}
use Rattle.std.specs.List.{list_all, list_any}
use Rattle.std.specs.Option.{option_map_or}
use Rattle.entries.specs.change_items.declared.items.MovedCopy.{MovedCopy}
use Rattle.entries.specs.change_items.declared.items.NewCopy.{NewCopy}
use Rattle.entries.specs.change_items.declared.items.ScratchVolume.{ScratchVolume}
use Rattle.inventory_rows.specs.version_groups.declared.copies.CopyRow.{CopyRow}
use Rattle.inventory_rows.specs.version_groups.declared.versions.Version.{Version}
use Rattle.inventory_rows.specs.version_groups.Copies.{has_copy, without_copy}
use Rattle.inventory_rows.specs.version_groups.Entries.{is_nil}
use Rattle.inventory_rows.specs.version_groups.Versions.{version_of}
use Rattle.inventory_rows.specs.object_rows.Rows.{Rows, kept_of}
use Rattle.inventory_rows.specs.pool_tables.declared.pool.Pool.{Pool}
use Rattle.inventory_rows.specs.pool_tables.Rows.{row_at}
use Rattle.inventory_rows.specs.Search.{is_primary, is_primary_kind, version, versions}
use Rattle.inventory_rows.specs.State.{Inv}
use Rattle.inventory_rules.specs.Valid.{primary_copies}
use Rattle.inventory_rules.specs.Copies.{added_fits, new_copy_fits, replaced_fits, moved_copy_fits}
use Rattle.inventory_rules.specs.Segments.{copy_fits, copy_fits_after}
use Rattle.inventory_fits.specs.Fitting.{has_primary, has_other, are_primary_in, added_fits_at, new_copy_fits_at, replaced_fits_at, moved_copy_fits_at}
use Rattle.inventory_fits.specs.Targets.{made}
use Rattle.inventory_fits.proofs.Made.{same_clients, same_pools}
use Rattle.inventory_fits.proofs.Seen.{copy_seen}

none_kept : {X : Type 0} (p : X → Bool) (xs : List X) → is_nil (filter p xs) ≡ not (list_any p xs)
none_kept p [] = refl
none_kept p (x ∷ xs) = elim (p x) as (λ b. is_nil (cond b (x ∷ filter p xs) (filter p xs)) ≡ not (b || list_any p xs)) [ true ↦ refl | false ↦ none_kept p xs ]

any_kept : {X : Type 0} (p t : X → Bool) (xs : List X) → list_any p (filter t xs) ≡ list_any (λ x. t x && p x) xs
any_kept p t [] = refl
any_kept p t (x ∷ xs) = elim (t x) as (λ b. list_any p (cond b (x ∷ filter t xs) (filter t xs)) ≡ ((b && p x) || list_any (λ x. t x && p x) xs)) [ true ↦ ap (λ b. p x || b) (any_kept p t xs) | false ↦ any_kept p t xs ]

all_kept_pass : {X : Type 0} (p t : X → Bool) (xs : List X) → list_all p (filter t xs) ≡ list_all (λ x. not (t x) || p x) xs
all_kept_pass p t [] = refl
all_kept_pass p t (x ∷ xs) = elim (t x) as (λ b. list_all p (cond b (x ∷ filter t xs) (filter t xs)) ≡ ((not b || p x) && list_all (λ x. not (t x) || p x) xs)) [ true ↦ ap (λ b. p x && b) (all_kept_pass p t xs) | false ↦ all_kept_pass p t xs ]

-- which pools are primary ones is said by the pools alone
abbrev is_primary_in : ℕ → List (ℕ × Pool) → Bool
is_primary_in number pools = option_map_or (λ (p : Pool). is_primary_kind p.kind) (row_at number pools) false

primary_stays : (number : ℕ) (scratch : List ScratchVolume) (v : Inv) → is_primary number (made scratch v) ≡ is_primary number v
primary_stays number scratch v = ap (is_primary_in number) (same_pools scratch v)

primary_copies_stay : (scratch : List ScratchVolume) (v : Inv) (w : Version) → primary_copies (made scratch v) w ≡ primary_copies v w
primary_copies_stay scratch v w = ap (λ pools. filter (λ (c : CopyRow). is_primary_in c.pool pools) w.copies) (same_pools scratch v)

versions_stay : (scratch : List ScratchVolume) (v : Inv) → versions (made scratch v) ≡ versions v
versions_stay scratch v = ap kept_of (same_clients scratch v)

added_seen : (scratch : List ScratchVolume) (v : Inv) (item : NewCopy) (w : Version) → added_fits_at scratch v item w ≡ added_fits (made scratch v) item w
added_seen scratch v item w =
    let fits : Bool = copy_fits (made scratch v) item.pool w.size item.segments in
    ap (λ b. b && (not (is_primary item.pool v) || not (has_primary v w.copies))) (copy_seen [] scratch v item.pool w.size item.segments)
    ∙ sym (
    ap (λ b. fits && (not b || is_nil (primary_copies (made scratch v) w))) (primary_stays item.pool scratch v)
    ∙ ap (λ cs. fits && (not (is_primary item.pool v) || is_nil cs)) (primary_copies_stay scratch v w)
    ∙ ap (λ b. fits && (not (is_primary item.pool v) || b)) (none_kept (λ (c : CopyRow). is_primary c.pool v) w.copies)
    )

replaced_seen : (moved : List MovedCopy) (scratch : List ScratchVolume) (v : Inv) (item : MovedCopy) (w : Version) → replaced_fits_at moved scratch v item w ≡ replaced_fits moved (made scratch v) item w
replaced_seen moved scratch v item w =
    let fits : Bool = copy_fits_after moved (made scratch v) item.pool w.size item.segments in
    let other : Bool = has_copy item.pool (without_copy item.from w.copies) in
    ap (λ b. b && (not (has_other item.from item.pool w.copies) && (not (is_primary item.pool v) || are_primary_in v item.from w.copies))) (copy_seen moved scratch v item.pool w.size item.segments)
    ∙ sym (
    ap (λ b. fits && (not other && (not b || list_all (λ (c : CopyRow). eqb c.pool item.from) (primary_copies (made scratch v) w)))) (primary_stays item.pool scratch v)
    ∙ ap (λ cs. fits && (not other && (not (is_primary item.pool v) || list_all (λ (c : CopyRow). eqb c.pool item.from) cs))) (primary_copies_stay scratch v w)
    ∙ ap (λ b. fits && (not other && (not (is_primary item.pool v) || b))) (all_kept_pass (λ (c : CopyRow). eqb c.pool item.from) (λ (c : CopyRow). is_primary c.pool v) w.copies)
    ∙ ap (λ b. fits && (not b && (not (is_primary item.pool v) || are_primary_in v item.from w.copies))) (any_kept (λ (c : CopyRow). eqb c.pool item.pool) (λ (c : CopyRow). not (eqb c.pool item.from)) w.copies)
    )

same_found : {X : Type 0} (p q : X → Bool) → ((x : X) → p x ≡ q x) → (o : Option X) → option_map_or p o false ≡ option_map_or q o false
same_found p q same None = refl
same_found p q same (Some x) = same x

pub new_copy_seen : (scratch : List ScratchVolume) (v : Inv) (item : NewCopy) → new_copy_fits_at scratch v item ≡ new_copy_fits (made scratch v) item
new_copy_seen scratch v item =
    ap (λ ws. option_map_or (λ w. added_fits_at scratch v item w) (version_of item.object ws) false) (sym (versions_stay scratch v))
    ∙ same_found (added_fits_at scratch v item) (added_fits (made scratch v) item) (added_seen scratch v item) (version item.object (made scratch v))

pub moved_copy_seen : (moved : List MovedCopy) (scratch : List ScratchVolume) (v : Inv) (item : MovedCopy) → moved_copy_fits_at moved scratch v item ≡ moved_copy_fits moved (made scratch v) item
moved_copy_seen moved scratch v item =
    ap (λ ws. option_map_or (λ w. replaced_fits_at moved scratch v item w) (version_of item.object ws) false) (sym (versions_stay scratch v))
    ∙ same_found (replaced_fits_at moved scratch v item) (replaced_fits moved (made scratch v) item) (replaced_seen moved scratch v item) (version item.object (made scratch v))
