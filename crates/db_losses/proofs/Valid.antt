-- What is restored of a valid database is valid.
use Rattle.std.proofs.Common.{◌≡◌, ℕ, ◌+◌, ◌-◌, ◌^◌, ◌<◌, ◌≤◌, true, not, List, [], ◌∷◌, ◌++◌, map, filter, refl, sym, ap, subst, ◌∙◌, append-nil, arith}
use Rattle.std.specs.Prelude.{◌&&◌, ◌==◌, max, nat_le, nat_lt}
use Rattle.std.specs.List.{flat_map, list_all}
use Rattle.std.specs.Map.{keys_of}
use Rattle.std.proofs.lemmas.Bool.{and_parts, and_from, leb-true, le-leb, ltb-true, lt-ltb}
use Rattle.kinds.specs.declared.segment.Segment.{Segment}
use Rattle.inventory_rows.specs.version_groups.declared.copies.CopyRow.{CopyRow}
use Rattle.inventory_rows.specs.version_groups.declared.versions.Version.{Version}
use Rattle.inventory_rows.specs.Items.{count_items, most_items}
use Rattle.inventory_rows.specs.Search.{copies, versions}
use Rattle.inventory_rows.specs.State.{Inv}
use Rattle.inventory_rules.specs.Common.{with_clients, with_stores}
use Rattle.inventory_rules.specs.Facts.{Facts}
use Rattle.inventory_rules.specs.Halfway.{VersionFacts, VolumeFacts, segments_of}
use Rattle.inventory_rules.specs.Held.{IsTied}
use Rattle.inventory_rules.specs.Reordered.{IsReordered}
use Rattle.inventory_rules.specs.Segments.{take_away}
use Rattle.inventory_rules.specs.Transactions.{OnlyData}
use Rattle.inventory_rules.specs.Valid.{are_apart, is_valid, lie_in}
use Rattle.inventory_effects.specs.Volumes.{taken}
use Rattle.inventory_effects.proofs.Taken.{taken_away}
use Rattle.inventory_laws.specs.Kept.{OnlyVolumes}
use Rattle.inventory_laws.specs.Steady.{IsSteady}
use Rattle.inventory_laws.proofs.Assembled.{steady_begins, steady_ends}
use Rattle.inventory_laws.proofs.Changing.{take_list}
use Rattle.inventory_laws.proofs.Cited.{cite_kept, cite_swapped}
use Rattle.inventory_laws.proofs.Facts.{facts_of, valid_of}
use Rattle.inventory_laws.proofs.Keeping.{kept_same, kept_then, take_kept}
use Rattle.inventory_laws.proofs.Lists.{all_also}
use Rattle.inventory_laws.proofs.RowParts.{Parts, parts_of, valid_from, versions_later, clock_later, le_itself}
use Rattle.inventory_laws.proofs.Stays.{Stays, data_less, in_data, take_away_stays}
use Rattle.inventory_laws.proofs.Stays as stay
use Rattle.inventory_laws.proofs.Swapping.{facts_swapped}
use Rattle.inventory_laws.proofs.VolumeItems.{versions_kept}
use Rattle.inventory_laws.proofs.VolumeRows.{list_all-parts}
use Rattle.db_losses.specs.Losses.{Losses, is_lost, all_gone, lost_of, rows_left, restored}
use Rattle.db_losses.proofs.Counts.{rows_less}
use Rattle.db_losses.proofs.Flat.{kept_left, copies_of_left, lost_of_all}
use Rattle.db_losses.proofs.Kept.{parted}
use Rattle.db_losses.proofs.Rows.{facts_left}

-- ---- the day comes

-- the database on the day, with no backups listed and a later next file number
abbrev came : (file day : ℕ) → Inv → Inv
came file day v = record v { today = day; next_file = max v.next_file (file + 1); backups = [] }

apart_front : (xs ys : List ℕ) → are_apart (xs ++ ys) ≡ true → are_apart xs ≡ true
apart_front [] ys h = refl
apart_front (x ∷ xs) ys h =
    let parts = and_parts (list_all (λ b. not (x == b)) (xs ++ ys)) (are_apart (xs ++ ys)) h in
    and_from (list_all (λ b. not (x == b)) xs) (are_apart xs) (list_all-parts (λ b. not (x == b)) xs ys parts.0).0 (apart_front xs ys parts.1)

drawn_more : (file next : ℕ) (n : ℕ) → (nat_le 4 n && nat_lt n next) ≡ true → (nat_le 4 n && nat_lt n (max next (file + 1))) ≡ true
drawn_more file next n h =
    let parts = and_parts (nat_le 4 n) (nat_lt n next) h in
    let below : n < next = ltb-true n next parts.1 in
    and_from (nat_le 4 n) (nat_lt n (max next (file + 1))) parts.0 (lt-ltb n (max next (file + 1)) (omega (arith, below)))

bounded_more : (file next : ℕ) → file + 2 < 2 ^ 32 → lie_in 4 (2 ^ 32 - 1) (next ∷ []) ≡ true → lie_in 4 (2 ^ 32 - 1) (max next (file + 1) ∷ []) ≡ true
bounded_more file next small h =
    let next_in = and_parts (nat_le 4 next && nat_lt next (2 ^ 32 - 1)) true h in
    let parts = and_parts (nat_le 4 next) (nat_lt next (2 ^ 32 - 1)) next_in.0 in
    let low : 4 ≤ next = leb-true 4 next parts.0 in
    let high : next < 2 ^ 32 - 1 = ltb-true next (2 ^ 32 - 1) parts.1 in
    and_from (nat_le 4 (max next (file + 1)) && nat_lt (max next (file + 1)) (2 ^ 32 - 1)) true
    (and_from (nat_le 4 (max next (file + 1))) (nat_lt (max next (file + 1)) (2 ^ 32 - 1)) (le-leb 4 (max next (file + 1)) (omega (arith, low))) (lt-ltb (max next (file + 1)) (2 ^ 32 - 1) (omega (arith, high, small)))) refl

parts_came : (file day : ℕ) (v : Inv) → v.today ≤ day → day < 2 ^ 31 → file + 2 < 2 ^ 32 → Parts v → Parts (came file day v)
parts_came file day v later bound small p =
    let le = le-leb v.today day later in
    let ks : List ℕ = keys_of v.stores.volumes in
    record {
      policy = p.policy;
      clients = p.clients;
      stores = p.stores;
      files = record {
        drawn = ap (lie_in 4 (max v.next_file (file + 1))) (append-nil ks)
            ∙ all_also (λ n. nat_le 4 n && nat_lt n v.next_file) (λ n. nat_le 4 n && nat_lt n (max v.next_file (file + 1))) ks (drawn_more file v.next_file) (list_all-parts (λ n. nat_le 4 n && nat_lt n v.next_file) ks (keys_of v.backups) p.files.drawn).0;
        bounded = bounded_more file v.next_file small p.files.bounded;
        apart = ap are_apart (append-nil ks) ∙ apart_front ks (keys_of v.backups) p.files.apart;
        backups_apart = refl;
        past = refl;
        by_today = refl;
      };
      versions = versions_later v.number v.number v.today day v.next_object v.stores (versions v) (le_itself v.number) le p.versions;
      clock = clock_later v.number v.number v.today day v.stores.volumes p.clock.number_bounded (lt-ltb day (2 ^ 31) bound) le p.clock;
      few_items = (let few : count_items v ≤ most_items = leb-true (count_items v) most_items p.few_items in le-leb (count_items (came file day v)) most_items (omega (arith, few)));
    }

-- ---- the segments of what is lost go

record IsGone (day : ℕ) (lost : List (ℕ × CopyRow)) (u : Inv) : Type 0 where
  pub volumes : VolumeFacts [] (with_stores (all_gone lost day u.stores) u)
  pub kept : OnlyVolumes u (with_stores (all_gone lost day u.stores) u)
  pub stays : Stays u (with_stores (all_gone lost day u.stores) u)

gone_kept : (day : ℕ) (lost : List (ℕ × CopyRow)) (u : Inv) → u.today ≡ day → VolumeFacts (segments_of lost) u → IsGone day lost u
gone_kept day [] u today f = record { volumes = f; kept = kept_same u; stays = stay.stays u }
gone_kept day (e ∷ lost) u today f =
    let w : Inv = with_stores (taken e.0 e.1.segments day u.stores) u in
    let is : w ≡ take_away e.0 e.1.segments u = ap (λ (d : ℕ). with_stores (taken e.0 e.1.segments d u.stores) u) (sym today) ∙ taken_away e.0 e.1.segments u in
    let less : VolumeFacts (segments_of lost) w = subst (VolumeFacts (segments_of lost)) (sym is) (take_list (segments_of lost) e.0 e.1.segments u f) in
    let rest = gone_kept day lost w today less in
    record {
      volumes = rest.volumes;
      kept = kept_then u w (with_stores (all_gone lost day w.stores) w) (subst (OnlyVolumes u) (sym is) (take_kept e.0 e.1.segments u)) rest.kept;
      stays = stay.then (subst (Stays u) (sym is) (take_away_stays e.0 e.1.segments u)) rest.stays;
    }

-- ---- all of it

left_reordered : (losses : Losses) (file day : ℕ) (v : Inv) → IsReordered (copies v) (lost_of losses (versions v) ++ copies (with_clients (rows_left losses v.clients) (came file day v)))
left_reordered losses file day v =
    let row : Version → List (ℕ × CopyRow) = λ w. map (λ c. (w.object, c)) w.copies in
    let left : copies (with_clients (rows_left losses v.clients) (came file day v)) ≡ filter (λ e. not (is_lost losses e.0 e.1.pool)) (copies v) = ap (flat_map row) (kept_left losses v.clients) ∙ copies_of_left losses (versions v) in
    subst (λ (l : List (ℕ × CopyRow)). IsReordered (copies v) (lost_of losses (versions v) ++ l)) (sym left)
    (subst (λ (l : List (ℕ × CopyRow)). IsReordered (copies v) (l ++ filter (λ e. not (is_lost losses e.0 e.1.pool)) (copies v))) (sym (lost_of_all losses (versions v))) (parted (λ (e : ℕ × CopyRow). is_lost losses e.0 e.1.pool) (copies v)))

pub stays_valid : (losses : Losses) (file day : ℕ) (v : Inv) → is_valid v ≡ true → IsTied v → v.today ≤ day → day < 2 ^ 31 → file + 2 < 2 ^ 32 → (is_valid (restored losses file day v) ≡ true) × IsTied (restored losses file day v)
unfolding restored
stays_valid losses file day v h t later bound small =
    let u : Inv = came file day v in
    let valid = valid_from u (parts_came file day v later bound small (parts_of v h t)) in
    let f : Facts u = facts_of u valid.0 in
    let s : IsSteady v.number [] u = steady_begins v.number u f valid.1 (le_itself v.number) in
    let w : Inv = with_clients (rows_left losses v.clients) u in
    let lost : List (ℕ × CopyRow) = lost_of losses (versions v) in
    let r : IsReordered (copies u) (lost ++ copies w) = left_reordered losses file day v in
    let swapped : VolumeFacts (segments_of lost ++ []) w = facts_swapped [] lost [] u w refl refl refl refl r s.volumes in
    let gone = gone_kept day lost w refl (subst (λ (l : List (ℕ × Segment)). VolumeFacts l w) (append-nil (segments_of lost)) swapped) in
    let x : Inv = with_stores (all_gone lost day w.stores) w in
    let versions_so : VersionFacts v.number w = facts_left losses v.number u s.versions in
    let steady : IsSteady v.number [] x = record {
      versions = versions_kept v.number w x gone.kept versions_so;
      volumes = gone.volumes;
      cite = cite_kept w x gone.kept ∙ (cite_swapped [] lost u w refl r refl s.cite).1;
    } in
    let only : OnlyData u x = record {
      today = refl;
      next_node = refl;
      next_filespace = refl;
      next_pool = refl;
      domains = refl;
      nodes = refl;
      classes = ap (λ (y : Inv). y.stores.classes) gone.kept.only;
      pools = ap (λ (y : Inv). y.stores.pools) gone.kept.only;
      backups = refl;
    } in
    let fewer : in_data x ≤ in_data u = (let rows = rows_less losses v.clients in let volumes = gone.stays.volumes in omega (arith, rows, volumes)) in
    let few : count_items u ≤ most_items = leb-true (count_items u) most_items f.few_items in
    let less = data_less u x only fewer in
    let ends = steady_ends u x f only (le_itself v.number) steady f.number_bounded (le-leb (count_items x) most_items (omega (arith, less, few))) in
    (valid_of x ends.0, ends.1)
