-- Days that fall from each version to the one behind it fall from each to all behind it.
use Rattle.std.proofs.Common.{◌≡◌, ℕ, Bool, true, false, nat_le, ◌&&◌, is_some, List, [], ◌∷◌, Option, Some, None, refl, ap, ◌∙◌, arith}
use Rattle.std.specs.List.{list_all}
use Rattle.std.specs.Option.{option_map_or}
use Rattle.std.proofs.lemmas.Bool.{and_from, and_parts, and_right, leb-true, le-leb}
use Rattle.inventory_rows.specs.version_groups.declared.group.Group.{Group}
use Rattle.inventory_rows.specs.version_groups.declared.versions.Version.{Version}
use Rattle.inventory_rows.specs.version_groups.Entries.{all_later}
use Rattle.inventory_rules.specs.Valid.{are_all_inactive, is_orderly}
use Rattle.inventory_check.specs.Rows.{days_fall, is_not_later}

abbrev falls : Option ℕ → Option ℕ → Bool
falls x y = option_map_or (λ b. option_map_or (λ a. nat_le b a) x true) y true

abbrev in_turn : Version → Version → Bool
in_turn a b = falls a.since b.since

falls_is : (x y : Option ℕ) → falls x y ≡ is_not_later x y
falls_is None None = refl
falls_is None (Some y) = refl
falls_is (Some x) None = refl
falls_is (Some x) (Some y) = refl

falls_on : (x y z : Option ℕ) → is_some y ≡ true → falls x y ≡ true → falls y z ≡ true → falls x z ≡ true
falls_on x None z s a b = absurd cc
falls_on None (Some y) None s a b = refl
falls_on None (Some y) (Some z) s a b = refl
falls_on (Some x) (Some y) None s a b = refl
falls_on (Some x) (Some y) (Some z) s a b = le-leb z x (omega (arith, leb-true y x a, leb-true z y b))

all_behind : (x y : Option ℕ) (ws : List Version) → is_some y ≡ true → falls x y ≡ true → list_all (λ w. falls y w.since) ws ≡ true → list_all (λ w. falls x w.since) ws ≡ true
all_behind x y [] s a h = refl
all_behind x y (w ∷ ws) s a h =
    let parts = and_parts (falls y w.since) (list_all (λ (v : Version). falls y v.since) ws) h in
    and_from (falls x w.since) (list_all (λ (v : Version). falls x v.since) ws) (falls_on x y w.since s a parts.0) (all_behind x y ws s a parts.1)

middle_follows : (a b c : Bool) → (a ≡ true → c ≡ true → b ≡ true) → ((a && b) && c) ≡ (a && c)
middle_follows false b c h = refl
middle_follows true b true h = ap (λ t. t && true) (h refl refl)
middle_follows true b false h = and_right b false refl

fall_all : (n : Version) (older : List Version) → are_all_inactive older ≡ true → all_later in_turn (n ∷ older) ≡ days_fall n.since older
fall_all n [] h = refl
fall_all n (w ∷ ws) h =
    let inactive = and_parts (is_some w.since) (are_all_inactive ws) h in
    middle_follows (in_turn n w) (list_all (in_turn n) ws) (all_later in_turn (w ∷ ws)) (λ a c. all_behind n.since w.since ws inactive.0 a (and_parts (list_all (in_turn w) ws) (all_later in_turn ws) c).0)
    ∙ ap (λ b. b && all_later in_turn (w ∷ ws)) (falls_is n.since w.since)
    ∙ ap (λ b. is_not_later n.since w.since && b) (fall_all w ws inactive.1)

where_first : (a b c : Bool) → (a ≡ true → b ≡ c) → (a && b) ≡ (a && c)
where_first false b c h = refl
where_first true b c h = h refl

-- a group's versions are in order where the older ones are inactive and the days fall
pub orderly_by_neighbours : (g : Group) (n : Version) (older : List Version) → g.versions ≡ n ∷ older → is_orderly g ≡ (are_all_inactive older && days_fall n.since older)
orderly_by_neighbours g n older e =
    ap (λ (vs : List Version). is_orderly (record g { versions = vs })) e
    ∙ where_first (are_all_inactive older) (all_later in_turn (n ∷ older)) (days_fall n.since older) (fall_all n older)
