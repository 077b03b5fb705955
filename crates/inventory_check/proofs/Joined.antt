-- The conditions of validity, taken together in parts.
use Rattle.std.proofs.Common.{◌≡◌, Bool, true, false, nat_le, ◌&&◌, refl, ap, ◌∙◌}
use Rattle.inventory_rows.specs.Items.{count_items, most_items}
use Rattle.inventory_rows.specs.State.{Inv}
use Rattle.inventory_rules.specs.Valid.{are_bounded, are_by_today, are_drawn, are_named, are_numbered, are_past, classes_are, copies_cite, defaults_are_there, filespaces_cite, groups_are_orderly, held_cite, is_valid, no_ring, nodes_cite, pools_cite, rules_cite, versions_are_copied, volumes_are, volumes_cite}
use Rattle.inventory_check.specs.Together.{agree, together}

six : (a b c d e f rest : Bool) → ((a && (b && (c && (d && (e && f))))) && rest) ≡ (a && (b && (c && (d && (e && (f && rest))))))
six false b c d e f rest = refl
six true false c d e f rest = refl
six true true false d e f rest = refl
six true true true false e f rest = refl
six true true true true false f rest = refl
six true true true true true f rest = refl

seven : (a b c d e f g rest : Bool) → ((a && (b && (c && (d && (e && (f && g)))))) && rest) ≡ (a && (b && (c && (d && (e && (f && (g && rest)))))))
seven false b c d e f g rest = refl
seven true b c d e f g rest = six b c d e f g rest

pub valid_together : (v : Inv) (numbered named small : Bool) → numbered ≡ are_numbered v → named ≡ are_named v → small ≡ nat_le (count_items v) most_items → together v numbered named small ≡ is_valid v
valid_together v numbered named small n m s =
    let few : Bool = nat_le (count_items v) most_items in
    ap (λ b. together v b named small) n ∙ ap (λ b. together v (are_numbered v) b small) m ∙ ap (together v (are_numbered v) (are_named v)) s
    ∙ seven (nodes_cite v) (filespaces_cite v) (held_cite v) (rules_cite v) (pools_cite v) (volumes_cite v) (copies_cite v) (are_drawn v && (are_bounded v && (are_numbered v && (are_past v && (are_named v && (agree v && few))))))
    ∙ ap (λ b. nodes_cite v && (filespaces_cite v && (held_cite v && (rules_cite v && (pools_cite v && (volumes_cite v && (copies_cite v && (are_drawn v && (are_bounded v && (are_numbered v && (are_past v && (are_named v && b))))))))))))
    (seven (defaults_are_there v) (groups_are_orderly v) (versions_are_copied v) (volumes_are v) (no_ring v) (are_by_today v) (classes_are v) few)
