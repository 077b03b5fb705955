use Rattle.std.proofs.Common.{◌≡◌, ◌-◌, ◌≤◌, Bool, true, ◌&&◌, List, [], ◌∷◌, length, get_or, take, drop, sym, ap, ◌∙◌, arith}
use Rattle.std.proofs.lemmas.List.{take_all}
use Rattle.inventory_rows.specs.version_groups.declared.group.Group.{Group}
use Rattle.inventory_rows.specs.version_groups.declared.versions.Version.{Version}
use Rattle.inventory_rules.specs.Valid.{are_all_inactive, is_orderly}
use Rattle.inventory_check.specs.Rows.{days_fall}
use Rattle.inventory_check.proofs.Orderly.{orderly_by_neighbours}
use Rattle.inventory_check.proofs.clients.is_orderly.Goals as goal

orderly_of_slice : (g : Group) (xs : List Version) (n : Version) (inactive : Bool) → xs ≡ g.versions → 1 ≤ length xs → n ≡ get_or xs 0 n
    → inactive ≡ are_all_inactive (take (length xs - 1) (drop 1 xs)) → inactive ≡ true → days_fall n.since (take (length xs - 1) (drop 1 xs)) ≡ is_orderly g
orderly_of_slice g [] n inactive e some is a t = absurd (omega arith)
orderly_of_slice g (x ∷ xs) n inactive e some is a t =
    let older : take (length (x ∷ xs) - 1) (drop 1 (x ∷ xs)) ≡ xs = take_all (length (x ∷ xs) - 1) xs (omega arith) in
    let all : are_all_inactive (take (length (x ∷ xs) - 1) (drop 1 (x ∷ xs))) ≡ true = sym a ∙ t in
    ap (λ (v : Version). days_fall v.since (take (length (x ∷ xs) - 1) (drop 1 (x ∷ xs)))) is ∙ ap (days_fall x.since) older
    ∙ sym (orderly_by_neighbours g x xs (sym e) ∙ ap (λ b. b && days_fall x.since xs) (ap are_all_inactive (sym older) ∙ all))

pub returns-then-are_all_inactive : goal.returns-then-are_all_inactive
returns-then-are_all_inactive c =
    c.days_fall.ensures
    ∙ orderly_of_slice c.args.group.now c.as_slice.result.now c.newest-item.result c.are_all_inactive.result c.as_slice.ensures.value c.in-len1-up.len_at_least c.newest-item.is c.are_all_inactive.ensures c.if-are_all_inactive.true
