use Rattle.std.proofs.Common.{◌≡◌, ◌∙◌, ℕ, List, None, [], sym, ap, subst, refl, rules}
use Rattle.std.specs.Option.{option_map}
use Rattle.pool_tables.specs.Rows.{row_at}
use Rattle.space_index.specs.declared.held.Held.{Held}
use Rattle.space_index.specs.Claimed.{AreHeld}
use Rattle.space_index.specs.Tails.{base_of}
use Rattle.space_index.proofs.Listings.{tails_same, with_site, with_here, with_else, seen_first, seen_next}
use Rattle.space_index.proofs.index.rows_of.Goals as goal

pub volumes-init : goal.volumes-init
volumes-init c =
    let rows : c.into_iter-file-iterator.result ≡ c.volumes-file-items.result.now.entries = search rules in
    ((λ q. None), c.new-tails.ensures.lists, seen_first c.args.pools.now c.into_iter-file-iterator.result (rows ∙ c.volumes-file-items.ensures.value), c.new-tails.ensures.none)

pub volumes-preserved : goal.volumes-preserved
volumes-preserved c =
    let s = c.args.pools.now in
    let now = c.volumes.invariant in
    let file = c.in-Some.file.now in
    let x = c.base_at-site.result in
    let after = with_site file x now.0 in
    let base = c.base_at-site.ensures ∙ ap (λ (h : List (ℕ × Held)). base_of s (row_at file s.volumes) (option_map (λ k. k.pool) (row_at file h))) now.3 in (
      after,
      c.in_ok-set.ensures.lists now.0 after now.1 (with_else file x now.0) (with_here file x now.0),
      seen_next s c.volumes.file-iterator c.next.new.self file c.in-Some.field-0-1.now x now.0 c.in-Some.ensures.steps base now.2,
      ap (λ m. m.entries) c.in_ok-set.ensures.held ∙ now.3,
    )

pub returns : goal.returns
returns c =
    let s = c.args.pools.now in
    let now = c.volumes.invariant in
    let t = c.volumes.tails in
    record {
      held = subst (λ (h : List (ℕ × Held)). AreHeld h []) (sym now.3) (λ file. refl);
      lists = tails_same t now.0 _ (λ q. now.2 q (ap (row_at q) c.in-None.ensures.steps.0) ∙ sym (ap (λ (h : List (ℕ × Held)). base_of s (row_at q s.volumes) (option_map (λ k. k.pool) (row_at q h))) now.3)) now.1;
    }
