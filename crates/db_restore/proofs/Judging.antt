-- Of a valid database those copies were found that are missing, and no others.
use Rattle.std.proofs.Common.{◌≡◌, ℕ, ◌<◌, Bool, true, false, ◌&&◌, ◌||◌, not, List, [], ◌∷◌, ◌++◌, refl, sym, ap, subst, ◌∙◌, arith}
use Rattle.std.specs.Prelude.{◌==◌, nat_lt}
use Rattle.std.specs.List.{AllByRecursion, list_all, list_any}
use Rattle.std.proofs.lemmas.Bool.{and_parts, eq-eqb, ltb-true}
use Rattle.std.proofs.lemmas.Bool as bool
use Rattle.inventory_rows.specs.version_groups.declared.copies.CopyRow.{CopyRow}
use Rattle.inventory_rows.specs.version_groups.declared.versions.Version.{Version}
use Rattle.inventory_rows.specs.version_groups.Copies.{are_by_pool}
use Rattle.inventory_rows.specs.version_groups.Versions.{are_distinct}
use Rattle.inventory_rows.specs.Search.{versions}
use Rattle.inventory_rows.specs.State.{Inv}
use Rattle.db_losses.specs.Losses.{Losses, is_lost}
use Rattle.db_restore.specs.Missing.{AreJudged, FindsLost, copies_miss, is_missing, versions_miss}

or_false : (a : Bool) → (a || false) ≡ a
or_false true = refl
or_false false = refl

same_number : (n : ℕ) → (n == n) ≡ true
same_number n = eq-eqb n n refl

-- numbers that a test tells apart, either way
flipped : (a b : ℕ) → not (b == a) ≡ true → (a == b) ≡ false
flipped a b h = go (a == b) refl
  where
    go : (c : Bool) → (a == b) ≡ c → (a == b) ≡ false
    go false is = is
    go true is = absurd (let same : a ≡ b = bool.eqb-true a b is in let there : (b == a) ≡ true = eq-eqb b a (sym same) in let gone : not true ≡ true = subst (λ (c : Bool). not c ≡ true) there h in cc)

not_same : (a b : ℕ) → not (b == a) ≡ true → (b == a) ≡ false
not_same a b h = go (b == a) h
  where
    go : (c : Bool) → not c ≡ true → c ≡ false
    go false is = refl
    go true is = absurd (cc)

below_apart : (a b : ℕ) → nat_lt a b ≡ true → (a == b) ≡ false
below_apart a b h = go (a == b) refl
  where
    go : (c : Bool) → (a == b) ≡ c → (a == b) ≡ false
    go false is = is
    go true is = absurd (let same : a ≡ b = bool.eqb-true a b is in let less : a < b = ltb-true a b h in omega (arith, same, less))

below_apart_back : (a b : ℕ) → nat_lt a b ≡ true → (b == a) ≡ false
below_apart_back a b h = go (b == a) refl
  where
    go : (c : Bool) → (b == a) ≡ c → (b == a) ≡ false
    go false is = is
    go true is = absurd (let same : b ≡ a = bool.eqb-true b a is in let less : a < b = ltb-true a b h in omega (arith, same, less))

module _ (image : ℕ → List ℕ) (skipped : List ℕ) where
  -- ---- the copies of one version

  module _ (w : Version) where
    none_later : (q : ℕ) (cs : List CopyRow) → list_all (λ d. nat_lt q d.pool) cs ≡ true → copies_miss image skipped w cs w.object q ≡ false
    none_later q [] h = refl
    none_later q (c ∷ cs) h =
        let parts = and_parts (nat_lt q c.pool) (list_all (λ d. nat_lt q d.pool) cs) h in
        ap (λ (b : Bool). (((w.object == w.object) && b) && is_missing image skipped w c) || copies_miss image skipped w cs w.object q) (below_apart q c.pool parts.0)
        ∙ ap (λ (b : Bool). ((b && false) && is_missing image skipped w c) || copies_miss image skipped w cs w.object q) (same_number w.object)
        ∙ none_later q cs parts.1

    -- of a copy of another pool nothing is found there
    skip_one : (c d : CopyRow) (cs : List CopyRow) → nat_lt c.pool d.pool ≡ true → copies_miss image skipped w (c ∷ cs) w.object d.pool ≡ copies_miss image skipped w cs w.object d.pool
    skip_one c d cs h =
        ap (λ (b : Bool). (((w.object == w.object) && b) && is_missing image skipped w c) || copies_miss image skipped w cs w.object d.pool) (below_apart_back c.pool d.pool h)
        ∙ ap (λ (b : Bool). ((b && false) && is_missing image skipped w c) || copies_miss image skipped w cs w.object d.pool) (same_number w.object)

    abbrev IsFound : List CopyRow → CopyRow → Type 0
    IsFound cs c = copies_miss image skipped w cs w.object c.pool ≡ is_missing image skipped w c

    further : (c : CopyRow) (cs ds : List CopyRow) → list_all (λ d. nat_lt c.pool d.pool) ds ≡ true → AllByRecursion (IsFound cs) ds → AllByRecursion (IsFound (c ∷ cs)) ds
    further c cs [] h all = tt
    further c cs (d ∷ ds) h all =
        let parts = and_parts (nat_lt c.pool d.pool) (list_all (λ e. nat_lt c.pool e.pool) ds) h in
        (skip_one c d cs parts.0 ∙ all.0, further c cs ds parts.1 all.1)

    all_found : (cs : List CopyRow) → are_by_pool cs ≡ true → AllByRecursion (IsFound cs) cs
    all_found [] h = tt
    all_found (c ∷ cs) h =
        let parts = and_parts (list_all (λ d. nat_lt c.pool d.pool) cs) (are_by_pool cs) h in (
          ap (λ (b : Bool). (((w.object == w.object) && (c.pool == c.pool)) && is_missing image skipped w c) || b) (none_later c.pool cs parts.0)
              ∙ ap (λ (b : Bool). ((b && (c.pool == c.pool)) && is_missing image skipped w c) || false) (same_number w.object)
              ∙ ap (λ (b : Bool). (b && is_missing image skipped w c) || false) (same_number c.pool)
              ∙ or_false (is_missing image skipped w c),
          further c cs cs parts.0 (all_found cs parts.1),
        )

  -- ---- the versions

  -- of another object nothing is found
  other_object : (o q : ℕ) (w : Version) (cs : List CopyRow) → (o == w.object) ≡ false → copies_miss image skipped w cs o q ≡ false
  other_object o q w [] h = refl
  other_object o q w (c ∷ cs) h =
      ap (λ (b : Bool). ((b && (q == c.pool)) && is_missing image skipped w c) || copies_miss image skipped w cs o q) h ∙ other_object o q w cs h

  no_later : (w : Version) (q : ℕ) (ws : List Version) → list_all (λ u. not (u.object == w.object)) ws ≡ true → versions_miss image skipped ws w.object q ≡ false
  no_later w q [] h = refl
  no_later w q (u ∷ ws) h =
      let parts = and_parts (not (u.object == w.object)) (list_all (λ x. not (x.object == w.object)) ws) h in
      ap (λ (b : Bool). b || versions_miss image skipped ws w.object q) (other_object w.object q u u.copies (flipped w.object u.object parts.0)) ∙ no_later w q ws parts.1

  abbrev IsFoundIn : List Version → Version → CopyRow → Type 0
  IsFoundIn ws w c = versions_miss image skipped ws w.object c.pool ≡ is_missing image skipped w c

  abbrev AllFoundIn : List Version → Version → Type 0
  AllFoundIn ws w = AllByRecursion (IsFoundIn ws w) w.copies

  skip_version : (u w : Version) (ws : List Version) (cs : List CopyRow) → not (w.object == u.object) ≡ true → AllByRecursion (IsFoundIn ws w) cs → AllByRecursion (IsFoundIn (u ∷ ws) w) cs
  skip_version u w ws [] apart all = tt
  skip_version u w ws (c ∷ cs) apart all =
      (ap (λ (b : Bool). b || versions_miss image skipped ws w.object c.pool) (other_object w.object c.pool u u.copies (not_same u.object w.object apart)) ∙ all.0, skip_version u w ws cs apart all.1)

  further_versions : (u : Version) (ws vs : List Version) → list_all (λ x. not (x.object == u.object)) vs ≡ true → AllByRecursion (AllFoundIn ws) vs → AllByRecursion (AllFoundIn (u ∷ ws)) vs
  further_versions u ws [] h all = tt
  further_versions u ws (w ∷ vs) h all =
      let parts = and_parts (not (w.object == u.object)) (list_all (λ x. not (x.object == u.object)) vs) h in
      (skip_version u w ws w.copies parts.0 all.0, further_versions u ws vs parts.1 all.1)

  of_first : (w : Version) (ws : List Version) (cs : List CopyRow) → list_all (λ u. not (u.object == w.object)) ws ≡ true → AllByRecursion (IsFound w w.copies) cs → AllByRecursion (IsFoundIn (w ∷ ws) w) cs
  of_first w ws [] h all = tt
  of_first w ws (c ∷ cs) h all =
      (ap (λ (b : Bool). copies_miss image skipped w w.copies w.object c.pool || b) (no_later w c.pool ws h) ∙ or_false (copies_miss image skipped w w.copies w.object c.pool) ∙ all.0, of_first w ws cs h all.1)

  all_in : (ws : List Version) → are_distinct ws ≡ true → list_all (λ w. are_by_pool w.copies) ws ≡ true → AllByRecursion (AllFoundIn ws) ws
  all_in [] h by = tt
  all_in (w ∷ ws) h by =
      let apart = and_parts (list_all (λ u. not (u.object == w.object)) ws) (are_distinct ws) h in
      let ordered = and_parts (are_by_pool w.copies) (list_all (λ u. are_by_pool u.copies) ws) by in
      (of_first w ws w.copies apart.0 (all_found w w.copies ordered.0), further_versions w ws ws apart.0 (all_in ws apart.1 ordered.1))

  told_of_copies : (losses : Losses) (all : List Version) (w : Version) (cs : List CopyRow) → FindsLost (versions_miss image skipped all) [] losses → AllByRecursion (IsFoundIn all w) cs → AllByRecursion (λ c. is_lost losses w.object c.pool ≡ is_missing image skipped w c) cs
  told_of_copies losses all w [] found each = tt
  told_of_copies losses all w (c ∷ cs) found each = (found w.object c.pool ∙ each.0, told_of_copies losses all w cs found each.1)

  told_of : (losses : Losses) (all ws : List Version) → FindsLost (versions_miss image skipped all) [] losses → AllByRecursion (AllFoundIn all) ws → AllByRecursion (λ w. AllByRecursion (λ c. is_lost losses w.object c.pool ≡ is_missing image skipped w c) w.copies) ws
  told_of losses all [] found each = tt
  told_of losses all (w ∷ ws) found each = (told_of_copies losses all w w.copies found each.0, told_of losses all ws found each.1)

  pub judged : (losses : Losses) (v : Inv) → are_distinct (versions v) ≡ true → list_all (λ w. are_by_pool w.copies) (versions v) ≡ true → FindsLost (versions_miss image skipped (versions v)) [] losses → AreJudged image skipped losses v
  judged losses v apart by found = told_of losses (versions v) (versions v) found (all_in (versions v) apart by)
