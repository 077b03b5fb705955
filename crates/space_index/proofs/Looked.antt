-- The volumes that are looked at.
use Rattle.std.proofs.Common.{◌≡◌, ℕ, ◌+◌, ◌≤◌, Bool, true, false, cond, List, [], ◌∷◌, Option, Some, None, refl, sym, ap, subst, ◌∙◌, arith, inl, inr}
use Rattle.std.specs.Prelude.{◌≢◌, is_some}
use Rattle.std.specs.Option.{option_map}
use Rattle.std.specs.BTreeMap.{is_at}
use Rattle.std.specs.Ordering.{nat_cmp, match_ordering}
use Rattle.std.specs.declared.cmp.Ordering.TheVariants.{Less, Equal, Greater}
use Rattle.std.proofs.lemmas.Bool.{cases_eq, false≢true}
use Rattle.std.proofs.lemmas.Map.Lookups.{exact_unsigned}
use Rattle.volume_rows.specs.declared.volume.Volume.{Volume}
use Rattle.pool_tables.specs.Rows.{row_at, with_row}
use Rattle.pool_tables.proofs.Counting.{apart_at}
use Rattle.pool_rows.specs.PoolRows.{PoolRows}
use Rattle.space.specs.declared.places.Placed.{Placed}
use Rattle.space.specs.declared.site.Site.{Site}
use Rattle.space.specs.Volumes.{site_of, seen, with_claim, claimed_site, claim, claim_all}
use Rattle.space_index.specs.Sequential.{over, AreMore, IsKnown, KnowsMore, AreNear, AreSeenAs}
use Rattle.space_index.proofs.Numbers.{Ascends}

-- ---- a row is put

module _ {V : Type 0} where
  first_is : (k : ℕ) (v : V) (rest : Option V) → cond (is_at (nat_cmp k) k) (Some v) rest ≡ Some v
  first_is k v rest = ap (λ (b : Bool). cond b (Some v) rest) (itself k) where
    itself : (n : ℕ) → is_at (nat_cmp n) n ≡ true
    itself n = grind arith

  first_apart : (q k : ℕ) (v : V) (rest : Option V) → q ≢ k → cond (is_at (nat_cmp q) k) (Some v) rest ≡ rest
  first_apart q k v rest apart = ap (λ (b : Bool). cond b (Some v) rest) (apart_at q k apart)

  pub put_here : (k : ℕ) (v : V) (rows : List (ℕ × V)) → row_at k (with_row k v rows) ≡ Some v
  put_here k v [] = first_is k v None
  put_here k v (e ∷ rows) =
      elim (nat_cmp k e.0) as (λ o. nat_cmp k e.0 ≡ o → row_at k (match_ordering o ((k, v) ∷ e ∷ rows) ((e.0, v) ∷ rows) (e ∷ with_row k v rows)) ≡ Some v) [
        | Less ↦ λ h. first_is k v (row_at k (e ∷ rows))
        | Equal ↦ λ h. ap (λ (n : ℕ). row_at n ((e.0, v) ∷ rows)) (exact_unsigned k e.0 h) ∙ first_is e.0 v (row_at e.0 rows)
        | Greater ↦ λ h. first_apart k e.0 e.1 (row_at k (with_row k v rows)) (greater k e.0 h) ∙ put_here k v rows
      ] refl where
        greater : (a b : ℕ) → nat_cmp a b ≡ Greater → a ≢ b
        greater a b h = grind arith

  pub put_other : (k q : ℕ) (v : V) (rows : List (ℕ × V)) → q ≢ k → row_at q (with_row k v rows) ≡ row_at q rows
  put_other k q v [] apart = first_apart q k v None apart
  put_other k q v (e ∷ rows) apart =
      elim (nat_cmp k e.0) as (λ o. nat_cmp k e.0 ≡ o → row_at q (match_ordering o ((k, v) ∷ e ∷ rows) ((e.0, v) ∷ rows) (e ∷ with_row k v rows)) ≡ row_at q (e ∷ rows)) [
        | Less ↦ λ h. first_apart q k v (row_at q (e ∷ rows)) apart
        | Equal ↦ λ h.
            let other : q ≢ e.0 = λ same. apart (same ∙ sym (exact_unsigned k e.0 h)) in
            first_apart q e.0 v (row_at q rows) other ∙ sym (first_apart q e.0 e.1 (row_at q rows) other)
        | Greater ↦ λ h. ap (λ (o : Option V). cond (is_at (nat_cmp q) e.0) (Some e.1) o) (put_other k q v rows apart)
      ] refl

  pub put_ascends : (low k : ℕ) (v : V) (rows : List (ℕ × V)) → low ≤ k → Ascends low rows → Ascends low (with_row k v rows)
  unfolding Ascends
  put_ascends low k v [] le is = (le, tt)
  put_ascends low k v (e ∷ rows) le is =
      elim (nat_cmp k e.0) as (λ o. nat_cmp k e.0 ≡ o → Ascends low (match_ordering o ((k, v) ∷ e ∷ rows) ((e.0, v) ∷ rows) (e ∷ with_row k v rows))) [
        | Less ↦ λ h. (le, (less k e.0 h, is.1))
        | Equal ↦ λ h. (is.0, is.1)
        | Greater ↦ λ h. (is.0, put_ascends (e.0 + 1) k v rows (greater k e.0 h) is.1)
      ] refl where
        less : (a b : ℕ) → nat_cmp a b ≡ Less → a + 1 ≤ b
        less a b h = grind arith

        greater : (a b : ℕ) → nat_cmp a b ≡ Greater → b + 1 ≤ a
        greater a b h = grind arith

-- ---- the volumes of the rows

pub seen_at : (q : ℕ) (volumes : List (ℕ × Volume)) → row_at q (seen volumes) ≡ option_map site_of (row_at q volumes)
seen_at q [] = refl
seen_at q (f ∷ volumes) =
    elim (is_at (nat_cmp q) f.0) as (λ b. cond b (Some (site_of f.1)) (row_at q (seen volumes)) ≡ option_map site_of (cond b (Some f.1) (row_at q volumes))) [
      | true ↦ refl
      | false ↦ seen_at q volumes
    ]

pub seen_ascends : (low : ℕ) (volumes : List (ℕ × Volume)) → Ascends low volumes → Ascends low (seen volumes)
unfolding Ascends
seen_ascends low [] is = tt
seen_ascends low (f ∷ volumes) is = (is.0, seen_ascends (f.0 + 1) volumes is.1)

-- ---- more volumes are looked at

none_not : (x : Site) (o : Option Site) → o ≡ None → o ≡ Some x → ⊥
none_not x o none there = cc

module _ (view : ℕ → Option Site) where
  pub more_none : (near : List (ℕ × Site)) → AreMore view near near
  more_none near = record { kept = λ q x there. there; come = λ q x none there. absurd (none_not x (row_at q near) none there) }

  -- nothing that is looked at goes
  pub not_before : (old new : List (ℕ × Site)) (q : ℕ) → AreMore view old new → row_at q new ≡ None → row_at q old ≡ None
  not_before old new q more none = go (row_at q old) refl where
    go : (o : Option Site) → row_at q old ≡ o → row_at q old ≡ None
    go None is = is
    go (Some x) is = absurd (none_not x (row_at q new) none (more.kept q x is))

  pub more_then : (a b c : List (ℕ × Site)) → AreMore view a b → AreMore view b c → AreMore view a c
  more_then a b c first then = record {
    kept = λ q x there. then.kept q x (first.kept q x there);
    come = λ q x none there. go q x none there (row_at q b) refl;
  } where
    go : (q : ℕ) (x : Site) → row_at q a ≡ None → row_at q c ≡ Some x → (o : Option Site) → row_at q b ≡ o → view q ≡ Some x
    go q x none there None is = then.come q x is there
    go q x none there (Some y) is = first.come q x none (is ∙ sym (then.kept q y is) ∙ there)

  pub more_known : (old new : List (ℕ × Site)) (q : ℕ) → AreMore view old new → IsKnown view old q → IsKnown view new q
  more_known old new q more known none = known (not_before old new q more none)

  -- a volume more is
  pub more_put : (near : List (ℕ × Site)) (file : ℕ) (x : Site) → row_at file near ≡ None → view file ≡ Some x → AreMore view near (with_row file x near)
  more_put near file x absent there = record {
    kept = λ q y was. elim (cases_eq q file) [
      | inl same ↦ absurd (none_not y (row_at file near) absent (ap (λ (n : ℕ). row_at n near) (sym same) ∙ was))
      | inr other ↦ put_other file q x near other ∙ was
    ];
    come = λ q y none now. elim (cases_eq q file) [
      | inl same ↦ ap view same ∙ there ∙ sym (put_here file x near) ∙ ap (λ (n : ℕ). row_at n (with_row file x near)) (sym same) ∙ now
      | inr other ↦ absurd (none_not y (row_at q near) none (sym (put_other file q x near other) ∙ now))
    ];
  }

  pub known_put : (near : List (ℕ × Site)) (file : ℕ) (x : Site) → IsKnown view (with_row file x near) file
  known_put near file x none = absurd (none_not x (row_at file (with_row file x near)) none (put_here file x near))

  some_not : (o : Option Site) → is_some o ≡ false → o ≡ None
  some_not None h = refl
  some_not (Some x) h = absurd cc

  pub near_known : (near : List (ℕ × Site)) (file : ℕ) → is_some (row_at file near) ≡ true → IsKnown view near file
  near_known near file there none = absurd (false≢true (sym (ap (λ (o : Option Site). is_some o) none) ∙ there))

  pub row_noted : (near new : List (ℕ × Site)) (file : ℕ) (x : Site) → is_some (row_at file near) ≡ false → view file ≡ Some x → new ≡ with_row file x near → KnowsMore view file near new
  row_noted near new file x absent there put = record {
    more = subst (λ (l : List (ℕ × Site)). AreMore view near l) (sym put) (more_put near file x (some_not (row_at file near) absent) there);
    known = subst (λ (l : List (ℕ × Site)). IsKnown view l file) (sym put) (known_put near file x);
  }

  -- the preferred volume and the avoided one
  pub both_near : (prefer avoid : ℕ) (n0 n1 n2 : List (ℕ × Site)) → n0 ≡ [] → KnowsMore view prefer n0 n1 → KnowsMore view avoid n1 n2 → AreNear view prefer avoid n2
  both_near prefer avoid n0 n1 n2 none first second = record {
    more = subst (λ (l : List (ℕ × Site)). AreMore view l n2) none (more_then n0 n1 n2 first.more second.more);
    preferred = more_known n1 n2 prefer second.more first.known;
    avoided = second.known;
  }

  -- what is looked at stands as it is seen
  pub over_more : (sites near : List (ℕ × Site)) → AreSeenAs view sites → AreMore view [] near → (q : ℕ) → row_at q sites ≡ over (row_at q near) (view q)
  over_more sites near are more q = are q ∙ go (row_at q near) refl where
    go : (o : Option Site) → row_at q near ≡ o → view q ≡ over (row_at q near) (view q)
    go None is = sym (ap (λ (o : Option Site). over o (view q)) is)
    go (Some x) is = more.come q x refl is ∙ sym (ap (λ (o : Option Site). over o (view q)) is)

-- ---- all volumes as one who asks sees them ascend

claims_ascend : (s : PoolRows) (places : List Placed) (sites : List (ℕ × Site)) → Ascends 0 sites → Ascends 0 (claim_all s places sites)
claims_ascend s [] sites is = is
claims_ascend s (p ∷ places) sites is =
    claims_ascend s places (claim s p sites) (put_ascends 0 p.segment.file (with_claim p.segment (claimed_site s p sites)) sites (omega arith) is)

pub all_ascend : (s : PoolRows) (own others : List Placed) → Ascends 0 s.volumes → Ascends 0 (claim_all s others (claim_all s own (seen s.volumes)))
all_ascend s own others is = claims_ascend s others (claim_all s own (seen s.volumes)) (claims_ascend s own (seen s.volumes) (seen_ascends 0 s.volumes is))
