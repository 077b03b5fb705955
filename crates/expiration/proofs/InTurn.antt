-- An object that isn't retained stays so where one with a smaller number goes: in its path only older versions have smaller numbers.
use Rattle.std.proofs.Common.{◌≡◌, ◌⊎◌, inl, inr, ℕ, suc, ◌<◌, nat_lt, Bool, true, false, cond, eqb, not, ◌&&◌, ◌||◌, List, [], ◌∷◌, Option, Some, None, Result, Ok, Err, refl, sym, ap, subst, ◌∙◌, arith}
use Rattle.std.specs.Prelude.{IsSome, option_and_then}
use Rattle.std.proofs.lemmas.Bool.{and_parts, eqb-true, false≢true, ltb-true, ne_eqb}
use Rattle.std.proofs.lemmas.Map.{lookup-set_value}
use Rattle.std.specs.Cmp.{eq_by_cmp_equiv, nat_cmp_total}
use Rattle.std.specs.Cmp.Lexicographic.{nat_list_cmp_total, slice_cmp}
use Rattle.std.specs.List.{list_all, AllByRecursion}
use Rattle.std.specs.Map.{remove_entry, set_value}
use Rattle.std.specs.Option.{option_map_or}
use Rattle.std.specs.Ordering.{eq_by_cmp, nat_cmp}
use Rattle.kinds.specs.declared.refusal.Refusal.{Refusal}
use Rattle.kinds.specs.declared.rule.RuleFound.{RuleFound}
use Rattle.copy_groups.specs.Retention.{is_held_on, is_owed}
use Rattle.entries.specs.change_items.declared.items.NamedVersion.{NamedVersion}
use Rattle.entries.specs.change_items.declared.lists.NamedVersions.{NamedVersions}
use Rattle.entries.specs.declared.change.Change.TheVariants.{Expire}
use Rattle.inventory_rows.specs.policy_domains.Rows.{DomainRow}
use Rattle.inventory_rows.specs.policy_domains.Rules.{rule_of}
use Rattle.inventory_rows.specs.version_groups.declared.group.Group.{Group}
use Rattle.inventory_rows.specs.version_groups.declared.group.GroupChange.TheVariants.{Remove}
use Rattle.inventory_rows.specs.version_groups.declared.groups.Filespace.{Filespace}
use Rattle.inventory_rows.specs.version_groups.declared.versions.Version.{Version}
use Rattle.inventory_rows.specs.version_groups.Groups as grouped
use Rattle.inventory_rows.specs.version_groups.Groups.{at_path, groups_after, versions_in, without_empty}
use Rattle.inventory_rows.specs.version_groups.Versions.{has_active, has_object, is_empty, without_object}
use Rattle.inventory_rows.proofs.of_version_groups.Laws.{AfterIs, after-is}
use Rattle.inventory_rows.proofs.of_version_groups.Lists.{all_later-filter}
use Rattle.inventory_rows.proofs.of_version_groups.Maps.{lookup-set}
use Rattle.inventory_rows.specs.object_rows.declared.held_object.HeldRow.{HeldRow}
use Rattle.inventory_rows.specs.object_rows.Filespaces.{at_number, filespace_at, filespaces_after, group_at, groups_in, versions_at}
use Rattle.inventory_rows.specs.object_rows.HeldRows.{has_under, held_at, held_without, is_under as row_under}
use Rattle.inventory_rows.specs.object_rows.Rows.{Rows, rows_after, rows_cleared, with_filespaces as rows_with_filespaces, with_held}
use Rattle.inventory_rows.proofs.of_object_rows.Stands.{at-eqb, same_number, same_path}
use Rattle.inventory_rows.proofs.of_object_rows.Steps.{Within, within}
use Rattle.inventory_rows.specs.Search.{node_domain, filespace_domain, rule_for}
use Rattle.inventory_rows.specs.State.{Inv}
use Rattle.inventory_rules.specs.Common.{each, or_same}
use Rattle.inventory_rules.specs.Owed.{is_owed_from, is_owed_in, is_owed_of}
use Rattle.inventory_rules.specs.Transactions.{effect}
use Rattle.inventory_rules.specs.Versions.{expire}
use Rattle.inventory_laws.proofs.Gone.{lookup-beside_removed}
use Rattle.inventory_laws.proofs.VolumeItems.{removes_kept}
use Rattle.inventory_work.specs.declared.lines.UnretainedLine.{UnretainedLine}
use Rattle.expiration.specs.Alone.{are_in_turn}
use Rattle.expiration.specs.Rows.{is_expirable}

-- ---- the versions of a path

-- one of those behind the newest has a smaller number
below : (o m : ℕ) (xs : List Version) → list_all (λ b. nat_lt b.object m) xs ≡ true → has_object o xs ≡ true → o < m
below o m [] all has = absurd (false≢true has)
below o m (x ∷ xs) all has =
    let ps = and_parts (nat_lt x.object m) (list_all (λ b. nat_lt b.object m) xs) all in
    elim (eqb x.object o) as (λ b. eqb x.object o ≡ b → (b || has_object o xs) ≡ true → o < m) [
      | true ↦ λ here _. (let same : x.object ≡ o = eqb-true x.object o here in let l : x.object < m = ltb-true x.object m ps.0 in omega arith)
      | false ↦ λ _ t. below o m xs ps.1 t
    ] refl has

-- the newest isn't the one that goes
newest-stays : (o k : ℕ) (x : Version) (xs : List Version) → are_in_turn (x ∷ xs) ≡ true → has_object o (x ∷ xs) ≡ true → k < o → eqb x.object k ≡ false
newest-stays o k x xs turn has l =
    let ps = and_parts (list_all (λ b. nat_lt b.object x.object) xs) (are_in_turn xs) turn in
    elim (eqb x.object o) as (λ b. eqb x.object o ≡ b → (b || has_object o xs) ≡ true → eqb x.object k ≡ false) [
      | true ↦ λ here _. (let same : x.object ≡ o = eqb-true x.object o here in ne_eqb x.object k (λ e. absurd (omega arith)))
      | false ↦ λ _ t. (let m : o < x.object = below o x.object xs ps.0 t in ne_eqb x.object k (λ e. absurd (omega arith)))
    ] refl has

-- without it the others stand at the places that they had
owed-stays : (found : Option RuleFound) (active : Bool) (today o k place : ℕ) (xs : List Version) → are_in_turn xs ≡ true → has_object o xs ≡ true → k < o
    → is_owed_from found active today o place (without_object k xs) ≡ is_owed_from found active today o place xs
owed-stays found active today o k place [] turn has l = absurd (false≢true has)
owed-stays found active today o k place (x ∷ xs) turn has l =
    let ps = and_parts (list_all (λ b. nat_lt b.object x.object) xs) (are_in_turn xs) turn in
    ap (λ c. is_owed_from found active today o place (cond (not c) (x ∷ without_object k xs) (without_object k xs))) (newest-stays o k x xs turn has l)
    ∙ elim (eqb x.object o) as (λ b. eqb x.object o ≡ b → (b || has_object o xs) ≡ true
    → cond b (is_owed found active x.since today place) (is_owed_from found active today o (suc place) (without_object k xs)) ≡ cond b (is_owed found active x.since today place)
    (is_owed_from found active today o (suc place) xs)) [
      | true ↦ λ _ _. refl
      | false ↦ λ _ t. owed-stays found active today o k (suc place) xs ps.1 t l
    ] refl has

active-stays : (o k : ℕ) (xs : List Version) → are_in_turn xs ≡ true → has_object o xs ≡ true → k < o → has_active (without_object k xs) ≡ has_active xs
active-stays o k [] turn has l = absurd (false≢true has)
active-stays o k (x ∷ xs) turn has l = ap (λ c. has_active (cond (not c) (x ∷ without_object k xs) (without_object k xs))) (newest-stays o k x xs turn has l)

in-stays : (found : Option RuleFound) (today o k : ℕ) (xs : List Version) → are_in_turn xs ≡ true → has_object o xs ≡ true → k < o
    → is_owed_in found today o (without_object k xs) ≡ is_owed_in found today o xs
in-stays found today o k xs turn has l =
    ap (λ b. is_owed_from found b today o 0 (without_object k xs)) (active-stays o k xs turn has l) ∙ owed-stays found (has_active xs) today o k 0 xs turn has l

has-stays : (o k : ℕ) (xs : List Version) → k < o → has_object o xs ≡ true → has_object o (without_object k xs) ≡ true
has-stays o k [] l has = absurd (false≢true has)
has-stays o k (x ∷ xs) l has =
    elim (eqb x.object k) as (λ c. eqb x.object k ≡ c → has_object o (cond (not c) (x ∷ without_object k xs) (without_object k xs)) ≡ true) [
      | true ↦ λ gone. has-stays o k xs l (elim (eqb x.object o) as (λ b. eqb x.object o ≡ b → (b || has_object o xs) ≡ true → has_object o xs ≡ true) [
        | true ↦ λ here _. absurd (let one : x.object ≡ k = eqb-true x.object k gone in let two : x.object ≡ o = eqb-true x.object o here in omega arith)
        | false ↦ λ _ t. t
      ] refl has)
      | false ↦ λ _. elim (eqb x.object o) as (λ b. (b || has_object o xs) ≡ true → (b || has_object o (without_object k xs)) ≡ true) [
        | true ↦ λ _. refl
        | false ↦ λ t. has-stays o k xs l t
      ] has
    ] refl

turn-stays : (k : ℕ) (xs : List Version) → are_in_turn xs ≡ true → are_in_turn (without_object k xs) ≡ true
turn-stays k xs turn = all_later-filter (λ (a b : Version). nat_lt b.object a.object) (λ (v : Version). not (eqb v.object k)) xs turn

some-there : (o : ℕ) (xs : List Version) → has_object o xs ≡ true → is_empty xs ≡ false
some-there o [] has = absurd (false≢true has)
some-there o (x ∷ xs) has = refl

-- ---- the group of a path

abbrev thinned : ℕ → Group → Group
thinned k g = record { class = g.class; versions = without_object k g.versions }

one_path : (p x y : List ℕ) → at_path p x ≡ true → at_path p y ≡ eq_by_cmp (slice_cmp nat_cmp) x y
one_path p x y h = (eq_by_cmp_equiv nat_list_cmp_total).congr p x y h

one_number : (n x y : ℕ) → at_number n x ≡ true → at_number n y ≡ eq_by_cmp nat_cmp x y
one_number n x y h = (eq_by_cmp_equiv nat_cmp_total).congr n x y h

apart_paths : (p q : List ℕ) → at_path p q ≡ false → (r : List ℕ) → at_path p r ≡ true → at_path q r ≡ false
apart_paths p q apart r here =
    elim (at_path q r) as (λ b. at_path q r ≡ b → b ≡ false) [
      | true ↦ λ there. absurd (false≢true (sym apart ∙ ap (at_path p) (same_path q r there) ∙ here))
      | false ↦ λ _. refl
    ] refl

-- The group stays as it is, or loses the object's version.
abbrev Either : ℕ → Option Group → Option Group → Type 0
Either k old new = (new ≡ old) ⊎ ((g : Group) × (old ≡ Some g) × (new ≡ Some (thinned k g)))

kept-behind : (b : Bool) (p q : List ℕ) (es : List (List ℕ × Group)) → at_path p q ≡ false → grouped.group_at q (cond b (remove_entry (at_path p) es) es) ≡ grouped.group_at q es
kept-behind true p q es apart = lookup-beside_removed (at_path p) (at_path q) (apart_paths p q apart) es
kept-behind false p q es apart = refl

in-groups : (k o : ℕ) (p q : List ℕ) (groups new : List (List ℕ × Group)) → k < o → has_object o (grouped.versions_at q groups) ≡ true → groups_after p (Remove k) groups ≡ Ok new
    → Either k (grouped.group_at q groups) (grouped.group_at q new)
in-groups k o p q groups new l has h =
    let w : AfterIs p (Remove k) groups new = after-is p (Remove k) groups new h in
    let g : Group = thinned k w.0 in
    let es : List (List ℕ × Group) = set_value (at_path p) groups g in
    let found : grouped.group_at p es ≡ Some g = lookup-set (at_path p) w.0 g groups w.1 in
    elim (at_path p q) as (λ b. at_path p q ≡ b → Either k (grouped.group_at q groups) (grouped.group_at q new)) [
      | true ↦ λ here.
          (let same : p ≡ q = same_path p q here in
          let had : has_object o w.0.versions ≡ true = sym (ap (λ (x : Option Group). has_object o (versions_in x)) w.1) ∙ ap (λ (r : List ℕ). has_object o (grouped.versions_at r groups)) same
          ∙ has in
          let some : is_empty g.versions ≡ false = some-there o g.versions (has-stays o k w.0.versions l had) in
          let stays : without_empty p es ≡ es = ap (λ (x : Option Group). cond (is_empty (versions_in x)) (remove_entry (at_path p) es) es) found
          ∙ ap (λ b. cond b (remove_entry (at_path p) es) es) some in
          subst (λ (r : List ℕ). Either k (grouped.group_at r groups) (grouped.group_at r new)) same
          (inr (w.0, w.1, ap (grouped.group_at p) (sym w.3 ∙ stays) ∙ found)))
      | false ↦ λ apart.
          inl (ap (grouped.group_at q) (sym w.3) ∙ kept-behind (is_empty (grouped.versions_at p es)) p q es apart
          ∙ lookup-set_value (eq_by_cmp_equiv nat_list_cmp_total) (at_path p) (one_path p) q g groups (subst IsSome (sym w.1) refl) ∙ ap (λ b. cond b (Some g) (grouped.group_at q groups)) apart)
    ] refl

-- a filespace where one is changed
abbrev Beside : (n m : ℕ) (fs new : List (ℕ × Filespace)) → Filespace → Filespace → Type 0
Beside n m fs new old now = ((filespace_at m new ≡ filespace_at m fs) × (at_number n m ≡ false)) ⊎ ((n ≡ m) × (filespace_at m fs ≡ Some old) × (filespace_at m new ≡ Some now))

beside : (n m : ℕ) (fs new : List (ℕ × Filespace)) (by : List (List ℕ × Group) → Result (List (List ℕ × Group)) Refusal) (w : Within n by fs new)
    → Beside n m fs new w.filespace (record w.filespace { groups = w.groups })
beside n m fs new by w =
    let f : Filespace = record w.filespace { groups = w.groups } in
    let said : filespace_at m new ≡ cond (at_number n m) (Some f) (filespace_at m fs) =
    ap (filespace_at m) (sym w.becomes) ∙ lookup-set_value (eq_by_cmp_equiv nat_cmp_total) (at_number n) (one_number n) m f fs (subst IsSome (sym w.there) refl) in
    elim (at_number n m) as (λ b. at_number n m ≡ b → Beside n m fs new w.filespace f) [
      | true ↦ λ here.
          (let same : n ≡ m = same_number n m here in
          inr (same, ap (λ (x : ℕ). filespace_at x fs) (sym same) ∙ w.there, said ∙ ap (λ b. cond b (Some f) (filespace_at m fs)) here))
      | false ↦ λ apart. inl (said ∙ ap (λ b. cond b (Some f) (filespace_at m fs)) apart, apart)
    ] refl

in-filespaces : (k o n m : ℕ) (p q : List ℕ) (fs new : List (ℕ × Filespace)) → k < o → has_object o (versions_at m q fs) ≡ true → filespaces_after n p (Remove k) fs ≡ Ok new
    → Either k (group_at m q fs) (group_at m q new)
in-filespaces k o n m p q fs new l has h =
    let w : Within n (groups_after p (Remove k)) fs new = within n (groups_after p (Remove k)) fs new h in
    elim (beside n m fs new (groups_after p (Remove k)) w) as (λ _. Either k (group_at m q fs) (group_at m q new)) [
      | inl apart ↦ inl (ap (λ (x : Option Filespace). grouped.group_at q (groups_in x)) apart.0)
      | inr here ↦
          (let had : has_object o (grouped.versions_at q w.filespace.groups) ≡ true = sym (ap (λ (x : Option Filespace). has_object o (grouped.versions_at q (groups_in x))) here.1) ∙ has in
          let e : Either k (grouped.group_at q w.filespace.groups) (grouped.group_at q w.groups) = in-groups k o p q w.filespace.groups w.groups l had w.after in
          subst (λ (x : Option Filespace). Either k (grouped.group_at q (groups_in x)) (group_at m q new)) (sym here.1)
          (subst (λ (x : Option Filespace). Either k (grouped.group_at q w.filespace.groups) (grouped.group_at q (groups_in x))) (sym here.2) e))
    ]

-- the domain of each filespace stays
domain-stays : (k n m : ℕ) (p : List ℕ) (c : Rows) (new : List (ℕ × Filespace)) → filespaces_after n p (Remove k) c.filespaces ≡ Ok new
    → filespace_domain m (record { nodes = c.nodes; filespaces = new; held = c.held }) ≡ filespace_domain m c
domain-stays k n m p c new h =
    let w : Within n (groups_after p (Remove k)) c.filespaces new = within n (groups_after p (Remove k)) c.filespaces new h in
    elim (beside n m c.filespaces new (groups_after p (Remove k)) w) as (λ _. option_and_then (λ (f : Filespace). node_domain f.node c) (filespace_at m new) ≡ option_and_then
    (λ (f : Filespace). node_domain f.node c) (filespace_at m c.filespaces)) [
      | inl apart ↦ ap (option_and_then (λ (f : Filespace). node_domain f.node c)) apart.0
      | inr here ↦ ap (option_and_then (λ (f : Filespace). node_domain f.node c)) here.2 ∙ sym (ap (option_and_then (λ (f : Filespace). node_domain f.node c)) here.1)
    ]

-- ---- an object that waits for its removal

-- a version that isn't retained, of a path whose versions stand in the order of their numbers
pub record WaitsAt (domains : List (List ℕ × DomainRow)) (today : ℕ) (c : Rows) (m : ℕ) (q : List ℕ) (o : ℕ) : Type 0 where
  pub unheld : has_under m q o c.held ≡ false
  pub has : has_object o (versions_at m q c.filespaces) ≡ true
  pub turn : are_in_turn (versions_at m q c.filespaces) ≡ true
  pub unowed : is_owed_of m domains c today o (group_at m q c.filespaces) ≡ false

abbrev pub is_until : ℕ → Option HeldRow → Bool
is_until today found = option_map_or (λ (row : HeldRow). is_held_on today row.held.until) found false

-- a held object whose day has come
pub record WaitsHeld (today : ℕ) (c : Rows) (m : ℕ) (q : List ℕ) (o : ℕ) : Type 0 where
  pub held : has_under m q o c.held ≡ true
  pub until : is_until today (held_at o c.held) ≡ false

abbrev pub WaitsIn : List (List ℕ × DomainRow) → ℕ → Rows → ℕ → List ℕ → ℕ → Type 0
WaitsIn domains today c m q o = WaitsHeld today c m q o ⊎ WaitsAt domains today c m q o

abbrev pub Waits : Inv → UnretainedLine → Type 0
Waits v l = WaitsIn v.domains v.today v.clients l.filespace l.path l.object

pub waits-expirable : (v : Inv) (l : UnretainedLine) → Waits v l → is_expirable l.filespace l.path l.object v ≡ true
waits-expirable v l (inl h) =
    ap (λ b. (b || has_object l.object (versions_at l.filespace l.path v.clients.filespaces))
    && not (cond b (is_until v.today (held_at l.object v.clients.held)) (is_owed_of l.filespace v.domains v.clients v.today l.object (group_at l.filespace l.path v.clients.filespaces)))) h.held
    ∙ ap not h.until
waits-expirable v l (inr h) =
    ap (λ b. (b || has_object l.object (versions_at l.filespace l.path v.clients.filespaces))
    && not (cond b (is_until v.today (held_at l.object v.clients.held)) (is_owed_of l.filespace v.domains v.clients v.today l.object (group_at l.filespace l.path v.clients.filespaces)))) h.unheld
    ∙ ap (λ b. b && not (is_owed_of l.filespace v.domains v.clients v.today l.object (group_at l.filespace l.path v.clients.filespaces))) h.has
    ∙ ap not h.unowed

-- a held object goes
other_row : (k o : ℕ) → k < o → (n : ℕ) → at_number k n ≡ true → at_number o n ≡ false
other_row k o l n here =
    let same : k ≡ n = same_number k n here in
    at-eqb o n ∙ ne_eqb n o (λ e. absurd (omega arith))

held-stays : (k o : ℕ) (held : List (ℕ × HeldRow)) → k < o → held_at o (held_without k held) ≡ held_at o held
held-stays k o held l = lookup-beside_removed (at_number k) (at_number o) (other_row k o l) held

waits-held : (domains : List (List ℕ × DomainRow)) (today k m : ℕ) (q : List ℕ) (o : ℕ) (c : Rows) → k < o → WaitsIn domains today c m q o
    → WaitsIn domains today (record { nodes = c.nodes; filespaces = c.filespaces; held = held_without k c.held }) m q o
waits-held domains today k m q o c l (inl h) = inl (record {
  held = ap (λ (x : Option HeldRow). option_map_or (row_under m q) x false) (held-stays k o c.held l) ∙ h.held;
  until = ap (is_until today) (held-stays k o c.held l) ∙ h.until;
})
waits-held domains today k m q o c l (inr h) = inr (record {
  unheld = ap (λ (x : Option HeldRow). option_map_or (row_under m q) x false) (held-stays k o c.held l) ∙ h.unheld;
  has = h.has;
  turn = h.turn;
  unowed = h.unowed;
})

-- a version goes
owed-same : (domains : List (List ℕ × DomainRow)) (today k n m : ℕ) (p : List ℕ) (o : ℕ) (c : Rows) (new : List (ℕ × Filespace)) → filespaces_after n p (Remove k) c.filespaces ≡ Ok new
    → (x : Option Group)
    → is_owed_of m domains (record { nodes = c.nodes; filespaces = new; held = c.held }) today o x ≡ is_owed_of m domains c today o x
owed-same domains today k n m p o c new said None = refl
owed-same domains today k n m p o c new said (Some g) =
    ap (λ (x : Option (List ℕ)). is_owed_in (option_and_then (λ domain. rule_of domains domain g.class) x) today o g.versions) (domain-stays k n m p c new said)

waits-group : (domains : List (List ℕ × DomainRow)) (today k n m : ℕ) (p q : List ℕ) (o : ℕ) (c : Rows) (new : List (ℕ × Filespace)) → k < o → filespaces_after n p (Remove k) c.filespaces ≡ Ok new
    → WaitsAt domains today c m q o
    → Either k (group_at m q c.filespaces) (group_at m q new) → WaitsAt domains today (record { nodes = c.nodes; filespaces = new; held = c.held }) m q o
waits-group domains today k n m p q o c new l said h (inl same) =
    let d : Rows = record { nodes = c.nodes; filespaces = new; held = c.held } in
    record {
      unheld = h.unheld;
      has = ap (λ (x : Option Group). has_object o (versions_in x)) same ∙ h.has;
      turn = ap (λ (x : Option Group). are_in_turn (versions_in x)) same ∙ h.turn;
      unowed = ap (is_owed_of m domains d today o) same ∙ owed-same domains today k n m p o c new said (group_at m q c.filespaces) ∙ h.unowed;
    }
waits-group domains today k n m p q o c new l said h (inr (g, old, now)) =
    let d : Rows = record { nodes = c.nodes; filespaces = new; held = c.held } in
    let has : has_object o g.versions ≡ true = sym (ap (λ (x : Option Group). has_object o (versions_in x)) old) ∙ h.has in
    let turn : are_in_turn g.versions ≡ true = sym (ap (λ (x : Option Group). are_in_turn (versions_in x)) old) ∙ h.turn in
    let unowed : is_owed_of m domains c today o (Some g) ≡ false = sym (ap (is_owed_of m domains c today o) old) ∙ h.unowed in
    record {
      unheld = h.unheld;
      has = ap (λ (x : Option Group). has_object o (versions_in x)) now ∙ has-stays o k g.versions l has;
      turn = ap (λ (x : Option Group). are_in_turn (versions_in x)) now ∙ turn-stays k g.versions turn;
      unowed = ap (is_owed_of m domains d today o) now ∙ in-stays (rule_for m g.class domains d) today o k g.versions turn has l ∙ owed-same domains today k n m p o c new said (Some g) ∙ unowed;
    }

waits-version : (domains : List (List ℕ × DomainRow)) (today k n m : ℕ) (p q : List ℕ) (o : ℕ) (c : Rows) (new : List (ℕ × Filespace)) → k < o
    → filespaces_after n p (Remove k) c.filespaces ≡ Ok new → WaitsIn domains today c m q o
    → WaitsIn domains today (record { nodes = c.nodes; filespaces = new; held = c.held }) m q o
waits-version domains today k n m p q o c new l said (inl h) = inl (record { held = h.held; until = h.until })
waits-version domains today k n m p q o c new l said (inr h) = inr (waits-group domains today k n m p q o c new l said h (in-filespaces k o n m p q c.filespaces new l h.has said))

-- whichever goes
waits-cleared : (domains : List (List ℕ × DomainRow)) (today k n m : ℕ) (p q : List ℕ) (o : ℕ) (c : Rows) → k < o → WaitsIn domains today c m q o
    → WaitsIn domains today (or_same c (rows_cleared n p k c)) m q o
waits-cleared domains today k n m p q o c l h =
    elim (has_under n p k c.held) as (λ b. WaitsIn domains today (or_same c (cond b (with_held c (Ok (held_without k c.held))) (rows_after n p (Remove k) c))) m q o) [
      | true ↦ waits-held domains today k m q o c l h
      | false ↦ elim (filespaces_after n p (Remove k) c.filespaces) as (λ r. filespaces_after n p (Remove k) c.filespaces ≡ r → WaitsIn domains today (or_same c (rows_with_filespaces c r)) m q o) [
        | Ok new ↦ λ said. waits-version domains today k n m p q o c new l said h
        | Err e ↦ λ said. h
      ] refl
    ]

-- ---- one after the other

waits-one : (filespace : ℕ) (i : NamedVersion) (v : Inv) (l : UnretainedLine) → i.object < l.object → Waits v l → Waits (expire filespace i v) l
waits-one filespace i v l less h =
    subst (λ (x : Inv). Waits x l) (sym (removes_kept (rows_cleared filespace i.path i.object) i.object v).only)
    (waits-cleared v.domains v.today i.object filespace l.filespace i.path l.path l.object v.clients less h)

waits-each : (filespace : ℕ) (items : List NamedVersion) (v : Inv) (l : UnretainedLine) → AllByRecursion (λ i. i.object < l.object) items → Waits v l → Waits (each (expire filespace) items v) l
waits-each filespace [] v l less h = h
waits-each filespace (i ∷ items) v l less h = waits-each filespace items (expire filespace i v) l less.1 (waits-one filespace i v l less.0 h)

-- it waits behind the removal of objects with smaller numbers
pub waits-on : (c : NamedVersions) (v : Inv) (l : UnretainedLine) → AllByRecursion (λ i. i.object < l.object) c.items → Waits v l → Waits (effect (Expire c) v) l
unfolding effect
waits-on c v l less h = waits-each c.filespace c.items v l less h
