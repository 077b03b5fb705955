-- The contents of a database after a transaction, and under other contents.
use Rattle.std.proofs.Common.{◌≡◌, ℕ, eqb, true, false, cond, ◌||◌, List, [], ◌∷◌, length, None, Some, refl, sym, subst}
use Rattle.std.specs.List.{AllByRecursion}
use Rattle.sha2.specs.Sha256.{sha256}
use Rattle.kinds.specs.declared.segment.Digest.{Digest}
use Rattle.kinds.specs.declared.segment.Segment.{Segment}
use Rattle.inventory_laws.specs.entries.declared.change.Change.{Change}
use Rattle.inventory_laws.specs.inventory_rows.version_groups.declared.copies.CopyRow.{CopyRow}
use Rattle.inventory_laws.specs.inventory_rows.version_groups.declared.versions.Version.{Version}
use Rattle.inventory_laws.specs.inventory_rows.version_groups.Versions.{has_object, version_of}
use Rattle.inventory_laws.specs.inventory_rows.Search.{version, versions}
use Rattle.inventory_laws.specs.inventory_rows.State.{Inv}
use Rattle.inventory_laws.specs.inventory_rules.Transactions.{effect}
use Rattle.inventory_laws.specs.Origins.{placed_segments}
use Rattle.inventory_laws.proofs.Lists.{each_also, each_both}
use Rattle.inventory_laws.proofs.Origins.{Has, Places, effect_has}
use Rattle.contents.specs.Contents.{BringsHave, FramesHave, HasVersion, HaveAll, with_content}
use Rattle.contents.proofs.Arrived.{have_others}

module _ (P : ℕ → ℕ → List ℕ → Type 0) (contents : ℕ → List ℕ) where
  -- the contents give the object as many bytes, with this digest
  abbrev IsOf : ℕ → ℕ → Digest → Type 0
  IsOf object size digest = (length (contents object) ≡ size) × (digest.0 ≡ sha256 (contents object))

  -- they stand in the frames of the copy
  abbrev Framed : ℕ → CopyRow → Type 0
  Framed object copy = FramesHave P object 0 copy.segments (contents object)

  -- whatever transaction places it
  abbrev Any : ℕ → Type 0
  Any n = Unit {0}

  abbrev HasIts : Version → Type 0
  HasIts w = HasVersion P (contents w.object) w

  pub have_after : (c : Change) (v : Inv) → BringsHave P contents c → HaveAll P contents (versions v) → HaveAll P contents (versions (effect c v))
  have_after c v b h =
      each_also (Has IsOf Framed Any) HasIts (versions (effect c v)) (λ w has. record { size = has.is.0; digest = has.is.1; copies = has.copies })
      (effect_has IsOf Framed Any c v (record {
        objects = b.objects;
        places = each_also (λ (e : ℕ × List Segment). FramesHave P e.0 0 e.1 (contents e.0)) (λ (e : ℕ × List Segment). Places IsOf Framed Any e.0 e.1) (placed_segments c)
            (λ e frames pool placed any. frames) b.copies;
      }) tt (each_also HasIts (Has IsOf Framed Any) (versions v) (λ w has. record { is = (has.size, has.digest); copies = has.copies }) h))

-- only the contents of objects that are kept matter
pub have_same : (P : ℕ → ℕ → List ℕ → Type 0) (contents other : ℕ → List ℕ) (list : List Version) → AllByRecursion (λ (w : Version). other w.object ≡ contents w.object) list
    → HaveAll P contents list → HaveAll P other list
have_same P contents other list same h =
    each_both (λ (w : Version). other w.object ≡ contents w.object) (λ (w : Version). HasVersion P (contents w.object) w) (λ (w : Version). HasVersion P (other w.object) w) list
    (λ w e has. subst (λ (l : List ℕ). HasVersion P l w) (sym e) has) same h

none_there : (object : ℕ) (list : List Version) → version_of object list ≡ None → has_object object list ≡ false
none_there object [] h = refl
none_there object (w ∷ list) h = elim (eqb w.object object) as
    (λ b. cond b (Some w) (version_of object list) ≡ None → (b || has_object object list) ≡ false) [ true ↦ λ s. absurd cc | false ↦ λ s. none_there object list s ] h

pub have_one_more : (P : ℕ → ℕ → List ℕ → Type 0) (contents : ℕ → List ℕ) (object : ℕ) (bytes : List ℕ) (v : Inv) → version object v ≡ None → HaveAll P contents (versions v) → HaveAll P
    (with_content object bytes contents) (versions v)
have_one_more P contents object bytes v none h = have_others P contents object bytes (versions v) (none_there object (versions v) none) h
