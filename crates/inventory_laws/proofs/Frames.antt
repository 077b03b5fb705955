-- The numbers, nodes and names of the filespaces, which no change of their versions touches.
use Rattle.std.proofs.Common.{◌≡◌, ℕ, Bool, true, false, cond, List, [], ◌∷◌, map, Some, refl, sym, ap, ◌∙◌}
use Rattle.std.proofs.lemmas.List.Folds.{list_all-map}
use Rattle.std.specs.List.{list_all}
use Rattle.std.specs.Map.{keys_of, lookup, set_value}
use Rattle.std.specs.Option.{is_some}
use Rattle.inventory_rules.specs.inventory_rows.version_groups.declared.copies.CopyRow.{CopyRow}
use Rattle.inventory_rules.specs.inventory_rows.version_groups.declared.group.Group.{Group}
use Rattle.inventory_rules.specs.inventory_rows.version_groups.declared.groups.Filespace.{Filespace}
use Rattle.inventory_rules.specs.inventory_rows.version_groups.Entries.{all_later}
use Rattle.inventory_rules.specs.inventory_rows.object_rows.Filespaces.{at_number, filespace_at, filespaces_copied}
use Rattle.inventory_laws.proofs.Spliced.{all_later-map}

abbrev pub frame : ℕ × Filespace → ℕ × (ℕ × List ℕ)
frame f = (f.0, (f.1.node, f.1.name))

abbrev pub frames : List (ℕ × Filespace) → List (ℕ × (ℕ × List ℕ))
frames fs = map frame fs

pub frames-set : (test : ℕ → Bool) (fs : List (ℕ × Filespace)) (f : Filespace) (groups : List (List ℕ × Group)) → lookup test fs ≡ Some f → frames (set_value test fs (record f { groups = groups })) ≡ frames fs
frames-set test [] f groups h = refl
frames-set test (e ∷ fs) f groups h =
    elim (test e.0) as (λ b. cond b (Some e.1) (lookup test fs) ≡ Some f → frames (cond b ((e.0, record f { groups = groups }) ∷ fs) (e ∷ set_value test fs (record f { groups = groups }))) ≡ frames (e ∷ fs)) [
      | true ↦ λ t. let same : f ≡ e.1 = cc in ap (λ (x : Filespace). (e.0, (x.node, x.name)) ∷ frames fs) same
      | false ↦ λ t. ap (λ z. frame e ∷ z) (frames-set test fs f groups t)
    ] h

pub frames-copied : (k : ℕ) (copies : List CopyRow) (fs : List (ℕ × Filespace)) → frames (filespaces_copied k copies fs) ≡ frames fs
frames-copied k copies [] = refl
frames-copied k copies (f ∷ fs) = ap (λ z. frame f ∷ z) (frames-copied k copies fs)

-- what is asked of each, and of each and each later one
pub same_all : (p : ℕ × (ℕ × List ℕ) → Bool) (old new : List (ℕ × Filespace)) → frames new ≡ frames old → list_all (λ f. p (frame f)) new ≡ list_all (λ f. p (frame f)) old
same_all p old new h = sym (list_all-map p frame new) ∙ ap (list_all p) h ∙ list_all-map p frame old

pub same_later : (r : ℕ × (ℕ × List ℕ) → ℕ × (ℕ × List ℕ) → Bool) (old new : List (ℕ × Filespace)) → frames new ≡ frames old → all_later (λ f g. r (frame f) (frame g)) new ≡ all_later (λ f g. r (frame f) (frame g)) old
same_later r old new h = sym (all_later-map r frame new) ∙ ap (all_later r) h ∙ all_later-map r frame old

keys-frames : (fs : List (ℕ × Filespace)) → keys_of fs ≡ keys_of (frames fs)
keys-frames [] = refl
keys-frames (f ∷ fs) = ap (λ z. f.0 ∷ z) (keys-frames fs)

pub same_keys : (old new : List (ℕ × Filespace)) → frames new ≡ frames old → keys_of new ≡ keys_of old
same_keys old new h = keys-frames new ∙ ap keys_of h ∙ sym (keys-frames old)

-- whether a filespace is there
there : (n : ℕ) (fs : List (ℕ × Filespace)) → is_some (filespace_at n fs) ≡ is_some (lookup (at_number n) (frames fs))
there n [] = refl
there n (f ∷ fs) = elim (at_number n f.0) as (λ b. is_some (cond b (Some f.1) (filespace_at n fs)) ≡ is_some (cond b (Some (f.1.node, f.1.name)) (lookup (at_number n) (frames fs)))) [ true ↦ refl | false ↦ there n fs ]

pub same_there : (n : ℕ) (old new : List (ℕ × Filespace)) → frames new ≡ frames old → is_some (filespace_at n new) ≡ is_some (filespace_at n old)
same_there n old new h = there n new ∙ ap (λ (z : List (ℕ × (ℕ × List ℕ))). is_some (lookup (at_number n) z)) h ∙ sym (there n old)
