-- The database that was read: the segments of the copies lie on its volumes. Where none was read, the bytes are of no sound database whose segments lie
-- on volumes that are there.
use Rattle.std.proofs.Common.{◌≡◌, ℕ, Bool, true, cond, ◌&&◌, List, [], Option, Some, None, Result, Ok, Err, sym, ap, subst, ◌∙◌}
use Rattle.std.proofs.lemmas.List.{append-nil}
use Rattle.std.proofs.Math.Path.{fun_ext}
use Rattle.std.specs.Prelude.{IfOk, IfSome, IfNone}
use Rattle.std.specs.List.{list_all}
use Rattle.fields.specs.Editions.{Edition}
use Rattle.fields.specs.ListLaws.{one_value}
use Rattle.kinds.specs.declared.segment.Segment.{Segment}
use Rattle.inventory_rows.specs.object_rows.declared.held_object.HeldRow.{HeldRow}
use Rattle.inventory_rows.specs.object_rows.HeldRows.{are_held_rows}
use Rattle.inventory_rows.specs.volume_rows.declared.held.HeldSegment.{HeldSegment}
use Rattle.inventory_rows.specs.volume_rows.declared.volume.Volume.{Volume}
use Rattle.inventory_rows.specs.pool_tables.Counted.{are_sound}
use Rattle.inventory_rows.specs.pool_tables.Names.{pool_name, are_apart}
use Rattle.inventory_rows.specs.pool_rows.PoolRows.{PoolRows}
use Rattle.inventory_rows.specs.declared.tables.Tables.{Tables}
use Rattle.inventory_rows.specs.Search.{copies, segments_on}
use Rattle.inventory_rows.specs.State.{Inv, inv_of}
use Rattle.inventory_rules.specs.Held.{IsTied}
use Rattle.inventory_bytes.specs.Payload.{payload, payload_form, AreSound, unheld, unheld_stores, numbered, having_numbers}
use Rattle.inventory_bytes.specs.Segments.{all_lie, of_kept, with_volumes, IsFilled}
use Rattle.inventory_bytes.proofs.Filling.{filled-held, gathered_all, there-held, with_held-twice}
use Rattle.inventory_bytes.proofs.Holding.{gathered}
use Rattle.inventory_bytes.proofs.Listed.{listed_on}
use Rattle.inventory_bytes.proofs.Same.{tied_same}
use Rattle.inventory_bytes.proofs.Spelled.{changed, spelled, unheld_spelled, sound-held, bare, unheld-bare, unnumbered_all, unnumbered-same, unnumbered-numbered, numbered_held, numbered-back}
use Rattle.inventory_bytes.proofs.Tables.{is_made}

abbrev nothing : ℕ → List (HeldSegment × ℕ) → List (HeldSegment × ℕ)
nothing file held = []

-- all segments once the held objects have their numbers
abbrev all_of : Inv → List (ℕ × Segment)
all_of v = of_kept v.clients.filespaces (numbered v.clients.held)

-- ---- some database

filled_is : (v w : Inv) → IsFilled (having_numbers v) w → w ≡ changed (gathered (all_of v)) (λ n. n) v
filled_is v w f = f.only ∙ ap (λ (vs : List (ℕ × Volume)). with_volumes vs (having_numbers v)) (filled-held (all_of v) v.stores.volumes w.stores.volumes f.filled)

fits_filled : (e : Edition) (v w : Inv) → (payload e).Fits v → IsFilled (having_numbers v) w → (payload e).Fits (unheld w)
fits_filled e v w fits f =
    subst (payload e).Fits (sym (
    ap unheld (filled_is v w f)
    ∙ ap (λ (vs : List (ℕ × Volume)). with_volumes vs (unheld (having_numbers v))) (with_held-twice (gathered (all_of v)) nothing v.stores.volumes ∙ unheld-bare v.stores.volumes (bare e v fits))
    ∙ ap (λ (hs : List (ℕ × HeldRow)). record v { clients = record v.clients { held = hs } }) (unnumbered-numbered v.clients.held ∙ unnumbered-same v.clients.held (unnumbered_all e v fits))
    )) fits

spelled_filled : (e : Edition) (v w : Inv) → IsFilled (having_numbers v) w → (payload e).spell w ≡ (payload e).spell v
spelled_filled e v w f = ap (payload e).spell (filled_is v w f) ∙ spelled (gathered (all_of v)) (λ n. n) e v

tied_filled : (e : Edition) (v w : Inv) → (payload e).Fits v → IsFilled (having_numbers v) w → IsTied w
tied_filled e v w fits f = subst IsTied (sym (filled_is v w f)) (gathered_all (all_of v) (λ n. segments_on n (having_numbers v)) (listed_on (having_numbers v)) v.stores.volumes (bare e v fits))

held_filled : (e : Edition) (v w : Inv) → (payload e).Fits v → IsFilled (having_numbers v) w → are_held_rows w.clients.held ≡ true
held_filled e v w fits f = ap (λ (x : Inv). are_held_rows x.clients.held) (filled_is v w f) ∙ numbered_held v.clients.held (unnumbered_all e v fits)

-- the rows that were read, with the numbers of their held objects, and with the segments on the volumes
abbrev pub FilledOf : Inv → Option Tables → Type 0
FilledOf q o = IfSome o (λ t. IsFilled q (inv_of t))

filled_of : (p q w : Inv) → q ≡ having_numbers p → IsFilled q w → IsFilled (having_numbers p) w
filled_of p q w same f = subst (λ (x : Inv). IsFilled x w) same f

pub found_filled : {E : Type 0} (e : Edition) (r : Result (Option Tables) E) (bytes : List ℕ) (p q : Inv) → q ≡ having_numbers p → (payload e).Fits p → bytes ≡ (payload e).spell p → IfOk r (FilledOf q)
    → IfOk r (λ o. IfSome o (λ t. (payload e).Fits (unheld (inv_of t)) × (bytes ≡ (payload e).spell (inv_of t))))
found_filled e (Ok None) bytes p q same fits is f = tt
found_filled e (Ok (Some t)) bytes p q same fits is f =
    (fits_filled e p (inv_of t) fits (filled_of p q (inv_of t) same f), is ∙ sym (spelled_filled e p (inv_of t) (filled_of p q (inv_of t) same f)))
found_filled e (Err m) bytes p q same fits is f = tt

pub found_tied : {E : Type 0} (e : Edition) (r : Result (Option Tables) E) (p q : Inv) → q ≡ having_numbers p → (payload e).Fits p → IfOk r (FilledOf q) → IfOk r (λ o. IfSome o (λ t. IsTied (inv_of t)))
found_tied e (Ok None) p q same fits f = tt
found_tied e (Ok (Some t)) p q same fits f = tied_filled e p (inv_of t) fits (filled_of p q (inv_of t) same f)
found_tied e (Err m) p q same fits f = tt

-- no other database with these bytes has held objects under their numbers, and volumes that hold the segments of its copies
pub alone : (e : Edition) (bytes : List ℕ) (v w : Inv) → (payload e).Fits (unheld w) → are_held_rows w.clients.held ≡ true → IsTied w → bytes ≡ (payload e).spell w
    → (payload e).Fits (unheld v) → are_held_rows v.clients.held ≡ true → IsTied v → bytes ≡ (payload e).spell v → v ≡ w
alone e bytes v w fits held tied is other_fits other_held other_tied same =
    tied_same v w other_held other_tied held tied
    (one_value (payload_form e) (unheld w) (unheld v) [] fits other_fits (append-nil ((payload e).spell (unheld w)) ∙ (unheld_spelled e w ∙ (sym is ∙ (same ∙ sym (unheld_spelled e v)))))).0

pub found_alone : {E : Type 0} (e : Edition) (r : Result (Option Tables) E) (bytes : List ℕ) (p q : Inv) → q ≡ having_numbers p → (payload e).Fits p → bytes ≡ (payload e).spell p → IfOk r (FilledOf q)
    → IfOk r (λ o. IfSome o (λ t. (v : Inv) → (payload e).Fits (unheld v) → are_held_rows v.clients.held ≡ true → IsTied v → bytes ≡ (payload e).spell v → v ≡ inv_of t))
found_alone e (Ok None) bytes p q same fits is f = tt
found_alone e (Ok (Some t)) bytes p q same fits is f = λ v other_fits other_held other_tied other_is.
    let filled : IsFilled (having_numbers p) (inv_of t) = filled_of p q (inv_of t) same f in
    alone e bytes v (inv_of t) (fits_filled e p (inv_of t) fits filled) (held_filled e p (inv_of t) fits filled) (tied_filled e p (inv_of t) fits filled) (is ∙ sym (spelled_filled e p (inv_of t) filled)) other_fits other_held other_tied other_is
found_alone e (Err m) bytes p q same fits is f = tt

-- ---- none

abbrev pub NoneIs : Edition → List ℕ → Type 0
NoneIs e bytes = (v : Inv) → (payload e).Fits (unheld v) → AreSound v → all_lie v ≡ true → bytes ≡ (payload e).spell v → ⊥

-- the database without the segments on its volumes
abbrev emptied : Inv → Inv
emptied v = record v { stores = unheld_stores v.stores }

sound_emptied : (v : Inv) → AreSound v → AreSound (emptied v)
sound_emptied v sound =
    let left : PoolRows = unheld_stores v.stores in
    record {
      clients = sound.clients;
      stores =
          ap (λ b. cond {A = Option PoolRows} (are_apart pool_name v.stores.pools && b) (Some left) None) (sound-held nothing v.stores.volumes)
          ∙ ap (λ b. cond {A = Option PoolRows} b (Some left) None) (is_made (are_apart pool_name v.stores.pools && are_sound v.stores.volumes) v.stores v.stores sound.stores);
    }

lie_emptied : (v : Inv) → all_lie v ≡ true → all_lie (emptied v) ≡ true
lie_emptied v lie =
    ap (λ (test : Segment → Bool). list_all (λ e. list_all test e.1.segments) (copies v)) (fun_ext (λ s. there-held nothing s.file v.stores.volumes)) ∙ lie

pub none_read : (e : Edition) (bytes : List ℕ) → ((v : Inv) → (payload e).Fits v → bytes ≡ (payload e).spell v → ⊥) → NoneIs e bytes
none_read e bytes none = λ v fits sound lie same. none (unheld v) fits (same ∙ sym (unheld_spelled e v))

pub none_sound : {X E : Type 0} (e : Edition) (r : Result (Option X) E) (bytes : List ℕ) (p q : Inv) → q ≡ having_numbers p → (payload e).Fits p → bytes ≡ (payload e).spell p
    → IfOk r (λ o. IfNone o (AreSound q → all_lie q ≡ true → ⊥)) → IfOk r (λ o. IfNone o (NoneIs e bytes))
none_sound e (Ok None) bytes p q same fits is none = λ v other sound lie other_is.
    let found : unheld v ≡ p = (one_value (payload_form e) p (unheld v) [] fits other (append-nil ((payload e).spell p) ∙ (sym is ∙ (other_is ∙ sym (unheld_spelled e v))))).0 in
    let back : emptied v ≡ q =
    sym (ap (λ (hs : List (ℕ × HeldRow)). emptied (record v { clients = record v.clients { held = hs } })) (numbered-back v.clients.held sound.clients.held)) ∙ ap having_numbers found ∙ sym same in
    none (subst AreSound back (sound_emptied v sound)) (subst (λ (w : Inv). all_lie w ≡ true) back (lie_emptied v lie))
none_sound e (Ok (Some x)) bytes p q same fits is none = tt
none_sound e (Err m) bytes p q same fits is none = tt
