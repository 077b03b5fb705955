-- Volumes are made durable, one after the other, and looked at then.
use Rattle.std.proofs.Common.{◌≡◌, ◌⊎◌, inl, inr, ℕ, ◌≤◌, Bool, true, false, List, [], ◌∷◌, Option, Some, None, Result, Ok, Err, refl, sym, ap, subst, ◌∙◌, arith}
use Rattle.std.specs.Prelude.{◌==◌, cond, is_some}
use Rattle.std.specs.BTreeMap.{is_at}
use Rattle.std.specs.Ordering.{nat_cmp}
use Rattle.std.proofs.lemmas.Bool.Decides.{nat_tests}
use Rattle.std.proofs.Math.Path.{fun_ext}
use Rattle.std.proofs.lemmas.Bool as bool
use Rattle.store_api.specs.Disk.{Standing, History, standing, reads, settled}
use Rattle.store_api.specs.Told.{Told}
use Rattle.store_api.proofs.Runs.{goes_none, goes_standing, told_map, told_then}
use Rattle.kinds.specs.declared.refusal.OpenRefused.{OpenRefused}
use Rattle.log_file.specs.Starts.{Settled}
use Rattle.inventory_rows.specs.pool_tables.Rows.{row_at}
use Rattle.inventory_rows.specs.volume_rows.declared.volume.Volume.{Volume}
use Rattle.inventory_rows.specs.State.{Inv}
use Rattle.copy_checks.specs.Looks.{Looks}
use Rattle.db_chains.specs.Reads.{OnlySettles}
use Rattle.db_chains.proofs.Settling.{settles_none, settles_then, settles_file, settles_looked, stays_settled}
use Rattle.db_losses.specs.Losses.{Losses}
use Rattle.db_restore.specs.Missing.{AreJudged, is_among}
use Rattle.db_restore.specs.Settling.{AreDurable, Judges, Settles, SettlesOne, has_volume}

-- ---- one file

pub one_settled : (skipped : List ℕ) (file : ℕ) (x y : Option History) → 4 ≤ file → (let result : Result (Unit {0}) OpenRefused = Ok tt in Told x y (Settled file result)) → (let result : Result (Unit {0}) OpenRefused = Ok tt in Told x y (SettlesOne skipped file result))
one_settled skipped file x y ours told =
    told_map x y _ _ (λ old new s. record {
      goes = s.goes;
      settles = settles_file file old new ours s.goes s.same s.left;
      durable = λ no. s.durable ∙ ap settled (sym s.same);
      stays = λ other was. stays_settled file other old new s.goes s.same s.durable was;
    }) told

pub one_failed : (skipped : List ℕ) (file : ℕ) (x y : Option History) (why : OpenRefused) → 4 ≤ file → (let result : Result (Unit {0}) OpenRefused = Err why in Told x y (Settled file result)) → (let result : Result (Unit {0}) OpenRefused = Err why in Told x y (SettlesOne skipped file result))
one_failed skipped file x y why ours told =
    told_map x y _ _ (λ old new s. record { goes = s.goes; settles = settles_file file old new ours s.goes s.same s.left; durable = tt; stays = tt }) told

pub one_skipped : (skipped : List ℕ) (file : ℕ) (x : Option History) → true ≡ is_among skipped file → (let result : Result (Unit {0}) OpenRefused = Ok tt in Told x x (SettlesOne skipped file result))
one_skipped skipped file None is = tt
one_skipped skipped file (Some h) is = record {
  goes = goes_none (λ other. other ≡ file) h;
  settles = settles_none h;
  durable = λ no. absurd (let both : true ≡ false = is ∙ no in cc);
  stays = λ other was. was;
}

-- ---- all files

-- the files of these volumes are on the disk, or those of the rest
abbrev pub RestDurable : List ℕ → (all rest : List (ℕ × Volume)) → History → Type 0
RestDurable skipped all rest h = (file : ℕ) → has_volume file all ≡ true → is_among skipped file ≡ false → (has_volume file rest ≡ true) ⊎ (standing h file ≡ settled (reads h file))

pub record Underway (skipped : List ℕ) (all rest : List (ℕ × Volume)) (old new : History) : Type 0 where
  pub settles : OnlySettles old new
  pub durable : RestDurable skipped all rest new

same_number : (x y : ℕ) → is_at (nat_cmp x) y ≡ (x == y)
same_number x y = grind (arith, nat_tests)

-- a row that is there is the first or one of the rest
first_or_rest : (file : ℕ) (e : ℕ × Volume) (rest : List (ℕ × Volume)) → has_volume file (e ∷ rest) ≡ true → (e.0 ≡ file) ⊎ (has_volume file rest ≡ true)
first_or_rest file e rest there = go (is_at (nat_cmp file) e.0) refl there
  where
    go : (b : Bool) → is_at (nat_cmp file) e.0 ≡ b → is_some (cond b (Some e.1) (row_at file rest)) ≡ true → (e.0 ≡ file) ⊎ (has_volume file rest ≡ true)
    go true here some = inl (sym (bool.eqb-true file e.0 (sym (same_number file e.0) ∙ here)))
    go false apart some = inr some

pub settle_none : (skipped : List ℕ) (all : List (ℕ × Volume)) (x : Option History) → Told x x (Underway skipped all all)
settle_none skipped all None = tt
settle_none skipped all (Some h) = record { settles = settles_none h; durable = λ file there no. inl there }

next_durable : (skipped : List ℕ) (all : List (ℕ × Volume)) (e : ℕ × Volume) (rest : List (ℕ × Volume)) (mid new : History) → RestDurable skipped all (e ∷ rest) mid → (is_among skipped e.0 ≡ false → standing new e.0 ≡ settled (reads new e.0))
    → ((other : ℕ) → standing mid other ≡ settled (reads mid other) → standing new other ≡ settled (reads new other)) → RestDurable skipped all rest new
next_durable skipped all e rest mid new was durable stays file there free = elim (was file there free) [
  | inl left ↦ elim (first_or_rest file e rest left) [
    | inl same ↦ (inr (subst (λ (n : ℕ). standing new n ≡ settled (reads new n)) same (durable (subst (λ (n : ℕ). is_among skipped n ≡ false) (sym same) free))))
    | inr later ↦ inl later
  ]
  | inr on ↦ inr (stays file on)
]

pub settle_next : (skipped : List ℕ) (all : List (ℕ × Volume)) (e : ℕ × Volume) (rest : List (ℕ × Volume)) (x y z : Option History) → Told x y (Underway skipped all (e ∷ rest)) → (let result : Result (Unit {0}) OpenRefused = Ok tt in Told y z (SettlesOne skipped e.0 result))
    → Told x z (Underway skipped all rest)
settle_next skipped all e rest x y z a b =
    told_then x y z _ _ _ (λ old mid new u s. record { settles = settles_then old mid new u.settles s.settles; durable = next_durable skipped all e rest mid new u.durable s.durable s.stays }) a b

pub settle_failed : (skipped : List ℕ) (all rest : List (ℕ × Volume)) (file : ℕ) (x y z : Option History) (why : OpenRefused) → Told x y (Underway skipped all rest) → (let result : Result (Unit {0}) OpenRefused = Err why in Told y z (SettlesOne skipped file result))
    → (let result : Result (Unit {0}) OpenRefused = Err why in Told x z (Settles skipped all result))
settle_failed skipped all rest file x y z why a b = told_then x y z _ _ _ (λ old mid new u s. record { settles = settles_then old mid new u.settles s.settles; durable = tt }) a b

pub settle_done : (skipped : List ℕ) (all : List (ℕ × Volume)) (x y : Option History) → Told x y (Underway skipped all []) → (let result : Result (Unit {0}) OpenRefused = Ok tt in Told x y (Settles skipped all result))
settle_done skipped all x y a =
    told_map x y _ _ (λ old new u. record {
      settles = u.settles;
      durable = λ file there no. elim (u.durable file there no) [
        | inl none ↦ absurd (let false_is : false ≡ true = none in cc)
        | inr on ↦ on
      ];
    }) a

-- ---- and looked at

pub judges_none : {E : Type 0} (p : Inv) (skipped : List ℕ) (why : E) (x : Option History) → (let result : Result Losses E = Err why in Told x x (Judges p skipped result))
judges_none p skipped why None = tt
judges_none p skipped why (Some h) = record { settles = settles_none h; durable = tt; judged = tt }

pub judges_unsettled : (p : Inv) (skipped : List ℕ) (volumes : List (ℕ × Volume)) (why : OpenRefused) (x y : Option History) → (let result : Result (Unit {0}) OpenRefused = Err why in Told x y (Settles skipped volumes result))
    → (let result : Result Losses OpenRefused = Err why in Told x y (Judges p skipped result))
judges_unsettled p skipped volumes why x y a = told_map x y _ _ (λ old new s. record { settles = s.settles; durable = tt; judged = tt }) a

-- the same volumes, as another list has them
pub judges_on : {T E : Type 0} (skipped : List ℕ) (volumes others : List (ℕ × Volume)) (x y : Option History) (result : Result T E) → volumes ≡ others → Told x y (Settles skipped volumes result) → Told x y (Settles skipped others result)
judges_on skipped volumes others x y result same a = subst (λ (l : List (ℕ × Volume)). Told x y (Settles skipped l result)) same a

same_of : (old mid : History) → OnlySettles old mid → reads mid ≡ reads old
same_of old mid s = fun_ext s.same

pub judges_unseen : (p : Inv) (skipped : List ℕ) (volumes : List (ℕ × Volume)) (why : OpenRefused) (R : (ℕ → List ℕ) → Unit {0} → Type 0) (x y z : Option History) → (let result : Result (Unit {0}) OpenRefused = Ok tt in Told x y (Settles skipped volumes result))
    → (let result : Result (Unit {0}) OpenRefused = Err why in Told y z (Looks R result)) → (let result : Result Losses OpenRefused = Err why in Told x z (Judges p skipped result))
judges_unseen p skipped volumes why R x y z a b =
    told_then x y z _ _ _ (λ old mid new s l. record { settles = settles_then old mid new s.settles (settles_looked mid new l.0); durable = tt; judged = tt }) a b

pub judges_seen : (p : Inv) (skipped : List ℕ) (losses : Losses) (R : (ℕ → List ℕ) → Unit {0} → Type 0) (x y z : Option History) → ((image : ℕ → List ℕ) → R image tt → AreJudged image skipped losses p)
    → (let result : Result (Unit {0}) OpenRefused = Ok tt in Told x y (Settles skipped p.stores.volumes result)) → (let result : Result (Unit {0}) OpenRefused = Ok tt in Told y z (Looks R result))
    → (let result : Result Losses OpenRefused = Ok losses in Told x z (Judges p skipped result))
judges_seen p skipped losses R x y z so a b =
    told_then x y z _ _ _ (λ old mid new s l. record {
      settles = settles_then old mid new s.settles (settles_looked mid new l.0);
      durable = λ file there no.
          let stands : standing new file ≡ standing mid file = goes_standing (λ other. ⊥) mid new file (λ never. never) l.0 in
          stands ∙ s.durable file there no ∙ ap settled (sym (ap (λ (f : Standing). f.bytes) stands));
      judged = subst (λ (image : ℕ → List ℕ). AreJudged image skipped losses p) (same_of old mid s.settles) (so (reads mid) l.1);
    }) a b
