-- That a file of the folder goes on standing for one of the store.
use Rattle.std.proofs.Common.{◌≡◌, inl, inr, ℕ, ◌≤◌, List, [], length, get_or, take, IsTrue, sym, ◌∙◌, ap, subst, arith}
use Rattle.std.proofs.lemmas.List.{length-take, take_all}
use Rattle.store_api.specs.Disk.{Standing, IsLoose, write, cut, settle, settled, changed, Leaves}
use Rattle.files_api.specs.Folder.{File, with_change, IsMissing, IsNew, LeavesFile}
use Rattle.real_edge.specs.Holds.{Tied}

-- the same bytes, under a name that is at least as sure
pub tied_like : (old new : File) (seen : Standing) → new.standing ≡ old.standing → (IsTrue old.is_sure → IsTrue new.is_sure) → Tied old seen → Tied new seen
tied_like old new seen same sure t = record {
  same = t.same ∙ ap (λ (s : Standing). s.bytes) (sym same);
  within = t.within;
  stable = subst (λ (s : Standing). seen.stable ≤ s.stable) (sym same) t.stable;
  loose = λ place lt in_it. t.loose place lt (subst (λ (s : Standing). IsLoose s.loose place) same in_it);
  unsure = λ unsure. t.unsure (λ was. unsure (sure was));
}

-- a sync of the file alone
pub tied_settle : (file : File) (seen : Standing) → Tied file seen → Tied (with_change settle file) seen
unfolding changed settled
tied_settle file seen t = record {
  same = t.same;
  within = t.within;
  stable = omega (arith, t.within, ap length t.same);
  loose = λ place lt in_it. absurd in_it;
  unsure = t.unsure;
}

-- a file that was made where there was none
pub tied_new : (old new : File) (seen : Standing) → IsMissing old → IsNew new → Tied old seen → Tied new seen
unfolding settled
tied_new old new seen missing fresh t = record {
  same = t.same ∙ ap (λ (s : Standing). s.bytes) missing.empty ∙ sym (ap (λ (s : Standing). s.bytes) fresh.empty);
  within = t.within;
  stable = omega (arith, none);
  loose = λ place lt in_it. absurd (omega (arith, none, lt));
  unsure = λ unsure. none;
}
  where
    none : seen.stable ≡ 0
    none = omega (arith, t.stable, ap (λ (s : Standing). s.stable) missing.empty)

-- a sync of the file and of its name
pub tied_synced : (file : File) (seen : Standing) → file.standing ≡ settled file.standing.bytes → IsTrue file.is_sure → Tied file seen → Tied file (changed settle seen)
unfolding changed settled
tied_synced file seen clean sure t = record {
  same = t.same;
  within = omega arith;
  stable = omega (arith, ap length t.same, ap (λ (s : Standing). s.stable) clean);
  loose = λ place lt in_it. absurd (subst (λ (s : Standing). IsLoose s.loose place) clean in_it);
  unsure = λ unsure. absurd (unsure sure);
}

-- a sync where there is no file
pub tied_missing : (file : File) (seen : Standing) → IsMissing file → Tied file seen → Tied file (changed settle seen)
unfolding changed settled
tied_missing file seen missing t =
    let none : seen.bytes ≡ [] = t.same ∙ ap (λ (s : Standing). s.bytes) missing.empty in
    record {
      same = t.same;
      within = omega arith;
      stable = omega (arith, ap length none);
      loose = λ place lt in_it. absurd (omega (arith, ap length none, lt));
      unsure = λ unsure. ap length none;
    }

-- A cut of the file: one to a length that was asked for, which left that length or another, of the store's file beside one of the file.
pub tied_cut : (file : File) (seen : Standing) (len left kept : ℕ) → len ≤ left → len ≤ kept → take kept file.standing.bytes ≡ take left file.standing.bytes → Tied file seen
    → Tied (with_change (cut len left) file) (changed (cut len kept) seen)
unfolding changed
tied_cut file seen len left kept room room' same t = record {
  same = ap (take kept) t.same ∙ same;
  within = omega (arith, length-take kept seen.bytes, t.within, room');
  stable = omega (arith, t.stable, room, room');
  loose = λ place lt in_it. t.loose place (omega (arith, lt)) in_it;
  unsure = λ unsure. omega (arith, t.unsure unsure);
}

-- the same where nothing of the file was cut
pub tied_uncut : (file : File) (seen : Standing) (len kept : ℕ) → length file.standing.bytes ≤ kept → len ≤ kept → Tied file seen → Tied file (changed (cut len kept) seen)
unfolding changed
tied_uncut file seen len kept whole room t = record {
  same = ap (take kept) t.same ∙ take_all kept file.standing.bytes whole;
  within = omega (arith, length-take kept seen.bytes, t.within, room);
  stable = omega (arith, t.stable);
  loose = λ place lt in_it. t.loose place (omega (arith, lt)) in_it;
  unsure = λ unsure. omega (arith, t.unsure unsure);
}

-- a write of no bytes
pub tied_unwritten : (file : File) (seen : Standing) (at : ℕ) → Tied file seen → Tied file (changed (write at 0 []) seen)
unfolding changed
tied_unwritten file seen at t = record {
  same = t.same;
  within = t.within;
  stable = t.stable;
  loose = λ place lt in_it. inr (t.loose place lt in_it);
  unsure = t.unsure;
}

-- what a stop leaves of the file is what it may leave of the store's
pub tied_left : (before after : File) (seen : Standing) → LeavesFile before after → Tied before seen → Leaves seen after.standing.bytes
tied_left before after seen left t = elim left.left [
  | inl there ↦ record {
    long = omega (arith, there.1.long, t.stable);
    same = λ place lt clear. there.1.same place (omega (arith, lt, t.stable)) (λ in_it. clear (t.loose place lt in_it)) ∙ ap (λ (bytes : List ℕ). get_or bytes place 0) (sym t.same);
  }
  | inr gone ↦ record {
    long = omega (arith, t.unsure gone.0);
    same = λ place lt clear. absurd (omega (arith, lt, t.unsure gone.0));
  }
]
