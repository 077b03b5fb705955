-- Calls within a range of a file.
use Rattle.std.proofs.Common.{◌≡◌, inl, inr, ℕ, ◌+◌, ◌<◌, ◌≤◌, List, [], ◌∷◌, length, take, drop, Option, Some, None, IfSome, Result, Ok, Err, OnOk, IfOk, refl, sym, ◌∙◌, ap, subst, arith}
use Rattle.std.proofs.lemmas.List.{take_all}
use Rattle.store_api.specs.declared.store.Failed.{Failed}
use Rattle.store_api.specs.Disk.{Standing, write, settle, settled, changed, overwritten, Call, on, idle, History, standing, reads, now, with_call, ImageAt}
use Rattle.store_api.specs.Runs.{Stands, Firm, OnlyOn, IsOutside, WroteWithin, Wrote, Synced, WroteSynced, ReadWithin}
use Rattle.store_api.specs.Told.{Told, Adds, MayWrite, MaySync, ReadsFrom}
use Rattle.store_api.proofs.Bytes.{overwritten_inside, length-overwritten, Stands_fits, Stands_from}
use Rattle.store_api.proofs.Standings.{stands_write, firm_write, firm_settled, firm_settle, leaves_firm, standing_on}
use Rattle.store_api.proofs.Runs.{now_image, goes_none, goes_then, each_then, each_call}

-- outside a range is outside each part of it
pub out_narrow : (at len start span place : ℕ) (piece : List ℕ) → at ≤ start → start + span ≤ at + len → IsOutside at len place piece → IsOutside start span place piece
out_narrow at len start span place piece from to (inl before) = inl (omega arith)
out_narrow at len start span place piece from to (inr behind) = inr (omega arith)

-- no call is within any range
pub wrote_none : (file at len : ℕ) (h : History) → WroteWithin file at len h h
wrote_none file at len h = record {
  goes = goes_none (λ other. other ≡ file) h;
  firm = λ place piece out f. f;
  since = λ place piece out f moment image from to here.
      leaves_firm (standing h file) (image file) place piece (now_image h image (subst (λ m. ImageAt h m image) (let e : moment ≡ now h = omega arith in e) here) file) f;
  stands = λ place piece out s. s;
}

-- one call is within a range where what is firm outside it stays so, and what stands outside it does
wrote_call : (file at len : ℕ) (call : Call) (h : History) → OnlyOn (λ other. other ≡ file) (call ∷ [])
    → ((place : ℕ) (piece : List ℕ) → IsOutside at len place piece → Firm (standing h file) place piece → Firm (standing (with_call call h) file) place piece)
    → ((place : ℕ) (piece : List ℕ) → IsOutside at len place piece → Stands (reads h file) place piece → Stands (reads (with_call call h) file) place piece)
    → WroteWithin file at len h (with_call call h)
wrote_call file at len call h only firm stands = record {
  goes = record { calls = call ∷ []; grew = refl; only = only };
  firm = firm;
  since = λ place piece out f. each_call call h (λ image. Stands (image file) place piece)
      (λ image left. leaves_firm (standing h file) (image file) place piece (left file) f)
      (λ image left. leaves_firm (standing (with_call call h) file) (image file) place piece (left file) (firm place piece out f));
  stands = stands;
}

-- a call with no effect is within any range
pub wrote_idle : (file at len : ℕ) (h : History) → WroteWithin file at len h (with_call idle h)
wrote_idle file at len h = wrote_call file at len idle h tt (λ place piece out f. f) (λ place piece out s. s)

-- a write into a part of the range
pub wrote_write : (file at len start span : ℕ) (written : List ℕ) (h : History) → at ≤ start → start + span ≤ at + len → length written ≤ span → WroteWithin file at len h (with_call (on file (write start span written)) h)
unfolding changed
wrote_write file at len start span written h from to le =
    let same = standing_on h file (write start span written) in
    wrote_call file at len (on file (write start span written)) h (refl, tt)
    (λ place piece out f. subst (λ s. Firm s place piece) (sym same) (firm_write (standing h file) start span written place piece le (out_narrow at len start span place piece from to out) f))
    (λ place piece out s. subst (λ (f : Standing). Stands f.bytes place piece) (sym same) (stands_write (reads h file) start span written place piece le (out_narrow at len start span place piece from to out) s))

-- a sync that succeeded
pub wrote_settle : (file at len : ℕ) (h : History) → WroteWithin file at len h (with_call (on file settle) h)
unfolding changed settled
wrote_settle file at len h =
    let same = standing_on h file settle in
    wrote_call file at len (on file settle) h (refl, tt)
    (λ place piece out f. subst (λ s. Firm s place piece) (sym same) (firm_settle (standing h file) place piece f.stands))
    (λ place piece out s. subst (λ (f : Standing). Stands f.bytes place piece) (sym same) s)

-- calls within a range, and then others within it
pub wrote_then : (file at len : ℕ) (old mid new : History) → WroteWithin file at len old mid → WroteWithin file at len mid new → WroteWithin file at len old new
wrote_then file at len old mid new a b = record {
  goes = goes_then (λ other. other ≡ file) old mid new a.goes b.goes;
  firm = λ place piece out f. b.firm place piece out (a.firm place piece out f);
  since = λ place piece out f. each_then (λ other. other ≡ file) old mid new (λ image. Stands (image file) place piece) b.goes (a.since place piece out f) (b.since place piece out (a.firm place piece out f));
  stands = λ place piece out s. b.stands place piece out (a.stands place piece out s);
}

-- calls within a range are within each range that leaves less outside
pub wrote_wider : (file at len at' len' : ℕ) (old new : History) → ((place : ℕ) (piece : List ℕ) → IsOutside at' len' place piece → IsOutside at len place piece) → WroteWithin file at len old new → WroteWithin file at' len' old new
wrote_wider file at len at' len' old new f a = record {
  goes = a.goes;
  firm = λ place piece out firm. a.firm place piece (f place piece out) firm;
  since = λ place piece out firm. a.since place piece (f place piece out) firm;
  stands = λ place piece out s. a.stands place piece (f place piece out) s;
}

-- as each range that has it within
pub wrote_part : (file at len at' len' : ℕ) (old new : History) → at' ≤ at → at + len ≤ at' + len' → WroteWithin file at len old new → WroteWithin file at' len' old new
wrote_part file at len at' len' old new from to a = wrote_wider file at len at' len' old new (λ place piece out. out_narrow at' len' at len place piece from to out) a

-- and as each range at all, where nothing was written
pub wrote_nothing : (file at len : ℕ) (old new : History) → WroteWithin file 0 0 old new → WroteWithin file at len old new
wrote_nothing file at len old new a = wrote_wider file 0 0 at len old new (λ place piece out. inr (omega arith)) a

-- the bytes that were written stand there
pub stands_written : (bytes : List ℕ) (at : ℕ) (piece : List ℕ) → 0 < length piece → Stands (overwritten bytes at piece) at piece
stands_written bytes at piece some = Stands_from (overwritten bytes at piece) at piece some (omega (arith, length-overwritten bytes at piece some)) (λ k lt. overwritten_inside bytes at piece k lt)

-- what a write that may have failed did
wrote_by : {T : Type 0} (file at : ℕ) (bytes : List ℕ) (result : Result T Failed) (call : Call) (h : History) → MayWrite file at bytes result call → Wrote file at bytes result h (with_call call h)
unfolding changed
wrote_by file at bytes (Ok done) call h is =
    let gives : reads (with_call (on file (write at (length bytes) bytes)) h) file ≡ overwritten (reads h file) at bytes = ap (λ (f : Standing). f.bytes) (standing_on h file (write at (length bytes) bytes)) in
    subst (λ c. Wrote file at bytes (Ok done) h (with_call c h)) (sym is) (record {
      within = wrote_write file at (length bytes) at (length bytes) bytes h (omega arith) (omega arith) (omega arith);
      gives = gives;
      there = λ some. subst (λ l. Stands l at bytes) (sym gives) (stands_written (reads h file) at bytes some);
    })
wrote_by {T} file at bytes (Err failed) call h (inl is) =
    subst (λ c. Wrote {T = T} file at bytes (Err failed) h (with_call c h)) (sym is) (record { within = wrote_idle file at (length bytes) h; gives = tt; there = tt })
wrote_by {T} file at bytes (Err failed) call h (inr part) =
    subst (λ c. Wrote {T = T} file at bytes (Err failed) h (with_call c h)) (sym part.6) (record {
      within = wrote_write file at (length bytes) part.0 part.1 part.2 h part.3 part.4 part.5;
      gives = tt;
      there = tt;
    })

pub wrote_adds : {T : Type 0} (file at : ℕ) (bytes : List ℕ) (result : Result T Failed) (old new : History) → Adds (MayWrite file at bytes result) old new → Wrote file at bytes result old new
wrote_adds file at bytes result old new adds = subst (λ n. Wrote file at bytes result old n) (sym adds.2) (wrote_by file at bytes result adds.0 old adds.1)

-- what a sync that may have failed did
synced_by : {T : Type 0} (file : ℕ) (result : Result T Failed) (call : Call) (h : History) → MaySync file result call → Synced file result h (with_call call h)
unfolding changed settled
synced_by file (Ok done) call h is =
    let same : standing (with_call (on file settle) h) file ≡ settled (reads h file) = standing_on h file settle in
    subst (λ c. Synced file (Ok done) h (with_call c h)) (sym is) (record {
      within = wrote_settle file 0 0 h;
      same = ap (λ (f : Standing). f.bytes) same;
      durable = same;
      firm = λ place piece s. subst (λ f. Firm f place piece) (sym same) (firm_settled (reads h file) place piece s);
    })
synced_by {T} file (Err failed) call h is =
    subst (λ c. Synced {T = T} file (Err failed) h (with_call c h)) (sym is) (record { within = wrote_idle file 0 0 h; same = refl; durable = tt; firm = tt })

pub synced_adds : {T : Type 0} (file : ℕ) (result : Result T Failed) (old new : History) → Adds (MaySync file result) old new → Synced file result old new
synced_adds file result old new adds = subst (λ n. Synced file result old n) (sym adds.2) (synced_by file result adds.0 old adds.1)

-- a write that succeeded, and then a sync
pub wrote_then_synced : {T U : Type 0} (file at : ℕ) (bytes : List ℕ) (done : U) (result : Result T Failed) (old mid new : History) → (let first : Result U Failed = Ok done in Wrote file at bytes first old mid) → Synced file result mid new → WroteSynced file at bytes result old new
wrote_then_synced file at bytes done result old mid new a b = record {
  within = wrote_then file at (length bytes) old mid new a.within (wrote_nothing file at (length bytes) mid new b.within);
  durable = on_ok result (λ e. e ∙ ap settled a.gives) b.durable;
  firm = on_ok result (λ each some. each at bytes (a.there some)) b.firm;
}
  where
    on_ok : {T : Type 0} (r : Result T Failed) {P Q : Type 0} → (P → Q) → OnOk r P → OnOk r Q
    on_ok (Ok d) f p = f p
    on_ok (Err e) f p = tt

-- a write that failed, after which there was no sync
pub wrote_not_synced : {T : Type 0} {U : Type 0} (file at : ℕ) (bytes : List ℕ) (failed again : Failed) (old new : History) → (let first : Result U Failed = Err failed in Wrote file at bytes first old new) → (let second : Result T Failed = Err again in WroteSynced file at bytes second old new)
wrote_not_synced file at bytes failed again old new a = record { within = a.within; durable = tt; firm = tt }

-- a read: a piece that stands there, of the buffer's length, is what was read
read_piece : (file : List ℕ) (offset : ℕ) (buffer : List ℕ) (count : ℕ) → ReadsFrom file offset buffer count → (piece : List ℕ) → length piece ≡ length buffer → Stands file offset piece → (count ≡ length buffer) × (buffer ≡ piece)
read_piece file offset buffer count r piece long s =
    let whole : count ≡ length buffer = omega (arith, r.many, long, Stands_fits file offset piece s) in
    (whole, sym (take_all count buffer (omega arith)) ∙ r.same ∙ ap (λ n. take n (drop offset file)) (let e : count ≡ length piece = omega arith in e) ∙ s.same)

read_result : (file : List ℕ) (offset : ℕ) (buffer : List ℕ) (result : Result ℕ Failed) → IfOk result (λ count. ReadsFrom file offset buffer count)
    → IfOk result (λ count. (piece : List ℕ) → length piece ≡ length buffer → Stands file offset piece → (count ≡ length buffer) × (buffer ≡ piece))
read_result file offset buffer (Ok count) r = read_piece file offset buffer count r
read_result file offset buffer (Err failed) r = tt

pub read_adds : (file offset : ℕ) (buffer : List ℕ) (result : Result ℕ Failed) (old new : History) → IfOk result (λ count. ReadsFrom (reads old file) offset buffer count) → Adds (λ call. call ≡ idle) old new → ReadWithin file offset buffer result old new
read_adds file offset buffer result old new r adds = record {
  goes = record { calls = adds.0 ∷ []; grew = adds.2; only = subst (λ c. OnlyOn (λ other. ⊥) (c ∷ [])) (sym adds.1) tt };
  bytes = r;
  piece = read_result (reads old file) offset buffer result r;
}

-- of what a store tells
pub told_read : (told after : Option History) (file offset : ℕ) (buffer : List ℕ) (result : Result ℕ Failed) → IfOk result (λ count. IfSome told (λ h. ReadsFrom (reads h file) offset buffer count))
    → Told told after (Adds (λ call. call ≡ idle)) → Told told after (ReadWithin file offset buffer result)
told_read None None file offset buffer result r t = t
told_read None (Some new) file offset buffer result r t = t
told_read (Some old) None file offset buffer result r t = t
told_read (Some old) (Some new) file offset buffer result r t = read_adds file offset buffer result old new r t
