-- Volumes as one who asks for space sees them: with the segments of tickets as if they were copies there already.
use Rattle.std.specs.Prelude.{ℕ, ◌+◌, ◌-◌, ◌==◌, ◌&&◌, not, max, Bool, true, false, nat_le, unwrap_or, List, [], ◌∷◌, map, if◌then◌else◌}
use Rattle.std.specs.List.{list_any}
use Rattle.kinds.specs.declared.pool.Access.{Access}
use Rattle.kinds.specs.declared.pool.Access.TheVariants.{ReadWrite, ReadOnly, Unavailable, Offsite, Destroyed}
use Rattle.kinds.specs.declared.segment.Segment.{Segment}
use Rattle.pool_rows.specs.volume_rows.declared.volume.Volume.{Volume}
use Rattle.pool_rows.specs.volume_rows.Holdings.{is_bare}
use Rattle.pool_rows.specs.pool_tables.Rows.{row_at, with_row}
use Rattle.pool_rows.specs.PoolRows.{PoolRows, pool_capacity}
use Rattle.space.specs.declared.places.Placed.{Placed}
use Rattle.space.specs.declared.site.Site.{Site}
use Rattle.space.specs.declared.counted.Counted.{Counted}

-- what may be written: a volume whose access is READWRITE
abbrev pub is_writable : Access → Bool
is_writable ReadWrite = true
is_writable ReadOnly = false
is_writable Unavailable = false
is_writable Offsite = false
is_writable Destroyed = false

-- the volume of a row
abbrev pub site_of : Volume → Site
site_of v = record {
  pool = v.pool;
  scratch = v.scratch;
  is_writable = is_writable v.access;
  capacity = v.capacity;
  end = v.end;
  is_bare = is_bare v.segments;
}

-- a scratch volume of a pool that a ticket has drawn, and that no transaction has made yet
abbrev pub drawn_site : ℕ → ℕ → Site
drawn_site pool capacity = record {
  pool = pool;
  scratch = true;
  is_writable = true;
  capacity = capacity;
  end = 0;
  is_bare = true;
}

-- a segment of a ticket counts as a copy's: the volume ends no earlier than the segment, and isn't empty
abbrev pub with_claim : Segment → Site → Site
with_claim s site = record site { end = max site.end (s.offset + 32 + s.len); is_bare = false }

-- the volume of a place: where it isn't there it is a scratch volume that was drawn
abbrev pub claimed_site : PoolRows → Placed → List (ℕ × Site) → Site
claimed_site s p sites = unwrap_or (row_at p.segment.file sites) (drawn_site p.pool (unwrap_or (pool_capacity p.pool s) 0))

-- one place is claimed on its volume
abbrev pub claim : PoolRows → Placed → List (ℕ × Site) → List (ℕ × Site)
claim s p sites = with_row p.segment.file (with_claim p.segment (claimed_site s p sites)) sites

-- all of these places are
abbrev pub claim_all : PoolRows → List Placed → List (ℕ × Site) → List (ℕ × Site)
claim_all s [] sites = sites
claim_all s (p ∷ places) sites = claim_all s places (claim s p sites)

-- the volumes of some rows
abbrev pub seen : List (ℕ × Volume) → List (ℕ × Site)
seen volumes = map (λ f. (f.0, site_of f.1)) volumes

-- the volumes, those among them that tickets have drawn, with what tickets claim
abbrev pub sites : PoolRows → Counted → List (ℕ × Site)
sites s c = claim_all s c.others (claim_all s c.own (seen s.volumes))

-- a sequential volume isn't FULL: there is room for a further block
abbrev pub has_tail : Site → Bool
has_tail site = nat_le 4096 (site.capacity - site.end)

-- one that isn't FULL is FILLING where it has copies
abbrev pub is_filling : Site → Bool
is_filling site = not site.is_bare

-- and EMPTY where nothing was written on it since it was made or reused
abbrev pub is_empty : Site → Bool
is_empty site = site.is_bare && site.end == 0

-- some of these places are on the volume
abbrev pub is_held : ℕ → List Placed → Bool
is_held file places = list_any (λ p. p.segment.file == file) places

-- a volume of the pool that may be written, and that isn't to be avoided
abbrev pub is_open : ℕ → ℕ → ℕ × Site → Bool
is_open number avoid f = f.1.pool == number && (f.1.is_writable && not (f.0 == avoid))

-- 1 for a scratch volume of the pool
abbrev pub scratch_one : ℕ → Site → ℕ
scratch_one number site = if site.pool == number && site.scratch then 1 else 0

-- how many scratch volumes the pool has, those among them that tickets have drawn
abbrev pub scratch_count : ℕ → List (ℕ × Site) → ℕ
scratch_count number [] = 0
scratch_count number (f ∷ sites) = scratch_one number f.1 + scratch_count number sites
