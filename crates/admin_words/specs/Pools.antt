-- Commands of device classes and storage pools.
use Rattle.std.specs.Prelude.{false, List, codes, unwrap_or}
use Rattle.admin_words.specs.declared.pools.NamedDevClass.{NamedDevClass}
use Rattle.admin_words.specs.declared.pools.DevClassDefinition.{DevClassDefinition}
use Rattle.admin_words.specs.declared.pools.PoolDefinition.{PoolDefinition}
use Rattle.admin_words.specs.declared.pools.PoolUpdate.{PoolUpdate}
use Rattle.admin_words.specs.declared.pools.NamedPool.{NamedPool}
use Rattle.admin_words.specs.declared.pools.Migration.{Migration}
use Rattle.admin_words.specs.declared.pools.Reclamation.{Reclamation}
use Rattle.admin_words.specs.declared.pools.PoolBackup.{PoolBackup}
use Rattle.admin_words.specs.declared.pools.PoolQuery.{PoolQuery}
use Rattle.kinds.specs.declared.pool.PoolKind.TheVariants.{Primary}
use Rattle.kinds.specs.declared.pool.SizeLimit.TheVariants.{NoLimit}
use Rattle.admin_words.specs.declared.table.Form.TheVariants.{Pool}
use Rattle.admin_words.specs.declared.table.PoolForm.TheVariants.{DefineDevClass, DefinePool, MigratePool, ReclaimPool, UpdatePool}
use Rattle.admin_words.specs.Grammar.{given_for}
use Rattle.command_words.specs.Rows.{Given, text_at}
use Rattle.command_words.specs.Fields.{capacity_of, name_if, name_of, number_of, size_limit_of}
use Rattle.admin_words.specs.Chosen.{collocate_of, pool_kind_of, usual_reclaim, next_of}

-- A device class by its name.
abbrev pub named_dev_class : List Given → List Given → NamedDevClass
named_dev_class places keys =
    record {
      class = name_of 30 (text_at 0 places);
    }

-- DEFINE DEVCLASS with DEVTYPE=FILE. MAXCAPACITY is 2 GiB where it is not given.
abbrev pub dev_class_definition : List Given → List Given → DevClassDefinition
dev_class_definition places keys =
    record {
      class = name_of 30 (text_at 0 places);
      capacity = unwrap_or (capacity_of (given_for (Pool DefineDevClass) (codes "MAXCAPACITY") keys)) 2147483648;
    }

-- DEFINE STGPOOL, with the usual values where none are given. An empty NEXTSTGPOOL is none.
abbrev pub pool_definition : List Given → List Given → PoolDefinition
pool_definition places keys =
    record {
      pool = name_of 30 (text_at 0 places);
      class = name_of 30 (text_at 1 places);
      kind = unwrap_or (pool_kind_of (given_for (Pool DefinePool) (codes "POOLTYPE") keys)) Primary;
      max_size = unwrap_or (size_limit_of (given_for (Pool DefinePool) (codes "MAXSIZE") keys)) NoLimit;
      next = name_if 30 (given_for (Pool DefinePool) (codes "NEXTSTGPOOL") keys);
      high = unwrap_or (number_of 100 (given_for (Pool DefinePool) (codes "HIGHMIG") keys)) 90;
      low = unwrap_or (number_of 100 (given_for (Pool DefinePool) (codes "LOWMIG") keys)) 70;
      reclaim = unwrap_or (number_of 100 (given_for (Pool DefinePool) (codes "RECLAIM") keys)) (usual_reclaim (unwrap_or (pool_kind_of (given_for (Pool DefinePool) (codes "POOLTYPE") keys)) Primary));
      reuse_delay = unwrap_or (number_of 9999 (given_for (Pool DefinePool) (codes "REUSEDELAY") keys)) 0;
      max_scratch = unwrap_or (number_of 9999 (given_for (Pool DefinePool) (codes "MAXSCRATCH") keys)) 0;
      collocate = unwrap_or (collocate_of (given_for (Pool DefinePool) (codes "COLLOCATE") keys)) false;
    }

-- UPDATE STGPOOL: what is not given stays. An empty NEXTSTGPOOL takes the next pool away.
abbrev pub pool_update : List Given → List Given → PoolUpdate
pool_update places keys =
    record {
      pool = name_of 30 (text_at 0 places);
      max_size = size_limit_of (given_for (Pool UpdatePool) (codes "MAXSIZE") keys);
      next = next_of (given_for (Pool UpdatePool) (codes "NEXTSTGPOOL") keys);
      high = number_of 100 (given_for (Pool UpdatePool) (codes "HIGHMIG") keys);
      low = number_of 100 (given_for (Pool UpdatePool) (codes "LOWMIG") keys);
      reclaim = number_of 100 (given_for (Pool UpdatePool) (codes "RECLAIM") keys);
      reuse_delay = number_of 9999 (given_for (Pool UpdatePool) (codes "REUSEDELAY") keys);
      max_scratch = number_of 9999 (given_for (Pool UpdatePool) (codes "MAXSCRATCH") keys);
      collocate = collocate_of (given_for (Pool UpdatePool) (codes "COLLOCATE") keys);
    }

-- A storage pool by its name.
abbrev pub named_pool : List Given → List Given → NamedPool
named_pool places keys =
    record {
      pool = name_of 30 (text_at 0 places);
    }

-- MIGRATE STGPOOL: down to this percentage, or to the pool's LOWMIG.
abbrev pub migration : List Given → List Given → Migration
migration places keys =
    record {
      pool = name_of 30 (text_at 0 places);
      low = number_of 100 (given_for (Pool MigratePool) (codes "LOWMIG") keys);
    }

-- RECLAIM STGPOOL: from this percentage on, or from the pool's RECLAIM.
abbrev pub reclamation : List Given → List Given → Reclamation
reclamation places keys =
    record {
      pool = name_of 30 (text_at 0 places);
      threshold = number_of 100 (given_for (Pool ReclaimPool) (codes "THRESHOLD") keys);
    }

-- BACKUP STGPOOL: from a primary pool to a copy pool.
abbrev pub pool_backup : List Given → List Given → PoolBackup
pool_backup places keys =
    record {
      primary = name_of 30 (text_at 0 places);
      copy = name_of 30 (text_at 1 places);
    }

-- QUERY STGPOOL: one pool, or all.
abbrev pub pool_query : List Given → List Given → PoolQuery
pool_query places keys =
    record {
      pool = name_if 30 (text_at 0 places);
    }
