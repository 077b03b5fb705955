-- Commands of policy: domains, policy sets, management classes and copy groups.
use Rattle.std.specs.Prelude.{List, codes, unwrap_or}
use Rattle.admin_words.specs.declared.policy.NamedDomain.{NamedDomain}
use Rattle.admin_words.specs.declared.policy.DomainDefinition.{DomainDefinition}
use Rattle.admin_words.specs.declared.policy.DomainUpdate.{DomainUpdate}
use Rattle.admin_words.specs.declared.policy.NamedSet.{NamedSet}
use Rattle.admin_words.specs.declared.policy.NamedClass.{NamedClass}
use Rattle.admin_words.specs.declared.policy.GroupDefinition.{GroupDefinition}
use Rattle.admin_words.specs.declared.policy.GroupUpdate.{GroupUpdate}
use Rattle.admin_words.specs.declared.policy.ArchiveDefinition.{ArchiveDefinition}
use Rattle.admin_words.specs.declared.policy.ArchiveUpdate.{ArchiveUpdate}
use Rattle.admin_words.specs.declared.words.Mode.TheVariants.{Modified}
use Rattle.kinds.specs.declared.rule.Still.TheVariants.{ShrStatic}
use Rattle.kinds.specs.declared.rule.Limit.TheVariants.{At}
use Rattle.admin_words.specs.declared.table.Form.TheVariants.{Class, Policy}
use Rattle.admin_words.specs.declared.table.ClassForm.TheVariants.{DefineArchiveGroup, DefineGroup, UpdateArchiveGroup, UpdateGroup}
use Rattle.admin_words.specs.declared.table.PolicyForm.TheVariants.{DefineDomain, UpdateDomain}
use Rattle.admin_words.specs.Grammar.{given_for}
use Rattle.command_words.specs.Rows.{Given, text_at}
use Rattle.command_words.specs.Fields.{limit_of, name_if, name_of, number_of}
use Rattle.admin_words.specs.Chosen.{mode_of, still_of}

-- A domain by its name.
abbrev pub named_domain : List Given → List Given → NamedDomain
named_domain places keys =
    record {
      domain = name_of 30 (text_at 0 places);
    }

-- DEFINE DOMAIN. BACKRETENTION is 30 days where it is not given.
abbrev pub domain_definition : List Given → List Given → DomainDefinition
domain_definition places keys =
    record {
      domain = name_of 30 (text_at 0 places);
      back_retention = unwrap_or (number_of 9999 (given_for (Policy DefineDomain) (codes "BACKRETENTION") keys)) 30;
    }

-- UPDATE DOMAIN.
abbrev pub domain_update : List Given → List Given → DomainUpdate
domain_update places keys =
    record {
      domain = name_of 30 (text_at 0 places);
      back_retention = unwrap_or (number_of 9999 (given_for (Policy UpdateDomain) (codes "BACKRETENTION") keys)) 30;
    }

-- A policy set by its domain and its name.
abbrev pub named_set : List Given → List Given → NamedSet
named_set places keys =
    record {
      domain = name_of 30 (text_at 0 places);
      set = name_of 30 (text_at 1 places);
    }

-- A management class by its domain, its policy set and its name.
abbrev pub named_class : List Given → List Given → NamedClass
named_class places keys =
    record {
      domain = name_of 30 (text_at 0 places);
      set = name_of 30 (text_at 1 places);
      class = name_of 30 (text_at 2 places);
    }

-- DEFINE COPYGROUP: the copy group of a class, with the usual values where none are given.
abbrev pub group_definition : List Given → List Given → GroupDefinition
group_definition places keys =
    record {
      domain = name_of 30 (text_at 0 places);
      set = name_of 30 (text_at 1 places);
      class = name_of 30 (text_at 2 places);
      destination = name_of 30 (given_for (Class DefineGroup) (codes "DESTINATION") keys);
      frequency = unwrap_or (number_of 9999 (given_for (Class DefineGroup) (codes "FREQUENCY") keys)) 0;
      ver_exists = unwrap_or (limit_of 9999 (given_for (Class DefineGroup) (codes "VEREXISTS") keys)) (At 2);
      ver_deleted = unwrap_or (limit_of 9999 (given_for (Class DefineGroup) (codes "VERDELETED") keys)) (At 1);
      ret_extra = unwrap_or (limit_of 9999 (given_for (Class DefineGroup) (codes "RETEXTRA") keys)) (At 30);
      ret_only = unwrap_or (limit_of 9999 (given_for (Class DefineGroup) (codes "RETONLY") keys)) (At 60);
      mode = unwrap_or (mode_of (given_for (Class DefineGroup) (codes "MODE") keys)) Modified;
      still = unwrap_or (still_of (given_for (Class DefineGroup) (codes "SERIALIZATION") keys)) ShrStatic;
    }

-- UPDATE COPYGROUP: what is not given stays.
abbrev pub group_update : List Given → List Given → GroupUpdate
group_update places keys =
    record {
      domain = name_of 30 (text_at 0 places);
      set = name_of 30 (text_at 1 places);
      class = name_of 30 (text_at 2 places);
      destination = name_if 30 (given_for (Class UpdateGroup) (codes "DESTINATION") keys);
      frequency = number_of 9999 (given_for (Class UpdateGroup) (codes "FREQUENCY") keys);
      ver_exists = limit_of 9999 (given_for (Class UpdateGroup) (codes "VEREXISTS") keys);
      ver_deleted = limit_of 9999 (given_for (Class UpdateGroup) (codes "VERDELETED") keys);
      ret_extra = limit_of 9999 (given_for (Class UpdateGroup) (codes "RETEXTRA") keys);
      ret_only = limit_of 9999 (given_for (Class UpdateGroup) (codes "RETONLY") keys);
      mode = mode_of (given_for (Class UpdateGroup) (codes "MODE") keys);
      still = still_of (given_for (Class UpdateGroup) (codes "SERIALIZATION") keys);
    }

-- DEFINE COPYGROUP with TYPE=ARCHIVE. RETVER is 365 days where it is not given.
abbrev pub archive_definition : List Given → List Given → ArchiveDefinition
archive_definition places keys =
    record {
      domain = name_of 30 (text_at 0 places);
      set = name_of 30 (text_at 1 places);
      class = name_of 30 (text_at 2 places);
      destination = name_of 30 (given_for (Class DefineArchiveGroup) (codes "DESTINATION") keys);
      ret_ver = unwrap_or (limit_of 30000 (given_for (Class DefineArchiveGroup) (codes "RETVER") keys)) (At 365);
    }

-- UPDATE COPYGROUP with TYPE=ARCHIVE: what is not given stays.
abbrev pub archive_update : List Given → List Given → ArchiveUpdate
archive_update places keys =
    record {
      domain = name_of 30 (text_at 0 places);
      set = name_of 30 (text_at 1 places);
      class = name_of 30 (text_at 2 places);
      destination = name_if 30 (given_for (Class UpdateArchiveGroup) (codes "DESTINATION") keys);
      ret_ver = limit_of 30000 (given_for (Class UpdateArchiveGroup) (codes "RETVER") keys);
    }
