-- Commands of client nodes and their filespaces.
use Rattle.std.specs.Prelude.{List, codes}
use Rattle.admin_words.specs.declared.nodes.NamedNode.{NamedNode}
use Rattle.admin_words.specs.declared.nodes.NodeRegistration.{NodeRegistration}
use Rattle.admin_words.specs.declared.nodes.NodeFilespace.{NodeFilespace}
use Rattle.admin_words.specs.declared.nodes.FilespaceQuery.{FilespaceQuery}
use Rattle.admin_words.specs.declared.table.Form.TheVariants.{Node}
use Rattle.admin_words.specs.declared.table.NodeForm.TheVariants.{RegisterNode}
use Rattle.admin_words.specs.Grammar.{given_for}
use Rattle.command_words.specs.Rows.{Given, text_at}
use Rattle.command_words.specs.Fields.{name_if, name_of, path_of}

-- A node by its name.
abbrev pub named_node : List Given → List Given → NamedNode
named_node places keys =
    record {
      node = name_of 64 (text_at 0 places);
    }

-- REGISTER NODE. The domain is STANDARD where none is given; the password is not kept.
abbrev pub node_registration : List Given → List Given → NodeRegistration
node_registration places keys =
    record {
      node = name_of 64 (text_at 0 places);
      domain = name_of 30 (given_for (Node RegisterNode) (codes "DOMAIN") keys);
    }

-- A filespace by its node and its name.
abbrev pub node_filespace : List Given → List Given → NodeFilespace
node_filespace places keys =
    record {
      node = name_of 64 (text_at 0 places);
      filespace = path_of 64 (text_at 1 places);
    }

-- QUERY FILESPACE: of one node, or of all.
abbrev pub filespace_query : List Given → List Given → FilespaceQuery
filespace_query places keys =
    record {
      node = name_if 64 (text_at 0 places);
    }
