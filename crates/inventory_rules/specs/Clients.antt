-- Changes of the nodes and their filespaces: why they are refused, what they make of the rows, how many items they bring, and what making them asks.
use Rattle.std.specs.Prelude.{◌-◌, ◌^◌, ◌==◌, is_some, List, [], ◌++◌, ◌+◌, max, Bool, true, false, ⊤, ◌<◌, IsOk}
use Rattle.kinds.specs.Refusals.{unless, bad_value, refusal_of}
use Rattle.kinds.specs.declared.change.DefineOrDelete.TheVariants as two
use Rattle.kinds.specs.declared.change.ObjectChange.{ObjectChange}
use Rattle.kinds.specs.declared.change.ObjectChange.TheVariants as client
use Rattle.kinds.specs.declared.refusal.Refusal.{Refusal}
use Rattle.kinds.specs.declared.refusal.Refusal.TheVariants as refusal
use Rattle.inventory_rows.specs.policy_domains.Rows.{row_of}
use Rattle.inventory_rows.specs.object_rows.Changes.{rows_changed, HasFreeNumber}
use Rattle.inventory_rows.specs.State.{Inv}
use Rattle.inventory_rules.specs.Common.{full_at, or_same}

-- ---- refused

abbrev pub client_bounds : ObjectChange → Inv → List Refusal
client_bounds (client.Node two.Define name domain) v = unless (is_some (row_of domain v.domains)) refusal.NotFound ++ full_at v.next_node (2 ^ 32 - 1)
client_bounds (client.Node two.Delete name domain) v = []
client_bounds (client.Filespace two.Define node name filespace) v = unless (filespace == v.next_filespace) bad_value ++ full_at v.next_filespace (2 ^ 32 - 1)
client_bounds (client.Filespace two.Delete node name filespace) v = []

abbrev pub client_refused : ObjectChange → Inv → List Refusal
client_refused c v = refusal_of (rows_changed c v.next_node v.clients) ++ client_bounds c v

-- ---- effect

abbrev pub drawn_for_client : ObjectChange → Inv → Inv
drawn_for_client (client.Node two.Define name domain) v = record v { next_node = v.next_node + 1 }
drawn_for_client (client.Node two.Delete name domain) v = v
drawn_for_client (client.Filespace two.Define node name filespace) v = record v { next_filespace = max v.next_filespace (filespace + 1) }
drawn_for_client (client.Filespace two.Delete node name filespace) v = v

abbrev pub client_changed : ObjectChange → Inv → Inv
client_changed c v = drawn_for_client c (record v { clients = or_same v.clients (rows_changed c v.next_node v.clients) })

-- ---- items

abbrev pub is_new_client : ObjectChange → Bool
is_new_client (client.Node two.Define name domain) = true
is_new_client (client.Node two.Delete name domain) = false
is_new_client (client.Filespace two.Define node name filespace) = true
is_new_client (client.Filespace two.Delete node name filespace) = false

-- ---- made

-- the number behind one that is drawn for a client has a place in four bytes
abbrev pub HasNextClient : ObjectChange → Inv → Type 0
HasNextClient (client.Node two.Define name domain) v = v.next_node + 1 < 2 ^ 32
HasNextClient (client.Node two.Delete name domain) v = ⊤
HasNextClient (client.Filespace two.Define node name filespace) v = filespace + 1 < 2 ^ 32
HasNextClient (client.Filespace two.Delete node name filespace) v = ⊤

-- a change of the nodes and filespaces isn't refused, and its numbers are free
pub record CanClients (c : ObjectChange) (v : Inv) : Type 0 where
  pub free : HasFreeNumber c v.next_node v.clients
  pub made : IsOk (rows_changed c v.next_node v.clients)
  pub next : HasNextClient c v
