-- The keys of players may be shared between threads, as a set that keeps an order may where its elements may.
use denote.RattleType.{RattleType}
use denote.Param.Send.{IsSync, sendable}
use Rattle.std.specs.declared.cmp.PartialEq as eq
use Rattle.std.specs.declared.hash.BuildHasher as builder
use Rattle.std.specs.declared.hash.Hash as hash
use Rattle.std.specs.declared.hash.Hasher as hasher
use Rattle.std.specs.contracts.alloc.Global as heap
use Rattle.std.specs.contracts.impls.GlobalAllocator.TheImpl.{ghosts}
use Rattle.std.proofs.Crossing.{crosses, Vec-sync}
use Rattle.indexmap.specs.contracts.columns.Columns as columns
use Rattle.indexmap.specs.contracts.index_table.Bucket as bucket
use Rattle.indexmap.specs.contracts.index_table.IndexTable as table
use Rattle.indexmap.specs.contracts.index_table.group.Group as group
use Rattle.indexmap.specs.contracts.map.IndexMap as map
use Rattle.indexmap.specs.contracts.set.IndexSet as set
use Rattle.setup_file.specs.contracts.keys.Keys as keys
use Rattle.setup_file.specs.contracts.register.Register as register

a_group : IsSync group.the_field.row
a_group = search (sendable, crosses) depth 20

a_bucket : IsSync bucket.the_field.row
a_bucket = search (sendable, crosses) depth 20

a_table : IsSync (table.the_field heap.the_row ghosts).row
a_table = search (sendable, crosses, a_group, a_bucket) depth 20

the_columns : (K V : RattleType) → IsSync K → IsSync V → IsSync (columns.the_field K V heap.the_row ghosts).row
the_columns K V k v = let a = Vec-sync K k in let b = Vec-sync V v in search sendable depth 20

module _ (K V S T : RattleType) (e : eq.Ghosts K.Denot) (h : hash.Ghosts K.Denot) (b : builder.Ghosts S.Denot T.Denot) (w : hasher.Ghosts T.Denot) where
  a_map : IsSync K → IsSync V → IsSync S → IsSync (map.the_field K V S heap.the_row T e h b w ghosts).row
  a_map k v s = let c = the_columns K V k v in let t = a_table in search sendable depth 20

register_sync : IsSync register.the_row
register_sync = search (sendable, crosses) depth 30

pub keys_sync : IsSync keys.the_row
keys_sync = search (sendable, crosses, register_sync) depth 30
