-- A host in memory as its callers see it.
use Rattle.std.specs.Prelude.{◌≡◌, ◌≢◌, Result, Ok, Err, ℕ, ◌+◌, ◌-◌, ◌^◌, min, Bool, IsTrue, true, false, ◌||◌, nat_lt, nat_eq, List, map, length, is_some, string_bytes}
use Rattle.std.specs.Option.{option_map_or}
use Rattle.std.specs.declared.alloc.Global.{Global}
use Rattle.std.specs.declared.string.String.{String}
use Rattle.conda_host.specs.declared.outside.Role.{Role}
use Rattle.conda_host.specs.declared.outside.HostFailed.{HostFailed}
use Rattle.conda_host.specs.declared.memory.MemoryHost.{MemoryHost}
use Rattle.conda_host.specs.Counts.{CountsCall}
use Rattle.conda_host.specs.State.{HostState}
use Rattle.conda_host.specs.Memory.{Input, File, input_at, is_among, created_at, files_seen, own_file, room_of, role_slot, host_state, stands_in}

abbrev pub memory_state : MemoryHost → HostState
memory_state m = host_state m.inputs.items (files_seen m.outputs.items) m.slots

-- it tells, its files are the inputs, no role is opened or created, and no call failed
pub record IsStart (state : HostState) (inputs : List Input) : Type 0 where
  pub tells : IsTrue state.tells
  pub files : (n : List ℕ) → state.file n ≡ input_at inputs n
  pub opened : (r : Role) → (state.role r).opened ≡ false
  pub created : (r : Role) → (state.role r).created ≡ false
  pub faults : (r : Role) (n : List ℕ) → state.faults r n ≡ 0

-- what a host in memory was made with, and how many of its calls there were
pub record HostRules : Type 0 where
  pub inputs : List Input
  pub places : List (List ℕ × ℕ)
  pub most : ℕ
  pub failing : List ℕ
  pub calls : ℕ

-- the outputs' names, each with its room
abbrev pub rooms_of : List File → List (List ℕ × ℕ)
rooms_of files = map (λ f. (f.name, f.room)) files

abbrev pub rules_of : MemoryHost → HostRules
rules_of m = record {
  inputs = m.inputs.items;
  places = rooms_of (files_seen m.outputs.items);
  most = m.most;
  failing = m.failing.items;
  calls = m.calls;
}

-- the rules of a host that is made of these
abbrev pub rules_made : List Input → List (String Global) → ℕ → ℕ → List ℕ → HostRules
rules_made inputs outputs room most failing = record {
  inputs = inputs;
  places = map (λ name. (string_bytes name, room)) outputs;
  most = most;
  failing = failing;
  calls = 0;
}

-- after one more call
abbrev pub called : HostRules → HostRules
called r = record r { calls = min (r.calls + 1) (2 ^ 64 - 1) }

-- the next call is one of those that fail
abbrev pub fails_next : MemoryHost → Bool
fails_next m = stands_in m.failing.items (min (m.calls + 1) (2 ^ 64 - 1))

-- how many bytes more the role's file holds
abbrev pub room_left : MemoryHost → Role → ℕ
room_left m r =
    option_map_or room_of (own_file (files_seen m.outputs.items) (role_slot m.slots r).output r) 0

-- the role's file takes some of so many bytes, or there are none
abbrev pub has_room_for : MemoryHost → Role → ℕ → Bool
has_room_for m r len = nat_lt 0 (room_left m r) || nat_eq len 0

-- how many bytes a call reads into a buffer of this length, and how many it writes of a piece
abbrev pub read_count : MemoryHost → Role → ℕ → ℕ
read_count m r len = min (min (length ((memory_state m).role r).left) len) m.most

abbrev pub write_count : MemoryHost → Role → ℕ → ℕ
write_count m r len = min (min len m.most) (room_left m r)

-- an input has that name, or an output
abbrev pub is_input : MemoryHost → List ℕ → Bool
is_input m n = is_some (input_at m.inputs.items n)

abbrev pub is_output : MemoryHost → List ℕ → Bool
is_output m n = is_among (map (λ place. place.0) (rules_of m).places) n

-- an output of that name was created
abbrev pub was_created : MemoryHost → List ℕ → Bool
was_created m n = created_at (files_seen m.outputs.items) n

-- a call was counted, and its failure
pub record Serves {A : Type 0} (old new : MemoryHost) (role : Role) (result : Result A HostFailed)
    : Type 0 where
  pub counts : CountsCall (memory_state old) (memory_state new) role result
  pub rules : rules_of new ≡ called (rules_of old)

-- no other role has the name
pub record TakesName (new : HostState) (role : Role) (given : List ℕ) : Type 0 where
  pub alone : (r : Role) → r ≢ role → IsTrue (new.role r).created → (new.role r).name ≢ given

-- a call succeeds exactly so, and then it moved so many bytes
abbrev pub Moves : Result ℕ HostFailed → Bool → ℕ → Type 0
Moves (Ok n) works count = (works ≡ true) × (n ≡ count)
Moves (Err fault) works count = works ≡ false
