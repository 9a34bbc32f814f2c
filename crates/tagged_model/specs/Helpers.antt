-- The helpers: their numbers and arguments are the kernel's (linux/bpf.h, bpf_func_id); a call is
-- that of RFC 9669, section 4.3.1, and which registers it reads and clobbers is the kernel
-- documentation's calling convention (bpf/standardization/abi.rst). The results of maps are in the
-- definition of a map. No documentation says that a failed load of bytes writes zeros: it is this
-- project's own, and as the kernel does.
use Rattle.std.specs.Prelude.{ℕ, ◌+◌, ◌-◌, ◌%◌, ◌^◌, ◌==◌, ℤ, pos, Bool, ◌&&◌, nat_le, if◌then◌else◌}
use Rattle.std.specs.Prelude.{List, [], ◌∷◌, length, replicate, find, Option, Some, None, Result, Ok, Err}
use Rattle.std.specs.Ordering.{int_eq}
use Rattle.words.specs.Bytes.{bytes_at}
use Rattle.tagged_model.specs.declared.fault.MapFault.{MapFault}
use Rattle.tagged_model.specs.declared.fault.MapFault.TheVariants.{NoEntry, TooBig, Memory, Exists, Invalid, NoSpace}
use Rattle.tagged_model.specs.declared.helper.Helper.{Helper}
use Rattle.tagged_model.specs.declared.helper.Helper.TheVariants.{LookUp, Update, Delete, LoadBytes}
use Rattle.tagged_model.specs.declared.value.Object.TheVariants as object
use Rattle.tagged_model.specs.declared.value.Tagged.{Tagged}
use Rattle.tagged_model.specs.declared.value.Tagged.TheVariants.{Scalar, Map, Pointer}
use Rattle.tagged_model.specs.Table.{Verdict, Refused, Present, New, look_up, verdict, removal, with_new, with_deleted}
use Rattle.tagged_model.specs.Cells.{and_then}
use Rattle.tagged_model.specs.State.{RunState, RunMap, set_at, with_value, input, output, with_map}

-- the helper's number in bpf_func_id
abbrev pub id_of : Helper → ℕ
id_of LookUp = 1
id_of Update = 2
id_of Delete = 3
id_of LoadBytes = 26

-- all helpers
unfoldable pub known_helpers : List Helper
known_helpers = LookUp ∷ Update ∷ Delete ∷ LoadBytes ∷ []

-- the helper with this number; None if there is none
abbrev pub helper_of : ℤ → Option Helper
helper_of id = find (λ h. int_eq id (pos (id_of h))) known_helpers

-- ---- results

-- the kernel's number of each error, which a helper returns negated, modulo 2 ^ 64; no helper
-- returns those of `Memory` and `NoSpace`, which only the creation of a map has
abbrev pub errno : MapFault → ℕ
errno NoEntry = 2
errno TooBig = 7
errno Memory = 12
errno Exists = 17
errno Invalid = 22
errno NoSpace = 28

-- EFAULT, the number of the error if the bytes to load lie outside the packet
abbrev pub outside : ℕ
outside = 14

-- the number n of an error, which is not 0, negated modulo 2 ^ 64
abbrev pub negative : ℕ → ℕ
negative n = 2 ^ 64 - n

-- the result of an update or a delete, which register 0 gets, and the map after it
pub record MapReply : Type 0 where
  pub answer : ℕ
  pub map : RunMap

-- the reply of a call that fails: the negated error, and the map unchanged
abbrev pub fails_by : MapFault → RunMap → MapReply
fails_by fault t = record { answer = negative (errno fault); map = t }

-- the reply of an update or a delete that succeeds: 0, and the map after it
abbrev pub succeeds : RunMap → MapReply
succeeds t = record { answer = 0; map = t }

-- ---- the calls of a map

-- the result of a look-up in the map of descriptor m, from the number of the object that it found:
-- a pointer to the object's start, or null if the key is absent
abbrev pub looked_up : ℕ → Option ℕ → Tagged
looked_up m None = Scalar 0
looked_up m (Some number) = Pointer (object.Value m number) (pos 0)

-- the map with a new key and its new object, which has the bytes `value`; the object's number is
-- the `count` of the objects that the map had until then
abbrev pub with_object : RunMap → List ℕ → List ℕ → RunMap
with_object t key value = record {
  table = with_new t.table key t.count;
  count = t.count + 1;
  values = set_at t.values t.count value;
}

-- the map without a key; the deleted object keeps its bytes
abbrev pub without_key : RunMap → List ℕ → RunMap
without_key t key = record t { table = with_deleted t.table key }

-- the reply of an update with this verdict: a refused update fails, the value of a present key is
-- written in place, a new key gets a new object
abbrev pub put : RunMap → List ℕ → List ℕ → Verdict ℕ → MapReply
put t key value (Refused fault) = fails_by fault t
put t key value (Present number) = succeeds (with_value t number value)
put t key value New = succeeds (with_object t key value)

-- the reply of an update of map t with a key, a value and flags: the result for register 0, and the
-- map after the update, which is t if the update fails
abbrev pub updated : RunMap → List ℕ → List ℕ → ℕ → MapReply
updated t key value flags = put t key value (verdict t.table key flags)

-- the reply of a delete, from the object to delete or the error
abbrev pub taken_out : RunMap → List ℕ → Result ℕ MapFault → MapReply
taken_out t key (Err fault) = fails_by fault t
taken_out t key (Ok number) = succeeds (without_key t key)

-- the reply of a delete in a map
abbrev pub removed : RunMap → List ℕ → MapReply
removed t key = taken_out t key (removal t.table key)

-- ---- bytes of the packet

-- n bytes at an offset lie in the packet; the offset is read as a signed number of 32 bits, and a
-- negative one, from 2 ^ 31 on, is in no packet
abbrev pub is_in_packet : List ℕ → ℕ → ℕ → Bool
is_in_packet packet offset n =
    nat_le (offset % 2 ^ 32) (2 ^ 31 - 1) && nat_le (offset % 2 ^ 32 + n) (length packet)

-- the bytes that a load of n bytes at an offset of the packet writes: those of the packet, or zeros
-- if they don't all lie in it (`is_in_packet`)
abbrev pub packet_bytes : List ℕ → ℕ → ℕ → List ℕ
packet_bytes packet offset n =
    if is_in_packet packet offset n then bytes_at packet (offset % 2 ^ 32) n else replicate n 0

-- the result of a load of n bytes of the packet: 0, or EFAULT negated
abbrev pub packet_result : List ℕ → ℕ → ℕ → ℕ
packet_result packet offset n = if is_in_packet packet offset n then 0 else negative outside

-- ---- arguments: what a register's value is, if it is what the helper requires

-- the number that the value of a helper's argument is, as an update's flags or the offset of a load
-- of bytes; None, which makes the call a fault, if the value is a map or a pointer
abbrev pub number_given : Tagged → Option ℕ
number_given (Scalar n) = Some n
number_given _ = None

-- the length that a call of `LoadBytes` is given by the value of its last argument: the number of
-- bytes to load, any but 0. None if the value is 0, a map or a pointer; the call is then a fault.
-- Whether the object that is written to has room for so many bytes is tested by `output`, not here
abbrev pub length_given : Tagged → Option ℕ
length_given (Scalar n) = if n == 0 then None else Some n
length_given _ = None

-- for an argument that must be a map, as the first one of a look-up, an update or a delete: the
-- map's descriptor m, if the value is a map; None, which makes the call a fault, if the value is a
-- number or a pointer
abbrev pub map_given : Tagged → Option ℕ
map_given (Map m) = Some m
map_given _ = None

-- whether the value of a helper's argument is the context, as the first argument of `LoadBytes`
-- (bpf_skb_load_bytes) has to be: Some, without content, if it is a pointer to the first byte of
-- the context (its offset x is 0); None, which makes the call a fault, for any other value
abbrev pub context_given : Tagged → Option (Unit {0})
context_given (Pointer object.Context x) = if int_eq x (pos 0) then Some tt else None
context_given _ = None

-- the argument in register r, as `given` reads it from the register's value; None if the register
-- is empty, or `given` rejects its value
abbrev pub argument : {A : Type 0} → RunState → ℕ → (Tagged → Option A) → Option A
argument s r given = and_then (s.registers r) given

-- a map that is an argument, and its descriptor
pub record GivenMap : Type 0 where
  pub descriptor : ℕ
  pub map : RunMap

-- the map in register r, and its descriptor; None if the register has no map, or the run has none
-- of this descriptor
abbrev pub map_argument : RunState → ℕ → Option GivenMap
map_argument s r =
    and_then (argument s r map_given)
    (λ m. and_then (s.maps m) (λ t. Some (record { descriptor = m; map = t })))

-- ---- the calls

-- register r after a call with result v, which register 0 has; registers 1 to 5 are empty, the
-- others unchanged
abbrev pub after_call : (ℕ → Option Tagged) → Tagged → ℕ → Option Tagged
after_call registers v r = if r == 0 then Some v else (if nat_le r 5 then None else registers r)

-- the state after a call with result v: register 0 has v, and registers 1 to 5 are empty
abbrev pub returns : RunState → Tagged → RunState
returns s v = record s { registers = after_call s.registers v }

-- the state after a call of a helper on map m with this reply: map m is the reply's map, and
-- register 0 has its result
abbrev pub replies : RunState → ℕ → MapReply → RunState
replies s m reply = returns (with_map s m reply.map) (Scalar reply.answer)

-- the state after a call of a helper; None, a fault, if an argument is not what is listed here, or
-- the bytes at a pointer do not all lie in its object or, to be read, are not all present. The
-- arguments, from register 1 on: a map, a pointer to a key, and for an update a pointer to a value
-- and the flags; for a load of bytes the context, an offset in the packet, a pointer to write to,
-- and a length
abbrev pub called : Helper → RunState → Option RunState
called LookUp s =
    and_then (map_argument s 1) (λ g.
    and_then (argument s 2 (λ p. input s p g.map.table.shape.key_size)) (λ key.
    Some (returns s (looked_up g.descriptor (look_up g.map.table key)))))
called Update s =
    and_then (map_argument s 1) (λ g.
    and_then (argument s 2 (λ p. input s p g.map.table.shape.key_size)) (λ key.
    and_then (argument s 3 (λ p. input s p g.map.table.shape.value_size)) (λ value.
    and_then (argument s 4 number_given) (λ flags.
    Some (replies s g.descriptor (updated g.map key value flags))))))
called Delete s =
    and_then (map_argument s 1) (λ g.
    and_then (argument s 2 (λ p. input s p g.map.table.shape.key_size)) (λ key.
    Some (replies s g.descriptor (removed g.map key))))
called LoadBytes s =
    and_then (argument s 1 context_given) (λ c.
    and_then (argument s 2 number_given) (λ offset.
    and_then (argument s 4 length_given) (λ n.
    and_then (argument s 3 (λ p. output s p (packet_bytes s.packet offset n))) (λ t.
    Some (returns t (Scalar (packet_result s.packet offset n)))))))
