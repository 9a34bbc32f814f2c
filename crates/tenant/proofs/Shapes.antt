-- The shape with the fields of a command.
use Rattle.std.proofs.Common.{◌≡◌, ℕ, Bool, true, false, Option, Some, None, IsTrue, Result, Ok, Err, refl, sym, ap, subst}
use Rattle.std.specs.Prelude.{◌==◌, ◌&&◌, if◌then◌else◌}
use Rattle.std.proofs.Props.{props}
use Rattle.tagged_model.specs.declared.shape.MapKind.{MapKind}
use Rattle.tagged_model.specs.declared.shape.MapShape.{MapShape}
use Rattle.tagged_model.specs.declared.shape.ShapeFault.{ShapeFault}
use Rattle.tagged_model.specs.declared.shape.ShapeFault.TheVariants as fault
use Rattle.tagged_model.specs.Shape.{is_shape, shape_fault, has_key, is_from_to, fits}
use Rattle.tenant.specs.declared.errno.Errno.{Errno}
use Rattle.tenant.specs.declared.errno.Errno.TheVariants.{Invalid}
use Rattle.tenant.specs.Machine.{shape_where, asked_shape}

IsTrue-prop : (b : Bool) → IsProp (IsTrue b)
IsTrue-prop b = hlevel props

-- a shape is determined by its fields
same_shape : (s : MapShape) (kind : MapKind) (key value max : ℕ)
    → s.kind ≡ kind → s.key_size ≡ key
    → s.value_size ≡ value → s.max_entries ≡ max
    → (listed : IsTrue (is_shape kind key value max))
    → record { kind = kind; key_size = key; value_size = value; max_entries = max; listed = listed } ≡ s
same_shape s kind key value max kind_is key_is value_is max_is =
    let at_all : (listed : IsTrue (is_shape s.kind s.key_size s.value_size s.max_entries))
    → record { kind = s.kind; key_size = s.key_size; value_size = s.value_size; max_entries = s.max_entries; listed = listed }
    ≡ s =
    λ listed.
    ap (λ (h : IsTrue (is_shape s.kind s.key_size s.value_size s.max_entries)).
    record { kind = s.kind; key_size = s.key_size; value_size = s.value_size; max_entries = s.max_entries; listed = h })
    (IsTrue-prop (is_shape s.kind s.key_size s.value_size s.max_entries) listed s.listed) in
    subst (λ (n : ℕ).
    (listed : IsTrue (is_shape kind key value n))
    → record { kind = kind; key_size = key; value_size = value; max_entries = n; listed = listed } ≡ s)
    max_is
    (subst (λ (n : ℕ).
    (listed : IsTrue (is_shape kind key n s.max_entries))
    → record { kind = kind; key_size = key; value_size = n; max_entries = s.max_entries; listed = listed } ≡ s)
    value_is
    (subst (λ (n : ℕ).
    (listed : IsTrue (is_shape kind n s.value_size s.max_entries))
    → record { kind = kind; key_size = n; value_size = s.value_size; max_entries = s.max_entries; listed = listed } ≡ s)
    key_is
    (subst (λ (x : MapKind).
    (listed : IsTrue (is_shape x s.key_size s.value_size s.max_entries))
    → record {
      kind = x;
      key_size = s.key_size;
      value_size = s.value_size;
      max_entries = s.max_entries;
      listed = listed;
    }
    ≡ s)
    kind_is at_all)))

abbrev fault_of : Bool → Bool → Bool → Option ShapeFault
fault_of limits flags fits = if limits && flags then (if fits then None else Some fault.TooBig) else Some fault.Invalid

abbrev asked : (limits flags fits : Bool) → (((limits && true) && fits) ≡ true → MapShape) → Result MapShape Errno
asked limits flags fits shape = if limits && flags then shape_where ((limits && true) && fits) shape else Err Invalid

asked_ok : (limits flags fits : Bool) (shape : ((limits && true) && fits) ≡ true → MapShape) (s : MapShape)
    → fault_of limits flags fits ≡ None
    → ((e : ((limits && true) && fits) ≡ true) → shape e ≡ s)
    → Ok s ≡ asked limits flags fits shape
asked_ok true true true shape s e same = ap Ok (sym (same refl))
asked_ok true true false shape s e same = absurd (let wrong : Some fault.TooBig ≡ None = e in cc wrong)
asked_ok true false fits shape s e same = absurd (let wrong : Some fault.Invalid ≡ None = e in cc wrong)
asked_ok false flags fits shape s e same = absurd (let wrong : Some fault.Invalid ≡ None = e in cc wrong)

abbrev in_limits : MapKind → ℕ → ℕ → ℕ → Bool
in_limits kind key value max = (has_key kind key && is_from_to 1 4096 value) && is_from_to 1 4096 max

-- if the fields of a command have no fault, the shape with these fields is the one that it asks for
pub shape_ok : (kind : MapKind) (key value max flags : ℕ) (s : MapShape)
    → shape_fault kind key value max flags ≡ None
    → (s.kind ≡ kind) × (s.key_size ≡ key) × (s.value_size ≡ value) × (s.max_entries ≡ max)
    → Ok s ≡ asked_shape (Some kind) key value max flags
shape_ok kind key value max flags s none (kind_is, key_is, value_is, max_is) =
    asked_ok (in_limits kind key value max) (flags == 0) (fits value max)
    (λ listed. record { kind = kind; key_size = key; value_size = value; max_entries = max; listed = listed })
    s none
    (same_shape s kind key value max kind_is key_is value_is max_is)
