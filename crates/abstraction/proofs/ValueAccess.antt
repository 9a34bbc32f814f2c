-- Loads and stores within the values of maps.
use Rattle.std.proofs.Common.{ℕ, zero, suc, ◌/◌, ◌<◌, ◌^◌, length, sym, ap, subst, arith, pos, ◌+ℤ◌, ◌≤ℤ◌}
use Rattle.words.specs.Bytes.{number_of, low_bytes, AreBytes}
use Rattle.words.specs.ByteLaws.{length-low_bytes, number_below}
use Rattle.words.specs.Stack.{bytes_of}
use Rattle.tagged_model.specs.declared.value.Tagged.TheVariants.{Scalar}
use Rattle.tagged_model.specs.Cells.{widened, number_from}
use Rattle.abstraction.specs.Laws.{ValueLoadAdmits, ValueStoreAdmits}
use Rattle.abstraction.proofs.Numbers.{widened_is}
use Rattle.abstraction.proofs.Objects.{object_read, object_over}

-- ---- bytes and numbers

low_bytes_small : (n x : ℕ) → AreBytes (low_bytes n x)
low_bytes_small zero x k d lt = absurd (omega arith)
low_bytes_small (suc n) x zero d lt = omega arith
low_bytes_small (suc n) x (suc k) d lt = low_bytes_small n (x / 256) k d (omega arith)

-- ---- loads and stores

-- a load within an object gives a value of the predicted kind
pub value_loaded : ValueLoadAdmits
value_loaded witness s m number shape y size signed proper object low high =
    let h = object_read s m number shape proper object y (bytes_of size) low high in
    let small : number_of h.0 < 256 ^ bytes_of size =
    subst (λ n. number_of h.0 < 256 ^ n) h.2 (number_below h.0 (λ i below. h.3 i 0 below)) in (
      Scalar (widened size signed (number_of h.0)),
      ap (number_from size signed) h.1,
      widened_is witness size signed (number_of h.0) small,
    )

-- a store of a number within an object changes no fact
pub value_stored : ValueStoreAdmits
value_stored witness f shapes s m number shape y size n still object low high =
    let bs = low_bytes (bytes_of size) n in
    let fits : (y +ℤ pos (length bs)) ≤ℤ pos shape.value_size =
    subst (λ k. (y +ℤ pos k) ≤ℤ pos shape.value_size) (sym (length-low_bytes (bytes_of size) n)) high in
    let h =
    object_over s m number shape still.proper object witness f shapes y bs still.admits still.maps
    (low_bytes_small (bytes_of size) n) low fits in
    (h.0, h.1, record { admits = h.2; proper = h.3; maps = h.4 }, h.5)
