-- `map_entry` of `Tenant`: the result is the next entry of the map with its value, by the contracts of `entry_after` and `value_at`; a map
-- that is not live has no entries. No two keys have one element, since the law `maps_are_laid` says that each table of keys is sound.
use Rattle.std.proofs.Common.{◌≡◌, ℕ, ◌+◌, ◌-◌, ◌≤◌, List, take, drop, Option, Some, None, option_map, sym, ap, ap₂, subst, ◌∙◌, arith}
use Rattle.std.specs.Map.{values_of}
use Rattle.bpf_maps.specs.KeyRef.{key_bytes, shown_entry}
use Rattle.bpf_maps.specs.Live.{value_in}
use Rattle.bpf_maps.specs.KeyTable.{occurrences}
use Rattle.ordered_keys.specs.Orders.{next_entry}
use Rattle.tagged_model.specs.declared.shape.MapShape.{MapShape}
use Rattle.tenant.specs.Entry.{NumberedEntry, numbered_entries}
use Rattle.tenant.specs.Kept.{KeptTenant}
use Rattle.tenant.proofs.MapEntries.{next_numbered, none_numbered, numbered_once}
use Rattle.tenant.proofs.StillKept.{kept_in}
use Rattle.tenant.proofs.tenant.Tenant.map_entry.Goals as goal

abbrev some_entry : List ℕ → List ℕ → ℕ → Option NumberedEntry
some_entry key value handle = Some ((key, value), handle)

abbrev no_entry : Option NumberedEntry
no_entry = None

abbrev with_value : List ℕ → KeptTenant → ℕ → List ℕ × ℕ → NumberedEntry
with_value part k map e = ((e.0, value_in part k.live map e.1), e.1)

once_in : (part : List ℕ) (k l : KeptTenant) (map : ℕ)
    → k ≡ l
    → ((p : ℕ) → occurrences p (values_of (numbered_entries part k.live map)) ≤ 1)
    → (p : ℕ) → occurrences p (values_of (numbered_entries part l.live map)) ≤ 1
once_in part k l map same once p =
    subst (λ (k : KeptTenant). occurrences p (values_of (numbered_entries part k.live map)) ≤ 1) same (once p)

pub returns-then-part-ne-PART : goal.returns-then-part-ne-PART
returns-then-part-ne-PART c =
    let k = kept_in c.self.inside in
    record {
      entry = λ whole. absurd (omega (arith, whole, c.if-part-ne-PART.true));
      once =
          once_in c.args.part.now k c.args.self.now c.args.map c.self.view_is
          (numbered_once c.args.part.now k.live c.args.map c.maps_are_laid.ensures.sound);
    }

pub returns-then-not-is_live : goal.returns-then-not-is_live
returns-then-not-is_live c =
    let k = kept_in c.self.inside in
    let part = c.args.part.now in
    let map = c.args.map in
    record {
      entry = λ _.
          subst (λ (k : KeptTenant). no_entry ≡ next_entry c.args.after (numbered_entries part k.live map))
          c.self.view_is
          (none_numbered part k.live map c.args.after (sym c.is_live.ensures ∙ c.if-not-is_live.true));
      once =
          once_in part k c.args.self.now map c.self.view_is
          (numbered_once part k.live map c.maps_are_laid.ensures.sound);
    }

pub returns-in_default : goal.returns-in_default
returns-in_default c =
    let k = kept_in c.self.inside in
    let part = c.args.part.now in
    let map = c.args.map in
    record {
      entry = λ _.
          subst (λ (k : KeptTenant). no_entry ≡ next_entry c.args.after (numbered_entries part k.live map))
          c.self.view_is
          (ap (option_map (with_value part k map))
          (ap (option_map shown_entry) (sym c.in_default.is) ∙ c.entry_after.ensures.entry)
          ∙ sym (next_numbered part k.live map c.args.after));
      once =
          once_in part k c.args.self.now map c.self.view_is
          (numbered_once part k.live map c.maps_are_laid.ensures.sound);
    }

pub returns : goal.returns
returns c =
    let k = kept_in c.self.inside in
    let part = c.args.part.now in
    let map = c.args.map in
    let e = c.in-Some.entry in
    let start = c.value_at-start.result in
    let size = c.shape-size.result.value_size in
    let n : (start + size) - start ≡ size = omega arith in
    let lent : take ((start + size) - start) (drop start part) ≡ value_in part k.live map e.1 =
    ap₂ (λ (count from : ℕ). take count (drop from part))
    (n ∙ ap (λ (s : MapShape). s.value_size) c.shape-size.ensures)
    c.value_at-start.ensures.offset in
    record {
      entry = λ _.
          subst (λ (k : KeptTenant).
          some_entry (key_bytes e.0) (take ((start + size) - start) (drop start part)) e.1
          ≡ next_entry c.args.after (numbered_entries part k.live map))
          c.self.view_is
          (ap (λ (value : List ℕ). some_entry (key_bytes e.0) value e.1) lent
          ∙ ap (option_map (with_value part k map))
          (ap (option_map shown_entry) (sym c.in-Some.is) ∙ c.entry_after.ensures.entry)
          ∙ sym (next_numbered part k.live map c.args.after));
      once =
          once_in part k c.args.self.now map c.self.view_is
          (numbered_once part k.live map c.maps_are_laid.ensures.sound);
    }
