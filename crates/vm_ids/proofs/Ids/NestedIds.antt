-- How deep the values of ids nest.
use Rattle.std.proofs.Common.{ℕ, ◌≤◌, ◌∷◌, [], Option, Some, None, codes, refl, ap, arith}
use Rattle.serde_json.specs.Data.{Data, depth}
use Rattle.vm_ranges.proofs.FieldSteps.{field_map}
use Rattle.vm_ranges.proofs.Nesting.{object_within, number_within, whole_flat, list_within}
use Rattle.vm_ids.specs.Ids.{IdState}
use Rattle.vm_ids.specs.Values.IdValues.{EncodesNext, EncodesNumber, EncodesIds}

next_nests : (d : Data) (next : Option ℕ) → EncodesNext d next → depth d ≤ 1
next_nests d None p = let e = ap depth p in omega (arith, e)
next_nests d (Some n) p = let e = whole_flat d n p in omega (arith, e)

pub ids_nest : (d : Data) (state : IdState) → EncodesIds d state → depth d ≤ 2
ids_nest d state p =
    let f = p.written in
    object_within 1 (codes "range_base" ∷ codes "next_id" ∷ codes "range_end" ∷ codes "freed_ids" ∷ []) d
    ((refl, (refl, (refl, tt))), ((refl, (refl, tt)), ((refl, tt), (tt, tt)))) f.four_fields (
      number_within 1 _ (codes "range_base") d f.range_base,
      (
        field_map (codes "next_id") d _ _ (λ v k. next_nests v p.fields.next_id k) f.next_id,
        (
          number_within 1 _ (codes "range_end") d f.range_end,
          (
            field_map (codes "freed_ids") d _ _
                (λ v k. list_within EncodesNumber 0 (λ w n e. let z = whole_flat w n e in omega (arith, z)) v p.fields.freed_ids k) f.freed_ids,
            tt,
          ),
        ),
      ),
    )
