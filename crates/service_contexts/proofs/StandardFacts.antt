-- Contexts and policy values, byte by byte: CORBA 3.0.3, section 15.3.3.
use Rattle.std.proofs.Common.{◌≡◌, [], ◌∷◌, refl}
use Rattle.orb_base.specs.declared.order.Order.TheVariants.{Big, Little}
use Rattle.orb_base.specs.declared.priority_model.PriorityModel.TheVariants.{ClientPropagated}
use Rattle.cdr_core.specs.Field.{number_bytes}
use Rattle.cdr_core.specs.Encapsulation.{encapsulation}
use Rattle.service_contexts.specs.Layout.{priority_fields, band_fields, model_fields, bands_fields}

-- the priority 100 in either order
priority_big : encapsulation Big (priority_fields 100) ≡ 0 ∷ 0 ∷ 0 ∷ 100 ∷ []
unfolding number_bytes
priority_big = refl

priority_little : encapsulation Little (priority_fields 100) ≡ 1 ∷ 0 ∷ 100 ∷ 0 ∷ []
unfolding number_bytes
priority_little = refl

-- the range 100 to 200
range_big : encapsulation Big (band_fields (record { low = 100; high = 200 })) ≡ 0 ∷ 0 ∷ 0 ∷ 100 ∷ 0 ∷ 200 ∷ []
unfolding number_bytes
range_big = refl

-- CLIENT_PROPAGATED at 100
model_big : encapsulation Big (model_fields (ClientPropagated, 100)) ≡ 0 ∷ 0 ∷ 0 ∷ 0 ∷ 0 ∷ 0 ∷ 0 ∷ 0 ∷ 0 ∷ 100 ∷ []
unfolding number_bytes
model_big = refl

-- the bands 0 to 99 and 100 to 200
bands_big : encapsulation Big (bands_fields (record { low = 0; high = 99 } ∷ record { low = 100; high = 200 } ∷ []))
    ≡ 0 ∷ 0 ∷ 0 ∷ 0 ∷ 0 ∷ 0 ∷ 0 ∷ 2 ∷ 0 ∷ 0 ∷ 0 ∷ 99 ∷ 0 ∷ 100 ∷ 0 ∷ 200 ∷ []
unfolding number_bytes
bands_big = refl
