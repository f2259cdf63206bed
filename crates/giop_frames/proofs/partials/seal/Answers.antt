use Rattle.std.proofs.Common.{◌≡◌, ◌∙◌, ap, sym, ◌-◌, ℕ, length, arith}
use Rattle.std.specs.Int.{w32}
use Rattle.cdr_core.specs.Field.{number_bytes}
use Rattle.giop_frames.proofs.Sealing.{sealed_by, front_is}
use Rattle.giop_frames.proofs.partials.seal.Goals as goal

pub returns : goal.returns
returns c =
    let n : c.into_vec-all.result.len ≡ length c.write_header.new.all = omega (arith, c.into_vec-all.result.ok.0, ap length c.deref_mut.ensures.value, c.write_header.auto.all) in
    sealed_by c.args.order c.args.bytes.items c.deref_mut.result.now c.bytes_of_u32-size.result c.from_vec.result.items
    (c.from_vec.ensures ∙ front_is _ _ _ n ∙ c.write_header.ensures) (c.deref_mut.ensures.value ∙ c.into_vec-all.ensures)
    (c.bytes_of_u32-size.ensures ∙ ap (λ (k : ℕ). number_bytes c.args.order w32 (k - 12)) (c.len.ensures ∙ sym c.deref_mut.ensures.len ∙ ap length (c.deref_mut.ensures.value ∙ c.into_vec-all.ensures)))
    c.requires.header
