use Rattle.std.proofs.Common.{◌≡◌, take, arith, refl}
use Rattle.std.proofs.lemmas.List.{take_all}
use Rattle.bsa_descriptor.specs.Descriptor.{spelling}
use Rattle.bsa_transcripts.proofs.fields.Fields.encode_into.Goals as goal

pub returns : goal.returns
unfolding spelling
returns c =
    let whole : take 2624 c.write_zeros.new.into ≡ c.write_zeros.new.into = take_all 2624 c.write_zeros.new.into (omega arith) in
    rw (
      ← whole,
      c.write_zeros.ensures.written,
      c.write_text-7.ensures.written,
      c.write_text-6.ensures.written,
      c.write_text-5.ensures.written,
      c.write_bytes-3.ensures.written,
      c.write_bytes-2.ensures.written,
      c.write_bytes.ensures.written,
      c.status_byte.ensures,
      c.object_type_byte.ensures,
      c.copy_type_byte.ensures,
      c.write_u64-4.ensures.written,
      c.write_u64-3.ensures.written,
      c.write_u64-2.ensures.written,
      c.write_u64.ensures.written,
      c.write_text-4.ensures.written,
      c.write_text-3.ensures.written,
      c.write_text-2.ensures.written,
      c.write_text.ensures.written,
      c.as_slice-7.ensures.value,
      c.as_slice-6.ensures.value,
      c.as_slice-5.ensures.value,
      c.as_slice-4.ensures.value,
      c.as_slice-3.ensures.value,
      c.as_slice-2.ensures.value,
      c.as_slice.ensures.value,
    ) refl
