use Rattle.std.proofs.Common.{◌≡◌, take, arith, refl}
use Rattle.std.proofs.lemmas.List.{take_all}
use Rattle.bsa_descriptor.specs.Descriptor.{spelling}
use Rattle.bsa_descriptor.proofs.SpellingLemmas.{spelling_once}
use Rattle.bsa_descriptor.proofs.descriptor.Descriptor.encode_into.Goals as goal

pub returns-clause-spelled : goal.returns-clause-spelled
unfolding spelling
returns-clause-spelled c =
    let whole : take 2624 c.write_zeros.new.into ≡ c.write_zeros.new.into = take_all 2624 c.write_zeros.new.into (omega arith) in
    rw (
      ← whole,
      c.write_zeros.ensures.written,
      c.write_text-7.ensures.written,
      c.write_text-6.ensures.written,
      c.write_text-5.ensures.written,
      c.write_bytes-3.ensures.written,
      c.write_bytes-2.ensures.written,
      c.write_bytes.ensures.written,
      c.code-3.ensures,
      c.code-2.ensures,
      c.code.ensures,
      c.write_number-4.ensures.written,
      c.write_number-3.ensures.written,
      c.write_number-2.ensures.written,
      c.write_number.ensures.written,
      c.write_text-4.ensures.written,
      c.write_text-3.ensures.written,
      c.write_text-2.ensures.written,
      c.write_text.ensures.written,
    ) refl

pub returns-clause-descriptor : goal.returns-clause-descriptor
returns-clause-descriptor c = record {
  bsa_owner = c.write_text.ensures.text;
  app_owner = c.write_text-2.ensures.text;
  space = c.write_text-3.ensures.text;
  path = c.write_text-4.ensures.text;
  create_time = c.write_number.ensures.number;
  copy = c.write_number-2.ensures.number;
  restore_order = c.write_number-3.ensures.number;
  estimated_size = c.write_number-4.ensures.number;
  resource = c.write_text-5.ensures.text;
  description = c.write_text-6.ensures.text;
  info = c.write_text-7.ensures.text;
}

pub returns-clause-no_other : goal.returns-clause-no_other
returns-clause-no_other c d is e =
    spelling_once c.write_zeros.new.into c.args.self.now d (omega arith) (returns-clause-descriptor c) is (returns-clause-spelled c) e
