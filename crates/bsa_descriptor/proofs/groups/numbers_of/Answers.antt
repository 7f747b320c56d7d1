use Rattle.std.proofs.Common.{◌≡◌, ℕ, refl}
use Rattle.bsa_descriptor.specs.declared.groups.Numbers.{Numbers}
use Rattle.bsa_descriptor.proofs.groups.numbers_of.Goals as goal

abbrev numbers_with : ℕ → ℕ → ℕ → ℕ → Numbers
numbers_with create_time copy order size = record { create_time = create_time; copy = copy; restore_order = order; estimated_size = size }

-- numbers that are the same one by one are the same
same_numbers : (create_time copy order size : ℕ) (numbers : Numbers) → create_time ≡ numbers.create_time → copy ≡ numbers.copy
    → order ≡ numbers.restore_order → size ≡ numbers.estimated_size → numbers_with create_time copy order size ≡ numbers
same_numbers create_time copy order size numbers first second third fourth = rw (first, second, third, fourth) refl

pub returns-clause-only : goal.returns-clause-only
returns-clause-only c numbers at =
    same_numbers c.u64_at.result c.u64_at-2.result c.u64_at-3.result c.u64_at-4.result numbers (c.u64_at.ensures.only numbers.create_time at.create_time)
    (c.u64_at-2.ensures.only numbers.copy at.copy) (c.u64_at-3.ensures.only numbers.restore_order at.restore_order)
    (c.u64_at-4.ensures.only numbers.estimated_size at.estimated_size)
