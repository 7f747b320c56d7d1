use Rattle.std.proofs.Common.{◌+◌, ◌≤◌, length, arith}
use Rattle.block_chain.proofs.LayoutLemmas.{lens_fit, length-free_blocks, AreSound-free_blocks}
use Rattle.block_chain.proofs.table.Chains.free.Goals as goal

-- the chains have no more blocks than there are links
chains_fit : (c : goal.After-len) → c.self.inside.holes.len + c.self.inside.returned.len ≤ length c.self.inside.next.items
chains_fit c = lens_fit c.self.inside.next.items c.self.inside.holes c.self.inside.returned c.self.invariant.hole_chain c.self.invariant.returned_chain c.self.invariant.once

pub overflow_add-result : goal.overflow_add-result
overflow_add-result c = omega (arith, chains_fit c, c.self.inside.next.ok.0)

pub overflow_add-result-2 : goal.overflow_add-result-2
overflow_add-result-2 c = omega (arith, chains_fit c, c.self.inside.next.ok.0)

pub returns-clause-count : goal.returns-clause-count
returns-clause-count c = rw (← c.self.view_is) (omega (arith, length-free_blocks c.self.inside.blocks c.self.inside.next.cap c.self.inside.next.items c.self.inside.holes c.self.inside.returned, c.self.inside.next.ok.0))

pub returns-clause-sound : goal.returns-clause-sound
returns-clause-sound c = rw (← c.self.view_is) (AreSound-free_blocks c.self.inside.blocks c.self.inside.next.cap c.self.inside.next.items c.self.inside.holes c.self.inside.returned c.self.invariant)
