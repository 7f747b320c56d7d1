use Rattle.std.proofs.Common.{◌≡◌, List, length, sym, ap, ◌∙◌, subst, length-set}
use Rattle.object_volume.specs.declared.volume.Volume.{Volume}
use Rattle.object_store.specs.Reading.{ChangesOne}
use Rattle.object_store.specs.Returns.{CanCancel, Cancels}
use Rattle.object_store.specs.Stores.{OfEach}
use Rattle.object_store.proofs.EndingLemmas.{written_back}
use Rattle.object_store.proofs.store.Store.cancel.Goals as goal

pub cancel_one-requires-clause-sends : goal.cancel_one-requires-clause-sends
cancel_one-requires-clause-sends g c =
    subst (λ (l : List (Volume g.row.D.Denot)). OfEach (λ place volume. place ≡ c.args.number → CanCancel g.D.Disk.is_modelled g.D.Disk.bytes volume) l) (sym c.deref_mut.ensures.value)
    c.requires.sends

pub returns-clause-one : goal.returns-clause-one
returns-clause-one g c =
    let old = c.args.self.now.volumes.items in
    let new = c.cancel_one.new.volumes in
    let one : ChangesOne Cancels c.args.number old new =
    subst (λ (l : List (Volume g.row.D.Denot)). ChangesOne Cancels c.args.number l new) c.deref_mut.ensures.value c.cancel_one.ensures in
    let back = written_back c.args.self.now.volumes new (ap length one.changed ∙ length-set old c.args.number one.is) in
    subst (λ (l : List (Volume g.row.D.Denot)). ChangesOne Cancels c.args.number old l) (sym back) one
