-- What stands on a disk after a sync, for the layers above.
use Rattle.std.proofs.Common.{◌≡◌, ℕ, ◌+◌, ◌<◌, ◌≤◌, List, arith, sym, subst, ◌∙◌}
use Rattle.site_disk.specs.Images.{Seen, IsSynced, OnlyAfter, Unchanged}

-- the eras behind the last one used have the same images, and that era has them too, as each disk keeps
abbrev pub CountsOn : Seen → Type 0
CountsOn disk = (f g : ℕ) (c : List ℕ) → disk.last ≤ f → disk.last < g → disk.images g c → disk.images f c

-- what is known of the eras after an era, in which the disk was used last, is known of all after that
pub synced_after : (disk : Seen) (e : ℕ) → CountsOn disk → disk.last ≤ e → OnlyAfter e disk.bytes disk.images → IsSynced disk
synced_after disk e counts le only = λ f c lt image. only (e + 1) c (omega arith) (counts (e + 1) f c (omega (arith, le)) lt image)

-- reads change none of it
pub synced_still : (old new : Seen) → CountsOn new → new.last ≤ old.last → IsSynced old → new.bytes ≡ old.bytes → Unchanged old.images new.images → IsSynced new
synced_still old new counts le synced same images = λ f c lt image. only_old f c lt image ∙ sym same
  where
    only_old : (f : ℕ) (c : List ℕ) → new.last < f → new.images f c → c ≡ old.bytes
    only_old f c lt image = synced (old.last + 1) c (omega arith) (images.back (old.last + 1) c (counts (old.last + 1) f c (omega (arith, le)) lt image))

-- what holds of the bytes then holds of each later image
pub in_each_image : (P : List ℕ → Type 0) (disk : Seen) → IsSynced disk → P disk.bytes → (f : ℕ) (c : List ℕ) → disk.last < f → disk.images f c → P c
in_each_image P disk synced is f c lt image = subst P (sym (synced f c lt image)) is
