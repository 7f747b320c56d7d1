use Rattle.std.proofs.Common.{◌≡◌, ◌*◌, length, take, vec_len, vec_capacity}
use Rattle.std.specs.List.{flat_map}
use Rattle.log_record.specs.Entry.{history_of}
use Rattle.log_record.specs.Layout.{spelling}
use Rattle.log_files.specs.Files.{FitFile}
use Rattle.log_scan.proofs.decoding.decode_all.Given as goal

abbrev pub invariant-loop-slot : goal.invariant-loop-slot
invariant-loop-slot l = record {
  count : length l.records.items ≡ l.slot;
  len : vec_len l.records ≡ l.slot;
  room : vec_capacity l.records ≡ l.count;
  fits : FitFile l.first (history_of l.records.items);
  spelled : take (128 * l.slot) l.bytes ≡ flat_map spelling (history_of l.records.items);
}
