use Rattle.std.proofs.Common.{length, inl}
use Rattle.site_disk.specs.BytesLaws.{torn_none}
use Rattle.host_disk.proofs.file.FileDiskDisk.write_at.Goals as goal

-- any bytes may be left, so each image is one that was there before
pub returns-in-Ok-clause-crash : goal.returns-in-Ok-clause-crash
returns-in-Ok-clause-crash c = record {
  earlier = λ f bytes lt image. tt;
  during = λ bytes image. inl tt;
  later = λ f bytes lt image. (bytes, tt, torn_none c.args.at (length c.args.piece.now) bytes);
}

pub returns-in-Err-clause-crash : goal.returns-in-Err-clause-crash
returns-in-Err-clause-crash c = record {
  earlier = λ f bytes lt image. tt;
  during = λ bytes image. inl tt;
  later = λ f bytes lt image. (bytes, tt, torn_none c.args.at (length c.args.piece.now) bytes);
}
