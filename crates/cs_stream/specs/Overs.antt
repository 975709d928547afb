-- What counted streams are over, their counts, and what a reader or a writer of std answered.
use Rattle.std.specs.Prelude.{ℕ, Result, Ok, Err}
use Rattle.std.specs.IoError.{error_kind}
use Rattle.std.specs.declared.io.Error.{Error}
use Rattle.std.specs.declared.io.ErrorKind.{ErrorKind}
use Rattle.std.specs.declared.io.ErrorKind.TheVariants as kind
use Rattle.cs_stream.specs.declared.counted.Counted.{Counted}
use Rattle.cs_stream.specs.declared.counted.TwoEnded.{TwoEnded}
use Rattle.cs_stream.specs.declared.stream.Counts.{Counts}
use Rattle.cs_stream.specs.declared.stream.Transfer.{Transfer}
use Rattle.cs_stream.specs.declared.stream.Transfer.TheVariants.{Bytes, Interrupted, Failed}

abbrev pub inner_of : {RW : Type 0} → Counted RW → RW
inner_of s = s.inner

abbrev pub counts_of : {RW : Type 0} → Counted RW → Counts
counts_of s = s.counts

abbrev pub reader_of : {R W : Type 0} → TwoEnded R W → R
reader_of s = s.reader

abbrev pub writer_of : {R W : Type 0} → TwoEnded R W → W
writer_of s = s.writer

abbrev pub ends_counts : {R W : Type 0} → TwoEnded R W → Counts
ends_counts s = s.counts

abbrev pub stopped_by : ErrorKind → Transfer
stopped_by kind.Interrupted = Interrupted
stopped_by _ = Failed

-- so many bytes; or none, if it was interrupted or failed
abbrev pub transfer_of : Result ℕ Error → Transfer
transfer_of (Ok count) = Bytes count
transfer_of (Err error) = stopped_by (error_kind error)
