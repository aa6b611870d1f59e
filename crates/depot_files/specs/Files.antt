-- Where a report goes beside a file that is written.
use Rattle.std.specs.Prelude.{cond}
use Rattle.rules.specs.Bytes.{Bytes, same}
use Rattle.text.specs.Text.{ascii}
use Rattle.depot_files.specs.declared.streams.Streams.{Streams}

-- not to standard output where the file goes there
unfoldable pub report_streams : Bytes → Streams → Streams
report_streams name streams = cond (same name (ascii "-")) (record { out = streams.err; err = streams.err }) streams
