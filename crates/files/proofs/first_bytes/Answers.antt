use Rattle.std.proofs.Common.{rules}
use Rattle.files.proofs.Bounds.{bounded}
use Rattle.files.proofs.first_bytes.Goals as goal

pub returns-clause-bytes : goal.returns-clause-bytes
returns-clause-bytes g c = rw c.truncate.ensures.items (bounded 16384 (g.R.Read.remaining c.args.reader) c.read_to_end.new.buf.items (search rules))
