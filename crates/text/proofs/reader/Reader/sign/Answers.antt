use Rattle.text.proofs.Progress.{forward_bytes}
use Rattle.text.proofs.reader.Reader.sign.Goals as goal

pub since-bytes-requires : goal.since-bytes-requires
since-bytes-requires c = forward_bytes _ _ _ _ _ _ c.in_ok-spell.ensures.reads
