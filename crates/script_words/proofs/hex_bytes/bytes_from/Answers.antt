use Rattle.script_words.proofs.Hex.{pair_more}
use Rattle.script_words.proofs.hex_bytes.bytes_from.Goals as goal

pub loop-rest-preserved : goal.loop-rest-preserved
loop-rest-preserved c =
    pair_more c.loop-rest.bytes.items _ c.loop-rest.rest.now _ _ c.in-len2-up.len_at_least c.in_ok-push.ensures.items c.in-Some.ensures.byte c.loop-rest.invariant
