use Rattle.http_front.proofs.Held.{known_now, told_holds}
use Rattle.http_front.proofs.front.Front.feed.Goals as goal

pub look-self-inside-requires-clause-known : goal.look-self-inside-requires-clause-known
look-self-inside-requires-clause-known c =
    rw (c.deref.ensures.value, c.deref_mut.ensures.value, c.in_ok-put_behind.ensures.ok)
    (c.still.ensures _ _ _ (told_holds _ _ _ c.self.invariant.2))

pub invariant_of-self-2 : goal.invariant_of-self-2
invariant_of-self-2 c =
    known_now _ c.deref.result.now c.self.inside.spans.items c.deref_mut.result.now c.look-self-inside.new.spans _ c.look-self-inside.result
    c.deref.ensures.value c.self.invariant.1 c.look-self-inside.auto.spans c.deref_mut.ensures.value c.deref_mut.ensures.len c.look-self-inside.ensures
