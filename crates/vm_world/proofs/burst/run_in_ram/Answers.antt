use Rattle.std.proofs.Common.{◌≡◌, ℕ, ◌+◌, ◌-◌, ap, subst, ◌∙◌, arith}
use Rattle.vm_types.specs.declared.ids.ActorId.{ActorId}
use Rattle.guest_pages.specs.Made.{Spends}
use Rattle.guest_pages.proofs.Making.{code_stays, less_room, room_left, spends_less, spends_more}
use Rattle.hart_trace.specs.States.{fresh}
use Rattle.rv_supervisor.specs.declared.regs.Regs.{Regs}
use Rattle.vm_world.proofs.Bursting.{Makes, burst_counts, few_counted, makes_also, makes_from}
use Rattle.vm_world.proofs.burst.run_in_ram.Goals as goal
use Rattle.vm_world.proofs.burst.run_in_ram.Goals.{in-Some-frequent, in-None+in-Some-rare}

pub loop-left-preserved : goal.loop-left-preserved
loop-left-preserved c =
    let made : Makes c.loop-left.pages c.loop-left.pc c.loop-left.regs c.args.number c.loop-left.accesses c.match-frequent.accesses c.match-frequent.pc c.match-frequent.pages c.match-frequent.regs =
    elim c.match-frequent.branch [
      | in-Some-frequent w ↦ makes_also c.loop-left.pages c.frequent.new.pages c.match-frequent.pages c.loop-left.pc c.loop-left.regs c.frequent.new.regs c.match-frequent.regs
          c.args.number c.loop-left.accesses c.frequent.new.accesses c.match-frequent.accesses w.in-Some-frequent.next c.match-frequent.pc w.accesses-is w.pc-is w.pages-is w.regs-is
          (record {
            goes = w.in-Some-frequent.ensures.goes c.args.number;
            kept = c.frequent.ensures.kept;
            count = c.frequent.ensures.count;
            spends = spends_less 0 1 c.loop-left.pages c.frequent.new.pages (omega arith) c.frequent.ensures.spends;
          })
      | in-None+in-Some-rare w ↦
          let same = c.frequent.ensures.none w.in-None.is in
          makes_also c.loop-left.pages w.rare.new.pages c.match-frequent.pages c.loop-left.pc c.loop-left.regs w.rare.new.regs c.match-frequent.regs
          c.args.number c.loop-left.accesses w.count.new.accesses c.match-frequent.accesses w.count.result c.match-frequent.pc w.accesses-is w.pc-is w.pages-is w.regs-is
          (makes_from c.loop-left.pages c.frequent.new.pages w.rare.new.pages c.loop-left.pc c.loop-left.regs c.frequent.new.regs w.rare.new.regs c.args.number
          c.loop-left.accesses c.frequent.new.accesses w.count.new.accesses w.count.result same.0 same.1 same.2
          (record {
            goes = record { ended = w.in-Some-rare.ended; to = w.count.ensures.next; count = w.count.ensures.count; goes = w.in-Some-rare.ensures.goes };
            kept = w.rare.ensures.kept;
            count = w.rare.ensures.count;
            spends = w.rare.ensures.spends;
          }))
    ] in
    let before = c.loop-left.invariant.within in
    let next : (c.args.most - c.loop-left.left) + 1 ≡ c.args.most - (c.loop-left.left - 1) = omega (arith, before, c.loop-left-test.true) in
    let count : c.loop-left.regs.count ≡ c.args.regs.now.count = ap (λ (t : Regs). t.count) c.loop-left.invariant.kept in
    let few = few_counted c.loop-left.pages.pages c.match-frequent.pages.pages c.loop-left.pc c.loop-left.regs c.match-frequent.regs (ActorId.Hart c.args.number)
    c.loop-left.accesses c.match-frequent.accesses c.match-frequent.pc made.goes in
    let spent : Spends ((c.args.most - c.loop-left.left) + 1) c.args.pages.now c.match-frequent.pages =
    spends_more (c.args.most - c.loop-left.left) 1 c.args.pages.now c.loop-left.pages c.match-frequent.pages c.loop-left.invariant.spent made.spends in
    record {
      within = omega (arith, before);
      few = omega (arith, c.loop-left.invariant.few, few, next);
      kept = made.kept ∙ ap (λ (t : Regs). record t { x = c.match-frequent.regs.x }) c.loop-left.invariant.kept;
      code = code_stays c.fetch.new.code 1 c.loop-left.pages c.match-frequent.pages made.count made.spends c.fetch.ensures.code;
      gone = burst_counts c.args.pages.now.pages c.loop-left.pages.pages c.match-frequent.pages.pages (fresh c.args.regs.now) (ActorId.Hart c.args.number)
          (c.args.most - c.loop-left.left) (c.args.most - (c.loop-left.left - 1)) c.loop-left.accesses c.match-frequent.accesses c.loop-left.pc c.match-frequent.pc
          c.loop-left.regs c.match-frequent.regs next c.loop-left.invariant.gone (omega (arith, before, c.loop-left-test.true, c.requires.before_look, count))
          (ap (λ (t : Regs). t.turn) c.loop-left.invariant.kept ∙ c.requires.fetching) made.kept made.goes;
      many = made.count ∙ c.loop-left.invariant.many;
      spent = subst (λ (m : ℕ). Spends m c.args.pages.now c.match-frequent.pages) next spent;
      spends = subst (λ (m : ℕ). Spends (m + c.match-frequent.accesses) c.args.pages.now c.match-frequent.pages) next
          (spends_less ((c.args.most - c.loop-left.left) + 1) ((c.args.most - c.loop-left.left) + 1 + c.match-frequent.accesses) c.args.pages.now c.match-frequent.pages (omega arith) spent);
    }

pub rare-requires-clause-room : goal.rare-requires-clause-room
rare-requires-clause-room c =
    room_left 0 1 c.loop-left.pages c.frequent.new.pages
    (room_left (c.args.most - c.loop-left.left) 1 c.args.pages.now c.loop-left.pages
    (less_room ((c.args.most - c.loop-left.left) + 1) c.args.most c.args.pages.now (omega (arith, c.loop-left-test.true, c.loop-left.invariant.within)) c.requires.room)
    c.loop-left.invariant.spent)
    c.frequent.ensures.spends
