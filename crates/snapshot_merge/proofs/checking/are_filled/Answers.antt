use Rattle.std.proofs.Common.{refl, sym, ◌∙◌, ap, arith}
use Rattle.std.specs.FinMap.{get}
use Rattle.vm_types.specs.Saved.{Saved}
use Rattle.snapshot_merge.proofs.Checked.{end_filled, first_kinds, next_filled, not_filled}
use Rattle.vm_outside.proofs.Passing.{same_more}
use Rattle.snapshot_merge.proofs.checking.are_filled.Goals as goal

pub loop-i-init : goal.loop-i-init
loop-i-init g c = record {
  room = c.requires.room;
  still = λ t. t;
  later = refl;
  same = λ t. record { saved = refl; calls = refl };
  rest = λ t given there. first_kinds given c.args.at c.args.count;
}

pub returns-in-loop-i-clause-filled : goal.returns-in-loop-i-clause-filled
returns-in-loop-i-clause-filled g c = λ t given there.
    let so_far = c.loop-i.invariant in
    not_filled (get (g.F.Files.known c.loop-i.files).saved c.args.name.now) given c.read_at.new.buf c.args.at _ c.args.count c.loop-i.i _
    (ap (λ (m : Saved). get m c.args.name.now) (so_far.same t).saved ∙ there) (c.in_ok-read_at.ensures.bytes (so_far.still t)) refl
    (c.read_at.auto.buf ∙ so_far.room) (omega (arith, c.loop-i-test.true)) c.is_filled.ensures c.if-is_filled.false
    ∙ so_far.rest t given there

pub loop-i-preserved : goal.loop-i-preserved
loop-i-preserved g c =
    let so_far = c.loop-i.invariant in
    record {
      room = c.read_at.auto.buf ∙ so_far.room;
      still = λ t. c.read_at.ensures.called.lasts.still (so_far.still t);
      later = so_far.later ∙ sym c.in_ok-read_at.ensures.called.kept;
      same = λ t. same_more _ _ _ (so_far.same t) (c.read_at.ensures.same (so_far.still t));
      rest = λ t given there.
          next_filled (get (g.F.Files.known c.loop-i.files).saved c.args.name.now) given c.read_at.new.buf c.args.at _ c.args.count c.loop-i.i _
          (ap (λ (m : Saved). get m c.args.name.now) (so_far.same t).saved ∙ there) (c.in_ok-read_at.ensures.bytes (so_far.still t)) refl
          (c.read_at.auto.buf ∙ so_far.room) (omega (arith, c.loop-i-test.true)) c.is_filled.ensures c.if-is_filled.true
          ∙ so_far.rest t given there;
    }

pub returns-clause-filled : goal.returns-clause-filled
returns-clause-filled g c = λ t given there.
    end_filled given c.args.at c.args.count c.loop-i.i (omega (arith, c.loop-i-test.false)) ∙ c.loop-i.invariant.rest t given there
