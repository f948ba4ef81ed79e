use Rattle.std.proofs.Common.{◌≡◌, ℕ, ◌+◌, ◌*◌, ◌/◌, ◌++◌, Bool, List, length, take, drop, sym, ap, subst, ◌∙◌, arith}
use Rattle.std.proofs.lemmas.List.{take_at}
use Rattle.snap_writer.proofs.ByKind.{Kinded, kinds_more}
use Rattle.snap_writer.proofs.kinds.kinds_of.Goals as goal

pub loop-i-preserved : goal.loop-i-preserved
loop-i-preserved c =
    let bytes = c.args.pages.now in
    let i = c.loop-i.i in
    let out = c.copy_out.new.out in
    let behind : List ℕ = drop (length out) c.loop-i.page.items in
    let lent : length c.deref_mut.result.now ≡ 4096 = ap (λ (l : List ℕ). length l) c.deref_mut.ensures.value ∙ c.loop-i.invariant.room in
    let size : length out ≡ 4096 = c.copy_out.auto.out ∙ lent in
    let long : length out ≡ c.loop-i.page.len = omega (arith, size, c.loop-i.page.ok.0, c.loop-i.invariant.room) in
    let whole : take c.loop-i.page.len (out ++ behind) ≡ out = take_at out behind c.loop-i.page.len long in
    let page : c.deref.result.now ≡ take 4096 (drop (4096 * i) bytes) =
    c.deref.ensures.value ∙ whole ∙ c.copy_out.ensures ∙ ap (λ (k : ℕ). take k (drop (4096 * i) bytes)) lent in
    record {
      room = ap (λ (l : List ℕ). length l) whole ∙ size;
      so_far = subst (λ (l : List Bool). Kinded bytes (length bytes / 4096) (i + 1) l) (sym c.in_ok-push.ensures.items)
          (kinds_more bytes c.deref.result.now (length bytes / 4096) i c.loop-i.kinds.items c.is_filled.result c.loop-i.invariant.so_far
          (omega (arith, c.loop-i-test.true, c.len-i-end.ensures.len)) page c.is_filled.ensures);
    }
