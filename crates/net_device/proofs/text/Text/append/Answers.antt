use Rattle.std.proofs.Common.{rules, arith, ◌≡◌, ◌<◌, ◌≤◌, ◌+◌, ◌-◌, ◌++◌, ◌∙◌, length, take, List, ℕ}
use Rattle.std.proofs.lemmas.Slice.{take-put_mid}
use Rattle.net_device.proofs.Headed.{headed_more, headed_same, put_long}
use Rattle.net_device.proofs.text.Text.append.Goals as goal

pub invariant_of-self : goal.invariant_of-self
invariant_of-self c =
    let own = c.self.invariant in
    let at : ℕ = c.self.inside.len in
    let end : ℕ = at + length c.as_slice-piece.result.now in
    let held : List ℕ = c.self.inside.bytes in
    let put : List ℕ = c.copy_from_slice.new.self in
    let some : 0 < length (take at held) = search rules in
    let long : length put ≡ length c.as_slice-piece.result.now = search rules in
    let inside : at + length c.as_slice-piece.result.now ≤ 1526 = search rules in
    let room : at ≤ length held = omega (arith, own.0, own.1) in
    let ends : end ≡ at + length put = omega (arith, long) in
    let most : at + (end - at) ≤ length held = omega (arith, inside, own.1) in
    let many : length put ≡ end - at = omega (arith, long) in (
      inside,
      put_long at (end - at) held put most many ∙ own.1,
      headed_same (take at held ++ put) _ (take-put_mid at (end - at) held put end ends room) (headed_more (take at held) put own.2 some),
    )

pub returns : goal.returns
returns c =
    let own = c.self.invariant in
    let at : ℕ = c.self.inside.len in
    let end : ℕ = at + length c.as_slice-piece.result.now in
    let held : List ℕ = c.self.inside.bytes in
    let put : List ℕ = c.copy_from_slice.new.self in
    let long : length put ≡ length c.as_slice-piece.result.now = search rules in
    let room : at ≤ length held = omega (arith, own.0, own.1) in
    let ends : end ≡ at + length put = omega (arith, long) in
    let same : take at held ++ put ≡ c.args.self.now ++ c.args.piece.now = search rules in
    take-put_mid at (end - at) held put end ends room ∙ same
