use Rattle.std.proofs.Common.{◌≡◌, ℕ, ◌*◌, length, take, drop, ap, ◌∙◌, arith}
use Rattle.snap_restore.proofs.loading.load_pages.Goals as goal

pub read_pages-requires-clause-small : goal.read_pages-requires-clause-small
read_pages-requires-clause-small g c = let size = c.in-Ok-new.ensures.count in omega (arith, size, c.ranges.count)

pub returns-in-Ok-read_pages-clause-bytes : goal.returns-in-Ok-read_pages-clause-bytes
returns-in-Ok-read_pages-clause-bytes g c = λ t content there.
    let size : length c.in-Ok-new.pages.pages ≡ c.args.count = c.in-Ok-new.ensures.count in
    c.in-Ok-read_pages.ensures.bytes t content there ∙ ap (λ (k : ℕ). take (4096 * k) (drop c.args.at content)) size

pub returns-in-Ok-read_pages-clause-count : goal.returns-in-Ok-read_pages-clause-count
returns-in-Ok-read_pages-clause-count g c = c.read_pages.ensures.count ∙ c.in-Ok-new.ensures.count

pub returns-in-Ok-read_pages-clause-marks : goal.returns-in-Ok-read_pages-clause-marks
returns-in-Ok-read_pages-clause-marks g c = c.read_pages.ensures.marks ∙ c.in-Ok-new.ensures.marks
