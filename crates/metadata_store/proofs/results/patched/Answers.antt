use Rattle.std.proofs.Common.{◌≡◌, true}
use Rattle.serde_json.specs.View.{view}
use Rattle.metadata_store.specs.Store.{is_metadata}
use Rattle.metadata_store.proofs.Floats.{merge_whole, metadata_whole}
use Rattle.metadata_store.proofs.results.patched.Goals as goal

pub kept-requires : goal.kept-requires
kept-requires c =
    let right : is_metadata (view c.args.patch.now) ≡ true = cc in
    rw c.in_ok-merged.ensures (merge_whole (view c.args.stored.now) (view c.args.patch.now) c.requires (metadata_whole (view c.args.patch.now) right))
